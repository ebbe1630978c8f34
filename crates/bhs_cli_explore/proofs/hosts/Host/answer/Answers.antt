use Rattle.std.proofs.Common.{ℕ, ◌∙◌, sym, refl, subst, List, [], ◌∷◌, ◌++◌, append_assoc}
use Rattle.bhs_cli_explore.specs.declared.hosts.Does.{Does}
use Rattle.bhs_cli_explore.specs.HostAnswers.{IsAnswer, IsNumbered, word_of}
use Rattle.bhs_cli_explore.proofs.HostLemmas.{replied, takes_both}
use Rattle.bhs_cli_explore.proofs.hosts.Host.answer.Goals.{in-Says+in_ok-command-in-Says, in-Sleeps}
use Rattle.bhs_cli_explore.proofs.hosts.Host.answer.Goals.{in-Stops, in-Fails}
use Rattle.bhs_cli_explore.proofs.hosts.Host.answer.Goals as goal

pub returns : goal.returns
returns g c =
    let first : List ℕ = c.in_ok-line.line.items in
    let memory : ℕ = c.in-Some.memory in
    let number : IsNumbered first memory (word_of c.in-Some.does) =
    subst (λ (text : List ℕ). IsNumbered text memory (word_of c.in-Some.does)) c.deref.ensures.value
    c.in-Some.ensures in
    let one : List ℕ = first ++ 10 ∷ [] in
    elim c.match-does.branch [
      | in-Says+in_ok-command-in-Says w ↦
          let command = w.in_ok-command-in-Says.ensures.command in
          let took = takes_both g.R.Input.gives _ c.line.new.self w.command.new.self one (command.said ++ 10 ∷ [])
          c.in_ok-line.ensures.line command.takes in
          replied g.R.Input.gives g.W.Output.takes g.W.Output.flushes c.args.self.now _ w.command.new.self
          c.match-does.self c.args.question.now (one ++ (command.said ++ 10 ∷ [])) c.send.new.writer memory
          c.match-does.step c.in_ok-send.ensures.ok c.in_ok-finish.ensures.ok refl refl took
          (w.command.ensures.writer ∙ c.line.ensures.writer) w.self-is
          (subst (IsAnswer (one ++ (command.said ++ 10 ∷ [])) memory) (sym w.step-is) (
            first,
            command.said,
            subst (λ (d : Does). IsNumbered first memory (word_of d)) w.in-Says.is number,
            command.means,
            append_assoc first (10 ∷ []) (command.said ++ 10 ∷ []),
          ))
      | in-Sleeps w ↦
          replied g.R.Input.gives g.W.Output.takes g.W.Output.flushes c.args.self.now _ c.line.new.self
          c.match-does.self c.args.question.now one c.send.new.writer memory c.match-does.step
          c.in_ok-send.ensures.ok c.in_ok-finish.ensures.ok refl refl c.in_ok-line.ensures.line c.line.ensures.writer
          w.self-is (subst (IsAnswer one memory) (sym w.step-is)
          (first, subst (λ (d : Does). IsNumbered first memory (word_of d)) w.in-Sleeps.is number, refl))
      | in-Stops w ↦
          replied g.R.Input.gives g.W.Output.takes g.W.Output.flushes c.args.self.now _ c.line.new.self
          c.match-does.self c.args.question.now one c.send.new.writer memory c.match-does.step
          c.in_ok-send.ensures.ok c.in_ok-finish.ensures.ok refl refl c.in_ok-line.ensures.line c.line.ensures.writer
          w.self-is (subst (IsAnswer one memory) (sym w.step-is)
          (first, subst (λ (d : Does). IsNumbered first memory (word_of d)) w.in-Stops.is number, refl))
      | in-Fails w ↦
          replied g.R.Input.gives g.W.Output.takes g.W.Output.flushes c.args.self.now _ c.line.new.self
          c.match-does.self c.args.question.now one c.send.new.writer memory c.match-does.step
          c.in_ok-send.ensures.ok c.in_ok-finish.ensures.ok refl refl c.in_ok-line.ensures.line c.line.ensures.writer
          w.self-is (subst (IsAnswer one memory) (sym w.step-is)
          (first, subst (λ (d : Does). IsNumbered first memory (word_of d)) w.in-Fails.is number, refl))
    ]
