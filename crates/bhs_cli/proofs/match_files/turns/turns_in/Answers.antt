use Rattle.std.proofs.Common.{◌≡◌, ◌∙◌, ℕ, List, [], ◌∷◌, ◌++◌, sym, ap, subst, arith}
use Rattle.std.proofs.lemmas.Grind.{common_steps}
use Rattle.bhs_cli.specs.Turns.{IsRefusedText, turns_text}
use Rattle.bhs_cli.specs.declared.reporting.faults.Fault.{Fault}
use Rattle.bhs_cli.proofs.TurnsLemmas.{continues, one_read, unended}
use Rattle.bhs_cli.proofs.match_files.turns.turns_in.Goals as goal

pub returns-in_default-2-clause-refused : goal.returns-in_default-2-clause-refused
returns-in_default-2-clause-refused c =
    let (line, is) = c.wrong_line.ensures in
    subst (λ (fault : Fault). IsRefusedText c.args.text.now fault) (sym is)
    (λ of.
    let on = continues c.in-Some.line.now c.in-Some.more.now c.loop-line.after.now c.in-Some.ensures.0
    c.in-Some.ensures.1 (c.loop-line.invariant.left of) in
    (rw c.in_default-2.is at c.in_ok-turn.ensures) on.turn on.small on.spelled)

pub loop-line-preserved : goal.loop-line-preserved
loop-line-preserved c = record {
  so_far =
      let grown : c.push.new.self.items ≡ c.loop-line.turns.items ++ c.in-Some-2.turn ∷ [] =
      grind (arith, common_steps) in
      ap (λ (turns : List ℕ). turns_text turns ++ c.in-Some.more.now) grown
      ∙ one_read c.loop-line.turns.items c.in-Some-2.turn c.in-Some.line.now c.in-Some.more.now c.loop-line.after.now
      c.args.text.now (rw c.in-Some-2.is at c.in_ok-turn.ensures) c.in-Some.ensures.0 c.loop-line.invariant.so_far;
  left = λ of. (continues c.in-Some.line.now c.in-Some.more.now c.loop-line.after.now c.in-Some.ensures.0
      c.in-Some.ensures.1 (c.loop-line.invariant.left of)).others;
}

pub returns-else-is_empty-clause-refused : goal.returns-else-is_empty-clause-refused
returns-else-is_empty-clause-refused c =
    let (line, is) = c.wrong_line-else-is_empty.ensures in
    subst (λ (fault : Fault). IsRefusedText c.args.text.now fault) (sym is)
    (λ of. let none : c.loop-line.after.now ≡ [] =
    unended c.loop-line.after.now c.in_default.ensures (c.loop-line.invariant.left of) in
    grind (arith, common_steps))
