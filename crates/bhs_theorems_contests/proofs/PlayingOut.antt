-- What a session met is what its client's strategy says, one after the other.
use Rattle.std.proofs.Common.{ℕ, ◌≤◌, ◌≡◌, ◌∙◌, Bool, true, false, List, [], ◌∷◌, ◌++◌, length, nat_lt, nat_le}
use Rattle.std.proofs.Common.{map, refl, sym, ap, inl, inr, subst, arith, append_assoc, if◌then◌else◌, bytes_eq}
use Rattle.std.proofs.lemmas.Bool.{cond-true}
use Rattle.bhs_model.specs.declared.commands.Command.{Command}
use Rattle.bhs_model.specs.declared.commands.Command.TheVariants.{Enter, Look, Write, Depart, Accuse, Leave, Bad}
use Rattle.bhs_model.specs.declared.replies.Reply.{Reply}
use Rattle.bhs_model.specs.declared.replies.Reply.TheVariants.{Written, Changed, Gone, Noted, Over, No}
use Rattle.bhs_model.specs.declared.replies.Why.TheVariants.{Long, Port}
use Rattle.bhs_model.specs.Views.{View, Glance, Nothing, Saw, Seen, Standing, Outside, Present, Away, Ended, standing}
use Rattle.bhs_model.specs.Views.{ports}
use Rattle.bhs_model.specs.Replying.{answer, sight_answer, text}
use Rattle.bhs_model.proofs.LegalLemmas.{either}
use Rattle.bhs_shared_match.specs.Passes.{kept_command}
use Rattle.bhs_session.specs.Texts.{command_of, text_of}
use Rattle.bhs_wire.specs.Lines.{lines}
use Rattle.bhs_world.specs.Tables.{is_of_board}
use Rattle.bhs_schedules.specs.declared.answers.Step.{Step}
use Rattle.bhs_schedules.specs.declared.answers.Step.TheVariants.{Says, Sleeps, Stops, Fails}
use Rattle.bhs_schedules.specs.Strategies.{History, Observation, Heard, Woke, Strategy}
use Rattle.bhs_theorems_isolation.specs.Met.{Meeting, Hears, Refuses, Arrives, past_after, answer_to, bytes_from}
use Rattle.bhs_theorems_isolation.specs.Met.{takes_commands}
use Rattle.bhs_theorems_isolation.specs.Met.{IsDue, AreDue}
use Rattle.bhs_theorems_isolation.specs.ContestMet.{AreSaid}
use Rattle.bhs_theorems_contests.proofs.Doings.{Doing, Naps, Meets, met_in, IsBy, IsOdd, Terms, Follows}
use Rattle.bhs_theorems_contests.proofs.Spelling.{commands_said, reply_read, some_text}
use Rattle.bhs_theorems_contests.proofs.Talking.{IsOwn, Speaks}
use Rattle.bhs_agents.specs.WakeUps.{wake_ups_in}
use Rattle.bhs_theorems_contests.proofs.Plain.{IsWhole, ArePlain}

-- ---- the command that a pass keeps

-- a pass that keeps a command whole keeps the one that was said
kept_same : (command own : Command) (reply : Reply) → IsWhole command reply
    → kept_command command reply ≡ kept_command own reply → command ≡ own
kept_same (Write expect put) (Write also other) reply whole same =
    sym (cond-true (is_of_board reply) (Write expect put) (Write [] []) whole) ∙ same
    ∙ cond-true (is_of_board reply) (Write also other) (Write [] []) whole
kept_same (Write expect put) Enter reply whole same = sym (cond-true _ (Write expect put) (Write [] []) whole) ∙ same
kept_same (Write expect put) Look reply whole same = sym (cond-true _ (Write expect put) (Write [] []) whole) ∙ same
kept_same (Write expect put) (Depart port) reply whole same =
    sym (cond-true _ (Write expect put) (Write [] []) whole) ∙ same
kept_same (Write expect put) (Accuse port) reply whole same =
    sym (cond-true _ (Write expect put) (Write [] []) whole) ∙ same
kept_same (Write expect put) Leave reply whole same = sym (cond-true _ (Write expect put) (Write [] []) whole) ∙ same
kept_same (Write expect put) Bad reply whole same = sym (cond-true _ (Write expect put) (Write [] []) whole) ∙ same
kept_same Enter Enter reply whole same = same
kept_same Enter Look reply whole same = same
kept_same Enter (Depart gate) reply whole same = same
kept_same Enter (Accuse gate) reply whole same = same
kept_same Enter Leave reply whole same = same
kept_same Enter Bad reply whole same = same
kept_same Enter (Write also other) reply whole same = absurd (no_write (is_of_board reply) also other same)
  where
    no_write : (b : Bool) (also other : List ℕ) → Enter ≡ (if b then Write also other else Write [] []) → ⊥
    no_write true also other e = cc
    no_write false also other e = cc
kept_same Look Enter reply whole same = same
kept_same Look Look reply whole same = same
kept_same Look (Depart gate) reply whole same = same
kept_same Look (Accuse gate) reply whole same = same
kept_same Look Leave reply whole same = same
kept_same Look Bad reply whole same = same
kept_same Look (Write also other) reply whole same = absurd (no_write (is_of_board reply) also other same)
  where
    no_write : (b : Bool) (also other : List ℕ) → Look ≡ (if b then Write also other else Write [] []) → ⊥
    no_write true also other e = cc
    no_write false also other e = cc
kept_same (Depart port) Enter reply whole same = same
kept_same (Depart port) Look reply whole same = same
kept_same (Depart port) (Depart gate) reply whole same = same
kept_same (Depart port) (Accuse gate) reply whole same = same
kept_same (Depart port) Leave reply whole same = same
kept_same (Depart port) Bad reply whole same = same
kept_same (Depart port) (Write also other) reply whole same = absurd (no_write (is_of_board reply) also other same)
  where
    no_write : (b : Bool) (also other : List ℕ) → (Depart port) ≡ (if b then Write also other else Write [] []) → ⊥
    no_write true also other e = cc
    no_write false also other e = cc
kept_same (Accuse port) Enter reply whole same = same
kept_same (Accuse port) Look reply whole same = same
kept_same (Accuse port) (Depart gate) reply whole same = same
kept_same (Accuse port) (Accuse gate) reply whole same = same
kept_same (Accuse port) Leave reply whole same = same
kept_same (Accuse port) Bad reply whole same = same
kept_same (Accuse port) (Write also other) reply whole same = absurd (no_write (is_of_board reply) also other same)
  where
    no_write : (b : Bool) (also other : List ℕ) → (Accuse port) ≡ (if b then Write also other else Write [] []) → ⊥
    no_write true also other e = cc
    no_write false also other e = cc
kept_same Leave Enter reply whole same = same
kept_same Leave Look reply whole same = same
kept_same Leave (Depart gate) reply whole same = same
kept_same Leave (Accuse gate) reply whole same = same
kept_same Leave Leave reply whole same = same
kept_same Leave Bad reply whole same = same
kept_same Leave (Write also other) reply whole same = absurd (no_write (is_of_board reply) also other same)
  where
    no_write : (b : Bool) (also other : List ℕ) → Leave ≡ (if b then Write also other else Write [] []) → ⊥
    no_write true also other e = cc
    no_write false also other e = cc
kept_same Bad Enter reply whole same = same
kept_same Bad Look reply whole same = same
kept_same Bad (Depart gate) reply whole same = same
kept_same Bad (Accuse gate) reply whole same = same
kept_same Bad Leave reply whole same = same
kept_same Bad Bad reply whole same = same
kept_same Bad (Write also other) reply whole same = absurd (no_write (is_of_board reply) also other same)
  where
    no_write : (b : Bool) (also other : List ℕ) → Bad ≡ (if b then Write also other else Write [] []) → ⊥
    no_write true also other e = cc
    no_write false also other e = cc

-- ---- no answer to a command says that the match is over

abbrev IsOther : Reply → Type 0
IsOther Over = ⊥
IsOther reply = Unit {0}

sight_other : (limit : ℕ) (command : Command) (glance : Glance) → IsOther (sight_answer limit command glance)
sight_other limit (Write expect put) (Saw (Seen ports came last_write)) =
    either IsOther (nat_le (length put) limit)
    (if bytes_eq (text limit last_write) expect then Written else Changed (text limit last_write)) (No Long)
    (either IsOther (bytes_eq (text limit last_write) expect) Written (Changed (text limit last_write)) tt tt) tt
sight_other limit Enter (Saw (Seen ports came last_write)) = tt
sight_other limit Look (Saw (Seen ports came last_write)) = tt
sight_other limit (Depart port) (Saw (Seen ports came last_write)) = tt
sight_other limit (Accuse port) (Saw (Seen ports came last_write)) = tt
sight_other limit Leave (Saw (Seen ports came last_write)) = tt
sight_other limit Bad (Saw (Seen ports came last_write)) = tt
sight_other limit (Write expect put) Nothing = tt
sight_other limit command Nothing = grind arith

answer_other : (limit : ℕ) (standing : Standing) (ports : ℕ) (command : Command) (glance : Glance)
    → IsOther (answer limit standing ports command glance)
answer_other limit standing ports Leave glance = tt
answer_other limit Away ports (Depart port) glance = tt
answer_other limit Outside ports (Depart port) glance = either IsOther (nat_lt port ports) Gone (No Port) tt tt
answer_other limit Present ports (Depart port) glance = either IsOther (nat_lt port ports) Gone (No Port) tt tt
answer_other limit Ended ports (Depart port) glance = either IsOther (nat_lt port ports) Gone (No Port) tt tt
answer_other limit Away ports (Accuse port) glance = tt
answer_other limit Outside ports (Accuse port) glance = either IsOther (nat_lt port ports) Noted (No Port) tt tt
answer_other limit Present ports (Accuse port) glance = either IsOther (nat_lt port ports) Noted (No Port) tt tt
answer_other limit Ended ports (Accuse port) glance = either IsOther (nat_lt port ports) Noted (No Port) tt tt
answer_other limit Away ports Bad glance = tt
answer_other limit Outside ports Bad glance = tt
answer_other limit Present ports Bad glance = tt
answer_other limit Ended ports Bad glance = tt
answer_other limit Away ports Enter glance = tt
answer_other limit Outside ports Enter glance = sight_other limit Enter glance
answer_other limit Present ports Enter glance = sight_other limit Enter glance
answer_other limit Ended ports Enter glance = sight_other limit Enter glance
answer_other limit Away ports Look glance = tt
answer_other limit Outside ports Look glance = sight_other limit Look glance
answer_other limit Present ports Look glance = sight_other limit Look glance
answer_other limit Ended ports Look glance = sight_other limit Look glance
answer_other limit Away ports (Write expect put) glance = tt
answer_other limit Outside ports (Write expect put) glance = sight_other limit (Write expect put) glance
answer_other limit Present ports (Write expect put) glance = sight_other limit (Write expect put) glance
answer_other limit Ended ports (Write expect put) glance = sight_other limit (Write expect put) glance

-- a command's reply differs from Over
not_over : (reply other : Reply) → IsOther other → reply ≡ other → reply ≡ Over → ⊥
not_over reply other is same over = subst IsOther (sym same ∙ over) is

-- ---- an agent that plays

module _ (strategy : Strategy) (key : List ℕ) (terms : Terms) (last : List ℕ) where
  -- the agent's strategy may have met this, with wake-ups in between
  pub record IsOut (history : History) (view : View) (met : List Meeting) : Type 0 where
    pub doings : List Doing
    pub same : met_in doings ≡ met
    pub follows : Follows strategy terms history view doings

  only : List Meeting → List Doing
  only [] = []
  only (meeting ∷ met) = Meets meeting ∷ only met

  only_met : (met : List Meeting) → met_in (only met) ≡ met
  unfolding only
  only_met [] = refl
  only_met (meeting ∷ met) = ap (λ (rest : List Meeting). meeting ∷ rest) (only_met met)

  -- an agent that stands oddly
  oddly : (history : History) (view : View) (meeting : Meeting) (met : List Meeting)
      → IsOdd (standing view) (strategy history) → IsOut history view (meeting ∷ met)
  oddly history view meeting met odd = record {
    doings = Meets meeting ∷ only met;
    same = ap (λ (rest : List Meeting). meeting ∷ rest) (only_met met);
    follows = inr odd;
  }

  -- one that meets what its strategy says
  plays : (history : History) (view : View) (meeting : Meeting) (met : List Meeting)
      → IsBy (strategy history) meeting → IsDue terms.quota view meeting
      → IsOut (Heard (answer_to terms.board view meeting) ∷ history) (past_after view meeting) met
      → IsOut history view (meeting ∷ met)
  plays history view meeting met by due rest = record {
    doings = Meets meeting ∷ rest.doings;
    same = ap (λ (others : List Meeting). meeting ∷ others) rest.same;
    follows = inl (by, due, rest.follows);
  }

  -- one that wakes
  napping : (history : History) (view : View) (meeting : Meeting) (met : List Meeting) → strategy history ≡ Sleeps
      → (wake_ups_in history).in_a_row ≤ terms.wakeups → IsDue terms.quota view meeting
      → IsOut (Woke ∷ history) view (meeting ∷ met) → IsOut history view (meeting ∷ met)
  napping history view (Hears command seen) met sleeps few due rest = record {
    doings = Naps ∷ rest.doings;
    same = rest.same;
    follows = inl (sleeps, few, due.0, rest.follows);
  }
  napping history view (Refuses command) met sleeps few due rest = record {
    doings = Naps ∷ rest.doings;
    same = rest.same;
    follows = inl (sleeps, few, due.0, rest.follows);
  }
  napping history view (Arrives sight) met sleeps few due rest =
      oddly history view (Arrives sight) met (inl (due, λ stops. awake (sym sleeps ∙ stops)))
    where
      awake : Sleeps ≡ Stops → ⊥
      awake e = cc

  -- The agent hears a reply to a command. `rest` continues with what comes then.
  hears_command : (history : History) (view : View) (meeting : Meeting) (met : List Meeting)
      (own more : List ℕ) (said : List ℕ) (first : Command) (others : List Command) (reply : Reply)
      → takes_commands (standing view) ≡ true → (reply ≡ Over → ⊥) → (step : Step) → strategy history ≡ step
      → IsOwn key reply step own → said ≡ own ++ more → first ∷ others ≡ map command_of (lines said)
      → (strategy history ≡ Says first → others ≡ map command_of (lines more) → IsOut history view (meeting ∷ met))
      → IsOut history view (meeting ∷ met)
  hears_command history view meeting met own more said first others reply takes not_end (Says command) is spoken said_is
      lines_are rest =
      let all : first ∷ others ≡ command ∷ map command_of (lines more) =
      lines_are ∙ ap (λ (bytes : List ℕ). map command_of (lines bytes))
      (said_is ∙ ap (λ (bytes : List ℕ). bytes ++ more) spoken.is)
      ∙ commands_said key spoken.line more command spoken.is_line in
      let same : command ≡ first = cc in
      rest (is ∙ ap Says same) (cc)
  hears_command history view meeting met own more said first others reply takes not_end Stops is spoken said_is
      lines_are rest = oddly history view meeting met (inr (takes, is))
  hears_command history view meeting met own more said first others reply takes not_end Sleeps is spoken said_is
      lines_are rest = absurd (not_end spoken.1)
  hears_command history view meeting met own more said first others reply takes not_end Fails is spoken said_is
      lines_are rest = absurd spoken

  hears_arrival : (history : History) (view : View) (meeting : Meeting) (met : List Meeting)
      (own more : List ℕ) (said : List ℕ) (reply : Reply) → standing view ≡ Away → (step : Step)
      → strategy history ≡ step → IsOwn key reply step own → said ≡ own ++ more
      → (said ≡ more → IsOut history view (meeting ∷ met)) → IsOut history view (meeting ∷ met)
  hears_arrival history view meeting met own more said reply away (Says command) is spoken said_is rest =
      oddly history view meeting met (inl (away, λ stops. talks (sym is ∙ stops)))
    where
      talks : Says command ≡ Stops → ⊥
      talks e = cc
  hears_arrival history view meeting met own more said reply away Stops is spoken said_is rest =
      rest (said_is ∙ ap (λ (bytes : List ℕ). bytes ++ more) spoken)
  hears_arrival history view meeting met own more said reply away Sleeps is spoken said_is rest =
      oddly history view meeting met (inl (away, λ stops. awake (sym is ∙ stops)))
    where
      awake : Sleeps ≡ Stops → ⊥
      awake e = cc
  hears_arrival history view meeting met own more said reply away Fails is spoken said_is rest = absurd spoken

  pub playing_out : (items : List Observation) (history : History) (view : View) (met : List Meeting)
      (said heard : List ℕ) (commands left : List Command) → Speaks terms.wakeups strategy key history items said heard
      → heard ≡ bytes_from terms.board view met ++ last → AreDue terms.quota view met
      → AreSaid terms.board view met commands → commands ++ left ≡ map command_of (lines said)
      → ArePlain terms.quota terms.board view met → IsOut history view met
  playing_out items history view [] said heard commands left speaks_it met_is due are_said lines_are plain = record {
    doings = [];
    same = refl;
    follows = tt;
  }
  playing_out [] history view (meeting ∷ met) said heard commands left speaks_it met_is due are_said lines_are plain =
      absurd (some_text (answer_to terms.board view meeting)
      (bytes_from terms.board (past_after view meeting) met ++ last)
      (sym speaks_it.1 ∙ met_is ∙ append_assoc (text_of (answer_to terms.board view meeting)) _ last))
  playing_out (Woke ∷ items) history view (meeting ∷ met) said heard commands left speaks_it met_is due are_said
      lines_are plain =
      napping history view meeting met speaks_it.0 speaks_it.1 due.0
      (playing_out items (Woke ∷ history) view (meeting ∷ met) said heard commands left speaks_it.2 met_is due
      are_said lines_are plain)
  playing_out (Heard reply ∷ items) history view (Hears command seen ∷ met) said heard [] left speaks_it met_is due
      are_said lines_are plain = absurd are_said
  playing_out (Heard reply ∷ items) history view (Hears command seen ∷ met) said heard (own ∷ commands) left speaks_it
      met_is due are_said lines_are plain =
      let meeting : Meeting = Hears command seen in
      let answer_is : Reply = answer_to terms.board view meeting in
      let read = reply_read speaks_it.line speaks_it.rest
      (bytes_from terms.board (past_after view meeting) met ++ last)
      reply answer_is plain.0.0 speaks_it.flat speaks_it.reads
      (sym speaks_it.heard_is ∙ met_is ∙ append_assoc (text_of answer_is) _ last) in
      let is : command ≡ own = kept_same command own answer_is (plain.0.1 due.0) are_said.0 in
      hears_command history view meeting met speaks_it.own speaks_it.more said own (commands ++ left) reply due.0.0
      (not_over reply answer_is (answer_other terms.board (standing view) (ports view) command seen) read.same)
      (strategy history) refl speaks_it.is_own speaks_it.said_is lines_are
      (λ says behind. plays history view meeting met (says ∙ ap Says (sym is)) due.0
      (playing_out items (Heard answer_is ∷ history) (past_after view meeting) met speaks_it.more speaks_it.rest
      commands left
      (subst (λ (r : Reply). Speaks terms.wakeups strategy key (Heard r ∷ history) items speaks_it.more speaks_it.rest)
      read.same speaks_it.others) read.others due.1 are_said.1 behind plain.1))
  playing_out (Heard reply ∷ items) history view (Refuses command ∷ met) said heard [] left speaks_it met_is due
      are_said lines_are plain = absurd are_said
  playing_out (Heard reply ∷ items) history view (Refuses command ∷ met) said heard (own ∷ commands) left speaks_it
      met_is due are_said lines_are plain =
      let meeting : Meeting = Refuses command in
      let answer_is : Reply = answer_to terms.board view meeting in
      let read = reply_read speaks_it.line speaks_it.rest (bytes_from terms.board view met ++ last)
      reply answer_is plain.0.0 speaks_it.flat speaks_it.reads
      (sym speaks_it.heard_is ∙ met_is ∙ append_assoc (text_of answer_is) _ last) in
      hears_command history view meeting met speaks_it.own speaks_it.more said own (commands ++ left) reply due.0.0
      (not_over reply answer_is tt read.same)
      (strategy history) refl speaks_it.is_own speaks_it.said_is lines_are
      (λ says behind. plays history view meeting met (says ∙ ap Says (sym are_said.0)) due.0
      (playing_out items (Heard answer_is ∷ history) view met speaks_it.more speaks_it.rest commands left
      (subst (λ (r : Reply). Speaks terms.wakeups strategy key (Heard r ∷ history) items speaks_it.more speaks_it.rest)
      read.same speaks_it.others) read.others due.1 are_said.1 behind plain.1))
  playing_out (Heard reply ∷ items) history view (Arrives sight ∷ met) said heard commands left speaks_it met_is due
      are_said lines_are plain =
      let meeting : Meeting = Arrives sight in
      let answer_is : Reply = answer_to terms.board view meeting in
      let read = reply_read speaks_it.line speaks_it.rest
      (bytes_from terms.board (past_after view meeting) met ++ last)
      reply answer_is plain.0.0 speaks_it.flat speaks_it.reads
      (sym speaks_it.heard_is ∙ met_is ∙ append_assoc (text_of answer_is) _ last) in
      hears_arrival history view meeting met speaks_it.own speaks_it.more said reply due.0
      (strategy history) refl speaks_it.is_own speaks_it.said_is
      (λ silent. plays history view meeting met tt due.0
      (playing_out items (Heard answer_is ∷ history) (past_after view meeting) met speaks_it.more speaks_it.rest
      commands left
      (subst (λ (r : Reply). Speaks terms.wakeups strategy key (Heard r ∷ history) items speaks_it.more speaks_it.rest)
      read.same speaks_it.others) read.others due.1 are_said
      (lines_are ∙ ap (λ (bytes : List ℕ). map command_of (lines bytes)) silent) plain.1))
