-- Scripts on stages that agree except for a match, with and without that match's instructions.
use Rattle.std.proofs.Common.{◌≡◌, ◌≢◌, ◌∙◌, ◌==◌, ℕ, Bool, true, false, cond, Option, List, [], ◌∷◌, ◌++◌, length}
use Rattle.std.proofs.Common.{refl, sym, ap, ap₂}
use Rattle.std.proofs.lemmas.Bool.{eqb-false, eq-eqb, ne_eqb}
use Rattle.bhs_model.specs.declared.events.Event.{Event}
use Rattle.bhs_rehearsal.specs.Games.{Game, drawn, delivered}
use Rattle.bhs_rehearsal.specs.Connections.{Connection}
use Rattle.bhs_rehearsal.specs.Stages.{Stage, game_at, connection_at, Instruction, Feeds, EndsInput, Draws, Delivers}
use Rattle.bhs_rehearsal.specs.Stages.{Closes, Stepped, step, sends}
use Rattle.bhs_theorems_isolation.specs.ScriptLaws.{plays_in, SameBut, HeardAlike, is_of_match, without}
use Rattle.bhs_theorems_isolation.specs.ScriptLaws.{MatchesAreHeardApart}
use Rattle.bhs_theorems_isolation.specs.ScriptLaws.{OtherMatchesAreNotHeard}
use Rattle.bhs_theorems_isolation.specs.Clients.{bytes_among, bytes_to}
use Rattle.bhs_theorems_isolation.proofs.CuttingLemmas.{by_bool}
use Rattle.bhs_theorems_isolation.proofs.TurnLemmas.{grown, ending, bare}
use Rattle.bhs_theorems_isolation.proofs.StepCases.{event_step}
use Rattle.bhs_theorems_isolation.proofs.OfMatchLemmas.{same_itself, plays_in_both, same_back, same_through}
use Rattle.bhs_theorems_isolation.proofs.OfMatchLemmas.{of_match, elsewhere_before, elsewhere_at_first}
use Rattle.bhs_theorems_isolation.proofs.AlikeLemmas.{Difference, StagesAlike, StepsAlike, client_alike, events_alike}
use Rattle.bhs_theorems_isolation.proofs.AlikeLemmas.{closes_alike}

-- two steps that leave stages the same but for a match, and are heard alike by who doesn't play in it
record HeardStep (game : ℕ) (one two : Stepped) : Type 0 where
  stage : SameBut game one.stage two.stage
  outs : (conn : ℕ) → plays_in game (connection_at one.stage conn) ≡ false
      → bytes_among conn one.outs ≡ bytes_among conn two.outs

-- ---- stages that agree except for a match in any state, and for its agents

not_elsewhere : (game : ℕ) → (game == game) ≡ false → ⊥
not_elsewhere game elsewhere = let here = eq-eqb game game refl in cc

abbrev anything : (game count : ℕ) → Difference
anything game count = record {
  total = count;
  game = game;
  Match = λ (one two : Game). Unit {0};
  Heard = λ (own : Option (ℕ × ℕ)). plays_in game (bare own) ≡ false;
  outside = refl;
  elsewhere = λ seat apart. ne_eqb seat.0 game apart;
  takes = λ agent one two items any. record { game = tt; same = λ elsewhere. absurd (not_elsewhere game elsewhere) };
}

module _ (game : ℕ) (one two : Stage) (alike : SameBut game one two) where
  abbrev by : Difference
  by = anything game (length one.games)

  are : StagesAlike by one two
  are = record {
    keys = alike.keys;
    count = refl;
    other_count = sym alike.count;
    games = λ number. record { other = alike.games number; itself = λ here. tt };
    seats = alike.seats;
    connections = alike.connections;
  }

  event_alike : (chosen : Game → Option Event) (number : ℕ) → number ≢ game → StepsAlike by
      (event_step one number (chosen (game_at one number))) (event_step two number (chosen (game_at two number)))
  event_alike chosen number apart = events_alike by one two are chosen number (λ here. absurd (apart here))

  elsewhere_by : (instruction : Instruction) → is_of_match game one instruction ≡ false
      → StepsAlike by (step one instruction) (step two instruction)
  elsewhere_by (Feeds conn bytes) elsewhere =
      client_alike by one two are conn (λ (connection : Connection). grown connection bytes) elsewhere
  elsewhere_by (EndsInput conn) elsewhere = client_alike by one two are conn ending elsewhere
  elsewhere_by (Draws number word) elsewhere =
      event_alike (λ (it : Game). drawn it word) number (eqb-false number game elsewhere)
  elsewhere_by (Delivers number agent) elsewhere =
      event_alike (λ (it : Game). delivered it agent) number (eqb-false number game elsewhere)
  elsewhere_by (Closes number) elsewhere =
      closes_alike by one two are number (λ here. absurd (eqb-false number game elsewhere here))

  elsewhere_alike : (instruction : Instruction) → is_of_match game one instruction ≡ false
      → HeardStep game (step one instruction) (step two instruction)
  elsewhere_alike instruction elsewhere =
      let steps = elsewhere_by instruction elsewhere in
      record {
        stage = record {
          keys = steps.stage.keys;
          count = steps.stage.count ∙ sym steps.stage.other_count;
          games = λ number. (steps.stage.games number).other;
          seats = steps.stage.seats;
          connections = steps.stage.connections;
        };
        outs = steps.outs;
      }

  of_match_both : (instruction : Instruction) → is_of_match game one instruction ≡ is_of_match game two instruction
  of_match_both (Feeds conn bytes) = plays_in_both game one two alike conn
  of_match_both (EndsInput conn) = plays_in_both game one two alike conn
  of_match_both (Draws number word) = refl
  of_match_both (Delivers number agent) = refl
  of_match_both (Closes number) = refl

  here_alike : (instruction : Instruction) → is_of_match game one instruction ≡ true
      → HeardStep game (step one instruction) (step two instruction)
  here_alike instruction here =
      let there = sym (of_match_both instruction) ∙ here in
      let first = of_match game one instruction here in
      let second = of_match game two instruction there in
      record {
        stage = same_through game (step one instruction).stage one (step two instruction).stage
            (same_back game one (step one instruction).stage first.same)
            (same_through game one two (step two instruction).stage alike second.same);
        outs = λ conn elsewhere.
            let before = elsewhere_before game one instruction conn elsewhere in
            first.outs conn before
            ∙ sym (second.outs conn
            (sym (plays_in_both game one two alike conn) ∙ before));
      }

  steps_alike : (instruction : Instruction) → HeardStep game (step one instruction) (step two instruction)
  steps_alike instruction =
      by_bool (is_of_match game one instruction)
      (λ (is : Bool). HeardStep game (step one instruction) (step two instruction))
      (here_alike instruction) (elsewhere_alike instruction)

-- ---- scripts

pub apart_lemma : MatchesAreHeardApart
apart_lemma game one two [] alike = record { stands = alike; sends = λ conn elsewhere. refl }
apart_lemma game one two (instruction ∷ script) alike =
    let done = steps_alike game one two alike instruction in
    let rest = apart_lemma game (step one instruction).stage (step two instruction).stage script done.stage in
    record {
      stands = rest.stands;
      sends = λ conn elsewhere.
          ap₂ (λ (first others : List ℕ). first ++ others)
          (done.outs conn (elsewhere_at_first game (step one instruction).stage script conn elsewhere))
          (rest.sends conn elsewhere);
    }

-- The first stage runs the whole script, the second one only the instructions for other matches.
without_alike : (game : ℕ) (one two : Stage) (script : List Instruction) → SameBut game one two
    → HeardAlike game one script two (without game one script)
without_alike game one two [] alike = record { stands = alike; sends = λ conn elsewhere. refl }
without_alike game one two (instruction ∷ script) alike =
    let after = (step one instruction).stage in
    let rest = without game after script in
    by_bool (is_of_match game one instruction)
    (λ (is : Bool). HeardAlike game one (instruction ∷ script) two (cond is rest (instruction ∷ rest)))
    (λ here.
    let later = without_alike game after two script
    (same_through game after one two (same_back game one after (of_match game one instruction here).same) alike) in
    record {
      stands = later.stands;
      sends = λ conn elsewhere.
          ap (λ (sent : List ℕ). sent ++ bytes_to conn (sends after script))
          ((of_match game one instruction here).outs conn
          (elsewhere_before game one instruction conn (elsewhere_at_first game after script conn elsewhere)))
          ∙ later.sends conn elsewhere;
    })
    (λ elsewhere_first.
    let done = elsewhere_alike game one two alike instruction elsewhere_first in
    let later = without_alike game after (step two instruction).stage script done.stage in
    record {
      stands = later.stands;
      sends = λ conn elsewhere.
          ap₂ (λ (sent others : List ℕ). sent ++ others)
          (done.outs conn (elsewhere_at_first game after script conn elsewhere)) (later.sends conn elsewhere);
    })

pub unheard_lemma : OtherMatchesAreNotHeard
unheard_lemma game stage script = without_alike game stage stage script (same_itself game stage)
