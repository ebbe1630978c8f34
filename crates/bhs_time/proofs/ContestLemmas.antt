-- Non-interference in time: a match of a contest behaves as it does alone, with equal turns.
use Rattle.std.proofs.Common.{ℕ, ◌≡◌, Bool, true, false, List, [], ◌∷◌, ◌==◌, if◌then◌else◌, refl, sym, ap, ◌∙◌}
use Rattle.std.proofs.lemmas.Bool.{eqb-true}
use Rattle.bhs_model.specs.Runs.{changed}
use Rattle.bhs_time.specs.TimedRuns.{TimedState, timed_initial, TimedAct, timed_run_from}
use Rattle.bhs_time.specs.Contests.{TimedSetup, TimedHappening, acts_of, next_one, contest_from, MatchesAreApartInTime}

abbrev run_one : TimedSetup → TimedState → List TimedAct → TimedState
run_one terms timed acts = timed_run_from terms.world terms.held terms.schedule timed acts

contest_state : (terms : ℕ → TimedSetup) (states : ℕ → TimedState) (happenings : List TimedHappening) (game : ℕ) →
    contest_from terms states happenings game ≡ run_one (terms game) (states game) (acts_of game happenings)
contest_state terms states [] game = refl
contest_state terms states (one ∷ others) game =
    contest_state terms (changed states one.game (next_one (terms one.game) (states one.game) one.act)) others game
    ∙ go (game == one.game) (eqb-true game one.game)
  where
    go : (is_here : Bool) → (is_here ≡ true → game ≡ one.game) →
        run_one (terms game)
        (if is_here then next_one (terms one.game) (states one.game) one.act else states game) (acts_of game others)
        ≡ run_one (terms game) (states game)
        (if is_here then one.act ∷ acts_of game others else acts_of game others)
    go true here = ap (λ (there : ℕ). run_one (terms game) (next_one (terms there) (states there) one.act)
        (acts_of game others)) (sym (here refl))
    go false here = refl

pub apart_in_time_lemma : MatchesAreApartInTime
apart_in_time_lemma terms happenings game = contest_state terms (λ one. timed_initial) happenings game
