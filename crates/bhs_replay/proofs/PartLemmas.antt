-- A match that is closed where its lines stop.
use Rattle.std.proofs.Common.{◌≡◌, Bool, true, false, not, Option, List, [], ◌∷◌, ◌++◌}
use Rattle.std.proofs.Common.{if◌then◌else◌, sym, ap, ◌∙◌}
use Rattle.std.proofs.Common.{subst, ap₂, Result, Ok, Err}
use Rattle.std.proofs.lemmas.Bool.{cond-true, cond-false, not-false, true≢false}
use Rattle.bhs_model.specs.declared.events.Event.{Event}
use Rattle.bhs_model.specs.declared.events.Event.TheVariants.{Close}
use Rattle.bhs_model.specs.declared.marks.Mark.{Mark}
use Rattle.bhs_model.specs.declared.marks.Kept.{Kept}
use Rattle.bhs_model.specs.Marks.{events_of}
use Rattle.bhs_model.specs.Worlds.{World}
use Rattle.bhs_model.specs.Setups.{world_of}
use Rattle.bhs_model.specs.declared.setups.Setup.{Setup}
use Rattle.bhs_net.specs.Network.{Network}
use Rattle.bhs_model.specs.Runs.{State, initial, run}
use Rattle.bhs_model.proofs.StepLemmas.{by_cases}
use Rattle.bhs_model.proofs.AddLemmas.{run-append}
use Rattle.bhs_world.specs.Tables.{log_after}
use Rattle.bhs_world.proofs.GrowthLemmas.{events_more}
use Rattle.bhs_match.specs.Matches.{Play, world_in, state_of}
use Rattle.bhs_replay.specs.Parts.{closed_events}

-- closing an open log appends the Close
pub closed_log : (world : World) (log : List Kept) (mark : Option Mark) → events_of (log_after world log Close mark)
    ≡ (if not (run world (events_of log)).closed then events_of log ++ Close ∷ [] else events_of log)
closed_log world log mark =
    by_cases (not (run world (events_of log)).closed) _
    (λ is_open. ap events_of (cond-true _ _ _ is_open) ∙ events_more log (record { event = Close; mark = mark })
    ∙ sym (cond-true _ _ _ is_open))
    (λ is_closed. ap events_of (cond-false _ _ _ is_closed) ∙ sym (cond-false _ _ _ is_closed))

-- and it is closed then
pub log_closed : (world : World) (log : List Kept) (mark : Option Mark)
    → (run world (events_of (log_after world log Close mark))).closed ≡ true
log_closed world log mark =
    by_cases (not (run world (events_of log)).closed) _
    (λ is_open. ap (λ (events : List Event). (run world events).closed)
    (closed_log world log mark ∙ cond-true _ _ _ is_open)
    ∙ ap (λ (state : State). state.closed) (run-append world initial (events_of log) (Close ∷ [])))
    (λ is_closed. ap (λ (events : List Event). (run world events).closed)
    (closed_log world log mark ∙ cond-false _ _ _ is_closed)
    ∙ not-false (run world (events_of log)).closed is_closed)

pub play_closed : (old new : Play) (mark : Option Mark) → new.log ≡ log_after (world_in old) old.log Close mark
    → (new.net ≡ old.net) × (new.setup ≡ old.setup) → (state_of new).closed ≡ true
play_closed old new mark grown same =
    ap (λ (log : List Kept). (run (world_of new.net new.setup) (events_of log)).closed) grown
    ∙ ap₂ (λ (net : Network) (setup : Setup).
    (run (world_of net setup) (events_of (log_after (world_in old) old.log Close mark))).closed) same.0 same.1
    ∙ log_closed (world_in old) old.log mark

pub record IsClosedPlay (old play : Play) : Type 0 where
  pub net : play.net ≡ old.net
  pub setup : play.setup ≡ old.setup
  pub events : events_of play.log ≡ closed_events old.net old.setup (events_of old.log)

abbrev sealed_if : (closed : Bool) → Play → Result Play Play
sealed_if closed play = if closed then Ok play else Err play

never_err : (closed : Bool) (play other : Play) → closed ≡ true
    → sealed_if closed play ≡ Err other → ⊥
never_err true play other is e = cc
never_err false play other is e = absurd (true≢false (sym is))

same_ok : (closed : Bool) (play other : Play) → closed ≡ true
    → sealed_if closed play ≡ Ok other → other ≡ play
same_ok true play other is e = cc
same_ok false play other is e = absurd (true≢false (sym is))

pub no_err : (old new other : Play) (mark : Option Mark) (result : Result Play Play)
    → new.log ≡ log_after (world_in old) old.log Close mark → (new.net ≡ old.net) × (new.setup ≡ old.setup)
    → result ≡ sealed_if (state_of new).closed new → result ≡ Err other → ⊥
no_err old new other mark result grown same sealed is =
    never_err (state_of new).closed new other (play_closed old new mark grown same) (sym sealed ∙ is)

pub is_closed_play : (old new other : Play) (mark : Option Mark) (result : Result Play Play)
    → new.log ≡ log_after (world_in old) old.log Close mark → (new.net ≡ old.net) × (new.setup ≡ old.setup)
    → result ≡ sealed_if (state_of new).closed new → result ≡ Ok other → IsClosedPlay old other
is_closed_play old new other mark result grown same sealed is =
    subst (IsClosedPlay old)
    (sym (same_ok (state_of new).closed new other (play_closed old new mark grown same) (sym sealed ∙ is)))
    (record {
      net = same.0;
      setup = same.1;
      events = ap events_of grown ∙ closed_log (world_in old) old.log mark;
    })
