-- What events add to a list of events.
use Rattle.std.proofs.Common.{ℕ, suc, ◌≡◌, Bool, true, false, Option, List, [], ◌∷◌, ◌++◌, length, refl, ap, ◌∙◌}
use Rattle.bhs_model.specs.declared.events.Event.{Event}
use Rattle.bhs_model.specs.declared.replies.Reply.{Reply}
use Rattle.bhs_model.specs.Worlds.{World}
use Rattle.bhs_model.specs.Runs.{State, initial, next, run_from, reply}
use Rattle.bhs_model.specs.InOrder.{replies_from}
use Rattle.bhs_model.specs.Kept.{keeps, kept_first, kept_from, lost_after, lost_from, nobody}
use Rattle.bhs_model.specs.Laws.{EventsAdd}

pub run-append : (world : World) (state : State) (events more : List Event) →
    run_from world state (events ++ more) ≡ run_from world (run_from world state events) more
run-append world state [] more = refl
run-append world state (event ∷ events) more = run-append world (next world state event) events more

pub replies-append : (world : World) (state : State) (events more : List Event) →
    replies_from world state (events ++ more) ≡ replies_from world state events ++ replies_from world
    (run_from world state events) more
replies-append world state [] more = refl
replies-append world state (event ∷ events) more =
    ap (λ (others : List (Option Reply)). reply world state event ∷ others)
    (replies-append world (next world state event) events more)

-- each event has one reply
pub replies_count : (world : World) (state : State) (events : List Event)
    → length (replies_from world state events) ≡ length events
replies_count world state [] = refl
replies_count world state (event ∷ events) = ap suc (replies_count world (next world state event) events)

pub lost-append : (world : World) (state : State) (lost : ℕ → Bool) (events more : List Event) →
    lost_from world state lost (events ++ more) ≡ lost_from world (run_from world state events)
    (lost_from world state lost events) more
lost-append world state lost [] more = refl
lost-append world state lost (event ∷ events) more =
    lost-append world (next world state event) (lost_after world state lost event) events more

kept_first-append : (is_kept : Bool) (event : Event) (events more : List Event)
    → kept_first is_kept event (events ++ more) ≡ kept_first is_kept event events ++ more
kept_first-append true event events more = refl
kept_first-append false event events more = refl

pub kept-append : (world : World) (state : State) (lost : ℕ → Bool) (events more : List Event) →
    kept_from world state lost (events ++ more)
    ≡ kept_from world state lost events ++ kept_from world (run_from world state events)
    (lost_from world state lost events) more
kept-append world state lost [] more = refl
kept-append world state lost (event ∷ events) more =
    let after = next world state event in
    let marks = lost_after world state lost event in
    ap (kept_first (keeps world state lost event) event) (kept-append world after marks events more)
    ∙ kept_first-append (keeps world state lost event) event (kept_from world after marks events) _

pub events_add_lemma : EventsAdd
events_add_lemma world events event = record {
  state = run-append world initial events (event ∷ []);
  answers = replies-append world initial events (event ∷ []);
  log = kept-append world initial nobody events (event ∷ []);
  victims = lost-append world initial nobody events (event ∷ []);
}
