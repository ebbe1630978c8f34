-- The events of a log, place by place.
use Rattle.std.proofs.Common.{ℕ, zero, suc, ◌+◌, ◌<◌, ◌≡◌, ◌∙◌, List}
use Rattle.std.proofs.Common.{[], ◌∷◌, ◌++◌}
use Rattle.std.proofs.Common.{length, map, take, get_or, sym, ap, subst, arith}
use Rattle.std.proofs.lemmas.List.{append_cancel_left, map_more, take_more, take-map}
use Rattle.bhs_model.specs.declared.events.Event.{Event}
use Rattle.bhs_model.specs.declared.events.Event.TheVariants.{Close}
use Rattle.bhs_model.specs.declared.marks.Kept.{Kept}
use Rattle.bhs_model.specs.Worlds.{World}
use Rattle.bhs_model.specs.Runs.{State, next, run_from}
use Rattle.bhs_model.specs.Draws.{Held}
use Rattle.bhs_model.specs.Marks.{events_of}
use Rattle.bhs_attest.specs.Laws.{IsOverFree, AreOverFree}

-- two descriptions of the event at a place agree
pub same_event : (events : List Event) (place : ℕ) (one two : Event)
    → take (suc place) events ≡ take place events ++ one ∷ []
    → take (suc place) events ≡ take place events ++ two ∷ [] → one ≡ two
same_event events place one two first second =
    heads (append_cancel_left (take place events) (one ∷ []) (two ∷ []) (sym first ∙ second))
  where
    heads : one ∷ [] ≡ two ∷ [] → one ≡ two
    heads same = cc

pub event_there : (events : List Event) (place : ℕ) → place < length events
    → take (suc place) events ≡ take place events ++ get_or events place Close ∷ []
event_there events place within =
    ap (λ (n : ℕ). take n events) (next_place place) ∙ take_more events place Close within
  where
    next_place : (n : ℕ) → suc n ≡ n + 1
    next_place n = omega arith

-- the event of the log's entry at a place
pub event_at : (log : List Kept) (place : ℕ) (one : Kept) → place < length log → one ≡ get_or log place one
    → take (suc place) (events_of log) ≡ take place (events_of log) ++ one.event ∷ []
event_at log place one within is =
    ap (λ (n : ℕ). take n (events_of log)) (next_place place)
    ∙ take-map (λ (kept : Kept). kept.event) (place + 1) log
    ∙ map_more (λ (kept : Kept). kept.event) log place one within
    ∙ ap (λ (kept : Kept). map (λ (entry : Kept). entry.event) (take place log) ++ kept.event ∷ []) (sym is)
    ∙ ap (λ (front : List Event). front ++ one.event ∷ []) (sym (take-map (λ (kept : Kept). kept.event) place log))
  where
    next_place : (n : ℕ) → suc n ≡ n + 1
    next_place n = omega arith

-- a log of free deliveries, at one place
pub free_at : (held : Held) (world : World) (state : State) (events : List Event) (place : ℕ) (event : Event)
    → AreOverFree held world state events → take (suc place) events ≡ take place events ++ event ∷ []
    → IsOverFree held (run_from world state (take place events)) event
free_at held world state [] zero event free is = absurd (cc)
free_at held world state [] (suc place) event free is = absurd (cc)
free_at held world state (first ∷ events) zero event free is =
    let same : first ≡ event = cc in subst (IsOverFree held state) same free.0
free_at held world state (first ∷ events) (suc place) event free is =
    let rest : take (suc place) events ≡ take place events ++ event ∷ [] = cc in
    free_at held world (next world state first) events place event free.1 rest
