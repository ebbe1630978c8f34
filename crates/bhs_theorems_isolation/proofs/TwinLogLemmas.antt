-- The logs of a match and of one that is slow for it meet the twin condition, event by event.
use Rattle.std.proofs.Common.{◌≡◌, ◌∙◌, ℕ, Bool, true, false, ◌&&◌, ◌||◌, cond, not, nat_lt, List, [], ◌∷◌, ◌++◌, refl}
use Rattle.std.proofs.Common.{sym, ap, ap₂, append-nil}
use Rattle.std.proofs.lemmas.Bool.{and_right, cond-false, cond-true, or_from, or_left, or_parts}
use Rattle.bhs_model.specs.declared.events.Event.{Event}
use Rattle.bhs_model.specs.declared.events.Event.TheVariants.{Tell, Deliver, Close}
use Rattle.bhs_model.specs.Replying.{hears}
use Rattle.bhs_model.specs.Worlds.{World}
use Rattle.bhs_model.specs.Twins.{SameButDoom, Twins, is_struck, reveals, strike_from, strike, RevealsNothing}
use Rattle.bhs_model.specs.Runs.{State, initial, arrives, is_bound, is_doomed, next, run, run_from}
use Rattle.bhs_model.specs.Kept.{keeps}
use Rattle.bhs_theorems_isolation.proofs.CuttingLemmas.{cond_alike}

-- ---- one event more

strike-append : (world other : World) (state : State) (events : List Event) (event : Event) →
    strike_from world other state (events ++ event ∷ [])
    ≡ strike_from world other state events ++ (cond (is_struck world other (run_from world state events) event)
    [] (event ∷ []))
strike-append world other state [] event = refl
strike-append world other state (first ∷ events) event =
    let later = strike-append world other (next world state first) events event in
    let last = cond (is_struck world other (run_from world (next world state first) events) event) [] (event ∷ []) in
    cond_alike (λ (all front : List Event). all ≡ front ++ last) (is_struck world other state first)
    (is_struck world other state first) _ _ _ _ refl
    (λ struck. later) (λ stays. ap (λ (rest : List Event). first ∷ rest) later)

reveals-append : (world other : World) (state : State) (events : List Event) (event : Event)
    → RevealsNothing world other state events →
    reveals world other (run_from world state events) event ≡ false
    → RevealsNothing world other state (events ++ event ∷ [])
reveals-append world other state [] event none last = (last, tt)
reveals-append world other state (first ∷ events) event none last =
    (none.0, reveals-append world other (next world state first) events event none.1 last)

-- what destroys in neither world is struck from neither side, and reveals nothing
record Unstruck (world other : World) (state : State) (event : Event) : Type 0 where
  reveals_nothing : reveals world other state event ≡ false
  other_reveals_nothing : reveals other world state event ≡ false
  other_unstruck : is_struck other world state event ≡ false

unstruck_there : (world other : World) (state : State) (event : Event) → is_struck world other state event ≡ false
    → Unstruck world other state event
unstruck_there world other state (Tell agent command) unstruck =
    record { reveals_nothing = refl; other_reveals_nothing = refl; other_unstruck = refl }
unstruck_there world other state (Deliver agent) unstruck =
    let parts = or_parts (is_doomed world (state.position agent)) (is_doomed other (state.position agent)) unstruck in
    record {
      reveals_nothing = and_right (arrives world state agent) _ parts.1;
      other_reveals_nothing = and_right (arrives other state agent) _ parts.0;
      other_unstruck = or_from _ _ parts.1 parts.0;
    }
unstruck_there world other state Close unstruck =
    record { reveals_nothing = refl; other_reveals_nothing = refl; other_unstruck = refl }

pub twins-both : (world other : World) (events others : List Event) (event : Event) → Twins world events other others →
    run world events ≡ run other others → is_struck world other (run world events) event ≡ false
    → Twins world (events ++ event ∷ []) other (others ++ event ∷ [])
twins-both world other events others event twins same unstruck =
    let there = unstruck_there world other (run world events) event unstruck in record {
      worlds = twins.worlds;
      struck = strike-append world other initial events event
          ∙ ap₂ (λ (one two : List Event). one ++ two) twins.struck
          (cond-false (is_struck world other (run world events) event) [] (event ∷ []) unstruck
          ∙ sym (cond-false (is_struck other world (run other others) event) [] (event ∷ [])
          (ap (λ (state : State). is_struck other world state event) (sym same) ∙ there.other_unstruck)))
          ∙ sym (strike-append other world initial others event);
      reveals_nothing = reveals-append world other initial events event twins.reveals_nothing there.reveals_nothing;
      other_reveals_nothing = reveals-append other world initial others event twins.other_reveals_nothing
          (ap (λ (state : State). reveals other world state event) (sym same) ∙ there.other_reveals_nothing);
    }

pub twins-one : (world other : World) (events others : List Event) (agent : ℕ) → Twins world events other others →
    is_doomed world ((run world events).position agent) ≡ true
    → is_doomed other ((run world events).position agent) ≡ false →
    Twins world (events ++ Deliver agent ∷ []) other others
twins-one world other events others agent twins doomed harmless = record {
  worlds = twins.worlds;
  struck = strike-append world other initial events (Deliver agent)
      ∙ ap (λ (last : List Event). strike world other events ++ last)
      (cond-true (is_struck world other (run world events) (Deliver agent)) [] (Deliver agent ∷ [])
      (or_left _ _ doomed))
      ∙ append-nil (strike world other events) ∙ twins.struck;
  reveals_nothing = reveals-append world other initial events (Deliver agent) twins.reveals_nothing
      (and_right (arrives world (run world events) agent) _ harmless);
  other_reveals_nothing = twins.other_reveals_nothing;
}

-- ---- events that destroy in neither world: both matches keep the event, or both drop it

kept_by : (closed bound lost there : Bool) →
    ((not closed && (bound && true)) || ((not closed && false) && not lost)) ≡ ((not closed && (bound && true)) ||
    ((not closed && false) && not there))
kept_by true bound lost there = refl
kept_by false bound lost there = refl

deliver_kept : (closed bound doomed lost : Bool) → doomed ≡ false →
    ((not closed && (bound && not doomed)) || ((not closed && doomed) && not lost)) ≡ ((not closed && (bound && true))
    || ((not closed && false) && not lost))
deliver_kept closed bound doomed lost is = ap (λ (one : Bool). (not closed && (bound && not one)) ||
    ((not closed && one) && not lost)) is

pub keeps_alike : (world other : World) (state : State) (lost there : ℕ → Bool) (event : Event)
    → SameButDoom world other →
    is_struck world other state event ≡ false → keeps world state lost event ≡ keeps other state there event
keeps_alike world other state lost there (Tell agent command) same unstruck =
    ap₂ (λ (agents quota : ℕ). nat_lt agent agents && (not state.closed && hears quota (state.past agent) command))
    same.agents same.quota
keeps_alike world other state lost there (Deliver agent) same unstruck =
    let parts = or_parts (is_doomed world (state.position agent)) (is_doomed other (state.position agent)) unstruck in
    let bound = is_bound (state.position agent) in
    deliver_kept state.closed bound (is_doomed world (state.position agent)) (lost agent) parts.0
    ∙ kept_by state.closed bound (lost agent) (there agent)
    ∙ sym (deliver_kept state.closed bound (is_doomed other (state.position agent)) (there agent) parts.1)
keeps_alike world other state lost there Close same unstruck = refl
