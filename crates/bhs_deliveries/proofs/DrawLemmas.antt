-- What is read in the pool of a match is what the definitions draw.
use Rattle.std.proofs.Common.{◌≡◌, ℕ, ◌%◌, ◌<◌, Bool, true, false, Option, Some, None, List, [], ◌∷◌, length, map}
use Rattle.std.proofs.Common.{get_or, refl, sym, ap, ◌∙◌, subst, arith, if◌then◌else◌}
use Rattle.std.specs.Prelude.{slice_get}
use Rattle.std.proofs.lemmas.List.{length-map, get_or-map}
use Rattle.std.proofs.lemmas.List.Elements.{filter_passes}
use Rattle.std.proofs.lemmas.Option.{slice_get-get_or}
use Rattle.bhs_model.specs.declared.events.Event.{Event}
use Rattle.bhs_model.specs.declared.events.Event.TheVariants.{Deliver}
use Rattle.bhs_model.specs.Runs.{Position, Before, At, Bound as OnLink, After, State, is_bound}
use Rattle.bhs_model.specs.Draws.{Held, pool, pick, is_held, delivery_to, draw}
use Rattle.bhs_match.specs.declared.pools.Bound.{Bound}
use Rattle.bhs_match.specs.Matches.{bound_at, bounds}
use Rattle.bhs_deliveries.specs.declared.draws.Drawn.{Drawn}
use Rattle.bhs_deliveries.specs.declared.draws.Drawn.TheVariants.{Nobody, Stays, Delivered}
use Rattle.bhs_deliveries.specs.Pool.{picked}
use Rattle.bhs_deliveries.specs.Drawing.{drawn_of, drawn, event_of}

event_if : (is_there : Bool) (agent : ℕ) → (if is_there then None else Some (Deliver agent)) ≡ event_of
    (if is_there then Stays else Delivered agent)
event_if true agent = refl
event_if false agent = refl

event_of_pick : (held : Held) (state : State) (agent : Option ℕ) → delivery_to held state agent ≡ event_of
    (drawn_of held state agent)
event_of_pick held state None = refl
event_of_pick held state (Some agent) = event_if (is_held held (state.position agent)) agent

event_unless : (closed : Bool) (event : Option Event) (drawn : Drawn) → event ≡ event_of drawn
    → (if closed then None else event) ≡ event_of (if closed then Nobody else drawn)
event_unless true event drawn is = refl
event_unless false event drawn is = is

pub draws_are_those : (held : Held) (state : State) (word : ℕ) → draw held state word ≡ event_of (drawn held state word)
draws_are_those held state word = event_unless state.closed _ _ (event_of_pick held state (pick (pool state) word))

-- The place that the word picks in the pool holds the agent that the definitions pick.
pick_at : (agents : List ℕ) (word place d : ℕ) (f : ℕ → Bound) → picked (map f agents) word ≡ Some place
    → (place < length agents) × (pick agents word ≡ Some (get_or agents place d))
pick_at [] word place d f is = cc
pick_at (agent ∷ agents) word place d f is =
    let len : length (map f (agent ∷ agents)) ≡ length (agent ∷ agents) = length-map (agent ∷ agents) f in
    let at : place ≡ word % length (map f (agent ∷ agents)) = cc in
    let here : place ≡ word % length (agent ∷ agents) = at ∙ ap (λ (n : ℕ). word % n) len in
    let within : place < length (agent ∷ agents) = omega arith in (
      within,
      subst (λ (k : ℕ). slice_get (agent ∷ agents) k ≡ Some (get_or (agent ∷ agents) place d)) here
          (slice_get-get_or (agent ∷ agents) place d within),
    )

held_by : (held : Held) (agent : ℕ) (position : Position) → is_bound position ≡ true
    → is_held held position ≡ held (bound_at agent position).node (bound_at agent position).port
held_by held agent (OnLink node port) is = refl
held_by held agent Before is = cc
held_by held agent (At node came) is = cc
held_by held agent After is = cc

-- The word picks the pool's entry at this place.
pub draws_at : (held : Held) (state : State) (word place : ℕ) (in_pool : List Bound) (d : Bound) (is_there : Bool)
    → in_pool ≡ bounds state → false ≡ state.closed → Some place ≡ picked in_pool word
    → is_there ≡ held (get_or in_pool place d).node (get_or in_pool place d).port →
    (if is_there then Stays else Delivered (get_or in_pool place d).agent) ≡ drawn held state word
draws_at held state word place in_pool d is_there pooled goes_on is holds =
    let f : ℕ → Bound = λ (agent : ℕ). bound_at agent (state.position agent) in
    let at = pick_at (pool state) word place 0 f (sym (is ∙ ap (λ (bounds : List Bound). picked bounds word) pooled)) in
    let agent : ℕ = get_or (pool state) place 0 in
    let this : get_or in_pool place d ≡ f agent = ap (λ (bounds : List Bound). get_or bounds place d) pooled
    ∙ get_or-map f (pool state) place 0 d at.0 in
    let on : is_bound (state.position agent) ≡ true = filter_passes (λ (agent : ℕ). is_bound (state.position agent))
    state.departed place 0 at.0 in
    let there : is_there ≡ is_held held (state.position agent) =
    holds ∙ ap (λ (bound : Bound). held bound.node bound.port) this
    ∙ sym (held_by held agent (state.position agent) on) in
    rw (← goes_on, at.1, ← there, this) refl
