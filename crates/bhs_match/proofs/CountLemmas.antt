-- How many events a log can hold: each kept event uses up a part of its agent's share.
use Rattle.std.proofs.Common.{◌≡◌, ℕ, zero, suc, ◌+◌, ◌*◌, ◌<◌, ◌≤◌, Bool, true, false, not, ◌&&◌, ◌||◌, List}
use Rattle.std.proofs.Common.{[], ◌∷◌, length, refl, sym, ap, subst, inl, inr, arith, ◌==◌, if◌then◌else◌}
use Rattle.std.proofs.lemmas.Bool.{and_parts, ne_eqb, eq-eqb}
use Rattle.std.proofs.lemmas.Bool.Decides.{eqb_tells}
use Rattle.bhs_model.specs.declared.commands.Command.{Command}
use Rattle.bhs_model.specs.declared.events.Event.{Event}
use Rattle.bhs_model.specs.declared.events.Event.TheVariants.{Tell, Deliver, Close}
use Rattle.bhs_model.specs.Views.{used}
use Rattle.bhs_model.specs.Worlds.{World, doomed}
use Rattle.bhs_model.specs.Runs.{Position, Before, At, Bound, After, State, initial, changed}
use Rattle.bhs_model.specs.Runs.{told, is_doomed, arrives, arrived, delivered, heard, next, run, run_from}
use Rattle.bhs_model.specs.Kept.{destroys, lost_after, keeps, kept_first, kept_from, kept, lost, lost_from, nobody}
use Rattle.bhs_model.proofs.StepLemmas.{by_cases}
use Rattle.bhs_match.specs.Matches.{most_kept}
use Rattle.bhs_match.proofs.MoveLemmas.{IsGone, weight}
use Rattle.bhs_match.proofs.FairLemmas.{IsFair, IsHeard, heard_means, moves_of, IsArriving, arrival_means, bound_within}
use Rattle.bhs_match.proofs.FairLemmas.{fair_next, fair_run, fair_initial}

-- the numbers below n, summed over
sum_to : (n : ℕ) → (ℕ → ℕ) → ℕ
sum_to zero f = 0
sum_to (suc n) f = sum_to n f + f n

sum_le : (n : ℕ) (f g : ℕ → ℕ) → ((k : ℕ) → k < n → f k ≤ g k) → sum_to n f ≤ sum_to n g
unfolding sum_to
sum_le zero f g each = omega arith
sum_le (suc n) f g each =
    let below = sum_le n f g (λ k lt. each k (omega arith)) in
    let last = each n (omega arith) in
    omega arith

-- Increasing one summand by one increases the sum by one.
sum_more : (n place : ℕ) (f g : ℕ → ℕ) → place < n → f place + 1 ≤ g place
    → ((k : ℕ) → (k == place) ≡ false → f k ≤ g k) → sum_to n f + 1 ≤ sum_to n g
unfolding sum_to
sum_more zero place f g within more others = absurd (omega arith)
sum_more (suc n) place f g within more others = elim (eqb_tells n place) [
  | inl h ↦
      let at : f n + 1 ≤ g n = subst (λ (k : ℕ). f k + 1 ≤ g k) (sym h.1) more in
      let below : sum_to n f ≤ sum_to n g = sum_le n f g
      (λ k lt. others k (ne_eqb k place (λ same. omega (arith, h.1)))) in
      omega arith
  | inr h ↦
      let inside : place < n = omega (arith, h.1) in
      let below : sum_to n f + 1 ≤ sum_to n g = sum_more n place f g inside more others in
      let last : f n ≤ g n = others n h.0 in
      omega arith
]

sum_bound : (n most : ℕ) (f : ℕ → ℕ) → ((k : ℕ) → f k ≤ most) → sum_to n f ≤ n * most
unfolding sum_to
sum_bound zero most f each = omega arith
sum_bound (suc n) most f each =
    let below : sum_to n f ≤ n * most = sum_bound n most f each in
    let last : f n ≤ most = each n in
    let product : suc n * most ≡ n * most + most = search arith in
    omega arith

-- the part of its share in the log that an agent has used up
share : State → (ℕ → Bool) → ℕ → ℕ
share state lost agent = weight (state.position agent) (lost agent) + 2 * used (state.past agent)

abbrev pub bit : Bool → ℕ
bit b = if b then 1 else 0

-- what all have used up
total : World → State → (ℕ → Bool) → ℕ
total world state lost = sum_to world.agents (share state lost) + bit state.closed

-- each step that is kept uses up one more

heavier : (position : Position) (is_lost : Bool) → weight position is_lost ≤ weight position true
heavier Before is_lost = omega arith
heavier (At node came) is_lost = omega arith
heavier (Bound node port) true = omega arith
heavier (Bound node port) false = omega arith
heavier After is_lost = omega arith

told_more : (world : World) (state : State) (lost : ℕ → Bool) (agent : ℕ) (command : Command)
    → IsHeard world state agent command →
    total world state lost + 1 ≤ total world (told world state agent command) lost
unfolding total share
told_more world state lost agent command is_heard =
    let after = told world state agent command in
    let moved = moves_of world state lost agent command is_heard in
    let same : (agent == agent) ≡ true = eq-eqb agent agent refl in
    let more : share state lost agent + 1 ≤ share after lost agent = rw same (omega (arith, moved.weight)) in
    let others : (k : ℕ) → (k == agent) ≡ false → share state lost k ≤ share after lost k =
    λ k apart. rw apart (omega arith) in
    let sum : sum_to world.agents (share state lost) + 1 ≤ sum_to world.agents (share after lost) =
    sum_more world.agents agent (share state lost) (share after lost) is_heard.within more others in
    omega arith

arrived_more : (world : World) (state : State) (lost : ℕ → Bool) (agent node port there label : ℕ)
    → IsFair world state lost → state.position agent ≡ Bound node port → doomed world node port ≡ false →
    total world state lost + 1 ≤ total world (arrived world state agent there label) lost
unfolding total share
arrived_more world state lost agent node port there label fair on safe =
    let after = arrived world state agent there label in
    let same : (agent == agent) ≡ true = eq-eqb agent agent refl in
    let here : lost agent ≡ false = by_cases (lost agent) (lost agent ≡ false)
    (λ is_lost. absurd (not_both (subst (IsGone world) on (fair.gone agent is_lost)))) (λ spared. spared) in
    let light : weight (state.position agent) (lost agent) ≡ 0 = rw (on, here) refl in
    let more : share state lost agent + 1 ≤ share after lost agent = rw same (omega arith) in
    let others : (k : ℕ) → (k == agent) ≡ false → share state lost k ≤ share after lost k =
    λ k apart. rw apart (omega arith) in
    let sum : sum_to world.agents (share state lost) + 1 ≤ sum_to world.agents (share after lost) =
    sum_more world.agents agent (share state lost) (share after lost)
    (bound_within world state lost agent node port fair on) more others in
    omega arith
  where
    not_both : doomed world node port ≡ true → ⊥
    not_both h = cc

lost_le : (world : World) (state : State) (lost : ℕ → Bool) (agent : ℕ) → total world state lost ≤ total world state
    (changed lost agent true)
unfolding total share
lost_le world state lost agent =
    let marks = changed lost agent true in
    let each : (k : ℕ) → k < world.agents → share state lost k ≤ share state marks k =
    λ k lt. elim (eqb_tells k agent) [
      | inl h ↦ let heavy = heavier (state.position k) (lost k) in rw h.0 (omega arith)
      | inr h ↦ rw h.0 (omega arith)
    ] in
    let sum : sum_to world.agents (share state lost) ≤ sum_to world.agents (share state marks) =
    sum_le world.agents (share state lost) (share state marks) each in
    omega arith

-- A destroyed agent was travelling on a link.
destroyed_more : (world : World) (state : State) (lost : ℕ → Bool) (agent node port : ℕ) → IsFair world state lost
    → state.position agent ≡ Bound node port → lost agent ≡ false →
    total world state lost + 1 ≤ total world state (changed lost agent true)
unfolding total share
destroyed_more world state lost agent node port fair on spared =
    let marks = changed lost agent true in
    let same : (agent == agent) ≡ true = eq-eqb agent agent refl in
    let light : weight (state.position agent) (lost agent) ≡ 0 = rw (on, spared) refl in
    let heavy : weight (state.position agent) true ≡ 1 = rw on refl in
    let more : share state lost agent + 1 ≤ share state marks agent = rw same (omega arith) in
    let others : (k : ℕ) → (k == agent) ≡ false → share state lost k ≤ share state marks k =
    λ k apart. rw apart (omega arith) in
    let sum : sum_to world.agents (share state lost) + 1 ≤ sum_to world.agents (share state marks) =
    sum_more world.agents agent (share state lost) (share state marks)
    (bound_within world state lost agent node port fair on) more others in
    omega arith

by_hearing : (world : World) (lost : ℕ → Bool) (state after : State) (is_heard : Bool)
    → (is_heard ≡ true → total world state lost + 1 ≤ total world after lost) →
    total world state lost + bit is_heard ≤ total world (if is_heard then after else state) lost
by_hearing world lost state after true more = more refl
by_hearing world lost state after false more = omega arith

by_delivery : (world : World) (lost marks : ℕ → Bool) (state after : State) (arrival destruction is_lost : Bool)
    → (arrival ≡ true → destruction ≡ false) →
    (arrival ≡ true → total world state lost + 1 ≤ total world after lost) →
    (destruction ≡ true → is_lost ≡ false → total world state lost + 1 ≤ total world state marks) →
    total world state lost ≤ total world state marks →
    total world state lost + bit (arrival || (destruction && not is_lost)) ≤ total world
    (if arrival then after else state) (if destruction then marks else lost)
by_delivery world lost marks state after true true is_lost apart arrive destroy less = cc (apart refl)
by_delivery world lost marks state after true false is_lost apart arrive destroy less = arrive refl
by_delivery world lost marks state after false true true apart arrive destroy less = omega arith
by_delivery world lost marks state after false true false apart arrive destroy less = destroy refl refl
by_delivery world lost marks state after false false is_lost apart arrive destroy less = omega arith

by_closing : (sum : ℕ) (closed : Bool) → sum + bit closed + bit (not closed) ≤ sum + 1
by_closing sum true = omega arith
by_closing sum false = omega arith

delivered_more : (world : World) (state : State) (lost : ℕ → Bool) (agent : ℕ) → IsFair world state lost
    → IsArriving world state agent →
    total world state lost + 1 ≤ total world (delivered world state agent (state.position agent)) lost
delivered_more world state lost agent fair flight =
    subst (λ (position : Position). total world state lost + 1 ≤ total world (delivered world state agent position)
    lost) (sym flight.on)
    (arrived_more world state lost agent flight.node flight.port (world.net.far flight.node flight.port).0
    (world.net.far flight.node flight.port).1 fair flight.on flight.safe)

lost_more : (world : World) (state : State) (lost : ℕ → Bool) (agent : ℕ) → IsFair world state lost
    → destroys world state agent ≡ true → lost agent ≡ false →
    total world state lost + 1 ≤ total world state (changed lost agent true)
lost_more world state lost agent fair destroyed spared =
    by_place (state.position agent) refl
  where
    doomed_there : is_doomed world (state.position agent) ≡ true
    doomed_there = (and_parts (not state.closed) _ destroyed).1

    by_place : (position : Position) → state.position agent ≡ position → total world state lost + 1 ≤ total world state
        (changed lost agent true)
    by_place (Bound node port) on = destroyed_more world state lost agent node port fair on spared
    by_place Before on = cc (doomed_there, ap (is_doomed world) on)
    by_place (At node came) on = cc (doomed_there, ap (is_doomed world) on)
    by_place After on = cc (doomed_there, ap (is_doomed world) on)

closed_more : (world : World) (state : State) (lost : ℕ → Bool)
    → total world state lost + bit (not state.closed) ≤ total world (record state { closed = true }) lost
unfolding total share
closed_more world state lost = by_closing (sum_to world.agents (share state lost)) state.closed

total_next : (world : World) (state : State) (lost : ℕ → Bool) (event : Event) → IsFair world state lost →
    total world state lost + bit (keeps world state lost event) ≤ total world (next world state event)
    (lost_after world state lost event)
total_next world state lost (Tell agent command) fair =
    by_hearing world lost state (told world state agent command) (heard world state agent command)
    (λ is_heard. told_more world state lost agent command (heard_means world state lost agent command fair is_heard))
total_next world state lost (Deliver agent) fair =
    by_delivery world lost (changed lost agent true) state (delivered world state agent (state.position agent))
    (arrives world state agent) (destroys world state agent) (lost agent)
    (λ arrival. (arrival_means world state agent arrival).spared)
    (λ arrival. delivered_more world state lost agent fair (arrival_means world state agent arrival))
    (lost_more world state lost agent fair)
    (lost_le world state lost agent)
total_next world state lost Close fair = closed_more world state lost

length_first : (is_kept : Bool) (event : Event) (events : List Event) → length (kept_first is_kept event events) ≡ bit
    is_kept + length events
length_first true event events = omega arith
length_first false event events = omega arith

total_run : (world : World) (state : State) (lost : ℕ → Bool) (events : List Event) → IsFair world state lost →
    total world state lost + length (kept_from world state lost events) ≤ total world (run_from world state events)
    (lost_from world state lost events)
total_run world state lost [] fair = omega arith
total_run world state lost (event ∷ events) fair =
    let after = next world state event in
    let marks = lost_after world state lost event in
    let rest = kept_from world after marks events in
    let step = total_next world state lost event fair in
    let others = total_run world after marks events (fair_next world state lost event fair) in
    let first = length_first (keeps world state lost event) event rest in
    omega arith

weight_bound : (position : Position) (is_lost : Bool) → weight position is_lost ≤ 2
weight_bound Before is_lost = omega arith
weight_bound (At node came) is_lost = omega arith
weight_bound (Bound node port) true = omega arith
weight_bound (Bound node port) false = omega arith
weight_bound After is_lost = omega arith

total_bound : (world : World) (state : State) (lost : ℕ → Bool) → IsFair world state lost
    → total world state lost ≤ most_kept world.agents world.quota
unfolding total share
total_bound world state lost fair =
    let each : (k : ℕ) → share state lost k ≤ 2 * world.quota + 2 =
    λ k. let few = weight_bound (state.position k) (lost k) in let spent = fair.quota k in omega arith in
    let sum : sum_to world.agents (share state lost) ≤ world.agents * (2 * world.quota + 2) =
    sum_bound world.agents (2 * world.quota + 2) (share state lost) each in
    let end : bit state.closed ≤ 1 = one state.closed in
    omega arith
  where
    one : (b : Bool) → bit b ≤ 1
    one true = omega arith
    one false = omega arith

-- no log is longer
pub kept_bound : (world : World) (events : List Event) → length (kept world events) ≤ most_kept world.agents world.quota
kept_bound world events =
    let all = total_run world initial nobody events (fair_initial world) in
    let most = total_bound world (run world events) (lost world events) (fair_run world events) in
    omega arith
