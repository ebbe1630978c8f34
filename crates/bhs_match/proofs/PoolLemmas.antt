-- What an event makes of the pool.
use Rattle.std.proofs.Common.{append_assoc, ◌≡◌, ℕ, ◌≤◌, Bool, true, false, not, Option, Some}
use Rattle.std.proofs.Common.{None, List, [], ◌∷◌, ◌++◌, length, map, IsTrue, refl, sym, ap, ◌∙◌, subst, inl, inr}
use Rattle.std.proofs.Common.{arith, ◌==◌, if◌then◌else◌}
use Rattle.std.specs.List.{filter}
use Rattle.std.proofs.lemmas.Bool.{cond_both, eq-eqb}
use Rattle.std.proofs.lemmas.Bool.Decides.{eqb_tells}
use Rattle.std.proofs.lemmas.List.{length-map}
use Rattle.std.proofs.lemmas.List.Elements.{filter-append}
use Rattle.bhs_model.specs.declared.commands.Command.{Command}
use Rattle.bhs_model.specs.declared.events.Event.{Event}
use Rattle.bhs_model.specs.declared.events.Event.TheVariants.{Tell, Deliver, Close}
use Rattle.bhs_model.specs.Worlds.{World}
use Rattle.bhs_model.specs.Runs.{Position, Before, At, Bound as OnLink, After, State, changed, position_after, is_bound}
use Rattle.bhs_model.specs.Runs.{departed_after, told, arrived, delivered, arrives, heard, next}
use Rattle.bhs_model.specs.Draws.{pool}
use Rattle.bhs_state.specs.Agents.{link_of}
use Rattle.bhs_world.proofs.ListLemmas.{changed_same}
use Rattle.bhs_match.specs.declared.pools.Bound.{Bound}
use Rattle.bhs_match.specs.Matches.{bound_at, bounds}
use Rattle.bhs_match.specs.Keeping.{settled, settled_by}
use Rattle.bhs_match.proofs.DepartedLemmas.{once_filter, once_few}
use Rattle.bhs_match.proofs.MoveLemmas.{IsLinked}
use Rattle.bhs_match.proofs.FairLemmas.{IsFair, IsHeard, heard_means, moves_of}

-- the entry of an agent on a link, as a list; empty for other positions
one_bound : ℕ → Position → List Bound
one_bound agent (OnLink node port) = record { agent = agent; node = node; port = port } ∷ []
one_bound agent position = []

-- the entries of the agents on links
all_bound : (ℕ → Position) → List ℕ → List Bound
all_bound position [] = []
all_bound position (agent ∷ agents) = one_bound agent (position agent) ++ all_bound position agents

by_position : (agent : ℕ) (position : Position) (bound : List Bound) → one_bound agent position
    ++ bound ≡ (if is_bound position then bound_at agent position ∷ bound else bound)
unfolding one_bound
by_position agent (OnLink node port) bound = refl
by_position agent Before bound = refl
by_position agent (At node came) bound = refl
by_position agent After bound = refl

map_if : (f : ℕ → Bound) (b : Bool) (x : ℕ) (xs : List ℕ)
    → map f (if b then x ∷ xs else xs) ≡ (if b then f x ∷ map f xs else map f xs)
map_if f true x xs = refl
map_if f false x xs = refl

same_bounds : (position : ℕ → Position) (agents : List ℕ) → map (λ agent. bound_at agent (position agent))
    (filter (λ agent. is_bound (position agent)) agents) ≡ all_bound position agents
unfolding all_bound
same_bounds position [] = refl
same_bounds position (agent ∷ agents) =
    map_if (λ one. bound_at one (position one)) (is_bound (position agent)) agent
    (filter (λ one. is_bound (position one)) agents)
    ∙ sym (by_position agent (position agent)
    (map (λ one. bound_at one (position one)) (filter (λ one. is_bound (position one)) agents)))
    ∙ ap (λ (others : List Bound). one_bound agent (position agent) ++ others) (same_bounds position agents)

-- The agent's link is unchanged, possibly absent.
unchanged_bound : (position : ℕ → Position) (agent : ℕ) (new : Position) (agents : List ℕ)
    → one_bound agent new ≡ one_bound agent (position agent) → all_bound (changed position agent new)
    agents ≡ all_bound position agents
unfolding all_bound
unchanged_bound position agent new [] same = refl
unchanged_bound position agent new (one ∷ agents) same =
    let rest = unchanged_bound position agent new agents same in
    elim (eqb_tells one agent) [
      | inl h ↦ rw (h.0, rest) (ap (λ (bound : List Bound). bound ++ all_bound position agents)
          (subst (λ (k : ℕ). one_bound k new ≡ one_bound k (position k)) (sym h.1) same))
      | inr h ↦ rw (h.0, rest) refl
    ]

-- whether an entry belongs to another agent
abbrev is_not : ℕ → Bound → Bool
is_not agent bound = not (bound.agent == agent)

kept_others : (agent one : ℕ) (position : Position) → (one == agent) ≡ false
    → filter (is_not agent) (one_bound one position) ≡ one_bound one position
unfolding one_bound
kept_others agent one (OnLink node port) apart = rw apart refl
kept_others agent one Before apart = refl
kept_others agent one (At node came) apart = refl
kept_others agent one After apart = refl

none_of_it : (agent one : ℕ) (position : Position) → (one == agent) ≡ true
    → filter (is_not agent) (one_bound one position) ≡ []
unfolding one_bound
none_of_it agent one (OnLink node port) same = rw same refl
none_of_it agent one Before same = refl
none_of_it agent one (At node came) same = refl
none_of_it agent one After same = refl

left_bound : (position : ℕ → Position) (agent : ℕ) (new : Position) (agents : List ℕ)
    → ((one : ℕ) → one_bound one new ≡ []) → all_bound (changed position agent new) agents ≡ filter (is_not agent)
    (all_bound position agents)
unfolding all_bound
left_bound position agent new [] off = refl
left_bound position agent new (one ∷ agents) off =
    let rest = left_bound position agent new agents off in
    let parts = filter-append (is_not agent) (one_bound one (position one)) (all_bound position agents) in
    elim (eqb_tells one agent) [
      | inl h ↦ rw (h.0, rest, off one) (sym (parts
          ∙ ap (λ (bound : List Bound). bound ++ filter (is_not agent) (all_bound position agents))
          (none_of_it agent one (position one) h.0)))
      | inr h ↦ rw (h.0, rest) (sym (parts ∙ ap (λ (bound : List Bound). bound ++ filter (is_not agent)
          (all_bound position agents)) (kept_others agent one (position one) h.0)))
    ]

-- an agent that departs stands last
all_append : (position : ℕ → Position) (agents others : List ℕ) → all_bound position (agents ++ others) ≡ all_bound
    position agents ++ all_bound position others
unfolding all_bound
all_append position [] others = refl
all_append position (agent ∷ agents) others = ap (λ (rest : List Bound). one_bound agent (position agent) ++ rest)
    (all_append position agents others) ∙ sym (append_assoc (one_bound agent (position agent)) _ _)

others_bound : (position : ℕ → Position) (agent : ℕ) (new : Position) (agents : List ℕ)
    → one_bound agent (position agent) ≡ [] → all_bound (changed position agent new)
    (filter (λ other. not (other == agent)) agents) ≡ all_bound position agents
unfolding all_bound
others_bound position agent new [] off = refl
others_bound position agent new (one ∷ agents) off =
    let rest = others_bound position agent new agents off in
    elim (eqb_tells one agent) [
      | inl h ↦ rw (h.0, rest) (ap (λ (bound : List Bound). bound ++ all_bound position agents)
          (sym (subst (λ (k : ℕ). one_bound k (position k) ≡ []) (sym h.1) off)))
      | inr h ↦ rw (h.0, h.0, rest) refl
    ]

last_bound : (position : ℕ → Position) (agent node port : ℕ) → all_bound (changed position agent (OnLink node port))
    (agent ∷ []) ≡ record { agent = agent; node = node; port = port } ∷ []
unfolding all_bound one_bound
last_bound position agent node port = let same : (agent == agent) ≡ true = eq-eqb agent agent refl in rw same refl

joined_bound : (position : ℕ → Position) (agent node port : ℕ) (agents : List ℕ)
    → one_bound agent (position agent) ≡ [] →
    all_bound (changed position agent (OnLink node port))
    (filter (λ other. not (other == agent)) agents ++ agent ∷ []) ≡ all_bound position agents
    ++ record { agent = agent; node = node; port = port } ∷ []
joined_bound position agent node port agents off =
    all_append (changed position agent (OnLink node port)) (filter (λ other. not (other == agent)) agents) (agent ∷ [])
    ∙ ap (λ (rest : List Bound). rest ++ all_bound (changed position agent (OnLink node port)) (agent ∷ []))
    (others_bound position agent (OnLink node port) agents off)
    ∙ ap (λ (last : List Bound). all_bound position agents ++ last) (last_bound position agent node port)

-- The agent moves from the old position to the new one.
moved_bound : (position : ℕ → Position) (departed : List ℕ) (agent : ℕ) (old new : Position) → position agent ≡ old
    → IsLinked old new →
    all_bound (changed position agent new) (departed_after departed agent old new) ≡ settled agent (link_of old)
    (link_of new) (all_bound position departed)
unfolding one_bound
moved_bound position departed agent Before Before is linked =
    unchanged_bound position agent Before departed (sym (ap (one_bound agent) is))
moved_bound position departed agent Before (At there by) is linked =
    unchanged_bound position agent (At there by) departed (sym (ap (one_bound agent) is))
moved_bound position departed agent Before (OnLink from port) is linked = cc
moved_bound position departed agent Before After is linked =
    unchanged_bound position agent After departed (sym (ap (one_bound agent) is))
moved_bound position departed agent (At node came) Before is linked =
    unchanged_bound position agent Before departed (sym (ap (one_bound agent) is))
moved_bound position departed agent (At node came) (At there by) is linked =
    unchanged_bound position agent (At there by) departed (sym (ap (one_bound agent) is))
moved_bound position departed agent (At node came) (OnLink from port) is linked =
    joined_bound position agent from port departed (ap (one_bound agent) is)
moved_bound position departed agent (At node came) After is linked =
    unchanged_bound position agent After departed (sym (ap (one_bound agent) is))
moved_bound position departed agent (OnLink node p) Before is linked =
    left_bound position agent Before departed (λ one. refl)
moved_bound position departed agent (OnLink node p) (At there by) is linked =
    left_bound position agent (At there by) departed (λ one. refl)
moved_bound position departed agent (OnLink node p) (OnLink from port) is linked =
    unchanged_bound position agent (OnLink from port) departed
    (ap (one_bound agent) (sym linked) ∙ sym (ap (one_bound agent) is))
moved_bound position departed agent (OnLink node p) After is linked =
    left_bound position agent After departed (λ one. refl)
moved_bound position departed agent After Before is linked =
    unchanged_bound position agent Before departed (sym (ap (one_bound agent) is))
moved_bound position departed agent After (At there by) is linked =
    unchanged_bound position agent (At there by) departed (sym (ap (one_bound agent) is))
moved_bound position departed agent After (OnLink from port) is linked = cc
moved_bound position departed agent After After is linked =
    unchanged_bound position agent After departed (sym (ap (one_bound agent) is))

-- the link of the agent of an event
abbrev pub link_in : State → Event → Option (ℕ × ℕ)
link_in state (Tell agent command) = link_of (state.position agent)
link_in state (Deliver agent) = link_of (state.position agent)
link_in state Close = None

settled_same : (agent : ℕ) (link : Option (ℕ × ℕ)) (pool : List Bound) → settled agent link link pool ≡ pool
settled_same agent None pool = refl
settled_same agent (Some link) pool = refl

told_pool : (world : World) (state : State) (lost : ℕ → Bool) (agent : ℕ) (command : Command)
    → IsHeard world state agent command →
    bounds (told world state agent command) ≡ settled agent (link_of (state.position agent))
    (link_of ((told world state agent command).position agent)) (bounds state)
told_pool world state lost agent command is_heard =
    let old = state.position agent in
    let new = position_after world old command in
    same_bounds (changed state.position agent new) (departed_after state.departed agent old new)
    ∙ moved_bound state.position state.departed agent old new refl
    (moves_of world state lost agent command is_heard).linked
    ∙ ap (settled agent (link_of old) (link_of new)) (sym (same_bounds state.position state.departed))
    ∙ ap (λ (position : Position). settled agent (link_of old) (link_of position) (bounds state))
    (sym (changed_same state.position agent new))

arrived_pool : (world : World) (state : State) (agent there label : ℕ) (old : Position) → state.position agent ≡ old
    → IsTrue (is_bound old) →
    bounds (arrived world state agent there label) ≡ settled agent (link_of old)
    (link_of ((arrived world state agent there label).position agent)) (bounds state)
unfolding one_bound
arrived_pool world state agent there label (OnLink node port) on bound =
    let new = At there (Some label) in
    same_bounds (changed state.position agent new) state.departed
    ∙ left_bound state.position agent new state.departed (λ one. refl)
    ∙ ap (filter (is_not agent)) (sym (same_bounds state.position state.departed))
    ∙ ap (λ (position : Position). settled agent (Some (node, port)) (link_of position) (bounds state))
    (sym (changed_same state.position agent new))
arrived_pool world state agent there label Before on bound = cc
arrived_pool world state agent there label (At node came) on bound = cc
arrived_pool world state agent there label After on bound = cc

delivered_pool : (world : World) (state : State) (agent : ℕ) (position : Position) → state.position agent ≡ position →
    bounds (delivered world state agent position) ≡ settled agent (link_of position)
    (link_of ((delivered world state agent position).position agent)) (bounds state)
delivered_pool world state agent (OnLink node port) on =
    arrived_pool world state agent (world.net.far node port).0 (world.net.far node port).1 (OnLink node port) on refl
delivered_pool world state agent Before on = sym
    (ap (λ (position : Position). settled agent None (link_of position) (bounds state)) on)
delivered_pool world state agent (At node came) on =
    sym (ap (λ (position : Position). settled agent None (link_of position) (bounds state)) on)
delivered_pool world state agent After on = sym
    (ap (λ (position : Position). settled agent None (link_of position) (bounds state)) on)

pub next_pool : (world : World) (state : State) (lost : ℕ → Bool) (event : Event) → IsFair world state lost →
    bounds (next world state event) ≡ settled_by event (link_in state event)
    (link_in (next world state event) event) (bounds state)
next_pool world state lost (Tell agent command) fair =
    cond_both (heard world state agent command) (told world state agent command) state
    (λ (after : State). bounds after ≡ settled agent (link_of (state.position agent))
    (link_of (after.position agent)) (bounds state))
    (λ is_heard. told_pool world state lost agent command (heard_means world state lost agent command fair is_heard))
    (λ unheard. sym (settled_same agent (link_of (state.position agent)) (bounds state)))
next_pool world state lost (Deliver agent) fair =
    cond_both (arrives world state agent) (delivered world state agent (state.position agent)) state
    (λ (after : State). bounds after ≡ settled agent (link_of (state.position agent))
    (link_of (after.position agent)) (bounds state))
    (λ arrival. delivered_pool world state agent (state.position agent) refl)
    (λ stays. sym (settled_same agent (link_of (state.position agent)) (bounds state)))
next_pool world state lost Close fair = refl

-- the pool has at most all agents
pub pool_bound : (world : World) (state : State) (lost : ℕ → Bool) → IsFair world state lost
    → length (bounds state) ≤ world.agents
pool_bound world state lost fair =
    let few : length (pool state) ≤ world.agents =
    once_few world.agents (pool state) (once_filter world.agents (λ agent. is_bound (state.position agent))
    state.departed fair.departed) in
    let same : length (bounds state) ≡ length (pool state) =
    length-map (pool state) (λ (agent : ℕ). bound_at agent (state.position agent)) in
    omega arith
