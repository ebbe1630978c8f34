-- The first port by which an agent departs from a node, other than by a known link, is made to lead into the black
-- hole. So each such departure costs an agent, and as long as one is left it learns nothing of the other hub.
use Rattle.std.proofs.Common.{ℕ, zero, suc, ◌+◌, ◌*◌, ◌<◌, ◌≤◌, ◌≡◌, ◌⊎◌, Bool, true, false, ◌||◌}
use Rattle.std.proofs.Common.{Option, Some, List, [], ◌∷◌, ◌++◌, length, map, get_or, refl, sym, ap, ◌∙◌, subst}
use Rattle.std.proofs.Common.{if◌then◌else◌, nat_lt, inl, inr, arith, append_assoc}
use Rattle.std.specs.Prelude.{◌≢◌}
use Rattle.std.specs.List.{list_any, range_with_len}
use Rattle.std.proofs.Math.Dec.{eqb}
use Rattle.std.proofs.lemmas.Bool.{cond-true, cond-false, lt-ltb, ltb-true, ne_eqb, true≢false, cases_lt}
use Rattle.std.proofs.lemmas.Bool.Decides.{eqb_tells}
use Rattle.std.proofs.lemmas.List.FromFn.{get_or-map-range_with_len, length-map-range_with_len}
use Rattle.std.proofs.lemmas.Map.Steps.{length-le_from_distinct_below}
use Rattle.std.proofs.lemmas.Map.Keys.{IsDistinct-from_apart}
use Rattle.bhs_model.specs.Runs.{Position, Before, At, Bound, After, changed}
use Rattle.bhs_model.proofs.StepLemmas.{by_cases, changed_same, changed_other}
use Rattle.bhs_schedules.specs.Strategies.{Strategies}
use Rattle.bhs_schedules.specs.Schedules.{Trial, Rests, action_at}
use Rattle.bhs_model.specs.Examples.{none_held}
use Rattle.bhs_protocols.specs.Configurations.{Configuration, blank, done_in, turn_in, turns_in}
use Rattle.bhs_protocols.specs.Sizes.{Limits}
use Rattle.bhs_protocols.proofs.LastWordLemmas.{turns_in_append}
use Rattle.bhs_protocols_unmapped.proofs.Cycle.{Member, IsMember, beside, beside_below, leads, leads_on, leads_off}
use Rattle.bhs_protocols_unmapped.proofs.Cycle.{first_slots}
use Rattle.bhs_protocols_unmapped.proofs.Alike.{Far, over, same_turn, Kind, Stays, Enters, Ends, Departs, Arrives}
use Rattle.bhs_protocols_unmapped.proofs.Alike.{turn_kind}
use Rattle.bhs_protocols_unmapped.proofs.Exchange.{Known, added, added_old, added_here, IsKnown, Agree, IsPort, linked}
use Rattle.bhs_protocols_unmapped.proofs.Exchange.{linked_old, linked_here, linked_knows, exchanged, exchanged_is}
use Rattle.bhs_protocols_unmapped.proofs.Exchange.{IsFresh}
use Rattle.bhs_protocols_unmapped.proofs.Exchange.{kept, same_slot, agrees, spoke_here, owner_here, consumed_knows}

-- how many links the nodes have
abbrev pub degrees : (d node : ℕ) → ℕ
degrees d node = if nat_lt node (2 * d) then 3 else (if nat_lt node (2 * d + 2) then d else 0)

-- the node of a position, and the port
abbrev node_on : Position → ℕ
node_on Before = 0
node_on After = 0
node_on (At node came) = node
node_on (Bound node port) = node

abbrev port_on : Position → ℕ
port_on Before = 0
port_on After = 0
port_on (At node came) = 0
port_on (Bound node port) = port

-- agents are on the cycle, and on links that are known
abbrev pub IsPlaced : (d : ℕ) → Known → Position → Type 0
IsPlaced d known Before = Unit {0}
IsPlaced d known (At node came) = node < 2 * d
IsPlaced d known (Bound node port) = known node port ≡ true
IsPlaced d known After = Unit {0}

-- so they are if more links are known
wider : (d : ℕ) (one two : Known) → ((node port : ℕ) → one node port ≡ true → two node port ≡ true)
    → (place : Position) → IsPlaced d one place → IsPlaced d two place
wider d one two more Before is = tt
wider d one two more (At node came) is = is
wider d one two more (Bound node port) is = more node port is
wider d one two more After is = tt

-- agents are placed so, one is lost on each spoke that is known, and the hub that is safe was not reached
pub record IsStanding (d count agents : ℕ) (member : Member) (known : Known)
    (configuration : Configuration) : Type 0 where
  pub placed : (k : ℕ) → IsPlaced d known (configuration.position k)
  pub unreached : configuration.reached (2 * d) ≡ false
  pub occupant : (slot : ℕ) → ℕ
  pub within : (slot : ℕ) → slot < count → occupant slot < agents
  pub occupied : (slot : ℕ) → slot < count
      → configuration.position (occupant slot) ≡ Bound (member.owner slot) (member.port (member.owner slot) 2)

-- The game ends: the black hole cannot destroy more agents than there are.
pub enough : (d count agents : ℕ) (member : Member) (known : Known) (configuration : Configuration) → IsMember d member
    → IsStanding d count agents member known configuration → count ≤ agents
enough d count agents member known configuration is stands =
    let occupants : List ℕ = map stands.occupant (range_with_len 0 count) in
    let long : length occupants ≡ count = length-map-range_with_len stands.occupant 0 count in
    let at : (i k : ℕ) → i < count → get_or occupants i k ≡ stands.occupant i =
    λ i k small. get_or-map-range_with_len stands.occupant 0 count i i k small (omega arith) in
    let few : length occupants ≤ agents =
    length-le_from_distinct_below occupants agents
    (IsDistinct-from_apart eqb occupants (λ i j k before small.
    let j_small : j < count = omega (arith, small, long) in
    let i_small : i < count = omega (arith, before, j_small) in
    ne_eqb (get_or occupants i k) (get_or occupants j k)
    (λ same. let equal : i ≡ j = apart i j i_small j_small (sym (at i k i_small) ∙ same ∙ at j k j_small) in
    omega (arith, equal, before))))
    (λ q any. below q 0 count (omega arith) any) in
    omega (arith, few, long)
  where
    apart : (i j : ℕ) → i < count → j < count → stands.occupant i ≡ stands.occupant j → i ≡ j
    apart i j i_small j_small same =
        sym (is.slot_of_owner i)
        ∙ ap (λ (p : Position). member.slot (node_on p))
        (sym (stands.occupied i i_small) ∙ ap configuration.position same ∙ stands.occupied j j_small)
        ∙ is.slot_of_owner j

    below : (q start some : ℕ) → start + some ≤ count
        → list_any (eqb q) (map stands.occupant (range_with_len start some)) ≡ true → q < agents
    below q start zero fits any = absurd (true≢false (sym any))
    below q start (suc some) fits any = elim (eqb_tells q (stands.occupant start)) [
      | inl h ↦ subst (λ (k : ℕ). k < agents) (sym h.1) (stands.within start (omega (arith, fits)))
      | inr h ↦ below q (start + 1) some (omega (arith, fits))
          (sym (ap (λ (b : Bool). b || list_any (eqb q) (map stands.occupant (range_with_len (start + 1) some))) h.0)
          ∙ any)
    ]

-- the member with which a match begins
abbrev pub first_member : Member
first_member = record {
  role = λ node port. port;
  port = λ node role. role;
  slot = λ node. node;
  owner = λ slot. slot;
}

module _ (d : ℕ) (three : 3 ≤ d) (terms : Limits) (strategies : Strategies) (few : terms.agents ≤ d) (far : Member
    → Far)
    (far_is : (member : Member) → IsMember d member → (node port : ℕ) → node < 2 * d → port < 3
    → far member node port ≡ leads d member node port) where
  abbrev pub match_on : Member → Trial
  match_on member = over (2 * d + 2) (degrees d) (2 * d + 1) terms strategies (far member)

  -- A schedule under a member of the family: each member that is the same as far as is known comes to the same
  -- configuration.
  pub record State (count : ℕ) (member : Member) (schedule : List ℕ) : Type 0 where
    pub is : IsMember d member
    pub known : Known
    pub knows : IsKnown d count member known
    pub configuration : Configuration
    pub plays : (other : Member) → IsMember d other → Agree d known other member
        → turns_in (match_on other) blank schedule ≡ configuration
    pub stands : IsStanding d count terms.agents member known configuration

  -- one more agent is lost
  pub record Grown (count : ℕ) : Type 0 where
    pub member : Member
    pub schedule : List ℕ
    pub state : State (count + 1) member schedule

  -- at first nothing is known
  pub first_state : State 0 first_member []
  first_state = record {
    is = record {
      role_below = λ node port small. small;
      port_below = λ node role small. small;
      port_of_role = λ node port. refl;
      role_of_port = λ node role. refl;
      slot_below = λ node small. small;
      owner_below = λ slot small. small;
      owner_of_slot = λ node. refl;
      slot_of_owner = λ slot. refl;
    };
    known = λ node port. false;
    knows = record {
      cycle = λ node port was. absurd (true≢false (sym was));
      below = λ node port was. absurd (true≢false (sym was));
      back = λ node port was apart. absurd (true≢false (sym was));
      spent = λ node port was spoke. absurd (true≢false (sym was));
      spokes = λ node small early. absurd (omega (arith, early));
    };
    configuration = blank;
    plays = λ other is agree. refl;
    stands = record {
      placed = λ k. tt;
      unreached = refl;
      occupant = λ slot. 0;
      within = λ slot early. absurd (omega (arith, early));
      occupied = λ slot early. absurd (omega (arith, early));
    };
  }

  -- ---- a turn

  module _ (count : ℕ) (member : Member) (schedule : List ℕ) (state : State count member schedule) (agent : ℕ) where
    abbrev new : Configuration
    new = turn_in (match_on member) state.configuration agent

    abbrev longer : List ℕ
    longer = schedule ++ agent ∷ []

    -- As each spoke slot of the black hole destroys one agent, the game has at most d rounds.
    counted : count ≤ d
    counted =
        let lost : count ≤ terms.agents =
        enough d count terms.agents member state.known state.configuration state.is state.stands in
        omega (arith, lost, few)

    -- the links on which agents are lead to the same ends in members that agree
    same_ends : (other : Member) → IsMember d other → Agree d state.known other member → (k node port : ℕ)
        → state.configuration.position k ≡ Bound node port → far other node port ≡ far member node port
    same_ends other is agree k node port at =
        let was : state.known node port ≡ true = subst (IsPlaced d state.known) at (state.stands.placed k) in
        let cycle : node < 2 * d = state.knows.cycle node port was in
        let below : port < 3 = state.knows.below node port was in
        far_is other is node port cycle below ∙ agree node port was ∙ sym (far_is member state.is node port cycle below)

    -- The turn changes the configuration equally in all members of the family that agree with `known`.
    plays_on : (other : Member) → IsMember d other → Agree d state.known other member
        → turns_in (match_on other) blank longer ≡ new
    plays_on other is agree =
        turns_in_append (match_on other) blank schedule (agent ∷ [])
        ∙ ap (λ (p : Configuration). turn_in (match_on other) p agent) (state.plays other is agree)
        ∙ same_turn (2 * d + 2) (degrees d) (2 * d + 1) terms strategies (far other)
        (far member) state.configuration agent
        (same_ends other is agree)

    -- the same member, with as much known or more
    goes_on : (known : Known) → ((node port : ℕ) → state.known node port ≡ true → known node port ≡ true)
        → IsKnown d count member known → IsPlaced d known (new.position agent)
        → ((node port : ℕ) → state.configuration.position agent ≡ Bound node port → member.role node port ≡ 2
        → new.position agent ≡ state.configuration.position agent)
        → ((k : ℕ) → k ≢ agent → new.position k ≡ state.configuration.position k) → new.reached (2 * d) ≡ false
        → State count member longer
    goes_on known more knows here stays others unreached = record {
      is = state.is;
      known = known;
      knows = knows;
      configuration = new;
      plays = λ other is agree. plays_on other is (λ node port was. agree node port (more node port was));
      stands = record {
        placed = λ k. elim (eqb_tells k agent) [
          | inl h ↦ subst (λ (j : ℕ). IsPlaced d known (new.position j)) (sym h.1) here
          | inr h ↦ subst (IsPlaced d known) (sym (others k h.1))
              (wider d state.known known more (state.configuration.position k) (state.stands.placed k))
        ];
        unreached = unreached;
        occupant = state.stands.occupant;
        within = state.stands.within;
        occupied = λ slot early. elim (eqb_tells (state.stands.occupant slot) agent) [
          | inl h ↦ ap new.position h.1
              ∙ stays (member.owner slot) (member.port (member.owner slot) 2)
              (ap state.configuration.position (sym h.1) ∙ state.stands.occupied slot early)
              (state.is.role_of_port (member.owner slot) 2)
              ∙ ap state.configuration.position (sym h.1) ∙ state.stands.occupied slot early
          | inr h ↦ others (state.stands.occupant slot) h.1 ∙ state.stands.occupied slot early
        ];
      };
    }

    same_known : (node port : ℕ) → state.known node port ≡ true → state.known node port ≡ true
    same_known node port was = was

    -- who moves is an agent
    mover : new.position agent ≢ state.configuration.position agent → agent < terms.agents
    mover moved = by_cases (nat_lt agent terms.agents) (agent < terms.agents) (ltb-true agent terms.agents)
        (λ none. absurd (moved (ap (λ (p : Configuration). p.position agent)
        (ap (done_in (match_on member) state.configuration agent)
        (cond-false (nat_lt agent terms.agents)
        (action_at none_held terms.wakeups (state.configuration.position agent) (state.configuration.woken agent)
        (strategies agent (state.configuration.history agent)) agent) Rests none)))))

    -- the agent departs by this port
    pub record IsDeparture (node port : ℕ) (came : Option ℕ) : Type 0 where
      pub at : state.configuration.position agent ≡ At node came
      pub to : new.position agent ≡ Bound node port
      pub others : (k : ℕ) → k ≢ agent → new.position k ≡ state.configuration.position k
      pub unreached : new.reached (2 * d) ≡ false

    module _ (node port : ℕ) (came : Option ℕ) (it : IsDeparture node port came)
        (here : IsPort d count member state.known node port) where
      -- The departing agent stood at a node.
      not_bound : (other label : ℕ) → state.configuration.position agent ≢ Bound other label
      not_bound other label on = let same : At node came ≡ Bound other label = sym it.at ∙ on in cc

      -- it is known where the port leads
      by_known : state.known node port ≡ true → State count member longer
      by_known was = goes_on state.known same_known state.knows (subst (IsPlaced d state.known) (sym it.to) was)
          (λ other label on spoke. absurd (not_bound other label on)) it.others it.unreached

      -- its node's spoke is known, so the link is one of the cycle
      by_link : member.role node port ≢ 2 → State count member longer
      by_link off =
          let two : 2 ≤ d = omega (arith, three) in
          goes_on (linked d member state.known node port)
          (linked_old d count member state.known node port here off two)
          (linked_knows d count member state.known node port here off two)
          (subst (IsPlaced d (linked d member state.known node port)) (sym it.to)
          (linked_here d count member state.known node port here off two))
          (λ other label on spoke. absurd (not_bound other label on)) it.others it.unreached

      -- its node's spoke is not known, so the port can be the spoke and lead into the black hole
      module _ (fresh : IsFresh d count member state.known node port) where
        abbrev changes : Member
        changes = exchanged count member node port

        abbrev then_known : Known
        then_known = added state.known node port

        is_mover : agent < terms.agents
        is_mover = mover (λ same. let both : Bound node port ≡ At node came = sym it.to ∙ same ∙ it.at in cc)

        not_occupant : (slot : ℕ) → slot < count → state.stands.occupant slot ≢ agent
        not_occupant slot early same = not_bound (member.owner slot) (member.port (member.owner slot) 2)
            (ap state.configuration.position (sym same) ∙ state.stands.occupied slot early)

        -- The exchange preserves the spoke on which an agent was destroyed.
        same_spoke : (slot : ℕ) → slot < count
            → Bound (member.owner slot) (member.port (member.owner slot) 2)
            ≡ Bound (changes.owner slot) (changes.port (changes.owner slot) 2)
        same_spoke slot early =
            let owner : ℕ = member.owner slot in
            let room : count < 2 * d = fresh.room in
            let on_cycle : owner < 2 * d = state.is.owner_below slot (omega (arith, early, room)) in
            let its_slot : member.slot owner ≡ slot = state.is.slot_of_owner slot in
            let was : state.known owner (member.port owner 2) ≡ true =
            state.knows.spokes owner on_cycle (omega (arith, its_slot, early)) in
            ap (Bound owner) (sym (kept d count member state.known node port fresh owner (member.port owner 2) was))
            ∙ ap (λ (s : ℕ). Bound (member.owner s) (changes.port (member.owner s) 2))
            (sym (same_slot d count member state.known node port fresh slot early))

        new_spoke : Bound node port ≡ Bound (changes.owner count) (changes.port (changes.owner count) 2)
        new_spoke = ap (Bound node) (sym (spoke_here d count member state.known node port fresh))
            ∙ ap (λ (v : ℕ). Bound v (changes.port v 2)) (sym (owner_here d count member state.known node port fresh))

        stands_on : IsStanding d (count + 1) terms.agents changes then_known new
        stands_on = record {
          placed = λ k. elim (eqb_tells k agent) [
            | inl h ↦ subst (λ (j : ℕ). IsPlaced d then_known (new.position j)) (sym h.1)
                (subst (IsPlaced d then_known) (sym it.to) (added_here state.known node port))
            | inr h ↦ subst (IsPlaced d then_known) (sym (it.others k h.1))
                (wider d state.known then_known (added_old state.known node port) (state.configuration.position k)
                (state.stands.placed k))
          ];
          unreached = it.unreached;
          occupant = changed state.stands.occupant count agent;
          within = λ slot early. elim (eqb_tells slot count) [
            | inl h ↦ subst (λ (k : ℕ). k < terms.agents)
                (sym (ap (changed state.stands.occupant count agent) h.1
                ∙ changed_same state.stands.occupant count agent)) is_mover
            | inr h ↦ subst (λ (k : ℕ). k < terms.agents)
                (sym (changed_other state.stands.occupant count slot agent h.0))
                (state.stands.within slot (let apart : slot ≢ count = h.1 in omega (arith, early, apart)))
          ];
          occupied = λ slot early. elim (eqb_tells slot count) [
            | inl h ↦ ap new.position (ap (changed state.stands.occupant count agent) h.1
                ∙ changed_same state.stands.occupant count agent) ∙ it.to ∙ new_spoke
                ∙ ap (λ (s : ℕ). Bound (changes.owner s) (changes.port (changes.owner s) 2)) (sym h.1)
            | inr h ↦
                let before : slot < count = let apart : slot ≢ count = h.1 in omega (arith, early, apart) in
                ap new.position (changed_other state.stands.occupant count slot agent h.0)
                ∙ it.others (state.stands.occupant slot) (not_occupant slot before)
                ∙ state.stands.occupied slot before ∙ same_spoke slot before
          ];
        }

        by_spoke : Grown count
        by_spoke = record {
          member = changes;
          schedule = longer;
          state = record {
            is = exchanged_is d count member state.known node port fresh;
            known = then_known;
            knows = consumed_knows d count member state.known node port fresh;
            configuration = new;
            plays = λ other is agree. plays_on other is (λ v p was. agree v p (added_old state.known node port v p was)
                ∙ agrees d count member state.known node port fresh v p was);
            stands = stands_on;
          };
        }

      -- one of the three
      departs_by : (State count member longer) ⊎ Grown count
      departs_by = by_cases (state.known node port) ((State count member longer) ⊎ Grown count)
          (λ was. inl (by_known was))
          (λ unknown. elim (cases_lt (member.slot node) count) [
            | inl h ↦ inl (by_link (λ spoke.
                let is_port : member.port node 2 ≡ port =
                ap (member.port node) (sym spoke) ∙ state.is.port_of_role node port in
                true≢false (sym (state.knows.spokes node here.within h) ∙ ap (state.known node) is_port ∙ unknown)))
            | inr h ↦ inr (by_spoke (record {
              at = here;
              unknown = unknown;
              unspent = h;
              room = omega (arith, counted, three);
            }))
          ])

    departs : (node port : ℕ) (came : Option ℕ) → port < degrees d node → IsDeparture node port came
        → (State count member longer) ⊎ Grown count
    departs node port came has it =
        let within : node < 2 * d = subst (IsPlaced d state.known) it.at (state.stands.placed agent) in
        let links : degrees d node ≡ 3 =
        cond-true (nat_lt node (2 * d)) 3 (if nat_lt node (2 * d + 2) then d else 0) (lt-ltb node (2 * d) within) in
        departs_by node port came it (record {
          is = state.is;
          knows = state.knows;
          within = within;
          below = subst (λ (n : ℕ). port < n) links has;
        })

    -- Arrivals happen at cycle nodes.
    arrives : (node port : ℕ) → state.configuration.position agent ≡ Bound node port
        → 2 * d + 1 ≢ (far member node port).0
        → new.position agent ≡ At (far member node port).0 (Some (far member node port).1)
        → ((k : ℕ) → k ≢ agent → new.position k ≡ state.configuration.position k)
        → (new.reached (2 * d) ≡ true → state.configuration.reached (2 * d) ≡ false → 2 * d ≡ (far member node port).0)
        → State count member longer
    arrives node port at not_hole to others comes =
        let was : state.known node port ≡ true = subst (IsPlaced d state.known) at (state.stands.placed agent) in
        let cycle : node < 2 * d = state.knows.cycle node port was in
        let below : port < 3 = state.knows.below node port was in
        let leads_to : far member node port ≡ leads d member node port =
        far_is member state.is node port cycle below in
        let off : member.role node port ≢ 2 = λ spoke.
        let early : member.slot node < count = state.knows.spent node port was spoke in
        not_hole (sym (ap (λ (e : ℕ × ℕ). e.0) (leads_to ∙ leads_off d member node port cycle spoke
        ∙ first_slots d (member.slot node) (omega (arith, early, counted))))) in
        let small : member.role node port < 2 =
        let it : member.role node port < 3 = state.is.role_below node port below in omega (arith, it, off) in
        let there : (far member node port).0 ≡ beside d node (member.role node port) =
        ap (λ (e : ℕ × ℕ). e.0) (leads_to ∙ leads_on d member node port cycle off) in
        let on_cycle : beside d node (member.role node port) < 2 * d =
        beside_below d node (member.role node port) (omega (arith, three)) cycle small in
        goes_on state.known same_known state.knows
        (subst (IsPlaced d state.known) (sym to) (subst (λ (v : ℕ). v < 2 * d) (sym there) on_cycle))
        (λ v p on spoke. absurd (off (ap (λ (place : Position). member.role (node_on place) (port_on place))
        (sym at ∙ on) ∙ spoke)))
        others
        (by_cases (new.reached (2 * d)) (new.reached (2 * d) ≡ false)
        (λ now. absurd (let safe : 2 * d ≡ (far member node port).0 = comes now state.stands.unreached in
        omega (arith, safe, there, on_cycle)))
        (λ never. never))

    -- a turn of any kind, under the same member, or under another with one more agent lost
    stepped : Kind (2 * d + 2) (degrees d) (2 * d + 1) terms strategies (far member)
        (2 * d) state.configuration agent new
        → (State count member longer) ⊎ Grown count
    stepped (Stays turn reached) = inl (goes_on state.known same_known state.knows
        (subst (IsPlaced d state.known) (sym turn.here) (state.stands.placed agent)) (λ v p on spoke. turn.here)
        turn.others (reached ∙ state.stands.unreached))
    stepped (Enters turn reached free) = inl (goes_on state.known same_known state.knows
        (subst (IsPlaced d state.known) (sym turn.here) (let home : 0 < 2 * d = omega (arith, three) in home))
        (λ v p on spoke. absurd (free v p on)) turn.others (reached ∙ state.stands.unreached))
    stepped (Ends turn reached free) = inl (goes_on state.known same_known state.knows
        (subst (IsPlaced d state.known) (sym turn.here) tt)
        (λ v p on spoke. absurd (free v p on)) turn.others (reached ∙ state.stands.unreached))
    stepped (Departs node port came at has turn reached) = departs node port came has (record {
      at = at;
      to = turn.here;
      others = turn.others;
      unreached = reached ∙ state.stands.unreached;
    })
    stepped (Arrives node port at not_hole turn comes) =
        inl (arrives node port at not_hole turn.here turn.others comes)

    pub step : (State count member longer) ⊎ Grown count
    step = stepped (turn_kind (2 * d + 2) (degrees d) (2 * d + 1) terms strategies (far member)
        (2 * d) state.configuration agent)

  -- ---- and a schedule

  pub walk : (more : List ℕ) (count : ℕ) (member : Member) (schedule : List ℕ) → State count member schedule
      → (State count member (schedule ++ more)) ⊎ Grown count
  walk [] count member schedule state = inl (subst (State count member) (sym (no_more schedule)) state)
    where
      no_more : (xs : List ℕ) → xs ++ [] ≡ xs
      no_more [] = refl
      no_more (x ∷ xs) = ap (λ (ys : List ℕ). x ∷ ys) (no_more xs)
  walk (agent ∷ more) count member schedule state = elim (step count member schedule state agent) [
    | inr grown ↦ inr grown
    | inl next ↦ elim (walk more count member (schedule ++ agent ∷ []) next) [
      | inr grown ↦ inr grown
      | inl last ↦ inl (subst (State count member) (append_assoc schedule (agent ∷ []) more) last)
    ]
  ]
