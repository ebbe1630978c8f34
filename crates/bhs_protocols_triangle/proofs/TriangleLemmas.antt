-- The triangle is solved. A proof by an invariant has these parts: the network (where links lead and which destroy),
-- the invariant, turns (one lemma for each phase), rest, and all together.
use Rattle.std.proofs.Common.{ℕ, zero, suc, ◌+◌, ◌-◌, ◌*◌, ◌<◌, ◌≤◌, ◌≡◌, ◌⊎◌, Bool, true, false, not, ◌==◌}
use Rattle.std.proofs.Common.{Option, Some, None, refl, sym, ap, ◌∙◌, subst, inl, inr, arith}
use Rattle.std.specs.Prelude.{◌≢◌}
use Rattle.std.proofs.Math.Path.{transport⁻¹}
use Rattle.std.proofs.lemmas.Bool.{true≢false, eq-eqb, ne_eqb}
use Rattle.std.proofs.lemmas.Bool.Decides.{eqb_tells}
use Rattle.bhs_model.specs.declared.commands.Command.TheVariants.{Enter, Depart, Accuse}
use Rattle.bhs_model.specs.declared.replies.Reply.TheVariants.{Here, Gone, Noted, Over}
use Rattle.bhs_model.specs.Worlds.{World, doomed}
use Rattle.bhs_model.specs.Setups.{world_of}
use Rattle.bhs_model.specs.Runs.{Position, Before, At, Bound, After, changed}
use Rattle.bhs_model.proofs.StepLemmas.{changed_same}
use Rattle.bhs_net.specs.Network.{nodes_of}
use Rattle.bhs_referee.specs.declared.verdicts.Outcome.TheVariants.{Solved}
use Rattle.bhs_referee.specs.Verdicts.{is_present}
use Rattle.bhs_schedules.specs.declared.answers.Step.TheVariants.{Says, Sleeps, Fails}
use Rattle.bhs_schedules.specs.Strategies.{Observation, Heard}
use Rattle.bhs_schedules.specs.Schedules.{Trial}
use Rattle.bhs_protocols.specs.Configurations.{Configuration, IsResting, blank, can_move_in, turn_in, outcome_in}
use Rattle.bhs_protocols.specs.Configurations.{doomed_in}
use Rattle.bhs_protocols.specs.Invariants.{GoesOn, IsInvariant}
use Rattle.bhs_protocols.specs.Rings.{Ways, IsSearch}
use Rattle.bhs_protocols.specs.AllRings.{IsAway, ways_of}
use Rattle.bhs_protocols.proofs.Principle.{invariants_solve}
use Rattle.bhs_protocols.proofs.RingLemmas.{rings_are_rings}
use Rattle.bhs_protocols.proofs.SearchLemmas as lemmas
use Rattle.bhs_protocols.proofs.SearchLemmas.{both, Pair, apart_from, one_zero, opposite, sides, zero_one}
use Rattle.bhs_protocols.proofs.TurnLemmas.{Becomes, enters, departs, accuses}
use Rattle.bhs_protocols_triangle.specs.Triangle.{Phase, Begins, Departs, Goes, Turns, ComesBack, Accuses, Ends}
use Rattle.bhs_protocols_triangle.specs.Triangle.{does_in}
use Rattle.bhs_protocols_triangle.specs.Triangle.{next_phase, phase_after, triangle_trial, triangle_bounds}
use Rattle.bhs_protocols_triangle.specs.Triangle.{TriangleIsSolved}
use Rattle.bhs_protocols.proofs.MovingLemmas.{says_moves, bound_moves, end_stays, arrives_at, grows_by}

module _ (world : World) (n right left wakeups : ℕ) (ways : Ways) (search : IsSearch world n right left ways)
    (three : n ≡ 3) (enough : 3 ≤ world.quota) where
  abbrev trial : Trial
  trial = triangle_trial world wakeups

  -- ---- the network

  -- the next node of a side, and the port there that leads back
  abbrev next : (s : ℕ) → ℕ
  next s = ways.node s 1

  abbrev label : (s : ℕ) → ℕ
  label s = 1 - ways.ahead s 1

  out : (s : ℕ) → s < 2 → world.net.far world.home s ≡ (next s, label s)
  out s below =
      (λ i. world.net.far (sym (search.ring.home s) i) (sym (search.ring.first s below) i))
      ∙ search.ring.out s 0 below (omega (arith, three))

  back : (s : ℕ) → s < 2 → world.net.far (next s) (label s) ≡ (world.home, s)
  back s below =
      search.ring.back s 0 below (omega (arith, three))
      ∙ (λ i. (search.ring.home s i, search.ring.first s below i))

  home_degree : (s : ℕ) → s < 2 → world.net.degree world.home ≡ 2
  home_degree s below =
      ap world.net.degree (sym (search.ring.home s)) ∙ search.ring.two s 0 below (omega (arith, three))

  -- The distance of the black hole on a side: one step on its own side, two on the opposite side.
  abbrev distance : ℕ → ℕ
  distance = lemmas.distance (sides search)

  sum_is : (s o : ℕ) → Pair s o → distance s + distance o ≡ 3
  sum_is s o pair = lemmas.sum_is (sides search) s o pair ∙ three

  positive : (s : ℕ) → s < 2 → 0 < distance s
  positive = lemmas.positive (sides search)

  near_or_far : (s o : ℕ) → Pair s o → (distance s ≡ 1) ⊎ (distance s ≡ 2)
  near_or_far s o pair = elim (eqb_tells (distance s) 1) [
    | inl h ↦ inl h.1
    | inr h ↦ inr (omega (arith, sum_is s o pair, positive s pair.own, positive o pair.other, h.1))
  ]

  -- which links destroy
  out_doomed : (s : ℕ) → s < 2 → doomed world world.home s ≡ (ways.node 0 right == next s)
  out_doomed s below =
      lemmas.doomed_is (sides search) world.home s (next s) (label s) (out s below)

  near_doomed : (s : ℕ) → s < 2 → distance s ≡ 1 → doomed world world.home s ≡ true
  near_doomed s below near =
      out_doomed s below
      ∙ eq-eqb (ways.node 0 right) (next s)
      (sym (lemmas.hole_at (sides search) s below) ∙ ap (ways.node s) near)

  far_safe : (s : ℕ) → s < 2 → distance s ≡ 2 → doomed world world.home s ≡ false
  far_safe s below far =
      out_doomed s below ∙ lemmas.safe_before (sides search) s 1 below (omega (arith, far))

  back_safe : (s : ℕ) → s < 2 → doomed world (next s) (label s) ≡ false
  back_safe s below =
      lemmas.doomed_is (sides search) (next s) (label s) world.home s (back s below)
      ∙ ap (λ (k : ℕ). ways.node 0 right == k) (sym (search.ring.home s))
      ∙ lemmas.safe_before (sides search) s 0 below (positive s below)

  -- ---- the invariant: the phase of an agent determines

  -- the agent's position,
  abbrev place : (s : ℕ) → Phase → Position
  place s Begins = Before
  place s Departs = At world.home None
  place s Goes = Bound world.home s
  place s (Turns port) = At (next s) (Some (label s))
  place s ComesBack = Bound (next s) (label s)
  place s Accuses = At world.home (Some s)
  place s Ends = After

  -- which link it has accused,
  abbrev accusation : (s : ℕ) → Phase → Option (ℕ × ℕ)
  accusation s Ends = Some (world.home, 1 - s)
  accusation s phase = None

  -- how many commands it has used, how many moves it has made, and how many turns it has had,
  abbrev commands : Phase → ℕ
  commands Begins = 0
  commands Departs = 0
  commands Goes = 1
  commands (Turns port) = 1
  commands ComesBack = 2
  commands Accuses = 2
  commands Ends = 3

  abbrev moved : Phase → ℕ
  moved Ends = 2
  moved phase = commands phase

  abbrev turned : Phase → ℕ
  turned Begins = 0
  turned Departs = 1
  turned Goes = 2
  turned (Turns port) = 3
  turned ComesBack = 4
  turned Accuses = 5
  turned Ends = 6

  -- whether the agent has visited the next node of its side, and the port back, according to its phase
  abbrev was_there : Phase → Bool
  was_there Begins = false
  was_there Departs = false
  was_there Goes = false
  was_there phase = true

  abbrev port_in : (otherwise : ℕ) → Phase → ℕ
  port_in otherwise (Turns port) = port
  port_in otherwise phase = otherwise

  -- An agent that has visited the node knows that the black hole lies on the other side.
  abbrev IsSafe : (s : ℕ) → Phase → (reached : ℕ → Bool) → Type 0
  IsSafe s phase reached = was_there phase ≡ true → (distance s ≡ 2) × (reached (next s) ≡ true)

  -- what holds of one agent
  record IsFit (s : ℕ) (phase : Phase) (position : Position) (used : ℕ) (accused : Option (ℕ × ℕ)) (reached : ℕ
      → Bool) : Type 0 where
    at : position ≡ place s phase
    spends : used ≡ commands phase
    blames : accused ≡ accusation s phase
    port : port_in (label s) phase ≡ label s
    safe : IsSafe s phase reached

  abbrev phase_in : Configuration → (s : ℕ) → Phase
  phase_in configuration s = phase_after (configuration.history s)

  abbrev IsFitIn : Configuration → (s : ℕ) → Type 0
  IsFitIn configuration s =
      IsFit s (phase_in configuration s) (configuration.position s) (configuration.used s) (configuration.accused s)
      configuration.reached

  -- The invariant of both agents. It is symmetric, so one lemma per phase serves both.
  record Inv (s o : ℕ) (configuration : Configuration) : Type 0 where
    own : IsFitIn configuration s
    other : IsFitIn configuration o
    moves : configuration.moves ≡ moved (phase_in configuration s) + moved (phase_in configuration o)
    none : (k : ℕ) → 2 ≤ k → configuration.used k ≡ 0

  seen_from_other : (s o : ℕ) (configuration : Configuration) → Inv s o configuration → Inv o s configuration
  seen_from_other s o configuration inv =
      record { own = inv.other; other = inv.own; moves = omega (arith, inv.moves); none = inv.none }

  -- ---- turns

  -- after a turn of agent s that moves
  record Onward (s o : ℕ) (old new : Configuration) : Type 0 where
    inv : Inv s o new
    more : turned (phase_in new s) ≡ turned (phase_in old s) + 1
    same : phase_in new o ≡ phase_in old o

  -- The commands and turns between two phases: computed by `refl`.
  abbrev Takes : (s : ℕ) (now later : Phase) (costs steps : ℕ) → Type 0
  Takes s now later costs steps =
      (commands later ≡ commands now + costs) × (moved later ≡ moved now + steps) × (turned later ≡ turned now + 1)
      × (port_in (label s) later ≡ label s)

  -- an arrival makes one node more reached
  module _ (s o : ℕ) (old : Configuration) (pair : Pair s o) (inv : Inv s o old) where
    abbrev phase : Phase
    phase = phase_in old s

    abbrev new : Configuration
    new = turn_in trial old s

    -- The invariant after a turn. It is left to show the turn's costs, the agent's accusation, the safe nodes, and that
    -- reached nodes stay reached.
    onward : (now later : Phase) (news : Observation) (costs steps : ℕ) (accused : Option (ℕ × ℕ)) (reached : ℕ → Bool)
        → phase ≡ now → next_phase now news ≡ later
        → Becomes old new s (place s later) news costs steps accused old.shown reached
        → Takes s now later costs steps → accused ≡ accusation s later → IsSafe s later reached
        → ((k : ℕ) → old.reached k ≡ true → reached k ≡ true) → Onward s o old new
    onward now later news costs steps accused reached is leads becomes takes blames safe grows =
        let apart : (o == s) ≡ false = apart_from s o pair in
        let own : phase_in new s ≡ later =
        ap phase_after becomes.news ∙ ap (λ (p : Phase). next_phase p news) is ∙ leads in
        let others : phase_in new o ≡ phase_in old o = ap phase_after (becomes.other_news o apart) in
        let used : old.used s ≡ commands now = inv.own.spends ∙ ap commands is in
        record {
          inv = record {
            own = transport⁻¹ (λ i. IsFit s (own i) (becomes.place i) (becomes.used i) (becomes.accused i)
                (becomes.reached i)) (record {
                  at = refl;
                  spends = omega (arith, used, takes.0);
                  blames = blames;
                  port = takes.3;
                  safe = safe;
                });
            other = transport⁻¹ (λ i. IsFit o (others i) (becomes.other_place o apart i)
                (becomes.other_used o apart i) (becomes.other_accused o apart i) (becomes.reached i)) (record {
                  at = inv.other.at;
                  spends = inv.other.spends;
                  blames = inv.other.blames;
                  port = inv.other.port;
                  safe = λ there. let known = inv.other.safe there in (known.0, grows (next o) known.1);
                });
            moves = omega (arith, becomes.moves, inv.moves, takes.1, ap moved is, ap moved own, ap moved others);
            none = λ k beyond. becomes.other_used k (beyond_two k beyond) ∙ inv.none k beyond;
          };
          more = omega (arith, takes.2, ap turned is, ap turned own);
          same = others;
        }
      where
        beyond_two : (k : ℕ) → 2 ≤ k → (k == s) ≡ false
        beyond_two k beyond = ne_eqb k s (λ h. omega (arith, h, beyond, pair.own))

    within : s < world.agents
    within = subst (λ (k : ℕ). s < k) (sym search.agents) pair.own

    at_as : (now : Phase) → phase ≡ now → old.position s ≡ place s now
    at_as now is = inv.own.at ∙ ap (place s) is

    blames_as : (now : Phase) → phase ≡ now → old.accused s ≡ accusation s now
    blames_as now is = inv.own.blames ∙ ap (accusation s) is

    has_room : (now : Phase) → phase ≡ now → commands now ≤ 2 → old.used s < world.quota
    has_room now is few = omega (arith, inv.own.spends, ap commands is, few, enough)

    begin_turn : phase ≡ Begins → Onward s o old new
    begin_turn is =
        onward Begins Departs (Heard (Here (world.net.degree world.home) None (old.shown world.home))) 0 0
        (old.accused s) old.reached is refl (enters trial old s within (at_as Begins is) (ap (does_in s) is))
        (refl, refl, refl, refl) (blames_as Begins is) (λ there. absurd (true≢false (sym there))) (λ k was. was)

    depart_turn : phase ≡ Departs → Onward s o old new
    depart_turn is =
        onward Departs Goes (Heard Gone) 1 1 (old.accused s) old.reached is refl
        (departs trial old s within world.home s None (at_as Departs is) (ap (does_in s) is)
        (has_room Departs is (omega arith)) (omega (arith, home_degree s pair.own, pair.own)))
        (refl, refl, refl, refl) (blames_as Departs is) (λ there. absurd (true≢false (sym there))) (λ k was. was)

    -- on the link to the next node: who moves is not lost
    go_turn : phase ≡ Goes → can_move_in trial old s ≡ true → Onward s o old new
    go_turn is moves = elim (near_or_far s o pair) [
      | inl near ↦
          absurd (true≢false (sym moves ∙ bound_moves trial old s within world.home s (at_as Goes is) refl
          ∙ ap not (near_doomed s pair.own near)))
      | inr far ↦
          onward Goes (Turns (label s))
          (Heard (Here (world.net.degree (next s)) (Some (label s)) (old.shown (next s)))) 0 0 (old.accused s)
          (changed old.reached (next s) true) is refl
          (arrives_at trial old s within world.home s (next s) (label s) (at_as Goes is) refl (out s pair.own)
          (far_safe s pair.own far)) (refl, refl, refl, refl) (blames_as Goes is)
          (λ there. (far, changed_same old.reached (next s) true)) (grows_by old.reached (next s))
    ]

    turn_turn : (port : ℕ) → phase ≡ Turns port → Onward s o old new
    turn_turn port is =
        let leads : port ≡ label s = ap (port_in (label s)) (sym is) ∙ inv.own.port in
        let degree : world.net.degree (next s) ≡ 2 = search.ring.two s 1 pair.own (omega (arith, three)) in
        onward (Turns port) ComesBack (Heard Gone) 1 1 (old.accused s) old.reached is refl
        (departs trial old s within (next s) (label s) (Some (label s)) (at_as (Turns port) is)
        (ap (does_in s) is ∙ ap (λ (k : ℕ). Says (Depart k)) leads) (has_room (Turns port) is (omega arith))
        (omega (arith, degree))) (refl, refl, refl, refl) (blames_as (Turns port) is)
        (λ there. inv.own.safe (ap was_there is)) (λ k was. was)

    back_turn : phase ≡ ComesBack → Onward s o old new
    back_turn is =
        let known = inv.own.safe (ap was_there is) in
        onward ComesBack Accuses (Heard (Here (world.net.degree world.home) (Some s) (old.shown world.home))) 0 0
        (old.accused s) (changed old.reached world.home true) is refl
        (arrives_at trial old s within (next s) (label s) world.home s (at_as ComesBack is) refl (back s pair.own)
        (back_safe s pair.own)) (refl, refl, refl, refl) (blames_as ComesBack is)
        (λ there. (known.0, grows_by old.reached world.home (next s) known.1)) (grows_by old.reached world.home)

    accuse_turn : phase ≡ Accuses → Onward s o old new
    accuse_turn is =
        onward Accuses Ends (Heard Noted) 1 0 (Some (world.home, 1 - s)) old.reached is refl
        (accuses trial old s within world.home (1 - s) (Some s) (at_as Accuses is) (ap (does_in s) is)
        (has_room Accuses is (omega arith)) (omega (arith, home_degree s pair.own)))
        (refl, refl, refl, refl) refl (λ there. inv.own.safe (ap was_there is)) (λ k was. was)

    any_turn : (now : Phase) → phase ≡ now → can_move_in trial old s ≡ true → Onward s o old new
    any_turn Begins is moves = begin_turn is
    any_turn Departs is moves = depart_turn is
    any_turn Goes is moves = go_turn is moves
    any_turn (Turns port) is moves = turn_turn port is
    any_turn ComesBack is moves = back_turn is
    any_turn Accuses is moves = accuse_turn is
    any_turn Ends is moves = absurd (true≢false (sym moves ∙ end_stays trial old s within (at_as Ends is)))

    -- ---- rest

    -- who cannot move has ended, or is lost
    resting : (now : Phase) → phase ≡ now → can_move_in trial old s ≡ false
        → (phase ≡ Ends) ⊎ ((phase ≡ Goes) × (distance s ≡ 1))
    resting Begins is still =
        absurd (true≢false (sym (says_moves trial old s within Before Enter (at_as Begins is) refl
        (ap (does_in s) is)) ∙ still))
    resting Departs is still =
        absurd (true≢false (sym (says_moves trial old s within (At world.home None) (Depart s) (at_as Departs is) refl
        (ap (does_in s) is)) ∙ still))
    resting Goes is still = elim (near_or_far s o pair) [
      | inl near ↦ inr (is, near)
      | inr far ↦
          absurd (true≢false (sym (bound_moves trial old s within world.home s (at_as Goes is) refl
          ∙ ap not (far_safe s pair.own far)) ∙ still))
    ]
    resting (Turns port) is still =
        absurd (true≢false (sym (says_moves trial old s within (At (next s) (Some (label s))) (Depart port)
        (at_as (Turns port) is) refl (ap (does_in s) is)) ∙ still))
    resting ComesBack is still =
        absurd (true≢false (sym (bound_moves trial old s within (next s) (label s) (at_as ComesBack is) refl
        ∙ ap not (back_safe s pair.own)) ∙ still))
    resting Accuses is still =
        absurd (true≢false (sym (says_moves trial old s within (At world.home (Some s)) (Accuse (1 - s))
        (at_as Accuses is) refl (ap (does_in s) is)) ∙ still))
    resting Ends is still = inl is

    -- agent s has ended and the other is lost, so the match is solved
    solved_if : phase ≡ Ends → phase_in old o ≡ Goes → distance o ≡ 1
        → (outcome_in world old ≡ Solved) × (doomed_in world old ≤ 1)
    solved_if ends goes near =
        let known = inv.own.safe (ap was_there ends) in
        let across : 1 - s ≡ o = both (λ (k : ℕ). 1 - k ≡ opposite k) refl refl s pair.own ∙ sym pair.is in
        let accuses = lemmas.ring_accuser search old s o 0 pair.other (sym near) (blames_as Ends ends
        ∙ (λ i. Some (sym (search.ring.home o) i, (across ∙ sym (search.ring.first o pair.other)) i))) in
        lemmas.solved_once (sides search) s o 1 0 old pair (record {
          accuses = accuses;
          ended = at_as Ends ends;
          own = record {
            accused = inr accuses;
            away = ap is_present (at_as Ends ends);
            reached = λ k some far.
                let one : k ≡ 1 = omega (arith, some, far) in
                ap (λ (m : ℕ). old.reached (ways.node s m)) one ∙ known.1;
          };
          other = record {
            accused = inl (inv.other.blames ∙ ap (accusation o) goes);
            away = ap is_present (inv.other.at ∙ ap (place o) goes);
            reached = λ k some far. absurd (omega (arith, some, far));
          };
          all = omega (arith, known.0);
          all_too = omega (arith, near);
        })

  -- ---- all together

  -- both have not ended, since the black hole is next to the home base on one side, and both are not lost
  at_rest : (configuration : Configuration) → Inv 0 1 configuration → IsResting trial configuration
      → (outcome_in world configuration ≡ Solved) × (doomed_in world configuration ≤ 1)
  at_rest configuration inv still =
      let inv_too : Inv 1 0 configuration = seen_from_other 0 1 configuration inv in
      let sum : distance 0 + distance 1 ≡ 3 = sum_is 0 1 zero_one in
      elim (resting 0 1 configuration zero_one inv (phase_in configuration 0) refl (still 0)) [
        | inl h ↦ elim (resting 1 0 configuration one_zero inv_too (phase_in configuration 1) refl (still 1)) [
          | inl it ↦
              let one : distance 0 ≡ 2 = (inv.own.safe (ap was_there h)).0 in
              let two : distance 1 ≡ 2 = (inv.other.safe (ap was_there it)).0 in
              absurd (omega (arith, sum, one, two))
          | inr it ↦ solved_if 0 1 configuration zero_one inv h it.0 it.1
        ]
        | inr h ↦ elim (resting 1 0 configuration one_zero inv_too (phase_in configuration 1) refl (still 1)) [
          | inl it ↦ solved_if 1 0 configuration one_zero inv_too it h.0 h.1
          | inr it ↦ absurd (omega (arith, sum, h.1, it.1))
        ]
      ]

  -- An agent neither fails nor sleeps.
  never : (s : ℕ) (phase : Phase) → (does_in s phase ≢ Fails) × (does_in s phase ≢ Sleeps)
  never s Begins = (λ h. cc, λ h. cc)
  never s Departs = (λ h. cc, λ h. cc)
  never s Goes = (λ h. cc, λ h. cc)
  never s (Turns port) = (λ h. cc, λ h. cc)
  never s ComesBack = (λ h. cc, λ h. cc)
  never s Accuses = (λ h. cc, λ h. cc)
  never s Ends = (λ h. cc, λ h. cc)

  -- how many turns, moves and commands an agent has had at most, by how far the black hole is on its side
  abbrev Few : (s : ℕ) → Phase → Type 0
  Few s phase = (turned phase + 2 ≤ 4 * distance s) × (moved phase ≤ distance s) × (commands phase ≤ 3)

  few : (s : ℕ) (phase : Phase) → 0 < distance s → (was_there phase ≡ true → distance s ≡ 2) → Few s phase
  few s Begins some far = (omega (arith, some), omega (arith, some), omega arith)
  few s Departs some far = (omega (arith, some), omega (arith, some), omega arith)
  few s Goes some far = (omega (arith, some), omega (arith, some), omega arith)
  few s (Turns port) some far = let two = far refl in (omega (arith, two), omega (arith, two), omega arith)
  few s ComesBack some far = let two = far refl in (omega (arith, two), omega (arith, two), omega arith)
  few s Accuses some far = let two = far refl in (omega (arith, two), omega (arith, two), omega arith)
  few s Ends some far = let two = far refl in (omega (arith, two), omega (arith, two), omega arith)

  few_of_both : (configuration : Configuration) → Inv 0 1 configuration
      → Few 0 (phase_in configuration 0) × Few 1 (phase_in configuration 1)
  few_of_both configuration inv = (
    few 0 (phase_in configuration 0) (positive 0 (omega arith)) (λ there. (inv.own.safe there).0),
    few 1 (phase_in configuration 1) (positive 1 (omega arith)) (λ there. (inv.other.safe there).0),
  )

  -- The invariant, together with the remaining turns of the bound.
  record Holds (configuration : Configuration) (turns : ℕ) : Type 0 where
    inv : Inv 0 1 configuration
    total : turned (phase_in configuration 0) + turned (phase_in configuration 1) + turns ≡ 8

  first_fit : (s : ℕ) → IsFitIn blank s
  first_fit s = record {
    at = refl;
    spends = refl;
    blames = refl;
    port = refl;
    safe = λ there. absurd (true≢false (sym there));
  }

  -- after one turn more, one less is left
  holds_on : (configuration : Configuration) (turns : ℕ) → Inv 0 1 configuration
      → turned (phase_in configuration 0) + turned (phase_in configuration 1) + turns ≡ 9
      → GoesOn Holds turns configuration
  holds_on configuration turns inv total =
      let both_few = few_of_both configuration inv in
      let sum : distance 0 + distance 1 ≡ 3 = sum_is 0 1 zero_one in
      record {
        rest = turns - 1;
        fewer = omega (arith, total, both_few.0.0, both_few.1.0, sum);
        holds = record { inv = inv; total = omega (arith, total, both_few.0.0, both_few.1.0, sum) };
      }

  goes_on : (configuration : Configuration) (turns agent : ℕ) → agent < 2 → can_move_in trial configuration agent ≡ true
      → Holds configuration turns → GoesOn Holds turns (turn_in trial configuration agent)
  goes_on configuration turns zero below moves it =
      let on : Onward 0 1 configuration (turn_in trial configuration 0) =
      any_turn 0 1 configuration zero_one it.inv (phase_in configuration 0) refl moves in
      holds_on (turn_in trial configuration 0) turns on.inv (omega (arith, it.total, on.more, ap turned on.same))
  goes_on configuration turns (suc zero) below moves it =
      let on : Onward 1 0 configuration (turn_in trial configuration 1) =
      any_turn 1 0 configuration one_zero (seen_from_other 0 1 configuration it.inv) (phase_in configuration 1) refl
      moves in
      holds_on (turn_in trial configuration 1) turns (seen_from_other 1 0 (turn_in trial configuration 1) on.inv)
      (omega (arith, it.total, on.more, ap turned on.same))
  goes_on configuration turns (suc (suc k)) below moves it = absurd (omega (arith, below))

  commands_within : (configuration : Configuration) (agent : ℕ) → Inv 0 1 configuration → configuration.used agent ≤ 3
  commands_within configuration zero inv = omega (arith, inv.own.spends, (few_of_both configuration inv).0.2)
  commands_within configuration (suc zero) inv = omega (arith, inv.other.spends, (few_of_both configuration inv).1.2)
  commands_within configuration (suc (suc k)) inv = omega (arith, inv.none (suc (suc k)) (omega arith))

  moves_within : (configuration : Configuration) → Inv 0 1 configuration → configuration.moves ≤ 3
  moves_within configuration inv =
      let both_few = few_of_both configuration inv in
      omega (arith, inv.moves, both_few.0.1, both_few.1.1, sum_is 0 1 zero_one)

  invariant : IsInvariant trial triangle_bounds Holds
  invariant = record {
    first = λ agent. refl;
    begins = record {
      inv = record { own = first_fit 0; other = first_fit 1; moves = refl; none = λ k beyond. refl };
      total = refl;
    };
    goes_on = λ configuration turns agent within moves it.
        goes_on configuration turns agent (subst (λ (k : ℕ). agent < k) search.agents within) moves it;
    moves = λ configuration turns it. moves_within configuration it.inv;
    commands = λ configuration turns agent it. commands_within configuration agent it.inv;
    fine = λ configuration turns agent within it. (never agent (phase_in configuration agent)).0;
    settles = λ configuration turns still it.
        let good = at_rest configuration it.inv still in
        record {
          outcome = good.0;
          few = good.1;
          over = λ agent node port within at. (never agent (next_phase (phase_in configuration agent) (Heard Over))).0;
          awake = λ agent within at. (never agent (phase_in configuration agent)).1;
        };
  }

-- Every ring of a file with three nodes is one of the triangles above.
pub triangle_is_solved : TriangleIsSolved
triangle_is_solved net setup hole wakeups is three enough =
    let away : IsAway net setup hole = rings_are_rings net setup hole is in
    let world : World = world_of net setup in
    invariants_solve (triangle_trial world wakeups) triangle_bounds
    (Holds world (nodes_of net) away.one away.other wakeups (ways_of net setup.home) away.search three enough)
    (invariant world (nodes_of net) away.one away.other wakeups (ways_of net setup.home) away.search three enough)
