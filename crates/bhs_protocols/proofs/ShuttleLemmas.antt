-- The shuttle solves every ring: its agents explore, and the way to the k-th node of a side has k steps.
use Rattle.std.proofs.Common.{ℕ, zero, suc, ◌+◌, ◌-◌, ◌<◌, ◌≤◌, ◌≡◌, ◌==◌, ◌&&◌, ◌∷◌, List, refl, sym, ap, ◌∙◌}
use Rattle.std.proofs.Common.{Some, subst, if◌then◌else◌, inl, inr, arith, add-one}
use Rattle.std.proofs.lemmas.Bool.{eq-eqb}
use Rattle.std.proofs.lemmas.Bool.Decides.{eqb_tells}
use Rattle.bhs_model.specs.declared.commands.Command.TheVariants.{Depart, Accuse}
use Rattle.bhs_model.specs.declared.replies.Reply.{Reply}
use Rattle.bhs_model.specs.declared.replies.Reply.TheVariants.{Here, Written, Changed, Gone, Noted}
use Rattle.bhs_model.specs.Worlds.{World}
use Rattle.bhs_schedules.specs.declared.answers.Step.TheVariants.{Says}
use Rattle.bhs_schedules.specs.Strategies.{Heard, History}
use Rattle.bhs_protocols.specs.Programs.{held_after, strategies_by}
use Rattle.bhs_protocols.specs.Rings.{Ways, IsSearch}
use Rattle.bhs_protocols.specs.declared.shuttle.Memory.{Memory}
use Rattle.bhs_protocols.specs.declared.shuttle.Phase.{Phase}
use Rattle.bhs_protocols.specs.declared.shuttle.Phase.TheVariants.{Begins, GoesOut, Leaves, ComesBack, Returns, Writes}
use Rattle.bhs_protocols.specs.Shuttle.{other_in, is_one_left, does_in, came_back, after_in, shuttle, round_trips}
use Rattle.bhs_protocols.specs.Shuttle.{commands_on}
use Rattle.bhs_protocols.specs.Laws.{ShuttleSolves}
use Rattle.bhs_protocols.proofs.SearchLemmas.{sides}
use Rattle.bhs_protocols.proofs.ExplorerSteps.{Way, IsWay, AreExplorers, does_by, back_by}
use Rattle.bhs_protocols.proofs.ExplorerState.{Game}
use Rattle.bhs_protocols.proofs.ExplorerLemmas.{explorers_solve}

abbrev way_on : Ways → (side k : ℕ) → Way
way_on ways side k = record {
  steps = k;
  place = λ step. step;
  ahead = ways.ahead side;
  behind = λ step. 1 - ways.ahead side step;
}

-- an agent is at its last safe node if one step more is at the next node
does_as : (n : ℕ) (ways : Ways) (m : Memory) (phase : Phase)
    → does_in n m phase ≡ does_by n (way_on ways m.side (m.mine + 1)) m phase
does_as n ways m (GoesOut steps port) =
    λ i. if one_more steps m.mine i && is_one_left n m then Says (Accuse port) else Says (Depart port)
  where
    one_more : (a b : ℕ) → (a == b) ≡ (a + 1 == b + 1)
    one_more a b = elim (eqb_tells a b) [
      | inl h ↦ h.0 ∙ sym (eq-eqb (a + 1) (b + 1) (ap (λ (k : ℕ). k + 1) h.1))
      | inr h ↦ elim (eqb_tells (a + 1) (b + 1)) [
        | inl it ↦ absurd (omega (arith, it.1, h.1))
        | inr it ↦ h.0 ∙ sym it.0
      ]
    ]
does_as n ways m phase = refl

module _ {world : World} {n right left : ℕ} {ways : Ways} (search : IsSearch world n right left ways) where
  pub are_ways : (side k : ℕ) → side < 2 → k < n → IsWay world.net (ways.node side) k (way_on ways side k)
  are_ways side k below within = record {
    first = refl;
    last = refl;
    early = λ step before. before;
    ahead = λ step before.
        subst (λ (degree : ℕ). ways.ahead side step < degree)
        (sym (search.ring.two side step below (omega (arith, before, within))))
        (search.ring.port side step below (omega (arith, before, within)));
    behind = λ step before.
        subst (λ (degree : ℕ). 1 - ways.ahead side (step + 1) < degree)
        (sym (search.ring.two side (step + 1) below (omega (arith, before, within)))) (omega arith);
    out = λ step before. search.ring.out side step below (omega (arith, before, within));
    back = λ step before. search.ring.back side step below (omega (arith, before, within));
  }

  abbrev held : (agent : ℕ) → History → Memory
  held = held_after (shuttle n)

  heard : (s : ℕ) (past : History) (reply : Reply) (phase : Phase) → (held s past).phase ≡ phase
      → held s (Heard reply ∷ past) ≡ after_in (held s past) phase (Heard reply)
  heard s past reply phase is = ap (λ (ph : Phase). after_in (held s past) ph (Heard reply)) is

  pub explorers : AreExplorers n (strategies_by (shuttle n)) held (way_on ways)
  explorers = record {
    starts = λ s. refl;
    does = λ s past. does_as n ways (held s past) (held s past).phase;
    enters = λ s past ports came board it.
        heard s past (Here ports came board) Begins it.is
        ∙ (λ i. record (held s past) {
          theirs = other_in (held s past).side board;
          phase = GoesOut 0 ((it.side ∙ sym (search.ring.first s it.below)) i);
        });
    goes = λ s past step port it. heard s past Gone (GoesOut step port) it.is;
    ends = λ s past step port it. heard s past Noted (GoesOut step port) it.is;
    comes_out = λ s past step ports board it before.
        let more : (held s past).mine + 1 < n = it.within in
        let small : ways.ahead s (step + 1) < 2 =
        search.ring.port s (step + 1) it.below (omega (arith, before, more)) in
        let same : 1 - (1 - ways.ahead s (step + 1)) ≡ ways.ahead s (step + 1) = omega (arith, small) in
        heard s past (Here ports (Some (1 - ways.ahead s (step + 1))) board) (Leaves step) it.is
        ∙ (λ i. if step + 1 == (held s past).mine + 1
        then record (held s past) { phase = ComesBack (step + 1) (1 - ways.ahead s (step + 1)) }
        else record (held s past) { phase = GoesOut (step + 1) (same i) });
    turns = λ s past step port it. heard s past Gone (ComesBack step port) it.is;
    comes_back = λ s past step left_over ports board it last.
        let less : step - 1 ≡ left_over = omega (arith, last) in
        heard s past (Here ports (Some (ways.ahead s left_over)) board) (Returns step) it.is
        ∙ ap (λ (k : ℕ). came_back (held s past) k (ways.ahead s left_over) board) less
        ∙ came_as s (held s past) board left_over;
    wrote = λ s past it.
        heard s past Written Writes it.is
        ∙ (λ i. record (held s past) {
          mine = (held s past).mine + 1;
          phase = GoesOut 0 ((it.side ∙ sym (search.ring.first s it.below)) i);
        });
    reads = λ s past board it. heard s past (Changed board) Writes it.is;
  }
    where
      came_as : (s : ℕ) (m : Memory) (board : List ℕ) (k : ℕ)
          → came_back m k (ways.ahead s k) board ≡ back_by (way_on ways s (m.mine + 1)) m k board
      came_as s m board zero = refl
      came_as s m board (suc k) = refl

abbrev pub shuttle_game : (world : World) (n right left wakeups : ℕ) (ways : Ways) → IsSearch world n right left ways
    → 4 ≤ world.board → commands_on n right ≤ world.quota → commands_on n left ≤ world.quota → Game
shuttle_game world n right left wakeups ways search room enough enough_too = record {
  world = world;
  n = n;
  right = right;
  left = left;
  wakeups = wakeups;
  strategies = strategies_by (shuttle n);
  holds = held_after (shuttle n);
  node = ways.node;
  way_to = way_on ways;
  round_trips = λ side. round_trips;
  no_trips = λ side. refl;
  more_trips = λ side k. rw add-one (omega arith);
  three = search.ring.three;
  search = sides search;
  ways = are_ways search;
  explorers = explorers search;
  room = room;
  enough = enough;
  enough_too = enough_too;
}

pub shuttle_solves : ShuttleSolves
shuttle_solves world n right left wakeups ways search room enough enough_too =
    explorers_solve (shuttle_game world n right left wakeups ways search room enough enough_too)
