-- Turns of an agent that ends its own itinerary or follows its partner's: they preserve the invariant.
use Rattle.std.proofs.Common.{ℕ, ◌+◌, ◌-◌, ◌*◌, ◌<◌, ◌≤◌, ◌≡◌, Bool, Option, None}
use Rattle.std.proofs.Common.{List, refl, sym, ap, ◌∙◌, subst, inl, inr, arith}
use Rattle.std.specs.Prelude.{◌≢◌, bytes_eq}
use Rattle.std.proofs.lemmas.Bool.{cond-true, eq-eqb}
use Rattle.bhs_model.specs.Runs.{Position, At}
use Rattle.bhs_protocols.specs.Halves.{own_in}
use Rattle.bhs_protocols_divided.specs.Plans.{Itinerary, Divisions, Explores, IsStage, IsItinerary, news}
use Rattle.bhs_protocols_divided.specs.Plans.{explored, count_at}
use Rattle.bhs_protocols_divided.specs.Dividing.{Memory, Phase, Begins, GoesOut, Leaves, Tries, Turns, Returns, Writes}
use Rattle.bhs_protocols_divided.specs.Dividing.{Follows}
use Rattle.bhs_protocols_divided.specs.Dividing.{Passes, Tells, Ends, own_of, others_of, about, follows_from, comes}
use Rattle.bhs_protocols_divided.proofs.NewsLemmas.{news_below, walked, walked_few}
use Rattle.bhs_protocols_divided.proofs.DividingDues.{Purse, done_by, paces, tasks, spent, share, miss}
use Rattle.bhs_protocols_divided.proofs.DividingState.{Game, Setting, setting, IsOut, IsPlaced, IsAtNode, IsDue, around}
use Rattle.bhs_protocols_divided.proofs.DividingState.{stale}
use Rattle.bhs_protocols_divided.proofs.DividingLemmas.{Goes, goes, either}
use Rattle.bhs_protocols_divided.proofs.DividingFacts.{itinerary_is, explored_known, plan_is, share_other}
use Rattle.bhs_protocols.proofs.SearchLemmas.{bytes_same}

pub other_below : (side : ℕ) → 1 - side < 2
other_below side = omega arith

pub no_miss : (xs ys : List ℕ) → xs ≡ ys → miss (bytes_eq xs ys) ≡ 0
no_miss xs ys same = ap (λ (zs : List ℕ). miss (bytes_eq zs ys)) same ∙ ap miss (bytes_same ys)

module _ (game : Game) where
  open game use {world, n, hole, plan}

  -- an agent has explored what it had explored before the stage
  explored_by : (now : Divisions) (stage : IsStage plan now) (others lost : ℕ) (shown : ℕ → List ℕ) (seen : ℕ → Bool)
      (p : Purse) (m : Memory) → m.side < 2 → (accused : Option (ℕ × ℕ))
      → IsOut game (setting game now others lost shown seen) p m accused
      → explored plan now m.side ≤ explored plan m.divisions m.side + news (own_of plan m) m.step
  explored_by now stage others lost shown seen p m below accused it =
      explored_known game now m stage below p.count p.at it.behind it.same

  known_by : (now : Divisions) (m : Memory) (more : ℕ) → now ≡ m.divisions
      → explored plan now m.side ≤ explored plan m.divisions m.side + more
  known_by now m more knows =
      let is : explored plan now m.side ≡ explored plan m.divisions m.side =
      ap (λ (d : Divisions). explored plan d m.side) knows in
      omega (arith, is)

  pub explored_done : (now : Divisions) (stage : IsStage plan now) (others lost : ℕ) (shown : ℕ → List ℕ)
      (seen : ℕ → Bool) (p : Purse) (m : Memory) → m.side < 2 → (phase : Phase) (position : Position)
      (accused : Option (ℕ × ℕ))
      → IsPlaced game (setting game now others lost shown seen) p m phase position accused
      → explored plan now m.side ≤ done_by plan m phase
  explored_done now stage others lost shown seen p m below Begins position accused it =
      explored_by now stage others lost shown seen p m below accused it.0
  explored_done now stage others lost shown seen p m below GoesOut position accused it =
      explored_by now stage others lost shown seen p m below accused it.0
  explored_done now stage others lost shown seen p m below Leaves position accused it =
      explored_by now stage others lost shown seen p m below accused it.0
  explored_done now stage others lost shown seen p m below Tries position accused it =
      explored_by now stage others lost shown seen p m below accused it.0
  explored_done now stage others lost shown seen p m below Turns position accused it =
      explored_by now stage others lost shown seen p m below accused it.0
  explored_done now stage others lost shown seen p m below Returns position accused it =
      explored_by now stage others lost shown seen p m below accused it.0
  explored_done now stage others lost shown seen p m below Writes position accused it =
      explored_by now stage others lost shown seen p m below accused it.0
  explored_done now stage others lost shown seen p m below Follows position accused it =
      known_by now m (news (own_of plan m) (own_of plan m).steps) it.0.knows
  explored_done now stage others lost shown seen p m below Passes position accused it =
      known_by now m (news (own_of plan m) (own_of plan m).steps) it.0.knows
  explored_done now stage others lost shown seen p m below Tells position accused it =
      known_by now m (news (own_of plan m) (own_of plan m).steps) it.0.knows
  explored_done now stage others lost shown seen p m below Ends position accused it =
      known_by now m (news (own_of plan m) (own_of plan m).steps) it.0

  -- both itineraries of a stage begin at one node
  pub roots : (now : Divisions) (side : ℕ) → IsStage plan now → side < 2
      → (plan.itinerary now (1 - side)).node 0 ≡ (plan.itinerary now side).node 0
  roots now side stage below =
      let root = (plan_is game).planned now stage in
      either (λ (k : ℕ). (plan.itinerary now (1 - k)).node 0 ≡ (plan.itinerary now k).node 0) (sym root.root) root.root
      side below

  module _ (now : Divisions) (m : Memory) (stage : IsStage plan now) (below : m.side < 2) (knows : now ≡ m.divisions)
      (others lost : ℕ) (lost_step : ℕ) (spot : Explores plan now lost lost_step hole)
      (hidden : lost ≡ 1 - m.side → others < count_at plan now lost lost_step)
      (shown : ℕ → List ℕ) (seen : ℕ → Bool) (shows : own_in (1 - m.side) m.seen ≤ others) where
    abbrev own : Itinerary
    own = own_of plan m

    abbrev theirs : Itinerary
    theirs = others_of plan m

    abbrev e : Setting game
    e = setting game now others lost shown seen

    stage_too : IsStage plan m.divisions
    stage_too = subst (IsStage plan) knows stage

    theirs_is : IsItinerary world.net n theirs
    theirs_is = itinerary_is game m.divisions (1 - m.side) stage_too (other_below m.side)

    -- what it is about then
    pub record After (p : Purse) (place : Position) (accused : Option (ℕ × ℕ)) (after : Memory) : Type 0 where
      pub step : ℕ
      pub phase : Phase
      pub is : after ≡ about m step phase
      pub placed : IsPlaced game e p (about m step phase) phase place accused
      pub due : IsDue game lost p (about m step phase) phase
      pub paced : paces phase ≡ 1
      pub tasked : tasks phase ≡ 1
      pub spends : spent phase ≡ 0
      pub fresh : stale game (about m step phase) phase shown ≡ 0
      pub does : done_by plan (about m step phase) phase
          ≡ explored plan m.divisions m.side + news own own.steps

    -- the agent follows its partner from this step on and faces this whiteboard
    pub goes_after : (p : Purse) (place : Position) (accused : Option (ℕ × ℕ)) (step : ℕ) → lost ≡ 1 - m.side
        → accused ≡ None → step ≤ theirs.steps
        → explored plan m.divisions (1 - m.side) + news theirs step ≤ others → IsAtNode game (theirs.node step) place
        → theirs.node step ≢ hole → shown (theirs.node step) ≡ m.seen → around game ≤ p.ways + walked theirs step
        → After p place accused (follows_from plan m step)
    goes_after p place accused step lost_is none within few at clear fits due =
        let spot_too : Explores plan m.divisions (1 - m.side) lost_step hole =
        subst (λ (k : ℕ). Explores plan m.divisions k lost_step hole) lost_is
        (subst (λ (d : Divisions). Explores plan d lost lost_step hole) knows spot) in
        let less : others < count_at plan now lost lost_step = hidden lost_is in
        let count_is : count_at plan now lost lost_step ≡ count_at plan m.divisions (1 - m.side) lost_step =
        λ i. count_at plan (knows i) (lost_is i) lost_step in
        let hidden_too : others < count_at plan m.divisions (1 - m.side) lost_step = omega (arith, less, count_is) in
        let on = goes plan m others lost_step hole below shows spot_too hidden_too theirs_is.stays
        (theirs.steps - step) step (omega (arith, within)) few in
        let it : Goes plan m step (follows_from plan m step) = on.0 in
        let node : theirs.node it.now ≡ theirs.node step = it.node in
        let walks : walked theirs it.now ≡ walked theirs step = it.walks in
        let at_too : IsAtNode game (theirs.node it.now) place =
        record { came = at.came; at = at.at ∙ ap (λ (k : ℕ). At k at.came) (sym node) } in
        let clear_too : theirs.node it.now ≢ hole = λ h. clear (sym node ∙ h) in
        elim it.about_what [
          | inl h ↦ record {
            step = it.now;
            phase = Follows;
            is = it.is ∙ ap (about m it.now) h.0;
            placed = (
              record {
                knows = knows;
                within = it.within;
                few = on.1;
                lost_is = lost_is;
                clear = clear_too;
                none = none;
              },
              h.1,
              at_too,
            );
            due = omega (arith, due, walks);
            paced = refl;
            tasked = refl;
            spends = refl;
            fresh = refl;
            does = refl;
          }
          | inr h ↦ record {
            step = it.now;
            phase = Tells;
            is = it.is ∙ ap (about m it.now) h.0;
            placed = (
              record {
                knows = knows;
                within = it.within;
                few = on.1;
                lost_is = lost_is;
                clear = clear_too;
                none = none;
              },
              h.1,
              at_too,
              h.2,
            );
            due = omega (arith, due, walks);
            paced = refl;
            tasked = refl;
            spends = refl;
            fresh = no_miss (shown (theirs.node it.now)) m.seen (ap shown node ∙ fits);
            does = refl;
          }
        ]

    -- an agent that has explored its part, at the end of its itinerary
    pub at_end : (p : Purse) (place : Position) (accused : Option (ℕ × ℕ)) (end : ℕ) → end ≡ own.steps → accused ≡ None
        → IsAtNode game (own.node end) place → own.node end ≢ hole → shown (own.node end) ≡ m.seen
        → (lost ≡ m.side → explored plan m.divisions m.side + news own own.steps < count_at plan now lost lost_step)
        → explored plan now (1 - m.side) ≤ others
        → share (around game) m.side lost ≤ p.ways + walked own end
        → After p place accused (comes plan m end)
    at_end p place accused end end_is none at clear fits hidden_own few due =
        let own_it : IsItinerary world.net n own = itinerary_is game m.divisions m.side stage_too below in
        let mine_not : lost ≢ m.side = λ h.
        let there : Explores plan m.divisions m.side lost_step hole =
        subst (λ (k : ℕ). Explores plan m.divisions k lost_step hole) h
        (subst (λ (d : Divisions). Explores plan d lost lost_step hole) knows spot) in
        let less : explored plan m.divisions m.side + news own own.steps < count_at plan now lost lost_step =
        hidden_own h in
        let count_is : count_at plan now lost lost_step ≡ count_at plan m.divisions m.side lost_step =
        λ i. count_at plan (knows i) (h i) lost_step in
        let more : news own lost_step + 1 ≤ news own own.steps =
        news_below own lost_step own.steps there.within there.is_new in
        omega (arith, less, count_is, more) in
        let lost_below : lost < 2 = spot.below in
        let lost_is : lost ≡ 1 - m.side = omega (arith, mine_not, lost_below, below) in
        let node : own.node end ≡ theirs.node 0 =
        ap own.node end_is ∙ own_it.round ∙ sym (roots m.divisions m.side stage_too below) in
        let all_ways : share (around game) m.side lost ≡ 2 * around game =
        share_other (around game) m.side lost mine_not in
        let end_walks : walked own end ≤ around game = walked_few own world.net n end own_it (omega (arith, end_is)) in
        let explored_is : explored plan now (1 - m.side) ≡ explored plan m.divisions (1 - m.side) =
        ap (λ (d : Divisions). explored plan d (1 - m.side)) knows in
        let it : After p place accused (follows_from plan m 0) =
        goes_after p place accused 0 lost_is none (omega arith) (omega (arith, few, explored_is))
        (record { came = at.came; at = at.at ∙ ap (λ (k : ℕ). At k at.came) node })
        (λ h. clear (node ∙ h)) (ap shown (sym node) ∙ fits) (omega (arith, all_ways, due, end_walks)) in
        record {
          step = it.step;
          phase = it.phase;
          is = cond-true _ _ _ (eq-eqb end own.steps end_is) ∙ it.is;
          placed = it.placed;
          due = it.due;
          paced = it.paced;
          tasked = it.tasked;
          spends = it.spends;
          fresh = it.fresh;
          does = it.does;
        }
