-- A guess is refuted by a twin; a match that is solved is refuted by none.
use Rattle.std.proofs.Common.{ℕ, zero, suc, ◌+◌, ◌<◌, ◌≡◌, ◌⊎◌, Bool, true, false, not, ◌&&◌, ◌||◌, ◌==◌, Option, Some}
use Rattle.std.proofs.Common.{None, List, [], ◌∷◌, if◌then◌else◌, inl, inr, refl, sym, ap, ap₂, ◌∙◌, arith}
use Rattle.std.specs.Prelude.{find, is_some}
use Rattle.std.specs.List.{list_any, range_with_len}
use Rattle.std.specs.Option.{option_or}
use Rattle.std.proofs.lemmas.Bool.{cond-true, cond-false, and_parts, and_from, and_right, or_right, not-true}
use Rattle.std.proofs.lemmas.Bool.{true≢false, false≢true, eq-eqb}
use Rattle.std.proofs.lemmas.Bool.Decides.{eqb_tells}
use Rattle.bhs_net.specs.Network.{nodes_of}
use Rattle.bhs_model.specs.declared.events.Event.{Event}
use Rattle.bhs_model.specs.Worlds.{World, is_hole, is_dark}
use Rattle.bhs_model.specs.Runs.{initial, run}
use Rattle.bhs_model.specs.Cuts.{at_places, meet}
use Rattle.bhs_model.specs.Kept.{kept, nobody}
use Rattle.bhs_model.specs.Marks.{events_of}
use Rattle.bhs_model.specs.Setups.{normal}
use Rattle.bhs_model.proofs.SameDoomLemmas.{range_in, range_out}
use Rattle.bhs_model.proofs.StepLemmas.{by_cases}
use Rattle.bhs_match.specs.Matches.{Play, world_in}
use Rattle.bhs_match.proofs.FairLemmas.{fair_initial}
use Rattle.bhs_referee.specs.Findings.{Findings, nothing_found, findings}
use Rattle.bhs_referee.specs.Verdicts.{passes, accuses, is_over_dark, is_right, is_silent, is_unfinished, is_unreached}
use Rattle.bhs_referee.specs.Verdicts.{first_unreached, guess_or_solved, verdict_of}
use Rattle.bhs_referee.specs.declared.verdicts.Outcome.TheVariants.{Solved, Guess, Unfinished, Silent, Wrong}
use Rattle.bhs_view.specs.Laws.{IsEnded}
use Rattle.bhs_view.specs.Twins.{hole_beyond, first_accused_from, replaced, moved, left, first_arrival, twin_fault}
use Rattle.bhs_view.specs.Twins.{IsTwin}
use Rattle.bhs_view.proofs.TwinLemmas.{with_these}
use Rattle.bhs_view.proofs.TwinPlayLemmas.{IsFree, made_of, is_free}
use Rattle.bhs_view.proofs.TwinReadLemmas.{fault_is}
use Rattle.bhs_view.proofs.TwinSetupLemmas.{found_passes}
use Rattle.bhs_view.proofs.AccusationLemmas.{none_some, some_same, HasAccused, first_accused, none_accused, reached_all}
use Rattle.bhs_view.proofs.AccusationLemmas.{none_of, found_alike}

-- outcomes

guess_means : (a b c d : Bool) (first : Option ℕ) (node : ℕ)
    → (if a then Wrong else (if b then Silent
    else (if c then Unfinished else (if d then guess_or_solved first else Solved)))) ≡ Guess node →
    (a ≡ false) × (d ≡ true) × (first ≡ Some node)
guess_means true b c d first node is = cc
guess_means false true c d first node is = cc
guess_means false false true d first node is = cc
guess_means false false false false first node is = cc
guess_means false false false true None node is = cc
guess_means false false false true (Some other) node is = (refl, refl, cc)

solved_means : (a b c d : Bool) (first : Option ℕ)
    → (if a then Wrong else (if b then Silent
    else (if c then Unfinished else (if d then guess_or_solved first else Solved)))) ≡ Solved →
    (a ≡ false) × ((d ≡ false) ⊎ (first ≡ None))
solved_means true b c d first is = cc
solved_means false true c d first is = cc
solved_means false false true d first is = cc
solved_means false false false false first is = (refl, inl refl)
solved_means false false false true None is = (refl, inr refl)
solved_means false false false true (Some other) is = cc

not_wrong : (a b c d : Bool) (first : Option ℕ) → a ≡ false
    → (if a then Wrong else (if b then Silent
    else (if c then Unfinished else (if d then guess_or_solved first else Solved)))) ≡ Wrong → ⊥
not_wrong true b c d first is_not is = true≢false is_not
not_wrong false true c d first is_not is = cc
not_wrong false false true d first is_not is = cc
not_wrong false false false false first is_not is = cc
not_wrong false false false true None is_not is = cc
not_wrong false false false true (Some other) is_not is = cc

find_within : (test : ℕ → Bool) (start count node : ℕ) → find test (range_with_len start count) ≡ Some node
    → node < start + count
find_within test start zero node is = cc
find_within test start (suc count) node is =
    by_cases (test start) _
    (λ yes. let same = some_same start node (sym (cond-true (test start) (Some start) _ yes) ∙ is) in omega arith)
    (λ is_not. let rest = find_within test (start + 1) count node
    (sym (cond-false (test start) (Some start) _ is_not) ∙ is) in omega arith)

found_none : (test : ℕ → Bool) (xs : List ℕ) → find test xs ≡ None → list_any test xs ≡ false
found_none test [] is = refl
found_none test (x ∷ xs) is =
    by_cases (test x) _
    (λ yes. absurd (none_some x (sym is ∙ cond-true (test x) (Some x) _ yes)))
    (λ is_not. ap₂ (λ (a b : Bool). a || b) is_not
    (found_none test xs (sym (cond-false (test x) (Some x) _ is_not) ∙ is)))

-- the verdict on a twin

abbrev wrongly : World → (found : Findings) → Bool
wrongly world found = accuses world found (λ link. not (is_right world link))

wrong_twin : (world : World) (found : Findings) (agent : ℕ) (link : ℕ × ℕ) → agent < world.agents
    → found.accused agent ≡ Some link → is_right world link ≡ false → wrongly world found ≡ true
wrong_twin world found agent link within accused is_not =
    range_in (λ agent. passes (λ link. not (is_right world link)) (found.accused agent)) world.agents agent within
    (ap (passes (λ link. not (is_right world link))) accused ∙ ap not is_not)

record AccusesBy (world : World) (found : Findings) (test : ℕ × ℕ → Bool) : Type 0 where
  pub agent : ℕ
  pub link : ℕ × ℕ
  pub within : agent < world.agents
  pub accused : found.accused agent ≡ Some link
  pub passed : test link ≡ true

accuses_by : (world : World) (found : Findings) (test : ℕ × ℕ → Bool) → accuses world found test ≡ true
    → AccusesBy world found test
accuses_by world found test is =
    let one = range_out (λ agent. passes test (found.accused agent)) world.agents is in
    by (found.accused one.0) one.0 one.1 refl one.2
  where
    by : (link : Option (ℕ × ℕ)) (agent : ℕ) → agent < world.agents → found.accused agent ≡ link
        → passes test link ≡ true → AccusesBy world found test
    by None agent within at is = absurd (false≢true is)
    by (Some link) agent within at is = record
        { agent = agent; link = link; within = within; accused = at; passed = is }

-- an accusation that is right
right_all : (world : World) (found : Findings) (agent : ℕ) (link : ℕ × ℕ) → agent < world.agents
    → found.accused agent ≡ Some link → wrongly world found ≡ false → is_right world link ≡ true
right_all world found agent link within accused none =
    by_cases (is_right world link) _ (λ yes. yes)
    (λ is_not. absurd (true≢false (sym (wrong_twin world found agent link within accused is_not) ∙ none)))

same_outcome : (world other : World) (events others : List Event) (b : Bool) → world ≡ other → events ≡ others
    → wrongly other (findings other others) ≡ b → wrongly world (findings world events) ≡ b
same_outcome world other events others b is_world is_events is =
    ap₂ (λ (world : World) (events : List Event). wrongly world (findings world events)) is_world is_events ∙ is

hole_or_dark : (a b : Bool) → (a || b) ≡ true → b ≡ false → a ≡ true
hole_or_dark true b is is_not = refl
hole_or_dark false b is is_not = absurd (false≢true (sym is_not ∙ is))

other_hole : (holes : List ℕ) (hole node : ℕ) → is_hole holes hole ≡ true → is_hole holes node ≡ false
    → (hole == node) ≡ false
other_hole holes hole node was is_not = elim (eqb_tells hole node) [
  | inl h ↦ absurd (false≢true (sym is_not ∙ ap (is_hole holes) (sym h.1) ∙ was))
  | inr h ↦ h.0
]

record HasFirst (world : World) (events : List Event) : Type 0 where
  pub hole : ℕ
  pub its : HasAccused world (findings world events) hole
  pub first : first_accused_from world initial events ≡ Some hole

has_first : (world : World) (events : List Event) (first : Option ℕ) (agent : ℕ) (link : ℕ × ℕ)
    → kept world events ≡ events → first_accused_from world initial events ≡ first →
    (findings world events).accused agent ≡ Some link → (hole_beyond world link.0 link.1 ≡ None → ⊥)
    → HasFirst world events
has_first world events None agent link all is at good =
    absurd (none_some link (none_accused world initial nothing_found events agent link is good at))
has_first world events (Some hole) agent link all is at good =
    record {
      hole = hole;
      its = first_accused world initial nobody nothing_found events hole (fair_initial world) all
          is;
      first = is;
    }

-- the twin of a guess is wrong: the accusation of the hole that gave way leads to no hole
refuted : (play twin : Play) (node : ℕ) → IsEnded play → IsTwin play node twin
    → wrongly (world_in play) (findings (world_in play) (events_of play.log)) ≡ false →
    accuses (world_in play) (findings (world_in play) (events_of play.log))
    (λ link. not (is_over_dark (world_in play) link)) ≡ true →
    node < nodes_of play.net → is_hole play.setup.holes node ≡ false
    → first_arrival (world_in play) node (events_of play.log) ≡ None → (verdict_of twin).outcome ≡ Wrong
refuted play twin node ended is_twin none past_dark is_node no_hole no_arrival =
    let world = world_in play in
    let events = events_of play.log in
    let found = findings world events in
    let old = replaced world events in
    let setup = normal play.net (moved play.net play.setup old node) in
    let other = with_these world setup.holes setup.dark in
    let made = made_of play twin node ended is_node is_twin in
    let one = accuses_by world found (λ link. not (is_over_dark world link)) past_dark in
    let right = right_all world found one.agent one.link one.within one.accused none in
    let clear : is_dark world.net.far world.dark one.link.0 one.link.1 ≡ false = not-true _ one.passed in
    let leads : is_hole world.holes (world.net.far one.link.0 one.link.1).0 ≡ true = hole_or_dark _ _ right clear in
    let test = is_hole world.holes (world.net.far one.link.0 one.link.1).0 && not
    (is_dark world.net.far world.dark one.link.0 one.link.1) in
    let good : hole_beyond world one.link.0 one.link.1 ≡ None → ⊥ = λ is.
    none_some (world.net.far one.link.0 one.link.1).0
    (sym is ∙ cond-true test (Some (world.net.far one.link.0 one.link.1).0) None
    (and_from _ _ leads (ap not clear))) in
    let accused = has_first world events (first_accused_from world initial events) one.agent one.link ended.kept refl
    one.accused good in
    let hole = accused.hole in
    let its = accused.its in
    let gives_way : old ≡ Some hole = ap (λ (first : Option ℕ). option_or first
    (find (is_hole world.holes) (range_with_len 0 world.net.nodes))) accused.first in
    let was_hole : is_hole world.holes hole ≡ true = made.moved.was_hole hole gives_way in
    let no_longer : is_hole setup.holes hole ≡ false =
    made.moved.one_hole hole
    ∙ ap₂ (λ (a : Bool) (old : Option ℕ). a || (is_hole world.holes hole && not (meet old (Some hole))))
    (other_hole play.setup.holes hole node was_hole no_hole) gives_way
    ∙ and_right (is_hole world.holes hole) _ (ap not (eq-eqb hole hole refl)) in
    let wrong : is_right other its.link ≡ false =
    ap₂ (λ (a b : Bool). a || b) (ap (is_hole setup.holes) its.leads ∙ no_longer)
    (made.moved.same_links its.link.0 its.link.1 ∙ its.clear) in
    let accused_too = found_alike world setup.holes setup.dark old node initial nobody nobody 0 nothing_found
    nothing_found events made.moved (λ agent is. is) ended.kept no_arrival (λ agent. refl) its.agent in
    cond-true _ _ _
    (same_outcome (world_in twin) other (events_of twin.log) (at_places events (left world old events)) true
    made.world made.events
    (wrong_twin other (findings other (at_places events (left world old events))) its.agent its.link its.within
    (accused_too ∙ its.accused) wrong))

pub guess_is_refuted : (play : Play) (node : ℕ) → IsEnded play → (verdict_of play).outcome ≡ Guess node →
    (twin_fault play node ≡ None) × ((twin : Play) → IsTwin play node twin → (verdict_of twin).outcome ≡ Wrong)
guess_is_refuted play node ended is =
    let world = world_in play in
    let events = events_of play.log in
    let found = findings world events in
    let parts = guess_means (wrongly world found) _ _ (accuses world found (λ link. not (is_over_dark world link)))
    (first_unreached world found) node is in
    let below = find_within (is_unreached world found) 0 world.net.nodes node parts.2 in
    let is_node : node < nodes_of play.net = omega arith in
    let unreached = and_parts (not (node == world.home)) _
    (found_passes (is_unreached world found) (range_with_len 0 world.net.nodes) node parts.2) in
    let others = and_parts (not (is_hole world.holes node)) _ unreached.1 in
    let no_hole : is_hole play.setup.holes node ≡ false = not-true _ others.0 in
    let no_arrival : first_arrival world node events ≡ None =
    none_of _ (sym (reached_all world initial nothing_found 0 events node) ∙ not-true _ others.1) in
    let away : node ≡ play.setup.home → ⊥ = λ same. false≢true
    (sym (not-true _ unreached.0) ∙ eq-eqb node play.setup.home same) in (
      fault_is play play.net play.setup (nodes_of play.net) node (is_hole play.setup.holes node) None refl refl refl
          is_node away refl no_hole no_arrival,
      λ twin made. refuted play twin node ended made parts.0 parts.1 is_node no_hole no_arrival,
    )

-- a match that is solved has no twin that is wrong: each accusation goes over a dark link

all_reached : (play : Play) (node : ℕ) → IsFree play node
    → first_unreached (world_in play) (findings (world_in play) (events_of play.log)) ≡ None → ⊥
all_reached play node free none =
    let world = world_in play in
    let found = findings world (events_of play.log) in
    let unreached : found.reached node ≡ false = reached_all world initial nothing_found 0 (events_of play.log) node
    ∙ ap is_some free.unreached in
    let is : is_unreached world found node ≡ true =
    and_from _ _ (ap not free.away) (and_from _ _ (ap not free.no_hole) (ap not unreached)) in
    true≢false (sym (range_in (is_unreached world found) world.net.nodes node free.is_node is)
    ∙ found_none (is_unreached world found) (range_with_len 0 world.net.nodes) none)

false_of : (b : Bool) → (b ≡ true → ⊥) → b ≡ false
false_of true never = absurd (never refl)
false_of false never = refl

stays_right : (play twin : Play) (node : ℕ) → IsEnded play → IsFree play node → IsTwin play node twin
    → accuses (world_in play) (findings (world_in play) (events_of play.log))
    (λ link. not (is_over_dark (world_in play) link)) ≡ false →
    wrongly (world_in twin) (findings (world_in twin) (events_of twin.log)) ≡ false
stays_right play twin node ended free is_twin all_dark =
    let world = world_in play in
    let events = events_of play.log in
    let found = findings world events in
    let old = replaced world events in
    let setup = normal play.net (moved play.net play.setup old node) in
    let other = with_these world setup.holes setup.dark in
    let made = made_of play twin node ended free.is_node is_twin in
    let chosen = at_places events (left world old events) in
    let alike = found_alike world setup.holes setup.dark old node initial nobody nobody 0 nothing_found nothing_found
    events made.moved (λ agent is. is) ended.kept free.unreached (λ agent. refl) in
    same_outcome (world_in twin) other (events_of twin.log) chosen false made.world made.events
    (false_of _ (λ is.
    let one = accuses_by other (findings other chosen) (λ link. not (is_right other link)) is in
    let accused : found.accused one.agent ≡ Some one.link = sym (alike one.agent) ∙ one.accused in
    by_cases (is_over_dark world one.link) ⊥
    (λ dark. false≢true (sym (ap not (or_right (is_hole setup.holes (world.net.far one.link.0 one.link.1).0) _
    (made.moved.same_links one.link.0 one.link.1 ∙ dark))) ∙ one.passed))
    (λ clear. true≢false (sym (range_in (λ agent. passes (λ link. not (is_over_dark world link)) (found.accused agent))
    world.agents one.agent one.within
    (ap (passes (λ link. not (is_over_dark world link))) accused ∙ ap not clear)) ∙ all_dark))))

pub solved_is_not_refuted : (play twin : Play) (node : ℕ) → IsEnded play → (verdict_of play).outcome ≡ Solved
    → twin_fault play node ≡ None → IsTwin play node twin → (verdict_of twin).outcome ≡ Wrong → ⊥
solved_is_not_refuted play twin node ended is fits is_twin wrong =
    let world = world_in play in
    let found = findings world (events_of play.log) in
    let free = is_free play node fits in
    let parts = solved_means (wrongly world found) _ _ (accuses world found (λ link. not (is_over_dark world link)))
    (first_unreached world found) is in
    elim parts.1 [
      | inl all_dark ↦ not_wrong (wrongly (world_in twin) (findings (world_in twin) (events_of twin.log)))
          (is_silent (world_in twin) (findings (world_in twin) (events_of twin.log)))
          (is_unfinished (world_in twin) (run (world_in twin) (events_of twin.log)).position)
          (accuses (world_in twin) (findings (world_in twin) (events_of twin.log))
          (λ link. not (is_over_dark (world_in twin) link)))
          (first_unreached (world_in twin) (findings (world_in twin) (events_of twin.log)))
          (stays_right play twin node ended free is_twin all_dark) wrong
      | inr none ↦ all_reached play node free none
    ]
