-- Simulation: the remaining events of a match happen in its twin with equal replies.
use Rattle.std.proofs.Common.{ℕ, suc, ◌≡◌, Bool, true, false, not, ◌&&◌, ◌||◌, ◌==◌, Option, Some, None, List, [], ◌∷◌}
use Rattle.std.proofs.Common.{if◌then◌else◌, inl, inr, refl, sym, ap, ap₂, ◌∙◌, subst}
use Rattle.std.proofs.lemmas.Bool.{cond-true, cond-false, and_parts, and_from, and_right, or_cases, or_left, or_right}
use Rattle.std.proofs.lemmas.Bool.{not-true, eqb-true, eq-eqb, true≢false, false≢true}
use Rattle.bhs_model.specs.declared.events.Event.{Event}
use Rattle.bhs_model.specs.declared.events.Event.TheVariants.{Tell, Deliver, Close}
use Rattle.bhs_model.specs.declared.replies.Reply.{Reply}
use Rattle.bhs_model.specs.Worlds.{World, is_hole, is_dark, doomed}
use Rattle.bhs_model.specs.Runs.{Position, Before, At, Bound, After, State, changed, arrives, is_doomed, next, reply}
use Rattle.bhs_model.specs.InOrder.{replies_from}
use Rattle.bhs_model.specs.Kept.{destroys, keeps, kept_first, kept_from, lost_after}
use Rattle.bhs_model.specs.Cuts.{at_places, meet, node_reached}
use Rattle.bhs_model.specs.Twins.{is_struck, strike_from, reveals, RevealsNothing}
use Rattle.bhs_model.proofs.StepLemmas.{by_cases, next_no_arrival, no_arrival_no_reply}
use Rattle.bhs_model.proofs.TwinLemmas.{doomed_not_through, same_through, next_alike, reply_alike}
use Rattle.bhs_model.proofs.SameDoomLemmas.{iff_same}
use Rattle.bhs_match.proofs.FairLemmas.{arrival_means}
use Rattle.bhs_view.specs.Twins.{is_moved, heads_for, left_from, arrives_at, first_arrival_from}
use Rattle.bhs_model.proofs.KeptLemmas.{first_kept}
use Rattle.bhs_view.proofs.ArrivalLemmas.{doomed_where}

-- other black holes and dark links in place of those of a world: the links are the same, and one hole has given way
pub record HasMoved (world : World) (holes : List ℕ) (dark : List (ℕ × ℕ)) (old : Option ℕ) (new : ℕ) : Type 0 where
  pub same_links : (node port : ℕ) → is_dark world.net.far dark node port ≡ is_dark world.net.far world.dark node port
  pub one_hole : (node : ℕ) → is_hole holes node ≡ is_moved world.holes old new node
  pub was_hole : (hole : ℕ) → old ≡ Some hole → is_hole world.holes hole ≡ true

abbrev pub with_these : World → List ℕ → List (ℕ × ℕ) → World
with_these world holes dark = record world { holes = holes; dark = dark }

turned : (a b : Bool) → (a || b) ≡ (b || a)
turned true true = refl
turned true false = refl
turned false true = refl
turned false false = refl

eq_turned : (a b : ℕ) → (a == b) ≡ (b == a)
eq_turned a b = iff_same _ _ (λ is. eq-eqb b a (sym (eqb-true a b is))) (λ is. eq-eqb a b (sym (eqb-true b a is)))

shuffled : (a b c : Bool) → ((a || (b && not false)) || c) ≡ (a || (b || c))
shuffled true b c = refl
shuffled false true c = refl
shuffled false false c = refl

-- a link that does not lead to the hole that gives way is doomed as it was, or leads to the new hole
twin_doom : (world : World) (holes : List ℕ) (dark : List (ℕ × ℕ)) (old : Option ℕ) (new node port : ℕ)
    → HasMoved world holes dark old new → meet old (Some (world.net.far node port).0) ≡ false →
    doomed (with_these world holes dark) node port ≡ (((world.net.far node port).0 == new) || doomed world node port)
twin_doom world holes dark old new node port moved other =
    let there = (world.net.far node port).0 in
    ap₂ (λ (a b : Bool). a || b)
    (moved.one_hole there ∙ ap (λ (b : Bool). there == new || (is_hole world.holes there && not b)) other)
    (moved.same_links node port)
    ∙ shuffled (there == new) (is_hole world.holes there) (is_dark world.net.far world.dark node port)

-- A remaining event has the same effect in both matches.
pub record HappensAlike (world twin : World) (state : State) (lost lose : ℕ → Bool) (event : Event) : Type 0 where
  pub struck : is_struck world twin state event ≡ is_struck twin world state event
  pub hides : reveals world twin state event ≡ false
  pub hides_too : reveals twin world state event ≡ false
  pub next : next world state event ≡ next twin state event
  pub reply : reply world state event ≡ reply twin state event
  pub keeps : keeps twin state lose event ≡ true
  pub fewer : (agent : ℕ) → lost_after world state lost event agent ≡ false
      → lost_after twin state lose event agent ≡ false

-- an event that is taken out does nothing
pub record HappensNot (world twin : World) (state : State) (lost lose : ℕ → Bool) (event : Event) : Type 0 where
  pub struck : is_struck world twin state event ≡ true
  pub hides : reveals world twin state event ≡ false
  pub next : next world state event ≡ state
  pub fewer : (agent : ℕ) → lost_after world state lost event agent ≡ false → lose agent ≡ false

abbrev pub LosesNoMore : (lost lose : ℕ → Bool) → Type 0
LosesNoMore lost lose = (agent : ℕ) → lost agent ≡ false → lose agent ≡ false

lost_as_well : (b : Bool) (lost lose : ℕ → Bool) (agent other : ℕ) → LosesNoMore lost lose
    → (if b then changed lost agent true else lost) other ≡ false
    → (if b then changed lose agent true else lose) other ≡ false
lost_as_well false lost lose agent other fewer is = fewer other is
lost_as_well true lost lose agent other fewer is = by (other == agent) is
  where
    by : (b : Bool) → (if b then true else lost other) ≡ false → (if b then true else lose other) ≡ false
    by true is = absurd (true≢false is)
    by false is = fewer other is

lost_before : (b : Bool) (lost lose : ℕ → Bool) (agent other : ℕ) → LosesNoMore lost lose
    → (if b then changed lost agent true else lost) other ≡ false → lose other ≡ false
lost_before false lost lose agent other fewer is = fewer other is
lost_before true lost lose agent other fewer is = by (other == agent) is
  where
    by : (b : Bool) → (if b then true else lost other) ≡ false → lose other ≡ false
    by true is = absurd (true≢false is)
    by false is = fewer other is

no_doomed_arrival : (world : World) (state : State) (agent : ℕ) → is_doomed world (state.position agent) ≡ true
    → arrives world state agent ≡ false
no_doomed_arrival world state agent doom = and_right (not state.closed) _
    (doomed_not_through world (state.position agent) doom)

-- a Deliver that destroys, and not into the hole that gives way
destroyed_alike : (world : World) (holes : List ℕ) (dark : List (ℕ × ℕ)) (old : Option ℕ) (new : ℕ) (state : State)
    (lost lose : ℕ → Bool) (agent : ℕ) → HasMoved world holes dark old new → LosesNoMore lost lose →
    heads_for world old state (Deliver agent) ≡ false → is_doomed world (state.position agent) ≡ true
    → keeps world state lost (Deliver agent) ≡ true →
    HappensAlike world (with_these world holes dark) state lost lose (Deliver agent)
destroyed_alike world holes dark old new state lost lose agent moved fewer other doom is_kept =
    let twin = with_these world holes dark in
    let at = doomed_where world (state.position agent) doom in
    let still : is_doomed twin (state.position agent) ≡ true =
    ap (is_doomed twin) at.2
    ∙ twin_doom world holes dark old new at.0 at.1 moved
    (sym (ap (λ (position : Position). meet old (node_reached world position)) at.2) ∙ other)
    ∙ or_right ((world.net.far at.0 at.1).0 == new) _ at.3 in
    let here = no_doomed_arrival world state agent doom in
    let there = no_doomed_arrival twin state agent still in
    let parts = and_parts (destroys world state agent) _
    (ap (λ (b : Bool). b || (destroys world state agent && not (lost agent))) (sym here) ∙ is_kept) in
    let same : destroys world state agent ≡ destroys twin state agent =
    ap (λ (b : Bool). not state.closed && b) (doom ∙ sym still) in
    record {
      struck = turned (is_doomed world (state.position agent)) (is_doomed twin (state.position agent));
      hides = ap (λ (b : Bool). b && is_doomed twin (state.position agent)) here;
      hides_too = ap (λ (b : Bool). b && is_doomed world (state.position agent)) there;
      next = next_no_arrival world state agent here ∙ sym (next_no_arrival twin state agent there);
      reply = no_arrival_no_reply world state agent here ∙ sym (no_arrival_no_reply twin state agent there);
      keeps = or_right (arrives twin state agent) _
          (and_from _ _ (sym same ∙ parts.0) (ap not (fewer agent (not-true _ parts.1))));
      fewer = λ one is. ap (λ (b : Bool). (if b then changed lose agent true else lose) one) (sym same)
          ∙ lost_as_well (destroys world state agent) lost lose agent one fewer is;
    }

-- an arrival, and not at the new hole
arrived_alike : (world : World) (holes : List ℕ) (dark : List (ℕ × ℕ)) (old : Option ℕ) (new : ℕ) (state : State)
    (lost lose : ℕ → Bool) (agent : ℕ) → HasMoved world holes dark old new → LosesNoMore lost lose →
    heads_for world old state (Deliver agent) ≡ false → is_doomed world (state.position agent) ≡ false
    → arrives world state agent ≡ true → arrives_at world new state (Deliver agent) ≡ false →
    HappensAlike world (with_these world holes dark) state lost lose (Deliver agent)
arrived_alike world holes dark old new state lost lose agent moved fewer other safe arrival elsewhere =
    let twin = with_these world holes dark in
    let means = arrival_means world state agent arrival in
    let there = (world.net.far means.node means.port).0 in
    let not_new : (there == new) ≡ false =
    eq_turned there new ∙ sym (ap₂ (λ (b : Bool) (position : Position). b && meet (Some new)
    (node_reached world position)) arrival means.on) ∙ elsewhere in
    let still : is_doomed twin (state.position agent) ≡ false =
    ap (is_doomed twin) means.on
    ∙ twin_doom world holes dark old new means.node means.port moved
    (sym (ap (λ (position : Position). meet old (node_reached world position)) means.on) ∙ other)
    ∙ ap₂ (λ (a b : Bool). a || b) not_new (sym (ap (is_doomed world) means.on) ∙ safe) in
    let unstruck : is_struck world twin state (Deliver agent) ≡ false = ap₂ (λ (a b : Bool). a || b) safe still in
    let arrives_too : arrives twin state agent ≡ true =
    ap (λ (b : Bool). not state.closed && b) (sym (same_through world twin (state.position agent) unstruck))
    ∙ arrival in
    record {
      struck = turned (is_doomed world (state.position agent)) (is_doomed twin (state.position agent));
      hides = and_right (arrives world state agent) _ still;
      hides_too = and_right (arrives twin state agent) _ safe;
      next = next_alike world twin state (Deliver agent) unstruck;
      reply = reply_alike world twin state (Deliver agent) unstruck;
      keeps = or_left (arrives twin state agent) _ arrives_too;
      fewer = λ one is.
          ap (λ (b : Bool). (if not state.closed && b then changed lose agent true else lose) one) (still ∙ sym safe)
          ∙ lost_as_well (destroys world state agent) lost lose agent one fewer is;
    }

-- each event that is left
pub left_alike : (world : World) (holes : List ℕ) (dark : List (ℕ × ℕ)) (old : Option ℕ) (new : ℕ) (state : State)
    (lost lose : ℕ → Bool) (event : Event) → HasMoved world holes dark old new → LosesNoMore lost lose →
    heads_for world old state event ≡ false → keeps world state lost event ≡ true
    → arrives_at world new state event ≡ false → HappensAlike world (with_these world holes dark)
    state lost lose event
left_alike world holes dark old new state lost lose (Tell agent command) moved fewer other is_kept elsewhere =
    record { struck = refl; hides = refl; hides_too = refl; next = refl; reply = refl; keeps = is_kept; fewer = fewer }
left_alike world holes dark old new state lost lose (Deliver agent) moved fewer other is_kept elsewhere =
    by_cases (is_doomed world (state.position agent)) _
    (λ doom. destroyed_alike world holes dark old new state lost lose agent moved fewer other doom is_kept)
    (λ safe. elim (or_cases (arrives world state agent) _ is_kept) [
      | inl arrival ↦ arrived_alike world holes dark old new state lost lose agent moved fewer other safe
          arrival elsewhere
      | inr destroyed ↦ absurd (false≢true (sym (and_right (not state.closed) _ safe)
          ∙ (and_parts (destroys world state agent) _ destroyed).0))
    ])
left_alike world holes dark old new state lost lose Close moved fewer other is_kept elsewhere =
    record { struck = refl; hides = refl; hides_too = refl; next = refl; reply = refl; keeps = is_kept; fewer = fewer }

-- each struck event

heads_somewhere : (world : World) (old : Option ℕ) (position : Position)
    → meet old (node_reached world position) ≡ true →
    (node : ℕ) × (port : ℕ) × (position ≡ Bound node port) × (old ≡ Some (world.net.far node port).0)
heads_somewhere world (Some hole) (Bound node port) is = (node, port, refl, ap Some (eqb-true hole _ is))
heads_somewhere world None (Bound node port) is = absurd (false≢true is)
heads_somewhere world None Before is = absurd (false≢true is)
heads_somewhere world None (At node came) is = absurd (false≢true is)
heads_somewhere world None After is = absurd (false≢true is)
heads_somewhere world (Some hole) Before is = absurd (false≢true is)
heads_somewhere world (Some hole) (At node came) is = absurd (false≢true is)
heads_somewhere world (Some hole) After is = absurd (false≢true is)

pub taken_out : (world : World) (holes : List ℕ) (dark : List (ℕ × ℕ)) (old : Option ℕ) (new : ℕ) (state : State)
    (lost lose : ℕ → Bool) (event : Event) → HasMoved world holes dark old new → LosesNoMore lost lose →
    heads_for world old state event ≡ true → HappensNot world (with_these world holes dark) state lost lose event
taken_out world holes dark old new state lost lose (Tell agent command) moved fewer heads = absurd (false≢true heads)
taken_out world holes dark old new state lost lose (Deliver agent) moved fewer heads =
    let twin = with_these world holes dark in
    let at = heads_somewhere world old (state.position agent) heads in
    let doom : is_doomed world (state.position agent) ≡ true = ap (is_doomed world) at.2
    ∙ or_left (is_hole world.holes (world.net.far at.0 at.1).0) _ (moved.was_hole _ at.3) in
    let here = no_doomed_arrival world state agent doom in
    record {
      struck = or_left (is_doomed world (state.position agent)) _ doom;
      hides = ap (λ (b : Bool). b && is_doomed twin (state.position agent)) here;
      next = next_no_arrival world state agent here;
      fewer = λ one is. lost_before (destroys world state agent) lost lose agent one fewer is;
    }
taken_out world holes dark old new state lost lose Close moved fewer heads = absurd (false≢true heads)

-- the remaining events of a list, in the twin
pub record IsLeft (world twin : World) (state : State) (lose : ℕ → Bool) (events chosen : List Event)
    (answers : List (Option Reply)) : Type 0 where
  pub struck : strike_from world twin state events ≡ strike_from twin world state chosen
  pub hides : RevealsNothing world twin state events
  pub hides_too : RevealsNothing twin world state chosen
  pub kept : kept_from twin state lose chosen ≡ chosen
  pub answers_are : replies_from twin state chosen ≡ answers

none_some : (place : ℕ) → Some place ≡ None → ⊥
none_some place e = cc

pub left_same : (world : World) (holes : List ℕ) (dark : List (ℕ × ℕ)) (old : Option ℕ) (new : ℕ) (state : State)
    (lost lose : ℕ → Bool) (place : ℕ) (events : List Event) → HasMoved world holes dark old new
    → LosesNoMore lost lose →
    kept_from world state lost events ≡ events → first_arrival_from world new state place events ≡ None →
    IsLeft world (with_these world holes dark) state lose events (at_places events (left_from world old state events))
    (at_places (replies_from world state events) (left_from world old state events))
left_same world holes dark old new state lost lose place [] moved fewer all unreached =
    record { struck = refl; hides = tt; hides_too = tt; kept = refl; answers_are = refl }
left_same world holes dark old new state lost lose place (event ∷ events) moved fewer all unreached =
    let twin = with_these world holes dark in
    let after = next world state event in
    let rest = at_places events (left_from world old after events) in
    let answered = at_places (replies_from world after events) (left_from world old after events) in
    let first = first_kept world state lost event events all in
    let elsewhere : arrives_at world new state event ≡ false =
    by_cases (arrives_at world new state event) (arrives_at world new state event ≡ false)
    (λ is. absurd (none_some place (sym (cond-true _ _ _ is) ∙ unreached))) (λ is. is) in
    let later : first_arrival_from world new after (suc place) events ≡ None =
    sym (cond-false _ _ _ elsewhere) ∙ unreached in
    by_cases (heads_for world old state event) _
    (λ heads.
    let out = taken_out world holes dark old new state lost lose event moved fewer heads in
    let same = left_same world holes dark old new after (lost_after world state lost event) lose (suc place) events
    moved out.fewer first.others later in
    let kept_out : (b : Bool) → not b ≡ false → IsLeft world twin after lose events rest answered →
    IsLeft world twin state lose (event ∷ events) (if not b then event ∷ rest else rest)
    (if not b then reply world state event ∷ answered else answered) = λ b is_out same.
    rw is_out (record {
      struck = cond-true _ _ _ out.struck ∙ same.struck
          ∙ ap (λ (start : State). strike_from twin world start rest) out.next;
      hides = (out.hides, same.hides);
      hides_too = subst (λ (start : State). RevealsNothing twin world start rest) out.next same.hides_too;
      kept = subst (λ (start : State). kept_from twin start lose rest ≡ rest) out.next same.kept;
      answers_are = subst (λ (start : State). replies_from twin start rest ≡ answered) out.next same.answers_are;
    }) in
    kept_out (heads_for world old state event) (ap not heads) same)
    (λ other.
    let alike = left_alike world holes dark old new state lost lose event moved fewer other first.first elsewhere in
    let same = left_same world holes dark old new after (lost_after world state lost event)
    (lost_after twin state lose event) (suc place) events moved alike.fewer first.others later in
    let kept_in : (b : Bool) → not b ≡ true → IsLeft world twin after (lost_after twin state lose event)
    events rest answered →
    IsLeft world twin state lose (event ∷ events) (if not b then event ∷ rest else rest)
    (if not b then reply world state event ∷ answered else answered) = λ b is_in same.
    rw is_in (record {
      struck = ap₂ (λ (b : Bool) (others : List Event). if b then others else event ∷ others) alike.struck
          (same.struck ∙ ap (λ (start : State). strike_from twin world start rest) alike.next);
      hides = (alike.hides, same.hides);
      hides_too = (
        alike.hides_too,
        subst (λ (start : State). RevealsNothing twin world start rest) alike.next
            same.hides_too,
      );
      kept = ap₂ (λ (b : Bool) (others : List Event). kept_first b event others) alike.keeps
          (subst (λ (start : State). kept_from twin start (lost_after twin state lose event) rest ≡ rest)
          alike.next same.kept);
      answers_are = ap₂ (λ (one : Option Reply) (others : List (Option Reply)). one ∷ others) (sym alike.reply)
          (subst (λ (start : State). replies_from twin start rest ≡ answered) alike.next same.answers_are);
    }) in
    kept_in (heads_for world old state event) (ap not other) same)
