-- What the passes find in a match whose twin is sought.
use Rattle.std.proofs.Common.{ℕ, ◌<◌, ◌≡◌, Bool, false, not, ◌&&◌, ◌||◌, ◌==◌, Option, Some, None, List, [], ◌∷◌}
use Rattle.std.proofs.Common.{length, inl, inr, refl, sym, ap, ap₂, ◌∙◌, arith, nat_lt}
use Rattle.std.specs.Prelude.{find, option_map}
use Rattle.std.specs.List.{range_with_len}
use Rattle.std.specs.Option.{option_or}
use Rattle.std.proofs.lemmas.Bool.{cond-false, lt-ltb}
use Rattle.std.proofs.lemmas.Bool.Decides.{eqb_tells}
use Rattle.bhs_net.specs.Network.{Network, nodes_of, IsPortLabelled}
use Rattle.bhs_model.specs.declared.marks.Kept.{Kept}
use Rattle.bhs_model.specs.declared.setups.Setup.{Setup}
use Rattle.bhs_model.specs.Worlds.{World, is_hole}
use Rattle.bhs_model.specs.Runs.{initial}
use Rattle.bhs_model.specs.Cuts.{meet}
use Rattle.bhs_model.specs.Marks.{events_of}
use Rattle.bhs_model.specs.Setups.{world_of, nodes_where, IsNormal}
use Rattle.bhs_world.specs.Faults.{first_fault, IsWithinLimits}
use Rattle.bhs_match.specs.Matches.{Play, world_in}
use Rattle.bhs_view.specs.declared.twins.TwinFault.TheVariants.{Reached}
use Rattle.bhs_model.specs.Sites.{sites}
use Rattle.bhs_view.specs.Twins.{replaced, is_moved, moved, left, first_arrival, twin_fault}
use Rattle.bhs_view.specs.TwinWalks.{first_hole, left_at, first_arrival_at}
use Rattle.bhs_view.specs.Laws.{IsEnded}
use Rattle.bhs_view.specs.Reading.{IsRead}
use Rattle.bhs_world.proofs.NoFaultLemmas.{moved_fits, home_clear}
use Rattle.bhs_view.proofs.PassLemmas.{first_hole_same, left_same_from, first_arrival_same}

pub counted : {play : Play} {net : Network} {setup : Setup} {log : List Kept} {found : List (Option ℕ)}
    → IsRead play net setup log found → length found ≡ length log
counted read = read.count ∙ ap (λ (log : List Kept). length log) (sym read.log)

pub left_count : (bound : Option ℕ) (log : List Kept) (sites : List (Option ℕ)) → length sites ≡ length log
    → length (left_at bound log sites) ≡ length log
left_count bound [] sites same = refl
left_count bound (one ∷ log) [] same = absurd (omega (arith, same))
left_count bound (one ∷ log) (site ∷ sites) same =
    let more = left_count bound log sites (omega (arith, same)) in omega arith

pub ended_of : (play : Play) (net : Network) (setup : Setup) (log : List Kept) (found : List (Option ℕ))
    → IsRead play net setup log found → IsEnded play
ended_of play net setup log found read = record {
  network = read.network;
  within = read.within;
  closed = read.closed;
  kept = read.kept;
  replies = read.replies;
}

pub read_arrival : (play : Play) (net : Network) (setup : Setup) (log : List Kept) (node : ℕ)
    (found : List (Option ℕ)) (answer : Option ℕ) → IsRead play net setup log found
    → answer ≡ first_arrival_at node 0 log found
    → first_arrival (world_in play) node (events_of play.log) ≡ answer
read_arrival play net setup log node found answer read is_answer =
    sym (is_answer ∙ ap₂ (first_arrival_at node 0) read.log read.sites
    ∙ first_arrival_same (world_in play) play.log node read.replies)

pub read_hole : (play : Play) (net : Network) (setup : Setup) (log : List Kept) (found : List (Option ℕ))
    (answer : Option ℕ) → IsRead play net setup log found →
    answer ≡ option_or (first_hole (world_of net setup) log found)
    (find (is_hole setup.holes) (range_with_len 0 (nodes_of net))) →
    answer ≡ replaced (world_in play) (events_of play.log)
read_hole play net setup log found answer read is_answer =
    let first : first_hole (world_of net setup) log found ≡ first_hole (world_in play) play.log
    (sites (world_in play) (events_of play.log)) =
    ap₂ (λ (world : World) (log : List Kept). first_hole world log found) (ap₂ world_of read.net read.setup) read.log
    ∙ ap (first_hole (world_in play) play.log) read.sites in
    is_answer
    ∙ ap₂ option_or (first ∙ first_hole_same (world_in play) play.log read.kept read.replies)
    (ap₂ (λ (net : Network) (setup : Setup). find (is_hole setup.holes) (range_with_len 0 (nodes_of net)))
    read.net read.setup)

pub read_left : (play : Play) (net : Network) (setup : Setup) (log : List Kept) (found : List (Option ℕ))
    (old : Option ℕ) (set marks : List Bool) → IsRead play net setup log found →
    old ≡ replaced (world_in play) (events_of play.log) → set ≡ left_at old log found → marks ≡ set →
    marks ≡ left (world_in play) (replaced (world_in play) (events_of play.log)) (events_of play.log)
read_left play net setup log found old set marks read is_old is_set is_marks =
    is_marks ∙ is_set ∙ ap₂ (left_at old) read.log read.sites
    ∙ left_same_from (world_in play) initial old play.log
    ∙ ap (λ (old : Option ℕ). left (world_in play) old (events_of play.log)) is_old

-- the setup

pub twin_setup : (play : Play) (net : Network) (setup given : Setup) (holes : List ℕ) (old : Option ℕ) (node : ℕ)
    → net ≡ play.net → setup ≡ play.setup → given ≡ setup →
    holes ≡ nodes_where net (is_moved setup.holes old node) → record given { holes = holes } ≡ moved play.net
    play.setup old node
twin_setup play net setup given holes old node is_net is_setup is_given is_holes =
    let with_holes : Setup → List ℕ → Setup = λ setup holes. record setup { holes = holes } in
    ap₂ with_holes (is_given ∙ is_setup) (is_holes
    ∙ ap₂ (λ (net : Network) (setup : Setup). nodes_where net (is_moved setup.holes old node)) is_net is_setup)

other_node : (one other : ℕ) → (one ≡ other → ⊥) → (one == other) ≡ false
other_node one other never = elim (eqb_tells one other) [ inl h ↦ absurd (never h.1) | inr h ↦ h.0 ]

pub fits_twin : (play : Play) (net : Network) (given : Setup) (old : Option ℕ) (node : ℕ) → net ≡ play.net
    → IsPortLabelled play.net → IsWithinLimits play.net play.setup → IsNormal play.net play.setup
    → (node ≡ play.setup.home → ⊥) →
    given ≡ moved play.net play.setup old node → first_fault net given ≡ None
fits_twin play net given old node is_net labelled within in_order never is_given =
    ap₂ first_fault is_net is_given
    ∙ moved_fits play.net play.setup (is_moved play.setup.holes old node) labelled within in_order
    (ap₂ (λ (a b : Bool). a || (b && not (meet_home old))) (other_node play.setup.home node (λ same. never (sym same)))
    (home_clear play.net play.setup within))
  where
    meet_home : Option ℕ → Bool
    meet_home old = meet old (Some play.setup.home)

-- the fault

pub fault_is : (play : Play) (net : Network) (setup : Setup) (nodes node : ℕ) (hole : Bool) (found : Option ℕ)
    → net ≡ play.net → setup ≡ play.setup → nodes ≡ nodes_of net → node < nodes → (node ≡ setup.home → ⊥) →
    hole ≡ is_hole setup.holes node → hole ≡ false → first_arrival (world_in play) node (events_of play.log) ≡ found
    → twin_fault play node ≡ option_map Reached found
fault_is play net setup nodes node hole found is_net is_setup is_nodes within never is_marked no_hole is_found =
    let is_node : node < nodes_of play.net = rw (sym (is_nodes ∙ ap nodes_of is_net)) within in
    let not_home : (node == play.setup.home) ≡ false = ap (λ (setup : Setup). node == setup.home) (sym is_setup)
    ∙ other_node node setup.home never in
    let not_hole : is_hole play.setup.holes node ≡ false =
    ap (λ (setup : Setup). is_hole setup.holes node) (sym is_setup) ∙ sym is_marked ∙ no_hole in
    cond-false (not (nat_lt node (nodes_of play.net))) _ _ (ap not (lt-ltb node (nodes_of play.net) is_node))
    ∙ cond-false (node == play.setup.home) _ _ not_home
    ∙ cond-false (is_hole play.setup.holes node) _ _ not_hole
    ∙ ap (option_map Reached) is_found
