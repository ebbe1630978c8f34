-- The log of a twin.
use Rattle.std.proofs.Common.{ℕ, ◌≡◌, ◌<◌, Bool, true, false, not, Option, Some, None, List, [], ◌∷◌}
use Rattle.std.proofs.Common.{if◌then◌else◌, ◌==◌, nat_lt, map, refl, sym, ap, ap₂, ◌∙◌, subst}
use Rattle.std.specs.Prelude.{option_map}
use Rattle.std.proofs.lemmas.Bool.{ltb-true}
use Rattle.bhs_net.specs.Network.{nodes_of}
use Rattle.bhs_model.specs.declared.events.Event.{Event}
use Rattle.bhs_model.specs.declared.replies.Reply.{Reply}
use Rattle.bhs_model.specs.declared.marks.Kept.{Kept}
use Rattle.bhs_model.specs.Worlds.{World, is_hole}
use Rattle.bhs_model.specs.Runs.{initial}
use Rattle.bhs_model.specs.InOrder.{replies}
use Rattle.bhs_model.specs.Kept.{kept, nobody}
use Rattle.bhs_model.specs.Cuts.{at_places}
use Rattle.bhs_model.specs.Laws.{LookAlike}
use Rattle.bhs_model.specs.Marks.{events_of, read_if}
use Rattle.bhs_model.specs.Setups.{world_of, normal}
use Rattle.bhs_model.specs.Twins.{Twins}
use Rattle.bhs_model.proofs.TwinLemmas.{twins_look_alike_lemma}
use Rattle.bhs_match.specs.Matches.{Play, world_in}
use Rattle.bhs_view.specs.Entries.{LogEntry, entries}
use Rattle.bhs_view.specs.Laws.{IsEnded}
use Rattle.bhs_view.specs.declared.twins.TwinFault.TheVariants.{Node, Home, Same, Reached}
use Rattle.bhs_view.specs.Twins.{replaced, moved, left, first_arrival, twin_fault, IsTwin, HasTwin}
use Rattle.bhs_view.specs.Twins.{hole_replaced, twin_setup, twin_events, places_left}
use Rattle.bhs_view.proofs.TwinLemmas.{with_these, HasMoved, left_same}
use Rattle.bhs_view.proofs.TwinSetupLemmas.{has_moved}

-- a match and its twin in the model
pub record IsPair (world twin : World) (events chosen : List Event) (answers : List (Option Reply)) : Type 0 where
  pub twins : Twins world events twin chosen
  pub alike : LookAlike world events twin chosen
  pub kept : kept twin chosen ≡ chosen
  pub answers_are : replies twin chosen ≡ answers

pair_of : (world : World) (holes : List ℕ) (dark : List (ℕ × ℕ)) (old : Option ℕ) (new : ℕ) (events : List Event)
    → HasMoved world holes dark old new → kept world events ≡ events → first_arrival world new events ≡ None →
    IsPair world (with_these world holes dark) events (at_places events (left world old events))
    (at_places (replies world events) (left world old events))
pair_of world holes dark old new events moved all unreached =
    let twin = with_these world holes dark in
    let same = left_same world holes dark old new initial nobody nobody 0 events moved (λ agent is. is) all unreached in
    let twins : Twins world events twin (at_places events (left world old events)) = record {
      worlds = record { net = refl; home = refl; agents = refl; quota = refl; board = refl };
      struck = same.struck;
      reveals_nothing = same.hides;
      other_reveals_nothing = same.hides_too;
    } in
    record {
      twins = twins;
      alike = twins_look_alike_lemma world events twin _ twins;
      kept = same.kept;
      answers_are = same.answers_are;
    }

-- the meaning of the absence of a fault
pub record IsFree (play : Play) (node : ℕ) : Type 0 where
  pub is_node : node < nodes_of play.net
  pub away : (node == play.setup.home) ≡ false
  pub no_hole : is_hole play.setup.holes node ≡ false
  pub unreached : first_arrival (world_in play) node (events_of play.log) ≡ None

free_parts : (a b c : Bool) (found : Option ℕ)
    → (if not a then Some Node else (if b then Some
    Home else (if c then Some Same else option_map Reached found))) ≡ None → (a ≡ true) × (b ≡ false) × (c ≡ false)
    × (found ≡ None)
free_parts false b c found e = cc
free_parts true true c found e = cc
free_parts true false true found e = cc
free_parts true false false (Some place) e = cc
free_parts true false false None e = (refl, refl, refl, refl)

pub is_free : (play : Play) (node : ℕ) → twin_fault play node ≡ None → IsFree play node
is_free play node fits =
    let parts = free_parts (nat_lt node (nodes_of play.net)) (node == play.setup.home) (is_hole play.setup.holes node)
    (first_arrival (world_in play) node (events_of play.log)) fits in
    record { is_node = ltb-true _ _ parts.0; away = parts.1; no_hole = parts.2; unreached = parts.3 }

-- a twin, described by its original match
pub record IsTwinOf (whole part : Play) (node : ℕ) (holes : List ℕ) (dark : List (ℕ × ℕ))
    (old : Option ℕ) : Type 0 where
  pub moved : HasMoved (world_in whole) holes dark old node
  pub world : world_in part ≡ with_these (world_in whole) holes dark
  pub events : events_of part.log ≡ at_places (events_of whole.log) (left (world_in whole) old (events_of whole.log))

firsts : (log all : List Kept) → map (λ (entry : LogEntry). entry.0)
    (map (λ (one : Kept). (one.event, read_if all one.mark)) log) ≡ events_of log
firsts [] all = refl
firsts (one ∷ log) all = ap (λ (others : List Event). one.event ∷ others) (firsts log all)

firsts_at : (chosen : List LogEntry) (set : List Bool)
    → map (λ (entry : LogEntry). entry.0) (at_places chosen set)
    ≡ at_places (map (λ (entry : LogEntry). entry.0) chosen) set
firsts_at [] set = refl
firsts_at (one ∷ chosen) [] = refl
firsts_at (one ∷ chosen) (true ∷ set) = ap (λ (others : List Event). one.0 ∷ others) (firsts_at chosen set)
firsts_at (one ∷ chosen) (false ∷ set) = firsts_at chosen set

-- a twin has the events that are left
pub events_left : (whole part : Play) (node : ℕ) → IsTwin whole node part → events_of part.log ≡ twin_events whole
events_left whole part node twin =
    sym (firsts part.log part.log)
    ∙ ap (map (λ (entry : LogEntry). entry.0)) twin.log
    ∙ firsts_at (entries whole.log) (places_left whole)
    ∙ ap (λ (events : List Event). at_places events (places_left whole)) (firsts whole.log whole.log)

pub made_of : (whole part : Play) (node : ℕ) → IsEnded whole → node < nodes_of whole.net → IsTwin whole node part →
    let old = replaced (world_in whole) (events_of whole.log) in
    let other = normal whole.net (moved whole.net whole.setup old node) in
    IsTwinOf whole part node other.holes other.dark old
made_of whole part node ended is_node twin =
    record {
      moved = has_moved whole.net whole.setup (events_of whole.log) node ended.network.labelled ended.within is_node;
      world = ap₂ world_of twin.net twin.setup;
      events = events_left whole part node twin;
    }

pub has_twin : (whole : Play) (node : ℕ) → IsEnded whole → node < nodes_of whole.net
    → first_arrival (world_in whole) node (events_of whole.log) ≡ None → HasTwin whole node
has_twin whole node ended is_node unreached =
    let events = events_of whole.log in
    let other = twin_setup whole node in
    let pair = pair_of (world_in whole) other.holes other.dark (hole_replaced whole) node events
    (has_moved whole.net whole.setup events node ended.network.labelled ended.within is_node)
    ended.kept unreached in
    record {
      kept = pair.kept;
      answers = pair.answers_are
          ∙ ap (λ (answers : List (Option Reply)). at_places answers (places_left whole)) (sym ended.replies);
      alike = pair.alike;
    }

pub twins_alike : (whole twin : Play) (node : ℕ) → IsEnded whole → twin_fault whole node ≡ None
    → IsTwin whole node twin →
    LookAlike (world_in whole) (events_of whole.log) (world_in twin) (events_of twin.log)
twins_alike whole part node ended fits twin =
    let world = world_in whole in
    let events = events_of whole.log in
    let old = replaced world events in
    let other = normal whole.net (moved whole.net whole.setup old node) in
    let free = is_free whole node fits in
    let made = made_of whole part node ended free.is_node twin in
    let pair = pair_of world other.holes other.dark old node events made.moved ended.kept free.unreached in
    subst (λ (there : World). LookAlike world events there (events_of part.log)) (sym made.world)
    (subst (λ (others : List Event). LookAlike world events (with_these world other.holes other.dark) others)
    (sym made.events) pair.alike)
