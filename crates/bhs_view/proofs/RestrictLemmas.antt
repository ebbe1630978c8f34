-- The log of a match in which the events of a closed set were played, and a Close.
use Rattle.std.proofs.Common.{ℕ, suc, ◌≡◌, Bool, true, false, not, ◌&&◌, Option, Some, None, List, [], ◌∷◌, ◌++◌}
use Rattle.std.proofs.Common.{length, map, filter, nat_lt, refl, sym, ap, ap₂, ◌∙◌, append-nil}
use Rattle.std.proofs.lemmas.Bool.{cond-true, true≢false, cond_both}
use Rattle.bhs_model.specs.declared.events.Event.{Event}
use Rattle.bhs_model.specs.declared.events.Event.TheVariants.{Tell, Deliver, Close}
use Rattle.bhs_model.specs.declared.replies.Reply.{Reply}
use Rattle.bhs_model.specs.declared.marks.Kept.{Kept}
use Rattle.bhs_model.specs.Worlds.{World}
use Rattle.bhs_model.specs.Runs.{Position, Before, At, Bound, After, State, initial, told, heard, arrives, delivered}
use Rattle.bhs_model.specs.Runs.{next, run, run_from, reply}
use Rattle.bhs_model.specs.InOrder.{replies, replies_from}
use Rattle.bhs_model.specs.Kept.{keeps, kept, kept_first, kept_from, lost, lost_after, nobody}
use Rattle.bhs_model.specs.Marks.{events_of, read_if}
use Rattle.bhs_model.specs.Cuts.{at_places, footprints, is_closed}
use Rattle.bhs_model.proofs.StepLemmas.{by_cases}
use Rattle.bhs_model.proofs.AddLemmas.{kept-append, replies-append, replies_count}
use Rattle.bhs_model.proofs.CutLemmas.{closed_sets_stand_alone_lemma}
use Rattle.bhs_net.specs.Network.{Network}
use Rattle.bhs_model.specs.declared.setups.Setup.{Setup}
use Rattle.bhs_model.specs.Setups.{world_of, normal, IsNormal}
use Rattle.bhs_match.specs.Matches.{Play, world_in}
use Rattle.bhs_view.specs.Restrictions.{set_in, fault_of, first_fault, IsRestricted}
use Rattle.bhs_view.proofs.ClosedLemmas.{unclosed_means}
use Rattle.bhs_view.specs.Entries.{LogEntry, entries, closes, closed_once}
use Rattle.bhs_model.proofs.KeptLemmas.{first_kept}
use Rattle.bhs_view.proofs.AloneLemmas.{closed_sets_are_kept}

abbrev pub paired : List Event → List (Option Reply) → List LogEntry
paired [] replied = []
paired (event ∷ events) [] = []
paired (event ∷ events) (one ∷ replied) = (event, one) ∷ paired events replied

pub entries_paired : (log all : List Kept) → map (λ one. (one.event, read_if all one.mark)) log ≡ paired (events_of log)
    (map (λ one. read_if all one.mark) log)
entries_paired [] all = refl
entries_paired (one ∷ log) all = ap (λ (others : List LogEntry). (one.event, read_if all one.mark) ∷ others)
    (entries_paired log all)

pub chosen_paired : (log all : List Kept) (set : List Bool) →
    at_places (map (λ one. (one.event, read_if all one.mark)) log) set ≡ paired (at_places (events_of log) set)
    (at_places (map (λ one. read_if all one.mark) log) set)
chosen_paired [] all set = refl
chosen_paired (one ∷ log) all [] = refl
chosen_paired (one ∷ log) all (true ∷ set) = ap (λ (others : List LogEntry). (one.event, read_if all one.mark) ∷ others)
    (chosen_paired log all set)
chosen_paired (one ∷ log) all (false ∷ set) = chosen_paired log all set

-- before and after the close

delivered_closed : (world : World) (state : State) (agent : ℕ) (position : Position)
    → (delivered world state agent position).closed ≡ state.closed
delivered_closed world state agent Before = refl
delivered_closed world state agent (At node came) = refl
delivered_closed world state agent (Bound node port) = refl
delivered_closed world state agent After = refl

open_told : (world : World) (state : State) (event : Event) → closes event ≡ false
    → (next world state event).closed ≡ state.closed
open_told world state (Tell agent command) is_other =
    cond_both (heard world state agent command) (told world state agent command) state
    (λ (after : State). after.closed ≡ state.closed) (λ is. refl) (λ is_not. refl)
open_told world state (Deliver agent) is_other =
    cond_both (arrives world state agent) (delivered world state agent (state.position agent)) state
    (λ (after : State). after.closed ≡ state.closed)
    (λ is. delivered_closed world state agent (state.position agent)) (λ is_not. refl)
open_told world state Close is_other = absurd (true≢false is_other)

stays_closed : (world : World) (state : State) (events : List Event) → state.closed ≡ true
    → (run_from world state events).closed ≡ true
stays_closed world state [] closed = closed
stays_closed world state (event ∷ events) closed =
    stays_closed world (next world state event) events
    (by_cases (closes event) _ (λ is. shut event is) (λ is_not. open_told world state event is_not ∙ closed))
  where
    shut : (event : Event) → closes event ≡ true → (next world state event).closed ≡ true
    shut (Tell agent command) is = absurd (true≢false (sym is))
    shut (Deliver agent) is = absurd (true≢false (sym is))
    shut Close is = refl

shut_after : (world : World) (state : State) (event : Event) → closes event ≡ true
    → (next world state event).closed ≡ true
shut_after world state (Tell agent command) is = absurd (true≢false (sym is))
shut_after world state (Deliver agent) is = absurd (true≢false (sym is))
shut_after world state Close is = refl

-- where the match goes on, no Close is among the events
none_closes : (world : World) (state : State) (events : List Event) (replied : List (Option Reply))
    → (run_from world state events).closed ≡ false →
    filter (λ entry. not (closes entry.0)) (paired events replied) ≡ paired events replied
none_closes world state [] replied open_match = refl
none_closes world state (event ∷ events) [] open_match = refl
none_closes world state (event ∷ events) (one ∷ replied) open_match =
    by_cases (closes event) _
    (λ is. absurd (true≢false (sym (stays_closed world (next world state event) events
    (shut_after world state event is)) ∙ open_match)))
    (λ is_not. cond-true (not (closes event)) _ _ (ap not is_not)
    ∙ ap (λ (others : List LogEntry). (event, one) ∷ others)
    (none_closes world (next world state event) events replied open_match))

-- after a Close nothing is kept
none_kept : (world : World) (state : State) (lost : ℕ → Bool) (event : Event) → state.closed ≡ true
    → keeps world state lost event ≡ false
none_kept world state lost (Tell agent command) closed = rw closed (and_none (nat_lt agent world.agents))
  where
    and_none : (b : Bool) → (b && false) ≡ false
    and_none true = refl
    and_none false = refl
none_kept world state lost (Deliver agent) closed = rw closed refl
none_kept world state lost Close closed = rw closed refl

nothing_after : (world : World) (state : State) (lost : ℕ → Bool) (events : List Event) → state.closed ≡ true
    → kept_from world state lost events ≡ events → events ≡ []
nothing_after world state lost [] closed all = refl
nothing_after world state lost (event ∷ events) closed all =
    absurd (true≢false (sym (first_kept world state lost event events all).first
    ∙ none_kept world state lost event closed))

-- where the match ends, the one Close stands last
close_last : (world : World) (state : State) (lost : ℕ → Bool) (events : List Event) → state.closed ≡ false
    → kept_from world state lost events ≡ events → (run_from world state events).closed ≡ true →
    paired events (replies_from world state events) ≡ closed_once (paired events (replies_from world state events))
close_last world state lost [] open_match all ended = absurd (true≢false (sym ended ∙ open_match))
close_last world state lost (Tell agent command ∷ events) open_match all ended =
    ap (λ (others : List LogEntry). (Tell agent command, reply world state (Tell agent command)) ∷ others)
    (close_last world (next world state (Tell agent command)) lost events
    (open_told world state (Tell agent command) refl ∙ open_match)
    (first_kept world state lost (Tell agent command) events all).others ended)
close_last world state lost (Deliver agent ∷ events) open_match all ended =
    ap (λ (others : List LogEntry). (Deliver agent, reply world state (Deliver agent)) ∷ others)
    (close_last world (next world state (Deliver agent)) (lost_after world state lost (Deliver agent)) events
    (open_told world state (Deliver agent) refl ∙ open_match)
    (first_kept world state lost (Deliver agent) events all).others ended)
close_last world state lost (Close ∷ events) open_match all ended =
    rw (nothing_after world (next world state Close) lost events refl
    (first_kept world state lost Close events all).others) refl

paired_more : (events : List Event) (replied : List (Option Reply)) → length replied ≡ length events
    → paired (events ++ Close ∷ []) (replied ++ None ∷ []) ≡ paired events replied ++ (Close, None) ∷ []
paired_more [] [] same = refl
paired_more [] (one ∷ replied) same = absurd (not_none same)
  where
    not_none : suc (length replied) ≡ 0 → ⊥
    not_none e = cc
paired_more (event ∷ events) [] same = absurd (none_not same)
  where
    none_not : 0 ≡ suc (length events) → ⊥
    none_not e = cc
paired_more (event ∷ events) (one ∷ replied) same =
    ap (λ (others : List LogEntry). (event, one) ∷ others) (paired_more events replied cc)

-- what a closed set of a log and then a Close leave in the log
pub alone : (world : World) (chosen : List Event) → kept world chosen ≡ chosen →
    paired (kept world (chosen ++ Close ∷ [])) (replies world (kept world (chosen ++ Close ∷ []))) ≡ closed_once
    (paired chosen (replies world chosen))
alone world chosen all =
    let more : kept world (chosen ++ Close ∷ []) ≡ chosen ++ kept_first (not (run world chosen).closed) Close [] =
    kept-append world initial nobody chosen (Close ∷ [])
    ∙ ap (λ (before : List Event). before ++ kept_first (not (run world chosen).closed) Close []) all in
    rw more (by_cases (run world chosen).closed _
    (λ ended. rw (ended, append-nil chosen) (close_last world initial nobody chosen refl all ended))
    (λ open_match. rw open_match (
    ap (paired (chosen ++ Close ∷ [])) (replies-append world initial chosen (Close ∷ []))
    ∙ paired_more chosen (replies world chosen) (replies_count world initial chosen)
    ∙ ap (λ (before : List LogEntry). before ++ (Close, None) ∷ [])
    (sym (none_closes world initial chosen (replies world chosen) open_match))
    )))

pub restricted : (world : World) (whole part : List Kept) (set : List Bool) → kept world (events_of whole) ≡ events_of
    whole → map (λ one. read_if whole one.mark) whole ≡ replies world (events_of whole) →
    is_closed (footprints world (events_of whole)) set ≡ true
    → kept world (at_places (events_of whole) set ++ Close ∷ []) ≡ events_of part
    → map (λ one. read_if part one.mark) part ≡ replies world (events_of part) →
    entries part ≡ closed_once (at_places (entries whole) set)
restricted world whole part set all replied closed is_part part_replied =
    entries_paired part part
    ∙ ap (paired (events_of part)) part_replied
    ∙ ap (λ (events : List Event). paired events (replies world events)) (sym is_part)
    ∙ alone world (at_places (events_of whole) set) (closed_sets_are_kept world (events_of whole) set all closed)
    ∙ ap (λ (replied : List (Option Reply)). closed_once (paired (at_places (events_of whole) set) replied))
    (closed_sets_stand_alone_lemma world (events_of whole) set closed)
    ∙ ap (λ (replied : List (Option Reply)). closed_once
    (paired (at_places (events_of whole) set) (at_places replied set))) (sym replied)
    ∙ ap closed_once (sym (chosen_paired whole whole set))

-- a closed set

no_place : (index place : Option ℕ) → fault_of index place ≡ None → place ≡ None
no_place None None none = refl
no_place None (Some place) none = cc
no_place (Some index) place none = cc

pub is_restricted : (whole part game : Play) (net : Network) (setup : Setup) (log : List Kept) (places : List ℕ)
    (set marks : List Bool) → net ≡ whole.net → setup ≡ whole.setup → log ≡ whole.log →
    IsNormal whole.net whole.setup → game ≡ record { net = net; setup = normal net setup; log = [] } →
    kept (world_in whole) (events_of whole.log) ≡ events_of whole.log → map (λ (one : Kept). read_if whole.log one.mark)
    whole.log ≡ replies (world_in whole) (events_of whole.log) →
    marks ≡ set → set ≡ set_in whole places → first_fault whole places ≡ None →
    kept (world_in game) (at_places (events_of log) marks ++ Close ∷ []) ≡ events_of part.log → (part.net ≡ game.net)
    × (part.setup ≡ game.setup) →
    map (λ (one : Kept). read_if part.log one.mark) part.log ≡ replies (world_in part) (events_of part.log)
    → IsRestricted whole places part
is_restricted whole part game net setup log places set marks is_net is_setup is_log in_order is_game all replied
    is_marks is_set fits is_part same part_replied =
    let game_net : game.net ≡ whole.net = ap (λ (play : Play). play.net) is_game ∙ is_net in
    let game_setup : game.setup ≡ whole.setup = ap (λ (play : Play). play.setup) is_game ∙ ap₂ normal is_net is_setup
    ∙ in_order.same in
    let world : World = world_in whole in
    let game_world : world_in game ≡ world = ap₂ world_of game_net game_setup in
    let part_world : world_in part ≡ world = ap₂ world_of (same.0 ∙ game_net) (same.1 ∙ game_setup) in
    let closed = unclosed_means 0 (footprints world (events_of whole.log)) (set_in whole places) (no_place _ _ fits) in
    let is_chosen : kept world (at_places (events_of whole.log) (set_in whole places) ++ Close ∷ []) ≡ events_of
    part.log =
    sym (ap (λ (world : World). kept world (at_places (events_of whole.log) (set_in whole places) ++ Close ∷ []))
    game_world)
    ∙ sym (ap₂ (λ (log : List Kept) (set : List Bool). kept (world_in game)
    (at_places (events_of log) set ++ Close ∷ [])) is_log (is_marks ∙ is_set))
    ∙ is_part in
    record {
      net = same.0 ∙ game_net;
      setup = same.1 ∙ game_setup;
      log = restricted world whole.log part.log (set_in whole places) all replied closed is_chosen
          (part_replied ∙ ap (λ (world : World). replies world (events_of part.log)) part_world);
    }
