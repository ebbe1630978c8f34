-- What the passes over a log and its sites find is what the definitions say.
use Rattle.std.proofs.Common.{ℕ, suc, ◌≡◌, Bool, true, false, not, ◌&&◌, Option, Some, None, List, [], ◌∷◌}
use Rattle.std.proofs.Common.{if◌then◌else◌, map, refl, sym, ap, ap₂, ◌∙◌}
use Rattle.std.specs.Option.{option_or}
use Rattle.std.proofs.lemmas.Bool.{cond-true, cond-false, false≢true}
use Rattle.bhs_model.specs.declared.commands.Command.TheVariants.{Enter, Look, Write, Depart, Accuse, Leave, Bad}
use Rattle.bhs_model.specs.declared.events.Event.{Event}
use Rattle.bhs_model.specs.declared.events.Event.TheVariants.{Tell, Deliver, Close}
use Rattle.bhs_model.specs.declared.marks.Mark.{Mark}
use Rattle.bhs_model.specs.declared.marks.Mark.TheVariants.{Here, Written, Changed, Gone, Noted, Bye, Over, No}
use Rattle.bhs_model.specs.declared.marks.Kept.{Kept}
use Rattle.bhs_model.specs.Worlds.{World}
use Rattle.bhs_model.specs.Runs.{Position, Before, At, Bound, After, State, initial, heard, arrives, next, reply}
use Rattle.bhs_model.specs.InOrder.{replies, replies_from}
use Rattle.bhs_model.specs.Kept.{keeps, kept, kept_from, lost_after, nobody}
use Rattle.bhs_model.specs.Marks.{events_of, read_if}
use Rattle.bhs_model.specs.Cuts.{meet, node_reached}
use Rattle.bhs_model.proofs.StepLemmas.{by_cases}
use Rattle.bhs_model.specs.Sites.{node_said, site, sites, sites_from}
use Rattle.bhs_view.specs.Twins.{hole_from, hole_accused, is_noted, first_accused_from, left_from, heads_for}
use Rattle.bhs_view.specs.Twins.{arrives_at, first_arrival, first_arrival_from}
use Rattle.bhs_view.specs.TwinWalks.{hole_by, first_hole, is_bound_for, left_at, is_arrival_by, first_arrival_at}
use Rattle.bhs_model.proofs.KeptLemmas.{first_kept}
use Rattle.bhs_view.proofs.ArrivalLemmas.{arrival_marked, no_arrival_unmarked}

-- an accusation, by its mark

hole_there : (world : World) (position : Position) (agent port : ℕ) → hole_by world (Tell agent (Accuse port))
    (Some Noted) (node_said world position (Accuse port)) ≡ hole_from world position port
hole_there world Before agent port = refl
hole_there world (At node came) agent port = refl
hole_there world (Bound node other) agent port = refl
hole_there world After agent port = refl

not_noted : (world : World) (agent port : ℕ) (log : List Kept) (mark : Option Mark) (site : Option ℕ)
    → is_noted (read_if log mark) ≡ false → hole_by world (Tell agent (Accuse port)) mark site ≡ None
not_noted world agent port log None site is = refl
not_noted world agent port log (Some (Here ports came board)) site is = refl
not_noted world agent port log (Some Written) site is = refl
not_noted world agent port log (Some (Changed board)) site is = refl
not_noted world agent port log (Some Gone) site is = refl
not_noted world agent port log (Some Noted) site is = absurd (false≢true (sym is))
not_noted world agent port log (Some Bye) site is = refl
not_noted world agent port log (Some Over) site is = refl
not_noted world agent port log (Some (No why)) site is = refl

is_marked_noted : (log : List Kept) (mark : Option Mark) → is_noted (read_if log mark) ≡ true → mark ≡ Some Noted
is_marked_noted log None is = absurd (false≢true is)
is_marked_noted log (Some (Here ports came board)) is = absurd (false≢true is)
is_marked_noted log (Some Written) is = absurd (false≢true is)
is_marked_noted log (Some (Changed board)) is = absurd (false≢true is)
is_marked_noted log (Some Gone) is = absurd (false≢true is)
is_marked_noted log (Some Noted) is = refl
is_marked_noted log (Some Bye) is = absurd (false≢true is)
is_marked_noted log (Some Over) is = absurd (false≢true is)
is_marked_noted log (Some (No why)) is = absurd (false≢true is)

accused_same : (world : World) (state : State) (lost : ℕ → Bool) (log : List Kept) (agent port : ℕ) (mark : Option Mark)
    → heard world state agent (Accuse port) ≡ true → read_if log mark ≡ reply world state (Tell agent (Accuse port)) →
    hole_by world (Tell agent (Accuse port)) mark (site world state (Tell agent (Accuse port))) ≡ hole_accused world
    state (Tell agent (Accuse port))
accused_same world state lost log agent port mark is_heard read =
    let answer = reply world state (Tell agent (Accuse port)) in
    by_cases (is_noted answer) _
    (λ noted.
    ap₂ (λ (mark : Option Mark) (site : Option ℕ). hole_by world (Tell agent (Accuse port)) mark site)
    (is_marked_noted log mark (ap is_noted read ∙ noted)) (cond-true _ _ _ is_heard)
    ∙ hole_there world (state.position agent) agent port ∙ sym (cond-true _ _ _ noted))
    (λ other. not_noted world agent port log mark _ (ap is_noted read ∙ other) ∙ sym (cond-false _ _ _ other))

hole_same : (world : World) (state : State) (lost : ℕ → Bool) (log : List Kept) (event : Event) (mark : Option Mark)
    → keeps world state lost event ≡ true → read_if log mark ≡ reply world state event →
    hole_by world event mark (site world state event) ≡ hole_accused world state event
hole_same world state lost log (Tell agent (Accuse port)) mark is_kept read =
    accused_same world state lost log agent port mark is_kept read
hole_same world state lost log (Tell agent Enter) mark is_kept read = refl
hole_same world state lost log (Tell agent Look) mark is_kept read = refl
hole_same world state lost log (Tell agent (Write expect put)) mark is_kept read = refl
hole_same world state lost log (Tell agent (Depart other)) mark is_kept read = refl
hole_same world state lost log (Tell agent Leave) mark is_kept read = refl
hole_same world state lost log (Tell agent Bad) mark is_kept read = refl
hole_same world state lost log (Deliver agent) mark is_kept read = refl
hole_same world state lost log Close mark is_kept read = refl

first_hole_from : (world : World) (state : State) (lost : ℕ → Bool) (whole log : List Kept)
    → kept_from world state lost (events_of log) ≡ events_of log →
    map (λ (one : Kept). read_if whole one.mark) log ≡ replies_from world state (events_of log)
    → first_hole world log (sites_from world state (events_of log)) ≡ first_accused_from world state (events_of log)
first_hole_from world state lost whole [] all read = refl
first_hole_from world state lost whole (one ∷ log) all read =
    let kept = first_kept world state lost one.event (events_of log) all in
    let first : read_if whole one.mark ≡ reply world state one.event = cc in
    let later : map (λ (one : Kept). read_if whole one.mark) log ≡ replies_from world (next world state one.event)
    (events_of log) = cc in
    ap₂ option_or (hole_same world state lost whole one.event one.mark kept.first first)
    (first_hole_from world (next world state one.event) (lost_after world state lost one.event) whole log
    kept.others later)

pub first_hole_same : (world : World) (log : List Kept) → kept world (events_of log) ≡ events_of log
    → map (λ (one : Kept). read_if log one.mark) log ≡ replies world (events_of log) →
    first_hole world log (sites world (events_of log)) ≡ first_accused_from world initial (events_of log)
first_hole_same world log all read = first_hole_from world initial nobody log log all read

-- the places that are left

bound_same : (world : World) (state : State) (old : Option ℕ) (event : Event)
    → is_bound_for event (site world state event) old ≡ heads_for world old state event
bound_same world state old (Tell agent command) = refl
bound_same world state old (Deliver agent) = refl
bound_same world state old Close = refl

pub left_same_from : (world : World) (state : State) (old : Option ℕ) (log : List Kept)
    → left_at old log (sites_from world state (events_of log)) ≡ left_from world old state (events_of log)
left_same_from world state old [] = refl
left_same_from world state old (one ∷ log) =
    ap₂ (λ (b : Bool) (others : List Bool). not b ∷ others) (bound_same world state old one.event)
    (left_same_from world (next world state one.event) old log)

-- the first arrival

arrival_same : (world : World) (state : State) (log : List Kept) (node : ℕ) (event : Event) (mark : Option Mark)
    → read_if log mark ≡ reply world state event →
    is_arrival_by event mark (site world state event) node ≡ arrives_at world node state event
arrival_same world state log node (Tell agent command) mark read = refl
arrival_same world state log node (Deliver agent) mark read =
    by_cases (arrives world state agent) _
    (λ arrival.
    let one = arrival_marked world state log agent mark arrival read in
    ap (λ (mark : Option Mark). is_arrival_by (Deliver agent) mark (node_reached world (state.position agent)) node)
    one.1
    ∙ ap (λ (b : Bool). b && meet (Some node) (node_reached world (state.position agent))) (sym arrival))
    (λ stays.
    ap (λ (mark : Option Mark). is_arrival_by (Deliver agent) mark (node_reached world (state.position agent)) node)
    (no_arrival_unmarked world state log agent mark stays read)
    ∙ ap (λ (b : Bool). b && meet (Some node) (node_reached world (state.position agent))) (sym stays))
arrival_same world state log node Close mark read = refl

first_arrival_same_from : (world : World) (state : State) (whole log : List Kept) (node place : ℕ)
    → map (λ (one : Kept). read_if whole one.mark) log ≡ replies_from world state (events_of log) →
    first_arrival_at node place log (sites_from world state (events_of log)) ≡ first_arrival_from world node state
    place (events_of log)
first_arrival_same_from world state whole [] node place read = refl
first_arrival_same_from world state whole (one ∷ log) node place read =
    let first : read_if whole one.mark ≡ reply world state one.event = cc in
    let later : map (λ (one : Kept). read_if whole one.mark) log ≡ replies_from world (next world state one.event)
    (events_of log) = cc in
    ap₂ (λ (b : Bool) (rest : Option ℕ). if b then Some place else rest)
    (arrival_same world state whole node one.event one.mark first)
    (first_arrival_same_from world (next world state one.event) whole log node (suc place) later)

pub first_arrival_same : (world : World) (log : List Kept) (node : ℕ) → map (λ (one : Kept). read_if log one.mark)
    log ≡ replies world (events_of log) →
    first_arrival_at node 0 log (sites world (events_of log)) ≡ first_arrival world node (events_of log)
first_arrival_same world log node read = first_arrival_same_from world initial log log node 0 read
