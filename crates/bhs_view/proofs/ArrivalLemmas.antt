-- What the mark beside a Deliver says.
use Rattle.std.proofs.Common.{ℕ, ◌≡◌, true, false, Option, Some, None, List}
use Rattle.std.proofs.Common.{refl, ap, ◌∙◌}
use Rattle.std.specs.Prelude.{is_some}
use Rattle.bhs_model.specs.declared.events.Event.TheVariants.{Deliver}
use Rattle.bhs_model.specs.declared.marks.Mark.{Mark}
use Rattle.bhs_model.specs.declared.marks.Kept.{Kept}
use Rattle.bhs_model.specs.declared.replies.Reply.{Reply}
use Rattle.bhs_model.specs.Marks.{read_if}
use Rattle.bhs_model.specs.Replying.{rep}
use Rattle.bhs_model.specs.Views.{View, Arrived}
use Rattle.bhs_model.specs.Worlds.{World, doomed}
use Rattle.bhs_model.specs.Runs.{Position, Before, At, Bound, After, State, arrives}
use Rattle.bhs_model.specs.Runs.{reply, is_doomed, sight_at}
use Rattle.bhs_model.proofs.StepLemmas.{changed_same}
use Rattle.bhs_model.proofs.StepLemmas.{arrival_by_past, no_arrival_no_reply}
use Rattle.bhs_match.proofs.FairLemmas.{arrival_means}

no_mark : (log : List Kept) (mark : Option Mark) → read_if log mark ≡ None → mark ≡ None
no_mark log None read = refl
no_mark log (Some mark) read = cc

some_mark : (log : List Kept) (mark : Option Mark) → is_some (read_if log mark) ≡ true → (one : Mark)
    × (mark ≡ Some one)
some_mark log None read = cc
some_mark log (Some mark) read = (mark, refl)

pub arrival_replied : (world : World) (state : State) (agent : ℕ) → arrives world state agent ≡ true
    → is_some (reply world state (Deliver agent)) ≡ true
arrival_replied world state agent arrival =
    let means = arrival_means world state agent arrival in
    let there = world.net.far means.node means.port in
    ap (λ (r : Option Reply). is_some r) (arrival_by_past world state agent arrival)
    ∙ rw means.on (ap (λ (view : View). is_some (rep world.board view))
    (changed_same state.past agent (Arrived (state.past agent) (sight_at world state there.0 (Some there.1)))))

pub arrival_marked : (world : World) (state : State) (log : List Kept) (agent : ℕ) (mark : Option Mark)
    → arrives world state agent ≡ true → read_if log mark ≡ reply world state (Deliver agent) →
    (one : Mark) × (mark ≡ Some one)
arrival_marked world state log agent mark arrival read =
    some_mark log mark (ap (λ (r : Option Reply). is_some r) read ∙ arrival_replied world state agent arrival)

pub no_arrival_unmarked : (world : World) (state : State) (log : List Kept) (agent : ℕ) (mark : Option Mark)
    → arrives world state agent ≡ false → read_if log mark ≡ reply world state (Deliver agent) → mark ≡ None
no_arrival_unmarked world state log agent mark stays read =
    no_mark log mark (read ∙ no_arrival_no_reply world state agent stays)

pub doomed_where : (world : World) (position : Position) → is_doomed world position ≡ true → (node : ℕ) × (port : ℕ)
    × (position ≡ Bound node port) × (doomed world node port ≡ true)
doomed_where world (Bound node port) doom = (node, port, refl, doom)
doomed_where world Before doom = cc
doomed_where world (At node came) doom = cc
doomed_where world After doom = cc
