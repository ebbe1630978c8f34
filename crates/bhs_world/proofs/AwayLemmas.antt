-- Agents that are on links are answered alike.
use Rattle.std.proofs.Common.{◌≡◌, ℕ, ◌<◌, Bool, true, not, ◌&&◌, Option, Some, refl, sym, ap, ◌∙◌, nat_lt}
use Rattle.std.proofs.Common.{if◌then◌else◌}
use Rattle.std.proofs.lemmas.Bool.{lt-ltb}
use Rattle.bhs_model.specs.declared.commands.Command.{Command}
use Rattle.bhs_model.specs.declared.commands.Command.TheVariants.{Enter, Look, Write, Depart, Accuse, Leave, Bad}
use Rattle.bhs_model.specs.declared.events.Event.TheVariants.{Tell}
use Rattle.bhs_model.specs.declared.replies.Reply.{Reply}
use Rattle.bhs_model.specs.declared.replies.Reply.TheVariants as replies
use Rattle.bhs_model.specs.Views.{View, Told, Glance, Nothing, Standing, Away, standing, ports, used}
use Rattle.bhs_model.specs.Replying.{rep, answer, accepts, hears, refusal}
use Rattle.bhs_model.specs.Worlds.{World}
use Rattle.bhs_model.specs.Runs.{Position, Before, At, Bound, After, State, is_bound, glance, told, heard, next, run}
use Rattle.bhs_model.specs.Runs.{reply}
use Rattle.bhs_model.specs.Standings.{standing_at}
use Rattle.bhs_world.specs.Laws.{AwayAlike}
use Rattle.bhs_world.proofs.ListLemmas.{changed_same}
use Rattle.bhs_model.proofs.LegalLemmas.{IsLegal, all_run}
use Rattle.bhs_model.proofs.StepLemmas.{by_cases}
use Rattle.bhs_world.proofs.PlayedLemmas.{chosen_true, chosen_false}

standing_bound : (position : Position) → is_bound position ≡ true → standing_at position ≡ Away
standing_bound Before h = cc
standing_bound (At node came) h = cc
standing_bound (Bound node port) h = refl
standing_bound After h = cc

-- neither what is seen nor the ports count
same_answer : (limit seen : ℕ) (command : Command) (sight : Glance) → answer limit Away seen command sight ≡ answer
    limit Away 0 command Nothing
same_answer limit seen Enter sight = refl
same_answer limit seen Look sight = refl
same_answer limit seen (Write expect put) sight = refl
same_answer limit seen (Depart port) sight = refl
same_answer limit seen (Accuse port) sight = refl
same_answer limit seen Leave sight = refl
same_answer limit seen Bad sight = refl

-- the reply to a command of an agent on a link
abbrev away_answer : (limit : ℕ) → (closed room : Bool) → Command → Option Reply
away_answer limit closed room command =
    if closed then Some replies.Over else (if accepts Away room command then Some
    (answer limit Away 0 command Nothing) else Some (replies.No (refusal Away command)))

away_reply : (world : World) (state : State) (agent : ℕ) (command : Command) → agent < world.agents
    → is_bound (state.position agent) ≡ true → IsLegal world (state.past agent) (state.position agent) →
    reply world state (Tell agent command) ≡ away_answer world.board state.closed
    (nat_lt (used (state.past agent)) world.quota) command
away_reply world state agent command within bound legal =
    let view : View = state.past agent in
    let room : Bool = nat_lt (used view) world.quota in
    let is_away : standing view ≡ Away = legal.standing ∙ standing_bound (state.position agent) bound in
    let same_hears : hears world.quota view command ≡ accepts Away room command =
    ap (λ (standing : Standing). accepts standing room command) is_away in
    let sight : Glance = glance world state (state.position agent) command in
    let heard_by : heard world state agent command ≡ (not state.closed && hears world.quota view command) =
    ap (λ (is_agent : Bool). is_agent && (not state.closed && hears world.quota view command))
    (lt-ltb agent world.agents within) in
    chosen_true (nat_lt agent world.agents) _ _ (lt-ltb agent world.agents within)
    ∙ by_cases state.closed _
    (λ is_closed. chosen_true state.closed _ _ is_closed ∙ sym (chosen_true state.closed _ _ is_closed))
    (λ is_open. chosen_false state.closed _ _ is_open
    ∙ by_cases (hears world.quota view command) _
    (λ heard_it.
    let is_heard : heard world state agent command ≡ true =
    heard_by ∙ ap (λ (closed : Bool). not closed && hears world.quota view command) is_open ∙ heard_it in
    let past : (next world state (Tell agent command)).past agent ≡ Told view command sight =
    ap (λ (state : State). state.past agent) (chosen_true (heard world state agent command)
    (told world state agent command) state is_heard) ∙ changed_same state.past agent (Told view command sight) in
    let answered : rep world.board ((next world state (Tell agent command)).past agent) ≡ Some
    (answer world.board Away 0 command Nothing) =
    ap (rep world.board) past
    ∙ ap (λ (standing : Standing). Some (answer world.board standing (ports view) command sight)) is_away
    ∙ ap Some (same_answer world.board (ports view) command sight) in
    chosen_true (hears world.quota view command) _ _ heard_it ∙ answered
    ∙ sym (chosen_false state.closed _ _ is_open ∙ chosen_true (accepts Away room command) _ _
    (sym same_hears ∙ heard_it)))
    (λ unheard.
    chosen_false (hears world.quota view command) _ _ unheard
    ∙ ap (λ (standing : Standing). Some (replies.No (refusal standing command))) is_away
    ∙ sym (chosen_false state.closed _ _ is_open ∙ chosen_false (accepts Away room command) _ _
    (sym same_hears ∙ unheard))))

pub away_alike : AwayAlike
away_alike world events agent other command is_away is_other same_room =
    let state : State = run world events in
    away_reply world state agent command is_away.of_match is_away.bound (all_run world events agent)
    ∙ ap (λ (room : Bool). away_answer world.board state.closed room command) same_room
    ∙ sym (away_reply world state other command is_other.of_match is_other.bound (all_run world events other))
