-- The text in a reply is the text that the agent faces before its command.
use Rattle.std.proofs.Common.{arith, ◌≡◌, ℕ, Bool, true, Option, Some, None, List, length, refl, sym, ap, ◌∙◌, subst}
use Rattle.std.proofs.Common.{nat_lt}
use Rattle.std.proofs.Common.{if◌then◌else◌}
use Rattle.std.proofs.lemmas.Bool.{cond_both}
use Rattle.std.specs.Prelude.{bytes_eq, nat_le}
use Rattle.bhs_model.specs.declared.commands.Command.{Command}
use Rattle.bhs_model.specs.declared.commands.Command.TheVariants.{Write, Depart, Accuse}
use Rattle.bhs_model.specs.declared.marks.Mark.{Mark}
use Rattle.bhs_model.specs.declared.marks.Mark.TheVariants as marks
use Rattle.bhs_model.specs.declared.marks.Kept.{Kept}
use Rattle.bhs_model.specs.declared.replies.Reply.{Reply}
use Rattle.bhs_model.specs.declared.replies.Reply.TheVariants.{Here, Written, Changed, Gone, Noted, Over, No}
use Rattle.bhs_model.specs.declared.replies.Why.TheVariants.{Agent, Long, Port}
use Rattle.bhs_model.specs.declared.events.Event.TheVariants.{Tell}
use Rattle.bhs_model.specs.Views.{View, Told, Standing, standing, used, ports as ports_of}
use Rattle.bhs_model.specs.Replying.{text, accepts, hears, answer, rep, refusal}
use Rattle.bhs_model.specs.Worlds.{World}
use Rattle.bhs_model.specs.Runs.{Position, At, State, glance, heard, next, reply, reply_in_play}
use Rattle.bhs_model.specs.Runs.{reply_to_command}
use Rattle.bhs_model.specs.Marks.{events_of, read}
use Rattle.bhs_model.specs.Standings.{standing_at}
use Rattle.bhs_model.proofs.LegalLemmas.{AllLegal, all_run}
use Rattle.bhs_world.proofs.ListLemmas.{changed_same}
use Rattle.bhs_match.specs.Matches.{Play, world_in, state_of, shown_at}
use Rattle.bhs_shared_match.specs.LockedMatches.{spoken}

-- The reply's text, where present, equals this text.
abbrev pub Shows : (shown : List ℕ) → Reply → Type 0
Shows shown (Here ports came board) = board ≡ shown
Shows shown (Changed board) = board ≡ shown
Shows shown reply = Unit {0}

abbrev pub ShowsIf : (shown : List ℕ) → Option Reply → Type 0
ShowsIf shown (Some reply) = Shows shown reply
ShowsIf shown None = ⊥

-- the answer to a command that may be said shows the text that is seen from the position
answer_shows : (world : World) (state : State) (position : Position) (room : Bool) (ports : ℕ) (command : Command)
    → accepts (standing_at position) room command ≡ true →
    Shows (shown_at world state position) (answer world.board (standing_at position) ports command
    (glance world state position command))
answer_shows world state (At node came) room ports (Write expect put) free =
    let shown : List ℕ = text world.board (state.last_write node) in
    cond_both (nat_le (length put) world.board) (if bytes_eq shown expect then Written else Changed shown)
    (No Long) (Shows shown)
    (λ fits. cond_both (bytes_eq shown expect) Written (Changed shown) (Shows shown) (λ e. tt) (λ e. refl))
    (λ long. tt)
answer_shows world state (At node came) room ports (Depart port) free =
    cond_both (nat_lt port ports) Gone (No Port) (Shows (shown_at world state (At node came))) (λ e. tt) (λ e. tt)
answer_shows world state (At node came) room ports (Accuse port) free =
    cond_both (nat_lt port ports) Noted (No Port) (Shows (shown_at world state (At node came))) (λ e. tt) (λ e. tt)
answer_shows world state position room ports command free = grind arith

-- The same holds for the reply to a command that is heard or refused.
reply_shows : (world : World) (state : State) (agent : ℕ) (command : Command) → AllLegal world state
    → ShowsIf (shown_at world state (state.position agent)) (reply_to_command world state agent command)
reply_shows world state agent command legal =
    let P : Option Reply → Type 0 = ShowsIf (shown_at world state (state.position agent)) in
    let view : View = state.past agent in
    cond_both (nat_lt agent world.agents) (if state.closed then Some Over else reply_in_play world state agent command)
    (Some (No Agent)) P
    (λ known. cond_both state.closed (Some Over) (reply_in_play world state agent command) P (λ closed. tt)
    (λ going. cond_both (hears world.quota view command)
    (rep world.board ((next world state (Tell agent command)).past agent))
    (Some (No (refusal (standing view) command))) P
    (λ free.
    let same : standing view ≡ standing_at (state.position agent) = (legal agent).standing in
    let is_heard : heard world state agent command ≡ true = rw (known, going, free) refl in
    let later : (next world state (Tell agent command)).past agent ≡ Told view command
    (glance world state (state.position agent) command) =
    rw is_heard (changed_same state.past agent
    (Told view command (glance world state (state.position agent) command))) in
    rw later (rw same (answer_shows world state (state.position agent) (nat_lt (used view) world.quota) (ports_of view)
    command (ap (λ (standing : Standing). accepts standing (nat_lt (used view) world.quota) command)
    (sym same) ∙ free))))
    (λ refused. tt)))
    (λ strange. tt)

spoken_read : (log : List Kept) (mark : Mark) (shown : List ℕ) → Shows shown (read log mark)
    → spoken mark shown ≡ read log mark
spoken_read log (marks.Here ports came board) shown is = ap (Here ports came) (sym is)
spoken_read log marks.Written shown is = refl
spoken_read log (marks.Changed board) shown is = ap Changed (sym is)
spoken_read log marks.Gone shown is = refl
spoken_read log marks.Noted shown is = refl
spoken_read log marks.Bye shown is = refl
spoken_read log marks.Over shown is = refl
spoken_read log (marks.No why) shown is = refl

-- the mark of a command's reply, with the text that was seen before the command, is read as this reply
pub spoken_told : (play : Play) (log : List Kept) (agent : ℕ) (command : Command) (mark : Mark)
    → Some (read log mark) ≡ reply (world_in play) (state_of play) (Tell agent command) →
    spoken mark (shown_at (world_in play) (state_of play) ((state_of play).position agent)) ≡ read log mark
spoken_told play log agent command mark is =
    let shown : List ℕ = shown_at (world_in play) (state_of play) ((state_of play).position agent) in
    spoken_read log mark shown (subst (ShowsIf shown) (sym is)
    (reply_shows (world_in play) (state_of play) agent command (all_run (world_in play) (events_of play.log))))
