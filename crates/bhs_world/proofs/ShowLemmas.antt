-- Which answers speak of a whiteboard.
use Rattle.std.proofs.Common.{arith, ◌≡◌, ℕ, ◌<◌, Bool, true, false, not, ◌&&◌, Option, List, length, refl, sym, ap}
use Rattle.std.proofs.Common.{◌∙◌}
use Rattle.std.proofs.Common.{nat_lt, if◌then◌else◌}
use Rattle.std.specs.Prelude.{nat_le, bytes_eq}
use Rattle.bhs_model.specs.declared.commands.Command.{Command}
use Rattle.bhs_model.specs.declared.commands.Command.TheVariants.{Write, Depart, Accuse}
use Rattle.bhs_model.specs.declared.events.Event.TheVariants.{Tell}
use Rattle.bhs_model.specs.declared.marks.Mark.{Mark}
use Rattle.bhs_model.specs.declared.marks.Mark.TheVariants as marks
use Rattle.bhs_model.specs.declared.marks.Kept.{Kept}
use Rattle.bhs_model.specs.declared.replies.Why.{Why}
use Rattle.bhs_model.specs.declared.replies.Why.TheVariants.{Agent, Port}
use Rattle.bhs_model.specs.Marks.{events_of, read}
use Rattle.bhs_model.specs.Replying.{refusal}
use Rattle.bhs_model.specs.Worlds.{World}
use Rattle.bhs_model.specs.Runs.{Position, Before, At, Bound, After, run, reply}
use Rattle.bhs_state.specs.declared.swaps.Swap.TheVariants.{Long, Differs, Took}
use Rattle.bhs_state.specs.Boards.{Whiteboard}
use Rattle.bhs_model.specs.Marks.{text_at}
use Rattle.bhs_world.specs.Tables as tables
use Rattle.bhs_world.specs.Tables.{Table, agent_at, board_at, world_in, StandsFor}
use Rattle.bhs_model.specs.Standings.{standing_at}
use Rattle.bhs_world.specs.Steps.{IsSound, IsPlaced, hears_in, mark_heard, mark_told, mark_of_command, mark_of_swap}
use Rattle.bhs_world.specs.Steps.{mark_after, table_after, swap_at, is_of_board, shows_from, shows_in}
use Rattle.bhs_world.proofs.AgreeLemmas.{step_played}

by_swap : (fits same : Bool) (last : Option ℕ)
    → is_of_board (mark_of_swap (if fits then (if same then Took else Differs) else Long) last) ≡ fits
by_swap true true last = refl
by_swap true false last = refl
by_swap false same last = refl

by_port : (b : Bool) (mark : Mark) → is_of_board mark ≡ false → is_of_board (if b then mark else marks.No Port) ≡ false
by_port true mark is = is
by_port false mark is = refl

write_shows : (log : List Kept) (board : Whiteboard) (expect put : List ℕ) (limit : ℕ) → board.limit ≡ limit
    → is_of_board (mark_of_swap (swap_at log board expect put) board.last) ≡ nat_le (length put) limit
write_shows log board expect put limit is =
    by_swap (nat_le (length put) board.limit) (bytes_eq (text_at log board.last) expect) board.last
    ∙ ap (nat_le (length put)) is

-- a node's whiteboard has the limit of the match
abbrev HasLimit : List Whiteboard → (limit : ℕ) → Position → Type 0
HasLimit boards limit (At node came) = (board_at boards node).limit ≡ limit
HasLimit boards limit position = Unit {0}

told_shows_board : (world : World) (log : List Kept) (boards : List Whiteboard) (limit : ℕ) (position : Position)
    (command : Command) → HasLimit boards limit position →
    is_of_board (mark_told world log boards position command) ≡ shows_from limit position command
told_shows_board world log boards limit (At node came) (Write expect put) has =
    write_shows log (board_at boards node) expect put limit has
told_shows_board world log boards limit (At node came) (Depart port) has =
    by_port (nat_lt port (world.net.degree node)) marks.Gone refl
told_shows_board world log boards limit (At node came) (Accuse port) has =
    by_port (nat_lt port (world.net.degree node)) marks.Noted refl
told_shows_board world log boards limit position command has = grind arith

by_hearing : (known closed hears : Bool) (mark : Mark) (why : Why) (shows : Bool) → is_of_board mark ≡ shows →
    is_of_board (if known then (if closed then marks.Over else (if hears then mark else marks.No why)) else marks.No
    Agent) ≡ ((known && (not closed && hears)) && shows)
by_hearing false closed hears mark why shows is = refl
by_hearing true true hears mark why shows is = refl
by_hearing true false true mark why shows is = is
by_hearing true false false mark why shows is = refl

has_limit : (table : Table) (position : Position) → IsSound table → IsPlaced table.net position
    → HasLimit table.boards table.setup.board position
has_limit table (At node came) sound placed = let inside : node < length table.boards = rw sound.boards placed in
    sound.limits node inside
has_limit table Before sound placed = tt
has_limit table (Bound node port) sound placed = tt
has_limit table After sound placed = tt

mark_shows : (table : Table) (log : List Kept) (agent : ℕ) (command : Command) → IsSound table
    → is_of_board (mark_of_command table log agent command) ≡ shows_in table agent command
mark_shows table log agent command sound =
    let position : Position = (agent_at table.agents agent).position in
    by_hearing (nat_lt agent table.setup.agents) table.closed (hears_in table agent command)
    (mark_heard table log agent command) (refusal (standing_at position) command) _
    (told_shows_board (world_in table) log table.boards table.setup.board position command
    (has_limit table position sound (sound.places agent)))

read_shows : (log : List Kept) (mark : Mark) → tables.is_of_board (read log mark) ≡ is_of_board mark
read_shows log (marks.Here ports came board) = refl
read_shows log marks.Written = refl
read_shows log (marks.Changed board) = refl
read_shows log marks.Gone = refl
read_shows log marks.Noted = refl
read_shows log marks.Bye = refl
read_shows log marks.Over = refl
read_shows log (marks.No why) = refl

-- what the table says of the answer is so of the definitions' reply
pub shows_same : (table : Table) (log : List Kept) (agent : ℕ) (command : Command) → IsSound table
    → StandsFor table log →
    shows_in table agent command ≡ tables.is_of_board_if
    (reply (world_in table) (run (world_in table) (events_of log)) (Tell agent command))
shows_same table log agent command sound stood =
    let played = step_played table (table_after table log (Tell agent command)) log (Tell agent command)
    (mark_after table log (Tell agent command)) refl refl sound stood in
    sym (mark_shows table log agent command sound) ∙ sym (read_shows _ (mark_of_command table log agent command))
    ∙ ap tables.is_of_board_if played.reply
