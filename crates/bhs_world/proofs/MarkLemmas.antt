-- The marks that a step answers are read as the replies of the definitions.
use Rattle.std.proofs.Common.{◌≡◌, ℕ, ◌<◌, Bool, true, false, Option, Some, None, List, [], ◌∷◌, ◌++◌, length, refl}
use Rattle.std.proofs.Common.{sym, ap, ◌∙◌, subst, arith, nat_lt, if◌then◌else◌}
use Rattle.std.specs.Prelude.{nat_le, bytes_eq}
use Rattle.bhs_net.specs.Network.{Network, nodes_of, degree_of}
use Rattle.bhs_model.specs.declared.setups.Setup.{Setup}
use Rattle.bhs_model.specs.declared.commands.Command.{Command}
use Rattle.bhs_model.specs.declared.commands.Command.TheVariants.{Enter, Look, Write, Depart, Accuse, Leave, Bad}
use Rattle.bhs_model.specs.declared.events.Event.TheVariants.{Tell}
use Rattle.bhs_model.specs.declared.marks.Mark.{Mark}
use Rattle.bhs_model.specs.declared.marks.Mark.TheVariants as marks
use Rattle.bhs_model.specs.declared.marks.Kept.{Kept}
use Rattle.bhs_model.specs.declared.replies.Reply.TheVariants as replies
use Rattle.bhs_model.specs.declared.replies.Why.TheVariants as whys
use Rattle.bhs_model.specs.Views.{View, Told, LastWrite, WrittenBy, Saw}
use Rattle.bhs_model.specs.Replying.{swapped, text, write_answer, here, answer, accepts}
use Rattle.bhs_model.specs.Worlds.{World}
use Rattle.bhs_model.specs.Setups.{world_of}
use Rattle.bhs_model.specs.Runs.{Position, Before, At, Bound, After, State, changed, sight_at, glance}
use Rattle.bhs_model.specs.Runs.{last_writes_after}
use Rattle.bhs_model.specs.Marks.{put_of, text_at, read}
use Rattle.bhs_state.specs.declared.swaps.Swap.{Swap}
use Rattle.bhs_state.specs.declared.swaps.Swap.TheVariants.{Long, Differs, Took}
use Rattle.bhs_state.specs.Boards.{Whiteboard, last_after}
use Rattle.bhs_world.specs.Tables.{board_at, untouched, Shows, IsNamed}
use Rattle.bhs_model.specs.Standings.{standing_at}
use Rattle.bhs_world.specs.Steps.{IsPlaced, swap_at, board_written, boards_told, mark_here, mark_of_swap, mark_told}
use Rattle.bhs_world.proofs.ListLemmas.{each_set, changed_same}
use Rattle.bhs_model.proofs.LegalLemmas.{either}
use Rattle.bhs_world.proofs.GrowthLemmas.{put_at_end, shows_more, text_shown, shows_named, NamesWrite}

-- each whiteboard shows what its last write says
abbrev pub AllShow : ℕ → List Kept → List Whiteboard → (ℕ → LastWrite) → Type 0
AllShow limit log boards last_write = (node : ℕ) → Shows log (board_at boards node).last (text limit (last_write node))

abbrev pub HasLimit : ℕ → Network → List Whiteboard → Type 0
HasLimit limit net boards = (node : ℕ) → node < nodes_of net → (board_at boards node).limit ≡ limit

pub here_reads : (world : World) (state : State) (log : List Kept) (boards : List Whiteboard) (node : ℕ)
    (came : Option ℕ) → AllShow world.board log boards state.last_write →
    read log (mark_here world boards node came) ≡ here world.board (sight_at world state node came)
here_reads world state log boards node came shows =
    ap (λ (shown : List ℕ). replies.Here (world.net.degree node) came shown) (text_shown log _ _ (shows node))

-- by the two tests of a write
pub swap_reads : (log : List Kept) (last : Option ℕ) (fits same : Bool) →
    read log (mark_of_swap (if fits then (if same then Took else Differs) else Long) last) ≡ (if
    fits then (if same then replies.Written else replies.Changed (text_at log last)) else replies.No whys.Long)
swap_reads log last true true = refl
swap_reads log last true false = refl
swap_reads log last false same = refl

write_reads : (limit : ℕ) (shown : List ℕ) (log : List Kept) (board : Whiteboard) (expect put : List ℕ)
    → board.limit ≡ limit → Shows log board.last shown →
    read log (mark_of_swap (swap_at log board expect put) board.last) ≡ write_answer limit shown expect put
write_reads limit shown log board expect put limited shows =
    swap_reads log board.last (nat_le (length put) board.limit) (bytes_eq (text_at log board.last) expect)
    ∙ ap (λ (limit : ℕ). write_answer limit (text_at log board.last) expect put) limited
    ∙ ap (λ (shown : List ℕ). write_answer limit shown expect put) (text_shown log board.last shown shows)

pub port_reads : (log : List Kept) (below : Bool) (mark : Mark)
    → read log (if below then mark else marks.No whys.Port) ≡ (if below then read log mark else replies.No whys.Port)
port_reads log true mark = refl
port_reads log false mark = refl

-- at a node this many ports are known
abbrev pub KnownPorts : Network → (seen : ℕ) → Position → Type 0
KnownPorts net seen (At node came) = seen ≡ degree_of net node
KnownPorts net seen position = Unit {0}

-- what a heard command is answered is read as the answer of the definitions
pub told_reads : (net : Network) (setup : Setup) (state : State) (log : List Kept) (boards : List Whiteboard)
    (room : Bool) (seen : ℕ) (position : Position) (command : Command) →
    AllShow setup.board log boards state.last_write → HasLimit setup.board net boards → IsPlaced net position →
    accepts (standing_at position) room command ≡ true → KnownPorts net seen position →
    read log (mark_told (world_of net setup) log boards position command) ≡ answer setup.board (standing_at position)
    seen command (glance (world_of net setup) state position command)
told_reads net setup state log boards room seen Before Enter shows limited placed heard known =
    here_reads (world_of net setup) state log boards setup.home None shows
told_reads net setup state log boards room seen (At node came) Look shows limited placed heard known =
    here_reads (world_of net setup) state log boards node came shows
told_reads net setup state log boards room seen (At node came) (Write expect put) shows limited placed heard known =
    write_reads setup.board _ log (board_at boards node) expect put (limited node placed) (shows node)
told_reads net setup state log boards room seen (At node came) (Depart port) shows limited placed heard known =
    port_reads log (nat_lt port (degree_of net node)) marks.Gone
    ∙ ap (λ (ports : ℕ). if nat_lt port ports then replies.Gone else replies.No whys.Port) (sym known)
told_reads net setup state log boards room seen (At node came) (Accuse port) shows limited placed heard known =
    port_reads log (nat_lt port (degree_of net node)) marks.Noted
    ∙ ap (λ (ports : ℕ). if nat_lt port ports then replies.Noted else replies.No whys.Port) (sym known)
told_reads net setup state log boards room seen position command shows limited placed heard known = grind arith

-- where a mark names a place, a Write stands there

swap_named : (log : List Kept) (swap : Swap) (last : Option ℕ) → NamesWrite log last
    → IsNamed log (Some (mark_of_swap swap last))
swap_named log Long last named = tt
swap_named log Differs last named = named
swap_named log Took last named = tt

pub here_named : (limit : ℕ) (world : World) (last_write : ℕ → LastWrite) (log : List Kept) (boards : List Whiteboard)
    (node : ℕ) (came : Option ℕ) → AllShow limit log boards last_write
    → IsNamed log (Some (mark_here world boards node came))
here_named limit world last_write log boards node came shows = shows_named log _ _ (shows node)

pub told_named : (limit : ℕ) (world : World) (last_write : ℕ → LastWrite) (log : List Kept) (boards : List Whiteboard)
    (position : Position) (command : Command) → AllShow limit log boards last_write
    → IsNamed log (Some (mark_told world log boards position command))
told_named limit world last_write log boards Before Enter shows =
    here_named limit world last_write log boards world.home None shows
told_named limit world last_write log boards (At node came) Enter shows =
    here_named limit world last_write log boards world.home None shows
told_named limit world last_write log boards (Bound node p) Enter shows =
    here_named limit world last_write log boards world.home None shows
told_named limit world last_write log boards After Enter shows =
    here_named limit world last_write log boards world.home None shows
told_named limit world last_write log boards (At node came) Look shows =
    here_named limit world last_write log boards node came shows
told_named limit world last_write log boards (At node came) (Write expect put) shows =
    swap_named log (swap_at log (board_at boards node) expect put) _ (shows_named log _ _ (shows node))
told_named limit world last_write log boards (At node came) (Depart port) shows =
    either (λ mark. IsNamed log (Some mark)) (nat_lt port (world.net.degree node)) _ _ tt tt
told_named limit world last_write log boards (At node came) (Accuse port) shows =
    either (λ mark. IsNamed log (Some mark)) (nat_lt port (world.net.degree node)) _ _ tt tt
told_named limit world last_write log boards position command shows = grind arith

-- what the whiteboards show after a command that is heard

-- by the two tests of a write
swap_shows : (log : List Kept) (kept : Kept) (last : Option ℕ) (shown put : List ℕ) (fits same : Bool)
    → put_of kept.event ≡ Some put → Shows log last shown →
    Shows (log ++ kept ∷ []) (last_after (if fits then (if same then Took else Differs) else Long) last (length log))
    (if fits then (if same then put else shown) else shown)
swap_shows log kept last shown put true true puts shows = put_at_end log kept ∙ puts
swap_shows log kept last shown put true false puts shows = shows_more log kept last shown shows
swap_shows log kept last shown put false same puts shows = shows_more log kept last shown shows

written_shows : (limit : ℕ) (log : List Kept) (kept : Kept) (board : Whiteboard) (shown expect put : List ℕ)
    → put_of kept.event ≡ Some put → board.limit ≡ limit → Shows log board.last shown →
    Shows (log ++ kept ∷ []) (board_written log board expect put).last (swapped limit shown expect put)
written_shows limit log kept board shown expect put puts limited shows =
    subst (λ (limit : ℕ). Shows (log ++ kept ∷ []) (board_written log board expect put).last
    (swapped limit shown expect put)) limited
    (subst (λ (found : List ℕ). Shows (log ++ kept ∷ [])
    (last_after (if nat_le (length put) board.limit then (if bytes_eq found expect then Took else Differs)
    else Long) board.last (length log)) (swapped board.limit shown expect put))
    (sym (text_shown log board.last shown shows))
    (swap_shows log kept board.last shown put (nat_le (length put) board.limit) (bytes_eq shown expect) puts shows))

pub told_shows : (net : Network) (setup : Setup) (state : State) (log : List Kept) (kept : Kept) (agent : ℕ)
    (boards : List Whiteboard) (view : View) (position : Position) (command : Command) →
    kept.event ≡ Tell agent command → length boards ≡ nodes_of net → AllShow setup.board log boards state.last_write
    → HasLimit setup.board net boards → IsPlaced net position →
    AllShow setup.board (log ++ kept ∷ []) (boards_told log boards position command)
    (last_writes_after state.last_write position command
    (Told view command (glance (world_of net setup) state position command)))
told_shows net setup state log kept agent boards view (At node came) (Write expect put) is counted shows
    limited placed =
    let within : node < length boards = omega arith in
    let past : View = Told view (Write expect put) (Saw (sight_at (world_of net setup) state node came)) in
    each_set (λ k board. Shows (log ++ kept ∷ []) board.last
    (text setup.board (changed state.last_write node (WrittenBy past) k))) boards node
    (board_written log (board_at boards node) expect put) untouched within
    (rw (changed_same state.last_write node (WrittenBy past))
    (written_shows setup.board log kept (board_at boards node) (text setup.board (state.last_write node)) expect put
    (ap put_of is) (limited node placed) (shows node)))
    (λ k other. rw other (shows_more log kept _ _ (shows k)))
told_shows net setup state log kept agent boards view (At node came) Enter is counted shows limited placed =
    λ k. shows_more log kept _ _ (shows k)
told_shows net setup state log kept agent boards view (At node came) Look is counted shows limited placed =
    λ k. shows_more log kept _ _ (shows k)
told_shows net setup state log kept agent boards view (At node came) (Depart port) is counted shows limited placed =
    λ k. shows_more log kept _ _ (shows k)
told_shows net setup state log kept agent boards view (At node came) (Accuse port) is counted shows limited placed =
    λ k. shows_more log kept _ _ (shows k)
told_shows net setup state log kept agent boards view (At node came) Leave is counted shows limited placed =
    λ k. shows_more log kept _ _ (shows k)
told_shows net setup state log kept agent boards view (At node came) Bad is counted shows limited placed =
    λ k. shows_more log kept _ _ (shows k)
told_shows net setup state log kept agent boards view Before command is counted shows limited placed =
    λ k. shows_more log kept _ _ (shows k)
told_shows net setup state log kept agent boards view (Bound node p) command is counted shows limited placed =
    λ k. shows_more log kept _ _ (shows k)
told_shows net setup state log kept agent boards view After command is counted shows limited placed =
    λ k. shows_more log kept _ _ (shows k)
