-- The whiteboards of a table name the last Writes that put their texts, and so do the marks that a step answers.
use Rattle.std.proofs.Common.{◌≡◌, ℕ, ◌<◌, Bool, true, false, not, ◌&&◌, Option, Some, List, length, refl, ap, ◌∙◌, inl}
use Rattle.std.proofs.Common.{inr, arith, nat_lt, ◌==◌, if◌then◌else◌}
use Rattle.std.proofs.lemmas.Bool.Decides.{eqb_tells}
use Rattle.bhs_net.specs.Network.{Network, nodes_of}
use Rattle.bhs_model.specs.declared.commands.Command.{Command}
use Rattle.bhs_model.specs.declared.commands.Command.TheVariants.{Enter, Look, Write, Depart, Accuse, Leave, Bad}
use Rattle.bhs_model.specs.declared.marks.Mark.{Mark}
use Rattle.bhs_model.specs.declared.marks.Mark.TheVariants as marks
use Rattle.bhs_model.specs.declared.marks.Kept.{Kept}
use Rattle.bhs_model.specs.declared.replies.Why.{Why}
use Rattle.bhs_model.specs.declared.replies.Why.TheVariants as whys
use Rattle.bhs_model.specs.Worlds.{World}
use Rattle.bhs_model.specs.Runs.{Position, Before, At, Bound, After, position_after}
use Rattle.bhs_model.specs.Marks.{read, board_of}
use Rattle.bhs_model.specs.Places.{is_written, is_at, place_shown}
use Rattle.bhs_state.specs.declared.swaps.Swap.{Swap}
use Rattle.bhs_state.specs.declared.swaps.Swap.TheVariants.{Long, Differs, Took}
use Rattle.bhs_state.specs.Boards.{Whiteboard, last_after}
use Rattle.bhs_world.specs.Tables.{board_at, untouched}
use Rattle.bhs_world.specs.Steps.{IsPlaced, swap_at, board_written, boards_told, mark_of_swap, mark_told}
use Rattle.bhs_world.proofs.ListLemmas.{each_set}

-- each whiteboard names the place that is known of its node
abbrev pub AllNamed : List Whiteboard → (ℕ → Option ℕ) → Type 0
AllNamed boards written = (node : ℕ) → (board_at boards node).last ≡ written node

-- what a mark names

swap_shown : (log : List Kept) (written : ℕ → Option ℕ) (swap : Swap) (last : Option ℕ) (node : ℕ) (came : Option ℕ)
    → last ≡ written node →
    board_of (mark_of_swap swap last) ≡ place_shown written (Some (read log (mark_of_swap swap last))) (At node came)
swap_shown log written Long last node came same = refl
swap_shown log written Differs last node came same = same
swap_shown log written Took last node came same = refl

port_shown : (log : List Kept) (written : ℕ → Option ℕ) (below : Bool) (position : Position) →
    (board_of (if below then marks.Gone else marks.No whys.Port) ≡ place_shown written
    (Some (read log (if below then marks.Gone else marks.No whys.Port))) position)
    × (board_of (if below then marks.Noted else marks.No whys.Port) ≡ place_shown written
    (Some (read log (if below then marks.Noted else marks.No whys.Port))) position)
port_shown log written true position = (refl, refl)
port_shown log written false position = (refl, refl)

-- a command that is heard
pub told_shown : (world : World) (log : List Kept) (boards : List Whiteboard) (written : ℕ → Option ℕ)
    (position : Position) (command : Command) → AllNamed boards written →
    board_of (mark_told world log boards position command) ≡ place_shown written
    (Some (read log (mark_told world log boards position command))) (position_after world position command)
told_shown world log boards written Before Enter same = same world.home
told_shown world log boards written (At node came) Enter same = same world.home
told_shown world log boards written (Bound node p) Enter same = same world.home
told_shown world log boards written After Enter same = same world.home
told_shown world log boards written (At node came) Look same = same node
told_shown world log boards written (At node came) (Write expect put) same =
    swap_shown log written (swap_at log (board_at boards node) expect put) (board_at boards node).last node
    came (same node)
told_shown world log boards written (At node came) (Depart port) same =
    (port_shown log written (nat_lt port (world.net.degree node)) _).0
told_shown world log boards written (At node came) (Accuse port) same =
    (port_shown log written (nat_lt port (world.net.degree node)) _).1
told_shown world log boards written position command same = grind arith

-- An event that is not heard leaves the log and the whiteboards unchanged.
pub unheard_shown : (log : List Kept) (written : ℕ → Option ℕ) (x y z : Bool) (mark : Mark) (why : Why)
    (position : Position) → (x && (not y && z)) ≡ false →
    board_of (if x then (if y then marks.Over else (if z then mark else marks.No why)) else marks.No whys.Agent)
    ≡ place_shown written (Some (read log (if x then (if y then marks.Over else (if z then mark else marks.No why))
    else marks.No whys.Agent))) position
unheard_shown log written false y z mark why position unheard = refl
unheard_shown log written true true z mark why position unheard = refl
unheard_shown log written true false true mark why position unheard = cc
unheard_shown log written true false false mark why position unheard = refl

-- what a whiteboard names then

equals_itself : (n : ℕ) → (n == n) ≡ true
equals_itself n = elim (eqb_tells n n) [ inl h ↦ h.0 | inr h ↦ absurd (h.1 refl) ]

swap_last : (log : List Kept) (swap : Swap) (last : Option ℕ) (same : Bool) → same ≡ true →
    last_after swap last (length log) ≡ (if is_written (Some (read log (mark_of_swap swap last))) && same then Some
    (length log) else last)
swap_last log Long last same h = refl
swap_last log Differs last same h = refl
swap_last log Took last same h = rw h refl

swap_elsewhere : (log : List Kept) (swap : Swap) (last : Option ℕ) (same : Bool) (written : Option ℕ) → same ≡ false →
    written ≡ (if is_written (Some (read log (mark_of_swap swap last))) && same then Some (length log) else written)
swap_elsewhere log Long last same written h = refl
swap_elsewhere log Differs last same written h = refl
swap_elsewhere log Took last same written h = rw h refl

port_last : (log : List Kept) (below same : Bool) (written : Option ℕ) →
    (written ≡ (if is_written (Some (read log (if below then marks.Gone else marks.No whys.Port))) && same then Some
    (length log) else written))
    × (written ≡ (if is_written (Some (read log (if below then marks.Noted else marks.No whys.Port))) && same then Some
    (length log) else written))
port_last log true same written = (refl, refl)
port_last log false same written = (refl, refl)

pub told_last : (world : World) (net : Network) (log : List Kept) (boards : List Whiteboard) (written : ℕ → Option ℕ)
    (position : Position) (command : Command) → AllNamed boards written → length boards ≡ nodes_of net
    → IsPlaced net position →
    (k : ℕ) → (board_at (boards_told log boards position command) k).last ≡ (if is_written
    (Some (read log (mark_told world log boards position command))) && is_at position k then Some
    (length log) else written k)
told_last world net log boards written (At node came) (Write expect put) same counted placed =
    let within : node < length boards = omega arith in
    let board : Whiteboard = board_at boards node in
    let swap : Swap = swap_at log board expect put in
    each_set (λ k one. one.last ≡ (if is_written (Some (read log (mark_of_swap swap board.last))) &&
    (k == node) then Some (length log) else written k)) boards node (board_written log board expect put)
    untouched within
    (swap_last log swap board.last (node == node) (equals_itself node)
    ∙ ap (λ (last : Option ℕ). if is_written (Some (read log (mark_of_swap swap board.last))) &&
    (node == node) then Some (length log) else last) (same node))
    (λ k other. same k ∙ swap_elsewhere log swap board.last (k == node) (written k) other)
told_last world net log boards written (At node came) (Depart port) same counted placed =
    λ k. same k ∙ (port_last log (nat_lt port (world.net.degree node)) (k == node) (written k)).0
told_last world net log boards written (At node came) (Accuse port) same counted placed =
    λ k. same k ∙ (port_last log (nat_lt port (world.net.degree node)) (k == node) (written k)).1
told_last world net log boards written (At node came) Enter same counted placed = same
told_last world net log boards written (At node came) Look same counted placed = same
told_last world net log boards written (At node came) Leave same counted placed = same
told_last world net log boards written (At node came) Bad same counted placed = same
told_last world net log boards written Before Enter same counted placed = same
told_last world net log boards written Before Look same counted placed = same
told_last world net log boards written Before (Write expect put) same counted placed = same
told_last world net log boards written Before (Depart port) same counted placed = same
told_last world net log boards written Before (Accuse port) same counted placed = same
told_last world net log boards written Before Leave same counted placed = same
told_last world net log boards written Before Bad same counted placed = same
told_last world net log boards written (Bound node p) Enter same counted placed = same
told_last world net log boards written (Bound node p) Look same counted placed = same
told_last world net log boards written (Bound node p) (Write expect put) same counted placed = same
told_last world net log boards written (Bound node p) (Depart port) same counted placed = same
told_last world net log boards written (Bound node p) (Accuse port) same counted placed = same
told_last world net log boards written (Bound node p) Leave same counted placed = same
told_last world net log boards written (Bound node p) Bad same counted placed = same
told_last world net log boards written After Enter same counted placed = same
told_last world net log boards written After Look same counted placed = same
told_last world net log boards written After (Write expect put) same counted placed = same
told_last world net log boards written After (Depart port) same counted placed = same
told_last world net log boards written After (Accuse port) same counted placed = same
told_last world net log boards written After Leave same counted placed = same
told_last world net log boards written After Bad same counted placed = same
