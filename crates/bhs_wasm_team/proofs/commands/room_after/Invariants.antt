use Rattle.std.proofs.Common.{◌≡◌, ◌+◌, drop, length}
use Rattle.json.specs.Print.{escape}
use Rattle.bhs_wasm_team.proofs.commands.room_after.Given as goal

-- what is left and what is used make the room
abbrev pub invariant-loop-byte : goal.invariant-loop-byte
invariant-loop-byte l = l.left + length (escape l.text) ≡ l.room + length (escape (drop l.byte-index l.text))
