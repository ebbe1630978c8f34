use Rattle.std.proofs.Common.{◌≡◌, ◌++◌, drop, string_bytes}
use Rattle.bhs_cli.specs.Turns.{turns_text}
use Rattle.bhs_cli.proofs.match_files.turns.turns_text.Given as goal

abbrev pub invariant-loop-turn : goal.invariant-loop-turn
invariant-loop-turn l = string_bytes l.text ++ turns_text (drop l.turn-index l.turns) ≡ turns_text l.turns
