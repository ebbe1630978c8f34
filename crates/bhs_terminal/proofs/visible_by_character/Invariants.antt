use Rattle.std.proofs.Common.{◌≡◌, ◌++◌, length, drop, string_bytes}
use Rattle.std.specs.Str.{chars}
use Rattle.bhs_terminal.specs.Visible.{visible_all}
use Rattle.bhs_terminal.proofs.visible_by_character.Given as goal

abbrev pub invariant-loop-character : goal.invariant-loop-character
invariant-loop-character l =
    string_bytes l.shown ++ visible_all (drop (length l.yielded) (chars l.text)) ≡ visible_all (chars l.text)
