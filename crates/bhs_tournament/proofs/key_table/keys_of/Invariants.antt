use Rattle.std.proofs.Common.{◌≡◌, drop, map}
use Rattle.bhs_tournament.specs.KeyTable.{distinct, seats_from, key_table}
use Rattle.bhs_tournament.proofs.key_table.keys_of.Given as goal

abbrev pub invariant-loop-game : goal.invariant-loop-game
invariant-loop-game l = distinct l.table (seats_from l.game
    (map (λ fixture. fixture.keys.items) (drop l.game l.matches))) ≡ key_table
    (map (λ fixture. fixture.keys.items) l.matches)
