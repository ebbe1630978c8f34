use Rattle.std.proofs.Common.{◌≡◌, drop}
use Rattle.bhs_tournament.specs.KeyTable.{distinct, seats_of_match}
use Rattle.bhs_tournament.proofs.key_table.add_keys.Given as goal

abbrev pub invariant-loop-agent : goal.invariant-loop-agent
invariant-loop-agent l = distinct l.table (seats_of_match l.game l.agent (drop l.agent l.keys)) ≡ distinct
    l.initial.table (seats_of_match l.game 0 l.keys)
