use Rattle.std.proofs.Common.{◌≡◌, ◌+◌, ◌++◌, drop, map, string_bytes}
use Rattle.bhs_protocols_charts.proofs.charts.push_states.Given as goal

abbrev pub invariant-loop-state : goal.invariant-loop-state
invariant-loop-state l =
    string_bytes l.text ++ map (λ state. 32 + state) (drop l.state-index l.states)
    ≡ string_bytes l.initial.text ++ map (λ state. 32 + state) l.states
