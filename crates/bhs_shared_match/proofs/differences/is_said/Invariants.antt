use Rattle.std.proofs.Common.{◌≡◌, take}
use Rattle.bhs_shared_match.specs.Comparing.{entry_of}
use Rattle.bhs_shared_match.specs.Saying.{AllSay}
use Rattle.bhs_shared_match.specs.Settling.{has_pass}
use Rattle.bhs_shared_match.proofs.differences.is_said.Given as goal

abbrev pub invariant-loop-pass : goal.invariant-loop-pass
invariant-loop-pass l = (l.has_pass ≡ has_pass (take l.pass-index l.passes) l.agent)
    × AllSay l.agent l.index (entry_of l.log l.place l.command l.mark) (take l.pass-index l.passes)
