use Rattle.std.proofs.Common.{◌≡◌, ◌++◌, map, drop}
use Rattle.bhs_rehearsal.specs.Rehearsing.{seen_out}
use Rattle.bhs_script.specs.Transcript.{all_printed}
use Rattle.bhs_cli_rehearse.proofs.play.push_outs.Given as goal

abbrev pub invariant-loop-out : goal.invariant-loop-out
invariant-loop-out l =
    l.text.items ++ all_printed (map seen_out (drop l.out-index l.outs))
    ≡ l.fn.text.items ++ all_printed (map seen_out l.outs)
