use Rattle.std.proofs.Common.{◌≡◌, map, drop}
use Rattle.bhs_rehearsal.specs.Stages.{stands_after}
use Rattle.bhs_script.specs.Instructions.{seen}
use Rattle.bhs_script.specs.Transcript.{transcript}
use Rattle.bhs_stream.proofs.PutsLemmas.{IsSentUpTo}
use Rattle.bhs_cli_rehearse.proofs.play.play_all.Given as goal

abbrev pub invariant-loop-instruction : goal.invariant-loop-instruction
invariant-loop-instruction g l =
    let left = map seen (drop l.instruction-index l.script) in
    let script = map seen l.fn.script in
    (stands_after l.rehearsal.stage left ≡ stands_after l.fn.rehearsal.stage script)
    × IsSentUpTo g.W.Output.takes l.fn.writer l.writer (transcript l.fn.rehearsal.stage script)
    (transcript l.rehearsal.stage left)
