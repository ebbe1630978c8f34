use Rattle.std.proofs.Common.{sym}
use Rattle.bhs_replay.specs.Stages.{begins}
use Rattle.bhs_replay.proofs.reader.Reader.new.Goals as goal

pub returns : goal.returns
returns c = record { leads = begins; line = sym c.new.ensures.items; quiet = λ over. absurd over }
