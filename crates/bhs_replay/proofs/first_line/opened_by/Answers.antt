use Rattle.std.proofs.Common.{refl}
use Rattle.bhs_replay.specs.HeadSeen.{seen}
use Rattle.bhs_replay.proofs.OpeningLemmas.{not_started}
use Rattle.bhs_replay.proofs.first_line.opened_by.Goals as goal

pub returns-in-None : goal.returns-in-None
returns-in-None c =
    not_started c.args.line.now (seen c.args.says) c.requires (rw c.in-None.is at c.in_ok-game.ensures)

pub returns-in-Some : goal.returns-in-Some
returns-in-Some c = c.if_head.ensures (seen c.args.says) c.requires refl (rw c.in-Some.is at c.in_ok-game.ensures)
