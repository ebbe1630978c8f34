use Rattle.std.proofs.Common.{◌∙◌}
use Rattle.bhs_world.proofs.AgreeLemmas.{keeps_same}
use Rattle.bhs_world.proofs.worlds.World.keeps.Goals as goal

pub returns : goal.returns
returns c = λ log stands. c.keeps_event.ensures ∙ keeps_same c.args.self.now log c.args.event.now stands
