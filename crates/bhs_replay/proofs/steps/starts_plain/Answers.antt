use Rattle.std.proofs.Common.{length, ne_eqb, refl}
use Rattle.bhs_replay.proofs.steps.starts_plain.Goals as goal

pub returns-else-digits-eq1 : goal.returns-else-digits-eq1
returns-else-digits-eq1 c = rw (ne_eqb (length c.args.digits.now) 1 c.if-digits-eq1.false) refl
