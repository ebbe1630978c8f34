use Rattle.std.proofs.Common.{refl}
use Rattle.bhs_model.proofs.SlowLemmas.{hole_looks_slow_lemma}
use Rattle.bhs_model.proofs.laws.hole_looks_slow.Goals as goal

pub returns : goal.returns
returns c = record {
  looks = hole_looks_slow_lemma;
  there_is_one = λ world held. record {
    worlds = record { net = refl; home = refl; agents = refl; quota = refl; board = refl };
    harmless = λ node port. refl;
    held_too = λ node port. refl;
  };
}
