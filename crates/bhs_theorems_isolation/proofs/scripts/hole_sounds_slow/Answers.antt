use Rattle.bhs_theorems_isolation.proofs.HeldLemmas.{held_lemma}
use Rattle.bhs_theorems_isolation.proofs.SlowGameLemmas.{begin_lemma}
use Rattle.bhs_theorems_isolation.proofs.SlowStageLemmas.{lineups_lemma, slow_lemma}
use Rattle.bhs_theorems_isolation.proofs.scripts.hole_sounds_slow.Goals as goal

pub returns : goal.returns
returns c = record { sounds = slow_lemma; begins = begin_lemma; lineups = lineups_lemma; held = held_lemma }
