use Rattle.bhs_theorems_isolation.proofs.MetExample.{past_lemma, plays_lemma, sent_lemma, texts_lemma}
use Rattle.bhs_theorems_isolation.proofs.MetExample.{elsewhere_lemma, pasts_lemma, equal_lemma}
use Rattle.bhs_theorems_isolation.proofs.rehearsals.worked_meetings.Goals as goal

pub returns : goal.returns
returns c = record {
  past = past_lemma;
  bytes = sent_lemma;
  texts = texts_lemma;
  plays = plays_lemma;
  other = elsewhere_lemma;
  equal_pasts = pasts_lemma;
  equal_bytes = equal_lemma;
}
