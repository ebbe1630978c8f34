use Rattle.bhs_model.proofs.PastLemmas.{replies_are_of_pasts_lemma}
use Rattle.bhs_model.proofs.ArenaLemmas.{among_matches_lemma}
use Rattle.bhs_model.proofs.laws.replies_are_of_pasts.Goals as goal

pub returns : goal.returns
returns c = record { alone = replies_are_of_pasts_lemma; among_matches = among_matches_lemma }
