-- The worked script with what its client met.
use Rattle.std.proofs.Common.{◌≡◌, ◌∙◌, ℕ, zero, suc, [], refl, sym, arith}
use Rattle.bhs_wire.proofs.OnLiterals.{bhs_wire_on_literals}
use Rattle.bhs_rehearsal.specs.Stages.{game_at}
use Rattle.bhs_theorems_isolation.specs.Met.{view_of, bytes}
use Rattle.bhs_theorems_isolation.specs.ScriptHeadline.{beginning, past_of, sent_in}
use Rattle.bhs_theorems_isolation.specs.MetExample.{hasty_look, met_there, ThePastIsOfWhatWasMet}
use Rattle.bhs_theorems_isolation.specs.MetExample.{TheBytesAreOfWhatWasMet}
use Rattle.bhs_theorems_isolation.specs.MetExample.{TheBytesAreThese}
use Rattle.bhs_theorems_isolation.specs.MetExample.{TheHeadlineSpeaksOfIt, look_elsewhere, TheHeadlineSpeaksOfTheOther}
use Rattle.bhs_theorems_isolation.specs.MetExample.{ThePastsAreEqual, TheBytesAreEqual}

begins : (game : ℕ) → (game_at (beginning hasty_look) game).log ≡ []
begins zero = refl
begins (suc game) = refl

pub plays_lemma : TheHeadlineSpeaksOfIt
unfolding bhs_wire_on_literals
plays_lemma = record { begins = begins; sits = refl; within = omega arith; still_open = refl; goes_on = refl }

pub past_lemma : ThePastIsOfWhatWasMet
unfolding bhs_wire_on_literals
past_lemma = refl

pub sent_lemma : TheBytesAreOfWhatWasMet
unfolding bhs_wire_on_literals
sent_lemma = refl

pub texts_lemma : TheBytesAreThese
unfolding bhs_wire_on_literals
texts_lemma = refl

begins_elsewhere : (game : ℕ) → (game_at (beginning look_elsewhere) game).log ≡ []
begins_elsewhere zero = refl
begins_elsewhere (suc game) = refl

pub elsewhere_lemma : TheHeadlineSpeaksOfTheOther
unfolding bhs_wire_on_literals
elsewhere_lemma = record {
  begins = begins_elsewhere;
  sits = refl;
  within = omega arith;
  still_open = refl;
  goes_on = refl;
}

past_elsewhere : past_of look_elsewhere (0, 0) ≡ view_of met_there
unfolding bhs_wire_on_literals
past_elsewhere = refl

sent_elsewhere : sent_in look_elsewhere 0 ≡ bytes 8 met_there
unfolding bhs_wire_on_literals
sent_elsewhere = refl

pub pasts_lemma : ThePastsAreEqual
pasts_lemma = past_lemma ∙ sym past_elsewhere

pub equal_lemma : TheBytesAreEqual
equal_lemma = sent_lemma ∙ sym sent_elsewhere
