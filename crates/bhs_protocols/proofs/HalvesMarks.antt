-- What whiteboards show in a search by halves.
use Rattle.std.proofs.Common.{ℕ, ◌<◌, ◌≡◌, ◌∙◌, arith}
use Rattle.std.specs.Prelude.{◌≢◌}
use Rattle.std.proofs.lemmas.Bool.{lt-ltb, le-ltb, eq-eqb, ne_eqb, cond-true, cond-false}
use Rattle.bhs_protocols.specs.Shuttle.{text_by}
use Rattle.bhs_protocols.specs.Halves.{own_in}
use Rattle.bhs_protocols.proofs.HalvesDues.{mark_at}
use Rattle.bhs_protocols.proofs.SearchLemmas.{both, right_of, left_of}

-- ---- marks

pub read_own : (s a b : ℕ) → s < 2 → own_in s (text_by s a b) ≡ a
read_own s a b below = both (λ (k : ℕ). own_in k (text_by k a b) ≡ a) (right_of a b) (left_of b a) s below

pub mark_before : (mine mark k : ℕ) → k < mine → mark_at mine mark k ≡ 1
mark_before mine mark k below = cond-true _ _ _ (lt-ltb k mine below)

pub mark_here : (mine mark k : ℕ) → k ≡ mine → mark_at mine mark k ≡ mark
mark_here mine mark k is =
    cond-false _ _ _ (le-ltb k mine (omega (arith, is))) ∙ cond-true _ _ _ (eq-eqb k mine is)

pub mark_after : (mine mark k : ℕ) → mine < k → mark_at mine mark k ≡ 0
mark_after mine mark k above =
    let apart : k ≢ mine = λ h. omega (arith, h, above) in
    cond-false _ _ _ (le-ltb k mine (omega (arith, above))) ∙ cond-false _ _ _ (ne_eqb k mine apart)
