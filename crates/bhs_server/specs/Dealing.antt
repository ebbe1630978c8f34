-- How far a match's dealer comes.
use Rattle.std.specs.Prelude.{ℕ, zero, suc, ◌-◌, ◌^◌, ◌≡◌, ◌⊎◌, Bool, true}
use Rattle.rand_chacha.specs.ChaCha.{ChaCha}
use Rattle.bhs_match.specs.Decided.{AreAllDone}
use Rattle.bhs_deliveries.specs.Dealer.{moved_on}
use Rattle.bhs_shared_match.specs.SharedMatches.{Given}
use Rattle.bhs_shared_match.specs.Deciding.{WasSeen}

-- the dealer after this number of words
abbrev pub moved_by : (words : ℕ) → ChaCha → ChaCha
moved_by zero dealer = dealer
moved_by (suc words) dealer = moved_on (moved_by words dealer)

-- The reason to close a match after these turns: the pace decides so; all its agents have ended or are lost, and the
-- match is to be closed then; or the turn numbers are exhausted.
abbrev pub MayClose : (says_so : Type 0) → (early : Bool) → Given → (turns : ℕ) → Type 0
MayClose says_so early given turns =
    says_so ⊎ (((early ≡ true) × WasSeen given.net given.setup AreAllDone) ⊎ (turns ≡ 2 ^ 32 - 1))
