-- Copying events from a log, together with their turns.
use Rattle.std.specs.Prelude.{ℕ, ◌≡◌, List, length, map, take, drop}
use Rattle.bhs_model.specs.declared.marks.Kept.{Kept}
use Rattle.bhs_model.specs.Marks.{read_if}
use Rattle.bhs_match.specs.Matches.{Play}
use Rattle.bhs_shared_match.specs.declared.copies.Copied.{Copied}
use Rattle.bhs_shared_match.specs.declared.model.Tally.{Tally}
use Rattle.bhs_shared_match.specs.Tallies.{IsLegalHistory}

-- a kept event with the reply to it
abbrev pub copy_of : List Kept → Kept → Copied
copy_of log one = record { event = one.event; reply = read_if log one.mark }

-- copies of the kept events of a log from this place on, `most` of them at the most
abbrev pub copies : List Kept → (from most : ℕ) → List Copied
copies log from most = map (copy_of log) (take most (drop from log))

-- they are copied out of some legal history
pub record AreCopies (from most : ℕ) (found : List Copied) : Type 0 where
  pub play : Play
  pub tallies : List Tally
  pub legal : IsLegalHistory play tallies
  pub are : found ≡ copies play.log from most

-- they are the turns of as many events of some legal history, from this place of its log on
pub record AreTurns (from most : ℕ) (found : List ℕ) : Type 0 where
  pub play : Play
  pub tallies : List Tally
  pub turns : List ℕ
  pub legal : IsLegalHistory play tallies
  pub each : length turns ≡ length play.log
  pub are : found ≡ take most (drop from turns)
