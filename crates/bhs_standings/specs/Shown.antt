-- What is known of verdicts that are shown.
use Rattle.std.specs.Prelude.{ℕ, ◌≡◌, Option, Some, None, List, IfSome, slice_get}
use Rattle.bhs_referee.specs.declared.verdicts.Verdict.{Verdict}
use Rattle.bhs_standings.specs.declared.showcase.Show.{Show}
use Rattle.bhs_standings.specs.declared.showcase.Show.TheVariants.{NoGame, Set, Taken}

-- the place that a note belongs to, and the verdict that it has seen
pub record Seen : Type 0 where
  pub place : ℕ
  pub verdict : Option Verdict

-- what was seen of one place, twice: the same verdict, where both have seen one
abbrev pub Agree : (one two : Option Verdict) → Type 0
Agree (Some one) (Some two) = one ≡ two
Agree one two = Unit {0}

-- The note belongs to the match with this number, if that match exists.
abbrev pub IsOf : (places : List ℕ) → (game : ℕ) → Seen → Type 0
IsOf places game note = IfSome (slice_get places game) (λ place. note.place ≡ place)

-- a note has seen this verdict, and had seen no other
pub record Sees (old : Seen) (verdict : Verdict) (new : Seen) : Type 0 where
  pub place : new.place ≡ old.place
  pub seen : new.verdict ≡ Some verdict
  pub agrees : Agree old.verdict (Some verdict)

-- A verdict was shown in place of none.
pub record IsSet (old : Seen) (verdict : Verdict) (new : Seen) : Type 0 where
  pub sees : Sees old verdict new
  pub first : old.verdict ≡ None

-- the result of showing a verdict, depending on whether the match exists
abbrev pub Shows : Option ℕ → Verdict → (old : Seen) → Show → (new : Seen) → Type 0
Shows None verdict old NoGame new = new ≡ old
Shows (Some place) verdict old Set new = IsSet old verdict new
Shows (Some place) verdict old Taken new = (shown : Verdict) × Sees old shown new
Shows game verdict old show new = ⊥

-- the verdict that is shown on a match, depending on whether the match exists
abbrev pub IsShown : Option ℕ → (old : Seen) → Option Verdict → (new : Seen) → Type 0
IsShown (Some place) old (Some verdict) new = Sees old verdict new
IsShown (Some place) old None new = (new ≡ old) × (old.verdict ≡ None)
IsShown None old None new = new ≡ old
IsShown None old (Some verdict) new = ⊥
