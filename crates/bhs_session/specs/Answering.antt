-- What a session writes behind its answers, and what it leaves unwritten.
use Rattle.std.specs.Prelude.{ℕ, ◌≡◌, ◌⊎◌, List, []}
use Rattle.bhs_model.specs.declared.replies.Reply.TheVariants.{Over}
use Rattle.bhs_wire.specs.declared.denials.Denial.{Denial}
use Rattle.bhs_session.specs.declared.endings.Ended.{Ended}
use Rattle.bhs_session.specs.declared.endings.Ended.TheVariants.{Memory, WriteFault}
use Rattle.bhs_session.specs.Phase.{Phase, Owes, Leaves, Finished}
use Rattle.bhs_session.specs.Texts.{text_of, denial_text}

-- at most one line more: that the match is over, or a denial
abbrev pub IsLastLine : List ℕ → Type 0
IsLastLine last = (last ≡ []) ⊎ ((last ≡ text_of Over) ⊎ ((denial : Denial) × (last ≡ denial_text denial)))

-- what is not written of the bytes: all that is owed; any rest if a write failed or memory ran out; else nothing
abbrev pub MayLack : Ended → List ℕ → Type 0
MayLack WriteFault unwritten = Unit {0}
MayLack Memory unwritten = Unit {0}
MayLack ended unwritten = unwritten ≡ []

abbrev pub IsUnwritten : Phase → List ℕ → Type 0
IsUnwritten (Owes text next) unwritten = unwritten ≡ text
IsUnwritten (Leaves ended) unwritten = MayLack ended unwritten
IsUnwritten (Finished ended) unwritten = MayLack ended unwritten
IsUnwritten phase unwritten = unwritten ≡ []
