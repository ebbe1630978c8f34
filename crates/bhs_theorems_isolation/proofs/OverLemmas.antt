-- The line that reports the close.
use Rattle.std.proofs.Common.{◌≡◌, ◌≢◌, Bool, true, false, List, [], ◌∷◌, ◌++◌, map, refl, ap, arith}
use Rattle.bhs_model.specs.declared.replies.Reply.TheVariants.{Over}
use Rattle.bhs_model.specs.Views.{Standing, Away, Ended}
use Rattle.bhs_wire.specs.Lines.{Line}
use Rattle.bhs_session.specs.Texts.{text_of}
use Rattle.bhs_theorems_isolation.specs.Met.{takes_commands}
use Rattle.bhs_rehearsal.specs.Connections.{Item, Says, Ends}
use Rattle.bhs_theorems_isolation.specs.SentAsMet.{over_text}

-- an agent on a link is told at once
pub over_away : (stands : Standing) (untaken : List Line) → stands ≡ Away
    → over_text true stands untaken ≡ text_of Over
over_away stands untaken away = ap (λ (stands : Standing). over_text true stands untaken) away

-- any other agent that has not ended: at its next line
pub over_next : (stands : Standing) (line : Line) (untaken : List Line) → stands ≢ Ended
    → over_text true stands (line ∷ untaken) ≡ text_of Over
over_next standing line untaken lives = grind arith

-- without a line nobody but an agent on a link
pub over_none : (closed : Bool) (stands : Standing) → stands ≢ Away → over_text closed stands [] ≡ []
over_none closed standing here = grind arith

-- who takes no commands and is on no link has ended
pub over_ended : (stands : Standing) (untaken : List Line) → takes_commands stands ≡ false → stands ≢ Away
    → over_text true stands untaken ≡ []
over_ended standing untaken ended here = grind arith

-- more lines change nothing, where there is a line or none is awaited
pub over_same : (closed : Bool) (stands : Standing) (untaken more : List Line)
    → (untaken ≡ [] → takes_commands stands ≡ true → ⊥) →
    over_text closed stands (untaken ++ more) ≡ over_text closed stands untaken
over_same closed stands untaken more none = grind arith

pub nothing_first : (lines more : List Line) → lines ++ more ≡ [] → lines ≡ []
nothing_first [] more none = refl
nothing_first (line ∷ lines) more none = absurd (cc)

-- ---- nothing stands behind the end of an input

abbrev pub EndsLast : List Item → Type 0
EndsLast [] = Unit {0}
EndsLast (Says line ∷ items) = EndsLast items
EndsLast (Ends ∷ items) = items ≡ []

-- whether the items contain the end of the input
abbrev pub has_end : List Item → Bool
has_end [] = false
has_end (Says line ∷ items) = has_end items
has_end (Ends ∷ items) = true

pub last_says : (items : List Item) (lines : List Line) → has_end items ≡ false
    → EndsLast (items ++ map Says lines)
last_says [] [] none = tt
last_says [] (line ∷ lines) none = last_says [] lines none
last_says (Says line ∷ items) lines none = last_says items lines none
last_says (Ends ∷ items) lines none = absurd (cc)

pub last_end : (items : List Item) → has_end items ≡ false → EndsLast (items ++ Ends ∷ [])
last_end [] none = refl
last_end (Says line ∷ items) none = last_end items none
last_end (Ends ∷ items) none = absurd (cc)
