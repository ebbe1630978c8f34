-- The numbers of a reply, which have 16 bits.
use Rattle.std.specs.Prelude.{ℕ, ◌<◌, ◌^◌, Option, Some, None, ⊤}
use Rattle.bhs_model.specs.declared.replies.Reply.{Reply}
use Rattle.bhs_model.specs.declared.replies.Reply.TheVariants.{Here}

-- the label has 16 bits
abbrev pub LabelFits : Option ℕ → Type 0
LabelFits None = ⊤
LabelFits (Some port) = port < 2 ^ 16

-- the numbers of the reply have 16 bits
abbrev pub NumbersFit : Reply → Type 0
NumbersFit (Here ports came board) = (ports < 2 ^ 16) × LabelFits came
NumbersFit reply = ⊤
