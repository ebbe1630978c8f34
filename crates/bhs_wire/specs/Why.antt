-- The word of a refusal on the wire.
use Rattle.std.specs.Prelude.{ℕ, List, codes}
use Rattle.bhs_model.specs.declared.replies.Why.{Why}
use Rattle.bhs_model.specs.declared.replies.Why.TheVariants.{Agent, Outside, Twice, Ended, Spent, Away, Line, Port}
use Rattle.bhs_model.specs.declared.replies.Why.TheVariants.{Long}

-- one word for each reason
abbrev pub word : Why → List ℕ
word Agent = codes "agent"
word Outside = codes "outside"
word Twice = codes "twice"
word Ended = codes "ended"
word Spent = codes "spent"
word Away = codes "away"
word Line = codes "line"
word Port = codes "port"
word Long = codes "long"
