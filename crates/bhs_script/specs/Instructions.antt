-- An instruction of the code, without where it lies in memory.
use Rattle.std.specs.Prelude.{◌≡◌, ◌⊎◌, ℕ, List, [], ◌∷◌, ◌++◌}
use Rattle.std.specs.Cow.{cow_slice_items}
use Rattle.bhs_rehearsal.specs.Stages as stages
use Rattle.bhs_script.specs.declared.instructions.Instruction.{Instruction}
use Rattle.bhs_script.specs.declared.instructions.Instruction.TheVariants.{Feed, End, Draw, Deliver, Close}
use Rattle.bhs_script.specs.declared.meanings.Meaning.{Meaning}
use Rattle.bhs_script.specs.declared.meanings.Meaning.TheVariants as meanings
use Rattle.bhs_script.specs.Script as script

abbrev pub seen : Instruction → stages.Instruction
seen (Feed conn bytes) = stages.Feeds conn (cow_slice_items bytes)
seen (End conn) = stages.EndsInput conn
seen (Draw game word) = stages.Draws game word
seen (Deliver game agent) = stages.Delivers game agent
seen (Close game) = stages.Closes game

abbrev pub seen_as : Meaning → script.Meaning
seen_as meanings.Skipped = script.Skipped
seen_as (meanings.Gives instruction) = script.Gives (seen instruction)
seen_as meanings.Refused = script.Refused

-- the line with its line feed, or the line alone where it has none
abbrev pub IsEnded : (line ended : List ℕ) → Type 0
IsEnded line ended = (ended ≡ line ++ 10 ∷ []) ⊎ (ended ≡ line)
