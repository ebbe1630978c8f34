-- Whiteboards, and the results of writes on them.
use Rattle.std.specs.Prelude.{ℕ, Option, Some, List, length, if◌then◌else◌, nat_le, bytes_eq}
use Rattle.bhs_state.specs.declared.swaps.Swap.{Swap}
use Rattle.bhs_state.specs.declared.swaps.Swap.TheVariants.{Long, Differs, Took}

-- how many bytes a whiteboard holds, and the place of the write whose text it shows
pub record Whiteboard : Type 0 where
  pub limit : ℕ
  pub last : Option ℕ

-- what comes of a write on a whiteboard that shows this text
abbrev pub swap_of : (limit : ℕ) → (shown expect put : List ℕ) → Swap
swap_of limit shown expect put = if nat_le (length put) limit
    then (if bytes_eq shown expect then Took else Differs) else Long

-- the place whose text the whiteboard shows then
abbrev pub last_after : Swap → (last : Option ℕ) → (place : ℕ) → Option ℕ
last_after Took last place = Some place
last_after swap last place = last

-- the text on the whiteboard after a write
abbrev pub shown_after : Swap → (shown put : List ℕ) → List ℕ
shown_after Took shown put = put
shown_after swap shown put = shown
