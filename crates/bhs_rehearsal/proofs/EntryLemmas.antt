-- The first item of a connection.
use Rattle.std.proofs.Common.{◌≡◌, ℕ, ◌<◌, length, Some, List, [], ◌∷◌, false, ap, arith}
use Rattle.std.proofs.lemmas.Grind.{common_steps}
use Rattle.std.specs.Prelude.{slice_get}
use Rattle.std.specs.List.{list_any}
use Rattle.bhs_wire.specs.Lines.{Line, said_by}
use Rattle.bhs_rehearsal.specs.Connections.{Item, Says, Ends}
use Rattle.bhs_rehearsal.specs.Stages.{Stage, Sits, entry, entry_by, has_seat}

pub first_says : (stage : Stage) (items : List Item) (line : Line) → slice_get items 0 ≡ Some (Says line)
    → entry stage items ≡ entry_by stage (said_by line)
first_says stage [] line is = cc
first_says stage (Ends ∷ items) line is = cc
first_says stage (Says other ∷ items) line is =
    let same : other ≡ line = cc in
    ap (λ (one : Line). entry_by stage (said_by one)) same

-- An admitted agent belongs to an existing match.
pub sits_within : (stage : Stage) (items : List Item) (seat : ℕ × ℕ) → entry stage items ≡ Sits seat
    → seat.0 < length stage.games
sits_within stage items seat is = grind (arith, common_steps)

-- nobody has its seat yet
pub sits_free : (stage : Stage) (items : List Item) (seat : ℕ × ℕ) → entry stage items ≡ Sits seat
    → list_any (has_seat seat) stage.connections ≡ false
sits_free stage items seat is = grind (arith, common_steps)
