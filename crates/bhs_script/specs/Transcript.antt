-- What a rehearsal prints.
use Rattle.std.specs.Prelude.{ℕ, Bool, true, List, [], ◌∷◌, ◌++◌, decimal, if◌then◌else◌}
use Rattle.bhs_wire.specs.Lines.{is_line_feed}
use Rattle.bhs_rehearsal.specs.Stages.{Stage, Instruction, sends}

-- inserts a beginning before each line of a text
abbrev pub begun_with : (beginning : List ℕ) → (is_start : Bool) → List ℕ → List ℕ
begun_with beginning is_start [] = []
begun_with beginning is_start (byte ∷ bytes) =
    (if is_start then beginning else []) ++ byte ∷ begun_with beginning (is_line_feed byte) bytes

-- the number of a connection, and a space
abbrev pub beginning_of : (conn : ℕ) → List ℕ
beginning_of conn = decimal conn ++ 32 ∷ []

-- what a connection is sent, each line behind its number
abbrev pub printed : (conn : ℕ) → (text : List ℕ) → List ℕ
printed conn text = begun_with (beginning_of conn) true text

-- what an instruction sends
abbrev pub all_printed : List (ℕ × List ℕ) → List ℕ
all_printed [] = []
all_printed (out ∷ outs) = printed out.0 out.1 ++ all_printed outs

-- the concatenated output of the instructions
abbrev pub transcript_of : List (List (ℕ × List ℕ)) → List ℕ
transcript_of [] = []
transcript_of (outs ∷ others) = all_printed outs ++ transcript_of others

-- what a script prints
abbrev pub transcript : Stage → List Instruction → List ℕ
transcript stage script = transcript_of (sends stage script)
