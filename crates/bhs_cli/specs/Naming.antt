-- The names of the files of a contest.
use Rattle.std.specs.Prelude.{ℕ, List, ◌++◌, ◌==◌, if◌then◌else◌, codes, decimal}

-- the file of the replay of the match of this number
abbrev pub replay_name : (prefix : List ℕ) → (number : ℕ) → List ℕ
replay_name prefix number = prefix ++ (decimal number ++ codes ".jsonl")

-- the file of the turns of its events
abbrev pub turns_name : (prefix : List ℕ) → (number : ℕ) → List ℕ
turns_name prefix number = prefix ++ (decimal number ++ codes ".turns")

-- the file of the part of that replay, while the match goes on
abbrev pub part_name : (prefix : List ℕ) → (number : ℕ) → List ℕ
part_name prefix number = prefix ++ (decimal number ++ codes ".jsonl.part")

-- the file of the part of those turns, while the match goes on
abbrev pub turns_part_name : (prefix : List ℕ) → (number : ℕ) → List ℕ
turns_part_name prefix number = prefix ++ (decimal number ++ codes ".turns.part")

-- the file into which a file is written before it gets its name
abbrev pub new_name : (name : List ℕ) → List ℕ
new_name name = name ++ codes ".new"

-- the name that the file of an earlier contest gets; the first of these that is free
abbrev pub old_name : (name : List ℕ) → (number : ℕ) → List ℕ
old_name name number = if number == 1 then name ++ codes ".old" else name ++ (codes ".old" ++ decimal number)
