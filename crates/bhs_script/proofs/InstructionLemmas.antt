-- Judging a script line by line.
use Rattle.std.proofs.Common.{◌≡◌, ℕ, ◌+◌, List, [], ◌∷◌, ◌++◌, length, Option, None, Some, IfSome, ◌<◌, ◌≤◌, arith}
use Rattle.std.proofs.Common.{Result, Ok, Err, Bor, refl, ap, sym, append_assoc}
use Rattle.std.specs.Option.{option_map_or}
use Rattle.bhs_rehearsal.specs.Stages.{Instruction}
use Rattle.bhs_script.specs.Script.{Meaning, lines_of, meaning, before, with_meaning, instructions_from}

-- prepends instructions, unless the remaining script is refused
abbrev pub with_front : List Instruction → Result (List Instruction) ℕ → Result (List Instruction) ℕ
with_front front (Ok others) = Ok (front ++ others)
with_front front (Err line) = Err line

-- the lines of the rest of a script
abbrev pub rest_lines : Option (Bor (List ℕ)) → List (List ℕ)
rest_lines rest = option_map_or (λ text. lines_of text.now) rest []

-- how many bytes are left, and one for the last line, which has no line feed
abbrev pub bytes_left : Option (Bor (List ℕ)) → ℕ
bytes_left rest = option_map_or (λ text. length text.now + 1) rest 0

pub with_front-before : (front : List Instruction) (one : Instruction) (others : Result (List Instruction) ℕ)
    → with_front front (before one others) ≡ with_front (front ++ one ∷ []) others
with_front-before front one (Ok others) = ap (λ (all : List Instruction). Ok all)
    (sym (append_assoc front (one ∷ []) others))
with_front-before front one (Err line) = refl

-- one line further
pub one_line : (games : ℕ) (front : List Instruction) (number : ℕ) (text line : List ℕ) (lines : List (List ℕ))
    (means : Meaning)
    → lines_of text ≡ line ∷ lines → means ≡ meaning games line
    → with_front front (instructions_from games (number + 1) (lines_of text)) ≡ with_front front
    (with_meaning (number + 1) means (instructions_from games (number + 1 + 1) lines))
one_line games front number text line lines means first is = rw (first, is) refl

-- a rest that is shorter has fewer bytes left
pub bytes_left-shorter : (rest : Option (Bor (List ℕ))) (n : ℕ) → IfSome rest (λ text. length text.now < n)
    → bytes_left rest ≤ n
bytes_left-shorter None n shorter = omega arith
bytes_left-shorter (Some text) n shorter = omega arith
