-- Numbers that stand between commas.
use Rattle.std.proofs.Common.{◌≡◌, ◌∙◌, ◌∷◌, ap, ap₂, sym, List, Some}
use Rattle.std.proofs.Common.{◌<◌, ◌-◌, ◌≢◌, ℕ, suc, zero, refl, length, lt-ltb}
use native.Mathlib.Numerals.{unary_clauses}
use Rattle.std.specs.List.{after_first, before_first, position_or_len}
use Rattle.clap.specs.Words.{Text}
use Rattle.bhs_cli_words.specs.Exploring.{argument_in, arguments_within, before_arguments, is_comma}

-- one more argument
pub more : (most : ℕ) (word first others : Text) → most ≢ 0
    → position_or_len is_comma word < length word → first ≡ before_first is_comma word
    → others ≡ after_first is_comma word
    → arguments_within most word ≡ before_arguments (argument_in first) (arguments_within (most - 1) others)
unfolding arguments_within
more zero word first others is _ _ _ = absurd (is refl)
more (suc most) word first others is within begins ends = rw (begins, ends, lt-ltb _ _ within) (simp unary_clauses refl)

-- The item precedes the others.
pub in_front : (most : ℕ) (word first others : Text) → most ≢ 0
    → position_or_len is_comma word < length word → first ≡ before_first is_comma word
    → others ≡ after_first is_comma word → (number : ℕ) (numbers all : List ℕ)
    → argument_in first ≡ Some number → arguments_within (most - 1) others ≡ Some numbers → all ≡ number ∷ numbers
    → Some all ≡ arguments_within most word
in_front most word first others is within begins ends number numbers all one rest joined =
    ap Some joined
    ∙ sym (more most word first others is within begins ends ∙ ap₂ before_arguments one rest)
