-- Ends of links, and which of them a list names.
use Rattle.std.specs.Prelude.{ℕ, Bool, ◌&&◌, nat_eq}
use Rattle.std.specs.Cmp.{IsEquivalence}
use Rattle.std.specs.Cmp.Lexicographic.{pointwise}
use Rattle.std.proofs.lemmas.Cmp.{lists_equiv, and_equiv, on_equiv, nat_eq_equiv}

-- whether these are the same node and the same port
abbrev pub is_same_end : (one other : ℕ × ℕ) → Bool
is_same_end one other = nat_eq one.0 other.0 && nat_eq one.1 other.1

pub ends_equiv : IsEquivalence (pointwise is_same_end)
ends_equiv = lists_equiv (and_equiv (on_equiv (λ end. end.0) nat_eq_equiv) (on_equiv (λ end. end.1) nat_eq_equiv))
