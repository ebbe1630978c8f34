-- Loop invariant: printing the lines of matches in order.
use Rattle.std.proofs.Common.{◌≡◌, Bool, true, false, if◌then◌else◌, subst, ℕ, ◌+◌, ◌<◌, ◌≤◌, List, [], ◌∷◌, ◌++◌}
use Rattle.std.proofs.Common.{length, drop, get_or, refl, sym, ap, ◌∙◌, append_assoc, map, arith}
use Rattle.std.proofs.lemmas.List.{append-nil, drop_more}
use Rattle.std.proofs.Math.ListN.{drop_of_length-le}
use Rattle.std.specs.List.{All}
use Rattle.std.proofs.lemmas.List.Elements.{All-push}
use Rattle.bhs_net.specs.Network.{Network}
use Rattle.bhs_setups.specs.declared.lineups.Ready.{Ready}
use Rattle.bhs_cli.specs.Summary.{IsRead, match_line, summary_from}

module _ (all : List Ready) (game : ℕ) (text whole : List ℕ)
    (so_far : text ++ summary_from game (drop game all) ≡ whole) where
  pub goes_on : (one : Ready) (line new : List ℕ) → game < length all → one ≡ get_or all game one
      → line ≡ match_line game one → new ≡ text ++ line
      → new ++ summary_from (game + 1) (drop (game + 1) all) ≡ whole
  goes_on one line new lt is same grown =
      let rest = drop (game + 1) all in
      let e : drop game all ≡ one ∷ rest = drop_more all game one lt ∙ ap (λ x. x ∷ rest) (sym is) in
      ap (λ (bytes : List ℕ). bytes ++ summary_from (game + 1) rest)
      (grown ∙ ap (λ (bytes : List ℕ). text ++ bytes) same)
      ∙ append_assoc text (match_line game one) (summary_from (game + 1) rest)
      ∙ sym (ap (λ ms. text ++ summary_from game ms) e)
      ∙ so_far

  pub ends : length all ≤ game → text ≡ whole
  ends le = sym (append-nil text) ∙ sym (ap (λ ms. text ++ summary_from game ms) (drop_of_length-le all le)) ∙ so_far

pub length_of_map : {A B : Type 0} (f : A → B) (xs : List A) → length (map f xs) ≡ length xs
length_of_map f [] = refl
length_of_map f (x ∷ xs) = omega (arith, length_of_map f xs)

-- one network more, unless reading it failed
pub all_read : (is_pushed : Bool) (old new : List Network) (net : Network)
    → new ≡ (if is_pushed then old ++ net ∷ [] else old) → All IsRead old → IsRead net → All IsRead new
all_read true old new net is all read = subst (All IsRead) (sym is) (All-push IsRead old net all read)
all_read false old new net is all read = subst (All IsRead) (sym is) all
