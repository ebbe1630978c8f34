-- The loops of a settlement.
use Rattle.std.proofs.Common.{◌≡◌, ℕ, ◌+◌, ◌<◌, ◌≤◌, Option, List, [], ◌∷◌, ◌++◌, length, take, map, sym, ap, ◌∙◌}
use Rattle.std.proofs.Common.{subst, get_or}
use Rattle.std.specs.Prelude.{MatchOption}
use Rattle.std.proofs.lemmas.List.{take_more, take_all}
use Rattle.bhs_world.proofs.GrowthLemmas.{map_more}
use Rattle.bhs_shared_match.specs.Passes.{Passed}
use Rattle.bhs_shared_match.specs.Comparing.{IsFirstDifference}
use Rattle.bhs_shared_match.specs.Settling.{Compared, IsLeast, lesser}
use Rattle.bhs_shared_match.proofs.LeastLemmas.{least_more}

-- one pass more is compared
pub mapped_more : {A : Type 0} (f : Passed → Compared A) (passes : List Passed) (place : ℕ) (pass : Passed)
    (best now : Option (ℕ × ℕ)) (agent : ℕ) (index : Option ℕ) →
    IsLeast (map f (take place passes)) best → place < length passes → pass ≡ get_or passes place pass
    → agent ≡ (f pass).agent →
    MatchOption index ((f pass).logged ≡ (f pass).said) (λ index. IsFirstDifference (f pass).logged (f pass).said index)
    → now ≡ lesser best agent index → IsLeast (map f (take (place + 1) passes)) now
mapped_more f passes place pass best now agent index least inside is its at made =
    let grown : map f (take (place + 1) passes) ≡ map f (take place passes) ++ f pass ∷ [] =
    ap (map f) (take_more passes place pass inside ∙ ap (λ (one : Passed). take place passes ++ one ∷ []) (sym is))
    ∙ map_more f (take place passes) pass in
    let result : now ≡ lesser best (f pass).agent index = made ∙ ap (λ (agent : ℕ). lesser best agent index) its in
    rw (grown, result) (least_more (map f (take place passes)) (f pass) best index least at)

-- all are
pub mapped_all : {A : Type 0} (f : Passed → Compared A) (passes : List Passed) (place : ℕ) (best : Option (ℕ × ℕ))
    → IsLeast (map f (take place passes)) best → length passes ≤ place → IsLeast (map f passes) best
mapped_all f passes place best least past = subst (λ (some : List Passed). IsLeast (map f some) best)
    (take_all place passes past) least
