-- A pass over a log that looks for a Deliver over a held link.
use Rattle.std.proofs.Common.{ℕ, ◌≡◌, ◌<◌, true, Option, Some, None, List, length, get_or, drop, drop-cons, arith}
use Rattle.std.proofs.Common.{subst}
use Rattle.std.proofs.lemmas.Bool.{cond-true}
use Rattle.bhs_model.specs.declared.marks.Kept.{Kept}
use Rattle.bhs_cli_results.specs.HeldLinks.{goes_over_held, held_from}

-- what a pass finds from a place on, if the event there goes over a held link
pub held_here : (held : List (ℕ × ℕ)) (links : List (Option (ℕ × ℕ))) (place : ℕ) (log : List Kept)
    (sites : List (Option ℕ)) (one : Kept) → place < length log → length sites ≡ length log
    → one ≡ get_or log place one → goes_over_held held links one.event ≡ true
    → held_from held links place (drop place log) (drop place sites) ≡ Some place
held_here held links place log sites one within all is_one is =
    let over : goes_over_held held links (get_or log place one).event ≡ true =
    subst (λ (some : Kept). goes_over_held held links some.event ≡ true) is_one is in
    rw (drop-cons log place one within, drop-cons sites place None (omega (arith, within, all))) (cond-true _ _ _ over)
