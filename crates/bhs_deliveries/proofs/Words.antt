use Rattle.std.proofs.Common.{◌≡◌, ℕ, zero, suc, ◌+◌, List, ◌∷◌, map, refl, ap, ◌∙◌}
use Rattle.std.proofs.Math.Nat.{mod-add-mod}
use Rattle.std.specs.List.{range_with_len}
use Rattle.bhs_deliveries.specs.Dealer.{words_of_a_stream, word_of, dealer_at, moved_on, next_words}

-- a dealer at a place moves on to the next place
moved_on-dealer_at : (seed : List ℕ) (stream place : ℕ) →
    moved_on (dealer_at seed stream place) ≡ dealer_at seed stream (place + 1)
moved_on-dealer_at seed stream place =
    ap (λ (w : ℕ). record { key = (dealer_at seed stream 0).key; stream = stream; word_pos = w })
    (mod-add-mod place words_of_a_stream 1)

-- by the number of calls: the first call gives the word at the place, and the others go on from the next place
pub next_words-dealer_at : (seed : List ℕ) (stream place calls : ℕ) →
    next_words calls (dealer_at seed stream place) ≡ map (word_of seed stream) (range_with_len place calls)
next_words-dealer_at seed stream place zero = refl
next_words-dealer_at seed stream place (suc calls) =
    ap (λ dealer. word_of seed stream place ∷ next_words calls dealer) (moved_on-dealer_at seed stream place)
    ∙ ap (λ others. word_of seed stream place ∷ others) (next_words-dealer_at seed stream (place + 1) calls)
