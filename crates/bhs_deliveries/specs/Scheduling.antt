-- The oblivious schedule of a dealer's match, and logs with turns.
use Rattle.std.specs.Prelude.{ℕ, ◌%◌, List, [], ◌∷◌}
use Rattle.rand_chacha.specs.ChaCha.{ChaCha, word_at}
use Rattle.bhs_model.specs.declared.marks.Kept.{Kept}
use Rattle.bhs_time.specs.Schedules.{Schedule, Words, DelayLaw, oblivious}
use Rattle.bhs_time.specs.Stamps.{Stamped}
use Rattle.bhs_deliveries.specs.Dealer.{double_rounds, words_of_a_stream}
use Rattle.bhs_deliveries.specs.Delaying.{delay_word}

-- the words of a dealer's match, wherever the dealer stands
abbrev pub words_by : ChaCha → Words
words_by dealer = record {
  picks = λ turn. word_at double_rounds dealer.key dealer.stream (turn % words_of_a_stream);
  delays = delay_word dealer;
}

-- the oblivious schedule of a dealer's match
abbrev pub whole_schedule : ChaCha → (agents : ℕ) → DelayLaw → Schedule
whole_schedule dealer agents law = oblivious (words_by dealer) agents law

-- pairs the events of a log with their turns
abbrev pub stamps_in : List Kept → (turns : List ℕ) → List Stamped
stamps_in [] turns = []
stamps_in (one ∷ log) [] = []
stamps_in (one ∷ log) (turn ∷ turns) = record { event = one.event; turn = turn } ∷ stamps_in log turns
