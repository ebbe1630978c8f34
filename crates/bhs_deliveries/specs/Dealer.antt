-- The words by which deliveries are picked: each match has a stream of the tournament's seed to itself.
use Rattle.std.specs.Prelude.{◌≡◌, ℕ, zero, suc, ◌+◌, ◌%◌, ◌^◌, List, [], ◌∷◌, map, replicate}
use Rattle.std.specs.List.{range_with_len}
use Rattle.rand_chacha.specs.ChaCha.{ChaCha, word_at, key_of}

-- ChaCha8 is eight rounds, which are four double rounds
abbrev pub double_rounds : ℕ
double_rounds = 4

-- how many words a stream has before it starts again
abbrev pub words_of_a_stream : ℕ
words_of_a_stream = 2 ^ 68

-- the ChaCha8 word at a place of a stream, under the seed as the key
abbrev pub word_of : (seed : List ℕ) (stream place : ℕ) → ℕ
word_of seed stream place = word_at double_rounds (key_of seed) stream (place % words_of_a_stream)

-- a dealer of a seed's stream that has come to a place
abbrev pub dealer_at : (seed : List ℕ) (stream place : ℕ) → ChaCha
dealer_at seed stream place =
    record { key = key_of seed; stream = stream; word_pos = place % words_of_a_stream }

-- the word that a dealer gives next
abbrev pub next_word : ChaCha → ℕ
next_word dealer = word_at double_rounds dealer.key dealer.stream dealer.word_pos

-- the dealer after that word
abbrev pub moved_on : ChaCha → ChaCha
moved_on dealer = record dealer { word_pos = (dealer.word_pos + 1) % words_of_a_stream }

-- the words that a dealer gives in its next calls
abbrev pub next_words : (calls : ℕ) → ChaCha → List ℕ
next_words zero dealer = []
next_words (suc calls) dealer = next_word dealer ∷ next_words calls (moved_on dealer)

-- Each word is the one at the dealer's place, and then the dealer stands at the next place.
abbrev pub GivesTheWordAtItsPlace : Type 0
GivesTheWordAtItsPlace = (seed : List ℕ) (stream place : ℕ) →
    (next_word (dealer_at seed stream place) ≡ word_of seed stream place)
    × (moved_on (dealer_at seed stream place) ≡ dealer_at seed stream (place + 1))

-- A dealer gives the words from its place on, in order. A new one stands at place 0, so it gives the
-- words at places 0, 1, 2, .. of its stream.
abbrev pub GivesItsStreamInOrder : Type 0
GivesItsStreamInOrder = (seed : List ℕ) (stream place calls : ℕ) →
    next_words calls (dealer_at seed stream place)
    ≡ map (word_of seed stream) (range_with_len place calls)

-- Known answers: words that an independent implementation of ChaCha computed; the first is also published.
abbrev pub AreTheWordsOfChaCha8 : Type 0
AreTheWordsOfChaCha8 =
    (word_of (replicate 32 0) 0 0 ≡ 0x2fef003e)
    × (word_of (replicate 32 0) 1 0 ≡ 0xb34b8f2b)
    × (word_of (replicate 32 7) 3 15 ≡ 0xbe84cd86)
    × (word_of (replicate 32 7) 3 16 ≡ 0x99359768)
    × (word_of (replicate 32 7) 3 (2 ^ 68 + 16) ≡ 0x99359768)
