-- Rounds as a fairness premise, and the proof rule for progress: a measure that turns decrease.
use Rattle.std.specs.Prelude.{ℕ, zero, suc, ◌≡◌, ◌<◌, ◌≤◌, ◌⊎◌, Bool, true, List, [], ◌∷◌, ◌++◌}

-- the number of threads, and the transition of each thread's turn
pub record Threads (S : Type 0) : Type 0 where
  pub count : ℕ
  pub turn : S → (thread : ℕ) → S

-- the state after these turns
abbrev pub after : {S : Type 0} → Threads S → S → (schedule : List ℕ) → S
after threads state [] = state
after threads state (thread ∷ schedule) = after threads (threads.turn state thread) schedule

-- the schedule contains a turn of this thread
abbrev pub HasTurn : (schedule : List ℕ) → (thread : ℕ) → Type 0
HasTurn [] thread = ⊥
HasTurn (one ∷ schedule) thread = (one ≡ thread) ⊎ HasTurn schedule thread

-- a round: each thread has at least one turn
abbrev pub IsRound : (count : ℕ) → (schedule : List ℕ) → Type 0
IsRound count schedule = (thread : ℕ) → thread < count → HasTurn schedule thread

-- the schedule is a concatenation of this many rounds
abbrev pub AreRounds : (count rounds : ℕ) → (schedule : List ℕ) → Type 0
AreRounds count zero schedule = schedule ≡ []
AreRounds count (suc rounds) schedule =
    (round rest : List ℕ) × (schedule ≡ round ++ rest) × IsRound count round × AreRounds count rounds rest

-- `Holds` is an invariant under which no turn increases the measure `left`, a turn of the thread `next` decreases it,
-- and `next` names the same thread until some turn has decreased it.
pub record ComesNearer {S : Type 0} (threads : Threads S) (Holds : S → Type 0) (left next : S → ℕ) : Type 0 where
  pub is_thread : (state : S) → next state < threads.count
  pub holds_on : (state : S) (thread : ℕ) → Holds state → Holds (threads.turn state thread)
  pub nearer : (state : S) → Holds state → 0 < left state → left (threads.turn state (next state)) < left state
  pub never_off : (state : S) (thread : ℕ) → Holds state → left (threads.turn state thread) ≤ left state
  pub stays_next : (state : S) (thread : ℕ) → Holds state → 0 < left state
      → (left (threads.turn state thread) < left state) ⊎ (next (threads.turn state thread) ≡ next state)

-- such a measure is 0 after as many rounds as its value
abbrev pub RoundsSuffice : Type 0 → Type 0
RoundsSuffice S = (threads : Threads S) (is_met : S → Bool) (left next : S → ℕ)
    → ComesNearer threads (λ state. is_met state ≡ true) left next → (state : S) (rounds : ℕ) (schedule : List ℕ)
    → is_met state ≡ true → AreRounds threads.count rounds schedule → left state ≤ rounds
    → left (after threads state schedule) ≡ 0
