-- Threads that wait for locks. Locks are named by their ranks.
use Rattle.std.specs.Prelude.{ℕ, ◌≡◌, ◌<◌, Option, Some, None}

-- a snapshot of the locks: which lock each thread waits for, and which thread holds each lock
pub record Locks : Type 0 where
  pub wants : (thread : ℕ) → Option ℕ
  pub holder : (lock : ℕ) → Option ℕ

-- a thread that waits for a lock holds only locks of lower ranks
abbrev pub AreAscending : Locks → Type 0
AreAscending locks = (thread held wanted : ℕ) → locks.holder held ≡ Some thread → locks.wants thread ≡ Some wanted
    → held < wanted

-- `ranks` is the number of locks, and a thread holds each lock that another thread waits for
pub record AreTaken (ranks : ℕ) (locks : Locks) : Type 0 where
  pub within : (thread wanted : ℕ) → locks.wants thread ≡ Some wanted → wanted < ranks
  pub held : (thread wanted : ℕ) → locks.wants thread ≡ Some wanted
      → (other : ℕ) × (locks.holder wanted ≡ Some other)

-- a chain of threads, each of which waits for a lock that the next one holds
pub data WaitsFor (locks : Locks) : (thread last : ℕ) → Type 0 where
  at_last : (thread : ℕ) → WaitsFor locks thread thread
  waits_on : (thread wanted other last : ℕ) → locks.wants thread ≡ Some wanted → locks.holder wanted ≡ Some other
      → WaitsFor locks other last → WaitsFor locks thread last

-- each thread begins a chain whose last thread waits for no lock
abbrev pub WaitsEnd : Type 0
WaitsEnd = (ranks : ℕ) (locks : Locks) → AreAscending locks → AreTaken ranks locks → (thread : ℕ)
    → (last : ℕ) × WaitsFor locks thread last × (locks.wants last ≡ None)
