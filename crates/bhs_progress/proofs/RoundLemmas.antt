-- The proof rule for progress: the measure decreases in each round.
use Rattle.std.proofs.Common.{ℕ, zero, suc, ◌<◌, ◌≤◌, ◌≡◌, true, List, [], ◌∷◌, ◌++◌}
use Rattle.std.proofs.Common.{refl, sym, ap, ◌∙◌, subst, inl, inr, arith}
use Rattle.bhs_progress.specs.Rounds.{Threads, after, HasTurn, IsRound, AreRounds}
use Rattle.bhs_progress.specs.Rounds.{ComesNearer, RoundsSuffice}

module _ {S : Type 0} (threads : Threads S) (Holds : S → Type 0) (left next : S → ℕ)
    (comes : ComesNearer threads Holds left next) where
  holds_on : (state : S) (schedule : List ℕ) → Holds state → Holds (after threads state schedule)
  holds_on state [] holds = holds
  holds_on state (thread ∷ schedule) holds =
      holds_on (threads.turn state thread) schedule (comes.holds_on state thread holds)

  never_off : (state : S) (schedule : List ℕ) → Holds state → left (after threads state schedule) ≤ left state
  never_off state [] holds = omega arith
  never_off state (thread ∷ schedule) holds =
      let one = comes.never_off state thread holds in
      let others = never_off (threads.turn state thread) schedule (comes.holds_on state thread holds) in
      omega (arith, one, others)

  both : (state : S) (one two : List ℕ) → after threads state (one ++ two)
      ≡ after threads (after threads state one) two
  both state [] two = refl
  both state (thread ∷ one) two = both (threads.turn state thread) one two

  -- a decrease is not undone by later turns
  fell : (state : S) (thread : ℕ) (schedule : List ℕ) → Holds state → left (threads.turn state thread) < left state
      → left (after threads (threads.turn state thread) schedule) < left state
  fell state thread schedule holds less =
      let later = never_off (threads.turn state thread) schedule (comes.holds_on state thread holds) in
      omega (arith, less, later)

  -- turns of other threads before the rest of a round: the measure has decreased, or the rest decreases it
  waits : (state : S) (thread : ℕ) (schedule : List ℕ) → Holds state → 0 < left state
      → (0 < left (threads.turn state thread)
      → left (after threads (threads.turn state thread) schedule) < left (threads.turn state thread)) → (new : ℕ)
      → left (threads.turn state thread) ≡ new
      → left (after threads (threads.turn state thread) schedule) < left state
  waits state thread schedule holds some rest zero is =
      let later = never_off (threads.turn state thread) schedule (comes.holds_on state thread holds) in
      omega (arith, some, is, later)
  waits state thread schedule holds some rest (suc new) is =
      let later = rest (omega (arith, is)) in
      let one = comes.never_off state thread holds in
      omega (arith, later, one)

  -- a schedule with a turn of the next thread decreases the measure
  nearer : (state : S) (schedule : List ℕ) → Holds state → 0 < left state → HasTurn schedule (next state)
      → left (after threads state schedule) < left state
  nearer state [] holds some has = absurd has
  nearer state (thread ∷ schedule) holds some (inl is) = fell state thread schedule holds
      (subst (λ (own : ℕ). left (threads.turn state own) < left state) (sym is) (comes.nearer state holds some))
  nearer state (thread ∷ schedule) holds some (inr later) = elim (comes.stays_next state thread holds some) [
    | inl less ↦ fell state thread schedule holds less
    | inr same ↦ waits state thread schedule holds some
        (λ more. nearer (threads.turn state thread) schedule (comes.holds_on state thread holds) more
        (subst (λ (own : ℕ). HasTurn schedule own) (sym same) later))
        (left (threads.turn state thread)) refl
  ]

  -- a round decreases a measure that is not 0
  by_round : (state : S) (round : List ℕ) (rounds : ℕ) → Holds state → IsRound threads.count round → (old : ℕ)
      → left state ≡ old → left state ≤ suc rounds → left (after threads state round) ≤ rounds
  by_round state round rounds holds is zero old few =
      let later = never_off state round holds in
      omega (arith, later, old)
  by_round state round rounds holds is (suc k) old few =
      let less = nearer state round holds (omega (arith, old)) (is (next state) (comes.is_thread state)) in
      omega (arith, less, few)

  pub come : (state : S) (rounds : ℕ) (schedule : List ℕ) → Holds state → AreRounds threads.count rounds schedule
      → left state ≤ rounds → left (after threads state schedule) ≡ 0
  come state zero schedule holds are few =
      let later = never_off state schedule holds in
      omega (arith, later, few)
  come state (suc rounds) schedule holds are few =
      let nearer = by_round state are.0 rounds holds are.3 (left state) refl few in
      ap (λ (all : List ℕ). left (after threads state all)) are.2
      ∙ (ap left (both state are.0 are.1)
      ∙ come (after threads state are.0) rounds are.1 (holds_on state are.0 holds) are.4 nearer)

pub rounds_suffice : (S : Type 0) → RoundsSuffice S
rounds_suffice S threads is_met left next comes = come threads (λ state. is_met state ≡ true) left next comes
