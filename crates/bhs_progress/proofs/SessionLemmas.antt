-- The measure for `EachLineIsAnswered`: two for each unanswered line, and the turns that the match has left.
use Rattle.std.proofs.Common.{ℕ, zero, suc, ◌+◌, ◌-◌, ◌*◌, ◌<◌, ◌≤◌, ◌≡◌, ◌⊎◌, ◌==◌, Bool, true, false}
use Rattle.std.proofs.Common.{refl, sym, ap, ◌∙◌, subst, inl, inr, arith}
use Rattle.std.specs.Prelude.{if◌then◌else◌, nat_lt}
use Rattle.std.proofs.lemmas.Bool.{true≢false, eq-eqb, eqb-true, ltb-false}
use Rattle.bhs_progress.specs.Rounds.{ComesNearer, after}
use Rattle.bhs_progress.specs.Sessions.{Stand, Takes, Waits, Ends, SessionState, ServedMatch, Outcome, Course}
use Rattle.bhs_progress.specs.Sessions.{stand_by, own_by, own_turn, moved, match_turn}
use Rattle.bhs_progress.specs.Sessions.{session_turn, threads_of, HasAnswered, time_of, turns_left, EachLineIsAnswered}
use Rattle.bhs_progress.proofs.RoundLemmas.{come}

-- ---- the measure of a session with this many unanswered lines

abbrev weight : (extra lines time : ℕ) → ℕ
weight extra zero time = 0
weight extra (suc lines) time = 2 * suc lines + (extra + time)

abbrev off_by : Stand → (lines time : ℕ) → ℕ
off_by Takes lines time = weight 0 lines time
off_by Waits lines time = weight 1 lines time
off_by Ends lines time = 0

weight_few : (extra lines time : ℕ) → weight extra lines time ≤ 2 * lines + (extra + time)
weight_few extra zero time = omega arith
weight_few extra (suc lines) time = omega arith

off_few : (stand : Stand) (lines time : ℕ) → off_by stand lines time ≤ 2 * lines + (1 + time)
off_few Takes lines time = let few = weight_few 0 lines time in omega (arith, few)
off_few Waits lines time = weight_few 1 lines time
off_few Ends lines time = omega arith

weight_none : (extra lines time : ℕ) → lines ≡ 0 → weight extra lines time ≡ 0
weight_none extra zero time is = refl
weight_none extra (suc lines) time is = absurd (omega (arith, is))

off_none : (stand : Stand) (lines time : ℕ) → lines ≡ 0 → off_by stand lines time ≡ 0
off_none Takes lines time is = weight_none 0 lines time is
off_none Waits lines time is = weight_none 1 lines time is
off_none Ends lines time is = refl

weight_later : (extra lines old new : ℕ) → new ≤ old → weight extra lines new ≤ weight extra lines old
weight_later extra zero old new less = omega arith
weight_later extra (suc lines) old new less = omega (arith, less)

off_later : (stand : Stand) (lines old new : ℕ) → new ≤ old → off_by stand lines new ≤ off_by stand lines old
off_later Takes lines old new less = weight_later 0 lines old new less
off_later Waits lines old new less = weight_later 1 lines old new less
off_later Ends lines old new less = omega arith

weight_falls : (extra lines old new : ℕ) → new < old → 0 < weight extra lines old
    → weight extra lines new < weight extra lines old
weight_falls extra zero old new less some = absurd (omega (arith, some))
weight_falls extra (suc lines) old new less some = omega (arith, less)

off_falls : (stand : Stand) (lines old new : ℕ) → new < old → 0 < off_by stand lines old
    → off_by stand lines new < off_by stand lines old
off_falls Takes lines old new less some = weight_falls 0 lines old new less some
off_falls Waits lines old new less some = weight_falls 1 lines old new less some
off_falls Ends lines old new less some = absurd (omega (arith, some))

weight_lighter : (lines time : ℕ) → weight 0 lines time ≤ weight 1 lines time
weight_lighter zero time = omega arith
weight_lighter (suc lines) time = omega arith

off_moved : (arrives : Bool) (stand : Stand) (lines time : ℕ)
    → off_by (moved arrives stand) lines time ≤ off_by stand lines time
off_moved true Takes lines time = omega arith
off_moved true Waits lines time = weight_lighter lines time
off_moved true Ends lines time = omega arith
off_moved false Takes lines time = omega arith
off_moved false Waits lines time = omega arith
off_moved false Ends lines time = omega arith

-- one line less
off_less : (stand : Stand) (lines rest time : ℕ) → rest ≡ lines - 1 → 0 < weight 0 lines time
    → off_by stand rest time < weight 0 lines time
off_less stand zero rest time is some = absurd (omega (arith, some))
off_less stand (suc lines) rest time is some =
    let few = off_few stand rest time in
    omega (arith, few, is)

off_no_more : (stand : Stand) (lines rest time : ℕ) → rest ≡ lines - 1
    → off_by stand rest time ≤ weight 0 lines time
off_no_more stand zero rest time is =
    let none = off_none stand rest time (omega (arith, is)) in
    omega (arith, none)
off_no_more stand (suc lines) rest time is =
    let few = off_few stand rest time in
    omega (arith, few, is)

-- ---- the thread whose turn decreases the measure

abbrev next_in : (sessions number : ℕ) → Stand → (is_closed : Bool) → ℕ
next_in sessions number Waits false = sessions
next_in sessions number stand is_closed = number

-- the session's own thread decreases it
abbrev IsOwn : Stand → (is_closed : Bool) → Type 0
IsOwn Waits false = ⊥
IsOwn stand is_closed = Unit {0}

pick : {A : Type 0} (P : A → Type 0) (is : Bool) (one other : A) → (is ≡ true → P one) → (is ≡ false → P other)
    → P (if is then one else other)
pick P true one other if_so if_not = if_so refl
pick P false one other if_so if_not = if_not refl

module _ (course : Course) (sessions number lines : ℕ) (within : number < sessions) where
  abbrev off : SessionState → (time : ℕ) → ℕ
  off it time = off_by it.stand (lines - it.answered) time

  abbrev left : ServedMatch → ℕ
  left served = off (served.session number) (turns_left served)

  abbrev next : ServedMatch → ℕ
  next served = next_in sessions number (served.session number).stand served.is_closed

  abbrev HasRead : ServedMatch → Type 0
  HasRead served = lines ≤ (served.session number).read

  abbrev turn : ServedMatch → (thread : ℕ) → ServedMatch
  turn = (threads_of course sessions).turn

  -- ---- a turn of the session

  own_less : (is_closed has : Bool) (outcome : Outcome) (brought : ℕ) (stand : Stand) (read answered time : ℕ)
      → IsOwn stand is_closed → lines ≤ read → nat_lt answered read ≡ has
      → 0 < off_by stand (lines - answered) time
      → off (own_by is_closed has outcome brought stand read answered) time < off_by stand (lines - answered) time
  own_less true true outcome brought Takes read answered time own has_read is some = some
  own_less false true outcome brought Takes read answered time own has_read is some =
      off_less (stand_by outcome) (lines - answered) (lines - (answered + 1)) time (omega arith) some
  own_less true false outcome brought Takes read answered time own has_read is some =
      let past = ltb-false answered read is in
      let none = weight_none 0 (lines - answered) time (omega (arith, past, has_read)) in
      absurd (omega (arith, none, some))
  own_less false false outcome brought Takes read answered time own has_read is some =
      let past = ltb-false answered read is in
      let none = weight_none 0 (lines - answered) time (omega (arith, past, has_read)) in
      absurd (omega (arith, none, some))
  own_less true true outcome brought Waits read answered time own has_read is some = some
  own_less true false outcome brought Waits read answered time own has_read is some = some
  own_less false has outcome brought Waits read answered time own has_read is some = absurd own
  own_less true true outcome brought Ends read answered time own has_read is some = absurd (omega (arith, some))
  own_less true false outcome brought Ends read answered time own has_read is some = absurd (omega (arith, some))
  own_less false true outcome brought Ends read answered time own has_read is some = absurd (omega (arith, some))
  own_less false false outcome brought Ends read answered time own has_read is some = absurd (omega (arith, some))

  own_no_more : (is_closed has : Bool) (outcome : Outcome) (brought : ℕ) (stand : Stand) (read answered time : ℕ)
      → off (own_by is_closed has outcome brought stand read answered) time ≤ off_by stand (lines - answered) time
  own_no_more true true outcome brought Takes read answered time = omega arith
  own_no_more false true outcome brought Takes read answered time =
      off_no_more (stand_by outcome) (lines - answered) (lines - (answered + 1)) time (omega arith)
  own_no_more true false outcome brought Takes read answered time = omega arith
  own_no_more false false outcome brought Takes read answered time = omega arith
  own_no_more true true outcome brought Waits read answered time = omega arith
  own_no_more true false outcome brought Waits read answered time = omega arith
  own_no_more false true outcome brought Waits read answered time = omega arith
  own_no_more false false outcome brought Waits read answered time = omega arith
  own_no_more true true outcome brought Ends read answered time = omega arith
  own_no_more true false outcome brought Ends read answered time = omega arith
  own_no_more false true outcome brought Ends read answered time = omega arith
  own_no_more false false outcome brought Ends read answered time = omega arith

  own_reads : (is_closed has : Bool) (outcome : Outcome) (brought : ℕ) (stand : Stand) (read answered : ℕ)
      → read ≤ (own_by is_closed has outcome brought stand read answered).read
  own_reads true true outcome brought Takes read answered = omega arith
  own_reads false true outcome brought Takes read answered = omega arith
  own_reads true false outcome brought Takes read answered = omega arith
  own_reads false false outcome brought Takes read answered = omega arith
  own_reads true true outcome brought Waits read answered = omega arith
  own_reads true false outcome brought Waits read answered = omega arith
  own_reads false true outcome brought Waits read answered = omega arith
  own_reads false false outcome brought Waits read answered = omega arith
  own_reads true true outcome brought Ends read answered = omega arith
  own_reads true false outcome brought Ends read answered = omega arith
  own_reads false true outcome brought Ends read answered = omega arith
  own_reads false false outcome brought Ends read answered = omega arith

  -- a session that waits in an open match goes on waiting
  own_waits : (is_closed has : Bool) (outcome : Outcome) (brought : ℕ) (stand : Stand) (read answered : ℕ)
      → IsOwn stand is_closed ⊎ ((own_by is_closed has outcome brought stand read answered).stand ≡ stand)
  own_waits true has outcome brought Takes read answered = inl tt
  own_waits false has outcome brought Takes read answered = inl tt
  own_waits true has outcome brought Waits read answered = inl tt
  own_waits false true outcome brought Waits read answered = inr refl
  own_waits false false outcome brought Waits read answered = inr refl
  own_waits true has outcome brought Ends read answered = inl tt
  own_waits false has outcome brought Ends read answered = inl tt

  -- ---- a turn of the match

  time_falls : (is_closed : Bool) (turns : ℕ) → time_of is_closed turns ≤ time_of is_closed (suc turns)
  time_falls true turns = omega arith
  time_falls false turns = omega arith

  match_no_more : (turns : ℕ) (served : ServedMatch) → left (match_turn course turns served)
      ≤ off (served.session number) (time_of served.is_closed turns)
  match_no_more zero served = off_later (served.session number).stand (lines - (served.session number).answered)
      (time_of served.is_closed 0) 0 (omega arith)
  match_no_more (suc turns) served =
      let it = served.session number in
      let one = off_moved (course.arrives served number) it.stand (lines - it.answered)
      (time_of served.is_closed turns) in
      let other = off_later it.stand (lines - it.answered) (time_of served.is_closed (suc turns))
      (time_of served.is_closed turns) (time_falls served.is_closed turns) in
      omega (arith, one, other)

  match_less : (turns : ℕ) (served : ServedMatch) → served.is_closed ≡ false
      → 0 < off (served.session number) (time_of served.is_closed turns)
      → left (match_turn course turns served) < off (served.session number) (time_of served.is_closed turns)
  match_less zero served is some =
      let time : time_of served.is_closed 0 ≡ 1 = ap (λ (closed : Bool). time_of closed 0) is in
      off_falls (served.session number).stand (lines - (served.session number).answered)
      (time_of served.is_closed 0) 0 (omega (arith, time)) some
  match_less (suc turns) served is some =
      let it = served.session number in
      let old : time_of served.is_closed (suc turns) ≡ suc turns + 1 =
      ap (λ (closed : Bool). time_of closed (suc turns)) is in
      let new : time_of served.is_closed turns ≡ turns + 1 = ap (λ (closed : Bool). time_of closed turns) is in
      let one = off_moved (course.arrives served number) it.stand (lines - it.answered)
      (time_of served.is_closed turns) in
      let other = off_falls it.stand (lines - it.answered) (time_of served.is_closed (suc turns))
      (time_of served.is_closed turns) (omega (arith, old, new)) some in
      omega (arith, one, other)

  match_reads : (turns : ℕ) (served : ServedMatch) → HasRead served → HasRead (match_turn course turns served)
  match_reads zero served has = has
  match_reads (suc turns) served has = has

  match_closed : (turns : ℕ) (served : ServedMatch) → served.is_closed ≡ true
      → (match_turn course turns served).is_closed ≡ true
  match_closed zero served is = refl
  match_closed (suc turns) served is = is

  next_closed : (stand : Stand) → next_in sessions number stand true ≡ number
  next_closed Takes = refl
  next_closed Waits = refl
  next_closed Ends = refl

  next_if_closed : (served : ServedMatch) → served.is_closed ≡ true → next served ≡ number
  next_if_closed served is =
      ap (λ (closed : Bool). next_in sessions number (served.session number).stand closed) is
      ∙ next_closed (served.session number).stand

  -- ---- any turn

  at_turn : (P : ServedMatch → Type 0) (served : ServedMatch) (thread : ℕ) → P (match_turn course served.turns served)
      → P (session_turn course thread served) → P (turn served thread)
  at_turn P served thread one other = pick P (thread == sessions) (match_turn course served.turns served)
      (session_turn course thread served) (λ is. one) (λ is. other)

  abbrev its : ServedMatch → SessionState
  its served = own_turn course served number (served.session number)

  at_session : (P : SessionState → Type 0) (served : ServedMatch) (thread : ℕ) → P (its served)
      → P (served.session number) → P ((session_turn course thread served).session number)
  at_session P served thread one other =
      pick P (number == thread) (its served) (served.session number) (λ is. one) (λ is. other)

  abbrev own_line : ServedMatch → Bool
  own_line served = nat_lt (served.session number).answered (served.session number).read

  its_no_more : (served : ServedMatch) → off (its served) (turns_left served) ≤ left served
  its_no_more served =
      let it = served.session number in
      own_no_more served.is_closed (own_line served) (course.outcome served number) (course.brings served number)
      it.stand it.read it.answered (turns_left served)

  its_less : (served : ServedMatch) → HasRead served → 0 < left served
      → IsOwn (served.session number).stand served.is_closed → off (its served) (turns_left served) < left served
  its_less served has some own =
      let it = served.session number in
      own_less served.is_closed (own_line served) (course.outcome served number) (course.brings served number)
      it.stand it.read it.answered (turns_left served) own has refl some

  never_off : (served : ServedMatch) (thread : ℕ) → HasRead served → left (turn served thread) ≤ left served
  never_off served thread has = at_turn (λ new. left new ≤ left served) served thread
      (match_no_more served.turns served)
      (at_session (λ it. off it (turns_left served) ≤ left served) served thread (its_no_more served) (omega arith))

  holds_on : (served : ServedMatch) (thread : ℕ) → HasRead served → HasRead (turn served thread)
  holds_on served thread has = at_turn HasRead served thread (match_reads served.turns served has)
      (at_session (λ it. lines ≤ it.read) served thread
      (let it = served.session number in
      let more = own_reads served.is_closed (own_line served) (course.outcome served number)
      (course.brings served number) it.stand it.read it.answered in
      omega (arith, has, more)) has)

  abbrev Goes : ServedMatch → ServedMatch → Type 0
  Goes served new = (left new < left served) ⊎ (next new ≡ next served)

  match_goes : (served : ServedMatch) (is_closed : Bool) → served.is_closed ≡ is_closed → 0 < left served
      → Goes served (match_turn course served.turns served)
  match_goes served true is some =
      inr (next_if_closed (match_turn course served.turns served) (match_closed served.turns served is)
      ∙ sym (next_if_closed served is))
  match_goes served false is some = inl (match_less served.turns served is some)

  its_goes : (served : ServedMatch) → HasRead served → 0 < left served
      → (off (its served) (turns_left served) < left served)
      ⊎ (next_in sessions number (its served).stand served.is_closed ≡ next served)
  its_goes served has some =
      let it = served.session number in
      elim (own_waits served.is_closed (own_line served) (course.outcome served number) (course.brings served number)
      it.stand it.read it.answered) [
        | inl own ↦ inl (its_less served has some own)
        | inr same ↦ inr (ap (λ (stand : Stand). next_in sessions number stand served.is_closed) same)
      ]

  stays_next : (served : ServedMatch) (thread : ℕ) → HasRead served → 0 < left served
      → Goes served (turn served thread)
  stays_next served thread has some = at_turn (Goes served) served thread
      (match_goes served served.is_closed refl some)
      (at_session (λ it. (off it (turns_left served) < left served)
      ⊎ (next_in sessions number it.stand served.is_closed ≡ next served)) served thread
      (its_goes served has some) (inr refl))

  abbrev Nears : ServedMatch → Type 0
  Nears served = left (turn served (next served)) < left served

  by_match : (served : ServedMatch) → served.is_closed ≡ false → 0 < left served
      → left (turn served sessions) < left served
  by_match served is some = pick (λ (new : ServedMatch). left new < left served) (sessions == sessions)
      (match_turn course served.turns served) (session_turn course sessions served)
      (λ so. match_less served.turns served is some)
      (λ differs. absurd (true≢false (sym (eq-eqb sessions sessions refl) ∙ differs)))

  by_own : (served : ServedMatch) → HasRead served → 0 < left served
      → IsOwn (served.session number).stand served.is_closed → left (turn served number) < left served
  by_own served has some own = pick (λ (new : ServedMatch). left new < left served) (number == sessions)
      (match_turn course served.turns served) (session_turn course number served)
      (λ so. let same = eqb-true number sessions so in absurd (omega (arith, same, within)))
      (λ differs. pick (λ (it : SessionState). off it (turns_left served) < left served) (number == number) (its served)
      (served.session number) (λ so. its_less served has some own)
      (λ other. absurd (true≢false (sym (eq-eqb number number refl) ∙ other))))

  own_at : (served : ServedMatch) {stand : Stand} {is_closed : Bool} → (served.session number).stand ≡ stand
      → served.is_closed ≡ is_closed → IsOwn stand is_closed → IsOwn (served.session number).stand served.is_closed
  own_at served {stand} {is_closed} stands closed own =
      subst (λ (it : Stand). IsOwn it served.is_closed) (sym stands)
      (subst (λ (it : Bool). IsOwn stand it) (sym closed) own)

  next_is : (stand : Stand) (is_closed : Bool) → next_in sessions number stand is_closed < sessions + 1
  next_is Waits false = omega arith
  next_is Waits true = omega (arith, within)
  next_is Takes is_closed = omega (arith, within)
  next_is Ends is_closed = omega (arith, within)

  nearer_at : (served : ServedMatch) → HasRead served → 0 < left served → (stand : Stand) (is_closed : Bool)
      → (served.session number).stand ≡ stand → served.is_closed ≡ is_closed
      → left (turn served (next_in sessions number stand is_closed)) < left served
  nearer_at served has some Waits false stands closed = by_match served closed some
  nearer_at served has some Takes true stands closed = by_own served has some (own_at served stands closed tt)
  nearer_at served has some Takes false stands closed = by_own served has some (own_at served stands closed tt)
  nearer_at served has some Waits true stands closed = by_own served has some (own_at served stands closed tt)
  nearer_at served has some Ends true stands closed = by_own served has some (own_at served stands closed tt)
  nearer_at served has some Ends false stands closed = by_own served has some (own_at served stands closed tt)

  comes : ComesNearer (threads_of course sessions) HasRead left next
  comes = record {
    is_thread = λ served. next_is (served.session number).stand served.is_closed;
    holds_on = holds_on;
    nearer = λ served has some. nearer_at served has some (served.session number).stand served.is_closed refl refl;
    never_off = never_off;
    stays_next = stays_next;
  }

  -- measure 0 means that the lines are answered or the session has ended
  answered : (stand : Stand) (rest time : ℕ) → off_by stand rest time ≡ 0 → (stand ≡ Ends) ⊎ (rest ≡ 0)
  answered Takes zero time is = inr refl
  answered Takes (suc rest) time is = absurd (omega (arith, is))
  answered Waits zero time is = inr refl
  answered Waits (suc rest) time is = absurd (omega (arith, is))
  answered Ends rest time is = inl refl

  has_answered : (served : ServedMatch) → left served ≡ 0 → HasAnswered lines (served.session number)
  has_answered served is = elim (answered (served.session number).stand
      (lines - (served.session number).answered) (turns_left served) is) [
        | inl ends ↦ inl ends
        | inr none ↦ inr (omega (arith, none))
      ]

pub each_line_is_answered : EachLineIsAnswered
each_line_is_answered course sessions number lines rounds served schedule within has are few =
    let it = served.session number in
    let most = off_few it.stand (lines - it.answered) (turns_left served) in
    has_answered course sessions number lines within (after (threads_of course sessions) served schedule)
    (come (threads_of course sessions) (HasRead course sessions number lines within)
    (left course sessions number lines within) (next course sessions number lines within)
    (comes course sessions number lines within) served rounds schedule has are (omega (arith, most, few)))
