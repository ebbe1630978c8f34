-- The composition of steps of a session.
use Rattle.std.proofs.Common.{◌≡◌, ℕ, ◌<◌, Bool, true, false, List, [], ◌∷◌, ◌++◌, length, Ok, Err, IfErr, sym, ap}
use Rattle.std.proofs.Common.{subst, append_assoc, append-nil, arith, length-append}
use Rattle.std.specs.declared.result.Result.{Result}
use Rattle.bhs_stream.specs.Streams.{WriteAnswer}
use Rattle.bhs_model.specs.declared.replies.Reply.{Reply}
use Rattle.bhs_wire.specs.Lines.{Line}
use Rattle.bhs_session.specs.declared.endings.Ended.{Ended}
use Rattle.bhs_session.specs.declared.endings.Stop.{Stop}
use Rattle.bhs_session.specs.declared.endings.Stop.TheVariants as stops
use Rattle.bhs_session.specs.Port.{PortRequest, PortAnswer}
use Rattle.bhs_session.specs.Phase.{Phase, Ready, Owes, answered_by, waiting, reached, phase_of, stopped, between}
use Rattle.bhs_session.specs.Texts.{text_of}
use Rattle.bhs_session.specs.Session.{Point, SessionStep, Talk, begins, goes_on, sends, TakesLines, IsNext}
use Rattle.bhs_session.specs.Moves.{Moves, Ends, StopsAtLines, IsCauseOfLines}
use Rattle.bhs_session.proofs.Writing.{Wrote, waiting-false}

pub Talk-trans : {O P : Type 0} {takes : O → List ℕ → WriteAnswer → O → Type 0} {calls : P → PortRequest → PortAnswer
    → P → Type 0}
    {p q r : Point O P} → Talk takes calls p q → Talk takes calls q r → Talk takes calls p r
Talk-trans a begins = a
Talk-trans a (goes_on q r b step) = goes_on q r (Talk-trans a b) step

pub Talk-step : {O P : Type 0} {takes : O → List ℕ → WriteAnswer → O → Type 0} {calls : P → PortRequest → PortAnswer → P
    → Type 0}
    {p q : Point O P} → SessionStep takes calls p q → Talk takes calls p q
Talk-step {p = p} {q = q} step = goes_on p q begins step

module _ {O P : Type 0} (takes : O → List ℕ → WriteAnswer → O → Type 0) (calls : P → PortRequest → PortAnswer → P
    → Type 0)
    (p : Point O P) where
  -- a step that writes nothing
  pub Moves-step : (port : P) (taken : List Line) (phase : Phase)
      → SessionStep takes calls p (record p { port = port; taken = taken; phase = phase })
      → Moves takes calls p p.output port taken phase
  Moves-step port taken phase step = record {
    more = [];
    talk = subst (λ (w : List ℕ). Talk takes calls p
        (record p { port = port; taken = taken; written = w; phase = phase })) (sym (append-nil p.written))
        (Talk-step step);
  }

  -- no step
  pub Moves-none : Moves takes calls p p.output p.port p.taken p.phase
  Moves-none = record {
    more = [];
    talk = subst (λ (w : List ℕ). Talk takes calls p (record p { written = w })) (sym (append-nil p.written)) begins;
  }

  pub Moves-wrote : (b : O) (next : Phase) → Wrote takes p.output b p.phase next
      → Moves takes calls p b p.port p.taken next
  Moves-wrote b next wrote = record { more = wrote.0; talk = Talk-step (sends p wrote.0 b next wrote.1) }

  pub Moves-trans : (b c : O) (port1 port2 : P) (taken1 taken2 : List Line) (phase1 phase2 : Phase)
      (first : Moves takes calls p b port1 taken1 phase1)
      → Moves takes calls (record p {
        output = b;
        port = port1;
        taken = taken1;
        written = p.written
            ++ first.more;
        phase = phase1;
      }) c port2 taken2 phase2
      → Moves takes calls p c port2 taken2 phase2
  Moves-trans b c port1 port2 taken1 taken2 phase1 phase2 first second = record {
    more = first.more ++ second.more;
    talk = subst (λ (w : List ℕ). Talk takes calls p
        (record p { output = c; port = port2; taken = taken2; written = w; phase = phase2 }))
        (append_assoc p.written first.more second.more) (Talk-trans first.talk second.talk);
  }

  pub Ends-trans : {T : Type 0} (b c : O) (port1 port2 : P) (taken1 taken2 : List Line) (phase1 : Phase)
      (next : T → Phase) (result : Result T Stop)
      (first : Moves takes calls p b port1 taken1 phase1)
      → Ends takes calls (record p {
        output = b;
        port = port1;
        taken = taken1;
        written = p.written
            ++ first.more;
        phase = phase1;
      }) c port2 taken2 next result
      → Ends takes calls p c port2 taken2 next result
  Ends-trans b c port1 port2 taken1 taken2 phase1 next (Ok answer) first second =
      Moves-trans b c port1 port2 taken1 taken2 phase1 (next answer) first second
  Ends-trans b c port1 port2 taken1 taken2 phase1 next (Err stop) first second =
      (second.0, (second.1.0, Moves-trans b c port1 port2 taken1 second.1.0 phase1 (phase_of stop) first second.1.1))

-- The line of an answer, arrivals excepted.
module _ {O P T : Type 0} (takes : O → List ℕ → WriteAnswer → O → Type 0) (calls : P → PortRequest → PortAnswer → P
    → Type 0) (b : O)
    (p : Point O P) (reply : Reply) where
  pub Ends-news : (result : Result T Stop) → p.phase ≡ Owes (text_of reply) (answered_by false reply)
      → Wrote takes p.output b (Owes (text_of reply) (answered_by false reply)) (reached (waiting false reply) result)
      → IfErr result StopsAtLines
      → Ends takes calls p b p.port p.taken (λ _. Ready) result
  Ends-news (Ok done) owes wrote cause =
      Moves-wrote takes calls p b Ready (subst (λ (phase : Phase). Wrote takes p.output b phase Ready) (sym owes)
      (subst (λ (phase : Phase). Wrote takes p.output b (Owes (text_of reply) (answered_by false reply)) phase)
      (waiting-false reply) wrote))
  Ends-news (Err stop) owes wrote cause = (
    cause,
    (
      p.taken,
      Moves-wrote takes calls p b (phase_of stop)
          (subst (λ (phase : Phase). Wrote takes p.output b phase (phase_of stop)) (sym owes) wrote),
    ),
  )

-- a step that writes nothing, and then what is written
module _ {O P T : Type 0} (takes : O → List ℕ → WriteAnswer → O → Type 0) (calls : P → PortRequest → PortAnswer → P
    → Type 0) (b : O)
    (p : Point O P) (port : P) (taken : List Line) (phase : Phase)
    (step : SessionStep takes calls p (record p { port = port; taken = taken; phase = phase })) where
  pub Ends-step : (next : T → Phase) (port2 : P) (taken2 : List Line) (result : Result T Stop)
      → ((written : List ℕ) → Ends takes calls
      (record p { port = port; taken = taken; written = written; phase = phase }) b port2 taken2 next result)
      → Ends takes calls p b port2 taken2 next result
  Ends-step next port2 taken2 result second =
      let first : Moves takes calls p p.output port taken phase = Moves-step takes calls p port taken phase step in
      Ends-trans takes calls p p.output b port port2 taken taken2 phase next result first
      (second (p.written ++ first.more))

-- the same, where the text is the last thing that is written
module _ {O P : Type 0} (takes : O → List ℕ → WriteAnswer → O → Type 0) (calls : P → PortRequest → PortAnswer → P
    → Type 0) (b : O)
    (p : Point O P) (port : P) (taken : List Line) (phase : Phase)
    (step : SessionStep takes calls p (record p { port = port; taken = taken; phase = phase })) where
  pub Stops-step : (stop : Stop) → Wrote takes p.output b phase (phase_of stop)
      → Moves takes calls p b port taken (phase_of stop)
  Stops-step stop wrote =
      let first : Moves takes calls p p.output port taken phase = Moves-step takes calls p port taken phase step in
      Moves-trans takes calls p p.output b port port taken taken phase (phase_of stop) first
      (Moves-wrote takes calls (record p {
        port = port;
        taken = taken;
        written = p.written ++ first.more;
        phase = phase;
      }) b (phase_of stop) wrote)

-- ---- where a session takes lines

pub TakesLines-between : (has_entered : Bool) → TakesLines (between has_entered)
TakesLines-between true = tt
TakesLines-between false = tt

-- Bytes that contain a line are not empty.
pub IsNext-some : (read : List ℕ) (taken : List Line) (line : Line) → IsNext read taken line → 0 < length read
IsNext-some [] taken line next = absurd (let none = ap length next.1 in
    omega (arith, none, length-append taken (line ∷ next.0)))
IsNext-some (byte ∷ read) taken line next = omega arith

-- the cause of a stop at a line
pub StopsAtLines-of : (stop : Stop) (has_entered : Bool) (cause : Ended) → phase_of stop ≡ stopped (between has_entered)
    cause → IsCauseOfLines cause → StopsAtLines stop
StopsAtLines-of (stops.Finished ended) true cause is h = absurd (cc)
StopsAtLines-of (stops.Finished ended) false cause is h = let same : ended ≡ cause = cc in
    subst IsCauseOfLines (sym same) h
StopsAtLines-of (stops.Leaves ended) true cause is h = let same : ended ≡ cause = cc in
    subst IsCauseOfLines (sym same) h
StopsAtLines-of (stops.Leaves ended) false cause is h = absurd (cc)
