-- Laws of whole sessions, each by one step and then an induction.
use Rattle.std.proofs.Common.{◌≡◌, ◌∙◌, ℕ, List, [], ◌∷◌, ◌++◌, length, refl, sym, ap, subst, append_assoc, arith, inl}
use Rattle.std.proofs.Common.{inr, ◌⊎◌}
use Rattle.bhs_wire.specs.Lines.{Line, lines, found_in, held_of}
use Rattle.bhs_wire.proofs.StreamLaws.{lines-append}
use Rattle.bhs_stream.specs.Streams.{Chunk, Bytes, End, Fails, WriteAnswer}
use Rattle.bhs_session.specs.declared.endings.Ended.{Ended}
use Rattle.bhs_session.specs.declared.endings.Ended.TheVariants as endings
use Rattle.bhs_session.specs.Port.{PortRequest, PortAnswer}
use Rattle.bhs_session.specs.Phase.{Phase, Fresh, Finished, Sends, stopped}
use Rattle.bhs_session.specs.Session.{Point, SessionStep, Session, opens, reads, steps, asks, denies, awaits, sends}
use Rattle.bhs_session.specs.Session.{lacks}
use Rattle.bhs_session.specs.Session.{tires, leaves, fresh, IsNext, TakesLines, after_read}
use Rattle.bhs_session.proofs.Moving.{IsNext-some}

-- ---- lines are taken in order

abbrev pub InOrder : {O P : Type 0} → Point O P → Type 0
InOrder p = (left : List Line) × (lines p.read ≡ p.taken ++ left)

-- the next line was taken
InOrder-next : (read : List ℕ) (taken : List Line) (line : Line) → IsNext read taken line → (left : List Line)
    × (lines read ≡ (taken ++ line ∷ []) ++ left)
InOrder-next read taken line next = (next.0, next.1 ∙ sym (append_assoc taken (line ∷ []) next.0))

InOrder-step : {O P : Type 0} {takes : O → List ℕ → WriteAnswer → O → Type 0} {calls : P → PortRequest → PortAnswer → P
    → Type 0}
    {p q : Point O P} → SessionStep takes calls p q → InOrder p → InOrder q
InOrder-step (asks p line asked heard port says next called) h = InOrder-next p.read p.taken line next
InOrder-step (denies p line denial says next) h = InOrder-next p.read p.taken line next
InOrder-step (awaits p heard port at called) h = h
InOrder-step (sends p bytes output next sent) h = h
InOrder-step (lacks p takes some) h = h
InOrder-step (tires p takes all none) h = h
InOrder-step (leaves p ended heard port at called) h = h

InOrder-read : {O P : Type 0} (p : Point O P) (chunk : Chunk) → p.taken ≡ lines p.read → InOrder p
    → InOrder (after_read chunk p)
InOrder-read p (Bytes piece) all h = (
  found_in (held_of p.read) piece,
  lines-append p.read piece
      ∙ ap (λ (xs : List Line). xs ++ found_in (held_of p.read) piece) (sym all),
)
InOrder-read p End all h = h
InOrder-read p Fails all h = h

pub InOrder-session : {I O P : Type 0} {gives : I → Chunk → I → Type 0} {takes : O → List ℕ → WriteAnswer → O → Type 0}
    {calls : P → PortRequest → PortAnswer → P → Type 0} {from : I} {start : Point O P} {input : I} {q : Point O P}
    → Session gives takes calls from start input q → InOrder start → InOrder q
InOrder-session opens h = h
InOrder-session (reads input next p chunk session takes all more is_chunk given) h =
    InOrder-read p chunk all (InOrder-session session h)
InOrder-session (steps input p q session step) h = InOrder-step step (InOrder-session session h)

-- ---- without a turn

-- nothing was done, and nothing can be done but to end
record Idle {I O P : Type 0} (from : I) (out : O) (start : P) (here : I) (p : Point O P) : Type 0 where
  input : here ≡ from
  output : p.output ≡ out
  port : p.port ≡ start
  turns : p.turns ≡ 0
  read : p.read ≡ []
  written : p.written ≡ []
  phase : (p.phase ≡ Fresh) ⊎ (p.phase ≡ Finished endings.Turns)

no_line : (read : List ℕ) (taken : List Line) (line : Line) → read ≡ [] → IsNext read taken line → ⊥
no_line read taken line empty next = let none = ap length empty in let some = IsNext-some read taken line next in
    omega (arith, none, some)

owes_no_text : {O : Type 0} {takes : O → List ℕ → WriteAnswer → O
    → Type 0} (a b : O) (phase next : Phase) (bytes : List ℕ)
    → (phase ≡ Fresh) ⊎ (phase ≡ Finished endings.Turns) → Sends takes a phase bytes b next → ⊥
owes_no_text {takes = takes} a b phase next bytes (inl e) sent =
    elim (subst (λ (q : Phase). Sends takes a q bytes b next) e sent) [ ]
owes_no_text {takes = takes} a b phase next bytes (inr e) sent =
    elim (subst (λ (q : Phase). Sends takes a q bytes b next) e sent) [ ]

ends_by_turns : (phase : Phase) (cause : Ended) → (phase ≡ Fresh) ⊎ (phase ≡ Finished endings.Turns) → TakesLines phase
    → cause ≡ endings.Turns → stopped phase cause ≡ Finished endings.Turns
ends_by_turns phase cause (inl e) takes is = ap (λ (q : Phase). stopped q cause) e ∙ ap Finished is
ends_by_turns phase cause (inr e) takes is = absurd (subst TakesLines e takes)

Idle-step : {I O P : Type 0} {takes : O → List ℕ → WriteAnswer → O → Type 0} {calls : P → PortRequest → PortAnswer → P
    → Type 0}
    {from input : I} {output : O} {start : P} {p q : Point O P} → SessionStep takes calls p q
    → Idle from output start input p
    → Idle from output start input q
Idle-step (asks p line asked heard port says next called) h = absurd (no_line p.read p.taken line h.read next)
Idle-step (denies p line denial says next) h = absurd (no_line p.read p.taken line h.read next)
Idle-step (awaits p heard port at called) h = elim h.phase [ inl e ↦ absurd (cc) | inr e ↦ absurd (cc) ]
Idle-step (sends p bytes output next sent) h = absurd (owes_no_text p.output output p.phase next bytes h.phase sent)
Idle-step (lacks p takes some) h = absurd (let long = ap length h.read in omega (arith, long, some))
Idle-step (tires p takes all none) h =
    record {
      input = h.input;
      output = h.output;
      port = h.port;
      turns = h.turns;
      read = h.read;
      written = h.written;
      phase = inr (ends_by_turns p.phase endings.Turns h.phase takes refl);
    }
Idle-step (leaves p ended heard port at called) h = elim h.phase [ inl e ↦ absurd (cc) | inr e ↦ absurd (cc) ]

Idle-session : {I O P : Type 0} {gives : I → Chunk → I → Type 0} {takes : O → List ℕ → WriteAnswer → O → Type 0}
    {calls : P → PortRequest → PortAnswer → P → Type 0} {from : I} {output : O} {start : P} {s : Point O P}
    {input : I} {q : Point O P}
    → Session gives takes calls from s input q → Idle from output start from s → Idle from output start input q
Idle-session opens h = h
Idle-session (reads input next p chunk session takes all more is_chunk given) h =
    absurd (let none = (Idle-session session h).turns in omega (arith, none, more))
Idle-session (steps input p q session step) h = Idle-step step (Idle-session session h)

turns_alone : (phase : Phase) (ended : Ended) → (phase ≡ Fresh) ⊎ (phase ≡ Finished endings.Turns)
    → phase ≡ Finished ended → ended ≡ endings.Turns
turns_alone phase ended (inl e) is = absurd (cc)
turns_alone phase ended (inr e) is = cc

pub no_turns_lem : {I O P : Type 0} (gives : I → Chunk → I → Type 0) (takes : O → List ℕ → WriteAnswer → O → Type 0)
    (calls : P → PortRequest → PortAnswer → P
    → Type 0) (from input : I) (output : O) (start : P) (p : Point O P) (ended : Ended)
    → Session gives takes calls from (fresh output start 0) input p → p.phase ≡ Finished ended
    → (ended ≡ endings.Turns) × (input ≡ from) × (p.output ≡ output) × (p.port ≡ start)
    × (p.written ≡ []) × (p.read ≡ [])
no_turns_lem gives takes calls from input output start p ended session is =
    let idle : Idle from output start input p =
    Idle-session session (record {
      input = refl;
      output = refl;
      port = refl;
      turns = refl;
      read = refl;
      written = refl;
      phase = inl refl;
    }) in
    (turns_alone p.phase ended idle.phase is, idle.input, idle.output, idle.port, idle.written, idle.read)
