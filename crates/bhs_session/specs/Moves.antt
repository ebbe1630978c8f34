-- What one part of the code adds to a session. Only contracts of private functions cite it.
use Rattle.std.specs.Prelude.{ℕ, List, ◌++◌, MatchResult}
use Rattle.std.specs.declared.result.Result.{Result}
use Rattle.bhs_stream.specs.Streams.{WriteAnswer}
use Rattle.bhs_wire.specs.Lines.{Line}
use Rattle.bhs_session.specs.declared.endings.Ended.{Ended}
use Rattle.bhs_session.specs.declared.endings.Ended.TheVariants.{InputEnded, ReadFault, Turns}
use Rattle.bhs_session.specs.declared.endings.Stop.{Stop}
use Rattle.bhs_session.specs.declared.endings.Stop.TheVariants as stops
use Rattle.bhs_session.specs.Port.{PortRequest, PortAnswer}
use Rattle.bhs_session.specs.Phase.{Phase, phase_of}
use Rattle.bhs_session.specs.Session.{Point, Talk}

-- From this point the session comes to this output and port, these lines taken and this phase.
pub record Moves {O P : Type 0} (takes : O → List ℕ → WriteAnswer → O → Type 0) (calls : P → PortRequest → PortAnswer
    → P → Type 0)
    (p : Point O P) (output : O) (port : P) (taken : List Line) (phase : Phase) : Type 0 where
  pub more : List ℕ
  pub talk : Talk takes calls p (record p {
    output = output;
    port = port;
    taken = taken;
    written = p.written ++ more;
    phase = phase;
  })

-- no reader and no turns are its cause
abbrev pub IsCauseOfLines : Ended → Type 0
IsCauseOfLines InputEnded = ⊥
IsCauseOfLines ReadFault = ⊥
IsCauseOfLines Turns = ⊥
IsCauseOfLines cause = Unit {0}

abbrev pub StopsAtLines : Stop → Type 0
StopsAtLines (stops.Finished cause) = IsCauseOfLines cause
StopsAtLines (stops.Leaves cause) = IsCauseOfLines cause

-- the same, of a call that takes these lines and leads to the phase that its answer says, or stops at some line
abbrev pub Ends : {O P T : Type 0} → (O → List ℕ → WriteAnswer → O → Type 0) → (P → PortRequest → PortAnswer → P
    → Type 0) →
    Point O P → O → P → List Line → (T → Phase) → Result T Stop → Type 0
Ends takes calls p output port taken next result =
    MatchResult result (λ answer. Moves takes calls p output port taken (next answer))
    (λ stop. StopsAtLines stop × ((some : List Line) × Moves takes calls p output port some (phase_of stop)))
