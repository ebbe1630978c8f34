-- A session, step by step.
use Rattle.std.specs.Prelude.{◌≡◌, ℕ, ◌-◌, ◌<◌, List, [], ◌∷◌, ◌++◌, length}
use Rattle.bhs_stream.specs.Streams.{Chunk, Bytes, End, Fails, WriteAnswer}
use Rattle.bhs_stream.specs.Reading.{IsPiece}
use Rattle.bhs_model.specs.declared.commands.Command.TheVariants as commands
use Rattle.bhs_wire.specs.declared.denials.Denial.{Denial}
use Rattle.bhs_wire.specs.Lines.{Line, lines, said_by}
use Rattle.bhs_session.specs.declared.endings.Ended.{Ended}
use Rattle.bhs_session.specs.declared.endings.Ended.TheVariants as endings
use Rattle.bhs_session.specs.Port.{PortRequest, Tells, News, PortAnswer}
use Rattle.bhs_session.specs.Phase.{Phase, Fresh, Ready, Awaits, Owes, Leaves, Finished, denied, stopped, Sends}
use Rattle.bhs_session.specs.Machine.{Asks, Denies, ask, hear}

-- how far a session has come
pub record Point (O P : Type 0) : Type 0 where
  pub output : O
  pub port : P
  -- how many reads are left to it
  pub turns : ℕ
  -- the bytes that were read
  pub read : List ℕ
  -- the lines that were taken
  pub taken : List Line
  -- the bytes that were written
  pub written : List ℕ
  pub phase : Phase

-- where lines are taken
abbrev pub TakesLines : Phase → Type 0
TakesLines Fresh = Unit {0}
TakesLines Ready = Unit {0}
TakesLines Awaits = ⊥
TakesLines (Owes text next) = ⊥
TakesLines (Leaves ended) = ⊥
TakesLines (Finished ended) = ⊥

-- the next whole line of what was read
abbrev pub IsNext : List ℕ → List Line → Line → Type 0
IsNext read taken line = (more : List Line) × (lines read ≡ taken ++ line ∷ more)

-- where a session that takes lines has come by a read that brought this
abbrev pub after_read : {O P : Type 0} → Chunk → Point O P → Point O P
after_read (Bytes piece) p = record p { turns = p.turns - 1; read = p.read ++ piece }
after_read End p = record p { turns = p.turns - 1; phase = stopped p.phase endings.InputEnded }
after_read Fails p = record p { turns = p.turns - 1; phase = stopped p.phase endings.ReadFault }

-- what one read brings
abbrev pub IsChunk : Chunk → Type 0
IsChunk (Bytes piece) = IsPiece piece
IsChunk End = Unit {0}
IsChunk Fails = Unit {0}

-- The steps of a session that reads nothing, on an output and a port that may answer so.
pub data SessionStep {O P : Type 0} (takes : O → List ℕ → WriteAnswer → O → Type 0)
    (calls : P → PortRequest → PortAnswer → P → Type 0) : Point O P → Point O P → Type 0 where
  -- the next line asks something of the port
  asks : (p : Point O P) (line : Line) (asked : PortRequest) (heard : PortAnswer) (port : P) →
      ask p.phase (said_by line) ≡ Asks asked → IsNext p.read p.taken line
      → calls p.port asked heard port
      → SessionStep takes calls p (record p { port = port; taken = p.taken ++ line ∷ []; phase = hear p.phase heard })
  -- or the client is denied
  denies : (p : Point O P) (line : Line) (denial : Denial) → ask p.phase (said_by line) ≡ Denies denial →
      IsNext p.read p.taken line
      → SessionStep takes calls p (record p { taken = p.taken ++ line ∷ []; phase = denied denial })
  -- the port is asked for news
  awaits : (p : Point O P) (heard : PortAnswer) (port : P) → p.phase ≡ Awaits → calls p.port News heard port
      → SessionStep takes calls p (record p { port = port; phase = hear p.phase heard })
  -- what is owed is written
  sends : (p : Point O P) (bytes : List ℕ) (output : O) (next : Phase) → Sends takes p.output p.phase bytes output next
      → SessionStep takes calls p (record p { output = output; written = p.written ++ bytes; phase = next })
  -- Memory ran out for the bytes that were read.
  lacks : (p : Point O P) → TakesLines p.phase → 0 < length p.read
      → SessionStep takes calls p (record p { phase = stopped p.phase endings.Memory })
  -- no turn is left
  tires : (p : Point O P) → TakesLines p.phase → p.taken ≡ lines p.read → p.turns ≡ 0
      → SessionStep takes calls p (record p { phase = stopped p.phase endings.Turns })
  -- its agent leaves, and what is answered is not written
  leaves : (p : Point O P) (ended : Ended) (heard : PortAnswer) (port : P) → p.phase ≡ Leaves ended →
      calls p.port (Tells commands.Leave) heard port
      → SessionStep takes calls p (record p { port = port; phase = Finished ended })

-- the second point is reached from the first, by steps that read nothing
pub data Talk {O P : Type 0} (takes : O → List ℕ → WriteAnswer → O → Type 0) (calls : P → PortRequest → PortAnswer → P
    → Type 0)
    (start : Point O P) : Point O P → Type 0 where
  begins : Talk takes calls start start
  goes_on : (p q : Point O P) → Talk takes calls start p → SessionStep takes calls p q → Talk takes calls start q

-- an input and a point are reached from others, by reads and steps; more is read where every whole line was taken
-- and a turn is left
pub data Session {I O P : Type 0} (gives : I → Chunk → I → Type 0) (takes : O → List ℕ → WriteAnswer → O → Type 0)
    (calls : P → PortRequest → PortAnswer → P → Type 0) (from : I) (start : Point O P) : I → Point O P → Type 0 where
  opens : Session gives takes calls from start from start
  reads : (input next : I) (p : Point O P) (chunk : Chunk) → Session gives takes calls from start input p
      → TakesLines p.phase → p.taken ≡ lines p.read → 0 < p.turns → IsChunk chunk → gives input chunk next
      → Session gives takes calls from start next (after_read chunk p)
  steps : (input : I) (p q : Point O P) → Session gives takes calls from start input p → SessionStep takes calls p q →
      Session gives takes calls from start input q

-- a session before its first step
abbrev pub fresh : {O P : Type 0} → O → P → (turns : ℕ) → Point O P
fresh output port turns =
    record { output = output; port = port; turns = turns; read = []; taken = []; written = []; phase = Fresh }

-- What a session makes of an input, an output and a port that it is lent: by reads and steps it came from its start to
-- this phase.
pub record Serves {I O P : Type 0} (gives : I → Chunk → I → Type 0) (takes : O → List ℕ → WriteAnswer → O → Type 0)
    (calls : P → PortRequest → PortAnswer → P → Type 0)
    (input_old input_new : I) (output_old output_new : O) (port_old port_new : P) (turns : ℕ)
    (phase : Phase) : Type 0 where
  pub left : ℕ
  pub read : List ℕ
  pub taken : List Line
  pub written : List ℕ
  pub session : Session gives takes calls input_old (fresh output_old port_old turns) input_new
      (record {
        output = output_new;
        port = port_new;
        turns = left;
        read = read;
        taken = taken;
        written = written;
        phase = phase;
      })
