-- A whole session, read by read.
use Rattle.std.proofs.Common.{◌≡◌, ℕ, ◌-◌, ◌<◌, Bool, List, ◌++◌, refl, arith, length-append}
use Rattle.bhs_stream.specs.Streams.{Chunk, Bytes, End, Fails, WriteAnswer}
use Rattle.bhs_stream.specs.Reading.{IsPiece}
use Rattle.bhs_model.specs.declared.commands.Command.TheVariants as commands
use Rattle.bhs_wire.specs.Lines.{Line, lines}
use Rattle.bhs_session.specs.declared.endings.Ended.{Ended}
use Rattle.bhs_session.specs.declared.endings.Ended.TheVariants as endings
use Rattle.bhs_session.specs.Port.{PortRequest, Tells, PortAnswer}
use Rattle.bhs_session.specs.Phase.{Phase, Leaves, Finished, between, stopped}
use Rattle.bhs_session.specs.Session.{Point, Session, Talk, Serves, begins, goes_on, reads, steps, lacks, tires, leaves}
use Rattle.bhs_session.specs.Session.{fresh, IsChunk, after_read}
use Rattle.bhs_session.specs.Moves.{Moves}
use Rattle.bhs_session.specs.Input.{BringsNone}
use Rattle.bhs_session.proofs.Moving.{TakesLines-between}

-- a session that takes its next line, all lines of what was read being taken
abbrev pub waits : {O P : Type 0} → O → P → ℕ → List ℕ → List ℕ → Bool → Point O P
waits output port left read written has_entered =
    record {
      output = output;
      port = port;
      turns = left;
      read = read;
      taken = lines read;
      written = written;
      phase = between has_entered;
    }

pub Session-talks : {I O P : Type 0} (gives : I → Chunk → I → Type 0) (takes : O → List ℕ → WriteAnswer → O → Type 0)
    (calls : P → PortRequest → PortAnswer → P → Type 0) (from input : I) (start p q : Point O P)
    → Session gives takes calls from start input p → Talk takes calls p q → Session gives takes calls from start input q
Session-talks gives takes calls from input start p q session begins = session
Session-talks gives takes calls from input start p q session (goes_on r s talk step) =
    steps input r s (Session-talks gives takes calls from input start p r session talk) step

module _ {I O P : Type 0} (gives : I → Chunk → I → Type 0) (takes : O → List ℕ → WriteAnswer → O → Type 0)
    (calls : P → PortRequest → PortAnswer → P
    → Type 0) (from input next : I) (old output : O) (first port : P) (turns left : ℕ)
    (read written : List ℕ) (has_entered : Bool)
    (session : Session gives takes calls from (fresh old first turns) input
    (waits output port left read written has_entered)) where
  -- one more chunk was read
  pub Session-reads : (chunk : Chunk) → 0 < left → IsChunk chunk → gives input chunk next
      → Session gives takes calls from (fresh old first turns) next
      (after_read chunk (waits output port left read written has_entered))
  Session-reads chunk more is_chunk given =
      reads input next (waits output port left read written has_entered) chunk session (TakesLines-between has_entered)
      refl more is_chunk given

  -- the reader brings no more lines
  pub Serves-brings_none : (cause : Ended) → 0 < left → BringsNone gives input next cause
      → Serves gives takes calls from next old output first port turns (stopped (between has_entered) cause)
  Serves-brings_none endings.InputEnded more none =
      record {
        left = left - 1;
        read = read;
        taken = lines read;
        written = written;
        session = Session-reads
            End more tt none;
      }
  Serves-brings_none endings.ReadFault more none =
      record {
        left = left - 1;
        read = read;
        taken = lines read;
        written = written;
        session = Session-reads
            Fails more tt none;
      }
  Serves-brings_none endings.Memory more (piece, is_piece, given) =
      record {
        left = left - 1;
        read = read ++ piece;
        taken = lines read;
        written = written;
        session = steps next _ _ (Session-reads (Bytes piece) more is_piece given)
            (lacks (record {
              output = output;
              port = port;
              turns = left - 1;
              read = read ++ piece;
              taken = lines read;
              written = written;
              phase = between has_entered;
            })
            (TakesLines-between has_entered) (let some = is_piece.0 in omega (arith, length-append read piece)));
      }
  Serves-brings_none endings.Bye more none = absurd none
  Serves-brings_none endings.Noted more none = absurd none
  Serves-brings_none endings.Over more none = absurd none
  Serves-brings_none endings.Denied more none = absurd none
  Serves-brings_none endings.WriteFault more none = absurd none
  Serves-brings_none endings.Turns more none = absurd none

  -- no turn is left
  pub Serves-turns : left ≡ 0 → Serves gives takes calls from input old output first port turns
      (stopped (between has_entered) endings.Turns)
  Serves-turns none =
      record {
        left = left;
        read = read;
        taken = lines read;
        written = written;
        session = steps input _ _ session (tires (waits output port left read written has_entered)
            (TakesLines-between has_entered) refl none);
      }

  -- a piece was read, and the lines that it brings were taken, up to this phase
  pub Session-moves : (piece : List ℕ) → 0 < left → IsPiece piece → gives input (Bytes piece) next
      → (output2 : O) (port2 : P) (taken : List Line) (phase : Phase)
      → Moves takes calls (record {
        output = output;
        port = port;
        turns = left - 1;
        read = read ++ piece;
        taken = lines
            read;
        written = written;
        phase = between has_entered;
      }) output2 port2 taken phase
      → (more : List ℕ) × Session gives takes calls from (fresh old first turns) next
      (record {
        output = output2;
        port = port2;
        turns = left - 1;
        read = read ++ piece;
        taken = taken;
        written = more;
        phase = phase;
      })
  Session-moves piece more is_piece given output2 port2 taken phase moves = (
    written ++ moves.more,
    Session-talks gives takes calls from next _ _ _
        (Session-reads (Bytes piece) more is_piece given) moves.talk,
  )

-- the agent leaves
pub Serves-leaves : {I O P : Type 0} (gives : I → Chunk → I → Type 0) (takes : O → List ℕ → WriteAnswer → O → Type 0)
    (calls : P → PortRequest → PortAnswer → P
    → Type 0) (from input : I) (old output : O) (first port new : P) (turns : ℕ)
    (ended : Ended) (heard : PortAnswer)
    → Serves gives takes calls from input old output first port turns (Leaves ended)
    → calls port (Tells commands.Leave) heard new → Serves gives takes calls from input old output first new turns
    (Finished ended)
Serves-leaves gives takes calls from input old output first port new turns ended heard serves told =
    record {
      left = serves.left;
      read = serves.read;
      taken = serves.taken;
      written = serves.written;
      session = steps input _ _ serves.session
          (leaves (record {
            output = output;
            port = port;
            turns = serves.left;
            read = serves.read;
            taken = serves.taken;
            written = serves.written;
            phase = Leaves ended;
          }) ended heard new refl told);
    }
