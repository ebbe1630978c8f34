-- What a session wrote, by the pass that it played by.
use Rattle.std.specs.Prelude.{ℕ, ◌≡◌, ◌⊎◌, Bool, true, false, Option, Some, None, List, [], ◌∷◌, ◌++◌, map}
use Rattle.std.specs.Prelude.{option_to_list}
use Rattle.bhs_model.specs.declared.commands.Command.{Command}
use Rattle.bhs_model.specs.declared.commands.Command.TheVariants.{Leave}
use Rattle.bhs_model.specs.declared.replies.Reply.TheVariants.{Over}
use Rattle.bhs_shared_match.specs.declared.model.Receipt.{Receipt}
use Rattle.bhs_shared_match.specs.Passes.{Passed}
use Rattle.bhs_shared_match.specs.SharedMatches.{Given}
use Rattle.bhs_session.specs.declared.endings.Ended.{Ended}
use Rattle.bhs_session.specs.declared.endings.Ended.TheVariants as endings
use Rattle.bhs_setups.specs.KeyTable.{Seat}
use Rattle.bhs_wire.specs.Lines.{Line, lines}
use Rattle.bhs_stream.specs.Streams.{Chunk, WriteAnswer}
use Rattle.bhs_session.specs.Texts.{text_of, command_of}
use Rattle.bhs_session.specs.Phase.{Phase, Fresh, Finished}
use Rattle.bhs_session.specs.Session.{TakesLines, Serves}
use Rattle.bhs_session.specs.Answering.{IsLastLine, MayLack}
use Rattle.bhs_server.specs.declared.ports.SessionAgent.{SessionAgent}
use Rattle.bhs_server.specs.Ports.{Calls, Seated, IsOfSharedMatch}
use Rattle.bhs_server.specs.Exchanges.{Exchange, session_text, commands_in, receipts_in, kept_in, arrivals_in}
use Rattle.bhs_server.specs.Exchanges.{phase_from, AreInTurn}

-- at most one command was left without an answer of the match
abbrev pub IsFew : List Command → Type 0
IsFew left = (left ≡ []) ⊎ ((command : Command) × (left ≡ command ∷ []))

-- At most one line, which reports the end of the match.
abbrev pub MayBeOver : (last : List ℕ) → Type 0
MayBeOver last = (last ≡ []) ⊎ (last ≡ text_of Over)

-- Where a session stands that has ended so: behind Bye or Noted nothing was told or is left; Over is the last line;
-- between two lines, where the input ends, nothing is left. Where a write failed or memory ran out, anything may be.
abbrev pub Ends : Ended → Phase → Option Receipt → (left : List Command) → (last : List ℕ) → Type 0
Ends endings.Bye phase parting left last =
    (phase ≡ Finished endings.Bye) × (parting ≡ None) × (left ≡ []) × (last ≡ [])
Ends endings.Noted phase parting left last =
    (phase ≡ Finished endings.Noted) × (parting ≡ None) × (left ≡ []) × (last ≡ [])
Ends endings.Over phase parting left last = (parting ≡ None) × (last ≡ text_of Over)
Ends endings.Denied phase parting left last = ⊥
Ends endings.InputEnded phase parting left last = TakesLines phase × (left ≡ []) × (last ≡ [])
Ends endings.ReadFault phase parting left last = TakesLines phase × (left ≡ []) × (last ≡ [])
Ends endings.Turns phase parting left last = TakesLines phase × (left ≡ []) × (last ≡ [])
Ends endings.WriteFault phase parting left last = Unit {0}
Ends endings.Memory phase parting left last = Unit {0}

-- Of a session that took these commands, wrote this and ended so, by this pass: what it wrote is the text of what it
-- said and was answered, which is made of the receipts and arrivals of the pass, and behind it at most that the match
-- is over; or a front of that, if a write failed or memory ran out. A Leave that an ending told has its receipt
-- last.
pub record IsWrittenBy (pass : Passed) (commands : List Command) (written : List ℕ) (ended : Ended) : Type 0 where
  pub all : List Exchange
  pub in_turn : AreInTurn pass.quota Fresh [] [] all
  pub parting : Option Receipt
  pub receipts : pass.receipts ≡ receipts_in all ++ option_to_list parting
  pub kept : pass.commands ≡ kept_in all ++ map (λ receipt. Leave) (option_to_list parting)
  pub arrivals : pass.arrivals ≡ arrivals_in all
  pub left : List Command
  pub few : IsFew left
  pub said : commands ≡ commands_in all ++ left
  pub last : List ℕ
  pub is_last : MayBeOver last
  pub unwritten : List ℕ
  pub heard : written ++ unwritten ≡ session_text pass.quota all ++ last
  pub is_unwritten : MayLack ended unwritten
  pub ends : Ends ended (phase_from Fresh all) parting left last

-- who plays no agent is written nothing or one denial, or a front of it
pub record IsOutside (written : List ℕ) (ended : Ended) : Type 0 where
  pub last : List ℕ
  pub is_last : IsLastLine last
  pub unwritten : List ℕ
  pub heard : written ++ unwritten ≡ last
  pub is_unwritten : MayLack ended unwritten

abbrev pub IsWrittenFor : List Given → Option SessionAgent → List Command → (written : List ℕ) → Ended → Type 0
IsWrittenFor shared_matches (Some played) commands written ended =
    IsOfSharedMatch shared_matches played.game played.pass × IsWrittenBy played.pass commands written ended
IsWrittenFor shared_matches None commands written ended = IsOutside written ended

-- whether a session ended between two lines, if it may have told a Leave
abbrev pub is_between : Ended → Bool
is_between endings.InputEnded = true
is_between endings.ReadFault = true
is_between endings.Turns = true
is_between ended = false

-- What `attend` makes of a reader and a writer: a session, by the port's calls, and what it wrote by the pass that
-- comes back.
pub record IsAttended {I O : Type 0} (gives : I → Chunk → I → Type 0) (takes : O → List ℕ → WriteAnswer → O → Type 0)
    (keys : List Seat) (shared_matches : List Given) (input_old input_new : I) (output_old output_new : O) (turns : ℕ)
    (played : Option SessionAgent) (ended : Ended) : Type 0 where
  pub last : Seated
  pub plays : last.played ≡ played
  pub serves : Serves gives takes Calls input_old input_new output_old output_new
      (record { keys = keys; shared_matches = shared_matches; played = None }) last turns (Finished ended)
  pub written : IsWrittenFor shared_matches played (map command_of serves.taken) serves.written ended
  -- the lines that were read and not taken: none if the session ended between two lines
  pub more : List Line
  pub in_order : lines serves.read ≡ serves.taken ++ more
  pub none_more : is_between ended ≡ true → more ≡ []
