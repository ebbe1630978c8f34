-- What a session asks of its port, and what it hears.
use Rattle.std.specs.Prelude.{ℕ, List, Ok, Err}
use Rattle.std.specs.declared.result.Result.{Result}
use Rattle.std.specs.declared.alloc.AllocError.{AllocError}
use Rattle.bhs_model.specs.declared.commands.Command.{Command}
use Rattle.bhs_model.specs.declared.replies.Reply.{Reply}
use Rattle.bhs_session.specs.declared.port.Entered.{Entered}

pub data PortRequest : Type 0 where
  Enters : (key : List ℕ) → PortRequest
  Tells : Command → PortRequest
  News : PortRequest

pub data PortAnswer : Type 0 where
  -- the answer to the presentation of a key
  LetIn : Entered → PortAnswer
  -- the reply to a command, or the news
  Answers : Reply → PortAnswer
  -- memory ran out in the call
  NoMemory : PortAnswer

-- what `enter` answered
abbrev pub entered : Result Entered AllocError → PortAnswer
entered (Ok answer) = LetIn answer
entered (Err error) = NoMemory

-- what `tell` or `news` answered
abbrev pub answered : Result Reply AllocError → PortAnswer
answered (Ok reply) = Answers reply
answered (Err error) = NoMemory
