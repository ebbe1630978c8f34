-- The machine of a session: what it asks for a line, and what follows what it hears. A session is served by it, and a
-- rehearsal's connections take their lines by it.
use Rattle.std.specs.Prelude.{ℕ, Bool, true, false, List, []}
use Rattle.bhs_wire.specs.declared.commands.First.{First}
use Rattle.bhs_wire.specs.declared.commands.First.TheVariants.{Enter, Tell}
use Rattle.bhs_wire.specs.declared.denials.Denial.{Denial}
use Rattle.bhs_wire.specs.declared.denials.Denial.TheVariants as denials
use Rattle.bhs_session.specs.Texts.{command_by}
use Rattle.bhs_session.specs.Port.{PortRequest, Enters, Tells, PortAnswer}
use Rattle.bhs_session.specs.Phase.{Phase, Fresh, Ready, Awaits, Owes, Finished, after_enter, after_answer}

-- what a line comes to
pub data Ask : Type 0 where
  -- the port is asked this
  Asks : PortRequest → Ask
  -- the client is denied
  Denies : Denial → Ask
  -- no line is taken
  Rests : Ask

-- the first line must be an enter with a key; each later line is told
abbrev pub ask : Phase → First → Ask
ask Fresh (Enter key) = Asks (Enters key)
ask Fresh (Tell command) = Denies denials.Enter
ask Ready first = Asks (Tells (command_by first))
ask phase first = Rests

-- the phase after what is heard, which owes the text of the answer
abbrev pub hear : Phase → PortAnswer → Phase
hear Fresh heard = after_enter heard
hear Ready heard = after_answer true heard
hear Awaits heard = after_answer false heard
hear phase heard = phase

-- ---- where what is owed is sent at once

-- the text that the session owes its client, and the phase after it
abbrev pub owed_text : Phase → List ℕ
owed_text (Owes text next) = text
owed_text phase = []

abbrev pub behind_text : Phase → Phase
behind_text (Owes text next) = next
behind_text phase = phase

-- whether news are awaited, and whether the session has ended
abbrev pub awaits : Phase → Bool
awaits Awaits = true
awaits phase = false

abbrev pub is_finished : Phase → Bool
is_finished (Finished ended) = true
is_finished phase = false
