-- What a pass says of a command, whatever stood under the lock.
use Rattle.std.specs.Prelude.{ℕ, ◌-◌, ◌≡◌, ◌⊎◌, Bool, true, false, Option, Some, None, option_map, ◌==◌, if◌then◌else◌}
use Rattle.bhs_model.specs.declared.commands.Command.{Command}
use Rattle.bhs_model.specs.declared.commands.Command.TheVariants.{Enter, Leave}
use Rattle.bhs_model.specs.declared.replies.Reply.{Reply}
use Rattle.bhs_model.specs.declared.replies.Reply.TheVariants.{Over, No}
use Rattle.bhs_model.specs.declared.replies.Why.{Why}
use Rattle.bhs_model.specs.declared.replies.Why.TheVariants.{Agent, Outside, Twice, Ended, Spent}
use Rattle.bhs_shared_match.specs.declared.model.Tally.{Tally}
use Rattle.bhs_shared_match.specs.LockedMatches.{LockedState, agrees, is_below, IsOfBoard}
use Rattle.bhs_shared_match.specs.Tallies.{IsLegalHistory}
use Rattle.bhs_shared_match.specs.Passes.{Passed, AreBelow, tally_in, gained}

-- Decides whether a reply refuses its command, which then changes no state.
abbrev pub is_unheard : Reply → Bool
is_unheard Over = true
is_unheard (No Agent) = true
is_unheard (No Outside) = true
is_unheard (No Twice) = true
is_unheard (No Ended) = true
is_unheard (No Spent) = true
is_unheard reply = false

-- the reason to refuse a command of an agent that has entered and not ended: its quota is used up, and the command is
-- no Leave
abbrev pub spent_by : (quota heard : ℕ) → Command → Option Why
spent_by quota heard Leave = None
spent_by quota heard command = if heard - 1 == quota then Some Spent else None

-- the reason to refuse a command, computed from its agent's tally and the quota; None if the command is heard
abbrev pub refusal_by : (quota : ℕ) → Tally → Command → Option Why
refusal_by quota tally Enter = if tally.commands == 0 then None else Some Twice
refusal_by quota tally command =
    if tally.commands == 0 then Some Outside else (if tally.ended then Some Ended
    else spent_by quota tally.commands command)

-- a command that was heard: the pass gains its receipt, whose place is above those before it and above that of the last
-- arrival; the pass's own numbers do not refuse it
pub record IsRecorded (pass : Passed) (command : Command) (place : ℕ) (said : Reply) (pass' : Passed) : Type 0 where
  pub gains : pass' ≡ gained pass command (Some place) said
  pub above : AreBelow place pass.receipts
  pub arrived : is_below pass.arrivals place ≡ true
  pub free : refusal_by pass.quota (tally_in pass.receipts) command ≡ None
  pub heard : is_unheard said ≡ false

-- A command that was not heard: the pass is unchanged. The reply says that the pass belongs to no agent, that the match
-- is over, or repeats the refusal that the pass's own tally gives.
pub record IsUnrecorded (pass : Passed) (command : Command) (said : Reply) (pass' : Passed) : Type 0 where
  pub same : pass' ≡ pass
  pub unheard : is_unheard said ≡ true
  pub why : (said ≡ No Agent) ⊎ ((said ≡ Over)
      ⊎ (Some said ≡ option_map No (refusal_by pass.quota (tally_in pass.receipts) command)))

-- the pass after a logged or unlogged command
abbrev pub IsSubmitted : Passed → Command → (place : Option ℕ) → Reply → Passed → Type 0
IsSubmitted pass command (Some place) said pass' = IsRecorded pass command place said pass'
IsSubmitted pass command None said pass' = IsUnrecorded pass command said pass'

-- A command that may need memory: in some legal history consistent with the pass, its reply contains a whiteboard or
-- confirms a write. Depart, Accuse, Leave and Bad never need memory, nor do commands that the pass's own tally refuses.
-- `LockedMatch::submit` states that the match is open.
pub record MayWantMemory (pass : Passed) (command : Command) : Type 0 where
  pub inner : LockedState
  pub legal : IsLegalHistory inner.play inner.tallies
  pub agreed : agrees inner pass ≡ true
  pub of_board : IsOfBoard inner.play pass.agent command
