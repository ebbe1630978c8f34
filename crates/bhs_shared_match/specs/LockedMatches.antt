-- The locked state, and the effect of a command on this state and on a pass.
use Rattle.std.specs.Prelude.{ℕ, ◌≡◌, Bool, true, false, ◌&&◌, not, Option, Some, None, List, [], ◌==◌, nat_lt}
use Rattle.std.specs.Prelude.{if◌then◌else◌, length, slice_get, ◌-◌, replicate, is_some}
use Rattle.bhs_model.specs.declared.commands.Command.{Command}
use Rattle.bhs_model.specs.declared.events.Event.TheVariants.{Tell}
use Rattle.bhs_model.specs.declared.marks.Mark.{Mark}
use Rattle.bhs_model.specs.declared.marks.Mark.TheVariants as marks
use Rattle.bhs_model.specs.declared.replies.Reply.{Reply}
use Rattle.bhs_model.specs.declared.replies.Reply.TheVariants as replies
use Rattle.bhs_model.specs.declared.replies.Why.TheVariants.{Agent}
use Rattle.bhs_model.specs.Marks.{read}
use Rattle.bhs_model.specs.Runs.{reply, is_bound}
use Rattle.bhs_world.specs.Tables.{keeps_next, log_after, is_of_board_if}
use Rattle.bhs_match.specs.Matches.{Play, world_in, state_of, shown_at}
use Rattle.bhs_shared_match.specs.declared.model.Answer.{Answer}
use Rattle.bhs_shared_match.specs.declared.model.Receipt.{Receipt}
use Rattle.bhs_shared_match.specs.declared.model.Spare.{Spare}
use Rattle.bhs_shared_match.specs.declared.model.Tally.{Tally}
use Rattle.bhs_shared_match.specs.Timing.{Timed, at_first, told_at, stamped_to}
use Rattle.bhs_shared_match.specs.Tallies.{tally_of, nothing}
use Rattle.bhs_shared_match.specs.Passes.{Passed, tally_in, kept_command, gained}

-- the number of the match, the match, of each agent its two numbers, the times, and the turn of each event of the log
pub record LockedState : Type 0 where
  pub game : ℕ
  pub play : Play
  pub tallies : List Tally
  pub times : Timed
  pub turns : List ℕ

-- what stands under the lock at first
abbrev pub empty_locked_match : (game : ℕ) → Play → LockedState
empty_locked_match game play = record {
  game = game;
  play = play;
  tallies = replicate play.setup.agents nothing;
  times = at_first play.setup.agents;
  turns = [];
}

-- whether two truth values are the same
abbrev pub same_bool : (a b : Bool) → Bool
same_bool a b = if a then b else not b

-- whether two agents' numbers are the same
abbrev pub same_tally : (one two : Tally) → Bool
same_tally one two = (one.commands == two.commands) && same_bool one.ended two.ended

-- whether an optional receipt's place lies below this length
abbrev pub place_below : Option Receipt → (length : ℕ) → Bool
place_below (Some receipt) length = nat_lt receipt.place length
place_below None length = true

-- whether the last receipt's place is below this length
abbrev pub is_below : List Receipt → (length : ℕ) → Bool
is_below receipts most = place_below (slice_get receipts (length receipts - 1)) most

-- whether a pass agrees with what stands under the lock: it is of this match, it has as many receipts as its agent has
-- heard commands, and what it holds stands in this log
abbrev pub agrees : LockedState → Passed → Bool
agrees inner pass =
    (pass.game == inner.game) && ((pass.quota == inner.play.setup.quota) && (nat_lt pass.agent inner.play.setup.agents
    && (same_tally (tally_of pass.agent inner.play) (tally_in pass.receipts)
    && (is_below pass.receipts (length inner.play.log) && is_below pass.arrivals (length inner.play.log)))))

-- the reply of a mark whose whiteboard shows this text
abbrev pub spoken : Mark → (text : List ℕ) → Reply
spoken (marks.Here ports came board) text = replies.Here ports came text
spoken marks.Written text = replies.Written
spoken (marks.Changed board) text = replies.Changed text
spoken marks.Gone text = replies.Gone
spoken marks.Noted text = replies.Noted
spoken marks.Bye text = replies.Bye
spoken marks.Over text = replies.Over
spoken (marks.No why) text = replies.No why

-- whether the reply to this command, if it were told now, says what a whiteboard shows, or that it was written
abbrev pub IsOfBoard : Play → (agent : ℕ) → Command → Type 0
IsOfBoard play agent command = is_of_board_if (reply (world_in play) (state_of play) (Tell agent command)) ≡ true

-- The command would be heard, and thus logged, at this moment.
abbrev pub IsHeard : Play → (agent : ℕ) → Command → Type 0
IsHeard play agent command = keeps_next (world_in play) play.log (Tell agent command) ≡ true

-- What is taken from memory before a command is told: where the reply will speak of a whiteboard, two copies of the
-- text that the agent sees; and what will be kept of the command, if it is heard.
pub record IsSpareFor (play : Play) (agent : ℕ) (command : Command) (spare : Spare) : Type 0 where
  pub texts : is_of_board_if (reply (world_in play) (state_of play) (Tell agent command)) ≡ true →
      (spare.text ≡ shown_at (world_in play) (state_of play) ((state_of play).position agent))
      × (spare.again ≡ shown_at (world_in play) (state_of play) ((state_of play).position agent))
  pub kept : (said : Reply) → Some said ≡ reply (world_in play) (state_of play) (Tell agent command) → spare.kept
      ≡ kept_command command said

-- What a command of its agent makes of a match and a pass. The reply is that of the definitions; the log grows by the
-- event where they keep it, and the place is its index there; the pass gains its receipt.
pub record IsTold (play : Play) (pass : Passed) (command : Command) (place : Option ℕ) (mark : Mark) (said : Reply)
    (play' : Play) (pass' : Passed) : Type 0 where
  pub replied : Some said ≡ reply (world_in play) (state_of play) (Tell pass.agent command)
  pub reads : read play'.log mark ≡ said
  pub at : place ≡ (if keeps_next (world_in play) play.log (Tell pass.agent command)
      then Some (length play.log) else None)
  pub grown : play' ≡ record play { log = log_after (world_in play) play.log (Tell pass.agent command) (Some mark) }
  pub kept : pass' ≡ gained pass command place said

-- the same under the lock: some mark that reads as the reply stands in the log
pub record IsHeardBy (inner : LockedState) (pass : Passed) (command : Command) (answer : Answer) (inner' : LockedState)
    (pass' : Passed) : Type 0 where
  pub mark : Mark
  pub told : IsTold inner.play pass command answer.place mark answer.reply inner'.play pass'
  pub game : inner'.game ≡ inner.game
  pub times : inner'.times ≡ (if is_some answer.place
      then told_at (is_bound ((state_of inner.play).position pass.agent)) pass.agent inner.times else inner.times)
  pub turns : inner'.turns ≡ stamped_to (length inner'.play.log) inner.times.turn inner.turns

-- a pass that does not agree is no agent's, and nothing changes
pub record IsStranger (inner : LockedState) (pass : Passed) (answer : Answer) (inner' : LockedState) (pass' : Passed)
    : Type 0 where
  pub answered : answer ≡ record { place = None; reply = replies.No Agent }
  pub same_locked_match : inner' ≡ inner
  pub same_pass : pass' ≡ pass

-- the outcome, by whether the pass agrees
abbrev pub IsAnswered : Bool → LockedState → Passed → Command → Answer → LockedState → Passed → Type 0
IsAnswered true inner pass command answer inner' pass' = IsHeardBy inner pass command answer inner' pass'
IsAnswered false inner pass command answer inner' pass' = IsStranger inner pass answer inner' pass'
