-- Questions to a team, and its answers.
use Rattle.std.specs.Prelude.{ℕ, ◌≡◌, List, [], ◌∷◌}
use Rattle.bhs_model.specs.declared.marks.Mark.{Mark}
use Rattle.bhs_model.specs.declared.marks.Mark.TheVariants as marks
use Rattle.bhs_model.specs.declared.replies.Reply.{Reply}
use Rattle.bhs_model.specs.declared.replies.Reply.TheVariants as replies
use Rattle.bhs_schedules.specs.declared.answers.Step.{Step}
use Rattle.bhs_schedules.specs.declared.answers.Latest.{Latest}
use Rattle.bhs_schedules.specs.declared.answers.Latest.TheVariants as latest
use Rattle.bhs_schedules.specs.Strategies.{Observation, Heard, Woke}
use Rattle.bhs_schedules.specs.Machines.{Machines}

-- a question to a team and its answer: the memory, and what is done next by an agent that holds it
pub data QuestionAnswer : Type 0 where
  -- what does this agent hold at the start
  Begins : (agent memory : ℕ) → Step → QuestionAnswer
  -- the memory and the step of an agent after an observation, given its memory before
  GoesOn : (before : ℕ) → Observation → (memory : ℕ) → Step → QuestionAnswer

-- the reply that a mark stands for, where the whiteboard that it names shows this text
abbrev pub reply_with : Mark → (shown : List ℕ) → Reply
reply_with (marks.Here ports came board) shown = replies.Here ports came shown
reply_with marks.Written shown = replies.Written
reply_with (marks.Changed board) shown = replies.Changed shown
reply_with marks.Gone shown = replies.Gone
reply_with marks.Noted shown = replies.Noted
reply_with marks.Bye shown = replies.Bye
reply_with marks.Over shown = replies.Over
reply_with (marks.No why) shown = replies.No why

-- what has happened, where the whiteboard that is named shows this text
abbrev pub item_with : Latest → (shown : List ℕ) → Observation
item_with latest.Woke shown = Woke
item_with (latest.Heard mark) shown = Heard (reply_with mark shown)

-- The answer agrees with the machines.
abbrev pub DoesAs : Machines → QuestionAnswer → Type 0
DoesAs machines (Begins agent memory step) = (machines.start agent ≡ memory) × (machines.does memory ≡ step)
DoesAs machines (GoesOn before item memory step) =
    (machines.after before item ≡ memory) × (machines.does memory ≡ step)

-- All answers agree with the machines.
abbrev pub DoAs : Machines → List QuestionAnswer → Type 0
DoAs machines [] = Unit {0}
DoAs machines (exchange ∷ talk) = DoesAs machines exchange × DoAs machines talk

-- between two states a team was asked and answered this, in order
abbrev pub Talks : {T : Type 0} → (T → QuestionAnswer → T → Type 0) → (old : T) → List QuestionAnswer → (new : T)
    → Type 0
Talks answers old [] new = new ≡ old
Talks {T} answers old (exchange ∷ talk) new =
    (between : T) × (answers old exchange between × Talks answers between talk new)
