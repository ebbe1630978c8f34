-- What a session said and was answered, oldest first, and its text: a function of the commands that were answered, of
-- the receipts and the arrivals in the pass that it played by, and of the quota.
use Rattle.std.specs.Prelude.{ℕ, ◌≡◌, true, Option, Some, None, List, [], ◌∷◌, ◌++◌, option_map}
use Rattle.bhs_model.specs.declared.commands.Command.{Command}
use Rattle.bhs_model.specs.declared.replies.Reply.{Reply}
use Rattle.bhs_model.specs.declared.replies.Reply.TheVariants.{No}
use Rattle.bhs_model.specs.declared.replies.Why.{Why}
use Rattle.bhs_shared_match.specs.declared.model.Receipt.{Receipt}
use Rattle.bhs_shared_match.specs.Passes.{tally_in, kept_command}
use Rattle.bhs_shared_match.specs.LockedMatches.{is_below}
use Rattle.bhs_shared_match.specs.Recording.{refusal_by}
use Rattle.bhs_session.specs.Texts.{text_of}
use Rattle.bhs_session.specs.Phase.{Phase, Ready, Awaits, answered_by}
use Rattle.bhs_session.specs.Session.{TakesLines}

pub data Exchange : Type 0 where
  -- a command that was heard, and its receipt
  Took : Command → Receipt → Exchange
  -- a command that was refused
  Refused : Command → Exchange
  -- an arrival
  Came : Receipt → Exchange

-- ---- its text

-- the receipts of commands after this exchange
abbrev pub receipts_after : List Receipt → Exchange → List Receipt
receipts_after receipts (Took command receipt) = receipts ++ receipt ∷ []
receipts_after receipts (Refused command) = receipts
receipts_after receipts (Came receipt) = receipts

-- the receipts of arrivals after this exchange
abbrev pub arrivals_after : List Receipt → Exchange → List Receipt
arrivals_after arrivals (Took command receipt) = arrivals
arrivals_after arrivals (Refused command) = arrivals
arrivals_after arrivals (Came receipt) = arrivals ++ receipt ∷ []

-- The reply of an exchange, given the earlier receipts, which determine refusals.
abbrev pub reply_in : (quota : ℕ) → List Receipt → Exchange → Option Reply
reply_in quota receipts (Took command receipt) = Some receipt.reply
reply_in quota receipts (Refused command) = option_map No (refusal_by quota (tally_in receipts) command)
reply_in quota receipts (Came receipt) = Some receipt.reply

abbrev pub text_if : Option Reply → List ℕ
text_if (Some reply) = text_of reply
text_if None = []

abbrev pub text_from : (quota : ℕ) → List Receipt → List Exchange → List ℕ
text_from quota receipts [] = []
text_from quota receipts (one ∷ others) =
    text_if (reply_in quota receipts one) ++ text_from quota (receipts_after receipts one) others

abbrev pub session_text : (quota : ℕ) → List Exchange → List ℕ
session_text quota all = text_from quota [] all

-- ---- what is in it

abbrev pub commands_in : List Exchange → List Command
commands_in [] = []
commands_in (Took command receipt ∷ others) = command ∷ commands_in others
commands_in (Refused command ∷ others) = command ∷ commands_in others
commands_in (Came receipt ∷ others) = commands_in others

abbrev pub receipts_in : List Exchange → List Receipt
receipts_in [] = []
receipts_in (Took command receipt ∷ others) = receipt ∷ receipts_in others
receipts_in (Refused command ∷ others) = receipts_in others
receipts_in (Came receipt ∷ others) = receipts_in others

-- the commands as their receipts keep them
abbrev pub kept_in : List Exchange → List Command
kept_in [] = []
kept_in (Took command receipt ∷ others) = kept_command command receipt.reply ∷ kept_in others
kept_in (Refused command ∷ others) = kept_in others
kept_in (Came receipt ∷ others) = kept_in others

abbrev pub arrivals_in : List Exchange → List Receipt
arrivals_in [] = []
arrivals_in (Took command receipt ∷ others) = arrivals_in others
arrivals_in (Refused command ∷ others) = arrivals_in others
arrivals_in (Came receipt ∷ others) = receipt ∷ arrivals_in others

-- ---- its order

abbrev pub phase_after : Exchange → Phase
phase_after (Took command receipt) = answered_by true receipt.reply
phase_after (Refused command) = Ready
phase_after (Came receipt) = Ready

abbrev pub phase_from : Phase → List Exchange → Phase
phase_from phase [] = phase
phase_from phase (one ∷ others) = phase_from (phase_after one) others

-- A command is taken where the session takes lines. It is not heard exactly if the pass's own numbers refuse it; one
-- that is heard stands in the log above the last arrival. An arrival comes where it is awaited, behind a Gone.
abbrev pub IsInTurn : (quota : ℕ) → Phase → (receipts arrivals : List Receipt) → Exchange → Type 0
IsInTurn quota phase receipts arrivals (Took command receipt) =
    TakesLines phase × (refusal_by quota (tally_in receipts) command ≡ None)
    × (is_below arrivals receipt.place ≡ true)
IsInTurn quota phase receipts arrivals (Refused command) =
    TakesLines phase × ((why : Why) × (refusal_by quota (tally_in receipts) command ≡ Some why))
IsInTurn quota phase receipts arrivals (Came receipt) = phase ≡ Awaits

abbrev pub AreInTurn : (quota : ℕ) → Phase → (receipts arrivals : List Receipt) → List Exchange → Type 0
AreInTurn quota phase receipts arrivals [] = Unit {0}
AreInTurn quota phase receipts arrivals (one ∷ others) =
    IsInTurn quota phase receipts arrivals one
    × AreInTurn quota (phase_after one) (receipts_after receipts one) (arrivals_after arrivals one) others
