-- Talks of clients, built up line by line.
use Rattle.std.proofs.Common.{ℕ, ◌≡◌, ◌∙◌, true, Some, None, List, [], ◌∷◌, ◌++◌, map, refl, sym, ap, subst, cond}
use Rattle.std.specs.Str.{is_utf8}
use Rattle.std.proofs.Common.{append-nil}
use Rattle.std.proofs.lemmas.List.{map-append}
use Rattle.serde_json.specs.Read.{read}
use Rattle.serde_json.specs.Written.{compact_text}
use Rattle.bhs_model.specs.declared.commands.Command.{Command}
use Rattle.bhs_model.specs.declared.replies.Reply.{Reply}
use Rattle.bhs_wire.specs.First.{first_of_read, says_as}
use Rattle.bhs_wire.specs.declared.kinds.LineKind.{LineKind}
use Rattle.bhs_wire.specs.declared.kinds.LineKind.TheVariants.{Whole}
use Rattle.bhs_wire.specs.LineKind.{line_kind}
use Rattle.bhs_wire.specs.Lines.{Line, lines, rest, rest_after, found_in, as_held}
use Rattle.bhs_wire.specs.Reply.{line as line_of}
use Rattle.bhs_wire.specs.ReplyNumbers.{NumbersFit}
use Rattle.bhs_wire.proofs.StreamLaws.{lines-append, lines_after-as_held, rest-ended, rest_after-append}
use Rattle.bhs_replay.proofs.Flat.{text_flat}
use Rattle.bhs_session.specs.Texts.{command_of, text_of}
use Rattle.bhs_schedules.specs.declared.answers.Step.TheVariants.{Says, Stops}
use Rattle.bhs_schedules.specs.Strategies.{History, Heard, Strategy}
use Rattle.bhs_client.specs.CommandLines.{data_of, PortFits}
use Rattle.bhs_client.specs.Talks.{IsLineOf, Talks, Meets, begins, goes_on, speaks}
use Rattle.bhs_agents.specs.WakeUps.{wake_ups_in}
use Rattle.bhs_client.proofs.CommandLemmas.{first_in-data_of, is_plain}
use Rattle.bhs_client.proofs.ReplyLemmas.{reply_on-line}
use Rattle.bhs_client.specs.Transcripts.{Transcript, unused, Writes, Reads}
use Rattle.bhs_theorems_contests.proofs.Spelling.{commands_said, reply_flat}

-- lines behind whole lines
lines_behind : (said more : List ℕ) → rest said ≡ [] → lines (said ++ more) ≡ lines said ++ lines more
lines_behind said more whole =
    lines-append said more
    ∙ ap (λ (line : List ℕ). lines said ++ found_in (as_held line) more) whole
    ∙ ap (λ (found : List Line). lines said ++ found) (sym (lines_after-as_held [] more))

-- a client that has said these commands and heard these bytes
pub record HasTalked (wakeups : ℕ) (strategy : Strategy) (key : List ℕ) (history : History) (said : List Command)
    (heard : List ℕ) : Type 0 where
  pub transcript : Transcript
  pub talks : Talks Writes Reads wakeups strategy key unused history transcript
  pub said_is : map command_of (lines transcript.said) ≡ said
  pub whole : rest transcript.said ≡ []
  pub heard_is : transcript.heard ≡ heard

pub talked_none : (wakeups : ℕ) (strategy : Strategy) (key : List ℕ) → HasTalked wakeups strategy key [] [] []
talked_none wakeups strategy key =
    record { transcript = unused; talks = begins; said_is = refl; whole = refl; heard_is = refl }

-- the line of a command is the text of its data
pub record IsSpelled (key : List ℕ) (command : Command) : Type 0 where
  pub fits : PortFits command
  pub utf8 : is_utf8 (compact_text (data_of key command)) ≡ true
  pub reads : read (compact_text (data_of key command)) ≡ Some (data_of key command)
  pub kind : line_kind (compact_text (data_of key command)) ≡ Whole

line_is : (key : List ℕ) (command : Command) → IsSpelled key command
    → IsLineOf key command (compact_text (data_of key command))
line_is key command spelled = record {
  means = ap (λ (kind : LineKind). says_as kind (compact_text (data_of key command))) spelled.kind
      ∙ ap Some (ap (λ b. first_of_read (cond b (read (compact_text (data_of key command))) None)) spelled.utf8
      ∙ ap first_of_read spelled.reads ∙ first_in-data_of key command spelled.fits);
  flat = text_flat (data_of key command) (is_plain key command spelled.fits);
}

-- it says a command and hears a reply
pub says_then : (wakeups : ℕ) (strategy : Strategy) (key : List ℕ) (history : History) (said : List Command)
    (heard : List ℕ)
    (command : Command) (reply : Reply) → strategy history ≡ Says command → IsSpelled key command → NumbersFit reply
    → HasTalked wakeups strategy key history said heard
    → HasTalked wakeups strategy key (Heard reply ∷ history) (said ++ command ∷ []) (heard ++ text_of reply)
says_then wakeups strategy key history said heard command reply says spelled fits talked =
    let line : List ℕ = compact_text (data_of key command) in
    let told : Transcript = record talked.transcript { said = talked.transcript.said ++ (line ++ 10 ∷ []) } in
    let new : Transcript = record told { heard = told.heard ++ (line_of reply ++ 10 ∷ []) } in
    let meets : Meets Writes Reads key wakeups (wake_ups_in history).in_a_row (Says command) talked.transcript
    (Heard reply) new =
    speaks reply told new (line, line_is key command spelled, refl)
    (line_of reply, reply_on-line reply fits, (reply_flat reply fits, refl)) in
    record {
      transcript = new;
      talks = goes_on history (Heard reply) talked.transcript new talked.talks
          (subst (λ step. Meets Writes Reads key wakeups (wake_ups_in history).in_a_row step talked.transcript
          (Heard reply) new) (sym says) meets);
      said_is = ap (map command_of) (lines_behind talked.transcript.said (line ++ 10 ∷ []) talked.whole)
          ∙ map-append command_of (lines talked.transcript.said) (lines (line ++ 10 ∷ []))
          ∙ ap (λ (first : List Command). first ++ map command_of (lines (line ++ 10 ∷ []))) talked.said_is
          ∙ ap (λ (last : List Command). said ++ last)
          (ap (λ (bytes : List ℕ). map command_of (lines bytes)) (sym (append-nil (line ++ 10 ∷ [])))
          ∙ commands_said key line [] command (line_is key command spelled));
      whole = rest_after-append [] talked.transcript.said (line ++ 10 ∷ [])
          ∙ rest_of_line talked.transcript.said line talked.whole;
      heard_is = ap (λ (bytes : List ℕ). bytes ++ text_of reply) talked.heard_is;
    }
  where
    rest_of_line : (before line : List ℕ) → rest before ≡ [] → rest_after (rest before) (line ++ 10 ∷ []) ≡ []
    rest_of_line before line none = ap (λ (from : List ℕ). rest_after from (line ++ 10 ∷ [])) none ∙ rest-ended line []

-- it waits and hears a reply
pub waits_then : (wakeups : ℕ) (strategy : Strategy) (key : List ℕ) (history : History) (said : List Command)
    (heard : List ℕ)
    (reply : Reply) → strategy history ≡ Stops → NumbersFit reply → HasTalked wakeups strategy key history said heard
    → HasTalked wakeups strategy key (Heard reply ∷ history) said (heard ++ text_of reply)
waits_then wakeups strategy key history said heard reply stops fits talked =
    let new : Transcript = record talked.transcript { heard = talked.transcript.heard ++ (line_of reply ++ 10 ∷ []) } in
    let meets : Meets Writes Reads key wakeups (wake_ups_in history).in_a_row Stops talked.transcript (Heard reply) new
    =
    speaks reply talked.transcript new refl (line_of reply, reply_on-line reply fits, (reply_flat reply fits, refl)) in
    record {
      transcript = new;
      talks = goes_on history (Heard reply) talked.transcript new talked.talks
          (subst (λ step. Meets Writes Reads key wakeups (wake_ups_in history).in_a_row step talked.transcript
          (Heard reply) new) (sym stops) meets);
      said_is = talked.said_is;
      whole = talked.whole;
      heard_is = ap (λ (bytes : List ℕ). bytes ++ text_of reply) talked.heard_is;
    }
