-- The line of an event is read as its data; it is flat and, if its texts are, UTF-8.
use Rattle.std.proofs.Common.{◌≡◌, ℕ, ◌<◌, ◌^◌, IsUtf8, decimal, Option, Some, sym, subst, ap, ◌∙◌, arith}
use Rattle.std.specs.Prelude.{⊤}
use Rattle.json.specs.Print.{IsNumber}
use Rattle.json.proofs.Printed.Decimals.{IsNumber-decimal}
use Rattle.serde_json.specs.Data.{unsigned}
use Rattle.serde_json.specs.Read.{number_of, read}
use Rattle.serde_json.proofs.Numbers.{number_of-decimal}
use Rattle.bhs_model.specs.declared.events.Event.{Event}
use Rattle.bhs_model.specs.declared.replies.Reply.{Reply}
use Rattle.bhs_replay.specs.EventLine.{event_line}
use Rattle.bhs_replay.specs.Played.{EventIsText, ReplyIsText}
use Rattle.bhs_replay.specs.Spelling.{EventFits, ReplyFits}
use Rattle.bhs_replay.proofs.EventData.{event_data, event_of_line}
use Rattle.bhs_replay.proofs.EventTexts.{compact_text-event_data}
use Rattle.bhs_replay.proofs.Flat.{IsFlat}
use Rattle.bhs_replay.proofs.LineData.{read-line, line_flat, line_utf8}
pub use Rattle.bhs_replay.proofs.LineData.{read-compact_text}

pub is_number : (n : ℕ) → n < 2 ^ 16 → IsNumber (decimal n)
is_number n small = IsNumber-decimal n (omega arith)

pub reads : (n : ℕ) → n < 2 ^ 16 → number_of (decimal n) ≡ Some (unsigned n)
reads n small = number_of-decimal n (omega arith)

module _ (event : Event) (reply : Option Reply) (fits : EventFits event) (answer : ReplyFits reply) where
  pub read-event_line : read (event_line event reply) ≡ Some (event_data event reply)
  read-event_line =
      ap read (sym (compact_text-event_data event reply)) ∙ read-line (event_data event reply) 2 (omega arith)
      (event_of_line ⊥ event reply fits (λ v. absurd v) answer (λ v. absurd v))

  pub event_flat : IsFlat (event_line event reply)
  event_flat = subst IsFlat (compact_text-event_data event reply) (line_flat ⊥ (event_data event reply) 2
      (event_of_line ⊥ event reply fits (λ v. absurd v) answer (λ v. absurd v)))

  pub event_utf8 : EventIsText event → ReplyIsText reply → IsUtf8 (event_line event reply)
  event_utf8 text answer_text = subst IsUtf8 (compact_text-event_data event reply)
      (line_utf8 (event_data event reply) 2 (event_of_line ⊤ event reply fits (λ v. text) answer (λ v. answer_text)))
