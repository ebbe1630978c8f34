-- How often an agent has woken in a row, as far as its replies tell. A schedule counts the wake-ups of an agent since
-- the whiteboard in front of it was another one or showed another text. An agent does not see when a text changes, so
-- its own count is an upper bound: it starts anew when the agent departs, and goes back to the wake-ups since the last
-- reply when a reply shows another text than the one before it.
use Rattle.std.specs.Prelude.{ℕ, ◌+◌, Bool, false, not, List, [], ◌∷◌, Option, Some, None, option_map, bytes_eq}
use Rattle.std.specs.Prelude.{if◌then◌else◌, string_bytes}
use Rattle.bhs_model.specs.declared.replies.Reply.{Reply}
use Rattle.bhs_model.specs.declared.replies.Reply.TheVariants.{Here, Changed, Gone}
use Rattle.bhs_schedules.specs.Strategies.{History, Observation, Heard, Woke}
use Rattle.bhs_agents.specs.declared.wake_ups.WakeUps.{WakeUps as WakeUpsInCode}

-- `shown` is the text of the last reply if it showed one, `since_reply` the number of wake-ups since that reply, and
-- `in_a_row` the bound.
pub record WakeUps : Type 0 where
  pub shown : Option (List ℕ)
  pub since_reply : ℕ
  pub in_a_row : ℕ

abbrev pub no_wake_ups : WakeUps
no_wake_ups = record { shown = None; since_reply = 0; in_a_row = 0 }

-- whether the text differs from the one of the last reply, if that reply showed a text
abbrev pub is_news : (before : Option (List ℕ)) → (text : List ℕ) → Bool
is_news None text = false
is_news (Some before) text = not (bytes_eq before text)

-- the count after a reply that shows this text
abbrev pub after_text : WakeUps → (text : List ℕ) → WakeUps
after_text count text = record {
  shown = Some text;
  since_reply = 0;
  in_a_row = if is_news count.shown text then count.since_reply else count.in_a_row;
}

abbrev pub after_reply : WakeUps → Reply → WakeUps
after_reply count (Here ports came text) = after_text count text
after_reply count (Changed text) = after_text count text
after_reply count Gone = no_wake_ups
after_reply count reply = record { shown = None; since_reply = 0; in_a_row = count.in_a_row }

abbrev pub after_item : WakeUps → Observation → WakeUps
after_item count Woke =
    record count { since_reply = count.since_reply + 1; in_a_row = count.in_a_row + 1 }
after_item count (Heard reply) = after_reply count reply

-- the count after a history, whose newest item comes first
abbrev pub wake_ups_in : History → WakeUps
wake_ups_in [] = no_wake_ups
wake_ups_in (item ∷ history) = after_item (wake_ups_in history) item

-- the count of a value in the code
abbrev pub counted : WakeUpsInCode → WakeUps
counted count = record {
  shown = option_map string_bytes count.shown;
  since_reply = count.since_reply;
  in_a_row = count.in_a_row;
}
