-- The count of wake-ups in the code is that of the agent's history, and at most one more than its limit.
use Rattle.std.proofs.Common.{ℕ, ◌+◌, ◌<◌, ◌≤◌, ◌^◌, ◌≡◌, ◌∙◌, [], ◌∷◌, sym, ap, subst, arith, refl}
use Rattle.bhs_model.specs.declared.replies.Reply.{Reply}
use Rattle.bhs_model.specs.declared.replies.Reply.TheVariants.{Here, Written, Changed, Gone, Noted, Bye, Over, No}
use Rattle.bhs_model.proofs.LegalLemmas.{either}
use Rattle.bhs_schedules.specs.Strategies.{History, Observation, Heard, Woke}
use Rattle.bhs_agents.specs.declared.wake_ups.WakeUps.{WakeUps as WakeUpsInCode}
use Rattle.bhs_agents.specs.WakeUps.{WakeUps, no_wake_ups, is_news, after_reply, after_item}
use Rattle.bhs_agents.specs.WakeUps.{wake_ups_in, counted}

pub record IsCounting (limit : ℕ) (history : History) (wake_ups : WakeUpsInCode) : Type 0 where
  pub same_limit : wake_ups.limit ≡ limit
  pub count : counted wake_ups ≡ wake_ups_in history
  pub few : wake_ups.in_a_row ≤ limit + 1

pub counting_none : (limit : ℕ) (wake_ups : WakeUpsInCode) → wake_ups.limit ≡ limit → counted wake_ups ≡ no_wake_ups
    → IsCounting limit [] wake_ups
counting_none limit wake_ups same count = record {
  same_limit = same;
  count = count;
  few = let none : wake_ups.in_a_row ≡ 0 = ap (λ (all : WakeUps). all.in_a_row) count in omega (arith, none);
}

-- the wake-ups since the last reply are among those in a row
reply_since : (count : WakeUps) (reply : Reply) → (after_reply count reply).since_reply
    ≤ (after_reply count reply).in_a_row
reply_since count (Here ports came text) = omega arith
reply_since count (Changed text) = omega arith
reply_since count Gone = omega arith
reply_since count Written = omega arith
reply_since count Noted = omega arith
reply_since count Bye = omega arith
reply_since count Over = omega arith
reply_since count (No why) = omega arith

since_few : (history : History) → (wake_ups_in history).since_reply ≤ (wake_ups_in history).in_a_row
since_few [] = omega arith
since_few (Woke ∷ history) =
    let before : (wake_ups_in history).since_reply ≤ (wake_ups_in history).in_a_row = since_few history in
    omega (arith, before)
since_few (Heard reply ∷ history) = reply_since (wake_ups_in history) reply

-- a reply does not increase the count
reply_few : (count : WakeUps) (reply : Reply) → count.since_reply ≤ count.in_a_row
    → (after_reply count reply).in_a_row ≤ count.in_a_row
reply_few count (Here ports came text) since =
    either (λ (n : ℕ). n ≤ count.in_a_row) (is_news count.shown text) count.since_reply count.in_a_row since
    (omega arith)
reply_few count (Changed text) since =
    either (λ (n : ℕ). n ≤ count.in_a_row) (is_news count.shown text) count.since_reply count.in_a_row since
    (omega arith)
reply_few count Gone since = omega arith
reply_few count Written since = omega arith
reply_few count Noted since = omega arith
reply_few count Bye since = omega arith
reply_few count Over since = omega arith
reply_few count (No why) since = omega arith

item_few : (limit : ℕ) (history : History) (item : Observation) → (wake_ups_in history).in_a_row ≤ limit + 1
    → (item ≡ Woke → (wake_ups_in history).in_a_row ≤ limit)
    → (after_item (wake_ups_in history) item).in_a_row ≤ limit + 1
item_few limit history Woke few woke = let last : (wake_ups_in history).in_a_row ≤ limit = woke refl in
    omega (arith, last)
item_few limit history (Heard reply) few woke =
    let less : (after_reply (wake_ups_in history) reply).in_a_row ≤ (wake_ups_in history).in_a_row =
    reply_few (wake_ups_in history) reply (since_few history) in
    omega (arith, less, few)

pub row_is : (limit : ℕ) (history : History) (wake_ups : WakeUpsInCode) → IsCounting limit history wake_ups
    → wake_ups.in_a_row ≡ (wake_ups_in history).in_a_row
row_is limit history wake_ups is = ap (λ (count : WakeUps). count.in_a_row) is.count

-- the count stays that of the history when an observation is added
pub counting_on : (limit : ℕ) (history : History) (old new : WakeUpsInCode) (item : Observation)
    → IsCounting limit history old → new.limit ≡ old.limit → counted new ≡ after_item (counted old) item
    → (item ≡ Woke → old.in_a_row ≤ old.limit) → IsCounting limit (item ∷ history) new
counting_on limit history old new item is same next woke =
    let count : counted new ≡ after_item (wake_ups_in history) item =
    next ∙ ap (λ (before : WakeUps). after_item before item) is.count in
    record {
      same_limit = same ∙ is.same_limit;
      count = count;
      few = subst (λ (n : ℕ). n ≤ limit + 1) (sym (ap (λ (after : WakeUps). after.in_a_row) count))
          (item_few limit history item (subst (λ (n : ℕ). n ≤ limit + 1) (row_is limit history old is) is.few)
          (λ wakes. subst (λ (n : ℕ). n ≤ limit) (row_is limit history old is)
          (subst (λ (most : ℕ). old.in_a_row ≤ most) is.same_limit (woke wakes))));
    }

-- the next wake-up fits the numbers of the code
pub row_room : (limit : ℕ) (history : History) (wake_ups : WakeUpsInCode) → IsCounting limit history wake_ups
    → limit < 2 ^ 32 → wake_ups.in_a_row + 1 < 2 ^ 64
row_room limit history wake_ups is small = let few : wake_ups.in_a_row ≤ limit + 1 = is.few in
    omega (arith, few, small)

pub since_room : (limit : ℕ) (history : History) (wake_ups : WakeUpsInCode) → IsCounting limit history wake_ups
    → limit < 2 ^ 32 → wake_ups.since_reply + 1 < 2 ^ 64
since_room limit history wake_ups is small =
    let few : wake_ups.in_a_row ≤ limit + 1 = is.few in
    let since : wake_ups.since_reply ≤ wake_ups.in_a_row =
    subst (λ (count : WakeUps). count.since_reply ≤ count.in_a_row) (sym is.count) (since_few history) in
    omega (arith, few, since, small)
