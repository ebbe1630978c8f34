-- A line spells an event and a reply exactly if it is their line.
use Rattle.std.proofs.Common.{◌≡◌, ℕ, ◌<◌, ◌^◌, Bool, true, false, cond, if◌then◌else◌, ◌&&◌, List, bytes_eq, codes}
use Rattle.std.proofs.Common.{Option, Some, None, option_and_then, unwrap_or, nat_lt, refl, sym, subst, ap, ◌∙◌}
use Rattle.std.proofs.lemmas.Bool.{lt-ltb}
use Rattle.std.specs.Bool.{OnTrue}
use Rattle.std.specs.Prelude.{IsTrue, ◌↔◌}
use Rattle.std.proofs.lemmas.Slice.Eq.{bytes_eq-Decides}
use Rattle.std.specs.Str.{IsUtf8, is_utf8}
use Rattle.std.proofs.lemmas.Str.{is_utf8-from_IsUtf8, IsUtf8-from_is_utf8}
use Rattle.serde_json.specs.Data.{Data}
use Rattle.serde_json.specs.Find.{get}
use Rattle.serde_json.specs.Read.{read}
use Rattle.bhs_model.specs.declared.commands.Command.TheVariants.{Enter, Look, Write, Depart, Accuse, Leave, Bad}
use Rattle.bhs_model.specs.declared.events.Event.{Event}
use Rattle.bhs_model.specs.declared.events.Event.TheVariants.{Tell, Deliver, Close}
use Rattle.bhs_model.specs.declared.replies.Reply.{Reply}
use Rattle.bhs_model.specs.declared.replies.Reply.TheVariants.{Here, Written, Changed, Gone, Noted, Bye, Over, No}
use Rattle.bhs_model.specs.declared.replies.Why.{Why}
use Rattle.bhs_model.specs.declared.replies.Why.TheVariants.{Agent, Outside, Twice, Ended, Spent, Away, Line, Port}
use Rattle.bhs_model.specs.declared.replies.Why.TheVariants.{Long}
use Rattle.bhs_wire.proofs.ReplyData.{data_of}
use Rattle.bhs_replay.specs.EventLine.{event_line}
use Rattle.bhs_replay.proofs.EventData.{answer_data, event_data}
use Rattle.bhs_replay.specs.Spelling.{may_stand, EventFits, ReplyFits, reply_in, answer_in, event_in, if_spelled}
use Rattle.bhs_replay.specs.Spelling.{spelled_in, spelled}
use Rattle.bhs_replay.proofs.EventReads.{read-event_line}

small : (n : ℕ) → n < 2 ^ 16 → nat_lt n (2 ^ 16) ≡ true
small n fits = lt-ltb n (2 ^ 16) fits

refusal_in-data : (why : Why) → reply_in (data_of (No why)) ≡ Some (No why)
refusal_in-data Agent = refl
refusal_in-data Outside = refl
refusal_in-data Twice = refl
refusal_in-data Ended = refl
refusal_in-data Spent = refl
refusal_in-data Away = refl
refusal_in-data Line = refl
refusal_in-data Port = refl
refusal_in-data Long = refl

pub reply_in-data : (reply : Reply) → ReplyFits (Some reply) → reply_in (data_of reply) ≡ Some reply
reply_in-data (Here ports None board) fits = rw (small ports fits.0)
reply_in-data (Here ports (Some port) board) fits = rw (small ports fits.0, small port fits.1)
reply_in-data Written fits = refl
reply_in-data (Changed board) fits = refl
reply_in-data Gone fits = refl
reply_in-data Noted fits = refl
reply_in-data Bye fits = refl
reply_in-data Over fits = refl
reply_in-data (No why) fits = refusal_in-data why

answer_in-null_or : (reply : Option Reply) → ReplyFits reply
    → option_and_then reply_in (Some (answer_data reply)) ≡ reply
answer_in-null_or None fits = refl
answer_in-null_or (Some reply) fits = reply_in-data reply fits

-- the data of a line say its event, and its reply stands among them
says-event_data : (event : Event) (reply : Option Reply) → EventFits event
    → (event_in (event_data event reply) ≡ Some event)
    × (get (codes "reply") (event_data event reply) ≡ Some (answer_data reply))
says-event_data (Tell agent Enter) reply fits = (rw (small agent fits.0) refl, refl)
says-event_data (Tell agent Look) reply fits = (rw (small agent fits.0) refl, refl)
says-event_data (Tell agent (Write expect put)) reply fits = (rw (small agent fits.0) refl, refl)
says-event_data (Tell agent (Depart port)) reply fits = (rw (small agent fits.0, small port fits.1) refl, refl)
says-event_data (Tell agent (Accuse port)) reply fits = (rw (small agent fits.0, small port fits.1) refl, refl)
says-event_data (Tell agent Leave) reply fits = (rw (small agent fits.0) refl, refl)
says-event_data (Tell agent Bad) reply fits = (rw (small agent fits.0) refl, refl)
says-event_data (Deliver agent) reply fits = (rw (small agent fits) refl, refl)
says-event_data Close reply fits = (refl, refl)

-- ---- both ways

same_bytes : (text : List ℕ) → bytes_eq text text ≡ true
same_bytes text = (bytes_eq-Decides text text).1 refl

-- the line of an event and a reply spells them
pub spelled-event_line : (event : Event) (reply : Option Reply) → EventFits event → ReplyFits reply
    → may_stand event reply ≡ true → IsUtf8 (event_line event reply)
    → spelled (event_line event reply) ≡ Some (event, reply)
spelled-event_line event reply fits answer stands text =
    let says = says-event_data event reply fits in
    rw (
      is_utf8-from_IsUtf8 _ text,
      read-event_line event reply fits answer,
      says.0,
      says.1,
      answer_in-null_or reply answer,
      stands,
      same_bytes (event_line event reply),
    )

-- a line that is theirs spells them, if the reply may stand there
pub spelled-seen : (text : List ℕ) (event : Event) (reply : Option Reply) → EventFits event → ReplyFits reply
    → IsUtf8 (event_line event reply) → text ≡ event_line event reply → (is : Bool) → is ≡ may_stand event reply
    → OnTrue is (spelled text ≡ Some (event, reply))
spelled-seen text event reply fits answer valid same true is =
    ap spelled same ∙ spelled-event_line event reply fits answer (sym is) valid
spelled-seen text event reply fits answer valid same false is = tt

-- ---- what the reading of a line gave

pub spelled-read : (text : List ℕ) (value : Data) → IsUtf8 text → read text ≡ Some value
    → spelled_in text value ≡ spelled text
spelled-read text value valid found =
    sym (ap (λ b. option_and_then (spelled_in text) (cond b (read text) None)) (is_utf8-from_IsUtf8 text valid)
    ∙ ap (option_and_then (spelled_in text)) found)

unread : (text : List ℕ) (b : Bool) (r : Option Data) → (b ≡ true → r ≡ None)
    → option_and_then (spelled_in text) (cond b r None) ≡ None
unread text true r none = ap (option_and_then (spelled_in text)) (none refl)
unread text false r none = refl

pub spelled-unread : (text : List ℕ) → (IsUtf8 text → read text ≡ None) → None ≡ spelled text
spelled-unread text none = sym (unread text (is_utf8 text) (read text) (λ h. none (IsUtf8-from_is_utf8 text h)))

-- ---- the canonical line of what a line spells is that line

checked : (text : List ℕ) (reply : Option Reply) (event : Event) (found : Event × Option Reply) (stands same : Bool)
    → may_stand event reply ≡ stands → bytes_eq text (event_line event reply) ≡ same
    → cond (stands && same) (Some (event, reply)) None ≡ Some found → (text ≡ event_line found.0 found.1)
    × (may_stand found.0 found.1 ≡ true)
checked text reply event found true true stands same is =
    let both : (event, reply) ≡ found = ap (λ o. unwrap_or o (event, reply)) is in
    subst (λ f. (text ≡ event_line f.0 f.1) × (may_stand f.0 f.1 ≡ true)) both
    ((bytes_eq-Decides text (event_line event reply)).0 same, stands)
checked text reply event found true false stands same is = absurd (cc)
checked text reply event found false same_text stands same is = absurd (cc)

from_event : (text : List ℕ) (reply : Option Reply) (event : Option Event) (found : Event × Option Reply)
    → option_and_then (if_spelled text reply) event ≡ Some found
    → (text ≡ event_line found.0 found.1) × (may_stand found.0 found.1 ≡ true)
from_event text reply None found is = absurd (cc)
from_event text reply (Some event) found is = checked text reply event found _ _ refl refl is

from_value : (text : List ℕ) (value : Option Data) (found : Event × Option Reply)
    → option_and_then (spelled_in text) value ≡ Some found
    → (text ≡ event_line found.0 found.1) × (may_stand found.0 found.1 ≡ true)
from_value text None found is = absurd (cc)
from_value text (Some value) found is = from_event text (answer_in value) (event_in value) found is

pub event_line-spelled : (text : List ℕ) (event : Event) (reply : Option Reply) → spelled text ≡ Some (event, reply)
    → (text ≡ event_line event reply) × (may_stand event reply ≡ true)
event_line-spelled text event reply is = from_value text (if is_utf8 text then read text else None) (event, reply) is

-- ---- a line is the line of an answer exactly if its own reply is that answer

told_apart : (line : List ℕ) (event : Event) (seen said : Option Reply) → spelled line ≡ Some (event, seen)
    → spelled (event_line event said) ≡ Some (event, said) → line ≡ event_line event said → seen ≡ said
told_apart line event seen said is answer same =
    ap (λ (found : Option (Event × Option Reply)). (unwrap_or {T = Event × Option Reply} found (event, seen)).1)
    (sym is ∙ (ap spelled same ∙ answer))

not_so : (same : Bool) → (same ≡ true → ⊥) → false ≡ same
not_so true no_way = absurd (no_way refl)
not_so false no_way = refl

pub is_answer : (line : List ℕ) (event : Event) (seen said : Option Reply) → spelled line ≡ Some (event, seen)
    → spelled (event_line event said) ≡ Some (event, said) → (is : Bool) → (IsTrue is ↔ (seen ≡ said))
    → is ≡ bytes_eq line (event_line event said)
is_answer line event seen said spells answer true same =
    let own = event_line-spelled line event seen spells in
    sym ((bytes_eq-Decides line (event_line event said)).1 (own.0 ∙ ap (event_line event) (same.0 refl)))
is_answer line event seen said spells answer false same =
    not_so (bytes_eq line (event_line event said)) (λ equal.
    let same_line = (bytes_eq-Decides line (event_line event said)).0 equal in
    cc (same.1 (told_apart line event seen said spells answer same_line)))
