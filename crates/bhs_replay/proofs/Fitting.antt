-- What a line spells has numbers of 16 bits, and the line is text.
use Rattle.std.proofs.Common.{◌≡◌, ℕ, ◌<◌, ◌^◌, Bool, true, false, if◌then◌else◌, ◌&&◌, List, codes, bytes_eq, Option}
use Rattle.std.proofs.Common.{Some, None, option_map, option_and_then, unwrap_or, nat_lt, refl, subst, ap}
use Rattle.std.proofs.lemmas.Bool.{ltb-true}
use Rattle.std.specs.Prelude.{⊤}
use Rattle.std.specs.Str.{IsUtf8, is_utf8}
use Rattle.std.proofs.lemmas.Str.{IsUtf8-from_is_utf8}
use Rattle.serde_json.specs.Data.{Data}
use Rattle.serde_json.specs.Find.{get, as_u64, as_number}
use Rattle.serde_json.specs.Read.{read}
use Rattle.bhs_model.specs.declared.commands.Command.{Command}
use Rattle.bhs_model.specs.declared.commands.Command.TheVariants.{Enter, Look, Depart, Accuse, Leave, Bad}
use Rattle.bhs_model.specs.declared.events.Event.{Event}
use Rattle.bhs_model.specs.declared.events.Event.TheVariants.{Tell, Deliver, Close}
use Rattle.bhs_model.specs.declared.replies.Reply.{Reply}
use Rattle.bhs_model.specs.declared.replies.Reply.TheVariants.{Written, Changed, Gone, Noted, Bye, Over, No}
use Rattle.bhs_model.specs.declared.replies.Why.{Why}
use Rattle.bhs_wire.specs.First.{text_at, if_port, port_at}
use Rattle.bhs_replay.specs.EventLine.{event_line}
use Rattle.bhs_wire.specs.ReplyNumbers.{LabelFits}
use Rattle.bhs_replay.specs.Spelling.{may_stand, CommandFits, EventFits, ReplyFits, write_with, write_in}
use Rattle.bhs_replay.specs.Spelling.{command_by, agents_by, event_by, event_in, why_by, here_with, here_in, changed_in}
use Rattle.bhs_replay.specs.Spelling.{ok_by, reply_by, reply_in, answer_in, if_spelled, spelled_in, spelled}

abbrev Each : {A : Type 0} → Option A → (A → Type 0) → Type 0
Each None P = ⊤
Each (Some a) P = P a

module _ {A : Type 0} (P : A → Type 0) where
  for_if : (b : Bool) (x y : Option A) → Each x P → Each y P → Each (if b then x else y) P
  for_if true x y h k = h
  for_if false x y h k = k

  for_then : {B : Type 0} (f : B → Option A) (Q : B → Type 0) (o : Option B) → ((b : B) → Q b → Each (f b) P) → Each o Q
      → Each (option_and_then f o) P
  for_then f Q None step h = tt
  for_then f Q (Some b) step h = step b h

  for_map : {B : Type 0} (f : B → A) (Q : B → Type 0) (o : Option B) → ((b : B) → Q b → P (f b)) → Each o Q
      → Each (option_map f o) P
  for_map f Q None step h = tt
  for_map f Q (Some b) step h = step b h

abbrev IsPort : ℕ → Type 0
IsPort n = n < 2 ^ 16

port_below : (n : ℕ) (b : Bool) → nat_lt n (2 ^ 16) ≡ b → Each (if b then Some n else None) IsPort
port_below n true h = ltb-true n (2 ^ 16) h
port_below n false h = tt

if_port-fits : (o : Option ℕ) → Each (option_and_then if_port o) IsPort
if_port-fits None = tt
if_port-fits (Some n) = port_below n _ refl

port_at-fits : (key : List ℕ) (value : Data) → Each (port_at key value) IsPort
port_at-fits key value = if_port-fits (option_and_then as_u64 (option_and_then as_number (get key value)))

write_with-fits : (expect put : Option (List ℕ)) → Each (write_with expect put) CommandFits
write_with-fits None put = tt
write_with-fits (Some expect) None = tt
write_with-fits (Some expect) (Some put) = tt

command_chain : (b1 b2 b3 b4 b5 b6 b7 : Bool) (write : Option Command) (port : Option ℕ) → Each write CommandFits
    → Each port IsPort
    → Each (if b1 then Some Enter else (if b2 then Some
    Look else (if b3 then write else (if b4 then option_map Depart
    port else (if b5 then option_map Accuse
    port else (if b6 then Some Leave else (if b7 then Some Bad else None))))))) CommandFits
command_chain true b2 b3 b4 b5 b6 b7 write port h k = tt
command_chain false true b3 b4 b5 b6 b7 write port h k = tt
command_chain false false true b4 b5 b6 b7 write port h k = h
command_chain false false false true b5 b6 b7 write port h k = for_map CommandFits Depart IsPort port (λ n r. r) k
command_chain false false false false true b6 b7 write port h k = for_map CommandFits Accuse IsPort port (λ n r. r) k
command_chain false false false false false true b7 write port h k = tt
command_chain false false false false false false true write port h k = tt
command_chain false false false false false false false write port h k = tt

command_by-fits : (word : List ℕ) (value : Data) → Each (command_by word value) CommandFits
command_by-fits word value =
    command_chain (bytes_eq word (codes "enter")) (bytes_eq word (codes "look")) (bytes_eq word (codes "write"))
    (bytes_eq word (codes "depart")) (bytes_eq word (codes "accuse"))
    (bytes_eq word (codes "leave")) (bytes_eq word (codes "bad")) (write_in value) (port_at (codes "port") value)
    (write_with-fits (text_at (codes "expect") value) (text_at (codes "put") value)) (port_at-fits (codes "port") value)

agents_by-fits : (word : List ℕ) (value : Data) (agent : ℕ) → IsPort agent → Each (agents_by word value agent) EventFits
agents_by-fits word value agent h = for_if EventFits (bytes_eq word (codes "deliver")) (Some (Deliver agent))
    (option_map (Tell agent) (command_by word value)) h
    (for_map EventFits (Tell agent) CommandFits (command_by word value) (λ command k. (h, k))
    (command_by-fits word value))

event_by-fits : (word : List ℕ) (value : Data) → Each (event_by word value) EventFits
event_by-fits word value = for_if EventFits (bytes_eq word (codes "close")) (Some Close)
    (option_and_then (agents_by word value) (port_at (codes "agent") value)) tt
    (for_then EventFits (agents_by word value) IsPort (port_at (codes "agent") value) (agents_by-fits word value)
    (port_at-fits (codes "agent") value))

event_in-fits : (value : Data) (word : Option (List ℕ)) → Each (option_and_then (λ w. event_by w value) word) EventFits
event_in-fits value None = tt
event_in-fits value (Some word) = event_by-fits word value

-- ---- replies

label_fits : (o : Option ℕ) → Each o IsPort → LabelFits o
label_fits None h = tt
label_fits (Some port) h = h

here_with-fits : (ports came : Option ℕ) (board : Option (List ℕ)) → Each ports IsPort → Each came IsPort
    → ReplyFits (here_with ports came board)
here_with-fits None came board h k = tt
here_with-fits (Some ports) came None h k = tt
here_with-fits (Some ports) came (Some board) h k = (h, label_fits came k)

changed_fits : (board : Option (List ℕ)) → ReplyFits (option_map Changed board)
changed_fits None = tt
changed_fits (Some board) = tt

ok_chain : (b1 b2 b3 b4 b5 b6 b7 : Bool) (here changed : Option Reply) → ReplyFits here → ReplyFits changed
    → ReplyFits (if b1 then here else (if b2 then Some
    Written else (if b3 then changed else (if b4 then Some
    Gone else (if b5 then Some Noted else (if b6 then Some Bye else (if b7 then Some Over else None)))))))
ok_chain true b2 b3 b4 b5 b6 b7 here changed h k = h
ok_chain false true b3 b4 b5 b6 b7 here changed h k = tt
ok_chain false false true b4 b5 b6 b7 here changed h k = k
ok_chain false false false true b5 b6 b7 here changed h k = tt
ok_chain false false false false true b6 b7 here changed h k = tt
ok_chain false false false false false true b7 here changed h k = tt
ok_chain false false false false false false true here changed h k = tt
ok_chain false false false false false false false here changed h k = tt

ok_by-fits : (word : List ℕ) (value : Data) → ReplyFits (ok_by word value)
ok_by-fits word value =
    ok_chain (bytes_eq word (codes "here")) (bytes_eq word (codes "written")) (bytes_eq word (codes "changed"))
    (bytes_eq word (codes "gone")) (bytes_eq word (codes "noted"))
    (bytes_eq word (codes "bye")) (bytes_eq word (codes "over")) (here_in value) (changed_in value)
    (here_with-fits (port_at (codes "ports") value) (port_at (codes "from") value) (text_at (codes "board") value)
    (port_at-fits (codes "ports") value) (port_at-fits (codes "from") value))
    (changed_fits (text_at (codes "board") value))

refusal_fits : (why : Option Why) → ReplyFits (option_map No why)
refusal_fits None = tt
refusal_fits (Some why) = tt

reply_by-fits : (word : Option (List ℕ)) (value : Data) → ReplyFits (reply_by word value)
reply_by-fits None value = refusal_fits (option_and_then why_by (text_at (codes "no") value))
reply_by-fits (Some word) value = ok_by-fits word value

answer_fits : (value : Option Data) → ReplyFits (option_and_then reply_in value)
answer_fits None = tt
answer_fits (Some value) = reply_by-fits (text_at (codes "ok") value) value

-- ---- lines

abbrev Fit : Event × Option Reply → Type 0
Fit found = EventFits found.0 × ReplyFits found.1

fits_if : (b : Bool) (event : Event) (reply : Option Reply) (found : Event × Option Reply) → EventFits event
    → ReplyFits reply → (if b then Some (event, reply) else None) ≡ Some found → Fit found
fits_if true event reply found h k is = subst Fit (ap (λ o. unwrap_or o (event, reply)) is) (h, k)
fits_if false event reply found h k is = absurd (cc)

fits_event : (text : List ℕ) (reply : Option Reply) (event : Option Event) (found : Event × Option Reply)
    → Each event EventFits → ReplyFits reply → option_and_then (if_spelled text reply) event ≡ Some found → Fit found
fits_event text reply None found h k is = absurd (cc)
fits_event text reply (Some event) found h k is =
    fits_if (may_stand event reply && bytes_eq text (event_line event reply)) event reply found h k is

fits_value : (text : List ℕ) (value : Option Data) (found : Event × Option Reply)
    → option_and_then (spelled_in text) value ≡ Some found → Fit found
fits_value text None found is = absurd (cc)
fits_value text (Some value) found is = fits_event text (answer_in value) (event_in value) found
    (event_in-fits value (text_at (codes "do") value)) (answer_fits (get (codes "reply") value)) is

pub spelled-fits : (text : List ℕ) (event : Event) (reply : Option Reply) → spelled text ≡ Some (event, reply)
    → EventFits event × ReplyFits reply
spelled-fits text event reply is = fits_value text (if is_utf8 text then read text else None) (event, reply) is

utf8_if : (text : List ℕ) (b : Bool) (found : Event × Option Reply)
    → option_and_then (spelled_in text) (if b then read text else None) ≡ Some found → b ≡ true
utf8_if text true found is = refl
utf8_if text false found is = absurd (cc)

pub spelled-utf8 : (text : List ℕ) (event : Event) (reply : Option Reply)
    → spelled text ≡ Some (event, reply) → IsUtf8 text
spelled-utf8 text event reply is = IsUtf8-from_is_utf8 text (utf8_if text (is_utf8 text) (event, reply) is)
