-- A text that comes to the end of a match is the replay of that match.
use Rattle.std.proofs.Common.{◌≡◌, ℕ, List, [], ◌∷◌, ◌++◌, Bool, true, false, not, ◌&&◌, bytes_eq, if◌then◌else◌}
use Rattle.std.proofs.Common.{length, Option, Some, None, refl, sym, subst, ap, ap₂, ◌∙◌, append_assoc, append-nil}
use Rattle.std.proofs.lemmas.Bool.{eqb-true}
use Rattle.std.proofs.lemmas.Slice.Eq.{bytes_eq-Decides}
use Rattle.bhs_net.specs.Network.{Network}
use Rattle.bhs_model.specs.declared.setups.Setup.{Setup}
use Rattle.bhs_model.specs.declared.events.Event.{Event}
use Rattle.bhs_model.specs.declared.replies.Reply.{Reply}
use Rattle.bhs_model.specs.Setups.{world_of}
use Rattle.bhs_model.specs.Worlds.{World}
use Rattle.bhs_model.specs.Runs.{initial, next, run, reply}
use Rattle.bhs_model.specs.InOrder.{replies}
use Rattle.bhs_model.proofs.AddLemmas.{events_add_lemma, replies_count}
use Rattle.bhs_wire.specs.Lines.{is_line_feed, rest_after, rest}
use Rattle.bhs_replay.specs.declared.faults.ReplayFault.{ReplayFault}
use Rattle.bhs_replay.specs.declared.faults.ReplayFault.TheVariants as fault
use Rattle.bhs_replay.specs.declared.heads.Version.{Version}
use Rattle.bhs_replay.specs.Head.{head_line, CanSay}
use Rattle.bhs_replay.specs.EventLine.{event_line}
use Rattle.bhs_replay.specs.Spelling.{spelled}
use Rattle.bhs_replay.specs.Replay.{end_line, event_lines, body_lines, with_feeds, replay}
use Rattle.bhs_replay.specs.Opening.{IsHead}
use Rattle.bhs_replay.specs.Stages.{ended_after, ended, next_number, is_end_line, ReadState, Opens, Goes, Ends, Wrong}
use Rattle.bhs_replay.specs.Stages.{after_spelled, Follows, opens, no_head, goes, goes_past, stays, Leads, begins}
use Rattle.bhs_replay.specs.Stages.{follows, with_rest, Comes}

-- ---- the lines of events, one more at a time

lines_more : (events : List Event) (answers : List (Option Reply)) (event : Event) (answer : Option Reply)
    → length answers ≡ length events
    → event_lines (events ++ event ∷ []) (answers ++ answer ∷ []) ≡ event_lines events answers
    ++ event_line event answer ∷ []
lines_more [] [] event answer same = refl
lines_more [] (other ∷ answers) event answer same = absurd (cc)
lines_more (one ∷ events) [] event answer same = absurd (cc)
lines_more (one ∷ events) (other ∷ answers) event answer same =
    let fewer : length answers ≡ length events = cc in
    ap (λ lines. event_line one other ∷ lines) (lines_more events answers event answer fewer)

pub told_more : (world : World) (events : List Event) (event : Event)
    → event_lines (events ++ event ∷ []) (replies world (events ++ event ∷ [])) ≡ event_lines events
    (replies world events) ++ event_line event (reply world (run world events) event) ∷ []
told_more world events event =
    ap (event_lines (events ++ event ∷ [])) (events_add_lemma world events event).answers
    ∙ lines_more events (replies world events) event (reply world (run world events) event)
    (replies_count world initial events)

-- ---- the result of reading the lines so far

-- a head, and the lines of these events
pub record IsGoing (lines : List (List ℕ)) (net : Network) (setup : Setup) (events : List Event) : Type 0 where
  pub head : List ℕ
  pub is_head : IsHead head net setup
  pub lines_are : lines ≡ head ∷ event_lines events (replies (world_of net setup) events)

pub record IsWhole (lines : List (List ℕ)) (net : Network) (setup : Setup) (events : List Event) : Type 0 where
  pub before : List (List ℕ)
  pub going : IsGoing before net setup events
  pub lines_are : lines ≡ before ++ end_line (length events) ∷ []

abbrev Shows : List (List ℕ) → ReadState → Type 0
Shows lines Opens = lines ≡ []
Shows lines (Goes net setup events) = IsGoing lines net setup events
Shows lines (Ends net setup events) = IsWhole lines net setup events
Shows lines (Wrong found) = Unit {0}

module _ (before : List (List ℕ)) (line : List ℕ) (net : Network) (setup : Setup) (events : List Event)
    (going : IsGoing before net setup events) where
  event_shows : (event : Event) (closed keep same : Bool)
      → bytes_eq line (event_line event (reply (world_of net setup) (run (world_of net setup) events) event)) ≡ same
      → Shows (before ++ line ∷ []) (if closed then Wrong
      (fault.Line (next_number events)) else (if not keep then Wrong (fault.Event (next_number events))
      else (if same then Goes net setup (events ++ event ∷ []) else Wrong (fault.Differs (next_number events)))))
  event_shows event true keep same is = tt
  event_shows event false false same is = tt
  event_shows event false true false is = tt
  event_shows event false true true is = record {
    head = going.head;
    is_head = going.is_head;
    lines_are = ap₂ (λ (lines : List (List ℕ)) (last : List ℕ). lines ++ last ∷ []) going.lines_are
        ((bytes_eq-Decides line _).0 is)
        ∙ ap (λ (lines : List (List ℕ)). going.head ∷ lines) (sym (told_more (world_of net setup) events event));
  }

  other_shows : (closed same : Bool) (found : ReplayFault) → bytes_eq line (end_line (length events)) ≡ same
      → Shows (before ++ line ∷ []) (if closed && same then Ends net setup events else Wrong found)
  other_shows true true found is = record {
    before = before;
    going = going;
    lines_are = ap (λ (last : List ℕ). before ++ last ∷ [])
        ((bytes_eq-Decides line (end_line (length events))).0 is);
  }
  other_shows true false found is = tt
  other_shows false same found is = tt

  spelled_shows : (found : Option (Event × Option Reply))
      → Shows (before ++ line ∷ []) (after_spelled net setup events line found)
  spelled_shows (Some (event, answer)) = event_shows event _ _ _ refl
  spelled_shows None = other_shows _ _ (if is_end_line line then fault.End else fault.Line (next_number events)) refl

first_shows : (before : List (List ℕ)) (line : List ℕ) (net : Network) (setup : Setup) → before ≡ []
    → IsHead line net setup → IsGoing (before ++ line ∷ []) net setup []
first_shows before line net setup none head =
    record { head = line; is_head = head; lines_are = ap (λ (lines : List (List ℕ)). lines ++ line ∷ []) none }

follows_shows : (before : List (List ℕ)) (line : List ℕ) (from to : ReadState) → Follows from line to
    → Shows before from
    → Shows (before ++ line ∷ []) to
follows_shows before line from to (opens same net setup head) shown = first_shows before same net setup shown head
follows_shows before line from to (no_head same none) shown = tt
follows_shows before line from to (goes same net setup events next is) shown =
    subst (Shows (before ++ same ∷ [])) (sym is) (spelled_shows before same net setup events shown (spelled same))
follows_shows before line from to (goes_past same net setup events) shown = tt
follows_shows before line from to (stays same found) shown = tt

leads_shows : (lines : List (List ℕ)) (stage : ReadState) → Leads lines stage → Shows lines stage
leads_shows lines stage begins = refl
leads_shows lines stage (follows before line from to leads next) =
    follows_shows before line from to next (leads_shows before from leads)

-- ---- the text

feed_is : (byte : ℕ) → is_line_feed byte ≡ true → byte ≡ 10
feed_is byte is = eqb-true byte 10 is

text_at : (line bytes : List ℕ) (byte : ℕ) (b : Bool) → is_line_feed byte ≡ b
    → ((l : List ℕ) → with_feeds (ended_after l bytes) ++ rest_after l bytes ≡ l ++ bytes)
    → with_feeds ((if b then line ∷ [] else []) ++ ended_after (if b then [] else line ++ byte ∷ []) bytes)
    ++ rest_after (if b then [] else line ++ byte ∷ []) bytes ≡ line ++ byte ∷ bytes
text_at line bytes byte true is whole =
    append_assoc (line ++ 10 ∷ []) (with_feeds (ended_after [] bytes)) (rest_after [] bytes)
    ∙ (ap (λ (text : List ℕ). (line ++ 10 ∷ []) ++ text) (whole [])
    ∙ (append_assoc line (10 ∷ []) bytes ∙ ap (λ (b : ℕ). line ++ b ∷ bytes) (sym (feed_is byte is))))
text_at line bytes byte false is whole = whole (line ++ byte ∷ []) ∙ append_assoc line (byte ∷ []) bytes

text_whole : (line bytes : List ℕ) → with_feeds (ended_after line bytes) ++ rest_after line bytes ≡ line ++ bytes
text_whole line [] = sym (append-nil line)
text_whole line (byte ∷ bytes) = text_at line bytes byte (is_line_feed byte) refl (λ l. text_whole l bytes)

ends_quiet : (bytes : List ℕ) (stage : ReadState) (net : Network) (setup : Setup) (events : List Event)
    → Ends net setup events ≡ with_rest bytes stage → (bytes ≡ []) × (stage ≡ Ends net setup events)
ends_quiet [] stage net setup events is = (refl, sym is)
ends_quiet (byte ∷ bytes) Opens net setup events is = absurd (cc)
ends_quiet (byte ∷ bytes) (Goes n s e) net setup events is = absurd (cc)
ends_quiet (byte ∷ bytes) (Ends n s e) net setup events is = absurd (cc)
ends_quiet (byte ∷ bytes) (Wrong found) net setup events is = absurd (cc)

pub sound : (text : List ℕ) (net : Network) (setup : Setup) (events : List Event) → Comes text (Ends net setup events)
    → (version : Version) × CanSay version net setup × (text ≡ replay version net setup events)
sound text net setup events comes =
    let quiet = ends_quiet (rest text) comes.lines net setup events comes.same in
    let whole : IsWhole (ended text) net setup events =
    leads_shows (ended text) (Ends net setup events) (subst (λ s. Leads (ended text) s) quiet.1 comes.leads) in
    let head = whole.going.is_head in
    let lines : ended text ≡ head_line head.version net setup ∷ body_lines net setup events =
    whole.lines_are ∙ (ap (λ (ls : List (List ℕ)). ls ++ end_line (length events) ∷ []) whole.going.lines_are
    ∙ ap (λ (first : List ℕ). first ∷ body_lines net setup events) head.spelled)
    in (
      head.version,
      head.can_say,
      sym (text_whole [] text) ∙ (ap (λ (left : List ℕ). with_feeds (ended text) ++ left) quiet.0
          ∙ (append-nil (with_feeds (ended text)) ∙ ap with_feeds lines)),
    )
