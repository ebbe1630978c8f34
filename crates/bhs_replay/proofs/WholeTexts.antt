-- The replay of a match comes to the end of that match.
use Rattle.std.proofs.Common.{◌≡◌, ℕ, ◌<◌, ◌^◌, List, [], ◌∷◌, ◌++◌, Bool, true, false, not, bytes_eq, length}
use Rattle.std.proofs.Common.{get_or, codes, decimal, nat_lt, Option, Some, None, inl, inr, refl, sym, subst, ap, ap₂}
use Rattle.std.proofs.Common.{◌∙◌, arith, append_assoc, append-nil}
use Rattle.std.specs.Prelude.{⊤}
use Rattle.std.proofs.lemmas.Bool.{and_parts, or_cases}
use Rattle.std.proofs.lemmas.Slice.Eq.{bytes_eq-Decides}
use Rattle.bhs_net.specs.Network.{Network}
use Rattle.bhs_model.specs.declared.setups.Setup.{Setup}
use Rattle.bhs_model.specs.declared.events.Event.{Event}
use Rattle.bhs_model.specs.declared.events.Event.TheVariants.{Tell, Deliver, Close}
use Rattle.bhs_model.specs.declared.replies.Reply.{Reply}
use Rattle.bhs_model.specs.Setups.{world_of}
use Rattle.bhs_model.specs.Worlds.{World}
use Rattle.bhs_model.specs.Runs.{State, initial, next, run, reply, arrives}
use Rattle.bhs_model.specs.InOrder.{replies, replies_from}
use Rattle.bhs_model.specs.Kept.{keeps, kept, kept_from, lost, lost_after, destroys, nobody}
use Rattle.bhs_model.proofs.KeptLemmas.{first_kept}
use Rattle.bhs_model.proofs.AddLemmas.{events_add_lemma}
use Rattle.bhs_wire.specs.Lines.{rest_after, rest}
use Rattle.bhs_wire.proofs.StreamLaws.{rest_after-append}
use Rattle.bhs_replay.specs.declared.heads.Version.{Version}
use Rattle.bhs_replay.specs.Head.{head_line}
use Rattle.bhs_replay.specs.EventLine.{event_line}
use Rattle.bhs_replay.specs.Spelling.{spelled}
use Rattle.bhs_replay.specs.Replay.{end_line, event_lines, body_lines, with_feeds, replay}
use Rattle.bhs_replay.specs.Opening.{IsHead}
use Rattle.bhs_replay.proofs.Spelled.{AreSpelled}
use Rattle.bhs_replay.specs.Stages.{ended_after, ended, Opens, Goes, Ends, after_line, opens, goes, Leads, begins}
use Rattle.bhs_replay.specs.Stages.{follows, with_rest, Comes}
use Rattle.bhs_replay.proofs.Spellings.{event_line-spelled}
use Rattle.bhs_replay.proofs.Fitting.{spelled-fits}
use Rattle.bhs_replay.proofs.EventReads.{event_flat}
use Rattle.bhs_replay.proofs.HeadReads.{head_flat}
use Rattle.bhs_replay.proofs.FitLemmas.{head_fits}
use Rattle.bhs_replay.proofs.OpeningLemmas.{fit_within}
use Rattle.bhs_replay.proofs.TextLines.{ended-append, rest-line, ended-line}
use Rattle.bhs_replay.proofs.Flat.{IsFlat, flat_append, decimal_flat}

-- ---- no line has a line feed inside

spelled_flat : (event : Event) (answer : Option Reply) → spelled (event_line event answer) ≡ Some (event, answer)
    → IsFlat (event_line event answer)
spelled_flat event answer is =
    let fits = spelled-fits (event_line event answer) event answer is in event_flat event answer fits.0 fits.1

end_flat : (count : ℕ) → count < 2 ^ 64 → IsFlat (end_line count)
end_flat count small = flat_append (codes "{\"end\":") (decimal count ++ codes "}") refl
    (flat_append (decimal count) (codes "}") (decimal_flat count small) refl)

is_head_flat : (line : List ℕ) (net : Network) (setup : Setup) → IsHead line net setup → IsFlat line
is_head_flat line net setup head =
    let fits = head_fits net head.made.network setup (fit_within net setup head.made.network.labelled head.fits) in
    subst IsFlat (sym head.spelled) (head_flat net setup fits head.version)

-- ---- concatenation of lines

abbrev AreFlat : List (List ℕ) → Type 0
AreFlat [] = ⊤
AreFlat (line ∷ lines) = IsFlat line × AreFlat lines

ended_same : (lines : List (List ℕ)) → AreFlat lines → ended (with_feeds lines) ≡ lines
ended_same [] flat = refl
ended_same (line ∷ lines) flat =
    ended-append [] (line ++ 10 ∷ []) (with_feeds lines)
    ∙ ap₂ (λ (first : List (List ℕ)) (left : List ℕ). first ++ ended_after left (with_feeds lines))
    (ended-line [] line flat.0) (rest-line [] line)
    ∙ ap (λ (others : List (List ℕ)). line ∷ others) (ended_same lines flat.1)

rest_none : (lines : List (List ℕ)) → rest (with_feeds lines) ≡ []
rest_none [] = refl
rest_none (line ∷ lines) = rest_after-append [] (line ++ 10 ∷ []) (with_feeds lines)
    ∙ ap (λ (left : List ℕ). rest_after left (with_feeds lines)) (rest-line [] line) ∙ rest_none lines

events_flat : (events : List Event) (answers : List (Option Reply)) (count : ℕ) → count < 2 ^ 64
    → AreSpelled events answers → AreFlat (event_lines events answers ++ end_line count ∷ [])
events_flat [] answers count small all = (end_flat count small, tt)
events_flat (event ∷ events) [] count small all = (end_flat count small, tt)
events_flat (event ∷ events) (answer ∷ others) count small all =
    (spelled_flat event answer all.0, events_flat events others count small all.1)

-- ---- kept events

pub not_true : (b : Bool) → not b ≡ true → b ≡ false
not_true true is = absurd (cc)
not_true false is = refl

is_open : (world : World) (state : State) (gone : ℕ → Bool) (event : Event) → keeps world state gone event ≡ true
    → state.closed ≡ false
is_open world state gone (Tell agent command) is =
    not_true state.closed (and_parts (not state.closed) _ (and_parts (nat_lt agent world.agents) _ is).1).0
is_open world state gone (Deliver agent) is = elim (or_cases (arrives world state agent) _ is) [
  | inl there ↦ not_true state.closed (and_parts (not state.closed) _ there).0
  | inr destroyed ↦ not_true state.closed (and_parts (not state.closed) _
      (and_parts (destroys world state agent) _ destroyed).0).0
]
is_open world state gone Close is = not_true state.closed is

-- ---- what the lines lead to

not_a : (n : ℕ) → n ≡ 101 → n ≡ 97 → ⊥
not_a n is other = omega (arith, is, other)

not_d : (n : ℕ) → n ≡ 101 → n ≡ 100 → ⊥
not_d n is other = omega (arith, is, other)

third : (event : Event) (answer : Option Reply) (count : ℕ) → end_line count ≡ event_line event answer → ⊥
third (Tell agent command) answer count same = not_a _ refl (ap (λ l. get_or l 2 0) same)
third (Deliver agent) answer count same = not_a _ refl (ap (λ l. get_or l 2 0) same)
third Close answer count same = not_d _ refl (ap (λ l. get_or l 2 0) same)

no_event : (count : ℕ) (found : Option (Event × Option Reply)) → spelled (end_line count) ≡ found → found ≡ None
no_event count None is = refl
no_event count (Some (event, answer)) is = absurd
    (third event answer count (event_line-spelled (end_line count) event answer is).0)

same_bytes : (text : List ℕ) → bytes_eq text text ≡ true
same_bytes text = (bytes_eq-Decides text text).1 refl

module _ (net : Network) (setup : Setup) where
  event_step : (before : List Event) (event : Event) → keeps (world_of net setup) (run (world_of net setup) before)
      (lost (world_of net setup) before) event ≡ true
      → spelled (event_line event (reply (world_of net setup) (run (world_of net setup) before) event)) ≡ Some
      (event, reply (world_of net setup) (run (world_of net setup) before) event)
      → after_line net setup before (event_line event
      (reply (world_of net setup) (run (world_of net setup) before) event)) ≡ Goes net setup (before ++ event ∷ [])
  event_step before event keep reads =
      rw (
        reads,
        is_open (world_of net setup) (run (world_of net setup) before) (lost (world_of net setup) before) event keep,
        keep,
        same_bytes (event_line event (reply (world_of net setup) (run (world_of net setup) before) event)),
      ) refl

  end_step : (events : List Event) → (run (world_of net setup) events).closed ≡ true
      → after_line net setup events (end_line (length events)) ≡ Ends net setup events
  end_step events closed = rw (no_event (length events) _ refl, closed, same_bytes (end_line (length events))) refl

  leads_body : (lines : List (List ℕ)) (before events : List Event) (state : State) (gone : ℕ → Bool)
      → state ≡ run (world_of net setup) before → gone ≡ lost (world_of net setup) before
      → kept_from (world_of net setup) state gone events ≡ events
      → AreSpelled events (replies_from (world_of net setup) state events)
      → (run (world_of net setup) (before ++ events)).closed ≡ true → Leads lines (Goes net setup before)
      → Leads (lines ++ (event_lines events (replies_from (world_of net setup) state events)
      ++ end_line (length (before ++ events)) ∷ [])) (Ends net setup (before ++ events))
  leads_body lines before [] state gone stands missing kept_all reads closed leads =
      let all : before ++ [] ≡ before = append-nil before in
      subst (λ (es : List Event). Leads (lines ++ end_line (length es) ∷ []) (Ends net setup es)) (sym all)
      (follows lines (end_line (length before)) (Goes net setup before) (Ends net setup before) leads
      (goes (end_line (length before)) net setup before (Ends net setup before)
      (sym (end_step before (subst (λ (es : List Event). (run (world_of net setup) es).closed ≡ true) all
      closed)))))
  leads_body lines before (event ∷ events) state gone stands missing kept_all reads closed leads =
      let world = world_of net setup in
      let adds = events_add_lemma world before event in
      let kept = first_kept world state gone event events kept_all in
      let line = event_line event (reply world state event) in
      let keep : keeps world (run world before) (lost world before) event ≡ true =
      ap₂ (λ (s : State) (g : ℕ → Bool). keeps world s g event) (sym stands) (sym missing) ∙ kept.first in
      let step : Leads (lines ++ line ∷ []) (Goes net setup (before ++ event ∷ [])) =
      follows lines line (Goes net setup before) (Goes net setup (before ++ event ∷ [])) leads
      (goes line net setup before (Goes net setup (before ++ event ∷ []))
      (subst (λ (s : State). Goes net setup (before ++ event ∷ []) ≡ after_line net setup before
      (event_line event (reply world s event))) (sym stands)
      (sym (event_step before event keep (subst
      (λ (s : State). spelled (event_line event (reply world s event)) ≡ Some (event, reply world s event))
      stands reads.0)))))
      in
      let others =
      leads_body (lines ++ line ∷ []) (before ++ event ∷ []) events (next world state event)
      (lost_after world state gone event)
      (ap (λ (s : State). next world s event) stands ∙ sym adds.state)
      (ap₂ (λ (s : State) (g : ℕ → Bool). lost_after world s g event) stands missing ∙ sym adds.victims)
      kept.others reads.1 (subst (λ (es : List Event). (run world es).closed ≡ true)
      (sym (append_assoc before (event ∷ []) events)) closed) step
      in
      subst (λ (es : List Event). Leads (lines
      ++ (event_lines (event ∷ events) (replies_from world state (event ∷ events)) ++ end_line (length es) ∷ []))
      (Ends net setup es))
      (append_assoc before (event ∷ []) events)
      (subst (λ (ls : List (List ℕ)). Leads ls (Ends net setup ((before ++ event ∷ []) ++ events)))
      (append_assoc lines (line ∷ []) (event_lines events (replies_from world (next world state event) events)
      ++ end_line (length ((before ++ event ∷ []) ++ events)) ∷ [])) others)

pub complete : (version : Version) (net : Network) (setup : Setup) (events : List Event)
    → IsHead (head_line version net setup) net setup
    → kept (world_of net setup) events ≡ events → (run (world_of net setup) events).closed ≡ true
    → AreSpelled events (replies (world_of net setup) events) → length events < 2 ^ 64
    → Comes (replay version net setup events) (Ends net setup events)
complete version net setup events head kept_all closed reads small =
    let line = head_line version net setup in
    let lines = line ∷ body_lines net setup events in
    let flat : AreFlat lines = (
      is_head_flat line net setup head,
      events_flat events (replies (world_of net setup) events)
          (length events) small reads,
    ) in
    let first : Leads (line ∷ []) (Goes net setup []) =
    follows [] line Opens (Goes net setup []) begins (opens line net setup head) in
    record {
      lines = Ends net setup events;
      leads = subst (λ (ls : List (List ℕ)). Leads ls (Ends net setup events)) (sym (ended_same lines flat))
          (leads_body net setup (line ∷ []) [] events initial nobody refl refl kept_all reads closed first);
      same = subst (λ (left : List ℕ). Ends net setup events ≡ with_rest left (Ends net setup events))
          (sym (rest_none lines)) refl;
    }
