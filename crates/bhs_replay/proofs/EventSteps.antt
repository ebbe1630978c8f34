-- What a line that spells an event leads to, by what the match answers.
use Rattle.std.proofs.Common.{◌≡◌, ℕ, ◌+◌, Bool, true, false, not, if◌then◌else◌, bytes_eq, List, [], ◌∷◌}
use Rattle.std.proofs.Common.{◌++◌, length, Option, Some, None, sym, ap, ◌∙◌}
use Rattle.std.specs.Prelude.{is_some, IsTrue, ◌↔◌}
use Rattle.std.proofs.lemmas.List.{length-map, map-append}
use Rattle.bhs_model.specs.declared.events.Event.{Event}
use Rattle.bhs_model.specs.declared.marks.Mark.{Mark}
use Rattle.bhs_model.specs.declared.marks.Kept.{Kept}
use Rattle.bhs_model.specs.Kept.{lost}
use Rattle.bhs_model.specs.Marks.{events_of}
use Rattle.bhs_model.specs.Runs.{reply}
use Rattle.bhs_world.specs.Tables.{keeps_next, log_after}
use Rattle.bhs_match.specs.Matches.{Play, world_in, state_of}
use Rattle.bhs_replay.specs.declared.faults.ReplayFault.TheVariants as fault
use Rattle.bhs_replay.specs.EventLine.{event_line}
use Rattle.bhs_model.specs.declared.replies.Reply.{Reply}
use Rattle.bhs_replay.specs.Played.{IsTyped, ReplyIsText}
use Rattle.bhs_replay.specs.Spelling.{may_stand, spelled, ReplyFits}
use Rattle.bhs_replay.specs.Stages.{ReadState, Goes, Wrong, after_event, after_line, after_spelled}
use Rattle.bhs_replay.proofs.EventReads.{event_utf8}
use Rattle.bhs_replay.proofs.EveryReplay.{stands}
use Rattle.bhs_replay.proofs.Spellings.{is_answer, spelled-event_line}

-- whether an event was kept, by its place
pub kept_by : (keep : Bool) (n : ℕ) (place : Option ℕ) (b none : Bool) → place ≡ (if keep then Some n else None)
    → is_some place ≡ not none → none ≡ b → keep ≡ not b
kept_by true n place b none is same given = sym (ap is_some is) ∙ (same ∙ ap not given)
kept_by false n place b none is same given = sym (ap is_some is) ∙ (same ∙ ap not given)

module _ (play : Play) (line : List ℕ) (event : Event) where
  abbrev judged : ℕ → (closed keep same : Bool) → ReadState
  judged count closed keep same =
      if closed then Wrong (fault.Line (count + 2))
      else (if not keep then Wrong (fault.Event (count + 2))
      else (if same then Goes play.net play.setup (events_of play.log ++ event ∷ [])
      else Wrong (fault.Differs (count + 2))))

  pub after_is : (count : ℕ) (closed keep same : Bool) → count ≡ length play.log → closed ≡ (state_of play).closed
      → keeps_next (world_in play) play.log event ≡ keep
      → same ≡ bytes_eq line (event_line event (reply (world_in play) (state_of play) event))
      → judged count closed keep same ≡ after_event play.net play.setup (events_of play.log) line event
  after_is count closed keep same counts is_closed is_kept is_same =
      ap (λ n. judged n closed keep same) (counts ∙ sym (length-map play.log (λ kept. kept.event)))
      ∙ ap (λ b. judged (length (events_of play.log)) b keep same) is_closed
      ∙ ap (λ b. judged (length (events_of play.log)) (state_of play).closed b same) (sym is_kept)
      ∙ ap (λ b. judged (length (events_of play.log)) (state_of play).closed
      (keeps_next (world_in play) play.log event) b) is_same

  -- the event was kept
  module _ (new : Play) (mark : Option Mark) (grown : new.log ≡ log_after (world_in play) play.log event mark)
      (is_kept : keeps_next (world_in play) play.log event ≡ true) where
    log_is : new.log ≡ play.log ++ record { event = event; mark = mark } ∷ []
    log_is = grown ∙ ap (λ b. if b then play.log ++ record { event = event; mark = mark } ∷ [] else play.log) is_kept

    pub goes_so : new.net ≡ play.net → new.setup ≡ play.setup
        → Goes new.net new.setup (events_of new.log) ≡ Goes play.net play.setup (events_of play.log ++ event ∷ [])
    goes_so net setup =
        ap (λ n. Goes n new.setup (events_of new.log)) net ∙ ap (λ s. Goes play.net s (events_of new.log)) setup
        ∙ ap (λ events. Goes play.net play.setup events) (ap events_of log_is
        ∙ map-append (λ (kept : Kept). kept.event) play.log (record { event = event; mark = mark } ∷ []))

-- ---- the line's reply beside that of the match

pub on_spelled : (play : Play) (line : List ℕ) (found : Event × Option Reply) → spelled line ≡ Some found
    → after_event play.net play.setup (events_of play.log) line found.0
    ≡ after_line play.net play.setup (events_of play.log) line
on_spelled play line found is = sym (ap (after_spelled play.net play.setup (events_of play.log) line) is)

pub is_answered : (play : Play) (line : List ℕ) (event : Event) (seen said : Option Reply)
    → said ≡ reply (world_in play) (state_of play) event → keeps_next (world_in play) play.log event ≡ true
    → IsTyped event → ReplyFits said → ReplyIsText said → spelled line ≡ Some (event, seen) → (is : Bool)
    → (IsTrue is ↔ (seen ≡ said))
    → is ≡ bytes_eq line (event_line event (reply (world_in play) (state_of play) event))
is_answered play line event seen said replied kept typed fits texts spells is same =
    let may : may_stand event said ≡ true = ap (may_stand event) replied ∙ stands (world_in play) (state_of play)
    (lost (world_in play) (events_of play.log)) event kept in
    is_answer line event seen said spells (spelled-event_line event said typed.0 fits may
    (event_utf8 event said typed.0 fits typed.1 texts)) is same
    ∙ ap (λ answer. bytes_eq line (event_line event answer)) replied
