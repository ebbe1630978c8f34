-- How the code takes items, move by move. Only contracts of private functions cite it.
use Rattle.std.specs.Prelude.{ℕ, ◌≡◌, Bool, true, false, Option, Some, None, List, [], ◌++◌, option_map}
use Rattle.std.specs.Prelude.{option_and_then, slice_get, if◌then◌else◌, Ok, Err}
use Rattle.std.specs.declared.alloc.AllocError.{AllocError}
use Rattle.std.specs.declared.result.Result.{Result}
use Rattle.bhs_model.specs.declared.events.Event.{Event}
use Rattle.bhs_model.specs.declared.events.Event.TheVariants.{Deliver}
use Rattle.bhs_model.specs.declared.marks.Kept.{Kept}
use Rattle.bhs_model.specs.declared.marks.Mark.{Mark}
use Rattle.bhs_model.specs.declared.replies.Reply.{Reply}
use Rattle.bhs_session.specs.Texts.{text_of}
use Rattle.bhs_rehearsal.specs.Games.{Game, played, reply_to}
use Rattle.bhs_rehearsal.specs.Connections.{Item, TakenItems, taken}
use Rattle.bhs_rehearsal.specs.Stages.{EntryResult, Waits, Sits, IsDenied, Goes, Moved, Stepped, with_game}
use Rattle.bhs_rehearsal.specs.Rehearsing.{Rehearsing, on_stage}
use Rattle.bhs_rehearsal.specs.declared.entries.EntryResult.{EntryResult as EntryOfCode}
use Rattle.bhs_rehearsal.specs.declared.entries.EntryResult.TheVariants as entries
use Rattle.bhs_rehearsal.specs.declared.faults.RehearsalFault.{RehearsalFault}
use Rattle.bhs_rehearsal.specs.declared.faults.RehearsalFault.TheVariants.{Memory}

-- prepends a text to the output of the taken items
abbrev pub behind : List ℕ → TakenItems → TakenItems
behind text taken = record taken { text = text ++ taken.text }

-- after this text the connection is done, or goes on with these items
abbrev pub goes_on : (is_done : Bool) → Game → (agent : ℕ) → List Item → (text : List ℕ) → TakenItems
goes_on true game agent items text = record { game = game; is_done = true; left = []; text = text }
goes_on false game agent items text = behind text (taken game agent items)

-- The remaining items; none for a closed connection.
abbrev pub left_if : (is_done : Bool) → List Item → List Item
left_if is_done items = if is_done then [] else items

-- an entry of the code
abbrev pub seen_entry : EntryOfCode → EntryResult
seen_entry entries.Waits = Waits
seen_entry (entries.Sits seat) = Sits seat
seen_entry (entries.Denied denial) = IsDenied denial
seen_entry entries.Goes = Goes

-- what a move makes of a rehearsal, and of a text that the move's is added to, unless memory runs out
abbrev pub IsMoved : Rehearsing → Moved → (before : List ℕ) → Result (Unit {0}) AllocError → (text : List ℕ)
    → Rehearsing → Type 0
IsMoved old moved before (Ok done) text new = (text ≡ before ++ moved.text) × (new ≡ on_stage old moved.stage)
IsMoved old moved before (Err memory) text new = Unit {0}

-- and what an instruction makes; by `sent` the answer gives what is sent
abbrev pub IsStepped : {T : Type 0} (sent : T → List (ℕ × List ℕ)) → Rehearsing → Stepped → Result T AllocError
    → Rehearsing → Type 0
IsStepped sent old stepped (Ok outs) new = (sent outs ≡ stepped.outs) × (new ≡ on_stage old stepped.stage)
IsStepped sent old stepped (Err memory) new = Unit {0}

-- what a call gives of it: a rehearsal without memory has failed
abbrev pub IsConcluded : {T : Type 0} → Rehearsing → Result T AllocError → Result T RehearsalFault → Rehearsing → Type 0
IsConcluded old (Ok outs) result new = (result ≡ Ok outs) × (new ≡ old)
IsConcluded old (Err memory) result new = (result ≡ Err Memory) × (new.has_failed ≡ true)

-- a match after an optional event of a draw, and the arrival to report
pub record DrawResult : Type 0 where
  pub game : Game
  pub arrival : Option (ℕ × Reply)

abbrev pub after_draw : Game → Option Event → DrawResult
after_draw game (Some (Deliver agent)) =
    record {
      game = played game (Deliver agent);
      arrival = option_map (λ reply. (agent, reply))
          (reply_to game (Deliver agent));
    }
after_draw game event = record { game = game; arrival = None }

-- the agent that an arrival is reported to, and the text with the report appended
abbrev pub told_to : (before : List ℕ) → Option (ℕ × Reply) → Option ℕ × List ℕ
told_to before None = (None, before)
told_to before (Some arrival) = (Some arrival.0, before ++ text_of arrival.1)

-- what a draw makes of a rehearsal and of a text, and gives
abbrev pub IsDrawn : Rehearsing → (game : ℕ) → DrawResult → (before : List ℕ) → Result (Option ℕ) AllocError
    → (text : List ℕ) → Rehearsing → Type 0
IsDrawn old game drawn before (Ok agent) text new =
    ((agent, text) ≡ told_to before drawn.arrival) × (new ≡ on_stage old (with_game old.stage game drawn.game))
IsDrawn old game drawn before (Err memory) text new = Unit {0}

-- The mark at a log place; None beyond the log.
abbrev pub mark_at : List Kept → (place : ℕ) → Option Mark
mark_at log place = option_and_then (λ kept. kept.mark) (slice_get log place)
