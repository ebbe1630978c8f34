-- What a session wrote is the bytes of what its agent met in the log of its match, where the match settled with the
-- pass that the session played by.
use Rattle.std.specs.Prelude.{ℕ, ◌≡◌, ◌≢◌, ◌⊎◌, Bool, true, false, Some, List, [], ◌∷◌, ◌++◌, map, slice_get}
use Rattle.bhs_model.specs.declared.commands.Command.{Command}
use Rattle.bhs_model.specs.declared.commands.Command.TheVariants.{Leave}
use Rattle.bhs_model.specs.declared.replies.Reply.TheVariants.{Over}
use Rattle.bhs_model.specs.Views.{View, Start, Told, Arrived, Nothing, Sight, Away, Ended as Stopped, standing}
use Rattle.bhs_model.specs.Kept.{kept}
use Rattle.bhs_model.specs.Marks.{events_of, read_if}
use Rattle.bhs_model.specs.InOrder.{replies}
use Rattle.bhs_match.specs.Matches.{Play, world_in, state_of}
use Rattle.bhs_shared_match.specs.Passes.{Passed, kept_command}
use Rattle.bhs_shared_match.specs.SharedMatches.{Given}
use Rattle.bhs_shared_match.specs.Disputes.{AreInAccord}
use Rattle.bhs_session.specs.declared.endings.Ended.{Ended}
use Rattle.bhs_session.specs.declared.endings.Ended.TheVariants as endings
use Rattle.bhs_theorems_isolation.specs.Met.{Meeting, Hears, Refuses, Arrives, view_of, answer_to, bytes, AreDue}
use Rattle.bhs_session.specs.Answering.{MayLack}
use Rattle.bhs_server.specs.Ports.{IsOfSharedMatch}
use Rattle.bhs_session.specs.Texts.{text_of}
use Rattle.bhs_server.specs.Written.{IsAttended, IsFew, MayBeOver, IsWrittenBy, is_between}
use Rattle.bhs_server.specs.declared.ports.SessionAgent.{SessionAgent}
use Rattle.bhs_setups.specs.KeyTable.{Seat}
use Rattle.bhs_session.specs.Texts.{command_of}
use Rattle.bhs_stream.specs.Streams.{Chunk, WriteAnswer}

-- ---- a session whose match settled

-- A session with its match: the match, the session's pass, the commands of the lines that it took, those of the lines
-- that it read without taking them, its output, and how it ended.
pub record Attended : Type 0 where
  pub play : Play
  pub pass : Passed
  pub said : List Command
  pub more : List Command
  pub written : List ℕ
  pub ended : Ended

-- the commands of the session's input
abbrev pub fed : Attended → List Command
fed one = one.said ++ one.more

-- The session took part in the match: the match was settled with the session's pass, among others, and the session
-- played with this pass.
pub record TookPart (one : Attended) : Type 0 where
  -- as a `Sealed` shows it
  pub kept : kept (world_in one.play) (events_of one.play.log) ≡ events_of one.play.log
  pub replies : map (λ entry. read_if one.play.log entry.mark) one.play.log
      ≡ replies (world_in one.play) (events_of one.play.log)
  -- as `settle` says it
  pub given : Given
  pub passes : List Passed
  pub accord : AreInAccord given one.play passes
  pub index : ℕ
  pub handed_in : slice_get passes index ≡ Some one.pass
  -- as `attend` says of a pass and the shared matches
  pub shared_matches : List Given
  pub game : ℕ
  pub shared_match : slice_get shared_matches game ≡ Some given
  pub of_shared_match : IsOfSharedMatch shared_matches game one.pass
  -- as `attend` says it
  pub wrote : IsWrittenBy one.pass one.said one.written one.ended
  pub none_more : is_between one.ended ≡ true → one.more ≡ []

-- what a session was that `attend` served on this pass, in a match that has settled
abbrev pub session_of : {I O : Type 0} → (gives : I → Chunk → I → Type 0)
    → (takes : O → List ℕ → WriteAnswer → O → Type 0) → (keys : List Seat) (shared_matches : List Given)
    (input_old input_new : I) (output_old output_new : O) (turns : ℕ) (played : SessionAgent) (ended : Ended) → Play
    → IsAttended gives takes keys shared_matches input_old input_new output_old output_new turns (Some played) ended
    → Attended
session_of gives takes keys shared_matches input_old input_new output_old output_new turns played ended play attended =
    record {
      play = play;
      pass = played.pass;
      said = map command_of attended.serves.taken;
      more = map command_of attended.more;
      written = attended.serves.written;
      ended = ended;
    }

-- What `attend`, `settle` and `Sealed` say of a session is what is asked of one that took part: `attend` served it on a
-- pass of this shared match, the shared match settled with the pass, and the match is as it is shown.
abbrev pub AttendedTookPart : {I O : Type 0} → (gives : I → Chunk → I → Type 0)
    → (takes : O → List ℕ → WriteAnswer → O → Type 0) → Type 0
AttendedTookPart {I} {O} gives takes =
    (keys : List Seat) (shared_matches : List Given) (input_old input_new : I) (output_old output_new : O) (turns : ℕ)
    (played : SessionAgent) (ended : Ended) (play : Play) (given : Given) (passes : List Passed) (index : ℕ)
    (attended : IsAttended gives takes keys shared_matches input_old input_new output_old output_new turns (Some played)
    ended)
    → kept (world_in play) (events_of play.log) ≡ events_of play.log
    → map (λ entry. read_if play.log entry.mark) play.log ≡ replies (world_in play) (events_of play.log)
    → slice_get shared_matches played.game ≡ Some given → AreInAccord given play passes
    → slice_get passes index ≡ Some played.pass
    → TookPart (session_of gives takes keys shared_matches input_old input_new output_old output_new turns played ended
    play
    attended)

-- ---- what its agent met

-- The commands of the meetings are the session's commands, up to the texts of refused Writes.
abbrev pub AreSaid : (limit : ℕ) → View → List Meeting → List Command → Type 0
AreSaid limit view [] [] = Unit {0}
AreSaid limit view (Hears command glance ∷ met) (own ∷ said) =
    (kept_command command (answer_to limit view (Hears command glance))
    ≡ kept_command own (answer_to limit view (Hears command glance)))
    × AreSaid limit (Told view command glance) met said
AreSaid limit view (Refuses command ∷ met) (own ∷ said) = (command ≡ own) × AreSaid limit view met said
AreSaid limit view (Arrives sight ∷ met) said = AreSaid limit (Arrived view sight) met said
AreSaid limit view met said = ⊥

-- The past of an agent whose session met this: the ending may have told a Leave.
abbrev pub IsLeftAs : View → View → Type 0
IsLeftAs view past = (past ≡ view) ⊎ (past ≡ Told view Leave Nothing)

-- where a session ended in the midst of it, an arrival more may stand in the log that it was not told
abbrev pub IsLeftAway : View → View → Type 0
IsLeftAway view past =
    IsLeftAs view past ⊎ ((standing view ≡ Away) × ((sight : Sight) × IsLeftAs (Arrived view sight) past))

-- whether all was written that the session was answered, and nothing else: neither that the match is over nor a denial,
-- and no write failed
abbrev pub is_whole : Ended → Bool
is_whole endings.Bye = true
is_whole endings.Noted = true
is_whole endings.InputEnded = true
is_whole endings.ReadFault = true
is_whole endings.Turns = true
is_whole ended = false

-- The line after the meetings, depending on how the session ended: the report that the match is over, if the session
-- ended by it; that line or none, if a write failed or memory ran out; otherwise none.
abbrev pub IsLastOf : Ended → (last : List ℕ) → Type 0
IsLastOf endings.Over last = last ≡ text_of Over
IsLastOf endings.WriteFault last = MayBeOver last
IsLastOf endings.Memory last = MayBeOver last
IsLastOf endings.Denied last = ⊥
IsLastOf ended last = last ≡ []

-- What was met has the past that the log gives the agent, and its bytes were written.
pub record IsSentAsMet (one : Attended) : Type 0 where
  pub met : List Meeting
  pub due : AreDue one.play.setup.quota Start met
  pub heard : List Command
  pub left : List Command
  pub few : IsFew left
  pub said : one.said ≡ heard ++ left
  pub are_said : AreSaid one.play.setup.board Start met heard
  pub lived : IsLeftAway (view_of met) ((state_of one.play).past one.pass.agent)
  pub last : List ℕ
  pub is_last : IsLastOf one.ended last
  pub unwritten : List ℕ
  pub sent : one.written ++ unwritten ≡ bytes one.play.setup.board met ++ last
  pub is_unwritten : MayLack one.ended unwritten
  pub whole : is_whole one.ended ≡ true →
      (left ≡ []) × (last ≡ []) × (unwritten ≡ [])
      × IsLeftAs (view_of met) ((state_of one.play).past one.pass.agent)
      × ((is_between one.ended ≡ true) ⊎ (standing (view_of met) ≡ Stopped))
      × (standing (view_of met) ≢ Away)

abbrev pub SentAsMet : Type 0
SentAsMet = (one : Attended) → TookPart one → IsSentAsMet one

-- ---- the headline

-- A session was told all that its agent met: it ended by a Bye, an accusation, or the end of its input or its turns; or
-- it was told that the match is over while its agent was on a link, as each agent is that was destroyed.
abbrev pub IsToldAll : Attended → Type 0
IsToldAll one =
    (is_whole one.ended ≡ true)
    ⊎ ((one.ended ≡ endings.Over) × (standing ((state_of one.play).past one.pass.agent) ≡ Away))

-- Two sessions of any two contests, in matches of equal quota and whiteboards of equal size, whose agents have equal
-- pasts in the logs that settled and that were fed equal commands, wrote equal bytes, if each was told all that its
-- agent met.
abbrev pub EqualPastsAreSentEqualBytes : Type 0
EqualPastsAreSentEqualBytes =
    (one two : Attended) → TookPart one → TookPart two → IsToldAll one → IsToldAll two →
    one.play.setup.quota ≡ two.play.setup.quota → one.play.setup.board ≡ two.play.setup.board →
    (state_of one.play).past one.pass.agent ≡ (state_of two.play).past two.pass.agent →
    fed one ≡ fed two → one.written ≡ two.written
