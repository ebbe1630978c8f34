-- Who plays an agent is sent the bytes of what the agent met, and who plays none nothing or one denial.
use Rattle.std.specs.Prelude.{ℕ, ◌≡◌, ◌<◌, ◌⊎◌, Bool, true, false, Some, None, List, [], ◌∷◌, ◌++◌, map}
use Rattle.bhs_model.specs.declared.commands.Command.TheVariants.{Leave}
use Rattle.bhs_model.specs.declared.replies.Reply.TheVariants.{Over}
use Rattle.bhs_model.specs.declared.setups.Setup.{Setup}
use Rattle.bhs_model.specs.Views.{View, Start, Told, Nothing, Standing, Outside, Present, Away, Ended, standing}
use Rattle.bhs_wire.specs.declared.denials.Denial.{Denial}
use Rattle.bhs_wire.specs.Lines.{Line, lines}
use Rattle.bhs_theorems_isolation.specs.Met.{Meeting, view_of, commands, bytes, takes_commands, AreDue}
use Rattle.bhs_session.specs.Texts.{text_of, denial_text, command_of}
use Rattle.bhs_rehearsal.specs.Games.{state_of}
use Rattle.bhs_rehearsal.specs.Stages.{connection_at}
use Rattle.bhs_theorems_isolation.specs.Clients.{Fed, nothing_fed, fed_to}
use Rattle.bhs_theorems_isolation.specs.ScriptHeadline.{Rehearsed, outcome, BeginsEmpty, sent_in, match_of, past_of}

-- ---- who plays

-- the past of an agent that met this: the end of its input may have made it leave, which is not answered
abbrev pub IsPastOf : (has_ended : Bool) → View → View → Type 0
IsPastOf has_ended view past = (past ≡ view) ⊎ ((past ≡ Told view Leave Nothing) × (has_ended ≡ true))

-- The line that reports the end of the match. An agent on a link gets it at the close; an agent at a node, or one that
-- has not entered, at its next line, the first that was not taken; an ended agent never.
abbrev pub over_text : (closed : Bool) → Standing → (untaken : List Line) → List ℕ
over_text false stands untaken = []
over_text true Away untaken = text_of Over
over_text true Ended untaken = []
over_text true Outside [] = []
over_text true Outside (line ∷ untaken) = text_of Over
over_text true Present [] = []
over_text true Present (line ∷ untaken) = text_of Over

-- What a connection was fed and sent, where its agent has this past.
pub record IsSentAsMet (setup : Setup) (past : View) (closed : Bool) (fed : Fed) (sent : List ℕ) : Type 0 where
  pub met : List Meeting
  -- The taken lines, and the lines that were not taken.
  pub taken : List Line
  pub untaken : List Line
  pub split : lines fed.bytes ≡ taken ++ untaken
  pub said : commands met ≡ map command_of taken
  pub due : AreDue setup.quota Start met
  pub lived : IsPastOf fed.has_ended (view_of met) past
  pub sends : sent ≡ bytes setup.board met ++ over_text closed (standing (view_of met)) untaken
  -- before the close and the end of the input, all lines were taken of an agent of which commands are taken
  pub all_taken : closed ≡ false → fed.has_ended ≡ false → takes_commands (standing (view_of met)) ≡ true → untaken ≡ []

-- Whoever plays an agent was sent the bytes of what the agent met, and of the close what its standing says.
abbrev pub SentAsMet : Type 0
SentAsMet =
    (one : Rehearsed) (conn : ℕ) (seat : ℕ × ℕ) → BeginsEmpty one →
    (connection_at (outcome one) conn).seat ≡ Some seat → seat.1 < (match_of one seat).setup.agents →
    IsSentAsMet (match_of one seat).setup (past_of one seat) (state_of (match_of one seat)).closed
    (fed_to conn nothing_fed one.script) (sent_in one conn)

-- ---- who plays nobody

-- nothing, or one denial
abbrev pub IsDenial : List ℕ → Type 0
IsDenial sent = (sent ≡ []) ⊎ ((denial : Denial) × (sent ≡ denial_text denial))

-- Whoever plays no agent was sent nothing, or one denial.
abbrev pub OthersAreDenied : Type 0
OthersAreDenied =
    (one : Rehearsed) (conn : ℕ) → BeginsEmpty one → conn < one.connections →
    (connection_at (outcome one) conn).seat ≡ None → IsDenial (sent_in one conn)

-- ---- what was met

-- What was met is determined by the past and the commands.
abbrev pub PastsAndCommandsSayWhatWasMet : Type 0
PastsAndCommandsSayWhatWasMet =
    (quota : ℕ) (met other : List Meeting) → AreDue quota Start met → AreDue quota Start other →
    view_of met ≡ view_of other → commands met ≡ commands other → met ≡ other
