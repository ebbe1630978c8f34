-- A draw, a turn and a close are no commands.
use Rattle.std.proofs.Common.{◌≡◌, ℕ, Bool, true, false, Option, Some, None, List, length, nat_lt, slice_set, refl, ap}
use Rattle.std.proofs.Math.ListN.{length-set}
use Rattle.std.proofs.lemmas.Bool.{cond_both}
use Rattle.bhs_model.specs.declared.events.Event.{Event}
use Rattle.bhs_model.specs.declared.events.Event.TheVariants.{Tell, Deliver, Close}
use Rattle.rand_chacha.specs.ChaCha.{ChaCha}
use Rattle.bhs_model.specs.declared.setups.Setup.{Setup}
use Rattle.bhs_model.specs.declared.marks.Mark.{Mark}
use Rattle.bhs_time.specs.declared.kinds.ScheduleKind.{ScheduleKind}
use Rattle.bhs_time.specs.declared.kinds.ScheduleKind.TheVariants.{Adaptive, Oblivious}
use Rattle.bhs_time.specs.TimedRuns.{delivery_if}
use Rattle.bhs_model.specs.Runs.{State}
use Rattle.bhs_model.specs.Draws.{Held, pool, pick, is_held, delivery_to, draw}
use Rattle.bhs_world.specs.Tables.{log_after}
use Rattle.bhs_match.specs.Matches.{Play, world_in, state_of}
use Rattle.bhs_deliveries.specs.Dealer.{next_word}
use Rattle.bhs_deliveries.specs.Delaying.{schedule_by, departed_in}
use Rattle.bhs_deliveries.specs.Drawing.{IsPlayedIf}
use Rattle.bhs_shared_match.specs.declared.model.Tally.{Tally}
use Rattle.bhs_shared_match.specs.Tallies.{is_told_by}
use Rattle.bhs_shared_match.specs.Timing.{Timed, stepped, turned, told_at, event_of_turn}
use Rattle.bhs_shared_match.proofs.ToldLemmas.{same_play}
use Rattle.bhs_shared_match.proofs.TallyLemmas.{IsHoused, IsLegalLog, legal_untold}

-- An optional event other than a command.
abbrev IsNoCommand : Option Event → Type 0
IsNoCommand None = Unit {0}
IsNoCommand (Some (Tell agent command)) = ⊥
IsNoCommand (Some (Deliver agent)) = Unit {0}
IsNoCommand (Some Close) = Unit {0}

delivery_is_none : (held : Held) (state : State) (picked : Option ℕ) → IsNoCommand (delivery_to held state picked)
delivery_is_none held state None = tt
delivery_is_none held state (Some agent) = cond_both (is_held held (state.position agent)) None (Some (Deliver agent))
    IsNoCommand (λ e. tt) (λ e. tt)

draw_is_none : (held : Held) (state : State) (word : ℕ) → IsNoCommand (draw held state word)
draw_is_none held state word = cond_both state.closed None (delivery_to held state (pick (pool state) word)) IsNoCommand
    (λ e. tt) (λ e. delivery_is_none held state (pick (pool state) word))

ready_is_none : (held : Held) (state : State) (agent : ℕ) (is_ready : Bool) →
    IsNoCommand (delivery_if held state agent is_ready)
ready_is_none held state agent true = delivery_is_none held state (Some agent)
ready_is_none held state agent false = tt

turn_is_none : (schedule : ScheduleKind) (held : Held) (play : Play) (timed : Timed) (dealer : ChaCha) →
    IsNoCommand (event_of_turn schedule held play timed dealer)
turn_is_none Adaptive held play timed dealer = draw_is_none held (state_of play) (next_word dealer)
turn_is_none (Oblivious law) held play timed dealer =
    let schedule = schedule_by dealer play.setup.agents law in
    let agent = schedule.picked timed.turn in
    cond_both (state_of play).closed None
    (delivery_if held (state_of play) agent
    (schedule.ready agent (departed_in timed.departed agent) timed.turn)) IsNoCommand
    (λ e. tt)
    (λ e. ready_is_none held (state_of play) agent _)

untold : (event : Event) → IsNoCommand (Some event) → (agent : ℕ) → is_told_by agent event ≡ false
untold (Tell other command) none agent = absurd none
untold (Deliver other) none agent = refl
untold Close none agent = refl

legal_if : (play play' : Play) (event : Option Event) (tallies : List Tally) → IsNoCommand event → IsHoused play tallies
    → IsPlayedIf play event play' → IsLegalLog play' → IsHoused play' tallies
legal_if play play' None tallies none housed same log = rw same housed
legal_if play play' (Some event) tallies none housed played log =
    let is = played.1 in
    legal_untold play play' event played.0.mark tallies housed (same_play play' play _ is.net is.setup is.log)
    (untold event none) log

pub legal_closed : (play play' : Play) (mark : Option Mark) (tallies : List Tally) → IsHoused play tallies
    → play'.log ≡ log_after (world_in play) play.log Close mark →
    (play'.net ≡ play.net) × (play'.setup ≡ play.setup) → IsLegalLog play' → IsHoused play' tallies
legal_closed play play' mark tallies housed log same legal =
    legal_untold play play' Close mark tallies housed (same_play play' play _ same.0 same.1 log) (λ agent. refl) legal

-- what a turn leaves under the lock
pub legal_turned : (schedule : ScheduleKind) (held : Held) (play play' : Play) (timed : Timed) (dealer : ChaCha)
    (tallies : List Tally) → IsHoused play tallies →
    IsPlayedIf play (event_of_turn schedule held play timed dealer) play' → IsLegalLog play' → IsHoused play' tallies
legal_turned schedule held play play' timed dealer tallies housed played log =
    legal_if play play' (event_of_turn schedule held play timed dealer) tallies
    (turn_is_none schedule held play timed dealer) housed played log

-- an event changes no setup
pub agents_played : (play play' : Play) (event : Option Event) → IsPlayedIf play event play' →
    play'.setup.agents ≡ play.setup.agents
agents_played play play' None same = ap (λ (one : Play). one.setup.agents) same
agents_played play play' (Some event) played = ap (λ (setup : Setup). setup.agents) played.1.setup

-- as many agents have a turn of departure as before
length_stepped : (agent : ℕ) (timed : Timed) → length (stepped agent timed).departed ≡ length timed.departed
length_stepped agent timed =
    cond_both (nat_lt agent (length timed.departed)) (slice_set timed.departed agent timed.turn) timed.departed
    (λ (departed : List ℕ). length departed ≡ length timed.departed)
    (λ within. length-set timed.departed agent timed.turn) (λ past. refl)

pub length_turned : (arrived : Option ℕ) (timed : Timed) →
    length (turned arrived timed).departed ≡ length timed.departed
length_turned None timed = refl
length_turned (Some agent) timed = length_stepped agent timed

pub length_told : (was_away : Bool) (agent : ℕ) (timed : Timed) →
    length (told_at was_away agent timed).departed ≡ length timed.departed
length_told true agent timed = refl
length_told false agent timed = length_stepped agent timed
