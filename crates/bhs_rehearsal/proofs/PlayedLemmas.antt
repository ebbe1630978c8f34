-- An event of a match in memory, as the definitions see it.
use Rattle.std.proofs.Common.{◌≡◌, ℕ, Bool, true, false, ◌||◌, not, ◌&&◌, Option, Some, None, List, [], ◌∷◌, ◌++◌}
use Rattle.std.proofs.Common.{length, refl, sym, ap, ◌∙◌, if◌then◌else◌, arith}
use Rattle.std.specs.Prelude.{slice_get, option_and_then, option_map}
use Rattle.std.proofs.lemmas.Option.{slice_get_past}
use Rattle.bhs_net.specs.Network.{Network}
use Rattle.bhs_model.specs.declared.setups.Setup.{Setup}
use Rattle.bhs_model.specs.declared.events.Event.{Event}
use Rattle.bhs_model.specs.declared.events.Event.TheVariants.{Deliver}
use Rattle.bhs_model.specs.declared.replies.Reply.{Reply}
use Rattle.bhs_model.specs.declared.marks.Mark.{Mark}
use Rattle.bhs_model.specs.declared.marks.Kept.{Kept}
use Rattle.bhs_model.specs.Marks.{events_of, read_if}
use Rattle.bhs_model.specs.Runs.{State, arrives}
use Rattle.bhs_model.specs.Kept.{destroys, lost}
use Rattle.bhs_model.specs.Draws.{draw, is_held}
use Rattle.bhs_world.specs.Tables.{keeps_next, log_after}
use Rattle.bhs_world.proofs.GrowthLemmas.{events_more, slice_get_end}
use Rattle.bhs_match.specs.declared.answers.Answer.{Answer}
use Rattle.bhs_match.specs.Matches as matches
use Rattle.bhs_match.specs.Matches.{Play}
use Rattle.bhs_match.specs.Games.{IsPlayed}
use Rattle.bhs_deliveries.specs.Links.{held_in}
use Rattle.bhs_deliveries.specs.declared.draws.Drawn.{Drawn as DrawnOfCode}
use Rattle.bhs_deliveries.specs.declared.draws.Drawn.TheVariants.{Delivered}
use Rattle.bhs_deliveries.specs.Drawing.{IsPlayedIf, event_of, delivery_of}
use Rattle.bhs_deliveries.specs.Drawing as drawing
use Rattle.bhs_deliveries.proofs.DrawLemmas.{draws_are_those}
use Rattle.bhs_rehearsal.specs.Games.{Game, played, reply_to, drawn, delivered}
use Rattle.bhs_rehearsal.specs.Takings.{DrawResult, after_draw, mark_at, told_to}

-- a match and its held links
abbrev pub game_in : Play → List (ℕ × ℕ) → Game
game_in play held = record { net = play.net; setup = play.setup; held = held; log = events_of play.log }

by_keep : (keeps : Bool) (net : Network) (setup : Setup) (held : List (ℕ × ℕ)) (log : List Kept) (one : Kept) →
    game_in (record { net = net; setup = setup; log = if keeps then log ++ one ∷ [] else log }) held
    ≡ (if keeps then record (game_in (record { net = net; setup = setup; log = log }) held)
    { log = events_of log ++ one.event ∷ [] }
    else game_in (record { net = net; setup = setup; log = log }) held)
by_keep true net setup held log one = ap (λ (events : List Event). record
    { net = net; setup = setup; held = held; log = events }) (events_more log one)
by_keep false net setup held log one = refl

pub played_lemma : (old new : Play) (held : List (ℕ × ℕ)) (event : Event) (mark : Option Mark) →
    new.log ≡ log_after (matches.world_in old) old.log event mark → new.net ≡ old.net → new.setup ≡ old.setup →
    game_in new held ≡ played (game_in old held) event
played_lemma old new held event mark log net setup =
    ap (λ (one : Network). record { net = one; setup = new.setup; held = held; log = events_of new.log }) net
    ∙ ap (λ (one : Setup). record { net = old.net; setup = one; held = held; log = events_of new.log }) setup
    ∙ ap (λ (one : List Kept). record { net = old.net; setup = old.setup; held = held; log = events_of one }) log
    ∙ by_keep (keeps_next (matches.world_in old) old.log event) old.net old.setup held old.log
    (record { event = event; mark = mark })

-- Dropped events are no arrivals.
not_arrived : (arrived other : Bool) (told : Option Reply) → (arrived || other) ≡ false
    → None ≡ (if arrived then told else None)
not_arrived true other told is = cc
not_arrived false other told is = refl

reply_by : (keeps : Bool) (log new : List Kept) (one : Kept) (told : Option Reply)
    → new ≡ (if keeps then log ++ one ∷ [] else log) →
    read_if new one.mark ≡ told → (keeps ≡ false → None ≡ told) → read_if new (mark_at new (length log)) ≡ told
reply_by true log new one told is told_is none =
    let at : slice_get new (length log) ≡ Some one = ap (λ (all : List Kept). slice_get all (length log)) is
    ∙ slice_get_end log one in
    ap (λ (found : Option Kept). read_if new (option_and_then (λ (kept : Kept). kept.mark) found)) at ∙ told_is
reply_by false log new one told is told_is none =
    let past : slice_get log (length log) ≡ None = slice_get_past log (length log) (omega arith) in
    let at : slice_get new (length log) ≡ None = ap (λ (all : List Kept). slice_get all (length log)) is ∙ past in
    ap (λ (found : Option Kept). read_if new (option_and_then (λ (kept : Kept). kept.mark) found)) at ∙ none refl

-- the reply to a Deliver is read behind the old log
pub arrival_lemma : (old new : Play) (held : List (ℕ × ℕ)) (agent : ℕ) (answer : Answer)
    → IsPlayed old (Deliver agent) answer new →
    read_if new.log (mark_at new.log (length old.log)) ≡ reply_to (game_in old held) (Deliver agent)
arrival_lemma old new held agent answer is =
    let world = matches.world_in old in
    let state : State = matches.state_of old in
    reply_by (keeps_next world old.log (Deliver agent)) old.log new.log
    (record { event = Deliver agent; mark = answer.mark }) _ is.log is.reply
    (λ none. not_arrived (arrives world state agent)
    (destroys world state agent && not (lost world (events_of old.log) agent)) _ none)

-- the effect of a draw on a match, and the arrival that it reports
pub one_drawn : (old new : Play) (held : List (ℕ × ℕ)) (word agent : ℕ) (found : DrawnOfCode) (told : Option Reply)
    → found ≡ drawing.drawn (held_in held) (matches.state_of old) word →
    IsPlayedIf old (draw (held_in held) (matches.state_of old) word) new → found ≡ Delivered agent →
    told ≡ read_if new.log (mark_at new.log (length old.log)) →
    record { game = game_in new held; arrival = option_map (λ (reply : Reply). (agent, reply)) told } ≡ after_draw
    (game_in old held) (drawn (game_in old held) word)
one_drawn old new held word agent found told is played_if this read =
    let event : draw (held_in held) (matches.state_of old) word ≡ Some (Deliver agent) =
    draws_are_those (held_in held) (matches.state_of old) word ∙ ap event_of (sym is ∙ this) in
    let done : (answer : Answer) × IsPlayed old (Deliver agent) answer new = rw event at played_if in
    let game : game_in new held ≡ played (game_in old held) (Deliver agent) =
    played_lemma old new held (Deliver agent) done.0.mark done.1.log done.1.net done.1.setup in
    let reply : told ≡ reply_to (game_in old held) (Deliver agent) =
    read ∙ arrival_lemma old new held agent done.0 done.1 in
    ap (λ (one : Game). record { game = one; arrival = option_map (λ (reply : Reply). (agent, reply)) told }) game
    ∙ ap (λ (one : Option Reply). record {
      game = played (game_in old held) (Deliver agent);
      arrival = option_map
          (λ (reply : Reply). (agent, reply)) one;
    }) reply
    ∙ ap (after_draw (game_in old held)) (sym event)

-- a match with what its agent is told
abbrev told_of : Play → List (ℕ × ℕ) → (agent : ℕ) → Option Reply → DrawResult
told_of new held agent told =
    record { game = game_in new held; arrival = option_map (λ (reply : Reply). (agent, reply)) told }

-- what delivering an agent makes of a match, and whom it tells what: where nothing is played, nothing is read behind
-- the log
pub one_delivered : (old new : Play) (held : List (ℕ × ℕ)) (agent : ℕ) (told : Option Reply)
    → IsPlayedIf old (delivery_of (held_in held) (matches.state_of old) agent) new →
    told ≡ read_if new.log (mark_at new.log (length old.log)) →
    record { game = game_in new held; arrival = option_map (λ (reply : Reply). (agent, reply)) told } ≡ after_draw
    (game_in old held) (delivered (game_in old held) agent)
one_delivered old new held agent told played_if read =
    go (matches.state_of old).closed (is_held (held_in held) ((matches.state_of old).position agent)) played_if
  where
    none : new ≡ old → told_of new held agent told ≡ after_draw (game_in old held) None
    none same =
        let past : slice_get old.log (length old.log) ≡ None = slice_get_past old.log (length old.log) (omega arith) in
        let silent : told ≡ None =
        read ∙ ap (λ (one : Play). read_if one.log (mark_at one.log (length old.log))) same
        ∙ ap (λ (kept : Option Kept). read_if old.log (option_and_then (λ (one : Kept). one.mark) kept)) past in
        rw (silent, same) refl

    done : (answer : Answer) × IsPlayed old (Deliver agent) answer new →
        told_of new held agent told ≡ after_draw (game_in old held) (Some (Deliver agent))
    done is =
        let game : game_in new held ≡ played (game_in old held) (Deliver agent) =
        played_lemma old new held (Deliver agent) is.0.mark is.1.log is.1.net is.1.setup in
        let reply : told ≡ reply_to (game_in old held) (Deliver agent) =
        read ∙ arrival_lemma old new held agent is.0 is.1 in
        ap (λ (one : Game). record { game = one; arrival = option_map (λ (reply : Reply). (agent, reply)) told }) game
        ∙ ap (λ (one : Option Reply). record {
          game = played (game_in old held) (Deliver agent);
          arrival = option_map (λ (reply : Reply). (agent, reply)) one;
        }) reply

    go : (closed kept : Bool) → IsPlayedIf old (if closed then None else (if kept then None else Some (Deliver agent)))
        new → told_of new held agent told
        ≡ after_draw (game_in old held) (if closed then None else (if kept then None else Some (Deliver agent)))
    go true kept is = none is
    go false true is = none is
    go false false is = done is

-- the arrival that a draw reports, computed from its effect on the match
pub told_drawn : (one other : DrawResult) (before : List ℕ) → one ≡ other
    → (one.game ≡ other.game) × (told_to before one.arrival ≡ told_to before other.arrival)
told_drawn one other before same =
    (ap (λ (drawn : DrawResult). drawn.game) same, ap (λ (drawn : DrawResult). told_to before drawn.arrival) same)
