-- The turns of the events of a log, while it grows.
use Rattle.std.proofs.Common.{arith, ℕ, suc, ◌≡◌, ◌≤◌, ◌+◌, ◌⊎◌, Option, Some, None, List, [], ◌∷◌}
use Rattle.std.proofs.Common.{◌++◌, length, length-append, ap, sym, ◌∙◌, subst, inl, inr, refl}
use Rattle.std.proofs.lemmas.Bool.{cond_both}
use Rattle.std.proofs.lemmas.Bool.Decides.{leb_tells}
use Rattle.bhs_model.specs.declared.commands.Command.{Command}
use Rattle.bhs_model.specs.declared.events.Event.{Event}
use Rattle.bhs_model.specs.declared.events.Event.TheVariants.{Tell}
use Rattle.bhs_model.specs.declared.marks.Mark.{Mark}
use Rattle.bhs_model.specs.declared.marks.Kept.{Kept}
use Rattle.bhs_model.specs.declared.replies.Reply.{Reply}
use Rattle.bhs_model.specs.declared.setups.Setup.{Setup}
use Rattle.bhs_model.specs.Worlds.{World}
use Rattle.bhs_world.specs.Tables.{keeps_next, log_after}
use Rattle.bhs_match.specs.Matches.{Play, world_in, most_kept}
use Rattle.bhs_deliveries.specs.Drawing.{IsPlayedIf}
use Rattle.bhs_shared_match.specs.Passes.{Passed}
use Rattle.bhs_shared_match.specs.LockedMatches.{IsTold}
use Rattle.bhs_shared_match.specs.Timing.{stamped_to, HaveTurns}

-- a log has as many events as before, or one more
abbrev pub GrowsByOne : (old new : List Kept) → Type 0
GrowsByOne old new = (length new ≡ length old) ⊎ (length new ≡ length old + 1)

long_after : (world : World) (log : List Kept) (event : Event) (mark : Option Mark) →
    GrowsByOne log (log_after world log event mark)
long_after world log event mark =
    cond_both (keeps_next world log event) (log ++ record { event = event; mark = mark } ∷ []) log
    (λ (after : List Kept). GrowsByOne log after)
    (λ is. inr (length-append log (record { event = event; mark = mark } ∷ []))) (λ is_not. inl refl)

pub grows : (world : World) (log log' : List Kept) (event : Event) (mark : Option Mark) →
    log' ≡ log_after world log event mark → GrowsByOne log log'
grows world log log' event mark is = subst (λ (after : List Kept). GrowsByOne log after) (sym is)
    (long_after world log event mark)

pub grows_if : (play play' : Play) (event : Option Event) → IsPlayedIf play event play' → GrowsByOne play.log play'.log
grows_if play play' None same = inl (ap (λ (one : Play). length one.log) same)
grows_if play play' (Some event) played =
    grows (world_in play) play.log play'.log event played.0.mark played.1.log

pub setup_played : (play play' : Play) (event : Option Event) → IsPlayedIf play event play' → play'.setup ≡ play.setup
setup_played play play' None same = ap (λ (one : Play). one.setup) same
setup_played play play' (Some event) played = played.1.setup

-- there is room for the turns of a longer log
pub has_room : (play play' : Play) (turns room : ℕ) → play'.setup ≡ play.setup → HaveTurns play turns room →
    length play'.log ≤ most_kept play'.setup.agents play'.setup.quota → length play'.log ≤ room
has_room play play' turns room same have few =
    let bound : length play'.log ≤ most_kept play.setup.agents play.setup.quota =
    subst (λ (setup : Setup). length play'.log ≤ most_kept setup.agents setup.quota) same few in
    omega (arith, bound, have.room_for)

long_stamped : (events turn old : ℕ) (turns : List ℕ) → length turns ≡ old → (events ≡ old) ⊎ (events ≡ old + 1) →
    length (stamped_to events turn turns) ≡ events
long_stamped events turn old turns count (inl same) = elim (leb_tells (suc (length turns)) events) [
  | inl h ↦ absurd (omega (arith, count, same, h.1))
  | inr h ↦ rw h.0 (count ∙ sym same)
]
long_stamped events turn old turns count (inr more) = elim (leb_tells (suc (length turns)) events) [
  | inl h ↦ rw h.0 (length-append turns (turn ∷ []) ∙ ap (λ (n : ℕ). n + 1) count ∙ sym more)
  | inr h ↦ absurd (omega (arith, count, more, h.1))
]

-- After an event, each event of the log still has its turn.
pub have_turns : (play play' : Play) (turns turns' : List ℕ) (room room' turn : ℕ) → play'.setup ≡ play.setup →
    GrowsByOne play.log play'.log → turns' ≡ stamped_to (length play'.log) turn turns → room' ≡ room →
    HaveTurns play (length turns) room → HaveTurns play' (length turns') room'
have_turns play play' turns turns' room room' turn same grown is kept have =
    record {
      count = ap (λ (some : List ℕ). length some) is
          ∙ long_stamped (length play'.log) turn (length play.log) turns have.count grown;
      room_for = rw (same, kept) have.room_for;
    }

pub told_setup : {play play' : Play} {pass pass' : Passed} {command : Command} {place : Option ℕ} {mark : Mark}
    {said : Reply} → IsTold play pass command place mark said play' pass' → play'.setup ≡ play.setup
told_setup is = ap (λ (one : Play). one.setup) is.grown

pub told_grows : (play play' : Play) (pass pass' : Passed) (command : Command) (place : Option ℕ) (mark : Mark)
    (said : Reply) → IsTold play pass command place mark said play' pass' → GrowsByOne play.log play'.log
told_grows play play' pass pass' command place mark said is =
    grows (world_in play) play.log play'.log (Tell pass.agent command) (Some mark)
    (ap (λ (one : Play). one.log) is.grown)
