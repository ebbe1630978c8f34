-- The theorem over every arrival speaks of two matches that were worked out by hand.
use Rattle.std.proofs.Common.{arith, ℕ, ◌≡◌, ◌+◌, ◌<◌, ◌≤◌, ◌%◌, ◌==◌, ◌&&◌, Bool, true, false, None, List, [], ◌∷◌}
use Rattle.std.proofs.Common.{refl, sym, ap, ap₂, ◌∙◌, subst, inl, inr, nat_le, length}
use Rattle.std.proofs.lemmas.Bool.{cond-false, le-leb}
use Rattle.std.proofs.lemmas.Bool.Decides.{leb_tells}
use Rattle.rand_chacha.specs.ChaCha.{ChaCha}
use Rattle.bhs_model.specs.declared.commands.Command.TheVariants.{Enter, Depart, Leave}
use Rattle.bhs_model.specs.declared.events.Event.{Event}
use Rattle.bhs_model.specs.declared.events.Event.TheVariants.{Tell, Deliver, Close}
use Rattle.bhs_model.specs.Worlds.{World}
use Rattle.bhs_model.specs.Draws.{Held, is_held}
use Rattle.bhs_model.specs.Kept.{nobody, keeps}
use Rattle.bhs_time.specs.Schedules.{Schedule, DelayLaw, releases}
use Rattle.bhs_time.specs.Stamps.{Stamped, stamped_run, HasArrival}
use Rattle.bhs_time.specs.TimedRuns.{TimedState, timed_initial, delivery_if, delivery_now}
use Rattle.bhs_time.specs.TimedLogs.{IsTimedLog}
use Rattle.bhs_time.specs.TimedViews.{departed_at}
use Rattle.bhs_time.proofs.InTimeLogLemmas.{delivered_now}
use Rattle.bhs_time.proofs.TimedLogLemmas.{IsNow, IsNext, is_kept, behind, timed_by_steps}
use Rattle.bhs_match.specs.Matches.{Play, world_in}
use Rattle.bhs_deliveries.specs.Links.{held_in}
use Rattle.bhs_deliveries.specs.Scheduling.{whole_schedule, stamps_in, words_by}
use Rattle.bhs_shared_match.specs.Disputes.{AreInAccord}
use Rattle.bhs_shared_match.specs.declared.settlement.Settlement.{Settlement}
use Rattle.bhs_theorems_isolation.specs.TimeExample.{WalkedMatch, walk, other_walk, play_of, given_of, pass_of, wait_of}
use Rattle.bhs_theorems_isolation.specs.TimeExample.{turns_of}
use Rattle.bhs_theorems_isolation.specs.TimeExample.{before_arrival, IsOfWalk, IsSpokenOf, TheTheoremOfTimeSpeaksOfThem}

module _ (dealer : ChaCha) (law : DelayLaw) where
  abbrev schedule : Schedule
  schedule = whole_schedule dealer 1 law

  abbrev wait : ℕ
  wait = wait_of dealer law

  -- one agent alone is picked by each turn
  only_one : (word : ℕ) → word % 1 ≡ 0
  only_one word = omega arith

  -- so a turn releases it as soon as it has waited
  released : releases schedule 0 0 wait ≡ true
  released = ap₂ (λ (picked is_ready : Bool). picked && is_ready)
      (ap (λ (who : ℕ). 0 == who) (only_one ((words_by dealer).picks wait)))
      (le-leb (0 + wait) wait (omega arith))

  -- and no turn before
  waits : (turn : ℕ) → turn < wait → nat_le (0 + wait) turn ≡ false
  waits turn before = elim (leb_tells (0 + wait) turn) [
    | inl h ↦ absurd (let least : 0 + wait ≤ turn = h.1 in omega (arith, least, before))
    | inr h ↦ h.0
  ]

  module _ (world : World) (held : Held) where
    -- an event that is kept, in the turn up to which turns have passed
    now_kept : (timed : TimedState) (one : Stamped) → timed.turn ≡ one.turn
        → IsNow world held schedule nobody (record timed { turn = one.turn }) one.event
        → IsNext world held schedule nobody timed one
    now_kept timed one same now = record {
      later = omega (arith, same);
      quiet = λ turn later before. absurd (omega (arith, same, later, before));
      now = now;
    }

    too_early : (timed : TimedState) (turn : ℕ) → timed.state.closed ≡ false → departed_at (timed.pasts 0) ≡ 0
        → turn < wait → delivery_now held schedule (record timed { turn = turn }) ≡ None
    too_early timed turn unclosed at before =
        cond-false _ _ _ unclosed
        ∙ ap (λ (who : ℕ). delivery_if held timed.state who (schedule.ready who (departed_at (timed.pasts who)) turn))
        (only_one ((words_by dealer).picks turn))
        ∙ ap (λ (departed : ℕ). delivery_if held timed.state 0 (schedule.ready 0 departed turn)) at
        ∙ ap (delivery_if held timed.state 0) (waits turn before)

    -- the arrival of an agent that departed before the first turn was over
    arrival : (timed : TimedState) → timed.turn ≡ 0 → timed.state.closed ≡ false → departed_at (timed.pasts 0) ≡ 0
        → is_held held (timed.state.position 0) ≡ false → keeps world timed.state nobody (Deliver 0) ≡ true
        → IsNext world held schedule nobody timed (record { event = Deliver 0; turn = wait })
    arrival timed first unclosed at free kept = record {
      later = omega (arith, first);
      quiet = λ turn later before. ap (is_kept world timed.state nobody) (too_early timed turn unclosed at before);
      now = (
        delivered_now held schedule (record timed { turn = wait }) 0 unclosed free
            (subst (λ (departed : ℕ). releases schedule 0 departed wait ≡ true) (sym at) released),
        kept,
      );
    }

  -- ---- the two matches

  abbrev world_on : WalkedMatch → World
  world_on way = world_in (play_of way)

  abbrev stamp : Event → (turn : ℕ) → Stamped
  stamp event turn = record { event = event; turn = turn }

  abbrev entered : WalkedMatch → TimedState
  entered way = behind (world_on way) timed_initial (stamp (Tell 0 Enter) 0)

  abbrev departed : WalkedMatch → TimedState
  departed way = behind (world_on way) (entered way) (stamp (Tell 0 (Depart way.port)) 0)

  abbrev arrived : WalkedMatch → TimedState
  arrived way = behind (world_on way) (departed way) (stamp (Deliver 0) wait)

  abbrev left : WalkedMatch → TimedState
  left way = behind (world_on way) (arrived way) (stamp (Tell 0 Leave) (wait + 1))

  abbrev IsTimed : WalkedMatch → Type 0
  IsTimed way = IsTimedLog (world_on way) (held_in way.held) (whole_schedule dealer way.setup.agents law)
      (stamps_in (play_of way).log (turns_of wait))

  timed_walk : IsTimed walk
  timed_walk =
      timed_by_steps (world_on walk) (held_in walk.held) schedule (stamps_in (play_of walk).log (turns_of wait)) (
        now_kept (world_on walk) (held_in walk.held) timed_initial (stamp (Tell 0 Enter) 0) refl refl,
        (
          now_kept (world_on walk) (held_in walk.held) (entered walk) (stamp (Tell 0 (Depart 0)) 0) refl refl,
          (
            arrival (world_on walk) (held_in walk.held) (departed walk) refl refl refl refl refl,
            (
              now_kept (world_on walk) (held_in walk.held) (arrived walk) (stamp (Tell 0 Leave) (wait + 1)) refl refl,
              (
                now_kept (world_on walk) (held_in walk.held) (left walk) (stamp Close (wait + 1)) refl refl,
                tt,
              ),
            ),
          ),
        ),
      )

  timed_other : IsTimed other_walk
  timed_other =
      timed_by_steps (world_on other_walk) (held_in other_walk.held) schedule
      (stamps_in (play_of other_walk).log (turns_of wait)) (
        now_kept (world_on other_walk) (held_in other_walk.held) timed_initial (stamp (Tell 0 Enter) 0) refl refl,
        (
          now_kept (world_on other_walk) (held_in other_walk.held) (entered other_walk) (stamp (Tell 0 (Depart 2)) 0)
              refl refl,
          (
            arrival (world_on other_walk) (held_in other_walk.held) (departed other_walk) refl refl refl refl refl,
            (
              now_kept (world_on other_walk) (held_in other_walk.held) (arrived other_walk)
                  (stamp (Tell 0 Leave) (wait + 1)) refl refl,
              (
                now_kept (world_on other_walk) (held_in other_walk.held) (left other_walk) (stamp Close (wait + 1))
                    refl refl,
                tt,
              ),
            ),
          ),
        ),
      )

  abbrev IsInAccord : WalkedMatch → Type 0
  IsInAccord way = AreInAccord (given_of way law) (play_of way) (pass_of way ∷ [])

  accord : IsInAccord walk
  accord = record {
    world = record { same_net = refl; same_setup = refl };
    commands = (refl, tt);
    arrivals = (refl, tt);
    closed = refl;
  }

  accord_too : IsInAccord other_walk
  accord_too = record {
    world = record { same_net = refl; same_setup = refl };
    commands = (refl, tt);
    arrivals = (refl, tt);
    closed = refl;
  }

  abbrev Arrives : WalkedMatch → Play → List ℕ → Type 0
  Arrives way play turns =
      HasArrival ((stamped_run (world_in play) (stamps_in play.log turns)).pasts 0) (before_arrival way) wait

  spoken_of : (way : WalkedMatch) → IsInAccord way → IsTimed way → Arrives way (play_of way) (turns_of wait)
      → (one : Settlement) → IsOfWalk way wait one → IsSpokenOf way dealer law one
  spoken_of way agree timed has one is = record {
    ended = record {
      schedule = refl;
      fared = (
        record {
          passes = pass_of way ∷ [];
          accord = subst (λ (play : Play). AreInAccord (given_of way law) play (pass_of way ∷ [])) (sym is.sealed)
              agree;
          count = ap length is.turns ∙ sym (ap (λ (play : Play). length play.log) is.sealed);
        },
        subst (λ (play : Play). IsTimedLog (world_in play) (held_in way.held)
            (whole_schedule dealer play.setup.agents law) (stamps_in play.log one.turns.items)) (sym is.sealed)
            (subst (λ (own : List ℕ). IsTimedLog (world_on way) (held_in way.held)
            (whole_schedule dealer way.setup.agents law) (stamps_in (play_of way).log own)) (sym is.turns) timed),
      );
    };
    arrived = subst (λ (play : Play). Arrives way play one.turns.items) (sym is.sealed)
        (subst (λ (own : List ℕ). Arrives way (play_of way) own) (sym is.turns) has);
  }

pub spoken_lemma : TheTheoremOfTimeSpeaksOfThem
spoken_lemma dealer law one two is is_too = record {
  first = spoken_of dealer law walk (accord dealer law) (timed_walk dealer law) (inl (refl, refl)) one is;
  second = spoken_of dealer law other_walk (accord_too dealer law) (timed_other dealer law) (inl (refl, refl)) two
      is_too;
  schedules = ap (λ (play : Play). whole_schedule dealer play.setup.agents law) is.sealed
      ∙ sym (ap (λ (play : Play). whole_schedule dealer play.setup.agents law) is_too.sealed);
  departed = refl;
}
