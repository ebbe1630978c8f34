-- An agent that has followed its strategy to a place of a log, and one turn more.
use Rattle.std.proofs.Common.{ℕ, suc, ◌+◌, ◌-◌, ◌<◌, ◌≤◌, ◌≡◌, ◌∙◌, true, false, Option, Some, None, option_map}
use Rattle.std.proofs.Common.{List, [], ◌∷◌, ◌++◌, length, take, refl, sym, ap, ap₂, subst, arith}
use Rattle.std.proofs.lemmas.Bool.{true≢false, eq-eqb}
use Rattle.bhs_model.specs.declared.events.Event.{Event}
use Rattle.bhs_model.specs.declared.events.Event.TheVariants.{Tell, Deliver, Close}
use Rattle.bhs_model.specs.declared.replies.Reply.{Reply}
use Rattle.bhs_model.specs.Worlds.{World}
use Rattle.bhs_model.specs.Runs.{State, initial, heard, is_bound, reply, run}
use Rattle.bhs_model.specs.InOrder.{is_of}
use Rattle.bhs_model.specs.Kept.{nobody}
use Rattle.bhs_model.specs.Setups.{world_of}
use Rattle.bhs_model.specs.Marks.{events_of}
use Rattle.bhs_model.proofs.KeptLemmas.{run-kept}
use Rattle.bhs_model.proofs.StepLemmas.{by_cases}
use Rattle.bhs_match.specs.Matches.{Play, world_in, state_of}
use Rattle.bhs_view.proofs.PlayingLemmas.{HasPlayed, plays_on}
use Rattle.bhs_schedules.specs.declared.answers.Step.{Step}
use Rattle.bhs_schedules.specs.Strategies.{History, Observation, Heard, Woke, hearing}
use Rattle.bhs_agents.specs.declared.searchers.AgentNews.{AgentNews}
use Rattle.bhs_agents.specs.declared.wake_ups.WakeUps.{WakeUps}
use Rattle.bhs_agents.specs.Searchers.{observation_of}
use Rattle.bhs_agents.proofs.WakeUpLemmas.{IsCounting, row_is}
use Rattle.bhs_attest.specs.Attested.{Player, is_listening, Idles, starts, wakes, is_refused, GoesOn, FollowsTo}
use Rattle.bhs_attest.specs.Attested.{observed, times_woken, wake_ups_of}
use Rattle.bhs_attest.specs.Turns as turns
use Rattle.bhs_attest.specs.Turns.{IsHeard, is_command_of, IsIdle, Waits, Goes}
use Rattle.bhs_attest.proofs.LogLemmas.{same_event}

-- a match on the same network, set up so, in which nothing has happened
abbrev pub fresh : Play → Play
fresh play = record { net = play.net; setup = play.setup; log = [] }

-- The invariant of a replay of the log: the played match holds the events before a place, and the agent has followed
-- its strategy through them, up to the history `old`. Turns that change nothing lead from `old` to `history`. There are
-- no such turns if the event at the place is a delivery, another agent's command or the last event.
pub record IsAt (player : Player) (play : Play) (place : ℕ) (game : Play) (old history : History) : Type 0 where
  pub within : place ≤ length play.log - 1
  pub played : HasPlayed (fresh play) (take place (events_of play.log)) game
  pub follows : FollowsTo player (world_in play) (events_of play.log) place old
  pub idles : Idles player (world_in play) (run (world_in play) (take place (events_of play.log))) old history
  pub only_for : (event : Event)
      → take (suc place) (events_of play.log) ≡ take place (events_of play.log) ++ event ∷ []
      → is_command_of player.agent event ≡ false → history ≡ old
  pub at_end : place ≡ length play.log - 1 → history ≡ old

pub at_start : (player : Player) (play game : Play) → game ≡ fresh play → IsAt player play 0 game [] []
at_start player play game same = record {
  within = omega arith;
  played = subst (HasPlayed (fresh play) []) (sym same) (record { log = refl; net = refl; setup = refl });
  follows = refl;
  idles = starts;
  only_for = λ event there other. refl;
  at_end = λ last. refl;
}

-- what a reply adds to a history
pub heard_is : (news : Option AgentNews) (answer : Option Reply) (history : History)
    → option_map observation_of news ≡ option_map (λ reply. Heard reply) answer
    → observed news history ≡ hearing answer history
heard_is None None history same = refl
heard_is None (Some reply) history same = absurd (cc)
heard_is (Some news) None history same = absurd (cc)
heard_is (Some news) (Some reply) history same =
    let is : observation_of news ≡ Heard reply = cc in
    ap (λ (item : Observation). item ∷ history) is

-- who hears does not wake
pub never_woke : (news : AgentNews) (answer : Option Reply)
    → Some (observation_of news) ≡ option_map (λ reply. Heard reply) answer → observation_of news ≡ Woke → ⊥
never_woke news None same woke = absurd (cc)
never_woke news (Some reply) same woke =
    let is : observation_of news ≡ Heard reply = cc in
    let not_so : Woke ≡ Heard reply = sym woke ∙ is in cc

-- an event of another agent or a Close is no command of this agent
not_commanded : (agent : ℕ) (event : Event) → is_of agent event ≡ false → is_command_of agent event ≡ false
not_commanded agent (Tell speaker command) other = other
not_commanded agent (Deliver traveller) other = refl
not_commanded agent Close other = refl

module _ (player : Player) (play game : Play) (place : ℕ) (old history : History)
    (at : IsAt player play place game old history) where
  abbrev pub world : World
  world = world_in play

  abbrev pub events : List Event
  events = events_of play.log

  abbrev pub state : State
  state = run world (take place events)

  world_is : world_in game ≡ world
  world_is = ap₂ world_of at.played.net at.played.setup

  pub state_is : state_of game ≡ state
  state_is =
      ap (λ (w : World). run w (events_of game.log)) world_is ∙ ap (run world) (sym at.played.log)
      ∙ run-kept world initial nobody (take place events)

  reply_is : (event : Event) → reply (world_in game) (state_of game) event ≡ reply world state event
  reply_is event = ap₂ (λ (w : World) (s : State). reply w s event) world_is state_is

  -- the played match and the log give the same reply to an event
  hears : (event : Event) (news : Option AgentNews) → IsHeard game event news
      → observed news history ≡ hearing (reply world state event) history
  hears event news is =
      heard_is news (reply (world_in game) (state_of game) event) history is
      ∙ ap (λ (answer : Option Reply). hearing answer history) (reply_is event)

  -- a turn that changes nothing
  pub idle_on : (event : Event) (step : Step) (wake_ups : WakeUps) (news : AgentNews) (new : Play)
      → place < length play.log - 1 → take (suc place) events ≡ take place events ++ event ∷ []
      → step ≡ player.strategy history → IsCounting player.wakeups history wake_ups
      → Waits player.agent wake_ups game event step news new
      → IsAt player play place new old (observation_of news ∷ history)
  idle_on event step wake_ups news new before there does counting waits = record {
    within = at.within;
    played = subst (HasPlayed (fresh play) (take place events)) (sym waits.same) at.played;
    follows = at.follows;
    idles = idles waits.idle;
    only_for = λ other is foreign. absurd (true≢false (sym waits.own
        ∙ ap (is_command_of player.agent) (same_event events place event other there is) ∙ foreign));
    at_end = λ last. absurd (not_last last);
  }
    where
      not_last : place ≡ length play.log - 1 → ⊥
      not_last last = omega (arith, before, last)

      idles : IsIdle player.agent wake_ups game step news
          → Idles player world state old (observation_of news ∷ history)
      idles (turns.wakes woke sleeps few) =
          subst (λ (item : Observation). Idles player world state old (item ∷ history)) (sym woke)
          (wakes history at.idles (sym does ∙ sleeps)
          (subst (λ (n : ℕ). n ≤ player.wakeups) (row_is player.wakeups history wake_ups counting)
          (subst (λ (n : ℕ). wake_ups.in_a_row ≤ n) counting.same_limit few)))
      idles (turns.is_refused command says unheard is) =
          subst (Idles player world state old) (sym (hears (Tell player.agent command) (Some news) is))
          (is_refused history command at.idles (sym does ∙ says)
          (sym (ap₂ (λ (w : World) (s : State). heard w s player.agent command) world_is state_is) ∙ unheard))

  -- the event at the place
  pub event_on : (event : Event) (step : Step) (news : Option AgentNews) (new : Play)
      → place < length play.log - 1 → take (suc place) events ≡ take place events ++ event ∷ []
      → step ≡ player.strategy history → Goes player.agent game event step news new
      → IsAt player play (suc place) new (observed news history) (observed news history)
  event_on event step news new before there does goes = record {
    within = omega (arith, before);
    played = subst (λ (front : List Event). HasPlayed (fresh play) front new) (sym there)
        (plays_on (fresh play) game new (take place events) event goes.happens.mark at.played goes.happens.log
        goes.happens.same);
    follows = (old, event, there, at.follows, on);
    idles = starts;
    only_for = λ other is foreign. refl;
    at_end = λ last. refl;
  }
    where
      own : is_of player.agent event ≡ true → observed news history ≡ hearing (reply world state event) history
      own is = hears event news (goes.own is)

      on : GoesOn player world state event old (observed news history)
      on = record {
        goes_on = goes.goes_on;
        says = λ command is. record {
          history = history;
          idles = at.idles;
          listens = sym (ap (λ (s : State). is_listening (s.position player.agent)) state_is)
              ∙ (goes.says command is).0;
          says = sym does ∙ (goes.says command is).1;
          hears = own (ap (is_of player.agent) is ∙ eq-eqb player.agent player.agent refl)
              ∙ ap (λ (e : Event). hearing (reply world state e) history) is;
        };
        arrives = λ is. (
          sym (ap (λ (s : State). is_bound (s.position player.agent)) state_is) ∙ goes.arrives is,
          own (ap (is_of player.agent) is ∙ eq-eqb player.agent player.agent refl)
              ∙ ap (hearing (reply world state event))
              (at.only_for event there (ap (is_command_of player.agent) is)),
        );
        others = λ is. ap (λ (it : Option AgentNews). observed it history) (goes.others is)
            ∙ at.only_for event there (not_commanded player.agent event is);
      }

-- who waits and then wakes has not woken too often
pub idle_few : (agent : ℕ) (wake_ups : WakeUps) (old new : Play) (event : Event) (step : Step) (news one : AgentNews)
    → Waits agent wake_ups old event step news new → Some news ≡ Some one → observation_of one ≡ Woke
    → wake_ups.in_a_row ≤ wake_ups.limit
idle_few agent wake_ups old new event step news one waits same woke =
    let is : news ≡ one = cc in by waits.idle (ap observation_of is ∙ woke)
  where
    by : IsIdle agent wake_ups old step news → observation_of news ≡ Woke → wake_ups.in_a_row ≤ wake_ups.limit
    by (turns.wakes is sleeps few) woken = few
    by (turns.is_refused command says unheard heard) woken =
        absurd (never_woke news (reply (world_in old) (state_of old) (Tell agent command)) heard woken)

-- an event of the log wakes nobody
pub event_few : (agent : ℕ) (old new : Play) (event : Event) (step : Step) (news : Option AgentNews) (one : AgentNews)
    → Goes agent old event step news new → news ≡ Some one → observation_of one ≡ Woke → ⊥
event_few agent old new event step news one goes same woke =
    by_cases (is_of agent event) ⊥
    (λ own. never_woke one (reply (world_in old) (state_of old) event)
    (sym (ap (option_map observation_of) same) ∙ goes.own own) woke)
    (λ other. none (sym (goes.others other) ∙ same))
  where
    none : None ≡ Some one → ⊥
    none is = cc

-- an observation wakes once at most
pub woken_once : (news : Option AgentNews) (history : History) (spent : ℕ) → times_woken history ≤ spent
    → times_woken (observed news history) ≤ spent + 1
woken_once None history spent few = omega (arith, few)
woken_once (Some news) history spent few =
    let one : wake_ups_of (observation_of news) ≤ 1 = once (observation_of news) in omega (arith, few, one)
  where
    once : (item : Observation) → wake_ups_of item ≤ 1
    once Woke = omega arith
    once (Heard reply) = omega arith
