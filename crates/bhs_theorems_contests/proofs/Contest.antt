-- What a team solves under every schedule it solves in a contest.
use Rattle.std.proofs.Common.{ℕ, ◌<◌, ◌≡◌, ◌∙◌, ◌⊎◌, Bool, true, false, not, List, [], ◌∷◌, ◌++◌, map}
use Rattle.std.proofs.Common.{nat_lt, refl, sym, ap, inl, inr, subst, append_assoc, append-nil}
use Rattle.std.specs.Prelude.{◌≢◌}
use Rattle.std.proofs.lemmas.Bool.{true≢false, false≢true, and_parts, cond_both, ltb-true, lt-ltb}
use Rattle.std.proofs.lemmas.Bool.Decides.{eqb_tells}
use Rattle.bhs_model.specs.declared.commands.Command.{Command}
use Rattle.bhs_model.specs.declared.commands.Command.TheVariants as commands
use Rattle.bhs_model.specs.declared.events.Event.{Event}
use Rattle.bhs_model.specs.declared.events.Event.TheVariants.{Tell, Deliver, Close}
use Rattle.bhs_model.specs.Views.{View, Start, Told, Arrived, Nothing, Sight, Standing, Outside, Present, Away}
use Rattle.bhs_model.specs.Views.{Ended as Stopped, standing}
use Rattle.bhs_model.specs.Views.{standing_after, ports, used}
use Rattle.bhs_model.specs.Replying.{hears, accepts}
use Rattle.bhs_model.specs.Worlds.{World}
use Rattle.bhs_model.specs.Runs.{State, Position, Before, At, Bound, After, initial, heard, arrives, told}
use Rattle.bhs_model.specs.Runs.{delivered, next, run_from}
use Rattle.bhs_model.specs.Draws.{Held}
use Rattle.bhs_model.specs.Marks.{events_of}
use Rattle.bhs_model.proofs.LegalLemmas.{either}
use Rattle.bhs_match.specs.Matches.{Play, world_in, state_of}
use Rattle.bhs_session.specs.declared.endings.Ended.{Ended}
use Rattle.bhs_session.specs.Answering.{MayLack}
use Rattle.bhs_session.specs.Texts.{command_of}
use Rattle.bhs_wire.specs.Lines.{lines}
use Rattle.bhs_referee.proofs.RestLemmas.{decided_done}
use Rattle.bhs_server.specs.Written.{is_between}
use Rattle.bhs_schedules.specs.Strategies.{Strategies}
use Rattle.bhs_schedules.specs.Schedules.{Trial, opening}
use Rattle.bhs_schedules.specs.Everywhere.{EveryScheduleSolves}
use Rattle.bhs_schedules.specs.Endings.{EveryScheduleCanRest}
use Rattle.bhs_theorems_isolation.specs.Met.{Meeting, Hears, Refuses, Arrives, view_from, view_of, bytes, AreDue}
use Rattle.bhs_theorems_isolation.specs.ContestMet.{Attended, TookPart, IsLeftAs, IsLeftAway, IsSentAsMet, is_whole}
use Rattle.bhs_theorems_isolation.specs.ContestMet.{AreSaid}
use Rattle.bhs_theorems_isolation.proofs.ContestMetLemmas.{sent_as_met_lemma}
use Rattle.bhs_attest.specs.Laws.{trial_in}
use Rattle.bhs_theorems_contests.specs.Contests.{IsPlayedOut, IsPlayedBy, IsPlayedIn, IsPlainMatch, IsOrderly}
use Rattle.bhs_theorems_contests.specs.Contests.{ContestsAreSolved, ContestsAreNeverWrong, ContestsStayWithin}
use Rattle.bhs_theorems_contests.proofs.Steps.{steps, steps_met, steps-view_from}
use Rattle.bhs_theorems_contests.proofs.Doings.{Doing, met_in, Follows, with_arrival, arrival_met}
use Rattle.bhs_theorems_contests.proofs.Doings.{arrival_follows}
use Rattle.bhs_theorems_contests.proofs.Scenes.{Keeps, terms_of}
use Rattle.bhs_theorems_contests.proofs.Heart.{heart}
use Rattle.bhs_theorems_contests.proofs.Reached.{IsReached, reached_by_play}
use Rattle.bhs_theorems_contests.proofs.Early.{within_early}
use Rattle.bhs_theorems_contests.proofs.Final.{judged, never_wrong}
use Rattle.bhs_theorems_contests.proofs.Talking.{spoken}
use Rattle.bhs_theorems_contests.proofs.Plain.{IsPlainPast, plain_past, plain_met}
use Rattle.bhs_theorems_contests.proofs.PlayingOut.{playing_out}

-- ---- each command of a past was heard

abbrev IsHeard : (quota : ℕ) → View → Type 0
IsHeard quota Start = Unit {0}
IsHeard quota (Told view command glance) = (hears quota view command ≡ true) × IsHeard quota view
IsHeard quota (Arrived view sight) = IsHeard quota view

abbrev AllHeard : World → State → Type 0
AllHeard world state = (agent : ℕ) → IsHeard world.quota (state.past agent)

heard_delivered : (world : World) (state : State) (agent : ℕ) (position : Position) → AllHeard world state
    → AllHeard world (delivered world state agent position)
heard_delivered world state agent Before all other = all other
heard_delivered world state agent (At node came) all other = all other
heard_delivered world state agent (Bound node port) all other = elim (eqb_tells other agent) [
  | inl h ↦ rw h.0 (all agent)
  | inr h ↦ rw h.0 (all other)
]
heard_delivered world state agent After all other = all other

heard_next : (world : World) (state : State) (event : Event) → AllHeard world state
    → AllHeard world (next world state event)
heard_next world state (Tell agent command) all =
    cond_both (heard world state agent command) (told world state agent command) state (AllHeard world)
    (λ is_heard other. elim (eqb_tells other agent) [
      | inl h ↦ rw h.0
          ((and_parts (not state.closed) _ (and_parts (nat_lt agent world.agents) _ is_heard).1).1, all agent)
      | inr h ↦ rw h.0 (all other)
    ])
    (λ unheard. all)
heard_next world state (Deliver agent) all = either (AllHeard world) (arrives world state agent)
    (delivered world state agent (state.position agent)) state
    (heard_delivered world state agent (state.position agent) all) all
heard_next world state Close all = all

heard_run : (world : World) (state : State) (events : List Event) → AllHeard world state
    → AllHeard world (run_from world state events)
heard_run world state [] all = all
heard_run world state (event ∷ events) all =
    heard_run world (next world state event) events (heard_next world state event all)

-- a session that ended with an accusation did not leave
never_left : (quota : ℕ) (view : View) → standing view ≡ Stopped → IsHeard quota (Told view commands.Leave Nothing) → ⊥
never_left quota view stopped is =
    false≢true (sym (ap (λ (s : Standing). accepts s (nat_lt (used view) quota) commands.Leave) stopped) ∙ is.0)

-- ---- the past of an agent is what its session met

-- what the session met, or one arrival more that it was not told
abbrev IsMet : (view past : View) → Type 0
IsMet view past = (past ≡ view) ⊎ ((standing view ≡ Away) × ((sight : Sight) × (past ≡ Arrived view sight)))

left_stopped : (view : View) → standing (Told view commands.Leave Nothing) ≡ Stopped
left_stopped view = at (standing view) (ports view)
  where
    at : (stands : Standing) (count : ℕ) → standing_after stands count commands.Leave ≡ Stopped
    at Outside count = refl
    at Present count = refl
    at Away count = refl
    at Stopped count = refl

met_living : (view past : View) → standing past ≢ Stopped → IsLeftAway view past → IsMet view past
met_living view past lives (inl (inl same)) = inl same
met_living view past lives (inl (inr left)) = absurd (lives (ap standing left ∙ left_stopped view))
met_living view past lives (inr there) = elim there.1.1 [
  | inl came ↦ inr (there.0, (there.1.0, came))
  | inr left ↦ absurd (lives (ap standing left ∙ left_stopped (Arrived view there.1.0)))
]

met_ended : (quota : ℕ) (view past : View) → IsHeard quota past → standing view ≡ Stopped → IsLeftAs view past
    → IsMet view past
met_ended quota view past is stopped (inl same) = inl same
met_ended quota view past is stopped (inr left) = absurd (never_left quota view stopped (subst (IsHeard quota) left is))

stopped_by : (ended : Ended) (stands : Standing) → is_between ended ≡ false
    → (is_between ended ≡ true) ⊎ (stands ≡ Stopped) → stands ≡ Stopped
stopped_by ended stands none (inl between) = absurd (true≢false (sym between ∙ none))
stopped_by ended stands none (inr stopped) = stopped

past_met : (one : Attended) (is : IsSentAsMet one) → IsPlayedOut one
    → IsHeard one.play.setup.quota ((state_of one.play).past one.pass.agent)
    → IsMet (view_of is.met) ((state_of one.play).past one.pass.agent)
past_met one is (inl (inl bye)) all =
    let whole = is.whole (ap is_whole bye) in
    met_ended one.play.setup.quota (view_of is.met) _ all
    (stopped_by one.ended (standing (view_of is.met)) (ap is_between bye) whole.4) whole.3
past_met one is (inl (inr noted)) all =
    let whole = is.whole (ap is_whole noted) in
    met_ended one.play.setup.quota (view_of is.met) _ all
    (stopped_by one.ended (standing (view_of is.met)) (ap is_between noted) whole.4) whole.3
past_met one is (inr over) all = met_living (view_of is.met) _ over.1 is.lived

all_written : (one : Attended) (is : IsSentAsMet one) → IsPlayedOut one → is.unwritten ≡ []
all_written one is (inl (inl bye)) = subst (λ (ended : Ended). MayLack ended is.unwritten) bye is.is_unwritten
all_written one is (inl (inr noted)) = subst (λ (ended : Ended). MayLack ended is.unwritten) noted is.is_unwritten
all_written one is (inr over) = subst (λ (ended : Ended). MayLack ended is.unwritten) over.0 is.is_unwritten

-- ---- the past and the steps that an agent has to play

-- a plain past consists of plain meetings
plain_view : (quota limit : ℕ) (view past : View) → IsMet view past → IsPlainPast quota limit past
    → IsPlainPast quota limit view
plain_view quota limit view past (inl same) plain = subst (IsPlainPast quota limit) same plain
plain_view quota limit view past (inr came) plain = (subst (IsPlainPast quota limit) came.1.1 plain).1

steps_more : (met : List Meeting) (sight : Sight) → steps_met (met ++ Arrives sight ∷ [])
    ≡ steps_met met ++ Arrives sight ∷ []
steps_more [] sight = refl
steps_more (Hears command seen ∷ met) sight =
    ap (λ (rest : List Meeting). Hears command seen ∷ rest) (steps_more met sight)
steps_more (Refuses command ∷ met) sight = steps_more met sight
steps_more (Arrives seen ∷ met) sight =
    ap (λ (rest : List Meeting). Arrives seen ∷ rest) (steps_more met sight)

module _ (play : Play) (held : Held) (wakeups : ℕ) (strategies : Strategies) (plain : IsPlainMatch held play) where
  abbrev trial : Trial
  trial = trial_in play held wakeups strategies

  abbrev events : List Event
  events = events_of play.log

  abbrev final : ℕ → View
  final agent = (state_of play).past agent

  record IsToPlay (agent : ℕ) (doings : List Doing) : Type 0 where
    follows : Follows (strategies agent) (terms_of trial) [] Start doings
    left : steps (final agent) ≡ steps_met (met_in doings)

  record ToPlay (agent : ℕ) : Type 0 where
    doings : List Doing
    is : agent < play.setup.agents → IsToPlay agent doings

  -- of one session, whose match and agent are its own
  to_play_by : (one : Attended) (agent : ℕ) → one.play ≡ play → one.pass.agent ≡ agent → TookPart one
      → IsPlayedBy wakeups (strategies agent) one → ToPlay agent
  to_play_by one agent same own took played =
      let quota : ℕ = play.setup.quota in
      let board : ℕ = play.setup.board in
      let is : IsSentAsMet one = sent_as_met_lemma one took in
      let quota_is : one.play.setup.quota ≡ quota = ap (λ (p : Play). p.setup.quota) same in
      let board_is : one.play.setup.board ≡ board = ap (λ (p : Play). p.setup.board) same in
      let past_is : (state_of one.play).past one.pass.agent ≡ final agent =
      λ i. (state_of (same i)).past (own i) in
      let all : IsHeard one.play.setup.quota ((state_of one.play).past one.pass.agent) =
      heard_run (world_in one.play) initial (events_of one.play.log) (λ other. tt) one.pass.agent in
      let met_is : IsMet (view_of is.met) (final agent) =
      subst (IsMet (view_of is.met)) past_is (past_met one is played.out all) in
      let past_plain : IsPlainPast quota board (final agent) =
      plain_past play events plain.labelled plain.short agent in
      let written : one.written ≡ bytes board is.met ++ is.last =
      sym (append-nil one.written)
      ∙ ap (λ (rest : List ℕ). one.written ++ rest) (sym (all_written one is played.out)) ∙ is.sent
      ∙ ap (λ (limit : ℕ). bytes limit is.met ++ is.last) board_is in
      let said : is.heard ++ (is.left ++ (one.more ++ played.unread)) ≡ map command_of (lines played.transcript.said) =
      sym (append_assoc is.heard is.left (one.more ++ played.unread))
      ∙ ap (λ (first : List Command). first ++ (one.more ++ played.unread)) (sym is.said)
      ∙ sym (append_assoc one.said one.more played.unread) ∙ played.read in
      let talk = spoken wakeups (strategies agent) played.key played.history played.transcript played.talks in
      let out =
      playing_out (strategies agent) played.key (terms_of trial) is.last talk.items [] Start is.met
      played.transcript.said
      played.transcript.heard is.heard (is.left ++ (one.more ++ played.unread)) talk.speaks_all (played.heard ∙ written)
      (subst (λ (q : ℕ). AreDue q Start is.met) quota_is is.due)
      (subst (λ (limit : ℕ). AreSaid limit Start is.met is.heard) board_is is.are_said) said
      (plain_met quota board is.met Start
      (plain_view quota board (view_of is.met) (final agent) met_is past_plain)).0 in
      let met_steps : steps (view_of is.met) ≡ steps_met (met_in out.doings) =
      steps-view_from Start is.met ∙ ap steps_met (sym out.same) in
      elim met_is [
        | inl lived ↦ record {
          doings = out.doings;
          is = λ within. record { follows = out.follows; left = ap steps lived ∙ met_steps };
        }
        | inr came ↦ record {
          doings = with_arrival out.doings came.1.0;
          is = λ within. record {
            follows = arrival_follows (strategies agent) (terms_of trial) came.1.0 out.doings [] Start
                (ap (λ (met : List Meeting). standing (view_from Start met)) out.same ∙ came.0) out.follows;
            left = ap steps came.1.1 ∙ ap (λ (met : List Meeting). met ++ Arrives came.1.0 ∷ []) met_steps
                ∙ sym (steps_more (met_in out.doings) came.1.0)
                ∙ ap steps_met (sym (arrival_met out.doings came.1.0));
          };
        }
      ]

  to_play : (clients : (agent : ℕ) → Attended)
      → ((agent : ℕ) → agent < play.setup.agents → IsPlayedIn play wakeups strategies agent (clients agent))
      → (agent : ℕ) → ToPlay agent
  to_play clients played agent = choose (nat_lt agent play.setup.agents) refl
    where
      choose : (b : Bool) → nat_lt agent play.setup.agents ≡ b → ToPlay agent
      choose true within =
          let one = played agent (ltb-true agent play.setup.agents within) in
          to_play_by (clients agent) agent one.same one.own one.took one.played
      choose false beyond = record {
        doings = [];
        is = λ within. absurd (true≢false (sym (lt-ltb agent play.setup.agents within) ∙ beyond));
      }

  -- before anything has happened
  begins : ((agent : ℕ) → ToPlay agent) → Keeps trial final []
  begins all = record {
    scene = opening;
    schedule = [];
    is = refl;
    kept = refl;
    open_still = refl;
    doings = λ agent. (all agent).doings;
    follows = λ agent within. ((all agent).is within).follows;
    left = λ agent within. ((all agent).is within).left;
  }

  -- a schedule comes to where the log does
  reached : (moves most_lost : ℕ) (clients : (agent : ℕ) → Attended)
      → ((agent : ℕ) → agent < play.setup.agents → IsPlayedIn play wakeups strategies agent (clients agent))
      → IsOrderly trial → EveryScheduleSolves trial moves most_lost → EveryScheduleCanRest trial
      → IsReached trial events
  reached moves most_lost clients played orderly solves rests =
      reached_by_play trial final events
      (heart trial final orderly moves most_lost solves rests events [] (begins (to_play clients played))
      plain.kept plain.free (λ agent. refl))

pub contests_are_solved : ContestsAreSolved
contests_are_solved play held wakeups strategies moves lost clients played plain done orderly solves rests =
    judged (trial_in play held wakeups strategies) moves lost solves (events_of play.log) (decided_done play done)
    (reached play held wakeups strategies plain moves lost clients played orderly solves rests)

pub contests_are_never_wrong : ContestsAreNeverWrong
contests_are_never_wrong play held wakeups strategies moves lost clients played plain orderly solves rests =
    never_wrong (trial_in play held wakeups strategies) moves lost solves rests (events_of play.log)
    (reached play held wakeups strategies plain moves lost clients played orderly solves rests)

pub contests_stay_within : ContestsStayWithin
contests_stay_within play held wakeups strategies moves lost clients played plain orderly solves rests =
    within_early (trial_in play held wakeups strategies) moves lost solves rests (events_of play.log)
    (reached play held wakeups strategies plain moves lost clients played orderly solves rests)
