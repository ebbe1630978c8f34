-- Leaving out of a timed execution what others said: which commands may go, so that the agents that are watched meet
-- the same at the same turns.
use Rattle.std.specs.Prelude.{ℕ, ◌≡◌, Bool, true, false, Option, Some, None, List, [], ◌∷◌}
use Rattle.bhs_model.specs.declared.events.Event.{Event}
use Rattle.bhs_model.specs.declared.events.Event.TheVariants.{Tell, Close}
use Rattle.bhs_model.specs.Worlds.{World}
use Rattle.bhs_model.specs.Runs.{State, changed}
use Rattle.bhs_model.specs.Cuts.{Footprint, footprint, cut}
use Rattle.bhs_model.specs.Draws.{Held}
use Rattle.bhs_time.specs.Schedules.{Schedule}
use Rattle.bhs_time.specs.TimedRuns.{TimedState, timed_initial, TimedAct, Says, Passes, Ends, delivery_now, timed_next}
use Rattle.bhs_time.specs.TimedRuns.{timed_run}

-- an act with a keep flag
pub record Marked : Type 0 where
  pub act : TimedAct
  pub kept : Bool

-- the acts, kept or not
abbrev pub all_of : List Marked → List TimedAct
all_of [] = []
all_of (one ∷ others) = one.act ∷ all_of others

-- prepends an act, unless it is a command that is not kept
abbrev pub if_kept : TimedAct → (kept : Bool) → List TimedAct → List TimedAct
if_kept (Says agent command) false acts = acts
if_kept act kept acts = act ∷ acts

-- The acts without the dropped commands. Turns and the close remain.
abbrev pub kept_of : List Marked → List TimedAct
kept_of [] = []
kept_of (one ∷ others) = if_kept one.act one.kept (kept_of others)

-- the agents that are still watched, and the nodes where a write was left out
pub record TaintState : Type 0 where
  pub live : ℕ → Bool
  pub tainted : ℕ → Bool

-- all agents are watched, and nothing is left out yet
abbrev pub all_watched : TaintState
all_watched = record { live = λ agent. true; tainted = λ node. false }

-- adds this node to the nodes where a write was left out
abbrev pub taint : (ℕ → Bool) → Option ℕ → ℕ → Bool
taint tainted None = tainted
taint tainted (Some node) = changed tainted node true

-- an agent is watched until the first of its acts that is not kept: a command, or a turn that picks it
abbrev pub watch_after : World → Schedule → TimedState → TaintState → TimedAct → (kept : Bool) → TaintState
watch_after world schedule timed watch (Says agent command) false = record {
  live = changed watch.live agent false;
  tainted = taint watch.tainted (footprint world timed.state (Tell agent command)).written;
}
watch_after world schedule timed watch Passes false =
    record watch { live = changed watch.live (schedule.picked timed.turn) false }
watch_after world schedule timed watch act kept = watch

-- The observed node has no left-out write.
abbrev pub IsClean : (tainted : ℕ → Bool) → (seen : Option ℕ) → Type 0
IsClean tainted None = Unit {0}
IsClean tainted (Some node) = tainted node ≡ false

-- The event, if any, observes no node with a left-out write.
abbrev pub IsCleanIf : World → State → (tainted : ℕ → Bool) → Option Event → Type 0
IsCleanIf world state tainted None = Unit {0}
IsCleanIf world state tainted (Some event) = IsClean tainted (footprint world state event).seen

-- An act may be kept: the agent is watched, and sees no node where a write was left out. A turn may be kept whoever it
-- picks, if that agent is not watched.
abbrev pub MayBeKept : World → Held → Schedule → TimedState → TaintState → TimedAct → (kept : Bool) → Type 0
MayBeKept world held schedule timed watch (Says agent command) true =
    (watch.live agent ≡ true) × IsClean watch.tainted (footprint world timed.state (Tell agent command)).seen
MayBeKept world held schedule timed watch Passes true =
    watch.live (schedule.picked timed.turn) ≡ true →
    IsCleanIf world timed.state watch.tainted (delivery_now held schedule timed)
MayBeKept world held schedule timed watch act kept = Unit {0}

-- at each act, what is kept may be kept: no watched agent sees what is left out
abbrev pub IsUnseen : World → Held → Schedule → TimedState → TaintState → List Marked → Type 0
IsUnseen world held schedule timed watch [] = Unit {0}
IsUnseen world held schedule timed watch (one ∷ others) =
    MayBeKept world held schedule timed watch one.act one.kept
    × IsUnseen world held schedule (timed_next world held schedule timed one.act)
    (watch_after world schedule timed watch one.act one.kept) others

-- the watched agents at the end
abbrev pub watched : World → Held → Schedule → TimedState → TaintState → List Marked → TaintState
watched world held schedule timed watch [] = watch
watched world held schedule timed watch (one ∷ others) =
    watched world held schedule (timed_next world held schedule timed one.act)
    (watch_after world schedule timed watch one.act one.kept) others

-- An agent meets the same at the same turns by these acts as by those, and stands at the same place.
pub record MeetsTheSame (world : World) (held : Held) (schedule : Schedule) (acts others : List TimedAct)
    (agent : ℕ) : Type 0 where
  pub pasts : (timed_run world held schedule acts).pasts agent ≡ (timed_run world held schedule others).pasts agent
  pub positions : (timed_run world held schedule acts).state.position agent
      ≡ (timed_run world held schedule others).state.position agent
  pub turns : (timed_run world held schedule acts).turn ≡ (timed_run world held schedule others).turn

-- What watched agents do not see may be left out: each agent that is watched to the end meets the same.
abbrev pub TheUnseenMayBeLeftOut : Type 0
TheUnseenMayBeLeftOut = (world : World) (held : Held) (schedule : Schedule) (acts : List Marked) (agent : ℕ) →
    IsUnseen world held schedule timed_initial all_watched acts →
    (watched world held schedule timed_initial all_watched acts).live agent ≡ true →
    MeetsTheSame world held schedule (all_of acts) (kept_of acts) agent

-- the node that an optional event observes
abbrev pub seen_if : World → State → Option Event → Option ℕ
seen_if world state None = None
seen_if world state (Some event) = (footprint world state event).seen

-- The footprint of an act; a turn belongs to the agent that it picks.
abbrev pub act_footprint : World → Held → Schedule → TimedState → TimedAct → Footprint
act_footprint world held schedule timed (Says agent command) = footprint world timed.state (Tell agent command)
act_footprint world held schedule timed Passes = record {
  who = Some (schedule.picked timed.turn);
  seen = seen_if world timed.state (delivery_now held schedule timed);
  written = None;
  closes = false;
}
act_footprint world held schedule timed Ends = footprint world timed.state Close

-- the footprints of the acts, in order
abbrev pub act_footprints : World → Held → Schedule → TimedState → List TimedAct → List Footprint
act_footprints world held schedule timed [] = []
act_footprints world held schedule timed (act ∷ acts) =
    act_footprint world held schedule timed act ∷ act_footprints world held schedule
    (timed_next world held schedule timed act) acts

-- the acts, kept at the chosen places
abbrev pub marked_by : List TimedAct → (places : List Bool) → List Marked
marked_by [] places = []
marked_by (act ∷ acts) [] = record { act = act; kept = false } ∷ marked_by acts []
marked_by (act ∷ acts) (chosen ∷ places) = record { act = act; kept = chosen } ∷ marked_by acts places

-- The acts without the commands outside the cut of the agent. The cut has its own acts, the acts that these need, and
-- so on, back to the start.
abbrev pub within_cut : World → Held → Schedule → (agent : ℕ) → List TimedAct → List TimedAct
within_cut world held schedule agent acts =
    kept_of (marked_by acts (cut agent (act_footprints world held schedule timed_initial acts)))

-- Isolation in time for whole matches: what is said outside an agent's cut changes neither its past nor any turn in it.
abbrev pub CutsSufficeInTime : Type 0
CutsSufficeInTime = (world : World) (held : Held) (schedule : Schedule) (acts : List TimedAct) (agent : ℕ) →
    MeetsTheSame world held schedule acts (within_cut world held schedule agent acts) agent
