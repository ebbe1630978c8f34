-- Two matches under one oblivious schedule, on different networks, in each of which an agent enters, departs, arrives
-- once its link's delay is over, and leaves: the theorem over every arrival speaks of them, whatever the words and the
-- law of delays are.
use Rattle.std.specs.Prelude.{ℕ, ◌+◌, ◌≡◌, Some, None, List, [], ◌∷◌}
use Rattle.rand_chacha.specs.ChaCha.{ChaCha}
use Rattle.bhs_net.specs.Network.{Network}
use Rattle.bhs_model.specs.declared.commands.Command.TheVariants.{Enter, Depart, Leave}
use Rattle.bhs_model.specs.declared.events.Event.TheVariants.{Tell, Deliver, Close}
use Rattle.bhs_model.specs.declared.marks.Mark.TheVariants as marks
use Rattle.bhs_model.specs.declared.replies.Reply.TheVariants.{Here, Gone, Bye}
use Rattle.bhs_model.specs.declared.setups.Setup.{Setup}
use Rattle.bhs_time.specs.declared.kinds.ScheduleKind.TheVariants.{Oblivious}
use Rattle.bhs_time.specs.Schedules.{DelayLaw, delay}
use Rattle.bhs_time.specs.Stamps.{HasArrival}
use Rattle.bhs_time.specs.TimedViews.{TimedView, Fresh, ToldAt, NothingThen, SawThen, SeenThen, UnwrittenThen}
use Rattle.bhs_time.specs.TimedViews.{departed_at}
use Rattle.bhs_match.specs.Matches.{Play}
use Rattle.bhs_deliveries.specs.Delaying.{delay_word}
use Rattle.bhs_shared_match.specs.SharedMatches.{Given}
use Rattle.bhs_shared_match.specs.Passes.{Passed}
use Rattle.bhs_shared_match.specs.declared.settlement.Settlement.{Settlement}
use Rattle.bhs_theorems_isolation.specs.ContestExample.{receipt}
use Rattle.bhs_theorems_isolation.specs.ContestTime.{timed_view, schedule_of, HasEnded}

-- a match of one agent
pub record WalkedMatch : Type 0 where
  pub net : Network
  pub setup : Setup
  pub held : List (ℕ × ℕ)
  -- how many ports the home base has, by which of them the agent departs, and how many the node has where it arrives
  pub ports : ℕ
  pub port : ℕ
  pub ports_there : ℕ

-- on a triangle whose node 2 is a black hole
abbrev pub walk : WalkedMatch
walk = record {
  net = ((1, 0) ∷ (2, 1) ∷ []) ∷ ((0, 0) ∷ (2, 0) ∷ []) ∷ ((1, 1) ∷ (0, 1) ∷ []) ∷ [];
  setup = record { home = 0; holes = 2 ∷ []; dark = []; agents = 1; quota = 10; board = 8 };
  held = [];
  ports = 2;
  port = 0;
  ports_there = 2;
}

-- from node 1 of a square with one link across, whose node 0 is a black hole, and whose link between 1 and 2 is held
abbrev pub other_walk : WalkedMatch
other_walk = record {
  net = ((1, 0) ∷ (2, 0) ∷ []) ∷ ((0, 0) ∷ (2, 1) ∷ (3, 0) ∷ []) ∷ ((0, 1) ∷ (1, 1) ∷ (3, 1) ∷ [])
      ∷ ((1, 2) ∷ (2, 2) ∷ []) ∷ [];
  setup = record { home = 1; holes = 0 ∷ []; dark = []; agents = 1; quota = 20; board = 4 };
  held = (1, 1) ∷ (2, 1) ∷ [];
  ports = 3;
  port = 2;
  ports_there = 2;
}

abbrev pub play_of : WalkedMatch → Play
play_of walk = record {
  net = walk.net;
  setup = walk.setup;
  log = record { event = Tell 0 Enter; mark = Some (marks.Here walk.ports None None) }
      ∷ record { event = Tell 0 (Depart walk.port); mark = Some marks.Gone }
      ∷ record { event = Deliver 0; mark = Some (marks.Here walk.ports_there (Some 0) None) }
      ∷ record { event = Tell 0 Leave; mark = Some marks.Bye } ∷ record { event = Close; mark = None } ∷ [];
}

abbrev pub given_of : WalkedMatch → DelayLaw → Given
given_of walk law =
    record { game = 0; net = walk.net; setup = walk.setup; held = walk.held; schedule = Oblivious law }

abbrev pub pass_of : WalkedMatch → Passed
pass_of walk = record {
  game = 0;
  quota = walk.setup.quota;
  agent = 0;
  receipts = receipt 0 (Here walk.ports None []) ∷ receipt 1 Gone ∷ receipt 3 Bye ∷ [];
  commands = Enter ∷ Depart walk.port ∷ Leave ∷ [];
  arrivals = receipt 2 (Here walk.ports_there (Some 0) []) ∷ [];
}

-- how many turns the agent waits on its link, by the word of its departure
abbrev pub wait_of : ChaCha → DelayLaw → ℕ
wait_of dealer law = delay law.odds law.scales (delay_word dealer 0 0)

-- it departs before the first turn is over, and arrives in the turn that follows so many
abbrev pub turns_of : (wait : ℕ) → List ℕ
turns_of wait = 0 ∷ 0 ∷ wait ∷ (wait + 1) ∷ (wait + 1) ∷ []

-- the agent's past before it arrived
abbrev pub before_arrival : WalkedMatch → TimedView
before_arrival walk =
    ToldAt (ToldAt Fresh 0 Enter (SawThen (SeenThen walk.ports None UnwrittenThen))) 0 (Depart walk.port) NothingThen

-- The settlement belongs to this match, with these turns.
pub record IsOfWalk (walk : WalkedMatch) (wait : ℕ) (one : Settlement) : Type 0 where
  pub sealed : one.sealed ≡ play_of walk
  pub turns : one.turns.items ≡ turns_of wait

-- what the theorem asks of a match
pub record IsSpokenOf (walk : WalkedMatch) (dealer : ChaCha) (law : DelayLaw) (one : Settlement) : Type 0 where
  pub ended : HasEnded (given_of walk law) dealer law one
  pub arrived : HasArrival (timed_view one 0) (before_arrival walk) (wait_of dealer law)

-- what it asks of two
pub record AreSpokenOf (dealer : ChaCha) (law : DelayLaw) (one two : Settlement) : Type 0 where
  pub first : IsSpokenOf walk dealer law one
  pub second : IsSpokenOf other_walk dealer law two
  pub schedules : schedule_of dealer law one ≡ schedule_of dealer law two
  pub departed : departed_at (before_arrival walk) ≡ departed_at (before_arrival other_walk)

abbrev pub TheTheoremOfTimeSpeaksOfThem : Type 0
TheTheoremOfTimeSpeaksOfThem = (dealer : ChaCha) (law : DelayLaw) (one two : Settlement)
    → IsOfWalk walk (wait_of dealer law) one → IsOfWalk other_walk (wait_of dealer law) two
    → AreSpokenOf dealer law one two
