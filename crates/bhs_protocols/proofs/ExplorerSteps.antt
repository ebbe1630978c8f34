-- Two agents that explore the nodes of two sides as the shuttle does, by ways of any length: what such agents are. The
-- shuttle is one example, on a ring; agents that explore any network by a guide are another.
use Rattle.std.proofs.Common.{ℕ, zero, suc, ◌+◌, ◌-◌, ◌*◌, ◌<◌, ◌≡◌, ◌==◌, ◌&&◌, Option, Some, List, [], ◌∷◌}
use Rattle.std.proofs.Common.{if◌then◌else◌}
use Rattle.bhs_model.specs.declared.commands.Command.TheVariants.{Enter, Write, Depart, Accuse}
use Rattle.bhs_model.specs.declared.replies.Reply.TheVariants.{Here, Written, Changed, Gone, Noted}
use Rattle.bhs_model.specs.Worlds.{Network}
use Rattle.bhs_schedules.specs.declared.answers.Step.{Step}
use Rattle.bhs_schedules.specs.declared.answers.Step.TheVariants.{Says, Stops}
use Rattle.bhs_schedules.specs.Strategies.{Heard, History, Strategies}
use Rattle.bhs_protocols.specs.declared.shuttle.Memory.{Memory}
use Rattle.bhs_protocols.specs.declared.shuttle.Phase.{Phase}
use Rattle.bhs_protocols.specs.declared.shuttle.Phase.TheVariants.{Begins, GoesOut, Leaves, ComesBack, Returns, Writes}
use Rattle.bhs_protocols.specs.declared.shuttle.Phase.TheVariants.{Ends}
use Rattle.bhs_protocols.specs.Shuttle.{other_in, text_by, is_one_left}

-- ---- ways

-- A way from the home base to a node of a side, link by link. At each step, counted from the home base: which node of
-- the side it is at, by which port one goes on, and by which one goes back.
pub record Way : Type 0 where
  pub steps : ℕ
  pub place : (step : ℕ) → ℕ
  pub ahead : (step : ℕ) → ℕ
  pub behind : (step : ℕ) → ℕ

-- it leads from the home base to the k-th node of the side, past nodes of the side that come earlier
pub record IsWay (net : Network) (node : (place : ℕ) → ℕ) (k : ℕ) (way : Way) : Type 0 where
  pub first : way.place 0 ≡ 0
  pub last : way.place way.steps ≡ k
  pub early : (step : ℕ) → step < way.steps → way.place step < k
  pub ahead : (step : ℕ) → step < way.steps → way.ahead step < net.degree (node (way.place step))
  pub behind : (step : ℕ) → step < way.steps → way.behind (step + 1) < net.degree (node (way.place (step + 1)))
  pub out : (step : ℕ) → step < way.steps → net.far (node (way.place step)) (way.ahead step)
      ≡ (node (way.place (step + 1)), way.behind (step + 1))
  pub back : (step : ℕ) → step < way.steps → net.far (node (way.place (step + 1))) (way.behind (step + 1))
      ≡ (node (way.place step), way.ahead step)

-- ---- what an agent does and holds, on the way to the next node of its side

abbrev pub does_by : (n : ℕ) → Way → Memory → Phase → Step
does_by n way m Begins = Says Enter
does_by n way m (GoesOut step port) =
    if step + 1 == way.steps && is_one_left n m then Says (Accuse port) else Says (Depart port)
does_by n way m (ComesBack step port) = Says (Depart port)
does_by n way m Writes = Says (Write (text_by m.side m.mine m.theirs) (text_by m.side (m.mine + 1) m.theirs))
does_by n way m phase = Stops

-- the agent has walked out to this step
abbrev pub out_by : Way → Memory → (step : ℕ) → Memory
out_by way m step =
    if step == way.steps
    then record m { phase = ComesBack step (way.behind step) }
    else record m { phase = GoesOut step (way.ahead step) }

-- it has come back to this step, or to the home base
abbrev pub back_by : Way → Memory → (step : ℕ) → (board : List ℕ) → Memory
back_by way m zero board = record m { phase = Writes; theirs = other_in m.side board }
back_by way m (suc step) board = record m { phase = ComesBack (suc step) (way.behind (suc step)) }

module _ (n : ℕ) (strategies : Strategies) (holds : (agent : ℕ) → History → Memory) (way_to : (side k : ℕ) → Way) where
  -- the way of agent s to its next node
  abbrev pub next_way : (s : ℕ) → History → Way
  next_way s past = way_to s ((holds s past).mine + 1)

  -- agent s is about this on its own side, and another node is left there
  pub record IsAbout (s : ℕ) (past : History) (phase : Phase) : Type 0 where
    pub below : s < 2
    pub side : (holds s past).side ≡ s
    pub within : (holds s past).mine + 1 < n
    pub is : (holds s past).phase ≡ phase

  -- Agents that hold this do as explorers do. What they hold after an arrival is said of links of their way only.
  pub record AreExplorers : Type 0 where
    pub starts : (s : ℕ) → holds s [] ≡ record { side = s; mine = 0; theirs = 0; phase = Begins }
    pub does : (s : ℕ) (past : History) → strategies s past
        ≡ does_by n (way_to (holds s past).side ((holds s past).mine + 1)) (holds s past) (holds s past).phase
    pub enters : (s : ℕ) (past : History) (ports : ℕ) (came : Option ℕ) (board : List ℕ) → IsAbout s past Begins
        → holds s (Heard (Here ports came board) ∷ past) ≡ record (holds s past) {
          theirs = other_in (holds s past).side board;
          phase = GoesOut 0 ((next_way s past).ahead 0);
        }
    pub goes : (s : ℕ) (past : History) (step port : ℕ) → IsAbout s past (GoesOut step port)
        → holds s (Heard Gone ∷ past) ≡ record (holds s past) { phase = Leaves step }
    pub ends : (s : ℕ) (past : History) (step port : ℕ) → IsAbout s past (GoesOut step port)
        → holds s (Heard Noted ∷ past) ≡ record (holds s past) { phase = Ends }
    pub comes_out : (s : ℕ) (past : History) (step ports : ℕ) (board : List ℕ) → IsAbout s past (Leaves step)
        → step < (next_way s past).steps
        → holds s (Heard (Here ports (Some ((next_way s past).behind (step + 1))) board) ∷ past)
        ≡ out_by (next_way s past) (holds s past) (step + 1)
    pub turns : (s : ℕ) (past : History) (step port : ℕ) → IsAbout s past (ComesBack step port)
        → holds s (Heard Gone ∷ past) ≡ record (holds s past) { phase = Returns step }
    pub comes_back : (s : ℕ) (past : History) (step left ports : ℕ) (board : List ℕ) → IsAbout s past (Returns step)
        → step ≡ left + 1 → holds s (Heard (Here ports (Some ((next_way s past).ahead left)) board) ∷ past)
        ≡ back_by (next_way s past) (holds s past) left board
    pub wrote : (s : ℕ) (past : History) → IsAbout s past Writes
        → holds s (Heard Written ∷ past) ≡ record (holds s past) {
          mine = (holds s past).mine + 1;
          phase = GoesOut 0 ((way_to s ((holds s past).mine + 1 + 1)).ahead 0);
        }
    pub reads : (s : ℕ) (past : History) (board : List ℕ) → IsAbout s past Writes
        → holds s (Heard (Changed board) ∷ past)
        ≡ record (holds s past) { theirs = other_in (holds s past).side board }

-- ---- potential by phase; `all` is the number of steps of the route to the next node

-- moves since the agent was last at the home base
abbrev pub trip : (all : ℕ) → Phase → ℕ
trip all Begins = 0
trip all (GoesOut step port) = step
trip all (Leaves step) = step + 1
trip all (ComesBack step port) = 2 * all - step
trip all (Returns step) = 2 * all + 1 - step
trip all Writes = 2 * all
trip all Ends = all - 1

abbrev pub ended : Phase → ℕ
ended Ends = 1
ended phase = 0

-- departures and arrivals since then
abbrev pub paces : (all : ℕ) → Phase → ℕ
paces all Begins = 0
paces all (GoesOut step port) = 1 + 2 * step
paces all (Leaves step) = 2 + 2 * step
paces all (ComesBack step port) = 1 + 2 * (2 * all - step)
paces all (Returns step) = 2 + 2 * (2 * all - step)
paces all Writes = 1 + 4 * all
paces all Ends = 2 * all
