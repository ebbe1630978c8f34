-- Programs whose agents wait once they have departed.
use Rattle.std.proofs.Common.{ℕ, ◌-◌, ◌≡◌, Bool, true, false, ◌==◌, Option, Some, None, List, refl}
use Rattle.std.proofs.Common.{nat_le, nat_lt, if◌then◌else◌, unwrap_or}
use Rattle.bhs_model.specs.declared.commands.Command.{Command}
use Rattle.bhs_model.specs.declared.commands.Command.TheVariants.{Depart, Accuse}
use Rattle.bhs_model.specs.declared.limits.TheConstants.{MAX_LINE}
use Rattle.bhs_model.specs.declared.replies.Reply.TheVariants.{Gone}
use Rattle.bhs_model.proofs.LegalLemmas.{either}
use Rattle.bhs_schedules.specs.declared.answers.Step.{Step}
use Rattle.bhs_schedules.specs.declared.answers.Step.TheVariants.{Says, Stops, Fails}
use Rattle.bhs_schedules.specs.Strategies.{Heard}
use Rattle.bhs_protocols.specs.Halves as halving
use Rattle.bhs_protocols.specs.Halves.{halves, left_by, is_done}
use Rattle.bhs_protocols.specs.declared.halves.Memory.{Memory}
use Rattle.bhs_protocols.specs.declared.halves.Phase.{Phase}
use Rattle.bhs_protocols.specs.declared.halves.Phase.TheVariants as phases
use Rattle.bhs_protocols.specs.Shuttle as shuttling
use Rattle.bhs_protocols.specs.Shuttle.{shuttle, is_one_left}
use Rattle.bhs_protocols.specs.declared.shuttle.Memory.{Memory as ShuttleMemory}
use Rattle.bhs_protocols.specs.declared.shuttle.Phase.{Phase as ShuttlePhase}
use Rattle.bhs_protocols.specs.declared.shuttle.Phase.TheVariants as ways
use Rattle.bhs_protocols.specs.Programs.{held_after, strategies_by}
use Rattle.bhs_protocols_charts.specs.Charting.{charters}
use Rattle.bhs_protocols_divided.specs.Dividing as dividing
use Rattle.bhs_protocols_divided.specs.Dividing.{dividers}
use Rattle.bhs_protocols_divided.specs.Dividing.{Memory as DividerMemory, Phase as DividerPhase}
use Rattle.bhs_protocols_divided.specs.Plans.{Plan, left_at}
use Rattle.bhs_protocols_mapped.specs.Exploring as exploring
use Rattle.bhs_protocols_mapped.specs.Exploring.{explorers}
use Rattle.bhs_protocols_mapped.specs.Exploring.{Memory as ExplorerMemory, Phase as ExplorerPhase}
use Rattle.bhs_protocols_mapped.specs.Guides.{Guide}
use Rattle.bhs_wasm.specs.declared.instructions.HostFunction.{HostFunction}
use Rattle.bhs_wasm.specs.declared.instructions.HostFunction.TheVariants as imports
use Rattle.bhs_wasm.specs.Contents.{Contents}
use Rattle.bhs_wasm.specs.States.{State, operand}
use Rattle.bhs_wasm_team.specs.declared.memory_table.Status.{Status}
use Rattle.bhs_wasm_team.specs.declared.memory_table.Status.TheVariants as statuses
use Rattle.bhs_wasm_team.specs.Agents.{said, writes, write_length, text_in, does, does_at, after_at, memory_after}
use Rattle.bhs_theorems_contests.specs.Contests.{WaitsOnLinks}
use Rattle.bhs_theorems_contests.specs.Instances.{ProgramsWait}

-- who says something else does not depart
not_both : (b : Bool) (one other : Command) (port : ℕ) → (Says one ≡ Says (Depart port) → ⊥)
    → (Says other ≡ Says (Depart port) → ⊥) → (if b then Says one else Says other) ≡ Says (Depart port) → ⊥
not_both true one other port first second is = first is
not_both false one other port first second is = second is

-- ---- the search by halves

abbrev does_halves : (n : ℕ) → Memory → Step
does_halves n m = halving.does_in n m m.phase

waits_halves : (n : ℕ) (m : Memory) (phase : Phase) (port : ℕ) → halving.does_in n m phase ≡ Says (Depart port)
    → does_halves n (halving.after_in n m phase (Heard Gone)) ≡ Stops
waits_halves n m phases.Begins port is = absurd (cc)
waits_halves n m (phases.GoesOut steps by) port is =
    either (λ (after : Memory). does_halves n after ≡ Stops) (is_done m steps) _ _ refl
    (either (λ (after : Memory). does_halves n after ≡ Stops) (steps == m.mine) _ _ refl refl)
waits_halves n m (phases.Leaves steps) port is = absurd (cc)
waits_halves n m phases.Tries port is = absurd (cc)
waits_halves n m (phases.Turns by) port is = refl
waits_halves n m phases.Returns port is = absurd (cc)
waits_halves n m (phases.Writes by) port is = absurd (cc)
waits_halves n m (phases.GoesHome steps by) port is = refl
waits_halves n m (phases.NearsHome steps) port is = absurd (cc)
waits_halves n m (phases.Follows steps by) port is = refl
waits_halves n m (phases.Passes steps) port is = absurd (cc)
waits_halves n m (phases.Tells steps by) port is =
    absurd (not_both (left_by n m.mine steps == 1) _ _ port (λ e. cc) (λ e. cc) is)
waits_halves n m (phases.ComesHome steps by) port is = refl
waits_halves n m (phases.NearsBack steps) port is = absurd (cc)
waits_halves n m phases.Ends port is = absurd (cc)

-- ---- the shuttle

abbrev does_shuttle : (n : ℕ) → ShuttleMemory → Step
does_shuttle n m = shuttling.does_in n m m.phase

waits_shuttle : (n : ℕ) (m : ShuttleMemory) (phase : ShuttlePhase) (port : ℕ)
    → shuttling.does_in n m phase ≡ Says (Depart port)
    → does_shuttle n (shuttling.after_in m phase (Heard Gone)) ≡ Stops
waits_shuttle n m ways.Begins port is = absurd (cc)
waits_shuttle n m (ways.GoesOut steps by) port is = refl
waits_shuttle n m (ways.Leaves steps) port is = absurd (cc)
waits_shuttle n m (ways.ComesBack steps by) port is = refl
waits_shuttle n m (ways.Returns steps) port is = absurd (cc)
waits_shuttle n m ways.Writes port is = absurd (cc)
waits_shuttle n m ways.Ends port is = absurd (cc)

-- ---- the search with a map

abbrev does_explorer : (n : ℕ) → Guide → ExplorerMemory → Step
does_explorer n guide m = exploring.does_in n guide m m.phase

waits_explorer : (n : ℕ) (guide : Guide) (m : ExplorerMemory) (phase : ExplorerPhase) (port : ℕ)
    → exploring.does_in n guide m phase ≡ Says (Depart port)
    → does_explorer n guide (exploring.after_in guide m phase (Heard Gone)) ≡ Stops
waits_explorer n guide m exploring.Begins port is = absurd (cc)
waits_explorer n guide m (exploring.GoesOut step) port is = refl
waits_explorer n guide m (exploring.Leaves step) port is = absurd (cc)
waits_explorer n guide m (exploring.ComesBack step) port is = refl
waits_explorer n guide m (exploring.Returns step) port is = absurd (cc)
waits_explorer n guide m exploring.Writes port is = absurd (cc)
waits_explorer n guide m exploring.Ends port is = absurd (cc)

-- ---- the search by divisions

abbrev does_divider : Plan → DividerMemory → Step
does_divider plan m = dividing.does_in plan m m.phase

waits_divider : (plan : Plan) (m : DividerMemory) (phase : DividerPhase) (port : ℕ)
    → dividing.does_in plan m phase ≡ Says (Depart port)
    → does_divider plan (dividing.after_in plan m phase (Heard Gone)) ≡ Stops
waits_divider plan m dividing.Begins port is = absurd (cc)
waits_divider plan m dividing.GoesOut port is =
    either (λ (later : DividerPhase). dividing.does_in plan (record m { phase = later }) later ≡ Stops)
    ((dividing.own_of plan m).is_new m.step) _ _ refl refl
waits_divider plan m dividing.Leaves port is = absurd (cc)
waits_divider plan m dividing.Tries port is = absurd (cc)
waits_divider plan m dividing.Turns port is = refl
waits_divider plan m dividing.Returns port is = absurd (cc)
waits_divider plan m dividing.Writes port is = absurd (cc)
waits_divider plan m dividing.Follows port is = refl
waits_divider plan m dividing.Passes port is = absurd (cc)
waits_divider plan m dividing.Tells port is =
    absurd (not_both (left_at plan m.divisions (1 - m.side) m.step == 1) _ _ port (λ e. cc) (λ e. cc) is)
waits_divider plan m dividing.Ends port is = absurd (cc)

-- ---- modules

not_if : (b : Bool) (step : Step) {doing : Step} → (step ≡ doing → ⊥) → (Fails ≡ doing → ⊥)
    → unwrap_or (if b then Some step else None) Fails ≡ doing → ⊥
not_if true step says fails is = says is
not_if false step says fails is = fails is

not_write : (expect put : Option (List ℕ)) (port : ℕ) → unwrap_or (writes expect put) Fails ≡ Says (Depart port) → ⊥
not_write None None port is = cc
not_write None (Some put) port is = cc
not_write (Some expect) None port is = cc
not_write (Some expect) (Some put) port is =
    not_if (nat_le (write_length expect put) MAX_LINE) _ (λ said. cc) (λ said. cc) is

not_accuse : (b : Bool) (at port : ℕ)
    → unwrap_or (if b then Some (Says (Accuse at)) else None) Fails ≡ Says (Depart port) → ⊥
not_accuse b at port is = not_if b (Says (Accuse at)) (λ said. cc) (λ said. cc) is

abbrev waits_by : Contents → (fuel : ℕ) → Status → State → Type 0
waits_by program fuel status state = does (after_at program fuel status state (Heard Gone)) ≡ Stops

waits_function : (program : Contents) (fuel : ℕ) (function : HostFunction) (state : State) (port : ℕ)
    → unwrap_or (said function state) Fails ≡ Says (Depart port)
    → waits_by program fuel (statuses.Waits function) state
waits_function program fuel imports.Enter state port is = absurd (cc)
waits_function program fuel imports.Look state port is = absurd (cc)
waits_function program fuel imports.Write state port is =
    absurd (not_write (text_in (operand 3 state) (operand 2 state) state)
    (text_in (operand 1 state) (operand 0 state) state) port is)
waits_function program fuel imports.Depart state port is = refl
waits_function program fuel imports.Accuse state port is =
    absurd (not_accuse (nat_lt (operand 0 state) 65536) (operand 0 state) port is)
waits_function program fuel imports.Leave state port is = absurd (cc)
waits_function program fuel imports.Sleep state port is = absurd (cc)
waits_function program fuel imports.Ports state port is = absurd (cc)
waits_function program fuel imports.Came state port is = absurd (cc)
waits_function program fuel imports.Board state port is = absurd (cc)
waits_function program fuel imports.Argument state port is = absurd (cc)

waits_module : (program : Contents) (fuel : ℕ) (status : Status) (state : State) (port : ℕ)
    → does_at status state ≡ Says (Depart port) → waits_by program fuel status state
waits_module program fuel (statuses.Waits function) state port is = waits_function program fuel function state port is
waits_module program fuel statuses.Travels state port is = absurd (cc)
waits_module program fuel statuses.Ended state port is = absurd (cc)
waits_module program fuel statuses.Failed state port is = absurd (cc)

pub halves_wait : (n agent : ℕ) → WaitsOnLinks (strategies_by (halves n) agent)
halves_wait n agent history port is =
    let m : Memory = held_after (halves n) agent history in waits_halves n m m.phase port is

pub shuttles_wait : (n agent : ℕ) → WaitsOnLinks (strategies_by (shuttle n) agent)
shuttles_wait n agent history port is =
    let m : ShuttleMemory = held_after (shuttle n) agent history in waits_shuttle n m m.phase port is

pub explorers_wait : (n : ℕ) (guide : Guide) (agent : ℕ) → WaitsOnLinks (strategies_by (explorers n guide) agent)
explorers_wait n guide agent history port is =
    let m : ExplorerMemory = held_after (explorers n guide) agent history in waits_explorer n guide m m.phase port is

pub charters_wait : (n : ℕ) (tells : ℕ → ℕ) (agent : ℕ) → WaitsOnLinks (strategies_by (charters n tells) agent)
charters_wait n tells agent history port is = refl

pub dividers_wait : (plan : Plan) (agent : ℕ) → WaitsOnLinks (strategies_by (dividers plan) agent)
dividers_wait plan agent history port is =
    let m : DividerMemory = held_after (dividers plan) agent history in waits_divider plan m m.phase port is

pub programs_wait : ProgramsWait
programs_wait = record {
  halves_wait = halves_wait;
  shuttles_wait = shuttles_wait;
  explorers_wait = explorers_wait;
  charters_wait = charters_wait;
  dividers_wait = dividers_wait;
  modules_wait = λ program arguments fuel history port is.
      let m = memory_after program arguments fuel history in
      waits_module program fuel m.status m.state port is;
}
