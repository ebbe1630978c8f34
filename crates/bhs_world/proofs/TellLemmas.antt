-- A command brings about what a step is to bring about.
use Rattle.std.proofs.Common.{◌≡◌, ℕ, ◌+◌, ◌<◌, Bool, true, false, not, ◌&&◌, Option, Some, None, List}
use Rattle.std.proofs.Common.{length, refl, sym, ap, ◌∙◌, subst, inl, inr, arith, nat_lt, if◌then◌else◌}
use Rattle.std.specs.Prelude.{slice_set}
use Rattle.bhs_net.specs.Network.{Network}
use Rattle.bhs_model.specs.declared.setups.Setup.{Setup}
use Rattle.bhs_model.specs.declared.commands.Command.{Command}
use Rattle.bhs_model.specs.declared.events.Event.{Event}
use Rattle.bhs_model.specs.declared.events.Event.TheVariants.{Tell}
use Rattle.bhs_model.specs.declared.marks.Mark.{Mark}
use Rattle.bhs_model.specs.declared.marks.Mark.TheVariants as marks
use Rattle.bhs_model.specs.declared.marks.Kept.{Kept}
use Rattle.bhs_model.specs.declared.replies.Reply.{Reply}
use Rattle.bhs_model.specs.declared.replies.Reply.TheVariants as replies
use Rattle.bhs_model.specs.declared.replies.Why.{Why}
use Rattle.bhs_model.specs.declared.replies.Why.TheVariants as whys
use Rattle.bhs_model.specs.Views.{View, Told, Standing, standing, ports, used, counts}
use Rattle.bhs_model.specs.Replying.{rep, answer, accepts, hears, refusal, text}
use Rattle.bhs_model.specs.Worlds.{World}
use Rattle.bhs_model.specs.Setups.{world_of}
use Rattle.bhs_model.specs.Runs.{Position, Before, At, Bound, After, State, glance, position_after}
use Rattle.bhs_model.specs.Runs.{last_writes_after, told, heard}
use Rattle.bhs_model.specs.Runs.{next, run, reply}
use Rattle.bhs_model.specs.Kept.{lost}
use Rattle.bhs_model.specs.Marks.{events_of, read, read_if, board_of}
use Rattle.bhs_model.specs.Places.{is_written, is_at, written_after, written, position_by, place_shown}
use Rattle.bhs_model.specs.Places.{named}
use Rattle.bhs_state.specs.Agents.{newcomer}
use Rattle.bhs_world.specs.Tables.{Table, agent_at, board_at, world_in, IsCourseOf, Shows, Agrees, IsNamed, StandsFor}
use Rattle.bhs_model.specs.Standings.{standing_at}
use Rattle.bhs_world.specs.Steps.{IsSound, agent_told, boards_told, hears_in, heard_in, table_heard}
use Rattle.bhs_world.specs.Steps.{mark_heard, mark_of_command, table_after, mark_after}
use Rattle.bhs_world.proofs.ListLemmas.{each_set, changed_same, lt_tells}
use Rattle.bhs_model.proofs.StepLemmas.{by_cases}
use Rattle.bhs_model.proofs.LegalLemmas.{AllLegal, KnowsPorts, either, all_run}
use Rattle.bhs_world.proofs.GrowthLemmas.{read_same}
use Rattle.bhs_world.proofs.GrowthLemmas.{named_more}
use Rattle.bhs_world.proofs.PlaceLemmas.{AllNamed, told_shown, unheard_shown, told_last}
use Rattle.bhs_world.proofs.MarkLemmas.{KnownPorts, HasLimit, told_reads, told_named, told_shows}
use Rattle.bhs_world.proofs.PlayedLemmas.{HasPlayed, chosen_false, chosen_true, grown, kept_played, unkept_played}

-- who is not answered is named no place
pub none_shown : (world : World) (state : State) (at : ℕ → Option ℕ) (event : Event) → None ≡ reply world state event
    → None ≡ named world state at event
none_shown world state at event replied = ap (λ (reply : Option Reply). place_shown at reply
    (position_by (next world state event) event)) replied

-- a command

-- the definitions hear it where the table does
pub hears_same : (table : Table) (log : List Kept) (state : State) (lost : ℕ → Bool) (agent : ℕ) (command : Command)
    → Agrees table log state lost → AllLegal (world_in table) state →
    hears table.setup.quota (state.past agent) command ≡ hears_in table agent command
hears_same table log state lost agent command agrees legal =
    let is_of = agrees.agents agent in
    ap (λ (standing : Standing). accepts standing (nat_lt (used (state.past agent)) table.setup.quota) command)
    ((legal agent).standing ∙ ap standing_at is_of.position)
    ∙ ap (λ (used : ℕ). accepts (standing_at (agent_at table.agents agent).position) (nat_lt used table.setup.quota)
    command) is_of.used

pub heard_same : (table : Table) (log : List Kept) (state : State) (lost : ℕ → Bool) (agent : ℕ) (command : Command)
    → Agrees table log state lost → AllLegal (world_in table) state →
    heard (world_in table) state agent command ≡ heard_in table agent command
heard_same table log state lost agent command agrees legal =
    ap (λ (closed : Bool). nat_lt agent table.setup.agents &&
    (not closed && hears table.setup.quota (state.past agent) command)) agrees.closed
    ∙ ap (λ (hears : Bool). nat_lt agent table.setup.agents && (not table.closed && hears))
    (hears_same table log state lost agent command agrees legal)

-- three tests in a row
lt_holds : (a b : ℕ) → nat_lt a b ≡ true → a < b
lt_holds a b h = elim (lt_tells a b) [ inl t ↦ t.1 | inr t ↦ absurd (not_both _ t.0 h) ]
  where
    not_both : (x : Bool) → x ≡ false → x ≡ true → ⊥
    not_both x f t = cc

tests_hold : (x y z : Bool) → (x && (not y && z)) ≡ true → (x ≡ true) × (y ≡ false) × (z ≡ true)
tests_hold true true z h = cc
tests_hold true false true h = (refl, refl, refl)
tests_hold true false false h = cc
tests_hold false y z h = cc

-- Only an agent of the match is heard.
below_of : (table : Table) (agent : ℕ) (command : Command) → IsSound table → heard_in table agent command ≡ true
    → agent < length table.agents
below_of table agent command sound heard_it =
    let below : agent < table.setup.agents = lt_holds agent table.setup.agents
    (tests_hold (nat_lt agent table.setup.agents) table.closed (hears_in table agent command) heard_it).0 in
    omega (arith, sound.agents)

-- by the three tests of a command
reads_by_tests : (log : List Kept) (x y y' z z' : Bool) (mark : Mark) (heard : Option Reply) (why why' : Why) → y' ≡ y
    → z' ≡ z → why' ≡ why → ((x && (not y && z)) ≡ true → Some (read log mark) ≡ heard) →
    Some (read log (if x then (if y then marks.Over else (if z then mark else marks.No why)) else marks.No whys.Agent))
    ≡ (if x then (if y' then Some replies.Over else (if z' then heard else Some (replies.No why'))) else Some
    (replies.No whys.Agent))
reads_by_tests log false y y' z z' mark heard why why' ey ez ew h = refl
reads_by_tests log true true y' z z' mark heard why why' ey ez ew h = rw ey refl
reads_by_tests log true false y' true z' mark heard why why' ey ez ew h = rw (ey, ez) (h refl)
reads_by_tests log true false y' false z' mark heard why why' ey ez ew h = rw (ey, ez, ew) refl

pub command_named : (table : Table) (log : List Kept) (state : State) (lost : ℕ → Bool) (agent : ℕ) (command : Command)
    → Agrees table log state lost → IsNamed log (Some (mark_of_command table log agent command))
command_named table log state lost agent command agrees =
    let named : Mark → Type 0 = λ mark. IsNamed log (Some mark) in
    either named (nat_lt agent table.setup.agents) _ _
    (either named table.closed _ _ tt
    (either named (hears_in table agent command) _ _
    (told_named table.setup.board (world_in table) state.last_write log table.boards
    (agent_at table.agents agent).position command agrees.boards) tt)) tt

limits_of : (table : Table) → IsSound table → HasLimit table.setup.board table.net table.boards
limits_of table sound node within = sound.limits node (omega (arith, sound.boards))

known_of : (net : Network) (setup : Setup) (view : View) (position : Position)
    → KnowsPorts (world_of net setup) view position → KnownPorts net (ports view) position
known_of net setup view Before knows = tt
known_of net setup view (At node came) knows = knows
known_of net setup view (Bound node port) knows = tt
known_of net setup view After knows = tt

-- The log records the reply to a command that is heard.
heard_reads : (table : Table) (log : List Kept) (state : State) (lost : ℕ → Bool) (agent : ℕ) (command : Command)
    → IsSound table → Agrees table log state lost → AllLegal (world_in table) state →
    heard (world_in table) state agent command ≡ true → hears_in table agent command ≡ true →
    Some (read log (mark_heard table log agent command)) ≡ rep table.setup.board
    ((next (world_in table) state (Tell agent command)).past agent)
heard_reads table log state lost agent command sound agrees legal is_heard hears_it =
    let world : World = world_in table in
    let position : Position = (agent_at table.agents agent).position in
    let view : View = state.past agent in
    let same : state.position agent ≡ position = (agrees.agents agent).position in
    let known : KnownPorts table.net (ports view) position =
    subst (KnownPorts table.net (ports view)) same
    (known_of table.net table.setup view (state.position agent) (legal agent).ports) in
    let reads : read log (mark_heard table log agent command) ≡ answer table.setup.board (standing_at position)
    (ports view) command (glance world state position command) =
    told_reads table.net table.setup state log table.boards
    (nat_lt (agent_at table.agents agent).used table.setup.quota) (ports view) position command agrees.boards
    (limits_of table sound) (sound.places agent) hears_it known in
    let stand : standing view ≡ standing_at position = (legal agent).standing ∙ ap standing_at same in
    let past : (next world state (Tell agent command)).past agent ≡ Told view command
    (glance world state (state.position agent) command) =
    ap (λ (state : State). state.past agent) (chosen_true (heard world state agent command)
    (told world state agent command) state is_heard)
    ∙ changed_same state.past agent (Told view command (glance world state (state.position agent) command)) in
    ap Some (reads
    ∙ ap (λ (standing : Standing). answer table.setup.board standing (ports view) command
    (glance world state position command)) (sym stand)
    ∙ ap (λ (position : Position). answer table.setup.board (standing view) (ports view) command
    (glance world state position command)) (sym same))
    ∙ ap (rep table.setup.board) (sym past)

pub command_reads : (table : Table) (log : List Kept) (state : State) (lost : ℕ → Bool) (agent : ℕ) (command : Command)
    → IsSound table → Agrees table log state lost → AllLegal (world_in table) state →
    read_if log (Some (mark_of_command table log agent command)) ≡ reply (world_in table) state (Tell agent command)
command_reads table log state lost agent command sound agrees legal =
    reads_by_tests log (nat_lt agent table.setup.agents) table.closed state.closed (hears_in table agent command)
    (hears table.setup.quota (state.past agent) command) (mark_heard table log agent command)
    (rep table.setup.board ((next (world_in table) state (Tell agent command)).past agent))
    (refusal (standing_at (agent_at table.agents agent).position) command)
    (refusal (standing (state.past agent)) command)
    agrees.closed (hears_same table log state lost agent command agrees legal)
    (ap (λ (standing : Standing). refusal standing command)
    ((legal agent).standing ∙ ap standing_at (agrees.agents agent).position))
    (λ heard_it. heard_reads table log state lost agent command sound agrees legal
    (heard_same table log state lost agent command agrees legal ∙ heard_it)
    (tests_hold (nat_lt agent table.setup.agents) table.closed (hears_in table agent command) heard_it).2)

-- the agents after a command that is heard
told_agents : (table : Table) (log : List Kept) (state : State) (lost : ℕ → Bool) (agent : ℕ) (command : Command)
    → Agrees table log state lost → agent < length table.agents →
    (k : ℕ) → IsCourseOf (agent_at (slice_set table.agents agent
    (agent_told (world_in table) (agent_at table.agents agent) command)) k)
    (told (world_in table) state agent command) (lost k) k
told_agents table log state lost agent command agrees within =
    let world : World = world_in table in
    let position : Position = state.position agent in
    let past : View = Told (state.past agent) command (glance world state position command) in
    let was = agrees.agents agent in
    each_set (λ k course. IsCourseOf course (told world state agent command) (lost k) k) table.agents agent
    _ newcomer within
    (record {
      position = changed_same state.position agent (position_after world position command)
          ∙ ap (λ (position : Position). position_after world position command) was.position;
      used = ap used (changed_same state.past agent past)
          ∙ ap (λ (n : ℕ). if counts command then n + 1 else n) was.used;
      lost = was.lost;
    })
    (λ k other. record {
      position = rw other (agrees.agents k).position;
      used = rw other (agrees.agents k).used;
      lost = (agrees.agents k).lost;
    })

told_agrees : (table : Table) (log : List Kept) (state : State) (lost : ℕ → Bool) (agent : ℕ) (command : Command)
    (mark : Option Mark) → IsSound table → Agrees table log state lost → AllLegal (world_in table) state
    → agent < length table.agents →
    Agrees (table_heard table log agent command) (grown log (Tell agent command) mark)
    (told (world_in table) state agent command) lost
told_agrees table log state lost agent command mark sound agrees legal within =
    let world : World = world_in table in
    let position : Position = (agent_at table.agents agent).position in
    let same : state.position agent ≡ position = (agrees.agents agent).position in
    let shows = told_shows table.net table.setup state log (record { event = Tell agent command; mark = mark }) agent
    table.boards (state.past agent) position command refl sound.boards agrees.boards (limits_of table sound)
    (sound.places agent) in
    record {
      agents = told_agents table log state lost agent command agrees within;
      boards = subst (λ (at : Position). (k : ℕ) → Shows (grown log (Tell agent command) mark)
          (board_at (boards_told log table.boards position command) k).last
          (text table.setup.board ((last_writes_after state.last_write at command
          (Told (state.past agent) command (glance world state at command))) k))) (sym same) shows;
      closed = agrees.closed;
    }

-- the mark of a command that is heard
tests_chosen : (x y z : Bool) (mark : Mark) (why : Why) → (x && (not y && z)) ≡ true
    → (if x then (if y then marks.Over else (if z then mark else marks.No why)) else marks.No whys.Agent) ≡ mark
tests_chosen true false true mark why h = refl
tests_chosen true true z mark why h = cc
tests_chosen true false false mark why h = cc
tests_chosen false y z mark why h = cc

mark_is_heard : (table : Table) (log : List Kept) (agent : ℕ) (command : Command) → heard_in table agent command ≡ true
    → mark_of_command table log agent command ≡ mark_heard table log agent command
mark_is_heard table log agent command heard_it =
    tests_chosen (nat_lt agent table.setup.agents) table.closed (hears_in table agent command)
    (mark_heard table log agent command) (refusal (standing_at (agent_at table.agents agent).position) command)
    heard_it

-- what whiteboards and the mark name then
heard_last : (table : Table) (log : List Kept) (state : State) (lost : ℕ → Bool) (agent : ℕ) (command : Command)
    (at : ℕ → Option ℕ) → IsSound table → Agrees table log state lost →
    Some (read log (mark_heard table log agent command)) ≡ reply (world_in table) state (Tell agent command)
    → AllNamed table.boards at →
    (node : ℕ) → (board_at (table_heard table log agent command).boards node).last ≡ written_after (world_in table)
    state (length log) at (Tell agent command) node
heard_last table log state lost agent command at sound agrees reads last node =
    let position : Position = (agent_at table.agents agent).position in
    told_last (world_in table) table.net log table.boards at position command last sound.boards
    (sound.places agent) node
    ∙ ap (λ (reply : Option Reply). if is_written reply && is_at position node then Some (length log) else at node)
    reads
    ∙ ap (λ (place : Position). if is_written (reply (world_in table) state (Tell agent command)) && is_at place
    node then Some (length log) else at node) (sym (agrees.agents agent).position)

heard_shown : (table : Table) (log : List Kept) (state : State) (lost : ℕ → Bool) (agent : ℕ) (command : Command)
    (at : ℕ → Option ℕ) → Agrees table log state lost →
    heard (world_in table) state agent command ≡ true → Some (read log (mark_heard table log agent command)) ≡ reply
    (world_in table) state (Tell agent command) → AllNamed table.boards at →
    board_of (mark_heard table log agent command) ≡ named (world_in table) state at (Tell agent command)
heard_shown table log state lost agent command at agrees is_heard reads last =
    let world : World = world_in table in
    let position : Position = (agent_at table.agents agent).position in
    let moved : (next world state (Tell agent command)).position agent ≡ position_after world position command =
    ap (λ (after : State). after.position agent)
    (chosen_true (heard world state agent command) (told world state agent command) state is_heard)
    ∙ changed_same state.position agent (position_after world (state.position agent) command)
    ∙ ap (λ (position : Position). position_after world position command) (agrees.agents agent).position in
    told_shown world log table.boards at position command last
    ∙ ap (λ (reply : Option Reply). place_shown at reply (position_after world position command)) reads
    ∙ ap (λ (position : Position). place_shown at (reply world state (Tell agent command)) position) (sym moved)

pub tell_played : (table : Table) (log : List Kept) (agent : ℕ) (command : Command) → IsSound table
    → StandsFor table log →
    HasPlayed table (table_after table log (Tell agent command)) log (Tell agent command)
    (mark_after table log (Tell agent command))
tell_played table log agent command sound stood =
    let world : World = world_in table in
    let state : State = run world (events_of log) in
    let lost : ℕ → Bool = lost world (events_of log) in
    let mark : Option Mark = Some (mark_of_command table log agent command) in
    let legal : AllLegal world state = all_run world (events_of log) in
    let same = heard_same table log state lost agent command stood.state legal in
    let reads = command_reads table log state lost agent command sound stood.state legal in
    let is_named : IsNamed log mark = command_named table log state lost agent command stood.state in
    let at : ℕ → Option ℕ = written world (events_of log) in
    by_cases (heard_in table agent command) _
    (λ heard_it.
    let within : agent < length table.agents = below_of table agent command sound heard_it in
    let is_heard : heard world state agent command ≡ true = same ∙ heard_it in
    subst (λ (new : Table). HasPlayed table new log (Tell agent command) mark)
    (sym (chosen_true (heard_in table agent command) (table_heard table log agent command) table heard_it))
    (kept_played table (table_heard table log agent command).agents (table_heard table log agent command).boards
    table.closed log (Tell agent command) mark stood is_heard
    (subst (λ (after : State). Agrees (table_heard table log agent command) (grown log (Tell agent command) mark) after
    lost) (sym (chosen_true (heard world state agent command) (told world state agent command) state is_heard))
    (told_agrees table log state lost agent command mark sound stood.state legal within))
    (read_same log (record { event = Tell agent command; mark = mark }) mark is_named ∙ reads)
    (named_more log (record { event = Tell agent command; mark = mark }) mark is_named)
    (heard_last table log state lost agent command at sound stood.state
    (sym (ap (λ (mark : Mark). Some (read log mark)) (mark_is_heard table log agent command heard_it))
    ∙ reads) stood.last)
    (ap board_of (mark_is_heard table log agent command heard_it)
    ∙ heard_shown table log state lost agent command at stood.state is_heard
    (sym (ap (λ (mark : Mark). Some (read log mark)) (mark_is_heard table log agent command heard_it))
    ∙ reads) stood.last)))
    (λ unheard.
    subst (λ (new : Table). HasPlayed table new log (Tell agent command) mark)
    (sym (chosen_false (heard_in table agent command) (table_heard table log agent command) table unheard))
    (unkept_played table table log (Tell agent command) mark stood (same ∙ unheard) reads
    (unheard_shown log at (nat_lt agent table.setup.agents) table.closed (hears_in table agent command)
    (mark_heard table log agent command) (refusal (standing_at (agent_at table.agents agent).position) command) _
    unheard
    ∙ ap (λ (reply : Option Reply). place_shown at reply ((next world state (Tell agent command)).position agent))
    reads)))
