-- Once each agent has ended or is lost, the verdict stands.
use Rattle.std.proofs.Common.{ℕ, ◌≡◌, ◌<◌, ◌⊎◌, inl, inr, Bool, true, false, not, ◌&&◌}
use Rattle.std.proofs.Common.{Option, Some, None, List, []}
use Rattle.std.proofs.Common.{◌∷◌, ◌++◌, ◌==◌, nat_lt, if◌then◌else◌, refl, sym, ap, ap₂, ◌∙◌, subst, count_by}
use Rattle.std.specs.List.{list_any, range_with_len}
use Rattle.std.proofs.lemmas.Bool.{and_parts, not-true, false≢true, true≢false, cond_both}
use Rattle.std.proofs.lemmas.Bool.{ltb-true, eqb-true, and_from}
use Rattle.std.proofs.lemmas.Bool.Decides.{eqb_tells}
use Rattle.bhs_model.specs.declared.commands.Command.{Command}
use Rattle.bhs_model.specs.declared.commands.Command.TheVariants.{Enter, Look, Write, Depart, Accuse, Leave, Bad}
use Rattle.bhs_model.specs.declared.events.Event.{Event}
use Rattle.bhs_model.specs.declared.events.Event.TheVariants.{Tell, Deliver, Close}
use Rattle.bhs_model.specs.declared.replies.Reply.{Reply}
use Rattle.bhs_model.specs.declared.replies.Reply.TheVariants.{Here, Written, Changed, Gone, Noted, Bye, Over, No}
use Rattle.bhs_model.specs.Worlds.{World, doomed}
use Rattle.bhs_model.specs.Views.{View, Glance, Standing, Outside, Present, Away, Ended, standing, used, ports}
use Rattle.bhs_model.specs.Replying.{accepts, hears, answer, rep}
use Rattle.bhs_model.specs.Standings.{standing_at}
use Rattle.bhs_model.specs.Runs.{Position, Before, At, Bound, After, State, initial, changed, position_after}
use Rattle.bhs_model.specs.Runs.{heard, arrives}
use Rattle.bhs_model.specs.Runs.{is_doomed, is_let_through, told, delivered, next, run, run_from, reply, glance}
use Rattle.bhs_model.specs.Kept.{destroys, lost_after, lost_from, lost, nobody}
use Rattle.bhs_model.proofs.StepLemmas.{by_cases, next_no_arrival, changed_same}
use Rattle.bhs_model.proofs.StepLemmas.{no_arrival_no_reply, answered_by_past}
use Rattle.bhs_model.proofs.KeptLemmas.{changed_to_itself}
use Rattle.bhs_model.proofs.AddLemmas.{run-append, lost-append}
use Rattle.bhs_model.proofs.LegalLemmas.{IsLegal, AllLegal, all_run}
use Rattle.bhs_referee.specs.declared.verdicts.Verdict.{Verdict}
use Rattle.bhs_referee.specs.Findings.{Findings, nothing_found, accused_by, moves_by, reached_by}
use Rattle.bhs_referee.specs.Findings.{found_after, found_from}
use Rattle.bhs_referee.specs.declared.verdicts.Outcome.TheVariants.{Solved, Unfinished, Silent, Wrong}
use Rattle.bhs_referee.specs.Verdicts.{is_present, is_unfinished, guess_or_solved, accuses, is_right, is_silent}
use Rattle.bhs_referee.specs.Verdicts.{is_over_dark, first_unreached}
use Rattle.bhs_match.specs.Decided.{is_done_at}
use Rattle.bhs_match.specs.Matches.{world_in}
use Rattle.bhs_model.specs.Marks.{events_of}
use Rattle.bhs_referee.specs.Rest.{DecidedMatchesAreDone, VerdictsStand}
use Rattle.bhs_model.proofs.LegalLemmas.{all_next}

-- ---- an event leaves each agent legal

-- ---- what holds of each agent at any time

-- The invariant: a number without an agent has not entered, and a lost agent is on a destroying link or has left.
abbrev Kempt : World → (agent : ℕ) → Position → (is_lost : Bool) → Type 0
Kempt world agent Before is_lost = is_lost ≡ false
Kempt world agent (At node came) is_lost = (nat_lt agent world.agents ≡ true) × (is_lost ≡ false)
Kempt world agent (Bound node port) is_lost =
    (nat_lt agent world.agents ≡ true) × (is_lost ≡ true → doomed world node port ≡ true)
Kempt world agent After is_lost = nat_lt agent world.agents ≡ true

abbrev AllKempt : World → State → (ℕ → Bool) → Type 0
AllKempt world state marks = (agent : ℕ) → Kempt world agent (state.position agent) (marks agent)

-- A command is heard only if the agent's standing accepts it.
heard_accepts : (world : World) (state : State) (agent : ℕ) (command : Command)
    → IsLegal world (state.past agent) (state.position agent) → heard world state agent command ≡ true
    → (nat_lt agent world.agents ≡ true) × (accepts (standing_at (state.position agent))
    (nat_lt (used (state.past agent)) world.quota) command ≡ true)
heard_accepts world state agent command legal is_heard =
    let parts = and_parts (nat_lt agent world.agents) _ is_heard in (
      parts.0,
      ap (λ (s : Standing). accepts s (nat_lt (used (state.past agent)) world.quota) command) (sym legal.standing)
          ∙ (and_parts (not state.closed) _ parts.1).1,
    )

kempt_told : (world : World) (agent : ℕ) (position : Position) (is_lost room : Bool) (command : Command)
    → nat_lt agent world.agents ≡ true → accepts (standing_at position) room command ≡ true
    → Kempt world agent position is_lost → Kempt world agent (position_after world position command) is_lost
kempt_told world agent Before is_lost room Enter in_range accepted kempt = (in_range, kempt)
kempt_told world agent Before is_lost room Look in_range accepted kempt = kempt
kempt_told world agent Before is_lost room (Write expect put) in_range accepted kempt = kempt
kempt_told world agent Before is_lost room (Depart port) in_range accepted kempt = kempt
kempt_told world agent Before is_lost room (Accuse port) in_range accepted kempt = kempt
kempt_told world agent Before is_lost room Leave in_range accepted kempt = in_range
kempt_told world agent Before is_lost room Bad in_range accepted kempt = kempt
kempt_told world agent (At node came) is_lost room Enter in_range accepted kempt = absurd (false≢true accepted)
kempt_told world agent (At node came) is_lost room Look in_range accepted kempt = kempt
kempt_told world agent (At node came) is_lost room (Write expect put) in_range accepted kempt = kempt
kempt_told world agent (At node came) is_lost room (Depart port) in_range accepted kempt =
    cond_both (nat_lt port (world.net.degree node)) (Bound node port) (At node came)
    (λ (p : Position). Kempt world agent p is_lost)
    (λ is_port. (in_range, λ is. absurd (true≢false (sym is ∙ kempt.1)))) (λ no_port. kempt)
kempt_told world agent (At node came) is_lost room (Accuse port) in_range accepted kempt =
    cond_both (nat_lt port (world.net.degree node)) After (At node came)
    (λ (p : Position). Kempt world agent p is_lost) (λ is_port. in_range) (λ no_port. kempt)
kempt_told world agent (At node came) is_lost room Leave in_range accepted kempt = in_range
kempt_told world agent (At node came) is_lost room Bad in_range accepted kempt = kempt
kempt_told world agent (Bound node p) is_lost room Enter in_range accepted kempt = absurd (false≢true accepted)
kempt_told world agent (Bound node p) is_lost room Look in_range accepted kempt = kempt
kempt_told world agent (Bound node p) is_lost room (Write expect put) in_range accepted kempt = kempt
kempt_told world agent (Bound node p) is_lost room (Depart port) in_range accepted kempt = kempt
kempt_told world agent (Bound node p) is_lost room (Accuse port) in_range accepted kempt = kempt
kempt_told world agent (Bound node p) is_lost room Leave in_range accepted kempt = in_range
kempt_told world agent (Bound node p) is_lost room Bad in_range accepted kempt = kempt
kempt_told world agent After is_lost room command in_range accepted kempt = absurd (false≢true accepted)

all_kempt_told : (world : World) (state : State) (marks : ℕ → Bool) (agent : ℕ) (command : Command)
    → AllLegal world state → AllKempt world state marks → heard world state agent command ≡ true
    → AllKempt world (told world state agent command) marks
all_kempt_told world state marks agent command legal kempt is_heard other = elim (eqb_tells other agent) [
  | inl h ↦ rw h.0 (rw h.1 (let accepted = heard_accepts world state agent command (legal agent) is_heard in
      kempt_told world agent (state.position agent) (marks agent) _ command accepted.0 accepted.1 (kempt agent)))
  | inr h ↦ rw h.0 (kempt other)
]

-- Arriving agents travel on safe links and therefore survive.
kempt_arrival : (world : World) (state : State) (marks : ℕ → Bool) (agent : ℕ) (position : Position)
    → is_let_through world position ≡ true → Kempt world agent position (marks agent) → AllKempt world state marks
    → AllKempt world (delivered world state agent position) marks
kempt_arrival world state marks agent Before passes own kempt other = kempt other
kempt_arrival world state marks agent (At node came) passes own kempt other = kempt other
kempt_arrival world state marks agent (Bound node port) passes own kempt other = elim (eqb_tells other agent) [
  | inl h ↦ rw h.0 (rw h.1 (
    own.0,
    safe (marks agent) (doomed world node port) own.1
        (not-true (doomed world node port) passes),
  ))
  | inr h ↦ rw h.0 (kempt other)
]
  where
    safe : (is_lost destroyers : Bool) → (is_lost ≡ true → destroyers ≡ true) → destroyers ≡ false → is_lost ≡ false
    safe true destroyers implies harmless = absurd (true≢false (sym (implies refl) ∙ harmless))
    safe false destroyers implies harmless = refl
kempt_arrival world state marks agent After passes own kempt other = kempt other

-- A destroyed agent was on a link that destroys.
kempt_destroyed : (world : World) (state : State) (marks : ℕ → Bool) (agent : ℕ)
    → is_doomed world (state.position agent) ≡ true → AllKempt world state marks
    → AllKempt world state (changed marks agent true)
kempt_destroyed world state marks agent destroyers kempt other = elim (eqb_tells other agent) [
  | inl h ↦ rw h.0 (rw h.1 (at (state.position agent) destroyers (kempt agent)))
  | inr h ↦ rw h.0 (kempt other)
]
  where
    at : (position : Position) → is_doomed world position ≡ true → Kempt world agent position (marks agent)
        → Kempt world agent position true
    at Before is own = absurd (false≢true is)
    at (At node came) is own = absurd (false≢true is)
    at (Bound node port) is own = (own.0, λ lost. is)
    at After is own = absurd (false≢true is)

all_kempt_next : (world : World) (state : State) (marks : ℕ → Bool) (event : Event) → AllLegal world state
    → AllKempt world state marks → AllKempt world (next world state event) (lost_after world state marks event)
all_kempt_next world state marks (Tell agent command) legal kempt =
    cond_both (heard world state agent command) (told world state agent command) state
    (λ (after : State). AllKempt world after marks) (all_kempt_told world state marks agent command legal kempt)
    (λ unheard. kempt)
all_kempt_next world state marks (Deliver agent) legal kempt =
    cond_both (arrives world state agent) (delivered world state agent (state.position agent)) state
    (λ (after : State). AllKempt world after (lost_after world state marks (Deliver agent)))
    (λ arrival. cond_both (destroys world state agent) (changed marks agent true) marks
    (λ (known : ℕ → Bool). AllKempt world (delivered world state agent (state.position agent)) known)
    (λ destroyed. absurd (apart (state.position agent) (and_parts (not state.closed) _ arrival).1
    (and_parts (not state.closed) _ destroyed).1))
    (λ spared. kempt_arrival world state marks agent (state.position agent)
    (and_parts (not state.closed) _ arrival).1 (kempt agent) kempt))
    (λ no_arrival. cond_both (destroys world state agent) (changed marks agent true) marks
    (λ (known : ℕ → Bool). AllKempt world state known)
    (λ destroyed. kempt_destroyed world state marks agent (and_parts (not state.closed) _ destroyed).1 kempt)
    (λ spared. kempt))
  where
    apart : (position : Position) → is_let_through world position ≡ true → is_doomed world position ≡ true → ⊥
    apart Before passes destroyers = false≢true passes
    apart (At node came) passes destroyers = false≢true passes
    apart (Bound node port) passes destroyers = true≢false (sym destroyers ∙ not-true (doomed world node port) passes)
    apart After passes destroyers = false≢true passes
all_kempt_next world state marks Close legal kempt = kempt

all_kempt_run : (world : World) (state : State) (marks : ℕ → Bool) (events : List Event) → AllLegal world state
    → AllKempt world state marks → AllKempt world (run_from world state events) (lost_from world state marks events)
all_kempt_run world state marks [] legal kempt = kempt
all_kempt_run world state marks (event ∷ events) legal kempt =
    all_kempt_run world (next world state event) (lost_after world state marks event) events
    (all_next world state event legal) (all_kempt_next world state marks event legal kempt)

-- ---- agents that are done

-- nothing that counts can happen to an agent: it is none of the match, is destroyed, or has ended
abbrev Calm : World → (agent : ℕ) → Position → (is_lost : Bool) → Type 0
Calm world agent Before is_lost = nat_lt agent world.agents ≡ false
Calm world agent (At node came) is_lost = ⊥
Calm world agent (Bound node port) is_lost = (doomed world node port ≡ true) × (is_lost ≡ true)
Calm world agent After is_lost = Unit {0}

abbrev AllCalm : World → State → (ℕ → Bool) → Type 0
AllCalm world state marks = (agent : ℕ) → Calm world agent (state.position agent) (marks agent)

calm_if_done : (world : World) (agent : ℕ) (view : View) (position : Position) (is_lost : Bool)
    → IsLegal world view position → Kempt world agent position is_lost
    → (agent < world.agents → (standing view ≡ Ended) ⊎ (is_lost ≡ true)) → Calm world agent position is_lost
calm_if_done world agent view Before is_lost legal kempt done =
    by_cases (nat_lt agent world.agents) _
    (λ in_range. elim (done (ltb-true agent world.agents in_range)) [
      | inl ended ↦ absurd (outside_not_ended (sym legal.standing ∙ ended))
      | inr is ↦ absurd (true≢false (sym is ∙ kempt))
    ])
    (λ beyond. beyond)
  where
    outside_not_ended : Outside ≡ Ended → ⊥
    outside_not_ended e = cc
calm_if_done world agent view (At node came) is_lost legal kempt done =
    elim (done (ltb-true agent world.agents kempt.0)) [
      | inl ended ↦ present_not_ended (sym legal.standing ∙ ended)
      | inr is ↦ true≢false (sym is ∙ kempt.1)
    ]
  where
    present_not_ended : Present ≡ Ended → ⊥
    present_not_ended e = cc
calm_if_done world agent view (Bound node port) is_lost legal kempt done =
    elim (done (ltb-true agent world.agents kempt.0)) [
      | inl ended ↦ absurd (away_not_ended (sym legal.standing ∙ ended))
      | inr is ↦ (kempt.1 is, is)
    ]
  where
    away_not_ended : Away ≡ Ended → ⊥
    away_not_ended e = cc
calm_if_done world agent view After is_lost legal kempt done = tt

-- ---- the invariant after an event

calm_told : (world : World) (agent : ℕ) (position : Position) (is_lost room : Bool) (command : Command)
    → nat_lt agent world.agents ≡ true → accepts (standing_at position) room command ≡ true
    → Calm world agent position is_lost → Calm world agent (position_after world position command) is_lost
calm_told world agent Before is_lost room command in_range accepted calm = absurd (true≢false (sym in_range ∙ calm))
calm_told world agent (At node came) is_lost room command in_range accepted calm = absurd calm
calm_told world agent (Bound node p) is_lost room Enter in_range accepted calm = absurd (false≢true accepted)
calm_told world agent (Bound node p) is_lost room Look in_range accepted calm = calm
calm_told world agent (Bound node p) is_lost room (Write expect put) in_range accepted calm = calm
calm_told world agent (Bound node p) is_lost room (Depart port) in_range accepted calm = calm
calm_told world agent (Bound node p) is_lost room (Accuse port) in_range accepted calm = calm
calm_told world agent (Bound node p) is_lost room Leave in_range accepted calm = tt
calm_told world agent (Bound node p) is_lost room Bad in_range accepted calm = calm
calm_told world agent After is_lost room command in_range accepted calm = absurd (false≢true accepted)

calm_stays : (world : World) (position : Position) (agent : ℕ) (is_lost : Bool) → Calm world agent position is_lost
    → is_let_through world position ≡ false
calm_stays world Before agent is_lost calm = refl
calm_stays world (At node came) agent is_lost calm = absurd calm
calm_stays world (Bound node port) agent is_lost calm = ap not calm.0
calm_stays world After agent is_lost calm = refl

no_arrival : (closed passes : Bool) → passes ≡ false → (not closed && passes) ≡ false
no_arrival true passes e = refl
no_arrival false passes e = e

calm_no_arrival : (world : World) (state : State) (marks : ℕ → Bool) (agent : ℕ) → AllCalm world state marks
    → arrives world state agent ≡ false
calm_no_arrival world state marks agent calm =
    no_arrival state.closed (is_let_through world (state.position agent))
    (calm_stays world (state.position agent) agent (marks agent) (calm agent))

calm_lost : (world : World) (state : State) (marks : ℕ → Bool) (event : Event) → AllCalm world state marks
    → lost_after world state marks event ≡ marks
calm_lost world state marks (Tell agent command) calm = refl
calm_lost world state marks (Deliver agent) calm =
    cond_both (destroys world state agent) (changed marks agent true) marks (λ (after : ℕ → Bool). after ≡ marks)
    (λ destroyed. changed_to_itself marks agent
    (at (state.position agent) (and_parts (not state.closed) _ destroyed).1 (calm agent)))
    (λ spared. refl)
  where
    at : (position : Position) → is_doomed world position ≡ true → Calm world agent position (marks agent)
        → marks agent ≡ true
    at Before is own = absurd (false≢true is)
    at (At node came) is own = absurd own
    at (Bound node port) is own = own.1
    at After is own = absurd (false≢true is)
calm_lost world state marks Close calm = refl

calm_next : (world : World) (state : State) (marks : ℕ → Bool) (event : Event) → AllLegal world state
    → AllCalm world state marks → AllCalm world (next world state event) marks
calm_next world state marks (Tell agent command) legal calm =
    cond_both (heard world state agent command) (told world state agent command) state
    (λ (after : State). AllCalm world after marks)
    (λ is_heard other. elim (eqb_tells other agent) [
      | inl h ↦ rw h.0 (rw h.1 (let accepted = heard_accepts world state agent command (legal agent) is_heard in
          calm_told world agent (state.position agent) (marks agent) _ command accepted.0 accepted.1 (calm agent)))
      | inr h ↦ rw h.0 (calm other)
    ])
    (λ unheard. calm)
calm_next world state marks (Deliver agent) legal calm =
    subst (λ (after : State). AllCalm world after marks)
    (sym (next_no_arrival world state agent (calm_no_arrival world state marks agent calm))) calm
calm_next world state marks Close legal calm = calm

-- ---- nothing is found any more

-- replies other than arrivals
abbrev NoMove : Option Reply → Type 0
NoMove said = (moves : ℕ) → moves_by said moves ≡ moves

-- who is at no node accuses nothing
unaccused : (said : Option Reply) (command : Command) (position : Position) (before : Option (ℕ × ℕ))
    → is_present position ≡ false → accused_by said command position before ≡ before
unaccused None command position before away = refl
unaccused (Some (Here ports came board)) command position before away = refl
unaccused (Some Written) command position before away = refl
unaccused (Some (Changed board)) command position before away = refl
unaccused (Some Gone) command position before away = refl
unaccused (Some Noted) Enter position before away = refl
unaccused (Some Noted) Look position before away = refl
unaccused (Some Noted) (Write expect put) position before away = refl
unaccused (Some Noted) (Depart port) position before away = refl
unaccused (Some Noted) (Accuse port) Before before away = refl
unaccused (Some Noted) (Accuse port) (At node came) before away = absurd (true≢false away)
unaccused (Some Noted) (Accuse port) (Bound node back) before away = refl
unaccused (Some Noted) (Accuse port) After before away = refl
unaccused (Some Noted) Leave position before away = refl
unaccused (Some Noted) Bad position before away = refl
unaccused (Some Bye) command position before away = refl
unaccused (Some Over) command position before away = refl
unaccused (Some (No why)) command position before away = refl

calm_away : (world : World) (agent : ℕ) (position : Position) (is_lost : Bool) → Calm world agent position is_lost
    → is_present position ≡ false
calm_away world agent Before is_lost calm = refl
calm_away world agent (At node came) is_lost calm = absurd calm
calm_away world agent (Bound node port) is_lost calm = refl
calm_away world agent After is_lost calm = refl

no_move_on_link : (limit ports : ℕ) (command : Command) (glance : Glance)
    → NoMove (Some (answer limit Away ports command glance))
no_move_on_link limit ports Enter glance moves = refl
no_move_on_link limit ports Look glance moves = refl
no_move_on_link limit ports (Write expect put) glance moves = refl
no_move_on_link limit ports (Depart port) glance moves = refl
no_move_on_link limit ports (Accuse port) glance moves = refl
no_move_on_link limit ports Leave glance moves = refl
no_move_on_link limit ports Bad glance moves = refl

no_move_answer : (world : World) (agent : ℕ) (position : Position) (is_lost room : Bool) (command : Command)
    (limit ports : ℕ) (glance : Glance) → nat_lt agent world.agents ≡ true
    → accepts (standing_at position) room command ≡ true → Calm world agent position is_lost
    → NoMove (Some (answer limit (standing_at position) ports command glance))
no_move_answer world agent Before is_lost room command limit ports glance in_range accepted calm =
    absurd (true≢false (sym in_range ∙ calm))
no_move_answer world agent (At node came) is_lost room command limit ports glance in_range accepted calm = absurd calm
no_move_answer world agent (Bound node port) is_lost room command limit ports glance in_range accepted calm =
    no_move_on_link limit ports command glance
no_move_answer world agent After is_lost room command limit ports glance in_range accepted calm =
    absurd (false≢true accepted)

-- what is heard is answered as no move
no_move_heard : (world : World) (state : State) (marks : ℕ → Bool) (agent : ℕ) (command : Command)
    → AllLegal world state → AllCalm world state marks → heard world state agent command ≡ true
    → NoMove (rep world.board ((told world state agent command).past agent))
no_move_heard world state marks agent command legal calm is_heard =
    let shown = glance world state (state.position agent) command in
    let accepted = heard_accepts world state agent command (legal agent) is_heard in
    subst (λ (view : View). NoMove (rep world.board view)) (sym (changed_same state.past agent _))
    (subst (λ (stands : Standing). NoMove (Some (answer world.board stands (ports (state.past agent)) command shown)))
    (sym (legal agent).standing)
    (no_move_answer world agent (state.position agent) (marks agent) _ command world.board
    (ports (state.past agent)) shown accepted.0 accepted.1 (calm agent)))

no_move : (world : World) (state : State) (marks : ℕ → Bool) (agent : ℕ) (command : Command)
    → AllLegal world state → AllCalm world state marks → NoMove (reply world state (Tell agent command))
no_move world state marks agent command legal calm =
    by_cases (heard world state agent command) _
    (λ is_heard. subst NoMove (sym (answered_by_past world state agent command is_heard))
    (no_move_heard world state marks agent command legal calm is_heard))
    (λ unheard. cond_both (nat_lt agent world.agents) _ _ NoMove
    (λ in_range. cond_both state.closed _ _ NoMove (λ over moves. refl)
    (λ open_match. cond_both (hears world.quota (state.past agent) command) _ _ NoMove
    (λ hearing. absurd (true≢false
    (sym (and_from _ _ in_range (and_from _ _ (ap not open_match) hearing)) ∙ unheard)))
    (λ refused moves. refl)))
    (λ beyond moves. refl))

-- a function that has its own value at a place
changed_to_own : {A : Type 0} (f : ℕ → A) (place : ℕ) (value : A) → value ≡ f place → changed f place value ≡ f
changed_to_own {A = A} f place value own i other =
    cond_both (other == place) value (f other) (λ (chosen : A). chosen ≡ f other)
    (λ same. own ∙ ap f (sym (eqb-true other place same))) (λ apart. refl) i

calm_found : (world : World) (state : State) (marks : ℕ → Bool) (found : Findings) (event : Event)
    → AllLegal world state → AllCalm world state marks → found_after world state found event ≡ found
calm_found world state marks found (Tell agent command) legal calm =
    let said = reply world state (Tell agent command) in
    ap₂ (λ (accused : ℕ → Option (ℕ × ℕ)) (moves : ℕ).
    record { accused = accused; reached = found.reached; moves = moves })
    (changed_to_own found.accused agent _ (unaccused said command (state.position agent) (found.accused agent)
    (calm_away world agent (state.position agent) (marks agent) (calm agent))))
    (no_move world state marks agent command legal calm found.moves)
calm_found world state marks found (Deliver agent) legal calm =
    ap (λ (said : Option Reply). record {
      accused = found.accused;
      reached = reached_by world said (state.position agent) found.reached;
      moves = found.moves;
    }) (no_arrival_no_reply world state agent (calm_no_arrival world state marks agent calm))
calm_found world state marks found Close legal calm = refl

-- ---- whatever else happens

calm_run : (world : World) (state : State) (marks : ℕ → Bool) (events : List Event) → AllLegal world state
    → AllCalm world state marks → AllCalm world (run_from world state events) marks
calm_run world state marks [] legal calm = calm
calm_run world state marks (event ∷ events) legal calm =
    calm_run world (next world state event) marks events (all_next world state event legal)
    (calm_next world state marks event legal calm)

lost_run : (world : World) (state : State) (marks : ℕ → Bool) (events : List Event) → AllLegal world state
    → AllCalm world state marks → lost_from world state marks events ≡ marks
lost_run world state marks [] legal calm = refl
lost_run world state marks (event ∷ events) legal calm =
    ap (λ (known : ℕ → Bool). lost_from world (next world state event) known events)
    (calm_lost world state marks event calm)
    ∙ lost_run world (next world state event) marks events (all_next world state event legal)
    (calm_next world state marks event legal calm)

found_run : (world : World) (state : State) (marks : ℕ → Bool) (found : Findings) (events : List Event)
    → AllLegal world state → AllCalm world state marks → found_from world state found events ≡ found
found_run world state marks found [] legal calm = refl
found_run world state marks found (event ∷ events) legal calm =
    ap (λ (known : Findings). found_from world (next world state event) known events)
    (calm_found world state marks found event legal calm)
    ∙ found_run world (next world state event) marks found events (all_next world state event legal)
    (calm_next world state marks event legal calm)

found-append : (world : World) (state : State) (found : Findings) (events more : List Event)
    → found_from world state found (events ++ more) ≡ found_from world (run_from world state events)
    (found_from world state found events) more
found-append world state found [] more = refl
found-append world state found (event ∷ events) more =
    found-append world (next world state event) (found_after world state found event) events more

-- ---- the verdict

none_of : {A : Type 0} (test : A → Bool) → ((x : A) → test x ≡ false) → (xs : List A) → list_any test xs ≡ false
none_of test none [] = refl
none_of test none (x ∷ xs) = rw (none x) (none_of test none xs)

calm_finished : (world : World) (state : State) (marks : ℕ → Bool) → AllCalm world state marks
    → is_unfinished world state.position ≡ false
calm_finished world state marks calm =
    none_of (λ (agent : ℕ). is_present (state.position agent))
    (λ agent. calm_away world agent (state.position agent) (marks agent) (calm agent))
    (range_with_len 0 world.agents)

-- the verdict, computed from the agents at nodes, the findings and the lost agents
abbrev verdict_by : World → Bool → Findings → (ℕ → Bool) → Verdict
verdict_by world unfinished found marks = record {
  outcome = if accuses world found (λ link. not (is_right world link)) then Wrong
      else (if is_silent world found then Silent
      else (if unfinished then Unfinished
      else (if accuses world found (λ link. not (is_over_dark world link))
      then guess_or_solved (first_unreached world found)
      else Solved)));
  moves = found.moves;
  lost = count_by marks (range_with_len 0 world.agents);
}

same_verdict : (world : World) (one two : Bool) (found other : Findings) (marks known : ℕ → Bool) → one ≡ two
    → found ≡ other → marks ≡ known → verdict_by world one found marks ≡ verdict_by world two other known
same_verdict world one two found other marks known same same_found same_marks i =
    verdict_by world (same i) (same_found i) (same_marks i)

pub verdicts_stand_lemma : VerdictsStand
verdicts_stand_lemma world events more done =
    let state = run world events in
    let marks = lost world events in
    let legal : AllLegal world state = all_run world events in
    let kempt : AllKempt world state marks = all_kempt_run world initial nobody events
    (λ agent. record { standing = refl; ports = tt }) (λ agent. refl) in
    let calm : AllCalm world state marks = λ agent. calm_if_done world agent (state.past agent) (state.position agent)
    (marks agent) (legal agent) (kempt agent) (done agent) in
    let after : AllCalm world (run world (events ++ more)) marks =
    subst (λ (later : State). AllCalm world later marks) (sym (run-append world initial events more))
    (calm_run world state marks more legal calm) in
    same_verdict world (is_unfinished world (run world (events ++ more)).position) (is_unfinished world state.position)
    _ _ _ _
    (calm_finished world (run world (events ++ more)) marks after ∙ sym (calm_finished world state marks calm))
    (found-append world initial nothing_found events more ∙ found_run world state marks _ more legal calm)
    (lost-append world initial nobody events more ∙ lost_run world state marks more legal calm)

-- ---- a match that says it

done_at : (world : World) (view : View) (position : Position) (is_lost : Bool) → IsLegal world view position
    → is_done_at position is_lost ≡ true → (standing view ≡ Ended) ⊎ (is_lost ≡ true)
done_at world view Before is_lost legal done = inr done
done_at world view (At node came) is_lost legal done = inr done
done_at world view (Bound node port) is_lost legal done = inr done
done_at world view After is_lost legal done = inl legal.standing

pub decided_done : DecidedMatchesAreDone
decided_done play done agent within =
    let world = world_in play in
    let events = events_of play.log in
    done_at world ((run world events).past agent) ((run world events).position agent) (lost world events agent)
    (all_run world events agent) (done agent within)
