-- What holds of each match at any time, so that its log stays within bounds.
use Rattle.std.proofs.Common.{◌≡◌, ℕ, ◌<◌, ◌≤◌, Bool, true, false, not, ◌&&◌, List, [], ◌∷◌, refl, sym, ap, ◌∙◌}
use Rattle.std.proofs.Common.{subst, inl, inr, arith, nat_lt}
use Rattle.std.proofs.lemmas.Bool.{and_parts, not-true, ltb-true, cond_both, cond-false}
use Rattle.std.proofs.lemmas.Bool.Decides.{eqb_tells, leb_tells}
use Rattle.bhs_model.specs.declared.commands.Command.{Command}
use Rattle.bhs_model.specs.declared.events.Event.{Event}
use Rattle.bhs_model.specs.declared.events.Event.TheVariants.{Tell, Deliver, Close}
use Rattle.bhs_model.specs.Views.{Told, Standing, used}
use Rattle.bhs_model.specs.Replying.{accepts}
use Rattle.bhs_model.specs.Worlds.{World, doomed}
use Rattle.bhs_model.specs.Runs.{Position, Before, At, Bound, After, State, initial, changed, glance, position_after}
use Rattle.bhs_model.specs.Runs.{told, is_bound, is_doomed, arrives, arrived, delivered, heard, next}
use Rattle.bhs_model.specs.Runs.{run, run_from}
use Rattle.bhs_model.specs.Kept.{destroys, lost_after, lost, lost_from, nobody}
use Rattle.bhs_model.specs.Standings.{standing_at}
use Rattle.bhs_model.proofs.LegalLemmas.{AllLegal, legal_told}
use Rattle.bhs_match.proofs.DepartedLemmas.{AreOnce, once_after, once_none}
use Rattle.bhs_match.proofs.MoveLemmas.{IsGone, Moves, moves, within_quota}

pub record IsFair (world : World) (state : State) (lost : ℕ → Bool) : Type 0 where
  pub legal : AllLegal world state
  pub quota : (agent : ℕ) → used (state.past agent) ≤ world.quota
  pub gone : (agent : ℕ) → lost agent ≡ true → IsGone world (state.position agent)
  pub strange : (agent : ℕ) → world.agents ≤ agent → state.position agent ≡ Before
  pub departed : AreOnce world.agents state.departed

-- what a command that is heard says of its agent
pub record IsHeard (world : World) (state : State) (agent : ℕ) (command : Command) : Type 0 where
  pub within : agent < world.agents
  pub open_match : state.closed ≡ false
  pub free : accepts (standing_at (state.position agent)) (nat_lt (used (state.past agent)) world.quota) command ≡ true

pub heard_means : (world : World) (state : State) (lost : ℕ → Bool) (agent : ℕ) (command : Command)
    → IsFair world state lost → heard world state agent command ≡ true → IsHeard world state agent command
heard_means world state lost agent command fair is_heard =
    let outer = and_parts (nat_lt agent world.agents) _ is_heard in
    let inner = and_parts (not state.closed) _ outer.1 in
    record {
      within = ltb-true agent world.agents outer.0;
      open_match = not-true state.closed inner.0;
      free = ap (λ (standing : Standing). accepts standing (nat_lt (used (state.past agent)) world.quota) command)
          (sym (fair.legal agent).standing) ∙ inner.1;
    }

pub moves_of : (world : World) (state : State) (lost : ℕ → Bool) (agent : ℕ) (command : Command)
    → IsHeard world state agent command →
    Moves world (lost agent) (state.position agent) (position_after world (state.position agent) command)
    (used (state.past agent)) (used (Told (state.past agent) command
    (glance world state (state.position agent) command)))
moves_of world state lost agent command is_heard =
    moves world (lost agent) (nat_lt (used (state.past agent)) world.quota) (state.position agent) command
    (used (state.past agent)) is_heard.free

fair_told : (world : World) (state : State) (lost : ℕ → Bool) (agent : ℕ) (command : Command) → IsFair world state lost
    → IsHeard world state agent command → IsFair world (told world state agent command) lost
fair_told world state lost agent command fair is_heard = record {
  legal = λ other. elim (eqb_tells other agent) [
    | inl h ↦ rw h.0 (legal_told world state (state.past agent) (state.position agent) command (fair.legal agent))
    | inr h ↦ rw h.0 (fair.legal other)
  ];
  quota = λ other. elim (eqb_tells other agent) [
    | inl h ↦ rw h.0 (within_quota world.quota (used (state.past agent)) (standing_at (state.position agent)) command
        is_heard.free (fair.quota agent))
    | inr h ↦ rw h.0 (fair.quota other)
  ];
  gone = λ other is_lost. elim (eqb_tells other agent) [
    | inl h ↦ rw h.0 ((moves_of world state lost agent command is_heard).gone
        (fair.gone agent (subst (λ (one : ℕ). lost one ≡ true) h.1 is_lost)))
    | inr h ↦ rw h.0 (fair.gone other is_lost)
  ];
  strange = λ other past. elim (eqb_tells other agent) [
    | inl h ↦ absurd (omega (arith, h.1, is_heard.within))
    | inr h ↦ rw h.0 (fair.strange other past)
  ];
  departed = once_after world.agents agent state.departed (state.position agent)
      (position_after world (state.position agent) command) is_heard.within fair.departed;
}

-- Only an agent of the match travels on a link.
pub bound_within : (world : World) (state : State) (lost : ℕ → Bool) (agent node port : ℕ) → IsFair world state lost
    → state.position agent ≡ Bound node port → agent < world.agents
bound_within world state lost agent node port fair on = elim (leb_tells world.agents agent) [
  | inl h ↦ absurd (not_before (sym (fair.strange agent h.1) ∙ on))
  | inr h ↦ h.1
]
  where
    not_before : Before ≡ Bound node port → ⊥
    not_before h = cc

fair_arrived : (world : World) (state : State) (lost : ℕ → Bool) (agent node port there label : ℕ)
    → IsFair world state lost → state.position agent ≡ Bound node port → doomed world node port ≡ false
    → IsFair world (arrived world state agent there label) lost
fair_arrived world state lost agent node port there label fair on is_safe = record {
  legal = λ other. elim (eqb_tells other agent) [
    | inl h ↦ rw h.0 (record { standing = refl; ports = refl })
    | inr h ↦ rw h.0 (fair.legal other)
  ];
  quota = λ other. elim (eqb_tells other agent) [
    | inl h ↦ rw h.0 (fair.quota agent)
    | inr h ↦ rw h.0 (fair.quota other)
  ];
  gone = λ other is_lost. elim (eqb_tells other agent) [
    | inl h ↦ absurd (not_both (subst (IsGone world) on
        (fair.gone agent (subst (λ (one : ℕ). lost one ≡ true) h.1 is_lost))))
    | inr h ↦ rw h.0 (fair.gone other is_lost)
  ];
  strange = λ other past. elim (eqb_tells other agent) [
    | inl h ↦ absurd (omega (arith, h.1, bound_within world state lost agent node port fair on))
    | inr h ↦ rw h.0 (fair.strange other past)
  ];
  departed = fair.departed;
}
  where
    not_both : doomed world node port ≡ true → ⊥
    not_both h = cc

-- The arriving agent was on a link that does not destroy.
pub record IsArriving (world : World) (state : State) (agent : ℕ) : Type 0 where
  pub node : ℕ
  pub port : ℕ
  pub on : state.position agent ≡ Bound node port
  pub safe : doomed world node port ≡ false
  pub spared : destroys world state agent ≡ false

on_a_link : (position : Position) → is_bound position ≡ true → (node : ℕ) × (port : ℕ) × (position ≡ Bound node port)
on_a_link (Bound node port) bound = (node, port, refl)
on_a_link Before bound = cc
on_a_link (At node came) bound = cc
on_a_link After bound = cc

and_false : (b : Bool) → (b && false) ≡ false
and_false true = refl
and_false false = refl

pub arrival_means : (world : World) (state : State) (agent : ℕ) → arrives world state agent ≡ true
    → IsArriving world state agent
arrival_means world state agent arrival =
    let outer = and_parts (not state.closed) _ arrival in
    let inner = and_parts (is_bound (state.position agent)) _ outer.1 in
    let link = on_a_link (state.position agent) inner.0 in
    let safe : is_doomed world (state.position agent) ≡ false = not-true _ inner.1 in
    record {
      node = link.0;
      port = link.1;
      on = link.2;
      safe = ap (is_doomed world) (sym link.2) ∙ safe;
      spared = ap (λ (doom : Bool). not state.closed && doom) safe ∙ and_false (not state.closed);
    }

gone_where : (world : World) (position : Position) → is_doomed world position ≡ true → IsGone world position
gone_where world (Bound node port) doom = doom
gone_where world Before doom = cc
gone_where world (At node came) doom = cc
gone_where world After doom = tt

fair_destroyed : (world : World) (state : State) (lost : ℕ → Bool) (agent : ℕ) → IsFair world state lost
    → destroys world state agent ≡ true → IsFair world state (changed lost agent true)
fair_destroyed world state lost agent fair destroyed = record {
  legal = fair.legal;
  quota = fair.quota;
  gone = λ other. elim (eqb_tells other agent) [
    | inl h ↦ λ _. subst (λ (one : ℕ). IsGone world (state.position one)) (sym h.1)
        (gone_where world (state.position agent) (and_parts (not state.closed) _ destroyed).1)
    | inr h ↦ rw h.0 (fair.gone other)
  ];
  strange = fair.strange;
  departed = fair.departed;
}

fair_delivered : (world : World) (state : State) (lost : ℕ → Bool) (agent : ℕ) (position : Position) (node port : ℕ)
    → IsFair world state lost → state.position agent ≡ Bound node port → doomed world node port ≡ false →
    position ≡ Bound node port → IsFair world (delivered world state agent position) lost
fair_delivered world state lost agent position node port fair on safe is =
    subst (λ (position : Position). IsFair world (delivered world state agent position) lost) (sym is)
    (fair_arrived world state lost agent node port (world.net.far node port).0 (world.net.far node port).1 fair on safe)

pub fair_next : (world : World) (state : State) (lost : ℕ → Bool) (event : Event) → IsFair world state lost
    → IsFair world (next world state event) (lost_after world state lost event)
fair_next world state lost (Tell agent command) fair =
    cond_both (heard world state agent command) (told world state agent command) state
    (λ (after : State). IsFair world after lost)
    (λ is_heard. fair_told world state lost agent command fair
    (heard_means world state lost agent command fair is_heard)) (λ unheard. fair)
fair_next world state lost (Deliver agent) fair =
    let marks = lost_after world state lost (Deliver agent) in
    cond_both (arrives world state agent) (delivered world state agent (state.position agent)) state
    (λ (after : State). IsFair world after marks)
    (λ arrival.
    let flight = arrival_means world state agent arrival in
    subst (λ (marks : ℕ → Bool). IsFair world (delivered world state agent (state.position agent)) marks)
    (sym (cond-false (destroys world state agent) (changed lost agent true) lost flight.spared))
    (fair_delivered world state lost agent (state.position agent) flight.node flight.port fair flight.on
    flight.safe flight.on))
    (λ stays. cond_both (destroys world state agent) (changed lost agent true) lost
    (λ (marks : ℕ → Bool). IsFair world state marks) (fair_destroyed world state lost agent fair) (λ spared. fair))
fair_next world state lost Close fair = record {
  legal = fair.legal;
  quota = fair.quota;
  gone = fair.gone;
  strange = fair.strange;
  departed = fair.departed;
}

pub fair_initial : (world : World) → IsFair world initial nobody
fair_initial world = record {
  legal = λ agent. record { standing = refl; ports = tt };
  quota = λ agent. omega arith;
  gone = λ agent is_lost. absurd (not_lost is_lost);
  strange = λ agent past. refl;
  departed = once_none world.agents;
}
  where
    not_lost : false ≡ true → ⊥
    not_lost h = cc

pub fair_run_from : (world : World) (state : State) (lost : ℕ → Bool) (events : List Event) → IsFair world state lost
    → IsFair world (run_from world state events) (lost_from world state lost events)
fair_run_from world state lost [] fair = fair
fair_run_from world state lost (event ∷ events) fair =
    fair_run_from world (next world state event) (lost_after world state lost event) events
    (fair_next world state lost event fair)

pub fair_run : (world : World) (events : List Event) → IsFair world (run world events) (lost world events)
fair_run world events = fair_run_from world initial nobody events (fair_initial world)
