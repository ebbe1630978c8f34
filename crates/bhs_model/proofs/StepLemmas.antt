-- What a single event changes.
use Rattle.std.proofs.Common.{ℕ, ◌≡◌, ◌<◌, Bool, true, false, not, ◌&&◌, Some, None, nat_lt, ◌==◌, refl, sym, ap, ◌∙◌}
use Rattle.std.proofs.lemmas.Bool.{cond-true, cond-false, eq-eqb, lt-ltb, and_parts, not-true}
use Rattle.bhs_model.specs.declared.commands.Command.{Command}
use Rattle.bhs_model.specs.declared.events.Event.TheVariants.{Tell, Deliver}
use Rattle.bhs_model.specs.declared.replies.Reply.TheVariants.{No}
use Rattle.bhs_model.specs.Views.{standing}
use Rattle.bhs_model.specs.Replying.{rep, hears, refusal}
use Rattle.bhs_model.specs.Worlds.{World}
use Rattle.bhs_model.specs.Runs.{State, changed, heard, arrives, told, delivered, next, reply}

pub changed_same : {A : Type 0} (f : ℕ → A) (place : ℕ) (value : A) → changed f place value place ≡ value
changed_same f place value = cond-true (place == place) value (f place) (eq-eqb place place refl)

pub changed_other : {A : Type 0} (f : ℕ → A) (place other : ℕ) (value : A) → (other == place) ≡ false
    → changed f place value other ≡ f other
changed_other f place other value apart = cond-false (other == place) value (f other) apart

-- a fact about each Bool, by its two cases
pub by_cases : (b : Bool) (P : Type 0) → (b ≡ true → P) → (b ≡ false → P) → P
by_cases true P yes_case no_case = yes_case refl
by_cases false P yes_case no_case = no_case refl

pub next_heard : (world : World) (state : State) (agent : ℕ) (command : Command)
    → heard world state agent command ≡ true →
    next world state (Tell agent command) ≡ told world state agent command
next_heard world state agent command is_heard = cond-true _ _ _ is_heard

pub next_unheard : (world : World) (state : State) (agent : ℕ) (command : Command)
    → heard world state agent command ≡ false →
    next world state (Tell agent command) ≡ state
next_unheard world state agent command unheard = cond-false _ _ _ unheard

pub next_arrived : (world : World) (state : State) (agent : ℕ) → arrives world state agent ≡ true →
    next world state (Deliver agent) ≡ delivered world state agent (state.position agent)
next_arrived world state agent arrival = cond-true _ _ _ arrival

pub next_no_arrival : (world : World) (state : State) (agent : ℕ) → arrives world state agent ≡ false →
    next world state (Deliver agent) ≡ state
next_no_arrival world state agent no_arrival = cond-false _ _ _ no_arrival

-- a Close after a Close changes nothing
pub next_closed : (state : State) → state.closed ≡ true → record state { closed = true } ≡ state
next_closed state closed i = record state { closed = sym closed i }

-- before the close an agent is heard by its past alone
pub heard_by_past : (world : World) (state : State) (agent : ℕ) (command : Command) → agent < world.agents
    → state.closed ≡ false →
    heard world state agent command ≡ hears world.quota (state.past agent) command
heard_by_past world state agent command in_range open_match =
    ap (λ (below : Bool). below && (not state.closed && hears world.quota (state.past agent) command))
    (lt-ltb agent world.agents in_range)
    ∙ ap (λ (closed : Bool). not closed && hears world.quota (state.past agent) command) open_match

-- who is not heard is refused by its past alone
pub refused_by_past : (world : World) (state : State) (agent : ℕ) (command : Command) → agent < world.agents
    → state.closed ≡ false →
    hears world.quota (state.past agent) command ≡ false →
    reply world state (Tell agent command) ≡ Some (No (refusal (standing (state.past agent)) command))
refused_by_past world state agent command in_range open_match unheard =
    cond-true _ _ _ (lt-ltb agent world.agents in_range) ∙ cond-false _ _ _ open_match ∙ cond-false _ _ _ unheard

-- who is heard is answered by its past with that command
pub answered_by_past : (world : World) (state : State) (agent : ℕ) (command : Command)
    → heard world state agent command ≡ true →
    reply world state (Tell agent command) ≡ rep world.board ((told world state agent command).past agent)
answered_by_past world state agent command is_heard =
    let parts = and_parts (nat_lt agent world.agents) _ is_heard in
    let open_parts = and_parts (not state.closed) _ parts.1 in
    cond-true _ _ _ parts.0 ∙ cond-false _ _ _ (not-true state.closed open_parts.0) ∙ cond-true _ _ _ open_parts.1
    ∙ ap (λ (after : State). rep world.board (after.past agent)) (next_heard world state agent command is_heard)

-- who arrives is answered by its past with that arrival
pub arrival_by_past : (world : World) (state : State) (agent : ℕ) → arrives world state agent ≡ true →
    reply world state (Deliver agent) ≡ rep world.board
    ((delivered world state agent (state.position agent)).past agent)
arrival_by_past world state agent arrival =
    cond-true _ _ _ arrival ∙ ap (λ (after : State). rep world.board (after.past agent))
    (next_arrived world state agent arrival)

-- An agent that does not arrive gets no reply.
pub no_arrival_no_reply : (world : World) (state : State) (agent : ℕ) → arrives world state agent ≡ false →
    reply world state (Deliver agent) ≡ None
no_arrival_no_reply world state agent no_arrival = cond-false _ _ _ no_arrival
