-- Events of one agent leave the others unchanged, and numbers without an agent never enter.
use Rattle.std.proofs.Common.{ℕ, ◌≡◌, ◌∙◌, false, List, [], ◌∷◌, ◌==◌, nat_lt, refl, sym, ap, inl, inr}
use Rattle.std.proofs.lemmas.Bool.{true≢false, and_parts, cond_both}
use Rattle.std.proofs.lemmas.Bool.Decides.{eqb_tells}
use Rattle.bhs_model.specs.declared.commands.Command.{Command}
use Rattle.bhs_model.specs.declared.events.Event.{Event}
use Rattle.bhs_model.specs.declared.events.Event.TheVariants.{Tell, Deliver, Close}
use Rattle.bhs_model.specs.Worlds.{World}
use Rattle.bhs_model.specs.Runs.{State, Position, Before, At, Bound, After, initial, heard, arrives, told}
use Rattle.bhs_model.specs.Runs.{delivered, next, run_from, run}
use Rattle.bhs_model.proofs.StepLemmas.{changed_other}
use Rattle.bhs_model.proofs.LegalLemmas.{either}

-- the position and the past of an agent are unchanged
pub record IsUntouched (agent : ℕ) (old new : State) : Type 0 where
  pub past : new.past agent ≡ old.past agent
  pub position : new.position agent ≡ old.position agent

untouched : (agent : ℕ) (state : State) → IsUntouched agent state state
untouched agent state = record { past = refl; position = refl }

untouched_delivered : (world : World) (state : State) (agent other : ℕ) (position : Position)
    → (other == agent) ≡ false → IsUntouched other state (delivered world state agent position)
untouched_delivered world state agent other Before apart = untouched other state
untouched_delivered world state agent other (At node came) apart = untouched other state
untouched_delivered world state agent other (Bound node port) apart = record {
  past = changed_other state.past agent other _ apart;
  position = changed_other state.position agent other _ apart;
}
untouched_delivered world state agent other After apart = untouched other state

pub untouched_told : (world : World) (state : State) (agent other : ℕ) (command : Command)
    → (other == agent) ≡ false → IsUntouched other state (next world state (Tell agent command))
untouched_told world state agent other command apart =
    either (IsUntouched other state) (heard world state agent command) (told world state agent command) state
    (record {
      past = changed_other state.past agent other _ apart;
      position = changed_other state.position agent other _ apart;
    }) (untouched other state)

pub untouched_deliver : (world : World) (state : State) (agent other : ℕ)
    → (other == agent) ≡ false → IsUntouched other state (next world state (Deliver agent))
untouched_deliver world state agent other apart =
    either (IsUntouched other state) (arrives world state agent)
    (delivered world state agent (state.position agent)) state
    (untouched_delivered world state agent other (state.position agent) apart) (untouched other state)

-- ---- numbers beyond the agents of the match

abbrev AreOut : World → State → Type 0
AreOut world state = (agent : ℕ) → nat_lt agent world.agents ≡ false → state.position agent ≡ Before

out_delivered : (world : World) (state : State) (agent : ℕ) (position : Position) → state.position agent ≡ position
    → AreOut world state → AreOut world (delivered world state agent position)
out_delivered world state agent Before at out = out
out_delivered world state agent (At node came) at out = out
out_delivered world state agent (Bound node port) at out = λ other beyond. elim (eqb_tells other agent) [
  | inl h ↦ absurd (not_before (sym at ∙ ap state.position (sym h.1) ∙ out other beyond))
  | inr h ↦ changed_other state.position agent other _ h.0 ∙ out other beyond
]
  where
    not_before : Bound node port ≡ Before → ⊥
    not_before e = cc
out_delivered world state agent After at out = out

out_next : (world : World) (state : State) (event : Event) → AreOut world state → AreOut world (next world state event)
out_next world state (Tell agent command) out =
    cond_both (heard world state agent command) (told world state agent command) state (AreOut world)
    (λ is_heard other beyond. elim (eqb_tells other agent) [
      | inl h ↦ absurd (true≢false (sym (and_parts (nat_lt agent world.agents) _ is_heard).0
          ∙ ap (λ (k : ℕ). nat_lt k world.agents) (sym h.1) ∙ beyond))
      | inr h ↦ changed_other state.position agent other _ h.0 ∙ out other beyond
    ])
    (λ unheard. out)
out_next world state (Deliver agent) out =
    either (AreOut world) (arrives world state agent) (delivered world state agent (state.position agent)) state
    (out_delivered world state agent (state.position agent) refl out) out
out_next world state Close out = out

out_run : (world : World) (state : State) (events : List Event) → AreOut world state
    → AreOut world (run_from world state events)
out_run world state [] out = out
out_run world state (event ∷ events) out =
    out_run world (next world state event) events (out_next world state event out)

-- they never enter
pub all_out : (world : World) (events : List Event) (agent : ℕ) → nat_lt agent world.agents ≡ false
    → (run world events).position agent ≡ Before
all_out world events = out_run world initial events (λ agent beyond. refl)
