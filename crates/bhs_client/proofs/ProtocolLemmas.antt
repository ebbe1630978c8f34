-- The memory of an agent of a protocol after a history, and its next step.
use Rattle.std.proofs.Common.{◌≡◌, ◌∙◌, ℕ, ◌∷◌, refl, ap}
use Rattle.bhs_schedules.specs.declared.answers.Step.{Step}
use Rattle.bhs_schedules.specs.Strategies.{History, Observation}
use Rattle.bhs_client.specs.declared.protocol_agent.Protocol.{Protocol}
use Rattle.bhs_client.specs.declared.protocol_agent.Protocol.TheVariants as protocols
use Rattle.bhs_client.specs.declared.protocol_agent.ProtocolMemory.{ProtocolMemory}
use Rattle.bhs_client.specs.Protocols.{strategies_of, held_by, after_in, does_in}

does-held_by : (protocol : Protocol) (n agent : ℕ) (history : History)
    → does_in n (held_by protocol n agent history) ≡ strategies_of protocol n agent history
does-held_by protocols.Halves n agent history = refl
does-held_by protocols.Shuttle n agent history = refl

after-held_by : (protocol : Protocol) (n agent : ℕ) (history : History) (item : Observation)
    → after_in n (held_by protocol n agent history) item ≡ held_by protocol n agent (item ∷ history)
after-held_by protocols.Halves n agent history item = refl
after-held_by protocols.Shuttle n agent history item = refl

-- what an agent holds by its history makes it do what its strategy says
pub does_by : (protocol : Protocol) (n agent : ℕ) (history : History) (held : ProtocolMemory) (step : Step)
    → held ≡ held_by protocol n agent history → step ≡ does_in n held
    → step ≡ strategies_of protocol n agent history
does_by protocol n agent history held step holds does =
    does ∙ ap (does_in n) holds ∙ does-held_by protocol n agent history

-- when something more has happened, it holds what that makes it hold
pub holds_on : (protocol : Protocol) (n agent : ℕ) (history : History) (held next : ProtocolMemory) (item : Observation)
    → held ≡ held_by protocol n agent history → next ≡ after_in n held item
    → next ≡ held_by protocol n agent (item ∷ history)
holds_on protocol n agent history held next item holds after =
    after ∙ ap (λ (h : ProtocolMemory). after_in n h item) holds ∙ after-held_by protocol n agent history item
