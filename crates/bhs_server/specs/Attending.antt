-- The fact that a kept session carries: `attend` served it.
use Rattle.std.specs.Prelude.{ℕ, ◌≡◌, Option, Some, None, true, List, []}
use Rattle.bhs_model.specs.declared.commands.Command.{Command}
use Rattle.bhs_session.specs.declared.endings.Ended.{Ended}
use Rattle.bhs_shared_match.specs.Passes.{Passed}
use Rattle.bhs_server.specs.declared.ports.SessionAgent.{SessionAgent}
use Rattle.bhs_server.specs.Written.{IsWrittenBy, is_between}

-- A session with this pass and ending took the commands `said`, read the commands `more` without taking them, and wrote
-- exactly the answers that its pass records: what a session needs to have taken part in its match.
pub record WasServed (pass : Passed) (ended : Ended) : Type 0 where
  pub said : List Command
  pub more : List Command
  pub written : List ℕ
  pub wrote : IsWrittenBy pass said written ended
  pub none_more : is_between ended ≡ true → more ≡ []

-- the same of a session that may have played no agent
abbrev pub WasServedIfPlayed : Option SessionAgent → Ended → Type 0
WasServedIfPlayed None ended = Unit {0}
WasServedIfPlayed (Some played) ended = WasServed played.pass ended
