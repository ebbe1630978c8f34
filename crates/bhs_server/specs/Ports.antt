-- What a session asks of the match of its agent, where threads share the match, and what it hears.
use Rattle.std.specs.Prelude.{ℕ, ◌≡◌, ◌≢◌, ◌≤◌, ◌<◌, Option, Some, None, List, length, slice_get}
use Rattle.bhs_model.specs.declared.commands.Command.{Command}
use Rattle.bhs_model.specs.declared.commands.Command.TheVariants.{Enter}
use Rattle.bhs_model.specs.declared.replies.Reply.{Reply}
use Rattle.bhs_model.specs.declared.replies.Reply.TheVariants.{Over, No}
use Rattle.bhs_model.specs.declared.replies.Why.TheVariants.{Agent}
use Rattle.bhs_session.specs.declared.port.Entered.TheVariants.{Key, Taken, In}
use Rattle.bhs_session.specs.Port.{PortRequest, Enters, Tells, News, PortAnswer, LetIn, Answers, NoMemory}
use Rattle.bhs_setups.specs.KeyTable.{Seat, seat_at}
use Rattle.bhs_shared_match.specs.Passes.{Passed}
use Rattle.bhs_shared_match.specs.Unclaimed.{IsFresh}
use Rattle.bhs_shared_match.specs.Recording.{IsSubmitted}
use Rattle.bhs_shared_match.specs.SharedMatches.{Given, IsNews}
use Rattle.bhs_server.specs.declared.ports.SessionAgent.{SessionAgent}

-- The keys, the matches as they were given, and the session's agent, once there is one.
pub record Seated : Type 0 where
  pub keys : List Seat
  pub shared_matches : List Given
  pub played : Option SessionAgent

-- the key lets in no agent, or one of no match
abbrev pub IsUnknown : (keys : List Seat) → (games : ℕ) → (key : List ℕ) → Type 0
IsUnknown keys games key = LetsInNone (seat_at key keys) where
  LetsInNone : Option (ℕ × ℕ) → Type 0
  LetsInNone None = Unit {0}
  LetsInNone (Some seat) = games ≤ seat.0

-- the key lets in this agent of this match
pub record IsKeyOf (keys : List Seat) (games : ℕ) (key : List ℕ) (game agent : ℕ) : Type 0 where
  pub seat : seat_at key keys ≡ Some (game, agent)
  pub there : game < games

-- The pass belongs to this match: it has the match's quota.
abbrev pub IsOfSharedMatch : List Given → (game : ℕ) → Passed → Type 0
IsOfSharedMatch shared_matches game pass = HasQuota (slice_get shared_matches game) where
  HasQuota : Option Given → Type 0
  HasQuota None = ⊥
  HasQuota (Some given) = pass.quota ≡ given.setup.quota

-- the pass of a key's agent was claimed: it had been told nothing
pub record IsClaimed (old : Seated) (key : List ℕ) (game : ℕ) (fresh : Passed) : Type 0 where
  pub agent : ℕ
  pub known : IsKeyOf old.keys (length old.shared_matches) key game agent
  pub is_fresh : IsFresh agent fresh
  pub paired : length fresh.receipts ≡ length fresh.commands
  pub of_shared_match : IsOfSharedMatch old.shared_matches game fresh

-- The reply that the client gets; if the pass disagrees with the match, the reply is that the match is over.
abbrev pub agreed : Reply → Reply
agreed (No Agent) = Over
agreed reply = reply

-- a command was told for this pass, and answered so; never as no agent's
pub record IsToldBy (pass : Passed) (command : Command) (reply : Reply) (pass' : Passed) : Type 0 where
  pub place : Option ℕ
  pub submitted : IsSubmitted pass command place reply pass'
  pub agrees : reply ≢ No Agent

-- the pass of a key's agent was claimed, told Enter, and is played from now on
pub record IsLetIn (old : Seated) (key : List ℕ) (reply : Reply) (new : Seated) : Type 0 where
  pub game : ℕ
  pub fresh : Passed
  pub claimed : IsClaimed old key game fresh
  pub pass : Passed
  pub told : IsToldBy fresh Enter reply pass
  pub plays : new ≡ record old { played = Some (record { game = game; pass = pass }) }

-- the pass of a key's agent was claimed, and there was no memory to tell it anything
pub record IsLeftOut (old : Seated) (key : List ℕ) (new : Seated) : Type 0 where
  pub game : ℕ
  pub fresh : Passed
  pub claimed : IsClaimed old key game fresh
  pub plays : new ≡ record old { played = Some (record { game = game; pass = fresh }) }

-- what news makes of a pass in the match of this number; without such a match it is over, and nothing changes
abbrev pub IsNewsIn : List Given → (game : ℕ) → Passed → Reply → Passed → Type 0
IsNewsIn shared_matches game pass reply pass' = IsNewsBy (slice_get shared_matches game) where
  IsNewsBy : Option Given → Type 0
  IsNewsBy None = (reply ≡ Over) × (pass' ≡ pass)
  IsNewsBy (Some given) = IsNews given pass reply pass'

-- the agent's pass comes from one to the other; without an agent the match is over, and nothing changes
abbrev pub Plays : (SessionAgent → Reply → Passed → Type 0) → (old : Seated) → Reply → (new : Seated) → Type 0
Plays does old reply new = PlaysBy old.played where
  PlaysBy : Option SessionAgent → Type 0
  PlaysBy None = (reply ≡ Over) × (new ≡ old)
  PlaysBy (Some played) =
      (pass : Passed) × does played reply pass × (new ≡ record old { played = Some (record played { pass = pass }) })

-- What a port is asked and answers. What is not listed never comes.
abbrev pub Calls : Seated → PortRequest → PortAnswer → Seated → Type 0
Calls old (Enters key) (LetIn Key) new = (new ≡ old) × IsUnknown old.keys (length old.shared_matches) key
Calls old (Enters key) (LetIn Taken) new =
    (new ≡ old) × ((game : ℕ) × ((agent : ℕ) × IsKeyOf old.keys (length old.shared_matches) key game agent))
Calls old (Enters key) (LetIn (In reply)) new = IsLetIn old key reply new
Calls old (Enters key) NoMemory new = IsLeftOut old key new
Calls old (Tells command) (Answers reply) new =
    Plays (λ played said pass. IsToldBy played.pass command said pass) old reply new
Calls old (Tells command) NoMemory new = new ≡ old
Calls old News (Answers reply) new =
    Plays (λ played said pass. IsNewsIn old.shared_matches played.game played.pass said pass) old reply new
Calls old News NoMemory new = new ≡ old
Calls old asked heard new = ⊥
