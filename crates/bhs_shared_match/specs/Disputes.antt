-- The meaning of settling: a match agrees with its passes, and the disputes that prevent it.
use Rattle.std.specs.Prelude.{ℕ, ◌<◌, ◌≡◌, true, false, Option, List}
use Rattle.std.specs.Prelude.{Vec}
use Rattle.std.specs.declared.alloc.Global.{Global}
use Rattle.bhs_match.specs.Matches.{Play, state_of}
use Rattle.bhs_shared_match.specs.declared.settlement.Dispute.{Dispute}
use Rattle.bhs_shared_match.specs.declared.settlement.Dispute.TheVariants.{Missing, World, Differs, Arrival, NotClosed}
use Rattle.bhs_shared_match.specs.declared.parts.Parts.{Parts}
use Rattle.bhs_shared_match.specs.declared.settlement.Unsettled.{Unsettled}
use Rattle.bhs_shared_match.specs.Passes.{Passed}
use Rattle.bhs_shared_match.specs.SharedMatches.{Given}
use Rattle.bhs_shared_match.specs.Settling.{IsOfWorld, NoneMissing, IsLeastMissing, Agree, IsLeastDifference}
use Rattle.bhs_shared_match.specs.Settling.{commands_of}
use Rattle.bhs_shared_match.specs.Settling.{arrivals_of}

-- the input of a settlement: the parameters of a shared match, the match that stood under its lock, the passes that
-- nobody claimed, by agent, and the passes that were handed in
pub record Account : Type 0 where
  pub given : Given
  pub play : Play
  pub left : List (Option Passed)
  pub passes : List Passed

-- each claimed pass is handed in
abbrev pub IsWhole : Account → Type 0
IsWhole account = NoneMissing account.given.setup.agents account.left account.passes

-- The receipts agree with the log: each pass has the heard commands of its agent, once each and in order, with places
-- and replies; and its first arrivals, with places and replies; an agent without a pass has no heard command. The match
-- has the given network and setup, and has ended.
pub record AreInAccord (given : Given) (play : Play) (passes : List Passed) : Type 0 where
  pub world : IsOfWorld given.net given.setup play
  pub commands : Agree (commands_of play passes)
  pub arrivals : Agree (arrivals_of play passes)
  pub closed : (state_of play).closed ≡ true

-- nothing is in dispute
pub record IsSettled (account : Account) : Type 0 where
  pub whole : IsWhole account
  pub accord : AreInAccord account.given account.play account.passes

-- the claimed pass of this agent is not handed in, the least such agent
pub record IsMissing (account : Account) (agent : ℕ) : Type 0 where
  pub claimed : agent < account.given.setup.agents
  pub least : IsLeastMissing account.left account.passes agent

-- the match is of another world
pub record IsOfOther (account : Account) : Type 0 where
  pub whole : IsWhole account
  pub other : ¬ IsOfWorld account.given.net account.given.setup account.play

-- this is the least agent, and its least index, at which its receipts are not its heard commands
pub record HasDiffered (account : Account) (agent index : ℕ) : Type 0 where
  pub whole : IsWhole account
  pub world : IsOfWorld account.given.net account.given.setup account.play
  pub least : IsLeastDifference (commands_of account.play account.passes) agent index

-- The least agent, and for it the least index, at which an arrival in a pass differs from the agent's arrival.
pub record HasStrayed (account : Account) (agent index : ℕ) : Type 0 where
  pub whole : IsWhole account
  pub world : IsOfWorld account.given.net account.given.setup account.play
  pub commands : Agree (commands_of account.play account.passes)
  pub least : IsLeastDifference (arrivals_of account.play account.passes) agent index

-- the match has not ended, and nothing else is in dispute
pub record IsOpen (account : Account) : Type 0 where
  pub whole : IsWhole account
  pub world : IsOfWorld account.given.net account.given.setup account.play
  pub commands : Agree (commands_of account.play account.passes)
  pub arrivals : Agree (arrivals_of account.play account.passes)
  pub open_still : (state_of account.play).closed ≡ false

-- this is the first dispute, in this order
abbrev pub IsDispute : Account → Dispute → Type 0
IsDispute account (Missing agent) = IsMissing account agent
IsDispute account World = IsOfOther account
IsDispute account (Differs agent index) = HasDiffered account agent index
IsDispute account (Arrival agent index) = HasStrayed account agent index
IsDispute account NotClosed = IsOpen account

-- what parts and passes are settled by
abbrev pub account_of : Parts → List Passed → Account
account_of parts passes = record {
  given = record {
    game = parts.game;
    net = parts.net;
    setup = parts.setup;
    held = parts.held;
    schedule = parts.schedule;
  };
  play = parts.inner.play;
  left = parts.left.items;
  passes = passes;
}

-- a refusal of these parts and passes, which come back
pub record IsRefused (parts : Parts) (passes : Vec Passed Global) (unsettled : Unsettled) : Type 0 where
  pub dispute : IsDispute (account_of parts passes.items) unsettled.why
  pub same_locked_match : unsettled.inner ≡ parts.inner
  pub same_left : unsettled.left ≡ parts.left
  pub same_passes : unsettled.passes ≡ passes

-- a refusal of a shared match and passes: the dispute is about what comes back, and the passes are those handed in
pub record HasRefused (given : Given) (passes : Vec Passed Global) (unsettled : Unsettled) : Type 0 where
  pub dispute : IsDispute (record {
    given = given;
    play = unsettled.inner.play;
    left = unsettled.left.items;
    passes = passes.items;
  }) unsettled.why
  pub same_passes : unsettled.passes ≡ passes
