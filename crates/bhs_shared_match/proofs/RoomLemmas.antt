-- A pass has room for the receipt of each command that is heard.
use Rattle.std.proofs.Common.{◌≡◌, ℕ, ◌+◌, ◌<◌, ◌≤◌, Bool, true, false, Some, None, length, refl, sym, ap, ◌∙◌}
use Rattle.std.proofs.Common.{arith, nat_lt, if◌then◌else◌, Result, Ok, Err, OnErr}
use Rattle.bhs_model.specs.declared.commands.Command.{Command}
use Rattle.bhs_model.specs.declared.commands.Command.TheVariants.{Enter, Look, Write, Depart, Accuse, Leave, Bad}
use Rattle.bhs_model.specs.declared.events.Event.TheVariants.{Tell}
use Rattle.bhs_world.specs.Tables.{keeps_next}
use Rattle.bhs_model.specs.Views.{Standing, Outside, Present, Away, Ended}
use Rattle.bhs_model.specs.Replying.{accepts}
use Rattle.bhs_match.specs.Matches.{Play, world_in}
use Rattle.bhs_shared_match.specs.declared.model.Tally.{Tally}
use Rattle.bhs_shared_match.specs.Tallies.{heard_count, IsLegalHistory}
use Rattle.bhs_shared_match.specs.Fitting.{Fits, AreFit}
use Rattle.bhs_shared_match.specs.Passes.{Passed}
use Rattle.bhs_shared_match.specs.LockedMatches.{LockedState, agrees, IsHeard, IsOfBoard}
use Rattle.bhs_shared_match.specs.Recording.{MayWantMemory}
use Rattle.bhs_shared_match.proofs.FitLemmas.{heard_command}
use Rattle.bhs_shared_match.proofs.TallyLemmas.{HasAgreed, has_agreed}

-- whoever is heard was heard at most once for the Enter and once for each command of the quota
few_heard : (quota : ℕ) (now : Standing) (used heard : ℕ) (command : Command)
    → accepts now (nat_lt used quota) command ≡ true → Fits quota now used heard → heard < quota + 2
few_heard quota Outside used heard command free fits = omega (arith, fits.0)
few_heard quota Present used heard command free fits = omega (arith, fits.0, fits.1)
few_heard quota Away used heard command free fits = omega (arith, fits.0, fits.1)
few_heard quota Ended used heard Enter free fits = absurd cc
few_heard quota Ended used heard Look free fits = absurd cc
few_heard quota Ended used heard (Write expect put) free fits = absurd cc
few_heard quota Ended used heard (Depart port) free fits = absurd cc
few_heard quota Ended used heard (Accuse port) free fits = absurd cc
few_heard quota Ended used heard Leave free fits = absurd cc
few_heard quota Ended used heard Bad free fits = absurd cc

-- A pass has room for every heard command's receipt.
pub room_to_hear : (play : Play) (agent : ℕ) (command : Command) → AreFit play
    → IsHeard play agent command → heard_count agent play.log < play.setup.quota + 2
room_to_hear play agent command fit is =
    few_heard play.setup.quota _ _ _ command (heard_command play agent command is).free (fit agent)

-- the pass that agrees has room for it
pub room_agreed : (inner : LockedState) (play : Play) (pass : Passed) (command : Command) → play ≡ inner.play
    → agrees inner pass ≡ true → AreFit play → IsHeard play pass.agent command → length pass.receipts < pass.quota + 2
room_agreed inner play pass command same agreed fit is =
    let has : HasAgreed inner pass = has_agreed inner pass agreed in
    let count : heard_count pass.agent play.log ≡ length pass.receipts =
    ap (λ (one : Play). heard_count pass.agent one.log) same ∙ ap (λ (tally : Tally). tally.commands) has.tally in
    let quota : pass.quota ≡ play.setup.quota = has.quota ∙ sym (ap (λ (one : Play). one.setup.quota) same) in
    let few : heard_count pass.agent play.log < play.setup.quota + 2 = room_to_hear play pass.agent command fit is in
    omega (arith, count, quota, few)

-- an event that has a place is kept
kept_placed : (b : Bool) (n place : ℕ) → Some place ≡ (if b then Some n else None) → b ≡ true
kept_placed true n place is = refl
kept_placed false n place is = absurd cc

-- Hence there is room left for a command with a place in the log.
pub room_left : (play : Play) (inside given : Passed) (command : Command) (place room : ℕ) → inside ≡ given
    → (IsHeard play given.agent command → length given.receipts < given.quota + 2)
    → Some place ≡ (if keeps_next (world_in play) play.log (Tell inside.agent command) then Some (length play.log)
    else None) → inside.quota + 2 ≤ room → length inside.receipts < room
room_left play inside given command place room same few at has =
    let heard : IsHeard play inside.agent command = kept_placed _ _ place at in
    let within : length given.receipts < given.quota + 2 =
    few (ap (λ (pass : Passed). keeps_next (world_in play) play.log (Tell pass.agent command)) (sym same) ∙ heard) in
    let quota : inside.quota ≡ given.quota = ap (λ (pass : Passed). pass.quota) same in
    let count : length inside.receipts ≡ length given.receipts = ap (λ (pass : Passed). length pass.receipts) same in
    omega (arith, within, quota, count, has)

-- ---- when memory may be wanted

pub wants : (inner given : LockedState) (pass : Passed) (command : Command) → inner ≡ given → agrees given pass ≡ true
    → IsLegalHistory inner.play inner.tallies → IsOfBoard inner.play pass.agent command → MayWantMemory pass command
wants inner given pass command same agreed legal of_board = record {
  inner = inner;
  legal = legal;
  agreed = ap (λ (one : LockedState). agrees one pass) same ∙ agreed;
  of_board = of_board;
}

pub at_err : {T E P : Type 0} (result : Result T E) → P → OnErr result P
at_err (Ok x) holds = tt
at_err (Err e) holds = holds
