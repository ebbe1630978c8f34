-- Contests: as many matches end as there were, why one has no table, and the line that says that the program listens.
use Rattle.std.proofs.Common.{◌≡◌, refl, sym, subst, ◌∙◌, arith, ℕ, ◌+◌, List, [], ◌∷◌, length, map, Bool, true, IfOk}
use Rattle.std.proofs.Common.{OnErr, Result, Ok, Err, drop}
use Rattle.rand_chacha.specs.ChaCha.{ChaCha}
use Rattle.bhs_time.specs.declared.kinds.ScheduleKind.{ScheduleKind}
use Rattle.bhs_setups.specs.declared.lineups.Ready.{Ready}
use Rattle.bhs_setups.specs.declared.lineups.Lineup.{Lineup}
use Rattle.bhs_shared_match.specs.declared.settlement.Settlement.{Settlement}
use Rattle.bhs_server.specs.declared.settlement.Refused.{Refused}
use Rattle.bhs_server.specs.Settling.{HaveFared}
use Rattle.bhs_contest.specs.Hosting.{givens_of}
use Rattle.bhs_stream.specs.Streams.{WriteAnswer}
use Rattle.bhs_cli.specs.Showing.{Prints, all, part, held_back, Shows}
use Rattle.bhs_cli.specs.Summary.{IsAssembled}
use Rattle.bhs_cli.specs.declared.reporting.faults.Fault.TheVariants.{Write, Memory}
use Rattle.bhs_cli.specs.declared.reporting.statuses.TheConstants.{DONE, NO_MEMORY}
use Rattle.bhs_cli.proofs.ReportLemmas.{not_done}
use Rattle.bhs_cli_serve.specs.Contests.{Serves, goes_unheard, refuses_contest, listening}

pub as_many : (schedule : ScheduleKind) (place : ℕ) (matches : List Ready) (dealers : List ChaCha)
    (settled : List (Result Settlement Refused)) → HaveFared (givens_of schedule place matches) dealers settled →
    length (map (λ ready. ready.team) matches) ≡ length settled
as_many schedule place [] dealers [] fared = refl
as_many schedule place [] dealers (one ∷ settled) fared = absurd fared
as_many schedule place (ready ∷ matches) dealers [] fared = absurd fared
as_many schedule place (ready ∷ matches) dealers (one ∷ settled) (first, others) =
    omega (arith, as_many schedule (place + 1) matches (drop 1 dealers) settled others)

-- the line that says that the program listens
module _ {O : Type 0} (takes : O → List ℕ → WriteAnswer → O → Type 0) (flushes : O → Bool → O → Type 0) (port : ℕ)
    (output output' : O) (code : ℕ) where
  shown : (text : List ℕ) → Prints takes flushes text output output' code → code ≡ DONE
      → Shows takes flushes text true output output'
  shown text (all is shows) done = shows
  shown text (part is puts) done = absurd (not_done Write (sym is ∙ done))
  shown text (held_back is shows) done = absurd (not_done Write (sym is ∙ done))

  pub heard : {S E : Type 0} (bytes : S → List ℕ) (made : Result S E) → IfOk made (λ text. bytes text ≡ listening port)
      → IfOk made (λ text. Prints takes flushes (bytes text) output output' code)
      → OnErr made ((code ≡ NO_MEMORY) × (output' ≡ output)) → code ≡ DONE
      → Shows takes flushes (listening port) true output output'
  heard bytes (Ok text) is printed lacks done =
      subst (λ (line : List ℕ). Shows takes flushes line true output output') is (shown (bytes text) printed done)
  heard bytes (Err e) is printed lacks done = absurd (not_done Memory (sym lacks.0 ∙ done))

  unshown : {P : Type 0} (files : P → List ℕ → WriteAnswer → P → Type 0) (lineup : Lineup) → IsAssembled lineup
      → (code ≡ DONE → ⊥) → Prints takes flushes (listening port) output output' code
      → Serves files takes flushes port output output' code
  unshown files lineup made undone (all is shows) = absurd (undone is)
  unshown files lineup made undone (part is puts) = goes_unheard lineup made is (part is puts)
  unshown files lineup made undone (held_back is shows) = goes_unheard lineup made is (held_back is shows)

  pub unheard : {P S E : Type 0} (files : P → List ℕ → WriteAnswer → P → Type 0) (bytes : S → List ℕ) (lineup : Lineup)
      → IsAssembled lineup → (code ≡ DONE → ⊥) → (made : Result S E) → IfOk made (λ text. bytes text ≡ listening port)
      → IfOk made (λ text. Prints takes flushes (bytes text) output output' code)
      → OnErr made ((code ≡ NO_MEMORY) × (output' ≡ output)) → Serves files takes flushes port output output' code
  unheard files bytes lineup made undone (Ok text) is printed lacks =
      unshown files lineup made undone
      (subst (λ (line : List ℕ). Prints takes flushes line output output' code) is printed)
  unheard files bytes lineup made undone (Err e) is printed lacks = refuses_contest Memory lacks.0 lacks.1
