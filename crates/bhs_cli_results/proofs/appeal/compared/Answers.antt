use Rattle.std.proofs.Common.{rules, ap₂, List, slice_get, ◌≡◌, ℕ, Option, None, Some}
use Rattle.std.proofs.Common.{sym, ap, ◌∙◌, subst, inl, inr, refl}
use Rattle.std.proofs.lemmas.Bool.Decides.{eqb_tells}
use Rattle.std.proofs.lemmas.Bool.{cond-true, cond-false}
use Rattle.std.proofs.lemmas.Option.{slice_get_read}
use Rattle.bhs_setups.specs.declared.lineups.Ready.{Ready}
use Rattle.bhs_deliveries.specs.declared.timeliness.Untimely.{Untimely}
use Rattle.bhs_deliveries.specs.declared.timeliness.Untimely.TheVariants.{Early, LeftOut, Late}
use Rattle.bhs_cli_results.specs.Appeals.{Case, IsAstrayAt, IsHeldAt, IsWrongWith, fault_of, fault_of_late}
use Rattle.bhs_cli.specs.declared.reporting.appeal_faults.AppealFault.{AppealFault}
use Rattle.bhs_cli.specs.declared.reporting.faults.Fault.TheVariants.{Appeal}
use Rattle.bhs_cli_results.proofs.appeal.compared.Goals as goal

-- what is said of a delivery that its turn does not make is wrong with the case
late_wrong : (one : Case) (place : ℕ) (held : Option ℕ) → IsAstrayAt one place Late
    → ((first : ℕ) → held ≡ Some first → IsHeldAt one first) → IsWrongWith one (Appeal (fault_of_late place held))
late_wrong one place None astray found = astray
late_wrong one place (Some other) astray found = elim (eqb_tells other place) [
  | inl h ↦ subst (λ (fault : AppealFault). IsWrongWith one (Appeal fault)) (sym (cond-true _ _ _ h.0))
      (astray, found place (ap Some h.1))
  | inr h ↦ subst (λ (fault : AppealFault). IsWrongWith one (Appeal fault)) (sym (cond-false _ _ _ h.0)) astray
]

-- what is said of the first event that belongs to no timed execution is wrong with the case
wrong_by : (one : Case) (place : ℕ) (why : Untimely) (held : Option ℕ) → IsAstrayAt one place why
    → ((first : ℕ) → held ≡ Some first → IsHeldAt one first) → IsWrongWith one (Appeal (fault_of place why held))
wrong_by one place Early held astray found = astray
wrong_by one place (LeftOut agent turn) held astray found = astray
wrong_by one place Late held astray found = late_wrong one place held astray found

-- src/appealing.rt:71:1
pub returns-clause-wrong : goal.returns-clause-wrong
returns-clause-wrong c =
    let one : Case = record {
      lineup = c.args.lineup.now;
      game = c.args.game;
      play = c.args.sealed.now;
      turns = c.args.turns.now;
    } in
    let read = rw c.in-Some.is at c.get.ensures.lookup in
    let astray : IsAstrayAt one c.in-Some-2.place c.in-Some-2.why = record {
      ready = c.in-Some.ready.now;
      same = record {
        there = ap₂ (λ (all : List Ready) (n : ℕ). slice_get all n) (sym c.deref.ensures.value) (sym c.from.ensures)
            ∙ slice_get_read c.deref.result.now _ _ c.in-Some.ready.now refl read.3.0 read.1;
        same = c.in_ok-is_same_match.ensures.0 c.if-not-branch.false;
      };
      law = c.in-Oblivious.delays;
      oblivious = c.in-Oblivious.is;
      count = search rules;
      astray = rw (c.in-Some-2.is, c.new-dealer.ensures, c.from-2.ensures) at c.in_ok-place.ensures;
    } in
    let at_held : (first : ℕ) → c.in_ok-held.held ≡ Some first → IsHeldAt one first = λ first is. record {
      ready = c.in-Some.ready.now;
      there = astray.same.there;
      found = sym c.in_ok-held.ensures ∙ is;
    } in
    subst (λ (fault : AppealFault). IsWrongWith one (Appeal fault)) (sym c.fault_of.ensures)
    (wrong_by one c.in-Some-2.place c.in-Some-2.why c.in_ok-held.held astray at_held)
