use Rattle.std.proofs.Common.{◌≡◌, ◌⊎◌, inl, inr, sym, subst, ◌∙◌, ℕ}
use Rattle.bhs_stream.specs.Streams.{known_takes}
use Rattle.bhs_cli.specs.Fault.{IsOfFault}
use Rattle.bhs_cli.specs.declared.reporting.statuses.TheConstants.{DONE}
use Rattle.bhs_cli_serve.specs.Contests.{HasReplay, all_filed, unfiled_one}
use Rattle.bhs_cli.proofs.FilingLemmas.{one_more, no_more, both_done, is_either}
use Rattle.bhs_cli_serve.proofs.results.write_settled.Goals as goal

pub loop-number-preserved : goal.loop-number-preserved
loop-number-preserved g c =
    let told : ℕ → Type 0 = λ code. (code ≡ DONE) ⊎ IsOfFault code in
    record {
      status = subst told (sym c.first_status-status.ensures)
          (elim (is_either c.loop-number.status c.write_one-code.result) [
            | inl is ↦ subst told (sym is) c.loop-number.invariant.status
            | inr is ↦ subst told (sym is) c.write_one-code.ensures.status
          ]);
      filed = λ done others.
          let both = both_done c.loop-number.status c.write_one-code.result
          (sym c.first_status-status.ensures ∙ done) in
          c.loop-number.invariant.filed both.0
          (one_more (HasReplay (known_takes g.F.File.Write.contents) c.args.schedule.now) c.args.settled.now
          c.loop-number.number c.index-settled-number.result c.loop-number-test.true c.index-settled-number.is
          (c.write_one-code.ensures.filed both.1) others);
    }

pub returns : goal.returns
returns g c = elim c.loop-number.invariant.status [
  | inl is ↦ all_filed is (c.loop-number.invariant.filed is
      (no_more (HasReplay (known_takes g.F.File.Write.contents) c.args.schedule.now) c.args.settled.now
      c.loop-number.number c.loop-number-test.false))
  | inr (fault, is) ↦ unfiled_one fault is
]
