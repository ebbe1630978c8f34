use Rattle.std.proofs.Common.{◌≡◌, ◌⊎◌, ◌≤◌, inl, inr, sym, subst, ◌∙◌, ℕ, length, lt_of_lt_of_le, rules}
use Rattle.bhs_stream.specs.Streams.{known_takes}
use Rattle.bhs_cli.specs.Fault.{IsOfFault}
use Rattle.bhs_cli_results.specs.Recovery.{IsSaved, all_saved, unsaved_one}
use Rattle.bhs_cli.specs.declared.reporting.statuses.TheConstants.{DONE}
use Rattle.bhs_cli.proofs.FilingLemmas.{below_next, both_done, is_either}
use Rattle.bhs_cli_results.proofs.recover.save_matches.Goals as goal

pub loop-number-preserved : goal.loop-number-preserved
loop-number-preserved g c =
    let told : ℕ → Type 0 = λ code. (code ≡ DONE) ⊎ IsOfFault code in
    record {
      status = subst told (sym c.first_status-status.ensures)
          (elim (is_either c.loop-number.status c.save_match-code.result) [
            | inl is ↦ subst told (sym is) c.loop-number.invariant.status
            | inr is ↦ subst told (sym is) c.save_match-code.ensures.status
          ]);
      saved = λ done.
          let both = both_done c.loop-number.status c.save_match-code.result
          (sym c.first_status-status.ensures ∙ done) in
          below_next (IsSaved (known_takes g.F.File.Write.contents) c.args.lineup.now) c.loop-number.number
          (c.loop-number.invariant.saved both.0) (c.save_match-code.ensures.saved both.1);
    }

pub returns : goal.returns
returns g c =
    let all : length c.args.lineup.now.ready.items ≤ c.loop-number.number = search rules in
    elim c.loop-number.invariant.status [
      | inl is ↦ all_saved is (λ number lt. c.loop-number.invariant.saved is number (lt_of_lt_of_le lt all))
      | inr (fault, is) ↦ unsaved_one fault is
    ]
