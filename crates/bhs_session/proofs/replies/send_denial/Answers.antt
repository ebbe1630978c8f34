use Rattle.std.proofs.Common.{◌≡◌, ◌∙◌, ◌∷◌, []}
use Rattle.std.proofs.lemmas.Result.{on_ok_weaker, on_err_weaker, err_from_is_err_and}
use Rattle.bhs_stream.proofs.PutsLemmas.{PutsAll-trans, PutsPart-front, PutsPart-trans}
use Rattle.bhs_wire.specs.Denial.{denial_line}
use Rattle.bhs_session.proofs.replies.send_denial.Goals as goal

pub returns-in_err-send-clause-err : goal.returns-in_err-send-clause-err
returns-in_err-send-clause-err g c =
    let line : c.as_bytes.result.now ≡ denial_line c.args.denial = c.as_bytes.ensures.value ∙ c.denial_of.ensures in
    let part = rw line at c.in_err-send.ensures.err in
    let e = err_from_is_err_and c.from_residual.result c.from_residual.ensures.1 in
    rw e.1 (PutsPart-front g.W.Output.takes (denial_line c.args.denial) (10 ∷ []) _ _ part)

pub returns-clause-ok : goal.returns-clause-ok
returns-clause-ok g c =
    let line : c.as_bytes.result.now ≡ denial_line c.args.denial = c.as_bytes.ensures.value ∙ c.denial_of.ensures in
    let sent = rw line at c.in_ok-send.ensures.ok in
    on_ok_weaker c.send-2.result (λ more. PutsAll-trans g.W.Output.takes (denial_line c.args.denial) (10 ∷ []) _ _ _
    sent more) c.send-2.ensures.ok

pub returns-clause-err : goal.returns-clause-err
returns-clause-err g c =
    let line : c.as_bytes.result.now ≡ denial_line c.args.denial = c.as_bytes.ensures.value ∙ c.denial_of.ensures in
    let sent = rw line at c.in_ok-send.ensures.ok in
    on_err_weaker c.send-2.result (λ part. PutsPart-trans g.W.Output.takes (denial_line c.args.denial) (10 ∷ []) _ _ _
    sent part) c.send-2.ensures.err
