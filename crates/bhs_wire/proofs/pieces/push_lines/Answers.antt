use Rattle.std.proofs.Common.{◌++◌, map, append_assoc, append-nil, sym, ap, ◌∙◌}
use Rattle.bhs_wire.specs.Lines.{seen, lines, rest}
use Rattle.bhs_wire.proofs.FrontLemmas.{more_on}
use Rattle.bhs_wire.proofs.StreamLaws.{lines-flat, rest-flat, lines-ended, rest-ended}
use Rattle.bhs_wire.proofs.pieces.push_lines.Goals as goal

pub loop-line-preserved : goal.loop-line-preserved
loop-line-preserved c =
    let line = c.in-Some.line.now in
    let more = c.in-Some.more.now in
    let before = map seen c.loop-line.found.items in
    let is = c.in-Some.ensures.0 in
    record {
      found = ap (λ found. found ++ lines more) c.in_ok-push_line.ensures.found
          ∙ (append_assoc before _ (lines more)
          ∙ (ap (λ next. before ++ next) (sym (ap lines is ∙ lines-ended line more c.in-Some.ensures.1))
          ∙ c.loop-line.invariant.found));
      rest = sym (ap rest is ∙ rest-ended line more) ∙ c.loop-line.invariant.rest;
      front = more_on _ _ _ c.loop-line.invariant.front c.in_ok-push_line.ensures.front;
    }

pub returns-clause-found : goal.returns-clause-found
returns-clause-found c =
    let before = map seen c.loop-line.found.items in
    sym (append-nil before) ∙ (ap (λ next. before ++ next) (sym (lines-flat c.loop-line.after.now c.in_default.ensures))
    ∙ c.loop-line.invariant.found)

pub returns-clause-rest : goal.returns-clause-rest
returns-clause-rest c = sym (rest-flat c.loop-line.after.now c.in_default.ensures) ∙ c.loop-line.invariant.rest

pub returns-in_err-push_line-clause-front : goal.returns-in_err-push_line-clause-front
returns-in_err-push_line-clause-front c = more_on _ _ _ c.loop-line.invariant.front c.push_line.ensures.front

pub returns-clause-front : goal.returns-clause-front
returns-clause-front c = c.loop-line.invariant.front
