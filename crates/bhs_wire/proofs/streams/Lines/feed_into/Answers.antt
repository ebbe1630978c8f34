use Rattle.std.proofs.Common.{List, ◌++◌, map, sym, ap, ◌∙◌, append-nil, append_assoc}
use Rattle.bhs_wire.specs.Lines.{Line, seen, lines, as_held, found_in, left_by, ended_by}
use Rattle.bhs_wire.proofs.StreamLaws.{found_in-flat, hold_left, found_first, left_last, bytes_of}
use Rattle.bhs_wire.proofs.streams.Lines.feed_into.Goals as goal

pub returns-in_default-clause-found : goal.returns-in_default-clause-found
returns-in_default-clause-found c =
    let before = map seen c.args.found.now.items in
    sym (ap (λ (more : List Line). before ++ more) (found_in-flat c.args.self.now c.args.piece.now c.in_default.ensures)
    ∙ append-nil before)

pub returns-in_default-clause-left : goal.returns-in_default-clause-left
returns-in_default-clause-left c =
    c.in_ok-hold.ensures.ok
    ∙ (hold_left c.self.inside.held c.args.piece.now c.self.invariant c.in_default.ensures
    ∙ ap (λ held. left_by held c.args.piece.now) c.self.view_is)

pub returns-clause-found : goal.returns-clause-found
returns-clause-found c =
    let before = map seen c.args.found.now.items in
    let held = c.self.inside.held in
    c.in_ok-rest.ensures.found
    ∙ (ap (λ found. found ++ lines c.in-Some.more.now) c.in_ok-push_first.ensures.found
    ∙ (append_assoc before (ended_by (bytes_of held) c.in-Some.end.now) (lines c.in-Some.more.now)
    ∙ ap (λ (more : List Line). before ++ more)
    (found_first held c.args.piece.now c.in-Some.end.now c.in-Some.more.now c.self.invariant c.in-Some.ensures.0
    c.in-Some.ensures.1
    ∙ ap (λ old. found_in old c.args.piece.now) c.self.view_is)))

pub returns-clause-left : goal.returns-clause-left
returns-clause-left c =
    c.in_ok-self-inside.ensures.held
    ∙ (ap as_held c.in_ok-rest.ensures.rest ∙ left_last c.args.self.now c.args.piece.now
    c.in-Some.end.now c.in-Some.more.now c.in-Some.ensures.0)
