use Rattle.std.proofs.Common.{rules, sym, ◌∙◌}
use Rattle.bhs_deliveries.proofs.DueLemmas.{found_here, found_later}
use Rattle.bhs_deliveries.proofs.timeliness.DeliveryTerms.first_untimely.Goals as goal

pub returns-in-Some : goal.returns-in-Some
returns-in-Some c =
    sym (found_here c.args.self.now c.loop-place.dues c.loop-place.now c.loop-place.place c.args.log.now
    c.args.sites.now c.args.turns.now c.index-log-place.result c.loop-place-test.true c.requires.sites c.requires.turns
    c.index-log-place.is c.in-Some.why (search rules)) ∙ c.loop-place.invariant

pub loop-place-preserved : goal.loop-place-preserved
loop-place-preserved c =
    sym (found_later c.args.self.now c.loop-place.dues c.loop-place.now c.loop-place.place c.args.log.now
    c.args.sites.now c.args.turns.now c.index-log-place.result c.loop-place-test.true c.requires.sites c.requires.turns
    c.index-log-place.is c.index-sites-place.result c.note.new.dues c.turn_behind-now.result c.index-sites-place.is
    (search rules) (search rules) (search rules))
    ∙ c.loop-place.invariant
