use Rattle.std.proofs.Common.{◌≡◌, drop}
use Rattle.bhs_deliveries.specs.Timeliness.{untimely_from}
use Rattle.bhs_deliveries.proofs.timeliness.DeliveryTerms.first_untimely.Given as goal

abbrev pub invariant-loop-place : goal.invariant-loop-place
invariant-loop-place l =
    untimely_from l.self l.dues l.now l.place (drop l.place l.log) (drop l.place l.sites) (drop l.place l.turns)
    ≡ untimely_from l.self l.initial.dues 0 0 l.log l.sites l.turns
