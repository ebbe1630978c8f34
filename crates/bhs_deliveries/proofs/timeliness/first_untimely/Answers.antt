use Rattle.std.proofs.Common.{rules, ◌≡◌, ◌<◌, sym, subst, refl, Option, ℕ}
use Rattle.std.specs.Prelude.{MatchOption}
use Rattle.bhs_time.specs.TimedLogs.{IsTimedLog}
use Rattle.bhs_match.specs.Matches.{world_in}
use Rattle.bhs_deliveries.specs.Links.{held_in}
use Rattle.bhs_deliveries.specs.Scheduling.{whole_schedule, stamps_in}
use Rattle.bhs_deliveries.specs.Timeliness.{DeliveryTerms, untimely_in, IsUntimelyAt}
use Rattle.bhs_deliveries.specs.declared.timeliness.Untimely.{Untimely}
use Rattle.bhs_deliveries.proofs.UntimelyLemmas.{found_lemma}
use Rattle.bhs_deliveries.proofs.timeliness.first_untimely.Goals as goal

pub returns : goal.returns
returns c =
    let terms : DeliveryTerms = record {
      dealer = c.args.schedule.now.dealer.now;
      law = c.args.schedule.now.delays;
      held = c.args.schedule.now.held.now;
      net = c.args.sealed.now.net;
      agents = c.args.sealed.now.setup.agents;
    } in
    let found : c.first_untimely.result ≡ untimely_in terms c.args.sealed.now c.args.turns.now = search rules in
    let some : 0 < c.args.sealed.now.setup.agents = search rules in
    subst (λ (found : Option (ℕ × Untimely)). MatchOption found
    (IsTimedLog (world_in c.args.sealed.now) (held_in terms.held)
    (whole_schedule terms.dealer terms.agents terms.law) (stamps_in c.args.sealed.now.log c.args.turns.now))
    (λ at. IsUntimelyAt (world_in c.args.sealed.now) (held_in terms.held)
    (whole_schedule terms.dealer terms.agents terms.law) (stamps_in c.args.sealed.now.log c.args.turns.now) at.0
    at.1)) (sym found)
    (found_lemma terms c.args.sealed.now c.args.turns.now refl refl c.log.ensures.kept c.requires some)
