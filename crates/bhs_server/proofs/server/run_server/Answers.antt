use Rattle.std.proofs.Common.{◌∙◌, ap, subst, map, List}
use Rattle.rand_chacha.specs.ChaCha.{ChaCha}
use Rattle.bhs_server.specs.declared.sessions.Session.{Session}
use Rattle.bhs_server.specs.Settling.{HaveFared, at_start}
use Rattle.bhs_server.proofs.SealLemmas.{all_later}
use Rattle.bhs_server.proofs.server.run_server.Goals as goal

pub returns-clause-settled : goal.returns-clause-settled
returns-clause-settled g c =
    all_later c.args.contest.shared_matches.items c.args.contest.dealers.items c.in_ok-settle_all.field-0.items
    (subst (λ (dealers : List ChaCha). HaveFared c.args.contest.shared_matches.items dealers
    c.in_ok-settle_all.field-0.items)
    (c.deref-4.ensures.value ∙ c.in_ok-copies.ensures ∙ ap (map at_start) c.deref.ensures.value)
    c.in_ok-settle_all.ensures.fared)

pub returns-clause-ended : goal.returns-clause-ended
returns-clause-ended g c = record {
  sessions = c.in_ok-sessions.sessions.items;
  each = cc (c.in_ok-ended.ensures);
  settled_by = c.in_ok-settle_all.ensures.passes;
}
