use Rattle.std.proofs.lemmas.Result.{err_from_is_err_and}
use Rattle.bhs_net.proofs.Counts.{ports_of-links}
use Rattle.bhs_net.specs.Network.{network_of}
use Rattle.bhs_net.proofs.Made.{Refuses-from_paths}
use Rattle.bhs_net.proofs.network.Net.try_new.Goals as goal

pub returns-in_err-check_paths-clause-refused : goal.returns-in_err-check_paths-clause-refused
returns-in_err-check_paths-clause-refused c =
    let p = err_from_is_err_and c.from_residual-in_err-check_paths.result
    c.from_residual-in_err-check_paths.ensures.1 in
    let told = rw c.deref.ensures.value at c.in_err-check_paths.ensures.err in
    rw (p.1, p.2) (Refuses-from_paths c.args.nodes c.args.links.now (network_of c.in_ok-rows.rows.items)
    c.in_err-check_paths.field-0.0 c.in_ok-rows.ensures.ok told)

pub invariant_of-result : goal.invariant_of-result
invariant_of-result c =
    let lists = c.in_ok-rows.ensures.ok in (
      rw c.deref.ensures.value at c.in_ok-check_paths.ensures.ok,
      ports_of-links (network_of c.in_ok-rows.rows.items)
          c.args.links.now lists.labelled lists.made_of,
    )

pub returns-clause-count : goal.returns-clause-count
returns-clause-count c =
    let lists = c.in_ok-rows.ensures.ok in
    ports_of-links (network_of c.in_ok-rows.rows.items) c.args.links.now lists.labelled lists.made_of
