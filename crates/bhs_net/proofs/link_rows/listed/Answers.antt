use Rattle.std.proofs.Common.{◌<◌, inl, ⊎_elim, map, refl, subst, arith}
use Rattle.std.proofs.lemmas.Result.{err_from_is_err_and}
use Rattle.bhs_net.specs.declared.faults.NetFault.{NetFault}
use Rattle.bhs_net.specs.Faults.{place_of}
use Rattle.bhs_net.specs.Network.{Network, degree_of}
use Rattle.bhs_net.proofs.Order.{NoneBelow-one, NoneBelow-more, Refuses-from_least, Refuses-from_first}
use Rattle.bhs_net.proofs.Listed.{passes_by, lists, none_below_two, none_below_six, IsGap-from_beyond}
use Rattle.bhs_net.proofs.Listed.{IsBeyond-from_gap}
use Rattle.bhs_net.proofs.link_rows.listed.Goals as goal

pub returns-in_err-check_nodes-clause-err : goal.returns-in_err-check_nodes-clause-err
returns-in_err-check_nodes-clause-err c =
    let p = err_from_is_err_and c.from_residual.result c.from_residual.ensures.1 in
    let told = c.in_err-check_nodes.ensures.err in
    rw (p.1, p.2) (Refuses-from_first c.args.nodes c.args.links.now 1 0 c.in_err-check_nodes.field-0.0 told.0 refl refl
    (NoneBelow-one c.args.nodes c.args.links.now) told.1 (λ early lt. absurd (omega arith)))

pub returns-in_err-check_ends-clause-err : goal.returns-in_err-check_ends-clause-err
returns-in_err-check_ends-clause-err c =
    let p = err_from_is_err_and c.from_residual-in_err-check_ends.result c.from_residual-in_err-check_ends.ensures.1 in
    rw (p.1, p.2) (Refuses-from_least c.args.nodes c.args.links.now 2 c.in_err-check_ends.field-0.0
    (λ _. refl) (λ _. refl)
    (none_below_two c.args.nodes c.args.links.now c.in_ok-check_nodes.ensures.ok)
    c.in_err-check_ends.ensures.err)

pub returns-in_err-check_loops-clause-err : goal.returns-in_err-check_loops-clause-err
returns-in_err-check_loops-clause-err c =
    let p = err_from_is_err_and c.from_residual-in_err-check_loops.result
    c.from_residual-in_err-check_loops.ensures.1 in
    let nodes = c.args.nodes in let links = c.args.links.now in
    rw (p.1, p.2) (Refuses-from_least nodes links 3 c.in_err-check_loops.field-0.0 (λ _. refl) (λ _. refl)
    (NoneBelow-more nodes links 2 (none_below_two nodes links c.in_ok-check_nodes.ensures.ok)
    c.in_ok-check_ends.ensures.ok)
    c.in_err-check_loops.ensures.err)

pub returns-in_err-check_doubles-clause-err : goal.returns-in_err-check_doubles-clause-err
returns-in_err-check_doubles-clause-err c =
    let p = err_from_is_err_and c.from_residual-in_err-check_doubles.result
    c.from_residual-in_err-check_doubles.ensures.1 in
    let nodes = c.args.nodes in let links = c.args.links.now in
    let none = NoneBelow-more nodes links 3 (NoneBelow-more nodes links 2
    (none_below_two nodes links c.in_ok-check_nodes.ensures.ok) c.in_ok-check_ends.ensures.ok)
    c.in_ok-check_loops.ensures.ok in
    rw (p.1, p.2) (⊎_elim
    (λ memory. inl memory)
    (λ least. Refuses-from_least nodes links 4 c.in_err-check_doubles.field-0.0 (λ _. refl) (λ _. refl) none least)
    c.in_err-check_doubles.ensures.err)

pub returns-in_err-far_ends-clause-err : goal.returns-in_err-far_ends-clause-err
returns-in_err-far_ends-clause-err c =
    let p = err_from_is_err_and c.from_residual-in_err-far_ends.result c.from_residual-in_err-far_ends.ensures.1 in
    let nodes = c.args.nodes in let links = c.args.links.now in
    let none = NoneBelow-more nodes links 4 (NoneBelow-more nodes links 3
    (NoneBelow-more nodes links 2 (none_below_two nodes links c.in_ok-check_nodes.ensures.ok)
    c.in_ok-check_ends.ensures.ok) c.in_ok-check_loops.ensures.ok) c.in_ok-check_doubles.ensures.ok in
    rw (p.1, p.2) (⊎_elim
    (λ memory. inl memory)
    (λ least. Refuses-from_least nodes links 5 c.in_err-far_ends.field-0.0 (λ _. refl) (λ _. refl) none least)
    c.in_err-far_ends.ensures.err)

pub returns-in_err-check_gaps-clause-err : goal.returns-in_err-check_gaps-clause-err
returns-in_err-check_gaps-clause-err c =
    let p = err_from_is_err_and c.from_residual-in_err-check_gaps.result c.from_residual-in_err-check_gaps.ensures.1 in
    let nodes = c.args.nodes in let links = c.args.links.now in
    let net : Network = map (λ row. row.items) c.in_ok-rows.rows.items in
    let passes = passes_by nodes links c.in_ok-far_ends.far_ends net c.in_ok-check_nodes.ensures.ok
    c.in_ok-check_ends.ensures.ok c.in_ok-check_loops.ensures.ok c.in_ok-check_doubles.ensures.ok
    c.in_ok-far_ends.ensures.once c.in_ok-far_ends.ensures.map c.in_ok-rows.ensures in
    let fault = c.in_err-check_gaps.field-0.0 in
    let told = rw c.deref.ensures.value at c.in_err-check_gaps.ensures.err in
    let short : degree_of net (place_of fault) < 65536 =
    rw c.deref.ensures.value at c.in_err-check_gaps.ensures.short in
    let short' : degree_of net told.0 < 65536 =
    subst (λ (f : NetFault). degree_of net (place_of f) < 65536) told.1 short in
    rw (p.1, p.2) (Refuses-from_least nodes links 6 fault (λ _. refl) (λ _. refl)
    (none_below_six nodes links c.in_ok-far_ends.far_ends net passes) (
      told.0,
      told.1,
      (
        IsGap-from_beyond nodes links c.in_ok-far_ends.far_ends net passes told.0 short' told.2.0,
        λ early lt gap. told.2.1 early lt (IsBeyond-from_gap nodes links c.in_ok-far_ends.far_ends net
            passes early gap),
      ),
    ))

pub returns-clause-ok : goal.returns-clause-ok
returns-clause-ok c =
    let nodes = c.args.nodes in let links = c.args.links.now in
    let net : Network = map (λ row. row.items) c.in_ok-rows.rows.items in
    let passes = passes_by nodes links c.in_ok-far_ends.far_ends net c.in_ok-check_nodes.ensures.ok
    c.in_ok-check_ends.ensures.ok c.in_ok-check_loops.ensures.ok c.in_ok-check_doubles.ensures.ok
    c.in_ok-far_ends.ensures.once c.in_ok-far_ends.ensures.map c.in_ok-rows.ensures in
    lists nodes links c.in_ok-far_ends.far_ends net passes (rw c.deref.ensures.value at c.in_ok-check_gaps.ensures.ok)
