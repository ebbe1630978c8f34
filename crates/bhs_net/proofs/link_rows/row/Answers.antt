use Rattle.std.proofs.Common.{inl, arith, ap, ◌∙◌, sym}
use Rattle.std.specs.BTreeMap.{get}
use Rattle.bhs_net.specs.Listing.{end_cmp}
use Rattle.bhs_net.proofs.link_rows.row.Goals as goal

pub returns-in-None : goal.returns-in-None
returns-in-None c = record {
  ports = λ port h. c.loop-port.invariant.ports port (let len = c.loop-port.invariant.len in omega arith);
  stops = inl (ap (λ k. get end_cmp c.args.far_ends.now (c.args.node, k)) c.loop-port.invariant.len
      ∙ sym c.in-None.ensures.value);
}
