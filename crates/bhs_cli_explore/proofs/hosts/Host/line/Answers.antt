use Rattle.std.proofs.Common.{refl, sym, ◌∙◌, subst}
use Rattle.bhs_cli.specs.LineStates.{IsPart}
use Rattle.bhs_cli_explore.proofs.HostLemmas.{empty_part, takes_more, takes_nothing}
use Rattle.bhs_cli_explore.proofs.hosts.Host.line.Goals as goal

pub loop-init : goal.loop-init
loop-init g c = record {
  part = subst IsPart (sym c.new-line.ensures.items) empty_part;
  takes = takes_nothing g.R.Input.gives _ _ c.new-line.result.items c.new-line.ensures.items refl refl;
  writer = refl;
}

pub loop-preserved : goal.loop-preserved
loop-preserved g c =
    let held = c.in_ok-take_held.ensures.held c.loop.invariant.part in
    let more = c.in_ok-read_more.ensures.more c.if-not-branch.false in
    record {
      part = c.take_held.ensures.part c.loop.invariant.part;
      takes = takes_more g.R.Input.gives _ c.loop.self c.take_held.new.self c.read_more.new.self c.loop.line.items
          c.take_held.new.line.items more.0 c.loop.invariant.takes c.take_held.ensures.reader
          (rw c.if-branch.false at held) more.1 more.2 more.3;
      writer = c.read_more.ensures.writer ∙ c.take_held.ensures.writer ∙ c.loop.invariant.writer;
    }
