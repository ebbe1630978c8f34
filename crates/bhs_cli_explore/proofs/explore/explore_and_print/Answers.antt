use Rattle.std.proofs.Common.{◌∙◌, ap, subst, ℕ, List}
use Rattle.bhs_stream.specs.Sending.{PutsAll}
use Rattle.bhs_cli_explore.specs.Discoveries.{found_status}
use Rattle.bhs_cli_explore.proofs.explore.explore_and_print.Goals as goal

pub returns : goal.returns
returns g c = record {
  found = c.in_ok-found.found;
  is_found = c.in_ok-found.ensures;
  told = c.status_of.ensures ∙ ap found_status c.found_of.ensures;
  there = c.discovered.new.writer;
  printed = record {
    held = c.send.new.writer;
    written = subst (λ (bytes : List ℕ). PutsAll g.W.Output.takes c.discovered.new.writer bytes c.send.new.writer)
        (c.as_bytes.ensures.value ∙ c.in_ok-text.ensures) c.in_ok-send.ensures.ok;
    flushed = c.in_ok-finish.ensures.ok;
  };
}
