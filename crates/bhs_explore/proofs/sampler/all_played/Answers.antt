use Rattle.std.proofs.Common.{◌∙◌}
use Rattle.bhs_explore.specs.Notes.{notes_in}
use Rattle.bhs_explore.proofs.NotesLemmas.{learns_on}
use Rattle.bhs_explore.proofs.sampler.all_played.Goals as goal

pub loop-number-preserved : goal.loop-number-preserved
loop-number-preserved g c = record {
  net = c.in_ok-is_over.ensures.same.0 ∙ c.loop-number.invariant.net;
  setup = c.in_ok-is_over.ensures.same.1 ∙ c.loop-number.invariant.setup;
  held = c.in_ok-is_over.ensures.held.0 ∙ c.loop-number.invariant.held;
  wakeups = c.in_ok-is_over.ensures.held.1 ∙ c.loop-number.invariant.wakeups;
  learns = learns_on g.T.Team.answers c.args.team.now c.loop-number.team c.played.new.team
      (notes_in c.args.search.now.graph) (notes_in c.loop-number.search.graph) (notes_in c.played.new.search.graph)
      c.loop-number.invariant.learns c.in_ok-is_over.ensures.learns;
}

pub returns-then-is_over-clause-learns : goal.returns-then-is_over-clause-learns
returns-then-is_over-clause-learns g c =
    learns_on g.T.Team.answers c.args.team.now c.loop-number.team c.played.new.team (notes_in c.args.search.now.graph)
    (notes_in c.loop-number.search.graph) (notes_in c.played.new.search.graph) c.loop-number.invariant.learns
    c.in_ok-is_over.ensures.learns
