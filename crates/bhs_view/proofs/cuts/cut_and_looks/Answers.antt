use Rattle.std.proofs.Common.{◌≡◌, ◌≤◌, List, length, true, sym, ap, ◌∙◌, subst}
use Rattle.std.specs.Prelude.{IfOk}
use Rattle.std.proofs.lemmas.List.{length-set}
use Rattle.bhs_net.specs.Network.{nodes_of}
use Rattle.bhs_model.specs.declared.marks.Kept.{Kept}
use Rattle.bhs_model.specs.declared.setups.Setup.{Setup}
use Rattle.bhs_model.specs.Cuts.{Footprint, cut}
use Rattle.bhs_view.specs.Places.{places_of}
use Rattle.bhs_view.specs.Walks.{Needed, footprints_at}
use Rattle.bhs_view.proofs.CutLemmas.{known, stranger, length_none, range_there}
use Rattle.bhs_view.proofs.cuts.cut_and_looks.Goals as goal

pub returns-then-agent-setup-clause-cut : goal.returns-then-agent-setup-clause-cut
returns-then-agent-setup-clause-cut c =
    c.new.ensures.items ∙ sym (stranger c.args.sealed.now _ c.args.agent (known _ _ _ _ _ c.read.ensures)
    (subst (λ (setup : Setup). setup.agents ≤ c.args.agent) c.read.ensures.setup c.if-agent-setup.true))

pub walk_back-requires-clause-sites : goal.walk_back-requires-clause-sites
walk_back-requires-clause-sites c =
    c.read.ensures.count ∙ ap (λ (log : List Kept). length log) (sym c.read.ensures.log)

pub walk_back-requires-clause-range : goal.walk_back-requires-clause-range
walk_back-requires-clause-range c =
    range_there _ _ _ _ _ _
    (ap (λ (needed : Needed). length needed.agents) c.add_agent.ensures ∙ length-set c.in_ok-needed.needed.agents
    c.args.agent true
    ∙ ap (λ (needed : Needed). length needed.agents) c.in_ok-needed.ensures
    ∙ length_none c.read.result.setup.now.agents
    ∙ ap (λ (setup : Setup). setup.agents) c.read.ensures.setup)
    (ap (λ (needed : Needed). length needed.nodes) c.add_agent.ensures
    ∙ ap (λ (needed : Needed). length needed.nodes) c.in_ok-needed.ensures ∙ length_none c.nodes-nodes.result
    ∙ c.nodes-nodes.ensures.count ∙ ap nodes_of c.read.ensures.net)
    (ap (λ (log : List Kept). footprints_at log c.read.result.sites.now) c.read.ensures.log)
    (known _ _ _ _ _ c.read.ensures).range

pub returns-clause-cut : goal.returns-clause-cut
returns-clause-cut c =
    subst (λ (all : List Footprint). IfOk c.walk_back.result
    (λ found. found.0.items ≡ places_of (cut c.args.agent all)))
    (ap (λ (log : List Kept). footprints_at log c.read.result.sites.now) c.read.ensures.log
    ∙ (known _ _ _ _ _ c.read.ensures).footprints)
    c.walk_back.ensures.cut
