use Rattle.std.proofs.Common.{◌∙◌, ap, sym, true≢false, slice_index_or, [], arith}
use Rattle.std.proofs.lemmas.List.{get_or_default}
use Rattle.std.specs.Prelude.{is_some}
use Rattle.bhs_files.proofs.NamesLemmas.{has_name}
use Rattle.bhs_tournament.proofs.PlaceLemmas.{place_named}
use Rattle.bhs_tournament.proofs.assembly.network_of.Goals as goal

pub unreachable-requires : goal.unreachable-requires
unreachable-requires c = true≢false (sym c.requires.among ∙ sym (has_name c.args.names.now.keys c.args.name)
    ∙ sym c.get_index_of.ensures.found ∙ ap is_some c.in-None.is)

pub returns : goal.returns
returns c =
    let place = place_named c.args.names.now.keys c.args.name.now c.in-Some.place c.in-Some.ensures.index in
    c.index-networks-place.is ∙ get_or_default c.args.networks.now c.in-Some.place _ []
    (omega (arith, c.in-Some.ensures.within, c.requires.all))
    ∙ ap (λ i. slice_index_or c.args.networks.now i []) place
