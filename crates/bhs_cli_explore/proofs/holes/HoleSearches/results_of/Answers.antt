use Rattle.std.proofs.Common.{arith, Vec, Global}
use Rattle.bhs_cli_explore.specs.declared.holes.HoleResult.{HoleResult}
use Rattle.bhs_cli_explore.specs.HoleResults.{IsTold}
use Rattle.bhs_cli_explore.proofs.HoleLemmas.{results_by_place}
use Rattle.bhs_cli_explore.proofs.holes.HoleSearches.results_of.Goals as goal

pub returns : goal.returns
returns g c =
    results_by_place (IsTold c.args.self.now.search) (λ (it : HoleResult). it.hole) c.args.holes.now
    (λ (it : Vec HoleResult Global). it.items) c.map_indices.result _ _ c.map_indices.ensures.len
    c.map_indices.ensures.each (λ it many. omega (arith, many)) (λ it each i d less. (each i d less).1.met)
