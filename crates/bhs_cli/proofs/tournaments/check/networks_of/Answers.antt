use Rattle.std.proofs.Common.{ℕ, List, Bor, length, ap, arith, rules}
use Rattle.bhs_cli.proofs.SummaryLemmas.{all_read, length_of_map}
use Rattle.bhs_cli.proofs.tournaments.check.networks_of.Goals as goal

pub returns-clause-count : goal.returns-clause-count
returns-clause-count g c =
    let names = c.as_slice-name-items.result.now in
    let same = ap (λ (keys : List (Bor (List ℕ))). length keys) c.as_slice-name-items.ensures.keys in
    let seen = ap (λ (names : List (List ℕ)). length names) c.in-Ok.ensures.exact in
    let count = length_of_map (λ (name : Bor (List ℕ)). name.now) c.in-Ok.names.keys in
    omega (
      arith,
      same,
      seen,
      count,
      c.loop-name-test.false,
      c.loop-name.invariant.0,
      c.loop-name.invariant.1,
      c.loop-name.networks.ok.0,
    )

pub loop-name-preserved : goal.loop-name-preserved
loop-name-preserved g c = (
  search rules,
  search rules,
  all_read _ c.loop-name.networks.items c.push.new.self.items c.in_ok-network.network c.push.ensures.items
      c.loop-name.invariant.2 c.in_ok-network.ensures.read,
)
