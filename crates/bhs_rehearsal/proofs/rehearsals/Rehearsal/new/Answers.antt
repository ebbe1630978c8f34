use Rattle.std.proofs.Common.{ℕ, Option, List, [], length, replicate, sym, ap, ◌∙◌, subst, arith, rules}
use Rattle.std.specs.List.{All}
use Rattle.std.proofs.lemmas.List.{length-replicate}
use Rattle.bhs_rehearsal.specs.Connections.{Connection, unfed}
use Rattle.bhs_rehearsal.specs.Rehearsing.{IsSeated}
use Rattle.bhs_rehearsal.specs.Holders.{AreHeld}
use Rattle.bhs_rehearsal.proofs.HolderLemmas.{held-first, none_seated}
use Rattle.bhs_rehearsal.proofs.rehearsals.Rehearsal.new.Goals as goal

pub invariant_of-result : goal.invariant_of-result
invariant_of-result c =
    let games = length c.args.lineup.ready.items in
    let connections = c.in_ok-connections.ensures in
    let holders = c.in_ok-holders.ensures in (
      omega (arith, ap (λ (all : List Connection). length all) connections, length-replicate c.args.conns unfed),
      subst (λ (all : List Connection). All (λ connection. IsSeated games connection.seat) all) (sym connections)
          (none_seated games c.args.conns),
      ap (λ (rows : List (List (Option ℕ))). length rows) holders ∙ length-replicate c.len.result []
          ∙ sym (search rules),
      subst (λ (rows : List (List (Option ℕ))). AreHeld rows c.in_ok-connections.connections.items) (sym holders)
          (subst (λ (all : List Connection). AreHeld (replicate c.len.result []) all) (sym connections)
          (held-first c.len.result c.args.conns)),
    )
