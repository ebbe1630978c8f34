use Rattle.std.proofs.Common.{◌≡◌, ℕ, ◌<◌, Some}
use Rattle.bhs_net.specs.Links.{near_end, far_end, link_at}
use Rattle.bhs_net.specs.Filling.{index_of, place_at}
use Rattle.bhs_net.proofs.fast_rows.are_indexed.Given as goal

abbrev pub invariant-loop-place : goal.invariant-loop-place
invariant-loop-place l = (early : ℕ) → early < l.place
    → (place_at (index_of l.index) (near_end (link_at l.links early)) ≡ Some early)
    × (place_at (index_of l.index) (far_end (link_at l.links early)) ≡ Some early)
