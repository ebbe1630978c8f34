use Rattle.std.proofs.Common.{◌≡◌, ◌≢◌, true, ◌<◌, ◌⊎◌, ℕ}
use Rattle.bhs_net.proofs.DepthFirstLemmas.{LeadsBefore}
use Rattle.bhs_net.proofs.depth_first_search.leads_on.Given as goal

abbrev pub invariant-loop-end : goal.invariant-loop-end
invariant-loop-end l =
    (l.leads_down ≡ true → (l.place ≡ 0) ⊎ LeadsBefore l.row l.places l.end-index (λ (other : ℕ). other < l.place))
    × (l.leads_up ≡ true → (l.place ≡ l.last) ⊎ LeadsBefore l.row l.places l.end-index (λ (other : ℕ). l.place < other))
    × (l.leads_around ≡ true → (l.place ≢ 0) ⊎ LeadsBefore l.row l.places l.end-index (λ (other : ℕ). other ≡ l.last))
