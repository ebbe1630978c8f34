-- A network with a cycle through its first nodes: what is left of the cycle without any one node is a path.
use Rattle.std.proofs.Common.{ℕ, zero, suc, ◌+◌, ◌-◌, ◌<◌, ◌≤◌, ◌≡◌, sym, subst, inl, inr, arith}
use Rattle.std.specs.Prelude.{◌≢◌}
use Rattle.std.proofs.lemmas.Bool.{cases_lt}
use Rattle.std.proofs.lemmas.Bool.Decides.{eqb_tells}
use Rattle.bhs_net.specs.Network.{Network, Leads}
use Rattle.bhs_net.specs.Paths.{IsPath, Without}
use Rattle.bhs_net.proofs.Walks.{IsPath-none, IsPath-more, IsPath-append}

-- links lead from each of the first n nodes to the next one and back, and from node 0 to the last one
pub record IsCycle (net : Network) (n : ℕ) : Type 0 where
  pub three : 3 ≤ n
  pub onward : (node : ℕ) → node + 1 < n → Leads net node (node + 1)
  pub back : (node : ℕ) → node + 1 < n → Leads net (node + 1) node
  pub around : Leads net 0 (n - 1)

-- A node of the cycle with paths to all others that avoid the cut.
pub record IsStart (net : Network) (n cut : ℕ) : Type 0 where
  pub start : ℕ
  pub reaches : (node : ℕ) → node < n → node ≢ cut → IsPath (Without cut (Leads net)) start node

module _ (net : Network) (n : ℕ) (is : IsCycle net n) (cut : ℕ) where
  abbrev Step : ℕ → ℕ → Type 0
  Step = Without cut (Leads net)

  -- the nodes before the cut, reached from node 0 upward
  onward : (node : ℕ) → node < cut → node < n → IsPath Step 0 node
  onward zero before below = IsPath-none Step 0
  onward (suc node) before below =
      let same : node + 1 ≡ suc node = omega arith in
      IsPath-more Step 0 node (suc node) (onward node (omega (arith, before)) (omega (arith, below))) (
        subst (Leads net node) same (is.onward node (omega (arith, below))),
        (λ h. omega (arith, h, before)),
        (λ h. omega (arith, h, before)),
      )

  -- the nodes after the cut, reached from the last node downward
  backward : (count node : ℕ) → node + count + 1 ≡ n → cut < node → IsPath Step (n - 1) node
  backward zero node is_last after =
      subst (IsPath Step (n - 1)) (let same : n - 1 ≡ node = omega (arith, is_last) in same)
      (IsPath-none Step (n - 1))
  backward (suc count) node is_there after =
      IsPath-more Step (n - 1) (node + 1) node
      (backward count (node + 1) (omega (arith, is_there)) (omega (arith, after)))
      (is.back node (omega (arith, is_there)), (λ h. omega (arith, h, after)), (λ h. omega (arith, h, after)))

  path_around : cut ≢ 0 → (node : ℕ) → cut < node → node < n → IsPath Step (n - 1) node → IsPath Step 0 node
  path_around apart node after below path =
      IsPath-append Step 0 (n - 1) node
      (IsPath-more Step 0 0 (n - 1) (IsPath-none Step 0)
      (is.around, (λ h. apart (sym h)), (λ h. omega (arith, h, after, below)))) path

  pub some_start : IsStart net n cut
  some_start = elim (eqb_tells cut 0) [
    | inl h ↦ record {
      start = n - 1;
      reaches = λ node below off.
          let first : cut ≡ 0 = h.1 in
          let after : cut < node = omega (arith, first, off) in
          backward (n - 1 - node) node (omega (arith, below)) after;
    }
    | inr h ↦ record {
      start = 0;
      reaches = λ node below off. elim (cases_lt node cut) [
        | inl before ↦ onward node before below
        | inr least ↦
            let after : cut < node = omega (arith, least, off) in
            path_around h.1 node after below (backward (n - 1 - node) node (omega (arith, below)) after)
      ];
    }
  ]
