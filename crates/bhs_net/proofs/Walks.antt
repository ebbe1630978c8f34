use Rattle.std.proofs.Common.{◌≢◌, ℕ, zero, suc, ◌<◌, ◌≤◌, refl, sym, ap, ◌∙◌, arith, subst}
use Rattle.bhs_net.specs.Paths.{Path, IsPath, Without}
use Rattle.bhs_net.specs.Links.{End}
use Rattle.bhs_net.specs.Network.{Network, nodes_of, degree_of, far_of, Leads, IsPortLabelled, IsConnected}
use Rattle.bhs_net.specs.Network.{AreJoinedWithout}
use Rattle.bhs_net.specs.Search.{ReachesAll, MissesSome, IsApartIn, IsCutIn}
use Rattle.bhs_net.proofs.Listed.{HasPort-node}

-- a path by steps of one kind is a path by steps of another that allows them
Path-along : (E F : ℕ → ℕ → Type 0) → ((a b : ℕ) → E a b → F a b) → (n a b : ℕ) → Path E a b n → Path F a b n
Path-along E F to zero a b p = p
Path-along E F to (suc n) a b p = (p.0, Path-along E F to n a p.0 p.1, to p.0 b p.2)

pub IsPath-along : (E F : ℕ → ℕ → Type 0) → ((a b : ℕ) → E a b → F a b) → (a b : ℕ) → IsPath E a b → IsPath F a b
IsPath-along E F to a b p = (p.0, Path-along E F to p.0 a b p.1)

pub IsPath-none : (E : ℕ → ℕ → Type 0) (a : ℕ) → IsPath E a a
IsPath-none E a = (0, refl)

pub IsPath-more : (E : ℕ → ℕ → Type 0) (a b c : ℕ) → IsPath E a b → E b c → IsPath E a c
IsPath-more E a b c p e = (suc p.0, (b, p.1, e))

-- one path after another
append : (E : ℕ → ℕ → Type 0) (a b : ℕ) → IsPath E a b → (n c : ℕ) → Path E b c n → IsPath E a c
append E a b p zero c q = subst (λ d. IsPath E a d) q p
append E a b p (suc n) c q = IsPath-more E a q.0 c (append E a b p n q.0 q.1) q.2

pub IsPath-append : (E : ℕ → ℕ → Type 0) (a b c : ℕ) → IsPath E a b → IsPath E b c → IsPath E a c
IsPath-append E a b c p q = append E a b p q.0 c q.1

-- a path backwards, where each step leads back
back : (E : ℕ → ℕ → Type 0) → ((a b : ℕ) → E a b → E b a) → (n a b : ℕ) → Path E a b n → IsPath E b a
back E turn zero a b p = subst (λ d. IsPath E d a) p (IsPath-none E a)
back E turn (suc n) a b p = IsPath-append E b p.0 a (IsPath-more E b b p.0 (IsPath-none E b) (turn p.0 b p.2))
    (back E turn n a p.0 p.1)

pub IsPath-back : (E : ℕ → ℕ → Type 0) → ((a b : ℕ) → E a b → E b a) → (a b : ℕ) → IsPath E a b → IsPath E b a
IsPath-back E turn a b p = back E turn p.0 a b p.1

-- Induction along a path: a property of the start that each step preserves holds at the end.
ends : (E : ℕ → ℕ → Type 0) (P : ℕ → Type 0) → ((a b : ℕ) → P a → E a b → P b) → (a : ℕ) → P a → (n b : ℕ)
    → Path E a b n → P b
ends E P keeps a start zero b p = subst (λ d. P d) p start
ends E P keeps a start (suc n) b p = keeps p.0 b (ends E P keeps a start n p.0 p.1) p.2

pub IsPath-ends : (E : ℕ → ℕ → Type 0) (P : ℕ → Type 0) → ((a b : ℕ) → P a → E a b → P b) → (a b : ℕ) → P a
    → IsPath E a b → P b
IsPath-ends E P keeps a b start p = ends E P keeps a start p.0 b p.1

module _ (net : Network) (labelled : IsPortLabelled net) where
  pub Leads-back : (a b : ℕ) → Leads net a b → Leads net b a
  Leads-back a b leads =
      let far = far_of net a leads.0 in
      let there : far.1 < degree_of net far.0 = labelled.within a leads.0 leads.1 in (
        far.1,
        subst (λ d. far.1 < degree_of net d) leads.2 there,
        ap (λ d. (far_of net d far.1).0) (sym leads.2)
            ∙ ap (λ (q : End). q.0) (labelled.back a leads.0 leads.1),
      )

  pub Without-back : (cut a b : ℕ) → Without cut (Leads net) a b → Without cut (Leads net) b a
  Without-back cut a b step = (Leads-back a b step.0, step.2, step.1)

  pub Leads-from : (a b : ℕ) → Leads net a b → a < nodes_of net
  Leads-from a b leads = HasPort-node net a leads.0 leads.1

  pub Leads-to : (a b : ℕ) → Leads net a b → b < nodes_of net
  Leads-to a b leads = Leads-from b a (Leads-back a b leads)

  -- paths from one node to two others join them
  pub joined : (cut start a b : ℕ) → IsPath (Without cut (Leads net)) start a → IsPath (Without cut (Leads net)) start b
      → IsPath (Without cut (Leads net)) a b
  joined cut start a b p q = IsPath-append (Without cut (Leads net)) a start b
      (IsPath-back (Without cut (Leads net)) (Without-back cut) start a p) q

  -- a path keeps off numbers without a node
  pub keeps_off : (cut : ℕ) → nodes_of net ≤ cut → (a b : ℕ) → IsPath (Leads net) a b
      → IsPath (Without cut (Leads net)) a b
  keeps_off cut h = IsPath-along (Leads net) (Without cut (Leads net)) (λ a b leads.
      let from = Leads-from a b leads in let to = Leads-to a b leads in (leads, (λ e. omega arith), (λ e. omega arith)))

pub any_path : (net : Network) (cut a b : ℕ) → IsPath (Without cut (Leads net)) a b → IsPath (Leads net) a b
any_path net cut = IsPath-along (Without cut (Leads net)) (Leads net) (λ a b step. step.0)

-- what a search from one node tells of all pairs
module _ (net : Network) (labelled : IsPortLabelled net) (start removed : ℕ) where
  pub joined_without : ReachesAll net start removed → AreJoinedWithout net removed
  joined_without all = λ a b at bt apart_a apart_b. joined net labelled removed start a b (all a at apart_a)
      (all b bt apart_b)

  pub connected : nodes_of net ≤ removed → ReachesAll net start removed → IsConnected net
  connected no_node all = λ a b at bt. any_path net removed a b
      (joined net labelled removed start a b (all a at (λ e. omega arith)) (all b bt (λ e. omega arith)))

  pub apart : nodes_of net ≤ removed → start < nodes_of net → MissesSome net start removed → IsApartIn net
  apart no_node lt missed = (
    start,
    missed.0,
    lt,
    missed.1,
    λ path. missed.3
        (keeps_off net labelled removed no_node start missed.0 path),
  )

  pub is_cut : removed < nodes_of net → start < nodes_of net → start ≢ removed → MissesSome net start removed
      → IsCutIn net removed
  is_cut node lt kept missed = (node, (start, missed.0, lt, missed.1, kept, missed.2, missed.3))

pub not_cut : (net : Network) (cut : ℕ) → AreJoinedWithout net cut → ¬ IsCutIn net cut
not_cut net cut all is = is.1.6 (all is.1.0 is.1.1 is.1.2 is.1.3 is.1.4 is.1.5)
