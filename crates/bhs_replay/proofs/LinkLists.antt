-- The links of a network, listed node by node and port by port.
use Rattle.std.proofs.Common.{◌≡◌, ℕ, ◌+◌, Bool, true, false, List, [], ◌∷◌, ◌++◌, sym, ap, ◌∙◌, append_assoc}
use Rattle.std.specs.Prelude.{map, filter}
use Rattle.std.specs.List.{flat_map, range_with_len}
use Rattle.std.proofs.lemmas.List.{map-append}
use Rattle.bhs_net.specs.declared.links.Link.{Link}
use Rattle.bhs_net.specs.Network.{Network}
use Rattle.bhs_model.specs.Setups.{is_lesser_end, links_at}
use Rattle.bhs_model.proofs.NormalLemmas.{links_more, ends_more, kept_last, left_last}
use Rattle.bhs_replay.specs.Head.{link_from}

abbrev pub every : (node port : ℕ) → Bool
every node port = true

-- the links of all earlier nodes
abbrev pub links_before : Network → (node : ℕ) → List Link
links_before net node = map (link_from net) (flat_map (links_at net every) (range_with_len 0 node))

-- the links at the lower ports of a node
abbrev pub links_until : Network → (node port : ℕ) → List Link
links_until net node port = map (link_from net)
    (filter (is_lesser_end net every) (map {B = ℕ × ℕ} (λ port. (node, port)) (range_with_len 0 port)))

pub one_node_more : (net : Network) (node : ℕ) (before after : List Link) → before ≡ links_before net node
    → after ≡ before ++ map (link_from net) (links_at net every node)
    → after ≡ links_before net (node + 1)
one_node_more net node before after was is =
    is ∙ ap (λ links. links ++ map (link_from net) (links_at net every node)) was
    ∙ sym (map-append (link_from net) (flat_map (links_at net every) (range_with_len 0 node)) (links_at net every node))
    ∙ ap (map (link_from net)) (sym (links_more net every node))

module _ (net : Network) (node port : ℕ) (start before : List Link)
    (was : before ≡ start ++ links_until net node port) where
  pub one_link_more : (after : List Link) → is_lesser_end net every (node, port) ≡ true
      → after ≡ before ++ link_from net (node, port) ∷ [] → after ≡ start ++ links_until net node (port + 1)
  one_link_more after passes is =
      is ∙ ap (λ links. links ++ link_from net (node, port) ∷ []) was
      ∙ append_assoc start (links_until net node port) (link_from net (node, port) ∷ [])
      ∙ ap (λ links. start ++ links) (sym (
      ap (λ (ends : List (ℕ × ℕ)). map (link_from net) (filter (is_lesser_end net every) ends)) (ends_more node port)
      ∙ ap (map (link_from net)) (kept_last (is_lesser_end net every)
      (map {B = ℕ × ℕ} (λ port. (node, port)) (range_with_len 0 port)) (node, port) passes)
      ∙ map-append (link_from net) (filter (is_lesser_end net every)
      (map {B = ℕ × ℕ} (λ port. (node, port)) (range_with_len 0 port))) ((node, port) ∷ [])))

  pub no_link_more : (after : List Link) → is_lesser_end net every (node, port) ≡ false → after ≡ before
      → after ≡ start ++ links_until net node (port + 1)
  no_link_more after fails is =
      is ∙ was ∙ ap (λ links. start ++ links) (sym (
      ap (λ (ends : List (ℕ × ℕ)). map (link_from net) (filter (is_lesser_end net every) ends)) (ends_more node port)
      ∙ ap (map (link_from net)) (left_last (is_lesser_end net every)
      (map {B = ℕ × ℕ} (λ port. (node, port)) (range_with_len 0 port)) (node, port) fails)))
