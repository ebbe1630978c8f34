use Rattle.std.proofs.Common.{◌≡◌, ◌<◌, inl, inr, refl, sym, ◌∙◌, length, subst, List, get_or, ℕ}
use Rattle.std.proofs.lemmas.List.{get_or_default}
use Rattle.bhs_net.specs.declared.links.Link.{Link}
use Rattle.bhs_net.specs.Links.{End, Joins, AreJoined}
use Rattle.bhs_net.proofs.fast_rows.other_end.Goals as goal

-- a link that was looked up joins what it joins
found : (links : List Link) (place : ℕ) (link : Link) (end other : End) → place < length links
    → link ≡ get_or links place link → Joins link end other → AreJoined links end other
found links place link end other lt is joins = (
  place,
  lt,
  subst (λ (l : Link). Joins l end other) (is ∙ get_or_default links place link _ lt) joins,
)

same_end : {v p node port : ℕ} → v ≡ node → p ≡ port → ◌≡◌ {A = End} (v, p) (node, port)
same_end e f = cc

pub returns-then-from-port : goal.returns-then-from-port
returns-then-from-port c =
    let link = c.in_ok-link.link.now in
    let read = c.in_ok-link.ensures.lookup in
    found c.args.links.now c.args.place link (c.args.node, c.args.port) (link.w, link.q) read.3.0 read.1
    (inl (
      same_end (sym c.from.ensures ∙ c.if-from-node.true)
          (sym c.from-then-from-node.ensures ∙ c.if-from-port.true),
      refl,
    ))

pub returns-then-from-port-2 : goal.returns-then-from-port-2
returns-then-from-port-2 c =
    let link = c.in_ok-link.link.now in
    let read = c.in_ok-link.ensures.lookup in
    found c.args.links.now c.args.place link (c.args.node, c.args.port) (link.v, link.p) read.3.0 read.1
    (inr (
      same_end (sym c.from-else-from-node.ensures ∙ c.if-from-node-2.true)
          (sym c.from-then-from-node-2.ensures ∙ c.if-from-port-2.true),
      refl,
    ))
