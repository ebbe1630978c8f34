use Rattle.std.specs.Prelude.{◌≡◌, ℕ, ◌<◌, ◌⊎◌, List, length, slice_index_or}
use Rattle.bhs_net.specs.declared.links.Link.{Link}

-- A link's end: a node with one of its ports.
abbrev pub End : Type 0
End = ℕ × ℕ

-- the end that a link names first
abbrev pub near_end : Link → End
near_end link = (link.v, link.p)

-- the end that a link names second
abbrev pub far_end : Link → End
far_end link = (link.w, link.q)

-- the link at a place of the list
abbrev pub link_at : List Link → ℕ → Link
link_at links place = slice_index_or links place (record { v = 0; p = 0; w = 0; q = 0 })

-- the link has this end
abbrev pub HasEnd : Link → End → Type 0
HasEnd link end = (near_end link ≡ end) ⊎ (far_end link ≡ end)

-- the link joins the two ends, whichever of them it names first
abbrev pub Joins : Link → End → End → Type 0
Joins link end other =
    ((near_end link ≡ end) × (far_end link ≡ other)) ⊎ ((far_end link ≡ end) × (near_end link ≡ other))

-- the links join the same two nodes
abbrev pub SameNodes : Link → Link → Type 0
SameNodes a b = ((a.v ≡ b.v) × (a.w ≡ b.w)) ⊎ ((a.v ≡ b.w) × (a.w ≡ b.v))

-- the links have an end in common
abbrev pub SharesEnd : Link → Link → Type 0
SharesEnd a b = HasEnd a (near_end b) ⊎ HasEnd a (far_end b)

-- some link of the list has this end
abbrev pub IsListed : List Link → End → Type 0
IsListed links end = (place : ℕ) × (place < length links) × HasEnd (link_at links place) end

-- some link of the list joins the two ends
abbrev pub AreJoined : List Link → End → End → Type 0
AreJoined links end other = (place : ℕ) × (place < length links) × Joins (link_at links place) end other

-- Some link of the list joins the two nodes.
abbrev pub AreLinked : List Link → ℕ → ℕ → Type 0
AreLinked links node other = (port : ℕ) × (label : ℕ) × AreJoined links (node, port) (other, label)
