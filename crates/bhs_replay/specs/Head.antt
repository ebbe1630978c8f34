-- The first line of a replay: the network, and how the match is set up.
use Rattle.std.specs.Prelude.{ℕ, ◌≤◌, ◌≡◌, true, if◌then◌else◌, List, [], ◌∷◌, codes, length, map}
use Rattle.serde_json.specs.Data.{Data, null, number, unsigned, array, object, no_members, member}
use Rattle.serde_json.specs.View.{items_of}
use Rattle.serde_json.specs.Written.{compact_text}
use Rattle.bhs_net.specs.declared.links.Link.{Link}
use Rattle.bhs_net.specs.Links.{End}
use Rattle.bhs_net.specs.Network.{Network, nodes_of, far_of}
use Rattle.bhs_model.specs.declared.setups.Setup.{Setup}
use Rattle.bhs_model.specs.Setups.{links_where}
use Rattle.bhs_model.specs.Small.{is_small}
use Rattle.bhs_replay.specs.declared.heads.Version.{Version}
use Rattle.bhs_replay.specs.declared.heads.Version.TheVariants.{One, Two, Three}

-- the link at an end, named from there
abbrev pub link_from : Network → End → Link
link_from net end = record { v = end.0; p = end.1; w = (far_of net end.0 end.1).0; q = (far_of net end.0 end.1).1 }

-- the links of a network, each once, from its end at the lesser node, in the order of these nodes and their ports
abbrev pub links_of : Network → List Link
links_of net = map (link_from net) (links_where net (λ node port. true))

-- ---- as JSON

abbrev pub whole : ℕ → Data
whole n = number (unsigned n)

abbrev pub listed : List Data → Data
listed all = array (items_of all)

-- a link as its four numbers, and an end as its two
abbrev pub link_data : Link → Data
link_data link = listed (whole link.v ∷ whole link.p ∷ whole link.w ∷ whole link.q ∷ [])

abbrev pub end_data : ℕ × ℕ → Data
end_data end = listed (whole end.0 ∷ whole end.1 ∷ [])

-- the black hole of version 1, or null if there is none
abbrev pub hole_data : List ℕ → Data
hole_data [] = null
hole_data (hole ∷ more) = whole hole

-- the head of a version that lists what destroys; the keys stand in the order of their bytes
abbrev pub listing_data : (n : ℕ) → Network → Setup → Data
listing_data n net setup = object
    (member (codes "agents") (whole setup.agents)
    (member (codes "board") (whole setup.board)
    (member (codes "dark") (listed (map end_data setup.dark))
    (member (codes "holes") (listed (map whole setup.holes))
    (member (codes "home") (whole setup.home)
    (member (codes "links") (listed (map link_data (links_of net)))
    (member (codes "nodes") (whole (nodes_of net))
    (member (codes "quota") (whole setup.quota)
    (member (codes "replay") (whole n) no_members)))))))))

-- the head, whose keys stand in the order of their bytes too
abbrev pub head_data : Version → Network → Setup → Data
head_data One net setup = object
    (member (codes "agents") (whole setup.agents)
    (member (codes "board") (whole setup.board)
    (member (codes "hole") (hole_data setup.holes)
    (member (codes "home") (whole setup.home)
    (member (codes "links") (listed (map link_data (links_of net)))
    (member (codes "nodes") (whole (nodes_of net))
    (member (codes "quota") (whole setup.quota)
    (member (codes "replay") (whole 1) no_members))))))))
head_data Two net setup = listing_data 2 net setup
head_data Three net setup = listing_data 3 net setup

-- the line, without its line feed
abbrev pub head_line : Version → Network → Setup → List ℕ
head_line version net setup = compact_text (head_data version net setup)

-- what a version can say: versions 1 and 2 have small matches, and version 1 has one black hole or none, and no dark
-- link
abbrev pub CanSay : Version → Network → Setup → Type 0
CanSay One net setup = (is_small net setup ≡ true) × ((length setup.holes ≤ 1) × (setup.dark ≡ []))
CanSay Two net setup = is_small net setup ≡ true
CanSay Three net setup = Unit {0}

-- the version that is written: the second, if it can say the match
abbrev pub version_of : Network → Setup → Version
version_of net setup = if is_small net setup then Two else Three
