use Rattle.std.specs.Prelude.{◌≡◌, ◌≢◌, ℕ, ◌<◌, ◌≤◌, ◌⊎◌, List, length}
use Rattle.bhs_net.specs.declared.faults.TheConstants.{MIN_NODES, MAX_NODES}
use Rattle.bhs_net.specs.declared.faults.NetFault.{NetFault}
use Rattle.bhs_net.specs.declared.faults.NetFault.TheVariants.{Nodes, Node, Loop, Double, PortTwice, PortGap, Apart}
use Rattle.bhs_net.specs.declared.faults.NetFault.TheVariants.{CutNode, Memory}
use Rattle.bhs_net.specs.declared.links.Link.{Link}
use Rattle.bhs_net.specs.Links.{link_at, SameNodes, SharesEnd, IsListed, AreLinked}
use Rattle.bhs_net.specs.Paths.{IsPath, Without}
use Rattle.bhs_net.specs.Network.{Network, nodes_of, IsPortLabelled, HasLinks}

-- An end of the link names a node that does not exist.
abbrev pub IsStray : ℕ → List Link → ℕ → Type 0
IsStray nodes links place = (place < length links)
    × ((nodes ≤ (link_at links place).v) ⊎ (nodes ≤ (link_at links place).w))

-- the link joins a node to itself
abbrev pub IsLoop : List Link → ℕ → Type 0
IsLoop links place = (place < length links) × ((link_at links place).v ≡ (link_at links place).w)

-- an earlier link joins the same two nodes
abbrev pub IsDouble : List Link → ℕ → Type 0
IsDouble links place = (place < length links)
    × ((early : ℕ) × (early < place) × SameNodes (link_at links early) (link_at links place))

-- an earlier link has one of the link's ends
abbrev pub IsPortTwice : List Link → ℕ → Type 0
IsPortTwice links place = (place < length links)
    × ((early : ℕ) × (early < place) × SharesEnd (link_at links early) (link_at links place))

-- A port of the node is listed and a lower port is not.
abbrev pub IsGap : List Link → ℕ → Type 0
IsGap links node = (port lower : ℕ) × IsListed links (node, port) × (lower < port) × ¬ IsListed links (node, lower)

-- no path joins some two nodes
abbrev pub IsApart : ℕ → List Link → Type 0
IsApart nodes links = (node other : ℕ) × (node < nodes) × (other < nodes) × ¬ IsPath (AreLinked links) node other

-- no path that keeps off the node joins some two others
abbrev pub IsCut : ℕ → List Link → ℕ → Type 0
IsCut nodes links cut = (cut < nodes) × ((node other : ℕ) × (node < nodes) × (other < nodes) × (node ≢ cut)
    × (other ≢ cut) × ¬ IsPath (Without cut (AreLinked links)) node other)

-- the list of links has the fault
abbrev pub Holds : ℕ → List Link → NetFault → Type 0
Holds nodes links Nodes = (nodes < MIN_NODES) ⊎ (MAX_NODES < nodes)
Holds nodes links (Node link) = IsStray nodes links link
Holds nodes links (Loop link) = IsLoop links link
Holds nodes links (Double link) = IsDouble links link
Holds nodes links (PortTwice link) = IsPortTwice links link
Holds nodes links (PortGap node) = IsGap links node
Holds nodes links Apart = IsApart nodes links
Holds nodes links (CutNode node) = IsCut nodes links node
Holds nodes links Memory = ⊥

-- the number of a fault
abbrev pub number_of : NetFault → ℕ
number_of Nodes = 1
number_of (Node link) = 2
number_of (Loop link) = 3
number_of (Double link) = 4
number_of (PortTwice link) = 5
number_of (PortGap node) = 6
number_of Apart = 7
number_of (CutNode node) = 8
number_of Memory = 9

-- the link or the node that a fault names
abbrev pub place_of : NetFault → ℕ
place_of Nodes = 0
place_of (Node link) = link
place_of (Loop link) = link
place_of (Double link) = link
place_of (PortTwice link) = link
place_of (PortGap node) = node
place_of Apart = 0
place_of (CutNode node) = node
place_of Memory = 0

-- faults are told by number, and of one number by link or node
abbrev pub IsBefore : NetFault → NetFault → Type 0
IsBefore early late = (number_of early < number_of late)
    ⊎ ((number_of early ≡ number_of late) × (place_of early < place_of late))

-- The list has this fault and none of the faults that take precedence.
pub record IsFirstFault (nodes : ℕ) (links : List Link) (fault : NetFault) : Type 0 where
  pub holds : Holds nodes links fault
  pub none_before : (early : NetFault) → IsBefore early fault → ¬ Holds nodes links early

-- The list has no fault up to this number in the order of precedence.
abbrev pub HasNoFault : ℕ → List Link → ℕ → Type 0
HasNoFault nodes links number = (fault : NetFault) → number_of fault ≤ number → ¬ Holds nodes links fault

-- the links are listed without a fault of the numbers 1 to 6, and make this network with port labels
pub record Lists (nodes : ℕ) (links : List Link) (net : Network) : Type 0 where
  pub no_fault : HasNoFault nodes links 6
  pub size : nodes_of net ≡ nodes
  pub labelled : IsPortLabelled net
  pub made_of : HasLinks net links

-- why a list of links was refused: memory ran out, or this is its first fault
abbrev pub Refuses : ℕ → List Link → NetFault → Type 0
Refuses nodes links fault = (fault ≡ Memory) ⊎ IsFirstFault nodes links fault
