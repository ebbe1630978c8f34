use Rattle.std.specs.Prelude.{◌≡◌, ℕ, List}
use Rattle.bhs_net.specs.declared.faults.NetFault.{NetFault}
use Rattle.bhs_net.specs.declared.links.Link.{Link}
use Rattle.bhs_net.specs.Network.{Network, Makes}
use Rattle.bhs_net.specs.Faults.{Holds}

-- links that have a fault make no network
abbrev pub NoNetworkWithFault : Type 0
NoNetworkWithFault = (nodes : ℕ) (links : List Link) (fault : NetFault) → Holds nodes links fault → (net : Network)
    → ¬ Makes nodes links net

-- links make one network at the most
abbrev pub OneNetwork : Type 0
OneNetwork = (nodes : ℕ) (links : List Link) (net other : Network) → Makes nodes links net
    → Makes nodes links other → net ≡ other
