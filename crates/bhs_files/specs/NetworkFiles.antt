-- What a network file says: the number of nodes and the links, or its first fault.
use Rattle.std.specs.Prelude.{◌≡◌, ◌⊎◌, ◌&&◌, nat_lt, if◌then◌else◌, ℕ, List, Option, Some, None, option_and_then}
use Rattle.std.specs.Prelude.{Result, Ok, Err}
use Rattle.toml.specs.Data.{Data, array, no_items, item, Members}
use Rattle.toml.specs.Parse.{parse_document}
use Rattle.bhs_net.specs.declared.faults.NetFault.{NetFault}
use Rattle.bhs_net.specs.declared.faults.NetFault.TheVariants as net_faults
use Rattle.bhs_net.specs.declared.links.Link.{Link}
use Rattle.bhs_net.specs.Network.{Network, Makes}
use Rattle.bhs_net.specs.Faults.{IsFirstFault}
use Rattle.bhs_model.specs.declared.limits.TheConstants.{SMALL_NODES}
use Rattle.bhs_files.specs.declared.faults.FileFault.{FileFault}
use Rattle.bhs_files.specs.declared.faults.FileFault.TheVariants.{Net, Memory}
use Rattle.bhs_files.specs.declared.file_keys.FileKey.TheVariants.{Nodes, Links}
use Rattle.bhs_files.specs.Shapes.{number, list_where, each}
use Rattle.bhs_files.specs.Reading.{◌>>=◌, required}
use Rattle.bhs_files.specs.declared.limits.TheConstants.{NETWORK_VERSION}
use Rattle.bhs_files.specs.Documents.{document_in}

-- the number of nodes, and the links
abbrev pub Listing : Type 0
Listing = ℕ × List Link

-- a list of four numbers
abbrev pub link : Data → Option Link
link (array (item a (item b (item c (item d no_items))))) = do
  v ← number a
  p ← number b
  w ← number c
  q ← number d
  Some (record { v = v; p = p; w = w; q = q })
  where
    infixl 10 ◌>>=◌
    ◌>>=◌ : {A B : Type 0} → Option A → (A → Option B) → Option B
    o >>= f = option_and_then f o
link _ = None

abbrev pub links : Data → Option (List Link)
links = list_where (each link)

unfoldable pub listing_of : Members → Result Listing FileFault
listing_of members = do
  nodes ← required None Nodes number members
  links ← required None Links links members
  Ok (nodes, links)

-- what a file of this version lists: in version 1 no more than `SMALL_NODES` nodes
abbrev pub listing_within : (version : ℕ) → Listing → Result Listing FileFault
listing_within version listing = if nat_lt version 2 && nat_lt SMALL_NODES listing.0 then Err (Net net_faults.Nodes)
    else Ok listing

unfoldable pub listing_in : List ℕ → Result Listing FileFault
listing_in text = document_in NETWORK_VERSION (parse_document text) >>= λ document. listing_of document.1
    >>= listing_within document.0

-- The listing describes this network.
abbrev pub IsNetworkOf : Result Listing FileFault → Network → Type 0
IsNetworkOf (Ok listing) net = Makes listing.0 listing.1 net
IsNetworkOf (Err first) net = ⊥

-- The fault is the first fault of the file, or of the network that the file lists.
abbrev pub IsFault : Result Listing FileFault → FileFault → Type 0
IsFault (Ok listing) fault = (net_fault : NetFault) × (fault ≡ Net net_fault)
    × IsFirstFault listing.0 listing.1 net_fault
IsFault (Err first) fault = fault ≡ first

-- why a network file is refused: memory ran out, or this is its fault
abbrev pub RefusesFile : Result Listing FileFault → FileFault → Type 0
RefusesFile listing fault = (fault ≡ Memory) ⊎ IsFault listing fault

-- a fault of a network as a fault of its file
abbrev pub of_network : NetFault → FileFault
of_network net_faults.Memory = Memory
of_network fault = Net fault
