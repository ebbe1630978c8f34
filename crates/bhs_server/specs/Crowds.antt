-- Which waiting client is cut off to make room for another.
use Rattle.std.specs.Prelude.{ℕ, ◌+◌, ◌-◌, ◌^◌, ◌==◌, min, nat_le, nat_lt, Bool, ◌&&◌, ◌||◌, not, Option, Some, None}
use Rattle.std.specs.Prelude.{List, [], ◌∷◌, suc, if◌then◌else◌}
use Rattle.bhs_server.specs.declared.origins.Origin.{Origin}
use Rattle.bhs_server.specs.declared.queue.Known.{Known}
use Rattle.bhs_server.specs.declared.crowds.Crowd.{Crowd}
use Rattle.bhs_server.specs.declared.crowds.Densest.{Densest}
use Rattle.bhs_server.specs.Waiting.{waits, cut_at}

-- whether a client waits in the network of this address
abbrev pub is_near : Known → Origin → Bool
is_near client origin = waits client && (client.origin.network == origin.network)

-- whether the client waits and connects from this address
abbrev pub is_at : Known → Origin → Bool
is_at client origin = is_near client origin && (client.origin.place == origin.place)

-- whether the client may be cut off: it waits, and does not occupy the room reserved for its address
abbrev pub may_go : Known → Bool
may_go client = waits client && not client.has_room

-- adds 1 to a count if the condition holds
abbrev pub one_more_if : ℕ → Bool → ℕ
one_more_if count is_so = if is_so then min (count + 1) (2 ^ 32 - 1) else count

-- the crowd at this address with one client more, if it waits there
abbrev pub crowd_with : Crowd → Known → Origin → Crowd
crowd_with crowd client origin = record {
  network = one_more_if crowd.network (is_near client origin);
  address = one_more_if crowd.address (is_at client origin);
}

-- the number of waiting clients at an address, added to a count
abbrev pub crowd_from : List Known → Origin → Crowd → Crowd
crowd_from [] origin crowd = crowd
crowd_from (client ∷ clients) origin crowd = crowd_from clients origin (crowd_with crowd client origin)

-- how many of these clients wait in the network of this address, and how many at it
abbrev pub crowd_of : List Known → Origin → Crowd
crowd_of clients origin = crowd_from clients origin (record { network = 0; address = 0 })

-- whether a crowd is greater than another: more wait in its network, or as many and more at its address
abbrev pub is_greater : Crowd → Crowd → Bool
is_greater one other = nat_lt other.network one.network
    || ((one.network == other.network) && nat_lt other.address one.address)

-- a crowd of which one client is known
abbrev pub alone : ℕ → Known → Crowd → Densest
alone place client crowd = record { crowd = crowd; first = place; looks = client.looks; last = place }

-- the greatest crowd, once a client is known that may go, waits in this crowd, and came after all others
abbrev pub denser : Option Densest → ℕ → Known → Crowd → Option Densest
denser None place client crowd = Some (alone place client crowd)
denser (Some found) place client crowd = if is_greater crowd found.crowd then Some (alone place client crowd) else
    if is_greater found.crowd crowd then Some found else Some (record found { last = place })

-- The largest crowd among the clients that may be cut off; the clients of `left` remain to be considered.
abbrev pub densest_from : (all left : List Known) → (place : ℕ) → Option Densest → Option Densest
densest_from all [] place found = found
densest_from all (client ∷ left) place found = densest_from all left (suc place)
    (if may_go client then denser found place client (crowd_of all client.origin) else found)

-- who of the greatest crowd is cut off: who came first, if it has waited for two looks, otherwise who came last
abbrev pub goes : Densest → ℕ
goes found = if nat_le 2 found.looks then found.first else found.last

-- the place of who is cut off first: of a client in the greatest crowd, if anybody may go
abbrev pub first_cut_of : Option Densest → Option ℕ
first_cut_of None = None
first_cut_of (Some found) = Some (goes found)

abbrev pub first_cut : List Known → Option ℕ
first_cut clients = first_cut_of (densest_from clients clients 0 None)

-- the clients after one of them made room: who is cut off first, and nobody else is another
abbrev pub with_room : List Known → List Known
with_room clients = cut_at clients (first_cut clients)
