-- Waiting clients, and the choice of the one to cut off.
use Rattle.std.specs.Prelude.{ℕ, ◌+◌, ◌-◌, ◌^◌, min, nat_le, Bool, true, false, Option, Some, None, List}
use Rattle.std.specs.Prelude.{[], ◌∷◌, zero, suc, if◌then◌else◌}
use Rattle.bhs_server.specs.declared.queue.Known.{Known}
use Rattle.bhs_server.specs.declared.queue.Stand.{Stand}
use Rattle.bhs_server.specs.declared.queue.Stand.TheVariants.{Waits, IsCut}

-- whether a client waits to be admitted; a client whose first line is being read does not
abbrev pub is_waiting : Stand → Bool
is_waiting Waits = true
is_waiting stand = false

abbrev pub waits : Known → Bool
waits client = is_waiting client.stand

-- Ages a waiting client by one look; at 20 looks it is cut off.
abbrev pub aged : Known → Known
aged client = record client {
  stand = if nat_le 20 (min (client.looks + 1) (2 ^ 32 - 1)) then IsCut else Waits;
  looks = min (client.looks + 1) (2 ^ 32 - 1);
}

-- a client after a look: nobody but who waits is another
abbrev pub older : Known → Known
older client = if waits client then aged client else client

-- cuts off the client at an optional place
abbrev pub cut_at : List Known → Option ℕ → List Known
cut_at clients None = clients
cut_at [] (Some place) = []
cut_at (client ∷ clients) (Some zero) = record client { stand = IsCut } ∷ clients
cut_at (client ∷ clients) (Some (suc place)) = client ∷ cut_at clients (Some place)
