-- What the texts of the built-in tournament say, by computing.
use Rattle.std.proofs.Common.{◌≡◌, inl, inr, ℕ, List, ◌∙◌, map, length, refl, sym, ap, Result, Ok, Err, IfOk}
use Rattle.std.proofs.Common.{IfErr, MatchResult}
use Rattle.std.proofs.lemmas.Simd.{map-map}
use Rattle.toml.proofs.OnLiterals.{toml_on_literals}
use Rattle.hex.proofs.OnLiterals.{hex_on_literals}
use Rattle.bhs_net.specs.Network.{Network}
use Rattle.bhs_files.specs.declared.faults.FileFault.{FileFault}
use Rattle.bhs_files.specs.declared.faults.FileFault.TheVariants as faults
use Rattle.bhs_files.specs.declared.tournaments.Tournament.{Tournament}
use Rattle.bhs_files.specs.Reading.{GivesUnlessMemory}
use Rattle.bhs_files.specs.Names.{first_seen}
use Rattle.bhs_files.specs.NetworkFiles.{Listing, listing_in, listing_of, IsNetworkOf, RefusesFile}
use Rattle.bhs_files.specs.Tournaments as tournaments
use Rattle.bhs_files.specs.Tournaments.{tournament_in, plan_in, matches_in, match_in}
use Rattle.bhs_cli.specs.BuiltIn.{triangle, plan}
use Rattle.bhs_cli.specs.declared.tournaments.built_in_tournament.TheConstants.{NETWORK, TOURNAMENT}
use Rattle.bhs_cli.proofs.TriangleLemmas.{links, no_fault, is_triangle}

pub network_listed : listing_in NETWORK.now ≡ Ok (3, links)
unfolding toml_on_literals listing_in listing_of
network_listed = refl

pub tournament_planned : tournament_in TOURNAMENT.now ≡ Ok plan
unfolding toml_on_literals hex_on_literals tournament_in plan_in matches_in match_in
tournament_planned = refl

-- ---- what is given of them

-- a network that these links make, or no memory
is_triangle_or : (r : Result Network FileFault) (listing : Result Listing FileFault) → listing ≡ Ok (3, links)
    → IfOk r (IsNetworkOf listing) → IfErr r (RefusesFile listing)
    → MatchResult r (λ net. net ≡ triangle) (λ fault. fault ≡ faults.Memory)
is_triangle_or (Ok net) listing is made refused = is_triangle net (rw is at made)
is_triangle_or (Err fault) listing is made refused = elim (rw is at refused) [
  | inl memory ↦ memory
  | inr first ↦ absurd (no_fault first.0 first.2.holds)
]

pub network_is : (r : Result Network FileFault) → IfOk r (IsNetworkOf (listing_in NETWORK.now))
    → IfErr r (RefusesFile (listing_in NETWORK.now))
    → MatchResult r (λ net. net ≡ triangle) (λ fault. fault ≡ faults.Memory)
network_is r made refused = is_triangle_or r (listing_in NETWORK.now) network_listed made refused

-- A text without faults gives its value, or memory runs out.
pub given_or : {X Y : Type 0} (view : X → Y) (r : Result X FileFault) (reading : Result Y FileFault) (y : Y)
    → reading ≡ Ok y → GivesUnlessMemory view r reading
    → MatchResult r (λ x. view x ≡ y) (λ fault. fault ≡ faults.Memory)
given_or view (Ok x) reading y is gives = let same : Ok (view x) ≡ Ok y = sym gives ∙ is in cc
given_or view (Err faults.Memory) reading y is gives = refl
given_or view (Err faults.Toml) reading y is gives = cc
given_or view (Err faults.Version) reading y is gives = cc
given_or view (Err (faults.Unknown game)) reading y is gives = cc
given_or view (Err (faults.Missing game key)) reading y is gives = cc
given_or view (Err (faults.Shape game key)) reading y is gives = cc
given_or view (Err (faults.Net fault)) reading y is gives = cc
given_or view (Err (faults.Setup game fault)) reading y is gives = cc
given_or view (Err (faults.KeyTwice game agent)) reading y is gives = cc
given_or view (Err (faults.Held game index)) reading y is gives = cc

pub tournament_is : (r : Result Tournament FileFault)
    → GivesUnlessMemory tournaments.plan r (tournament_in TOURNAMENT.now)
    → MatchResult r (λ tournament. tournaments.plan tournament ≡ plan) (λ fault. fault ≡ faults.Memory)
tournament_is r gives = given_or tournaments.plan r (tournament_in TOURNAMENT.now) plan tournament_planned gives

-- it names one network
pub one_name : (tournament : Tournament) → tournaments.plan tournament ≡ plan
    → 1 ≡ length (first_seen (map (λ fixture. fixture.network) tournament.matches.items))
one_name tournament is =
    sym (ap (λ (names : List (List ℕ)). length (first_seen names))
    (sym (map-map (λ (p : tournaments.Planned). p.network) tournaments.planned tournament.matches.items)
    ∙ ap (λ (p : tournaments.Plan). map (λ (one : tournaments.Planned). one.network) p.matches) is))
