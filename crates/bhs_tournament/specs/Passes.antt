-- Going over the matches of a tournament, up to the first fault.
use Rattle.std.specs.Prelude.{ℕ, ◌+◌, List, [], ◌∷◌, Result, Ok}
use Rattle.bhs_net.specs.Network.{Network}
use Rattle.bhs_match.specs.Matches.{Play}
use Rattle.bhs_files.specs.declared.faults.FileFault.{FileFault}
use Rattle.bhs_files.specs.declared.fixtures.Fixture.{Fixture}
use Rattle.bhs_setups.specs.declared.lineups.Ready.{Ready}
use Rattle.bhs_files.specs.Reading.{◌>>=◌}
use Rattle.bhs_files.specs.Tournaments.{Planned, planned}
use Rattle.bhs_tournament.specs.Lineups.{start_of, setup_fault, held_fault, unless}

-- what is made of each match, the first being of this number, or the first fault
abbrev pub each_in : {P A : Type 0} → ((game : ℕ) → P → Result A FileFault) → ℕ → List P → Result (List A) FileFault
each_in make game [] = Ok []
each_in make game (one ∷ others) = make game one >>= λ made. each_in make (game + 1) others >>= λ rest. Ok (made ∷ rest)

-- the match before anything happens, or the fault of its setup
abbrev pub begun : (Planned → Network) → (game : ℕ) → Planned → Result Play FileFault
begun network game planned = unless (setup_fault (network planned) game planned)
    (Ok (start_of (network planned) planned))

-- The match with its held links, or the fault of the first held link that names no existing port.
abbrev pub readied : (game : ℕ) → Fixture × Play → Result Ready FileFault
readied game one = unless (held_fault one.1.net game (planned one.0))
    (Ok (record { team = one.0.team; game = one.1; held = one.0.held.items }))
