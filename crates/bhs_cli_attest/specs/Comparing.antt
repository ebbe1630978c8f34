-- An agent's part of a log, compared with the module of a file.
use Rattle.std.specs.Prelude.{ℕ, ◌≡◌, List, Some}
use Rattle.bhs_match.specs.Matches.{Play}
use Rattle.bhs_wasm.specs.Contents.{Contents}
use Rattle.bhs_wasm_read.specs.Modules.{module_in}
use Rattle.bhs_wasm_team.specs.Agents.{strategy_of}
use Rattle.bhs_wasm_team.specs.declared.agents.TheConstants.{FUEL}
use Rattle.bhs_attest.specs.Attestations.{Attests}
use Rattle.bhs_attest.specs.declared.follow.Attestation.{Attestation}

-- The file is a module, and this came of comparing the agent's part of the log with what the module says.
pub record IsCompared (play : Play) (wakeups agent : ℕ) (file arguments : List ℕ) (attestation : Attestation) : Type 0
  where
    pub program : Contents
    pub is_module : module_in file ≡ Some program
    pub attests : Attests (record {
      agent = agent;
      strategy = strategy_of program arguments FUEL;
      wakeups = wakeups;
    }) play attestation
