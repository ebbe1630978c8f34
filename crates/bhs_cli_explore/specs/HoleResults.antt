-- The results of searches with one black hole after the other.
use Rattle.std.specs.Prelude.{ℕ, List, IfOk, map, string_bytes}
use Rattle.bhs_wasm_read.specs.Modules.{module_in}
use Rattle.bhs_cli_explore.specs.declared.holes.HoleResult.{HoleResult}
use Rattle.bhs_cli_explore.specs.declared.modules.ModuleSearch.{ModuleSearch}
use Rattle.bhs_cli_explore.specs.Holes.{IsHoleReport}

-- the text and the exit status are those of this black hole, of agents that run the modules of the searched files
abbrev pub IsReportOf : ModuleSearch → (hole : ℕ) → (text : List ℕ) → (code : ℕ) → Type 0
IsReportOf search hole text code =
    IsHoleReport search.ready.now search.exploration (map (λ file. module_in file.bytes.items) search.files.now)
    (map (λ file. file.arguments.items) search.files.now) hole text code

-- if no fault ended the search, what is told is the report of its black hole
abbrev pub IsTold : ModuleSearch → HoleResult → Type 0
IsTold search result = IfOk result.told (λ told. IsReportOf search result.hole (string_bytes told.0) told.1)
