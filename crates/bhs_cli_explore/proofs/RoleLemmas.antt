-- Roles of agents that run the modules of files, one after the other.
use Rattle.std.proofs.Common.{◌≡◌, ◌∙◌, ap, sym, ℕ, ◌+◌, ◌<◌, List, ◌∷◌, [], ◌++◌, get_or, length, map, take, Some}
use Rattle.std.proofs.lemmas.List.{take_more}
use Rattle.bhs_wasm.specs.Contents.{contents_of}
use Rattle.bhs_wasm_read.specs.Modules.{module_in}
use Rattle.bhs_wasm_team.specs.declared.agents.Role.{Role}
use Rattle.bhs_cli_explore.specs.declared.modules.ModuleFile.{ModuleFile}
use Rattle.bhs_cli_explore.proofs.ModuleLemmas.{one_more}

-- the roles have the arguments of these files, and run their modules
pub record AreRolesOf (files : List ModuleFile) (roles : List Role) : Type 0 where
  pub arguments : map (λ role. role.arguments.items) roles ≡ map (λ file. file.arguments.items) files
  pub programs : map (λ role. Some (contents_of role.program)) roles ≡ map (λ file. module_in file.bytes.items) files

pub role_more : (files : List ModuleFile) (place : ℕ) (file : ModuleFile) (roles new : List Role) (role : Role)
    → place < length files → file ≡ get_or files place file → new ≡ roles ++ role ∷ []
    → role.arguments.items ≡ file.arguments.items → Some (contents_of role.program) ≡ module_in file.bytes.items
    → AreRolesOf (take place files) roles → AreRolesOf (take (place + 1) files) new
role_more files place file roles new role within is grown arguments program so_far =
    let front : take (place + 1) files ≡ take place files ++ file ∷ [] =
    take_more files place file within ∙ ap (λ (it : ModuleFile). take place files ++ it ∷ []) (sym is) in
    record {
      arguments = ap (map (λ (it : Role). it.arguments.items)) grown
          ∙ (one_more (λ (it : Role). it.arguments.items) (λ (it : ModuleFile). it.arguments.items) roles
          (take place files) role file so_far.arguments arguments
          ∙ ap (map (λ (it : ModuleFile). it.arguments.items)) (sym front));
      programs = ap (map (λ (it : Role). Some (contents_of it.program))) grown
          ∙ (one_more (λ (it : Role). Some (contents_of it.program)) (λ (it : ModuleFile). module_in it.bytes.items)
          roles (take place files) role file so_far.programs program
          ∙ ap (map (λ (it : ModuleFile). module_in it.bytes.items)) (sym front));
    }
