use Rattle.std.proofs.Common.{◌∙◌, ◌++◌, ap, subst, sym, ℕ, List, Some, map}
use Rattle.bhs_cli_explore.specs.declared.modules.ModuleFile.{ModuleFile}
use Rattle.bhs_cli_explore.specs.Holes.{match_with}
use Rattle.bhs_cli_explore.specs.ModuleExploration.{IsModuleReport}
use Rattle.bhs_cli_explore.proofs.holes.HoleSearches.told_of.Goals as goal

pub returns : goal.returns
returns c =
    let search = c.args.self.now.search in
    record {
      roles = c.in_ok-roles.roles;
      have = c.in_ok-roles.ensures.arguments;
      run = c.in_ok-roles.ensures.programs;
      report = c.as_str.result.now;
      is_report = subst (λ (text : List ℕ). IsModuleReport (match_with search.ready.now (Some c.args.hole))
          search.exploration c.in_ok-roles.roles
          (map (λ (it : ModuleFile). it.arguments.items) search.files.now) text c.in_ok-found.status)
          (sym c.as_str.ensures.value) c.in_ok-found.ensures;
      said = c.in_ok-push_str.ensures.bytes
          ∙ ap (λ (front : List ℕ). front ++ c.as_str.result.now) c.in_ok-text.ensures;
    }
