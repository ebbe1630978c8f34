use Rattle.std.proofs.Common.{◌<◌, ◌≡◌, ◌∙◌, ap, ap₂, map, length, refl, subst, sym, ℕ, List, Some}
use Rattle.std.specs.Prelude.{option_map, slice_get}
use Rattle.std.proofs.lemmas.List.{length-map}
use Rattle.std.proofs.lemmas.Option.{slice_get-map, slice_get_read}
use Rattle.bhs_cli_explore.specs.declared.modules.ModuleFile.{ModuleFile}
use Rattle.bhs_cli_attest.specs.Attesting.{module_number}
use Rattle.bhs_cli_attest.specs.Lines.{agent_line}
use Rattle.bhs_cli_attest.proofs.agents.line_of.Goals as goal

pub returns : goal.returns
returns c =
    let files = c.args.files.now in
    let file = c.index-files-module_number.result in
    let shows : ModuleFile → List ℕ = λ (one : ModuleFile). one.arguments.items in
    let attestation = c.in_ok-attestation.attestation in
    let place = module_number (length files) c.args.agent in
    let there : slice_get files place ≡ Some file =
    subst (λ (k : ℕ). slice_get files k ≡ Some file) c.module_number.ensures
    (slice_get_read files (length files) c.module_number.result file refl
    (subst (λ (k : ℕ). k < length files) (sym c.module_number.ensures) c.requires.range)
    c.index-files-module_number.is) in
    record {
      line = record {
        agent = c.args.agent;
        file = file.bytes.items;
        arguments = file.arguments.items;
        attestation = attestation;
      };
      own = refl;
      is = record {
        own = ap (λ (count : ℕ). slice_get (map shows files) (module_number count c.args.agent))
            (length-map files shows)
            ∙ slice_get-map shows files place ∙ ap (option_map shows) there;
        compared = c.in_ok-attestation.ensures;
      };
      said = c.in_ok-line.ensures
          ∙ ap₂ (λ (bytes numbers : List ℕ). agent_line (record {
            agent = c.args.agent;
            file = bytes;
            arguments = numbers;
            attestation = attestation;
          })) c.deref.ensures.value c.deref-2.ensures.value;
      told = c.follows.ensures;
    }
