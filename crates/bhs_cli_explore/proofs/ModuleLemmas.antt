-- Teams that run modules, one role after the other, and the lines of their modules.
use Rattle.std.proofs.Common.{◌≡◌, ◌∙◌, refl, sym, ap, ap₂, ℕ, ◌+◌, ◌<◌, List, [], ◌∷◌, ◌++◌, append_assoc, append-nil}
use Rattle.std.proofs.Common.{get_or, length, map, take, Option, Some, Result, Ok, Err, OnOk, false}
use Rattle.std.specs.Result.{is_err}
use Rattle.std.proofs.lemmas.List.{map-append, take_more}
use Rattle.bhs_cli_words.specs.declared.orders.AgentModule.{AgentModule}
use Rattle.bhs_wasm.specs.Contents.{contents_of}
use Rattle.bhs_wasm_read.specs.Modules.{module_in}
use Rattle.bhs_wasm_team.specs.declared.agents.Role.{Role}
use Rattle.bhs_wasm_team.specs.declared.failures.ModuleFailure.{ModuleFailure}
use Rattle.bhs_wasm_team.specs.Roles.{all_roles}
use Rattle.bhs_cli_explore.specs.ModuleExploration.{IsTeamOf, ModuleLine, module_line, module_lines}
use Rattle.bhs_cli_explore.specs.declared.modules.FileRoles.{FileRoles}
use Rattle.bhs_cli_explore.specs.declared.modules.ModuleFile.{ModuleFile}

-- one more of each of two lists
pub one_more : {T U V : Type 0} (f : T → V) (g : U → V) (xs : List T) (ys : List U) (x : T) (y : U)
    → map f xs ≡ map g ys → f x ≡ g y → map f (xs ++ x ∷ []) ≡ map g (ys ++ y ∷ [])
one_more {V = V} f g xs ys x y same one =
    map-append f xs (x ∷ [])
    ∙ (ap₂ (λ (front : List V) (last : V). front ++ last ∷ []) same one ∙ sym (map-append g ys (y ∷ [])))

-- ---- roles

-- the clause of a successful call
pub if_done : {T E P : Type 0} (result : Result T E) → is_err result ≡ false → OnOk result P → P
if_done (Ok it) done holds = holds
if_done (Err error) done holds = absurd (cc)

-- one role more
pub has_more : (old new : FileRoles) (first : AgentModule) (others : List AgentModule) (place : ℕ) (d : AgentModule)
    (role : Role) (file : ModuleFile) → place < length others → new.roles.first ≡ old.roles.first
    → new.roles.others.items ≡ old.roles.others.items ++ role ∷ [] → new.files.items ≡ old.files.items ++ file ∷ []
    → role.arguments.items ≡ (get_or others place d).arguments
    → file.arguments.items ≡ (get_or others place d).arguments
    → module_in file.bytes.items ≡ Some (contents_of role.program) → IsTeamOf (first ∷ take place others) old
    → IsTeamOf (first ∷ take (place + 1) others) new
has_more old new first others place d role file within one roles files of_role of_file is team =
    let given : first ∷ take (place + 1) others ≡ (first ∷ take place others) ++ get_or others place d ∷ [] =
    ap (λ (more : List AgentModule). first ∷ more) (take_more others place d within) in
    let all : all_roles new.roles ≡ all_roles old.roles ++ role ∷ [] =
    ap₂ (λ (it : Role) (more : List Role). it ∷ more) one roles in
    let wanted = ap (map (λ (it : AgentModule). it.arguments)) (sym given) in
    record {
      roles = ap (map (λ (it : Role). it.arguments.items)) all
          ∙ (one_more (λ (it : Role). it.arguments.items) (λ (it : AgentModule). it.arguments) (all_roles old.roles)
          (first ∷ take place others) role (get_or others place d) team.roles of_role ∙ wanted);
      files = ap (map (λ (it : ModuleFile). it.arguments.items)) files
          ∙ (one_more (λ (it : ModuleFile). it.arguments.items) (λ (it : AgentModule). it.arguments) old.files.items
          (first ∷ take place others) file (get_or others place d) team.files of_file ∙ wanted);
      are = ap (map (λ (it : ModuleFile). module_in it.bytes.items)) files
          ∙ (one_more (λ (it : ModuleFile). module_in it.bytes.items) (λ (it : Role). Some (contents_of it.program))
          old.files.items (all_roles old.roles) file role team.are is
          ∙ ap (map (λ (it : Role). Some (contents_of it.program))) (sym all));
    }

-- ---- lines

lines_then : (lines more : List ModuleLine) → module_lines (lines ++ more) ≡ module_lines lines ++ module_lines more
lines_then [] more = refl
lines_then (line ∷ lines) more =
    ap (λ (rest : List ℕ). module_line line ++ rest) (lines_then lines more)
    ∙ sym (append_assoc (module_line line) (module_lines lines) (module_lines more))

-- the lines of these files stand behind a text
abbrev pub HasLines : List ModuleFile → (before text : List ℕ) → Type 0
HasLines files before text = (lines : List ModuleLine)
    × (map (λ line. line.arguments) lines ≡ map (λ file. file.arguments.items) files)
    × (map (λ line. module_in line.file) lines ≡ map (λ file. module_in file.bytes.items) files)
    × (text ≡ before ++ module_lines lines)

-- what the line of a file tells
abbrev pub line_with : ModuleFile → (failure : Option ModuleFailure) → ModuleLine
line_with file failure = record { file = file.bytes.items; arguments = file.arguments.items; failure = failure }

-- the line of the next file
pub more_lines : (files : List ModuleFile) (place : ℕ) (d : ModuleFile) (failure : Option ModuleFailure)
    (before text more : List ℕ) → place < length files
    → more ≡ text ++ module_line (line_with (get_or files place d) failure) → HasLines (take place files) before text
    → HasLines (take (place + 1) files) before more
more_lines files place d failure before text more within grown (lines, have, are, said) =
    let file : ModuleFile = get_or files place d in
    let line : ModuleLine = line_with file failure in
    let last : module_lines (line ∷ []) ≡ module_line line = append-nil (module_line line) in (
      lines ++ line ∷ [],
      one_more (λ (it : ModuleLine). it.arguments) (λ (it : ModuleFile). it.arguments.items) lines (take place files)
          line file have refl
          ∙ ap (map (λ (it : ModuleFile). it.arguments.items)) (sym (take_more files place d within)),
      one_more (λ (it : ModuleLine). module_in it.file) (λ (it : ModuleFile). module_in it.bytes.items) lines
          (take place files) line file are refl
          ∙ ap (map (λ (it : ModuleFile). module_in it.bytes.items)) (sym (take_more files place d within)),
      grown ∙ (ap (λ (front : List ℕ). front ++ module_line line) said
          ∙ (append_assoc before (module_lines lines) (module_line line)
          ∙ ap (λ (rest : List ℕ). before ++ rest) (ap (λ (end : List ℕ). module_lines lines ++ end) (sym last)
          ∙ sym (lines_then lines (line ∷ []))))),
    )
