use Rattle.std.proofs.Common.{◌≡◌, ◌≤◌, [], Ok, length, drop, rules, arith, length-drop}
use Rattle.std.proofs.lemmas.List.{take_rest}
use Rattle.bhs_wasm_read.specs.Modules.{no_parts, parts_of, sections}
use Rattle.bhs_wasm_read.proofs.Files.{whole-file}
use Rattle.bhs_wasm_read.proofs.modules.module_of.Goals as goal

pub returns-in-Ok-whole-clause-sections : goal.returns-in-Ok-whole-clause-sections
returns-in-Ok-whole-clause-sections c = λ _. rw (c.new-bytes.ensures.left, take_rest) at c.in-Ok.ensures.order

pub returns-in-Ok-whole-clause-contents : goal.returns-in-Ok-whole-clause-contents
returns-in-Ok-whole-clause-contents c =
    let file = c.args.file.now in
    let none : parts_of c.new-sections.result ≡ no_parts = c.new-sections.ensures in
    let enough : length (drop 8 file) ≤ length file = omega (arith, length-drop 8 file) in
    let all : sections (length file) 0 (parts_of c.new-sections.result) (drop 8 file)
    ≡ Ok (parts_of c.read.new.sections, [])
    = (rw (c.new-bytes.ensures.left, take_rest) at c.in-Ok.ensures.parts) (length file) enough in
    whole-file file (parts_of c.read.new.sections) _ (search rules) (rw none at all) (c.in-Ok-whole.ensures {u = tt})
