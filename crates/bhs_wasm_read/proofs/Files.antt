-- A file whose sections are read.
use Rattle.std.proofs.Common.{◌≡◌, ℕ, true, List, [], length, drop, Some, Ok}
use Rattle.bhs_wasm_read.specs.Files.{has_head}
use Rattle.bhs_wasm.specs.Contents.{Contents}
use Rattle.bhs_wasm_read.specs.Modules.{Parts, module_in, no_parts, sections, whole}

pub whole-file : (file : List ℕ) (parts : Parts) (it : Contents) → has_head file ≡ true
    → sections (length file) 0 no_parts (drop 8 file) ≡ Ok (parts, []) → whole parts parts.entry ≡ Some it
    → module_in file ≡ Some it
unfolding module_in
whole-file file parts it headed read has = rw (headed, read) has
