-- Lines that are too long.
use Rattle.std.proofs.Common.{◌≡◌, ◌⊎◌, ◌<◌, ◌+◌, ℕ, List, ◌∷◌, ◌++◌, length, false, ◌∙◌}
use Rattle.std.proofs.Common.{arith, length-append}
use Rattle.std.specs.List.{list_any}
use Rattle.std.proofs.lemmas.List.Folds.{list_any-append}
use Rattle.bhs_model.specs.declared.limits.TheConstants.{MAX_TEXT}
use Rattle.bhs_wire.specs.Lines.{is_line_feed}
use Rattle.bhs_cli.specs.LineStates.{IsPart}
use Rattle.bhs_cli.specs.LineStates.{IsOverlong}

-- Once a line is too long, it stays so: either it ends after these bytes, or everything that was read belongs to it.
module _ (line end : List ℕ) (part : IsPart line) (unended : list_any is_line_feed end ≡ false)
    (long : MAX_TEXT < length line + length end) where
  pub overlong : (text rest : List ℕ) → (text ≡ line ++ end) ⊎ (text ≡ (line ++ end) ++ 10 ∷ rest) → IsOverlong text
  overlong text rest begins = record {
    line = line ++ end;
    rest = rest;
    begins = begins;
    unended = list_any-append is_line_feed line end ∙ grind (arith, part.unended, unended);
    long = let all = length-append line end in omega (arith, all, long);
  }
