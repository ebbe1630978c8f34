-- Lines that were found before stay in front of those that are found.
use Rattle.std.proofs.Common.{◌≡◌, Bool, true, false, if◌then◌else◌, List, [], ◌∷◌, ◌++◌, map, sym, ap, ◌∙◌}
use Rattle.std.proofs.Common.{append-nil, append_assoc}
use Rattle.std.proofs.lemmas.List.{map-append}
use Rattle.bhs_wire.specs.Lines.{Line, seen}
use Rattle.bhs_wire.specs.declared.pieces.Raw.{Raw}

-- one line more, or none
pub one_more : (is_ok : Bool) (old new : List Raw) (line : Raw) → new ≡ (if is_ok then old ++ line ∷ [] else old)
    → (more : List Line) × (map seen new ≡ map seen old ++ more)
one_more true old new line is = (seen line ∷ [], ap (map seen) is ∙ map-append seen old (line ∷ []))
one_more false old new line is = ([], ap (map seen) is ∙ sym (append-nil (map seen old)))

pub more_on : (old next new : List Line) → (more : List Line) × (next ≡ old ++ more)
    → (more : List Line) × (new ≡ next ++ more) → (more : List Line) × (new ≡ old ++ more)
more_on old next new first then_more = (
  first.0 ++ then_more.0,
  then_more.1 ∙ (ap (λ lines. lines ++ then_more.0) first.1 ∙ append_assoc old first.0 then_more.0),
)
