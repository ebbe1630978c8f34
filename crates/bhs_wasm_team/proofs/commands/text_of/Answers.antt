use Rattle.std.proofs.Common.{◌∙◌, ap, refl, Some}
use Rattle.std.proofs.lemmas.Bool.{false_from_ne_true}
use Rattle.std.proofs.lemmas.Str.{IsUtf8-from_is_utf8, is_utf8-from_IsUtf8}
use Rattle.bhs_wasm_team.proofs.commands.text_of.Goals as goal

pub returns-in_ok-new-in-Ok : goal.returns-in_ok-new-in-Ok
returns-in_ok-new-in-Ok c =
    let (same, is) = c.in-Ok.ensures.cases in
    rw (is_utf8-from_IsUtf8 _ is) (ap Some (c.in_ok-new-in-Ok.ensures ∙ same))

pub returns-in-Err : goal.returns-in-Err
returns-in-Err c =
    rw (false_from_ne_true _ (λ is. c.in-Err.ensures.cases.0 (IsUtf8-from_is_utf8 c.args.bytes.now is))) refl
