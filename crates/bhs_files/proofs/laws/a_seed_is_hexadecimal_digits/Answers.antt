use Rattle.std.proofs.Common.{◌≡◌, ℕ, List, Result, Ok, Err, refl, sym, ◌∙◌}
use Rattle.std.specs.Prelude.{is_some, is_ok}
use Rattle.std.specs.Result.{result_ok}
use Rattle.hex.specs.declared.error.FromHexError.{FromHexError}
use Rattle.hex.specs.Hex.{decode_sized}
use Rattle.hex.proofs.HexLemmas.{IsOk-decode_sized}
use Rattle.bhs_model.specs.declared.limits.TheConstants.{SEED_BYTES}
use Rattle.bhs_files.proofs.laws.a_seed_is_hexadecimal_digits.Goals as goal

some_where_ok : (r : Result (List ℕ) FromHexError) → is_some (result_ok r) ≡ is_ok r
some_where_ok (Ok x) = refl
some_where_ok (Err e) = refl

pub returns : goal.returns
returns c = λ text.
    let digits = IsOk-decode_sized text SEED_BYTES in
    let same = some_where_ok (decode_sized text SEED_BYTES) in
    (λ some. digits.0 (sym same ∙ some), λ spelled. same ∙ digits.1 spelled)
