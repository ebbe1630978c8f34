use Rattle.std.proofs.Common.{◌≡◌, ◌∙◌, decimal, sym, ap, subst, arith, true, true≢false}
use Rattle.std.proofs.lemmas.Fmt.{parse-decimal, IsAscii-decimal}
use Rattle.std.proofs.lemmas.Str.{IsUtf8-from_ascii}
use Rattle.std.proofs.lemmas.Slice.Eq.{bytes_eq-Decides}
use Rattle.std.specs.Str.{IsUtf8, bytes_eq}
use Rattle.bhs_cli.proofs.match_files.turns.turn_in.Goals as goal

pub returns-in_default : goal.returns-in_default
returns-in_default c n small is =
    c.in_default.ensures.cases.0 (subst IsUtf8 is (IsUtf8-from_ascii (decimal n) (IsAscii-decimal n (omega arith))))

pub returns-in_default-parse : goal.returns-in_default-parse
returns-in_default-parse c n small is =
    let read = parse-decimal 32 n c.in-Ok.text.now c.parse.result (omega arith) (omega arith)
    (c.in-Ok.ensures.cases.0 ∙ sym is) c.parse.ensures.value.0 in
    c.in_default-parse.not-Ok n read

pub returns : goal.returns
returns c n small is =
    let read = parse-decimal 32 n c.in-Ok.text.now c.parse.result (omega arith) (omega arith)
    (c.in-Ok.ensures.cases.0 ∙ sym is) c.parse.ensures.value.0 in
    let same : c.in-Ok-parse.turn ≡ n = cc in
    let written : c.as_str.result.now ≡ decimal c.in-Ok-parse.turn =
    c.as_str.ensures.value ∙ c.in_ok-spelled.ensures.ok in
    let alike : c.as_str.result.now ≡ c.in-Ok.text.now =
    written ∙ ap decimal same ∙ is ∙ sym c.in-Ok.ensures.cases.0 in
    let equal : bytes_eq c.as_str.result.now c.in-Ok.text.now ≡ true =
    (bytes_eq-Decides c.as_str.result.now c.in-Ok.text.now).1 alike in
    true≢false (sym equal ∙ (sym c.eq.ensures ∙ c.if-eq.false))
