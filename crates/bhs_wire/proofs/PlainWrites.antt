-- What a line of Write says that is spelled without a space and without an escape.
use Rattle.std.proofs.Common.{◌≡◌, ℕ, List, [], ◌∷◌, ◌++◌, codes, refl, ap, sym, ◌∙◌, append_assoc}
use Rattle.std.specs.Str.{IsUtf8}
use Rattle.json.specs.Lex.{tokens}
use Rattle.json.specs.Print.{print, escape, ArePrintable}
use Rattle.json.specs.Token.{Token, begin_object, end_object, key, string}
use Rattle.json.proofs.Printed.Tokens.{tokens-print}
use Rattle.bhs_model.specs.declared.commands.Command.TheVariants.{Write}
use Rattle.bhs_wire.specs.declared.commands.First.TheVariants.{Tell}
use Rattle.bhs_wire.specs.First.{first_of}
use Rattle.bhs_wire.specs.Said.{said_by_tokens}
use Rattle.bhs_wire.specs.Plain.{IsPlainWrite}
use Rattle.bhs_wire.proofs.FirstLines.{first_of-text}
use Rattle.bhs_wire.proofs.OnLiterals.{bhs_wire_on_literals}
use Rattle.bhs_wire.proofs.PlainLemmas.{escape-plain}

abbrev write_tokens : (expect put : List ℕ) → List Token
write_tokens expect put =
    begin_object ∷ key (codes "do") ∷ string (codes "write") ∷ key (codes "expect") ∷ string expect ∷ key (codes "put")
    ∷ string put ∷ end_object ∷ []

printed_write : (expect put : List ℕ) → print (write_tokens expect put) ≡ codes "{\"do\":\"write\",\"expect\":\""
    ++ ((escape expect ++ 34 ∷ []) ++ (codes ",\"put\":\"" ++ ((escape put ++ 34 ∷ []) ++ codes "}")))
unfolding bhs_wire_on_literals
printed_write expect put = refl

printable_write : (expect put : List ℕ) → ArePrintable (write_tokens expect put)
unfolding ArePrintable
printable_write expect put = (tt, (tt, (tt, (tt, (tt, (tt, (tt, (tt, tt))))))))

said_write : (expect put : List ℕ) → said_by_tokens (write_tokens expect put) ≡ Tell (Write expect put)
unfolding bhs_wire_on_literals
said_write expect put = refl

pub plain_write_says : (line expect put : List ℕ) → IsUtf8 line → IsPlainWrite line expect put
    → first_of line ≡ Tell (Write expect put)
plain_write_says line expect put utf8 is =
    let more : List ℕ = codes ",\"put\":\"" ++ ((escape put ++ 34 ∷ []) ++ codes "}") in
    let behind : codes "\",\"put\":\"" ++ (put ++ codes "\"}") ≡ 34 ∷ more =
    ap (λ (text : List ℕ). codes "\",\"put\":\"" ++ text)
    (ap (λ (text : List ℕ). text ++ 34 ∷ codes "}") (sym (escape-plain put is.put_plain))
    ∙ sym (append_assoc (escape put) (34 ∷ []) (codes "}"))) in
    let texts : expect ++ (codes "\",\"put\":\"" ++ (put ++ codes "\"}")) ≡ (escape expect ++ 34 ∷ []) ++ more =
    ap (λ (text : List ℕ). text ++ (codes "\",\"put\":\"" ++ (put ++ codes "\"}")))
    (sym (escape-plain expect is.expect_plain))
    ∙ (ap (λ (text : List ℕ). escape expect ++ text) behind ∙ sym (append_assoc (escape expect) (34 ∷ []) more)) in
    let printed : line ≡ print (write_tokens expect put) =
    is.spelled ∙ (ap (λ (text : List ℕ). codes "{\"do\":\"write\",\"expect\":\"" ++ text) texts
    ∙ sym (printed_write expect put)) in
    first_of-text line utf8 ∙ (ap (λ (text : List ℕ). said_by_tokens (tokens text)) printed
    ∙ (ap said_by_tokens (tokens-print (write_tokens expect put) (printable_write expect put))
    ∙ said_write expect put))
