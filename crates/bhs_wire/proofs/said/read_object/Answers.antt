use Rattle.std.proofs.Common.{◌≡◌, [], ◌∷◌, ap, ◌∙◌, arith}
use Rattle.json.specs.Reads.{token_of}
use Rattle.json.specs.Token.{Token}
use Rattle.bhs_wire.proofs.Reading.{on_err}
use Rattle.bhs_wire.proofs.SaidLemmas.{said-none, said-no_object, said-object, said-more, said-refused}
use Rattle.bhs_wire.proofs.said.read_object.Goals as goal

pub returns-in_err-ok_or-clause-err : goal.returns-in_err-ok_or-clause-err
returns-in_err-ok_or-clause-err c =
    let empty : c.args.reader.now ≡ [] = grind arith in
    on_err c.from_residual.result (said-none c.args.reader.now empty)

pub returns-in_default : goal.returns-in_default
returns-in_default c =
    let first : c.args.reader.now ≡ token_of c.in_ok-ok_or.field-0 ∷ c.next.new.self = grind arith in
    record {
      ok = tt;
      err = said-no_object c.args.reader.now c.in_ok-ok_or.field-0 c.next.new.self first c.in_default.not-BeginObject;
    }

pub returns-in_err-said-clause-err : goal.returns-in_err-said-clause-err
returns-in_err-said-clause-err c =
    let first : c.args.reader.now ≡ token_of c.in_ok-ok_or.field-0 ∷ c.next.new.self = grind arith in
    let is : c.args.reader.now ≡ Token.begin_object ∷ c.next.new.self =
    first ∙ ap (λ t. token_of t ∷ c.next.new.self) c.in-BeginObject.is in
    on_err c.from_residual-in_err-said.result
    (said-refused c.args.reader.now c.next.new.self is c.in_err-said.ensures.err)

pub returns-in-None-clause-ok : goal.returns-in-None-clause-ok
returns-in-None-clause-ok c =
    let first : c.args.reader.now ≡ token_of c.in_ok-ok_or.field-0 ∷ c.next.new.self = grind arith in
    let is : c.args.reader.now ≡ Token.begin_object ∷ c.next.new.self =
    first ∙ ap (λ t. token_of t ∷ c.next.new.self) c.in-BeginObject.is in
    let found = c.in_ok-said.ensures.ok in
    said-object c.args.reader.now c.next.new.self is c.in_ok-said.said found.0 c.read_members.new.reader found.1
    c.in-None.ensures.value.0 found.2

pub returns-in-Some-clause-err : goal.returns-in-Some-clause-err
returns-in-Some-clause-err c =
    let first : c.args.reader.now ≡ token_of c.in_ok-ok_or.field-0 ∷ c.next.new.self = grind arith in
    let is : c.args.reader.now ≡ Token.begin_object ∷ c.next.new.self =
    first ∙ ap (λ t. token_of t ∷ c.next.new.self) c.in-BeginObject.is in
    let found = c.in_ok-said.ensures.ok in
    said-more c.args.reader.now c.next.new.self is found.0 c.read_members.new.reader c.next-2.new.self
    (token_of c.in-Some.field-0) found.1 c.in-Some.ensures.value
