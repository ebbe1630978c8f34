use Rattle.std.proofs.Common.{◌≡◌, ℕ, List, Bool, ◌⊎◌, inl, inr, ◌-◌, [], ◌∷◌, length, Some, None, refl, ap}
use Rattle.std.proofs.Common.{◌∙◌, arith}
use Rattle.json.specs.Token.{Token}
use Rattle.json.specs.Reads.{token_of}
use Rattle.json.specs.declared.token.Token as code
use Rattle.json.specs.declared.token.Token.TheVariants.{Bool as Boolean, Null}
use Rattle.json.specs.Json.{parse_map, after_end_array, read_key, items, value}
use Rattle.json.proofs.Grammar.{value_is, left_some, left_none}
use Rattle.serde_json.specs.Data.{Data, null, boolean, string, array, object}
use Rattle.serde_json.specs.Read.{of_json, of_items, converted}
use Rattle.bhs_wire.specs.declared.said.Content.TheVariants.{Other}
use Rattle.bhs_wire.specs.Said.{IsContentOf}
use Rattle.bhs_wire.proofs.Reading.{on_err, number_read, number_refused, array_opened, object_opened, too_deep}
use Rattle.bhs_wire.proofs.Turns.{item_passed, item_broken, items_ended}
use Rattle.bhs_wire.proofs.Turns.{member_passed, member_broken, key_broken, members_ended}
use Rattle.bhs_wire.proofs.said.+read.Goals as goal

-- a truth or a null is read, and nothing is taken from it
plain_read : (depth : ℕ) (ts r : List Token) (t : code.Token) → ts ≡ token_of t ∷ r
    → ((b : Bool) × (t ≡ Boolean b)) ⊎ (t ≡ Null)
    → (d : Data) × (converted of_json (value depth ts) ≡ Some (d, r)) × IsContentOf Other d
plain_read depth ts r t is (inl (b, e)) = (
  boolean b,
  ap (converted of_json) (ap (value depth) (is ∙ ap (λ k. token_of k ∷ r) e) ∙ value_is depth (Token.boolean b ∷ r)),
  record { text = refl; port = refl },
)
plain_read depth ts r t is (inr e) = (
  null,
  ap (converted of_json) (ap (value depth) (is ∙ ap (λ k. token_of k ∷ r) e) ∙ value_is depth (Token.null ∷ r)),
  record { text = refl; port = refl },
)

pub read_value-returns-in_err-token-clause-err : goal.read_value-returns-in_err-token-clause-err
read_value-returns-in_err-token-clause-err t c =
    let empty : c.args.reader.now ≡ [] = grind arith in
    on_err c.from_residual.result (ap (converted of_json) (ap (value c.args.depth) empty ∙ value_is c.args.depth []))

pub read_value-returns-in-String-clause-ok : goal.read_value-returns-in-String-clause-ok
read_value-returns-in-String-clause-ok t c =
    let first : c.args.reader.now ≡ token_of c.in_ok-token.token ∷ c.next.new.self = grind arith in
    let is : c.args.reader.now ≡ Token.string c.in-String.text.now ∷ c.next.new.self = grind (arith, first) in (
      string c.in-String.text.now,
      ap (converted of_json) (ap (value c.args.depth) is ∙ value_is c.args.depth _),
      record { text = refl; port = refl },
    )

pub read_value-returns-in_err-read_number-in-Number-clause-err :
    goal.read_value-returns-in_err-read_number-in-Number-clause-err
read_value-returns-in_err-read_number-in-Number-clause-err t c =
    let first : c.args.reader.now ≡ token_of c.in_ok-token.token ∷ c.next.new.self = grind arith in
    let is : c.args.reader.now ≡ Token.number c.in-Number.digits.now ∷ c.next.new.self = grind (arith, first) in
    on_err c.from_residual-in_err-read_number-in-Number.result
    (number_refused c.args.depth c.args.reader.now _ _ is c.in_err-read_number-in-Number.ensures)

pub read_value-returns-in_ok-read_number-in-Number-clause-ok :
    goal.read_value-returns-in_ok-read_number-in-Number-clause-ok
read_value-returns-in_ok-read_number-in-Number-clause-ok t c =
    let first : c.args.reader.now ≡ token_of c.in_ok-token.token ∷ c.next.new.self = grind arith in
    let is : c.args.reader.now ≡ Token.number c.in-Number.digits.now ∷ c.next.new.self = grind (arith, first) in
    let found = c.in_ok-read_number-in-Number.ensures in
    (_, number_read c.args.depth c.args.reader.now _ _ found.0 is found.1, found.2)

pub read_value-returns-in-Bool-clause-ok : goal.read_value-returns-in-Bool-clause-ok
read_value-returns-in-Bool-clause-ok t c =
    let first : c.args.reader.now ≡ token_of c.in_ok-token.token ∷ c.next.new.self = grind arith in
    plain_read c.args.depth c.args.reader.now c.next.new.self c.in_ok-token.token first c.in-Bool.is

pub read_value-returns-in-EndObject-clause-err : goal.read_value-returns-in-EndObject-clause-err
read_value-returns-in-EndObject-clause-err t c =
    let first : c.args.reader.now ≡ token_of c.in_ok-token.token ∷ c.next.new.self = grind arith in
    let none : value c.args.depth c.args.reader.now ≡ None = rw (value_is c.args.depth c.args.reader.now, first)
    (grind arith) in
    ap (converted of_json) none

pub read_value-returns-then-depth-eq0-clause-err : goal.read_value-returns-then-depth-eq0-clause-err
read_value-returns-then-depth-eq0-clause-err t c =
    let first : c.args.reader.now ≡ token_of c.in_ok-token.token ∷ c.next.new.self = grind arith in
    too_deep c.args.depth c.args.reader.now c.next.new.self _ first (omega arith)
    (inl (ap token_of c.in-BeginArray.is))

pub read_value-returns-then-depth-eq0-2-clause-err : goal.read_value-returns-then-depth-eq0-2-clause-err
read_value-returns-then-depth-eq0-2-clause-err t c =
    let first : c.args.reader.now ≡ token_of c.in_ok-token.token ∷ c.next.new.self = grind arith in
    too_deep c.args.depth c.args.reader.now c.next.new.self _ first (omega arith)
    (inr (ap token_of c.in-BeginObject.is))

pub read_value-returns-in_err-skip_items-in-BeginArray-clause-err :
    goal.read_value-returns-in_err-skip_items-in-BeginArray-clause-err
read_value-returns-in_err-skip_items-in-BeginArray-clause-err t c =
    let first : c.args.reader.now ≡ token_of c.in_ok-token.token ∷ c.next.new.self = grind arith in
    let is : c.args.reader.now ≡ Token.begin_array ∷ c.next.new.self =
    first ∙ ap (λ k. token_of k ∷ c.next.new.self) c.in-BeginArray.is in
    on_err c.from_residual-in_err-skip_items-in-BeginArray.result
    (array_opened c.args.depth c.args.reader.now c.next.new.self is (omega arith)
    ∙ ap (parse_map array) (left_none _ c.in_err-skip_items-in-BeginArray.ensures.err))

pub read_value-returns-in_ok-skip_items-in-BeginArray-clause-ok :
    goal.read_value-returns-in_ok-skip_items-in-BeginArray-clause-ok
read_value-returns-in_ok-skip_items-in-BeginArray-clause-ok t c =
    let first : c.args.reader.now ≡ token_of c.in_ok-token.token ∷ c.next.new.self = grind arith in
    let is : c.args.reader.now ≡ Token.begin_array ∷ c.next.new.self =
    first ∙ ap (λ k. token_of k ∷ c.next.new.self) c.in-BeginArray.is in
    let rest = c.next.new.self in
    let found = left_some (converted of_items (items (value (c.args.depth - 1)) (length rest) rest))
    c.skip_items.new.reader c.in_ok-skip_items-in-BeginArray.ensures.ok in (
      array found.0,
      array_opened c.args.depth c.args.reader.now c.next.new.self is (omega arith) ∙ ap (parse_map array) found.1,
      record { text = refl; port = refl },
    )

pub read_value-returns-in_err-read_members-in-BeginObject-clause-err :
    goal.read_value-returns-in_err-read_members-in-BeginObject-clause-err
read_value-returns-in_err-read_members-in-BeginObject-clause-err t c =
    let first : c.args.reader.now ≡ token_of c.in_ok-token.token ∷ c.next.new.self = grind arith in
    let is : c.args.reader.now ≡ Token.begin_object ∷ c.next.new.self =
    first ∙ ap (λ k. token_of k ∷ c.next.new.self) c.in-BeginObject.is in
    on_err c.from_residual-in_err-read_members-in-BeginObject.result
    (object_opened c.args.depth c.args.reader.now c.next.new.self is (omega arith)
    ∙ ap (parse_map object) c.in_err-read_members-in-BeginObject.ensures.err)

pub read_value-returns-in_ok-read_members-in-BeginObject-clause-ok :
    goal.read_value-returns-in_ok-read_members-in-BeginObject-clause-ok
read_value-returns-in_ok-read_members-in-BeginObject-clause-ok t c =
    let first : c.args.reader.now ≡ token_of c.in_ok-token.token ∷ c.next.new.self = grind arith in
    let is : c.args.reader.now ≡ Token.begin_object ∷ c.next.new.self =
    first ∙ ap (λ k. token_of k ∷ c.next.new.self) c.in-BeginObject.is in
    let found = c.in_ok-read_members-in-BeginObject.ensures.ok in (
      object found.0,
      object_opened c.args.depth c.args.reader.now c.next.new.self is (omega arith) ∙ ap (parse_map object) found.1,
      record { text = refl; port = refl },
    )

pub skip_items-returns-in_err-read_value-clause-err : goal.skip_items-returns-in_err-read_value-clause-err
skip_items-returns-in_err-read_value-clause-err t c =
    let here = c.items.reader in
    let going : (after_end_array here ≡ None) × (c.take_end_array.new.self ≡ here) = grind arith in
    on_err c.from_residual.result (item_broken (value c.args.depth) c.args.reader.now here c.items.invariant going.0
    (rw (← going.1) c.in_err-read_value.ensures.err))

pub skip_items-items-preserved : goal.skip_items-items-preserved
skip_items-items-preserved t c =
    let here = c.items.reader in
    let going : (after_end_array here ≡ None) × (c.take_end_array.new.self ≡ here) = grind arith in
    let done = c.in_ok-read_value.ensures in
    item_passed (value c.args.depth) c.args.reader.now here c.items.invariant c.read_value.new.reader done.ok.0 going.0
    (rw (← going.1) done.ok.1) (rw (← going.1) done.shorter)

pub skip_items-returns-clause-ok : goal.skip_items-returns-clause-ok
skip_items-returns-clause-ok t c =
    items_ended (value c.args.depth) c.args.reader.now c.items.reader c.items.invariant c.take_end_array.new.self
    (grind arith)

pub read_members-returns-in_err-name-clause-err : goal.read_members-returns-in_err-name-clause-err
read_members-returns-in_err-name-clause-err t c =
    on_err c.from_residual.result (key_broken (value c.args.depth) c.args.reader.now c.members.reader c.members.said
    c.members.invariant c.in_err-name.ensures.value)

pub read_members-returns-in_err-content-clause-err : goal.read_members-returns-in_err-content-clause-err
read_members-returns-in_err-content-clause-err t c =
    let named : read_key c.members.reader ≡ Some (Some c.in-Some.name.now, c.next_key.new.self) = grind arith in
    on_err c.from_residual-in_err-content.result (member_broken (value c.args.depth) c.args.reader.now c.members.reader
    c.members.said c.members.invariant c.in-Some.name.now c.next_key.new.self named c.in_err-content.ensures.err)

pub read_members-members-preserved : goal.read_members-members-preserved
read_members-members-preserved t c =
    let named : read_key c.members.reader ≡ Some (Some c.in-Some.name.now, c.next_key.new.self) = grind arith in
    let past = c.members.invariant in
    let done = c.in_ok-content.ensures in
    member_passed (value c.args.depth) c.args.reader.now c.members.reader c.members.said past c.in-Some.name.now
    c.next_key.new.self c.read_value.new.reader done.ok.0 c.add.new.self named done.ok.1 done.shorter
    (c.add.ensures past.found done.ok.0 past.kept done.ok.2)

pub read_members-returns-clause-ok : goal.read_members-returns-clause-ok
read_members-returns-clause-ok t c =
    let past = c.members.invariant in (
      past.found,
      members_ended (value c.args.depth) c.args.reader.now c.members.reader c.members.said past c.next_key.new.self
          (grind arith),
      past.kept,
    )
