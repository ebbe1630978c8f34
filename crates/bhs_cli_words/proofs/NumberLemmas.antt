-- What parsing a word comes to, by its digits.
use Rattle.std.proofs.Common.{◌≡◌, ◌∙◌, ap, ap₂, not, sym, refl, true≢false, ℕ, ◌<◌, ◌^◌, ◌&&◌, Bool, true, false}
use Rattle.std.proofs.Common.{List, []}
use Rattle.std.proofs.Common.{◌∷◌, length, Option, Some, None, Result, Ok, Err, arith, is_some}
use Rattle.std.specs.Prelude.{if◌then◌else◌, nat_le}
use Rattle.std.specs.Result.{OkIff, result_ok}
use Rattle.std.specs.List.{list_all}
use Rattle.std.specs.Char.{is_ascii_digit}
use Rattle.std.proofs.lemmas.Bool.Decides.{nat_tests}
use Rattle.std.specs.Str.{all_ascii_digits}
use Rattle.std.specs.Str.Parse.{ParsesUnsigned, digits_value}
use Rattle.std.proofs.lemmas.Str.Parse.{numerals_by_value, parse_digits, tells_all_ascii_digits}
use Rattle.clap.specs.Walk.{is_empty}
use Rattle.bhs_cli_words.specs.Arguments.{number_of, number_within}
use Rattle.bhs_cli_words.specs.Serving.{ServeWords, are_numbers, gather_option, grace_option, hosting_in, hosting_of}
use Rattle.bhs_cli_words.specs.Serving.{pause_option, plain_words, port_option, sessions_option, turns_option}
use Rattle.bhs_cli_words.specs.CommandLine.{is_dashed}
use Rattle.bhs_cli_words.specs.declared.orders.Hosting.{Hosting}

same_test : (word : List ℕ) → all_ascii_digits word ≡ list_all is_ascii_digit word
same_test [] = refl
same_test (byte ∷ bytes) = ap (λ (b : Bool). is_ascii_digit byte && b) (same_test bytes)

-- Digits that do not parse as a 32-bit number spell no number within a smaller bound.
unread : {E : Type 0} (least most : ℕ) (word : List ℕ) (r : Result ℕ E) → most < 2 ^ 32
    → list_all is_ascii_digit word ≡ true → result_ok r ≡ None
    → OkIff r ((0 < length word) × (digits_value 10 word < 2 ^ 32)) (digits_value 10 word)
    → (let one : Option ℕ = None in one ≡ number_within least most word)
unread least most word (Ok n) small digits none given = absurd (true≢false (ap is_some none))
unread least most word (Err e) small digits none given = grind (arith, nat_tests, digits)

-- A word of digits that does not parse is no number.
pub no_number : {E : Type 0} (least most : ℕ) (word : List ℕ) (r : Result ℕ E) → most < 2 ^ 32
    → list_all is_ascii_digit word ≡ true → ParsesUnsigned 32 10 word r → result_ok r ≡ None
    → (let one : Option ℕ = None in one ≡ number_within least most word)
no_number least most word r small digits parses none =
    unread least most word r small digits none (parse_digits
    (numerals_by_value (λ ds. all_ascii_digits ds ≡ true) tells_all_ascii_digits) 32 word r parses
    (same_test word ∙ digits))

-- ---- words that are numbers

-- a word that says this number
record Spells (least most : ℕ) (word : List ℕ) (number : ℕ) : Type 0 where
  is_number : is_some (number_within least most word) ≡ true
  value : digits_value 10 word ≡ number

value_of : (b : Bool) (n m : ℕ) → Some m ≡ (if b then Some n else None) → n ≡ m
value_of true n m e = cc
value_of false n m e = absurd (true≢false (ap is_some e))

spells : (least most : ℕ) (word : List ℕ) (number : ℕ) → Some number ≡ number_within least most word
    → Spells least most word number
spells least most word number e =
    let value = digits_value 10 word in
    record {
      is_number = ap is_some (sym e);
      value = value_of
          (list_all is_ascii_digit word && (not (is_empty word) && (nat_le least value && nat_le value most)))
          value number e;
    }

both_hold : {a b : Bool} → a ≡ true → b ≡ true → (a && b) ≡ true
both_hold e f = ap₂ (λ (a b : Bool). a && b) e f

-- words that say this hosting
pub record AreSaid (words : ServeWords) (hosting : Hosting) : Type 0 where
  pub port : Some hosting.port ≡ number_of port_option words.port
  pub sessions : Some hosting.sessions ≡ number_of sessions_option words.sessions
  pub turns : Some hosting.turns ≡ number_of turns_option words.turns
  pub pause : Some hosting.pause ≡ number_of pause_option words.pause
  pub grace : Some hosting.grace ≡ number_of grace_option words.grace
  pub gather : Some hosting.gather ≡ number_of gather_option words.gather
  pub early : hosting.early ≡ words.early
  pub log : hosting.log ≡ words.log
  pub address : hosting.address ≡ words.address
  pub prefix : hosting.prefix ≡ words.prefix

pub hosting_said : (words : ServeWords) (hosting : Hosting) → AreSaid words hosting → Some hosting ≡ hosting_in words
hosting_said words hosting said =
    let port = spells 1 65535 words.port hosting.port said.port in
    let sessions = spells 1 1024 words.sessions hosting.sessions said.sessions in
    let turns = spells 0 4294967295 words.turns hosting.turns said.turns in
    let pause = spells 0 4294967295 words.pause hosting.pause said.pause in
    let grace = spells 0 4294967295 words.grace hosting.grace said.grace in
    let gather = spells 0 4294967295 words.gather hosting.gather said.gather in
    let all : are_numbers words ≡ true =
    both_hold port.is_number (both_hold sessions.is_number (both_hold turns.is_number (both_hold pause.is_number
    (both_hold grace.is_number gather.is_number)))) in
    let same : record {
      port = hosting.port;
      sessions = hosting.sessions;
      turns = hosting.turns;
      pause = hosting.pause;
      grace = hosting.grace;
      gather = hosting.gather;
      early = hosting.early;
      log = hosting.log;
      address = hosting.address;
      prefix = hosting.prefix;
    } ≡ hosting_of words = rw (
      port.value,
      sessions.value,
      turns.value,
      pause.value,
      grace.value,
      gather.value,
      ← said.early,
      ← said.log,
      ← said.address,
      ← said.prefix,
    ) refl in
    ap Some same ∙ sym (ap (λ (b : Bool). if b then Some (hosting_of words) else None) all)

-- a word that is a number begins with a digit
number_plain : (least most : ℕ) (word : List ℕ) → is_some (number_within least most word) ≡ true
    → is_dashed word ≡ false
number_plain least most [] some = refl
number_plain least most (byte ∷ bytes) some = grind (arith, nat_tests, some)

-- none of these words begins with a hyphen
pub record ArePlain (port sessions turns pause : List ℕ) : Type 0 where
  pub first : is_dashed port ≡ false
  pub second : is_dashed sessions ≡ false
  pub third : is_dashed turns ≡ false
  pub fourth : is_dashed pause ≡ false

-- a conjunction implies both of its parts
both_true : (a b : Bool) → (a && b) ≡ true → (a ≡ true) × (b ≡ true)
both_true true true e = (refl, refl)
both_true true false e = absurd (true≢false (sym e))
both_true false b e = absurd (true≢false (sym e))

-- words that say a hosting are numbers
hosted : (words : ServeWords) (hosting : Hosting) → hosting_in words ≡ Some hosting → are_numbers words ≡ true
hosted words hosting e = go (are_numbers words) refl
  where
    go : (b : Bool) → are_numbers words ≡ b → b ≡ true
    go true is = refl
    go false is = absurd (true≢false (sym (ap is_some (rw is at e))))

-- so the first four begin with no hyphen
pub hosting_plain : (port sessions turns pause prefix : List ℕ) (hosting : Hosting)
    → hosting_in (plain_words port sessions turns pause prefix) ≡ Some hosting → ArePlain port sessions turns pause
hosting_plain port sessions turns pause prefix hosting e =
    let first = both_true _ _ (hosted (plain_words port sessions turns pause prefix) hosting e) in
    let second = both_true _ _ first.1 in
    let third = both_true _ _ second.1 in
    let fourth = both_true _ _ third.1 in
    record {
      first = number_plain 1 65535 port first.0;
      second = number_plain 1 1024 sessions second.0;
      third = number_plain 0 4294967295 turns third.0;
      fourth = number_plain 0 4294967295 pause fourth.0;
    }
