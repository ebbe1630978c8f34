-- The fold over an object's members, and the command that its final state gives.
use Rattle.std.proofs.Common.{◌≡◌, ℕ, List, [], ◌∷◌, false, bytes_eq, true≢false, Option, Some, None}
use Rattle.std.proofs.Common.{option_map, option_and_then, length, codes, refl, sym, ap, ◌∙◌, arith}
use Rattle.std.proofs.lemmas.Slice.Eq.{bytes_eq-Decides}
use Rattle.json.specs.Json as json
use Rattle.json.specs.Json.{Parse, parse_map, members, value, value_with}
use Rattle.json.specs.Token.{Token}
use Rattle.json.proofs.Grammar.{value_is}
use Rattle.json.specs.Reads.{token_of}
use Rattle.json.specs.declared.token.Token as code
use Rattle.json.specs.declared.token.Token.TheVariants.{BeginObject, EndObject, BeginArray, EndArray, Key, String}
use Rattle.json.specs.declared.token.Token.TheVariants.{Number, Bool as Boolean, Null, Bad as Fault}
use Rattle.serde_json.proofs.Views.{get_member-put, get_member-put_other}
use Rattle.serde_json.specs.Data.{Num, Items, Data, Members, number, array, object, no_members, put}
use Rattle.serde_json.specs.Read.{number_of, of_json, of_items, of_members, converted}
use Rattle.serde_json.specs.Find.{as_str, as_number, as_u64}
use Rattle.bhs_wire.specs.declared.commands.First.TheVariants.{Tell}
use Rattle.bhs_model.specs.declared.commands.Command.TheVariants.{Bad}
use Rattle.bhs_wire.specs.declared.said.Content.{Content}
use Rattle.bhs_wire.specs.declared.said.Said.{Said}
use Rattle.bhs_wire.specs.First.{text_at, port_at, if_port, first_by, first_in, first_of_read}
use Rattle.bhs_wire.specs.Said.{text_in, port_in, IsContentOf, IsSaidBy, told_with, told}
use Rattle.bhs_wire.specs.Said.{said_by_tokens}
use Rattle.bhs_wire.proofs.Reading.{whole, whole_read, whole_and_more, whole_refused, object_opened}

-- two names that are not the same
differ : (a b : List ℕ) → bytes_eq a b ≡ false → a ≡ b → ⊥
differ a b not same = true≢false (sym ((bytes_eq-Decides a b).1 same) ∙ not)

module _ (d : Data) (ms : Members) where
  -- a member that is added gives what its key has
  here : (k : List ℕ) (content : Content) → IsContentOf content d → text_in content ≡ text_at k (object (put k d ms))
  here k content is = is.text ∙ sym (ap (option_and_then as_str) (get_member-put k d ms))

  port_here : (k : List ℕ) (content : Content) → IsContentOf content d
      → port_in content ≡ port_at k (object (put k d ms))
  port_here k content is = is.port ∙ sym
      (ap (λ o. option_and_then if_port (option_and_then as_u64 (option_and_then as_number o))) (get_member-put k d ms))

  -- and the other keys keep theirs
  there : (q k : List ℕ) (t : Option (List ℕ)) → bytes_eq k q ≡ false → t ≡ text_at q (object ms)
      → t ≡ text_at q (object (put k d ms))
  there q k t other e =
      e ∙ sym (ap (option_and_then as_str) (get_member-put_other q k d ms (λ same. differ k q other (sym same))))

  port_there : (q k : List ℕ) (n : Option ℕ) → bytes_eq k q ≡ false → n ≡ port_at q (object ms)
      → n ≡ port_at q (object (put k d ms))
  port_there q k n other e =
      e ∙ sym (ap (λ o. option_and_then if_port (option_and_then as_u64 (option_and_then as_number o)))
      (get_member-put_other q k d ms (λ same. differ k q other (sym same))))

  module _ (said : Said) (kept : IsSaidBy said ms) where
    -- a member that nobody looks at
    pub passed_over : (k : List ℕ) → bytes_eq k (codes "do") ≡ false → bytes_eq k (codes "key") ≡ false
        → bytes_eq k (codes "expect") ≡ false → bytes_eq k (codes "put") ≡ false → bytes_eq k (codes "port") ≡ false
        → IsSaidBy said (put k d ms)
    passed_over k word key expect put port =
        record {
          word = there (codes "do") k _ word kept.word;
          key = there (codes "key") k _ key kept.key;
          expect = there (codes "expect") k _ expect kept.expect;
          put = there (codes "put") k _ put kept.put;
          port = port_there (codes "port") k _ port kept.port;
        }

    module _ (content : Content) (is : IsContentOf content d) where
      pub word_added : IsSaidBy (record said { word = content }) (put (codes "do") d ms)
      word_added =
          record {
            word = here (codes "do") content is;
            key = there (codes "key") (codes "do") _ refl kept.key;
            expect = there (codes "expect") (codes "do") _ refl kept.expect;
            put = there (codes "put") (codes "do") _ refl kept.put;
            port = port_there (codes "port") (codes "do") _ refl kept.port;
          }

      pub key_added : IsSaidBy (record said { key = content }) (put (codes "key") d ms)
      key_added =
          record {
            word = there (codes "do") (codes "key") _ refl kept.word;
            key = here (codes "key") content is;
            expect = there (codes "expect") (codes "key") _ refl kept.expect;
            put = there (codes "put") (codes "key") _ refl kept.put;
            port = port_there (codes "port") (codes "key") _ refl kept.port;
          }

      pub expect_added : IsSaidBy (record said { expect = content }) (put (codes "expect") d ms)
      expect_added =
          record {
            word = there (codes "do") (codes "expect") _ refl kept.word;
            key = there (codes "key") (codes "expect") _ refl kept.key;
            expect = here (codes "expect") content is;
            put = there (codes "put") (codes "expect") _ refl kept.put;
            port = port_there (codes "port") (codes "expect") _ refl kept.port;
          }

      pub put_added : IsSaidBy (record said { put = content }) (put (codes "put") d ms)
      put_added =
          record {
            word = there (codes "do") (codes "put") _ refl kept.word;
            key = there (codes "key") (codes "put") _ refl kept.key;
            expect = there (codes "expect") (codes "put") _ refl kept.expect;
            put = here (codes "put") content is;
            port = port_there (codes "port") (codes "put") _ refl kept.port;
          }

      pub port_added : IsSaidBy (record said { port = content }) (put (codes "port") d ms)
      port_added =
          record {
            word = there (codes "do") (codes "port") _ refl kept.word;
            key = there (codes "key") (codes "port") _ refl kept.key;
            expect = there (codes "expect") (codes "port") _ refl kept.expect;
            put = there (codes "put") (codes "port") _ refl kept.put;
            port = port_here (codes "port") content is;
          }

told_with-first_by : (o : Option (List ℕ)) (said : Said) (ms : Members) → IsSaidBy said ms
    → told_with o said ≡ first_by o (object ms)
told_with-first_by None said ms is = refl
told_with-first_by (Some word) said ms is = rw (is.key, is.expect, is.put, is.port)

-- what was taken says what the object says
pub told-first_in : (said : Said) (ms : Members) → IsSaidBy said ms → told said ≡ first_in (object ms)
told-first_in said ms is =
    ap (λ o. told_with o said) is.word ∙ told_with-first_by (text_at (codes "do") (object ms)) said ms is

-- ---- a text with exactly one object, and any other text

ends : (j : json.Json) (r : List Token) → first_of_read (of_json j) ≡ Tell Bad
    → first_of_read (whole (Some (j, r))) ≡ Tell Bad
ends j [] e = e
ends j (t ∷ r) e = refl

no_number : (n : Option Num) → first_of_read (option_map number n) ≡ Tell Bad
no_number None = refl
no_number (Some n) = refl

no_items : (items : Option Items) → first_of_read (option_map array items) ≡ Tell Bad
no_items None = refl
no_items (Some items) = refl

no_array : (o : Option (json.Items × List Token)) → first_of_read (whole (parse_map json.array o)) ≡ Tell Bad
no_array None = refl
no_array (Some p) = ends (json.array p.0) p.1 (no_items (of_items p.0))

no_object : (a : Parse json.Items) (o : Parse json.Members) (t : code.Token) (r : List Token) → (t ≡ BeginObject → ⊥)
    → first_of_read (whole (value_with a o (token_of t ∷ r))) ≡ Tell Bad
no_object a o BeginObject r other = absurd (other refl)
no_object a o EndObject r other = refl
no_object a o BeginArray r other = no_array (a r)
no_object a o EndArray r other = refl
no_object a o (Key s) r other = refl
no_object a o (String s) r other = ends (json.string s.now) r refl
no_object a o (Number s) r other = ends (json.number s.now) r (no_number (number_of s.now))
no_object a o (Boolean b) r other = ends (json.boolean b) r refl
no_object a o Null r other = ends json.null r refl
no_object a o Fault r other = refl

-- no text is a bad command
pub said-none : (ts : List Token) → ts ≡ [] → said_by_tokens ts ≡ Tell Bad
said-none ts none = ap said_by_tokens none ∙ ap (λ o. first_of_read (whole o)) (value_is 127 [])

-- A text that begins with another token than an object is refused.
pub said-no_object : (ts : List Token) (t : code.Token) (r : List Token) → ts ≡ token_of t ∷ r → (t ≡ BeginObject → ⊥)
    → said_by_tokens ts ≡ Tell Bad
said-no_object ts t r is other =
    ap said_by_tokens is ∙ (ap (λ o. first_of_read (whole o)) (value_is 127 (token_of t ∷ r))
    ∙ no_object _ _ t r other)

module _ (ts r : List Token) (is : ts ≡ Token.begin_object ∷ r) where
  opened : converted of_json (value 127 ts)
      ≡ parse_map object (converted (λ ms. of_members ms no_members) (members (value 126) (length r) r))
  opened = object_opened 127 ts r is (omega arith)

  -- an object at the end of the text
  pub said-object : (said : Said) (all : Members) (rest : List Token)
      → converted (λ ms. of_members ms no_members) (members (value 126) (length r) r) ≡ Some (all, rest)
      → rest ≡ [] → IsSaidBy said all → said_by_tokens ts ≡ told said
  said-object said all rest read none kept =
      let value_read = opened ∙ (ap (parse_map object) read ∙ ap (λ left. Some (object all, left)) none) in
      ap first_of_read (whole_read (value 127 ts) (object all) value_read) ∙ sym (told-first_in said all kept)

  -- an object followed by further tokens
  pub said-more : (all : Members) (rest more : List Token) (t : Token)
      → converted (λ ms. of_members ms no_members) (members (value 126) (length r) r) ≡ Some (all, rest)
      → rest ≡ t ∷ more → said_by_tokens ts ≡ Tell Bad
  said-more all rest more t read some =
      let value_read = opened ∙ (ap (parse_map object) read ∙ ap (λ left. Some (object all, left)) some) in
      ap first_of_read (whole_and_more (value 127 ts) (object all) t more value_read)

  -- an object without its closing brace
  pub said-refused : converted (λ ms. of_members ms no_members) (members (value 126) (length r) r) ≡ None
      → said_by_tokens ts ≡ Tell Bad
  said-refused none = ap first_of_read (whole_refused (value 127 ts) (opened ∙ ap (parse_map object) none))
