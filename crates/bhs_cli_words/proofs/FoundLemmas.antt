-- What is read of clap's matches, by their rows, and of several words.
use Rattle.std.proofs.Common.{◌≡◌, ◌∙◌, ap, sym, refl, ℕ, ◌+◌, ◌<◌, List, [], ◌∷◌, ◌++◌, length, drop, get_or, map}
use Rattle.std.proofs.Common.{Option, Some, None, append_assoc}
use Rattle.std.specs.Prelude.{option_and_then, option_map, unwrap_or}
use Rattle.std.specs.Borrow.{Bor}
use Rattle.std.proofs.lemmas.List.{drop_more}
use Rattle.clap.specs.Words.{Text, first_value, matched_of, raw_values, rows_of}
use Rattle.clap.specs.declared.parser.matches.Found.{Found}
use Rattle.clap.proofs.WalkLemmas.{first_value-rows, raw_values-rows}
use Rattle.bhs_cli_words.specs.Arguments.{all_said, text_in, texts_in}

-- the text of an optional borrowed word, empty without one
unwrapped : (o : Option (Bor Text)) (d : Bor Text) → d.now ≡ []
    → (unwrap_or o d).now ≡ unwrap_or (option_map (λ s. s.now) o) []
unwrapped None d is = is
unwrapped (Some s) d is = refl

-- the text that clap found
pub text_found : (found : Found) (id : Text) (o : Option (Bor Text)) (name d : Bor Text)
    → option_map (λ s. s.now) o ≡ first_value found id
    → d.now ≡ [] → name ≡ unwrap_or o d → name.now ≡ text_in id (rows_of found)
text_found found id o name d is none same =
    ap (λ (b : Bor Text). b.now) same ∙ unwrapped o d none ∙ ap (λ (text : Option Text). unwrap_or text [])
    (is ∙ first_value-rows found id)

-- the results of the words so far, followed by those of the remaining words
abbrev pub joined : {T : Type 0} → List T → Option (List T) → Option (List T)
joined done rest = option_map (λ more. done ++ more) rest

abbrev pub texts_from : (place : ℕ) → List (Bor Text) → List Text
texts_from place words = map (λ word. word.now) (drop place words)

-- one more, or none
abbrev pub then_one : {T : Type 0} → Option T → Option (List T) → Option (List T)
then_one found rest = option_and_then (λ one. option_map (λ more. one ∷ more) rest) found

module _ {T : Type 0} (says : Text → Option T) (words : List (Bor Text)) (place : ℕ) (d : Bor Text)
    (within : place < length words) (found : Option T) (is : found ≡ says (get_or words place d).now) where
  next_said : all_said says (texts_from place words) ≡ then_one found (all_said says (texts_from (place + 1) words))
  next_said =
      ap (λ (rest : List (Bor Text)). all_said says (map (λ one. one.now) rest)) (drop_more words place d within)
      ∙ ap (λ (one : Option T). then_one one (all_said says (texts_from (place + 1) words))) (sym is)

  module _ (done : List T) (so_far : joined done (all_said says (texts_from place words)) ≡ all_said says
      (texts_from 0 words)) where
    -- a word that says nothing
    pub says_none : found ≡ None → (let none : Option (List T) = None in none ≡ all_said says (texts_from 0 words))
    says_none none =
        sym (ap (λ (one : Option T). joined done (then_one one (all_said says (texts_from (place + 1) words)))) none)
        ∙ (sym (ap (joined done) next_said) ∙ so_far)

    pushed : (one : T) (rest : Option (List T)) → joined (done ++ one ∷ []) rest ≡ joined done
        (option_map (λ more. one ∷ more) rest)
    pushed one None = refl
    pushed one (Some more) = ap Some (append_assoc done (one ∷ []) more)

    -- a word that says something
    pub says_one : (one : T) → found ≡ Some one
        → joined (done ++ one ∷ []) (all_said says (texts_from (place + 1) words)) ≡ all_said says (texts_from 0 words)
    says_one one some =
        pushed one (all_said says (texts_from (place + 1) words))
        ∙ (sym (ap (λ (it : Option T). joined done (then_one it (all_said says (texts_from (place + 1) words)))) some)
        ∙ (sym (ap (joined done) next_said) ∙ so_far))

-- a name together with its text, where both exist
pub both_found : {X N R : Type 0} (first : X → N) (second : X → R) (found : Option X) (name : N) (rest : R)
    → Some name ≡ option_map first found
    → Some rest ≡ option_map (λ (one : N × R). one.1) (option_map {U = N × R} (λ one. (first one, second one)) found)
    → option_map {U = N × R} (λ one. (first one, second one)) found ≡ Some (name, rest)
both_found first second None name rest named said = absurd cc
both_found first second (Some one) name rest named said = cc

-- the texts that clap found
pub texts_found : (found : Found) (id : Text) (texts : Bor (List (Bor Text)))
    → option_map (λ (s : Bor (List (Bor Text))). map (λ v. v.now) s.now) (Some texts) ≡ option_map raw_values
    (matched_of found id)
    → map (λ v. v.now) texts.now ≡ texts_in id (rows_of found)
texts_found found id texts is = ap (λ (all : Option (List Text)). unwrap_or all []) (is ∙ raw_values-rows found id)

pub no_texts_found : (found : Found) (id : Text)
    → (let none : Option (List Text) = None in none ≡ option_map raw_values (matched_of found id))
    → (let none : List Text = [] in none ≡ texts_in id (rows_of found))
no_texts_found found id is = ap (λ (all : Option (List Text)). unwrap_or all []) (is ∙ raw_values-rows found id)
