-- What each key of the two files may hold: the value that the data stands for, or None if it has another shape.
use Rattle.std.specs.Prelude.{ℕ, pos, Bool, true, false, ◌&&◌, ◌==◌, ◌+◌, ◌∷◌, not, nat_eq, nat_le, if◌then◌else◌, List}
use Rattle.std.specs.Prelude.{[]}
use Rattle.std.specs.Prelude.{length, codes, Option, Some, None, option_map, option_and_then}
use Rattle.std.specs.List.{list_all}
use Rattle.std.specs.Cmp.Lexicographic.{pointwise}
use Rattle.std.specs.Result.{result_ok}
use Rattle.toml.specs.Data.{Data, string, integer, array, Items, no_items, item, Members, as_table}
use Rattle.bhs_model.specs.declared.limits.TheConstants.{SEED_BYTES}
use Rattle.hex.specs.Hex.{decode_sized}
use Rattle.bhs_text.specs.Teams.{is_team}
use Rattle.bhs_time.specs.declared.delays.TheConstants.{MAX_SCALES}
use Rattle.bhs_files.specs.declared.limits.TheConstants.{MAX_MATCHES, MAX_NETWORK_NAME, MAX_KEY, MAX_KEYS}

-- a whole number 0 to 65,535
abbrev pub number : Data → Option ℕ
number (integer (pos n)) = if nat_le n 65535 then Some n else None
number _ = None

-- a text that passes the test
abbrev pub text_where : (List ℕ → Bool) → Data → Option (List ℕ)
text_where test (string bytes) = if test bytes then Some bytes else None
text_where test _ = None

-- whether a text has at least one byte and at most this many
abbrev pub is_sized : ℕ → List ℕ → Bool
is_sized most bytes = nat_le 1 (length bytes) && nat_le (length bytes) most

-- the name of a network's file
abbrev pub is_network_name : List ℕ → Bool
is_network_name bytes = is_sized MAX_NETWORK_NAME bytes && list_all (λ byte. not (byte == 0)) bytes

abbrev pub team : Data → Option (List ℕ)
team = text_where is_team

abbrev pub network_name : Data → Option (List ℕ)
network_name = text_where is_network_name

-- a key that lets an agent enter
abbrev pub key : Data → Option (List ℕ)
key = text_where (is_sized MAX_KEY)

-- the bytes that twice as many hexadecimal digits spell, of either case
abbrev pub seed : Data → Option (List ℕ)
seed (string text) = result_ok (decode_sized text SEED_BYTES)
seed _ = None

-- whether the name denotes the oblivious schedule
abbrev pub is_oblivious : Data → Option Bool
is_oblivious (string text) =
    if pointwise nat_eq text (codes "oblivious") then Some true
    else (if pointwise nat_eq text (codes "adaptive") then Some false else None)
is_oblivious _ = None

-- a whole number of scales, 0 to 24
abbrev pub delay_scales : Data → Option ℕ
delay_scales found = option_and_then (λ scales. if nat_le scales MAX_SCALES then Some scales else None) (number found)

-- An integer from 1 to 65,535, no less than the number of scales.
abbrev pub delay_odds : (scales : ℕ) → Data → Option ℕ
delay_odds scales found =
    option_and_then (λ odds. if nat_le 1 odds && nat_le scales odds then Some odds else None) (number found)

-- the node of the black hole, or no node where the text is `none`
abbrev pub hole : Data → Option (Option ℕ)
hole (string text) = if pointwise nat_eq text (codes "none") then Some None else None
hole found = option_map (λ node. Some node) (number found)

-- a list of two numbers
abbrev pub pair : Data → Option (ℕ × ℕ)
pair (array (item a (item b no_items))) = option_and_then
    (λ node. option_map (λ port. (node, port)) (number b)) (number a)
pair _ = None

abbrev pub count : Items → ℕ
count no_items = 0
count (item d ds) = count ds + 1

-- a list whose items are parsed by this function
abbrev pub list_where : {A : Type 0} → (Items → Option A) → Data → Option A
list_where read (array items) = read items
list_where read _ = None

module _ {A : Type 0} (shape : Data → Option A) where
  -- each item in the shape
  abbrev pub each : Items → Option (List A)
  each no_items = Some []
  each (item d ds) = option_and_then (λ v. option_map (λ vs. v ∷ vs) (each ds)) (shape d)

-- the keys of a match's agents
abbrev pub keys : Data → Option (List (List ℕ))
keys = list_where (λ items. if nat_le (count items) MAX_KEYS then each key items else None)

-- black holes, each as a node
abbrev pub holes : Data → Option (List ℕ)
holes = list_where (each number)

-- links, each as a node and a port
abbrev pub ends : Data → Option (List (ℕ × ℕ))
ends = list_where (each pair)

-- the tables of 1 to `MAX_MATCHES` matches
abbrev pub matches : Data → Option (List Members)
matches = list_where (λ items. if nat_le 1 (count items) && nat_le (count items) MAX_MATCHES
    then each as_table items else None)
