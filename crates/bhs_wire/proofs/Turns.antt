-- What is known between two items of an array, and between two members of an object.
use Rattle.std.proofs.Common.{◌≡◌, ℕ, ◌-◌, ◌<◌, ◌≤◌, List, length, Some, None, ap, ◌∙◌, arith}
use Rattle.json.specs.Token.{Token}
use Rattle.json.specs.Json as json
use Rattle.json.specs.Json.{Parse, after_end_array, read_key, items, members}
use Rattle.json.proofs.Grammar.{read_key-shorter}
use Rattle.serde_json.specs.Data.{Data, Members, no_members, put}
use Rattle.serde_json.specs.Read.{of_json, of_items, of_members, converted}
use Rattle.bhs_wire.specs.declared.said.Said.{Said}
use Rattle.bhs_wire.specs.Said.{IsSaidBy, rest_of}
use Rattle.bhs_wire.proofs.Reading.{item_read, item_refused, items_over}
use Rattle.bhs_wire.proofs.Reading.{member_read, member_refused, key_refused, members_over}

-- the array from the start ends where it ends from here
pub record IsPastItems (p : Parse json.Json) (start here : List Token) : Type 0 where
  pub turns : ℕ
  pub enough : length here ≤ turns
  pub same : rest_of (converted of_items (items p (length start) start))
      ≡ rest_of (converted of_items (items p turns here))
  pub shorter : length here ≤ length start

-- The members read so far and the members still to come are all members, and the fold has consumed the former.
pub record IsPastMembers (p : Parse json.Json) (start here : List Token) (said : Said) : Type 0 where
  pub turns : ℕ
  pub found : Members
  pub enough : length here ≤ turns
  pub same : converted (λ ms. of_members ms no_members) (members p (length start) start)
      ≡ converted (λ ms. of_members ms found) (members p turns here)
  pub shorter : length here ≤ length start
  pub kept : IsSaidBy said found

module _ (p : Parse json.Json) (start : List Token) where
  module _ (here : List Token) (past : IsPastItems p start here) where
    pub item_passed : (r : List Token) (d : Data) → after_end_array here ≡ None
        → converted of_json (p here) ≡ Some (d, r) → length r < length here → IsPastItems p start r
    item_passed r d going read less =
        record {
          turns = past.turns - 1;
          enough = omega (arith, past.enough);
          same = past.same ∙ item_read p past.turns here r d (omega (arith, past.enough)) going read;
          shorter = omega (arith, past.shorter);
        }

    pub item_broken : after_end_array here ≡ None → converted of_json (p here) ≡ None
        → rest_of (converted of_items (items p (length start) start)) ≡ None
    item_broken going none = past.same ∙ ap rest_of (item_refused p past.turns here going none)

    pub items_ended : (r : List Token) → after_end_array here ≡ Some r
        → rest_of (converted of_items (items p (length start) start)) ≡ Some r
    items_ended r over = past.same ∙ items_over p past.turns here r past.enough over

  module _ (here : List Token) (said : Said) (past : IsPastMembers p start here said) where
    pub member_passed : (k : List ℕ) (s r : List Token) (d : Data) (more : Said)
        → read_key here ≡ Some (Some k, s) → converted of_json (p s) ≡ Some (d, r) → length r < length s
        → IsSaidBy more (put k d past.found) → IsPastMembers p start r more
    member_passed k s r d more named read less kept =
        let lesser = read_key-shorter here (Some k) s named in
        record {
          turns = past.turns - 1;
          found = put k d past.found;
          enough = omega (arith, past.enough);
          same = past.same ∙ member_read p past.found past.turns k here s r d (omega (arith, past.enough)) named read;
          shorter = omega (arith, past.shorter);
          kept = kept;
        }

    pub member_broken : (k : List ℕ) (s : List Token) → read_key here ≡ Some (Some k, s)
        → converted of_json (p s) ≡ None
        → converted (λ ms. of_members ms no_members) (members p (length start) start) ≡ None
    member_broken k s named none = past.same ∙ member_refused p past.found past.turns k here s named none

    pub key_broken : read_key here ≡ None
        → converted (λ ms. of_members ms no_members) (members p (length start) start) ≡ None
    key_broken none = past.same ∙ key_refused p past.found past.turns here none

    pub members_ended : (r : List Token) → read_key here ≡ Some (None, r)
        → converted (λ ms. of_members ms no_members) (members p (length start) start) ≡ Some (past.found, r)
    members_ended r over = past.same ∙ members_over p past.found past.turns here r past.enough over
