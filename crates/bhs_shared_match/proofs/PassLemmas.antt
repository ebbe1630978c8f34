-- What a pass keeps: its places ascend, and its mark of an end is that of its receipts.
use Rattle.std.proofs.Common.{◌≡◌, ℕ, suc, ◌+◌, ◌<◌, ◌≤◌, ◌-◌, Bool, true, false, ◌||◌, Some, None, List, [], ◌∷◌, ◌++◌}
use Rattle.std.proofs.Common.{length, refl, sym, ap, ◌∙◌, arith, if◌then◌else◌, length-append}
use Rattle.std.specs.Prelude.{slice_get}
use Rattle.std.specs.List.{list_any}
use Rattle.std.proofs.lemmas.Bool.{ltb-true}
use Rattle.bhs_model.specs.declared.commands.Command.{Command}
use Rattle.bhs_model.specs.declared.marks.Mark.{Mark}
use Rattle.bhs_model.specs.declared.marks.Mark.TheVariants as marks
use Rattle.bhs_model.specs.declared.replies.Reply.{Reply}
use Rattle.bhs_shared_match.specs.declared.model.Receipt.{Receipt}
use Rattle.bhs_shared_match.specs.Passes.{Passed, is_end, is_last, Ascend, AreBelow}
use Rattle.bhs_shared_match.specs.LockedMatches.{is_below, place_below, spoken}
use Rattle.bhs_shared_match.proofs.PlaceLemmas.{any_push}

-- With ascending places, a bound on the last place bounds all places.
pub all_below : (least : ℕ) (receipts : List Receipt) (place : ℕ) → Ascend least receipts
    → is_below receipts place ≡ true → AreBelow place receipts
all_below least [] place order below = tt
all_below least (receipt ∷ []) place order below = (ltb-true receipt.place place below, tt)
all_below least (receipt ∷ next ∷ receipts) place order below =
    let last : length (receipt ∷ next ∷ receipts) - 1 ≡ suc (length receipts) = omega arith in
    let later : length (next ∷ receipts) - 1 ≡ length receipts = omega arith in
    let there : is_below (next ∷ receipts) place ≡ true =
    ap (λ (n : ℕ). place_below (slice_get (next ∷ receipts) n) place) later
    ∙ sym (ap (λ (n : ℕ). place_below (slice_get (receipt ∷ next ∷ receipts) n) place) last) ∙ below in
    let rest : AreBelow place (next ∷ receipts) = all_below (receipt.place + 1) (next ∷ receipts) place order.1 there in
    let first : receipt.place < place = omega (arith, order.1.0, rest.0) in
    (first, rest)

-- one place more, above them
pub ascend_more : (least : ℕ) (receipts : List Receipt) (receipt : Receipt) → Ascend least receipts
    → AreBelow receipt.place receipts → least ≤ receipt.place → Ascend least (receipts ++ receipt ∷ [])
ascend_more least [] receipt order below least_below = (least_below, tt)
ascend_more least (first ∷ receipts) receipt order below least_below =
    let above : first.place + 1 ≤ receipt.place = omega (arith, below.0) in
    (order.0, ascend_more (first.place + 1) receipts receipt order.1 below.1 above)

-- whether a reply ends an agent does not depend on a text
end_spoken : (mark : Mark) (text other : List ℕ) → is_end (spoken mark text) ≡ is_end (spoken mark other)
end_spoken (marks.Here ports came board) text other = refl
end_spoken marks.Written text other = refl
end_spoken (marks.Changed board) text other = refl
end_spoken marks.Gone text other = refl
end_spoken marks.Noted text other = refl
end_spoken marks.Bye text other = refl
end_spoken marks.Over text other = refl
end_spoken (marks.No why) text other = refl

-- An event with a place has this place.
pub placed : (b : Bool) (n place : ℕ) → Some place ≡ (if b then Some n else None) → place ≡ n
placed true n place is = cc
placed false n place is = absurd cc

-- what a pass keeps true of its fields
abbrev pub IsOrdered : Bool → List Receipt → List Command → Type 0
IsOrdered ended receipts commands = (ended ≡ list_any is_last receipts) × (length receipts ≡ length commands)
    × Ascend 0 receipts

pub ordered_more : (given : Passed) (ended more_ended : Bool) (inside room receipts : List Receipt)
    (own space commands : List Command) (kept : Command) (b : Bool) (n place : ℕ) (mark : Mark) (text other : List ℕ)
    (said again : Reply) →
    IsOrdered ended inside own → inside ≡ given.receipts → is_below given.receipts n ≡ true
    → Some place ≡ (if b then Some n else None) →
    room ≡ inside → space ≡ own → said ≡ spoken mark text → again ≡ spoken mark other → more_ended ≡ is_end said →
    receipts ≡ room ++ record { place = place; reply = again } ∷ [] → commands ≡ space ++ kept ∷ []
    → IsOrdered (ended || more_ended) receipts commands
ordered_more given ended more_ended inside room receipts own space commands kept b n place mark text other said again
    order is_given below at is_room is_space spoke spoke_again is_more more longer =
    let receipt : Receipt = record { place = place; reply = again } in
    let here : place ≡ n = placed b n place at in
    let all : AreBelow place inside = all_below 0 inside place order.2
    (ap (λ (receipts : List Receipt). is_below receipts place) is_given
    ∙ ap (is_below given.receipts) here ∙ below) in
    let grown : receipts ≡ inside ++ receipt ∷ [] = more ∙ ap (λ (room : List Receipt). room ++ receipt ∷ []) is_room in
    let last : is_last receipt ≡ more_ended = ap is_end spoke_again ∙ end_spoken mark other text ∙ sym (ap is_end spoke)
    ∙ sym is_more in
    let ends : list_any is_last receipts ≡ (ended || more_ended) =
    ap (list_any is_last) grown ∙ any_push is_last inside receipt ∙ ap (λ (b : Bool). list_any is_last inside || b) last
    ∙ ap (λ (b : Bool). b || more_ended) (sym order.0) in
    let count : length receipts ≡ length commands =
    ap length grown ∙ length-append inside (receipt ∷ []) ∙ ap (λ (n : ℕ). n + 1) (order.1 ∙ sym (ap length is_space))
    ∙ sym (ap length longer ∙ length-append space (kept ∷ [])) in
    (sym ends, count, rw grown (ascend_more 0 inside receipt order.2 all (omega arith)))
