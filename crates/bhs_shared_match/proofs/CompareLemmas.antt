-- The heard commands of an agent in the first events of a log, and what is receipted.
use Rattle.std.proofs.Common.{◌≡◌, ℕ, suc, ◌+◌, ◌<◌, Option, Some, None, List, [], ◌∷◌, ◌++◌, length, take, drop, refl}
use Rattle.std.proofs.Common.{sym, ap, ◌∙◌, zero, arith, get_or, drop-cons, length-take}
use Rattle.std.specs.Prelude.{slice_get}
use Rattle.std.proofs.lemmas.List.{take-append-drop, take_more}
use Rattle.bhs_model.specs.declared.commands.Command.{Command}
use Rattle.bhs_model.specs.declared.marks.Mark.{Mark}
use Rattle.bhs_model.specs.declared.marks.Kept.{Kept}
use Rattle.bhs_shared_match.specs.declared.model.Receipt.{Receipt}
use Rattle.bhs_shared_match.specs.Comparing.{HeardEntry, command_by, entry_first, entry_in, heard_from, heard_in}
use Rattle.bhs_shared_match.specs.Comparing.{receipted}

first_append : (whole : List Kept) (place : ℕ) (command : Option Command) (mark : Option Mark) (xs ys : List HeardEntry)
    → entry_first whole place command mark (xs ++ ys) ≡ entry_first whole place command mark xs ++ ys
first_append whole place (Some command) mark xs ys = refl
first_append whole place None mark xs ys = refl

pub heard_append : (whole : List Kept) (agent place : ℕ) (xs ys : List Kept)
    → heard_from whole agent place (xs ++ ys) ≡ heard_from whole agent place xs ++ heard_from whole agent
    (place + length xs) ys
heard_append whole agent place [] ys = ap (λ (place : ℕ). heard_from whole agent place ys) (omega arith)
heard_append whole agent place (one ∷ xs) ys =
    let next : place + 1 + length xs ≡ place + suc (length xs) = omega arith in
    ap (entry_first whole place (command_by agent one.event) one.mark)
    (heard_append whole agent (place + 1) xs ys
    ∙ ap (λ (n : ℕ). heard_from whole agent (place + 1) xs ++ heard_from whole agent n ys) next)
    ∙ first_append whole place (command_by agent one.event) one.mark _ _

pub receipted_length : (receipts : List Receipt) (commands : List Command) → length receipts ≡ length commands
    → length (receipted receipts commands) ≡ length receipts
receipted_length [] commands same = refl
receipted_length (receipt ∷ receipts) [] same = absurd (omega (arith, same))
receipted_length (receipt ∷ receipts) (command ∷ commands) same =
    ap suc (receipted_length receipts commands (omega (arith, same)))

pub receipted_at : (receipts : List Receipt) (commands : List Command) (i : ℕ) (receipt : Receipt) (command : Command)
    → slice_get receipts i ≡ Some receipt → slice_get commands i ≡ Some command →
    slice_get (receipted receipts commands) i ≡ Some (entry_in receipt command)
receipted_at [] commands i receipt command r k = cc
receipted_at (_ ∷ receipts) [] i receipt command r k = cc
receipted_at (one ∷ receipts) (other ∷ commands) zero receipt command r k = let e : one ≡ receipt = cc in
    let f : other ≡ command = cc in rw (e, f) refl
receipted_at (_ ∷ receipts) (_ ∷ commands) (suc i) receipt command r k =
    receipted_at receipts commands i receipt command r k

-- the log at an event
parted : (log : List Kept) (place : ℕ) (one : Kept) → place < length log → one ≡ get_or log place one
    → drop place log ≡ one ∷ drop (suc place) log
parted log place one inside is = drop-cons log place one inside
    ∙ ap (λ (one : Kept). one ∷ drop (suc place) log) (sym is)

pub taken : (log : List Kept) (agent : ℕ) (place : ℕ) (one : Kept) → place < length log → one ≡ get_or log place one →
    heard_from log agent 0 (take (place + 1) log) ≡ heard_from log agent 0 (take place log) ++ entry_first log place
    (command_by agent one.event) one.mark []
taken log agent place one inside is =
    let here : 0 + length (take place log) ≡ place = simp length-take (omega (arith, inside)) in
    ap (heard_from log agent 0) (take_more log place one inside
    ∙ ap (λ (one : Kept). take place log ++ one ∷ []) (sym is))
    ∙ heard_append log agent 0 (take place log) (one ∷ [])
    ∙ ap (λ (n : ℕ). heard_from log agent 0 (take place log) ++ heard_from log agent n (one ∷ [])) here

pub whole_parted : (log : List Kept) (agent : ℕ) (place : ℕ) (one : Kept) → place < length log
    → one ≡ get_or log place one →
    heard_in agent log ≡ heard_from log agent 0 (take place log) ++ entry_first log place (command_by agent one.event)
    one.mark (heard_from log agent (place + 1) (drop (suc place) log))
whole_parted log agent place one inside is =
    let here : 0 + length (take place log) ≡ place = simp length-take (omega (arith, inside)) in
    ap (heard_from log agent 0) (sym (take-append-drop place log) ∙ ap (λ (rest : List Kept). take place log ++ rest)
    (parted log place one inside is))
    ∙ heard_append log agent 0 (take place log) (one ∷ drop (suc place) log)
    ∙ ap (λ (n : ℕ). heard_from log agent 0 (take place log) ++ heard_from log agent n (one ∷ drop (suc place) log))
    here
