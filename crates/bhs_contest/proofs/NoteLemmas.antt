-- Lists of notes with the verdicts that they have seen.
use Rattle.std.proofs.Common.{◌≡◌, ◌∙◌, refl, sym, ap, subst, ℕ, suc, ◌+◌, ◌<◌, arith}
use Rattle.std.proofs.Common.{List, [], ◌∷◌, ◌++◌, length, map, take, get_or}
use Rattle.std.specs.Prelude.{Option, Some, None, option_map, IfSome, Result, Ok, Err, IfOk, slice_get}
use Rattle.std.proofs.lemmas.List.{take_more}
use Rattle.std.proofs.lemmas.Option.{slice_get-get_or, slice_get-map, slice_get_read}
use Rattle.std.proofs.Common.{length-append}
use Rattle.bhs_referee.specs.declared.verdicts.Verdict.{Verdict}
use Rattle.bhs_standings.specs.Shown.{Seen, Agree}
use Rattle.bhs_contest.specs.Judging.{HasSeen, HaveSeen}

-- a note that has seen the verdict on a match of a list
pub seen_at : {X : Type 0} (judge : X → Verdict) (places : List ℕ) (plays : List X) (game : ℕ) (play : X)
    (note : Option Seen) → game < length plays → play ≡ get_or plays game play
    → IfSome note (λ note. slice_get places game ≡ Some note.place)
    → IfSome note (λ note. note.verdict ≡ Some (judge play))
    → IfSome note (HasSeen places (map judge plays) game)
seen_at judge places plays game play None within is place seen = tt
seen_at judge places plays game play (Some note) within is place seen =
    let here = slice_get_read plays (length plays) game play refl within is in
    record { place = place; seen = seen ∙ sym (slice_get-map judge plays game ∙ ap (option_map judge) here) }

-- what holds of each note by its number holds of all
pub seen_from : (places : List ℕ) (verdicts : List Verdict) (from : ℕ) (notes : List (Option Seen))
    → ((i k : ℕ) (d : Option Seen) → k ≡ from + i → i < length notes
    → IfSome (get_or notes i d) (HasSeen places verdicts k)) → HaveSeen places verdicts from notes
seen_from places verdicts from [] each = tt
seen_from places verdicts from (note ∷ notes) each = (
  each 0 from note (omega arith) (omega arith),
  seen_from places verdicts (from + 1) notes (λ i k d is lt. each (suc i) k d (omega arith) (omega arith)),
)

-- the verdict that a note has seen comes next
read_more : (verdicts done : List Verdict) (verdict : Verdict) (note : Seen) → done ≡ take (length done) verdicts
    → length done < length verdicts → note.verdict ≡ slice_get verdicts (length done)
    → Agree note.verdict (Some verdict) → done ++ verdict ∷ [] ≡ take (length done + 1) verdicts
read_more verdicts done verdict note so_far lt seen agrees =
    let at = get_or verdicts (length done) verdict in
    let same : at ≡ verdict = subst (λ one. Agree one (Some verdict))
    (seen ∙ slice_get-get_or verdicts (length done) verdict lt) agrees in
    ap (λ list. list ++ verdict ∷ []) so_far
    ∙ sym (take_more verdicts (length done) verdict lt
    ∙ ap (λ one. take (length done) verdicts ++ one ∷ []) same)

-- verdicts that were read by the first notes, and the notes that are left
pub record Reads (places : List ℕ) (verdicts done : List Verdict) (left : List (Option Seen)) : Type 0 where
  pub many : length done + length left ≡ length verdicts
  pub read : done ≡ take (length done) verdicts
  pub seen : HaveSeen places verdicts (length done) left

-- one more is read
pub reads_on : (places : List ℕ) (verdicts done done' : List Verdict) (left left' : List (Option Seen)) (note : Seen)
    (verdict : Verdict) → Reads places verdicts done left → left ≡ Some note ∷ left'
    → Agree note.verdict (Some verdict) → done' ≡ done ++ verdict ∷ [] → Reads places verdicts done' left'
reads_on places verdicts done done' left left' note verdict so_far next agrees grown =
    let one : length done' ≡ length done + 1 = ap length grown ∙ length-append done (verdict ∷ []) in
    let fewer = ap (λ (list : List (Option Seen)). length list) next in
    let now : HaveSeen places verdicts (length done) (Some note ∷ left') =
    subst (HaveSeen places verdicts (length done)) next so_far.seen in
    let within : length done < length verdicts = omega (arith, so_far.many, fewer) in
    record {
      many = omega (arith, so_far.many, fewer, one);
      read = grown ∙ read_more verdicts done verdict note so_far.read within now.0.seen agrees
          ∙ ap (λ n. take n verdicts) (sym one);
      seen = subst (λ n. HaveSeen places verdicts n left') (sym one) now.1;
    }

-- what follows from two facts of the value
pub of_both : {T E : Type 0} (outcome : Result T E) (P Q S : T → Type 0) → ((x : T) → P x → Q x → S x)
    → IfOk outcome P → IfOk outcome Q → IfOk outcome S
of_both (Ok x) P Q S follows one other = follows x one other
of_both (Err fault) P Q S follows one other = tt
