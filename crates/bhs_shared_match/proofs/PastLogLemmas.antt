-- Behind the log: what passes say past the commands that stand there.
use Rattle.std.proofs.Common.{◌≡◌, ◌≢◌, ℕ, zero, suc, ◌+◌, ◌<◌, ◌≤◌, inl, inr, Option}
use Rattle.std.proofs.Common.{Some, None, List, [], ◌∷◌, ◌++◌, length, take, map, sym, ap, ◌∙◌, subst}
use Rattle.std.proofs.Common.{arith, get_or, nat_lt}
use Rattle.std.proofs.Common.{if◌then◌else◌}
use Rattle.std.specs.Prelude.{slice_get}
use Rattle.std.specs.List.{AllByRecursion}
use Rattle.std.proofs.lemmas.Bool.{cond-true, cond-false}
use Rattle.std.proofs.lemmas.List.{take_all, take_more}
use Rattle.std.proofs.lemmas.Option.{slice_get_past}
use Rattle.bhs_model.specs.declared.marks.Kept.{Kept}
use Rattle.bhs_world.proofs.ListLemmas.{lt_tells}
use Rattle.bhs_world.proofs.GrowthLemmas.{map_more, all_append}
use Rattle.bhs_match.specs.Matches.{Play}
use Rattle.bhs_shared_match.specs.Passes.{Passed}
use Rattle.bhs_shared_match.specs.Comparing.{HeardEntry, heard_from, heard_in}
use Rattle.bhs_shared_match.specs.Comparing.{receipted}
use Rattle.bhs_shared_match.specs.Settling.{Compared, IsLeast, lesser, told_by, told_by_none, without_pass}
use Rattle.bhs_shared_match.specs.Settling.{commands_of}
use Rattle.bhs_shared_match.proofs.LeastLemmas.{all_map}
use Rattle.bhs_shared_match.proofs.FoundLemmas.{AgreesAt, AnyDiffers, IsFound, still_agrees, same_agrees, found_agrees}
use Rattle.bhs_shared_match.proofs.FoundLemmas.{found_more, least_found}
use Rattle.bhs_shared_match.proofs.OnePassLemmas.{AgreeSoFar, IsSoFar, all_joined, all_right, any_left}

-- the loop invariant: the log and the first `count` passes have been compared
pub record IsEnding (play : Play) (passes : List Passed) (heard : List ℕ) (count : ℕ)
    (best : Option (ℕ × ℕ)) : Type 0 where
  pub ends : (agent : ℕ) → get_or heard agent 0 ≡ length (heard_in agent play.log)
  pub agree : AgreeSoFar heard best (commands_of play passes)
  pub found : IsFound best (commands_of play passes)
  pub whole : AllByRecursion (λ one. (k : ℕ) → AgreesAt best one k) (map (told_by play) (take count passes))

pub begun_ending : (play : Play) (passes : List Passed) (log : List Kept) (heard : List ℕ) (place : ℕ)
    (best : Option (ℕ × ℕ)) → IsSoFar play passes log heard place best → log ≡ play.log → length log ≤ place
    → IsEnding play passes heard 0 best
begun_ending play passes log heard place best so_far same past = record {
  ends = λ agent. so_far.counts agent ∙ ap (λ (some : List Kept). length (heard_from log agent 0 some))
      (take_all place log past) ∙ ap (λ (log : List Kept). length (heard_in agent log)) same;
  agree = so_far.agree;
  found = so_far.found;
  whole = tt;
}

all_at : (P : Compared HeardEntry
    → Type 0) (play : Play) (passes : List Passed) (ys : List (Compared HeardEntry)) (place : ℕ)
    (pass : Passed) → AllByRecursion P (map (told_by play) passes ++ ys) → place < length passes
    → pass ≡ get_or passes place pass → P (told_by play pass)
all_at P play [] ys place pass all inside is = absurd (omega (arith, inside))
all_at P play (first ∷ passes) ys zero pass all inside is =
    subst (λ (pass : Passed). P (told_by play pass)) (sym is) all.0
all_at P play (first ∷ passes) ys (suc place) pass all inside is =
    all_at P play passes ys place pass all.1 (omega (arith, inside)) is

any_at : (play : Play) (passes : List Passed) (index place : ℕ) (pass : Passed) → place < length passes
    → pass ≡ get_or passes place pass → slice_get (heard_in pass.agent play.log) index ≢ slice_get
    (receipted pass.receipts pass.commands) index →
    AnyDiffers pass.agent index (map (told_by play) passes)
any_at play [] index place pass inside is apart = absurd (omega (arith, inside))
any_at play (first ∷ passes) index zero pass inside is apart =
    inl (
      ap (λ (p : Passed). p.agent) (sym is),
      subst
          (λ (p : Passed).
          slice_get (heard_in p.agent play.log) index ≢ slice_get (receipted p.receipts p.commands) index) is
          apart,
    )
any_at play (first ∷ passes) index (suc place) pass inside is apart =
    inr (any_at play passes index place pass (omega (arith, inside)) is apart)

-- one pass more, which may have receipts past the commands that were heard
pub ending_more : (play : Play) (passes : List Passed) (heard : List ℕ) (place : ℕ) (best now : Option (ℕ × ℕ))
    (pass : Passed) (agent count most : ℕ) → IsEnding play passes heard place best →
    place < length passes → pass ≡ get_or passes place pass → agent ≡ pass.agent → count ≡ get_or heard pass.agent 0
    → most ≡ length (receipted pass.receipts pass.commands) →
    now ≡ (if nat_lt count most then lesser best agent (Some count) else best)
    → IsEnding play passes heard (place + 1) now
ending_more play passes heard place best now pass agent count most so_far inside is its at long made =
    elim (lt_tells count most) [
      | inl h ↦
          let later : Option (ℕ × ℕ) = lesser best agent (Some count) in
          let after : now ≡ later = made ∙ cond-true _ _ _ h.0 in
          rw after (so_on later (λ one k old. still_agrees best agent (Some count) one k old)
          (found_more best agent count (commands_of play passes) so_far.found
          (any_left agent count (map (told_by play) passes) _
          (subst (λ (a : ℕ). AnyDiffers a count (map (told_by play) passes)) (sym its)
          (any_at play passes count place pass inside is (apart h.1)))))
          (λ k above. found_agrees best agent count (told_by play pass) k (sym its) above))
      | inr h ↦
          let after : now ≡ best = made ∙ cond-false _ _ _ h.0 in
          rw after (so_on best (λ one k old. old) so_far.found
          (λ k above. same_agrees best (told_by play pass) k
          (slice_get_past (heard_in pass.agent play.log) k (omega (arith, ends, above))
          ∙ sym (slice_get_past (receipted pass.receipts pass.commands) k (omega (arith, long, h.1, above))))))
    ]
  where
    counted : get_or heard pass.agent 0 ≡ count
    counted = sym at

    ends : length (heard_in pass.agent play.log) ≡ count
    ends = sym (so_far.ends pass.agent) ∙ counted

    apart : count < most → slice_get (heard_in pass.agent play.log) count ≢ slice_get
        (receipted pass.receipts pass.commands) count
    apart below same =
        let none : slice_get (heard_in pass.agent play.log) count ≡ None =
        slice_get_past (heard_in pass.agent play.log) count (omega (arith, ends)) in
        inside_is (receipted pass.receipts pass.commands) count (omega (arith, below, long)) (sym same ∙ none)
      where
        inside_is : (xs : List HeardEntry) (k : ℕ) → k < length xs → slice_get xs k ≡ None → ⊥
        inside_is [] k below none = omega (arith, below)
        inside_is (x ∷ xs) zero below none = cc
        inside_is (x ∷ xs) (suc k) below none = inside_is xs k (omega (arith, below)) none

    so_on : (now : Option (ℕ × ℕ)) → ((one : Compared HeardEntry) (k : ℕ) → AgreesAt best one k → AgreesAt now one k)
        → IsFound now (commands_of play passes) → ((k : ℕ) → count ≤ k → AgreesAt now (told_by play pass) k)
        → IsEnding play passes heard (place + 1) now
    so_on now keeps found above =
        let grown : map (told_by play) (take (place + 1) passes) ≡ map (told_by play) (take place passes)
        ++ told_by play pass ∷ [] =
        ap (map (told_by play)) (take_more passes place pass inside
        ∙ ap (λ (one : Passed). take place passes ++ one ∷ []) (sym is))
        ∙ map_more (told_by play) (take place passes) pass in
        record {
          ends = so_far.ends;
          agree = all_map (λ one. (k : ℕ) → k < get_or heard one.agent 0 → AgreesAt best one k)
              (λ one. (k : ℕ) → k < get_or heard one.agent 0 → AgreesAt now one k) (commands_of play passes)
              (λ one old k below. keeps one k (old k below)) so_far.agree;
          found = found;
          whole = rw grown (all_append (λ one. (k : ℕ) → AgreesAt now one k) (map (told_by play) (take place passes))
              (told_by play pass)
              (all_map (λ one. (k : ℕ) → AgreesAt best one k) (λ one. (k : ℕ) → AgreesAt now one k)
              (map (told_by play) (take place passes)) (λ one old k. keeps one k (old k)) so_far.whole)
              (λ k. elim (lt_tells k count) [
                | inl h ↦ keeps (told_by play pass) k
                    (all_at (λ one. (k : ℕ) → k < get_or heard one.agent 0 → AgreesAt best one k) play passes _ place
                    pass so_far.agree inside is k (omega (arith, h.1, counted)))
                | inr h ↦ above k h.1
              ]));
        }

-- all were looked through
pub ended_all : (play : Play) (passes : List Passed) (heard : List ℕ) (place : ℕ) (best : Option (ℕ × ℕ))
    → IsEnding play passes heard place best → length passes ≤ place → IsLeast (commands_of play passes) best
ended_all play passes heard place best so_far past =
    least_found (commands_of play passes) best
    (all_joined (λ one. (k : ℕ) → AgreesAt best one k) (map (told_by play) passes)
    (map (told_by_none play) (without_pass passes play.setup.agents))
    (subst (λ (some : List Passed). AllByRecursion (λ one. (k : ℕ) → AgreesAt best one k) (map (told_by play) some))
    (take_all place passes past) so_far.whole)
    (by_none (without_pass passes play.setup.agents)
    (all_right (λ one. (k : ℕ) → k < get_or heard one.agent 0 → AgreesAt best one k) (map (told_by play) passes)
    _ so_far.agree)))
    so_far.found
  where
    by_none : (agents : List ℕ) → AllByRecursion (λ one. (k : ℕ) → k < get_or heard one.agent 0 → AgreesAt best one k)
        (map (told_by_none play) agents) → AllByRecursion (λ one. (k : ℕ) → AgreesAt best one k)
        (map (told_by_none play) agents)
    by_none [] all = tt
    by_none (agent ∷ agents) all = (
      λ k. elim (lt_tells k (get_or heard agent 0)) [
        | inl h ↦ all.0 k h.1
        | inr h ↦ same_agrees best (told_by_none play agent) k
            (slice_get_past (heard_in agent play.log) k (omega (arith, h.1, so_far.ends agent)))
      ],
      by_none agents all.1,
    )
