-- The text of turns, line by line.
use Rattle.std.proofs.Common.{◌≡◌, ◌∙◌, ℕ, ◌<◌, ◌^◌, ◌||◌, Bool, true, false, true≢false}
use Rattle.std.proofs.Common.{List, [], ◌∷◌, ◌++◌, decimal, refl, sym, ap, subst, arith, append_assoc}
use Rattle.std.specs.List.{list_any, AllByRecursion}
use Rattle.std.proofs.lemmas.Bool.{or_parts}
use Rattle.std.proofs.lemmas.List.{append-nil}
use Rattle.bhs_wire.specs.Lines.{is_line_feed}
use Rattle.bhs_cli.specs.Turns.{IsOfTurns, IsTurn, turn_line, turns_text}
use Rattle.bhs_replay.proofs.Flat.{decimal_flat}

-- ---- line feeds

abbrev IsFlat : List ℕ → Type 0
IsFlat bytes = list_any is_line_feed bytes ≡ false

-- a text with a line feed is not flat
fed : (xs rest : List ℕ) → list_any is_line_feed (xs ++ 10 ∷ rest) ≡ true
fed [] rest = refl
fed (x ∷ xs) rest = or_second (is_line_feed x) _ (fed xs rest)
  where
    or_second : (a b : Bool) → b ≡ true → (a || b) ≡ true
    or_second true b e = refl
    or_second false b e = e

-- a text is cut at its first line feed in one way
same_cut : (xs ys more rest : List ℕ) → IsFlat xs → IsFlat ys → xs ++ 10 ∷ more ≡ ys ++ 10 ∷ rest
    → (xs ≡ ys) × (more ≡ rest)
same_cut [] [] more rest e f same = (refl, cc)
same_cut [] (y ∷ ys) more rest e f same =
    let first : 10 ≡ y = cc in
    let parts = or_parts (is_line_feed y) _ f in
    absurd (true≢false (subst (λ (b : ℕ). is_line_feed b ≡ false) (sym first) parts.0))
same_cut (x ∷ xs) [] more rest e f same =
    let first : x ≡ 10 = cc in
    let parts = or_parts (is_line_feed x) _ e in
    absurd (true≢false (subst (λ (b : ℕ). is_line_feed b ≡ false) first parts.0))
same_cut (x ∷ xs) (y ∷ ys) more rest e f same =
    let first : x ≡ y = cc in
    let others : xs ++ 10 ∷ more ≡ ys ++ 10 ∷ rest = cc in
    let (same_line, same_rest) = same_cut xs ys more rest (or_parts (is_line_feed x) _ e).1
    (or_parts (is_line_feed y) _ f).1 others in
    (cc, same_rest)

-- ---- reading

-- the text of one turn more
text_pushed : (turns : List ℕ) (turn : ℕ) → turns_text (turns ++ turn ∷ []) ≡ turns_text turns ++ turn_line turn
text_pushed [] turn = append-nil (turn_line turn)
text_pushed (one ∷ turns) turn =
    ap (λ (text : List ℕ). turn_line one ++ text) (text_pushed turns turn)
    ∙ sym (append_assoc (turn_line one) (turns_text turns) (turn_line turn))

-- the turn of a line is read, and more is left
pub one_read : (turns : List ℕ) (turn : ℕ) (line more after text : List ℕ) → decimal turn ≡ line
    → after ≡ line ++ 10 ∷ more → turns_text turns ++ after ≡ text → turns_text (turns ++ turn ∷ []) ++ more ≡ text
one_read turns turn line more after text spelled cut so_far =
    ap (λ (bytes : List ℕ). bytes ++ more) (text_pushed turns turn)
    ∙ append_assoc (turns_text turns) (turn_line turn) more
    ∙ ap (λ (bytes : List ℕ). turns_text turns ++ bytes) (append_assoc (decimal turn) (10 ∷ []) more
    ∙ ap (λ (bytes : List ℕ). bytes ++ 10 ∷ more) spelled ∙ sym cut)
    ∙ so_far

-- the first line of a text of turns spells a turn, and the others are a text of turns
pub record Continues (line more : List ℕ) : Type 0 where
  pub turn : ℕ
  pub small : IsTurn turn
  pub spelled : decimal turn ≡ line
  pub others : IsOfTurns more

continues_of : (line more : List ℕ) → IsFlat line → (turns : List ℕ) → AllByRecursion IsTurn turns
    → turns_text turns ≡ line ++ 10 ∷ more → Continues line more
continues_of line more flat [] known spelled =
    let none : list_any is_line_feed (turns_text []) ≡ true = ap (list_any is_line_feed) spelled ∙ fed line more in
    absurd (true≢false (sym none))
continues_of line more flat (turn ∷ turns) (small, known) spelled =
    let small : turn < 2 ^ 32 = small in
    let (same_line, same_rest) = same_cut (decimal turn) line (turns_text turns) more
    (decimal_flat turn (omega arith)) flat (sym (append_assoc (decimal turn) (10 ∷ []) (turns_text turns)) ∙ spelled) in
    record {
      turn = turn;
      small = small;
      spelled = same_line;
      others = (turns, record { known = known; spelled = same_rest });
    }

pub continues : (line more after : List ℕ) → after ≡ line ++ 10 ∷ more → IsFlat line → IsOfTurns after
    → Continues line more
continues line more after cut flat (turns, is) = continues_of line more flat turns is.known (is.spelled ∙ cut)

-- a text of turns that has no line feed is empty
empty_of : (after : List ℕ) → IsFlat after → (turns : List ℕ) → turns_text turns ≡ after → after ≡ []
empty_of after flat [] spelled = sym spelled
empty_of after flat (turn ∷ turns) spelled =
    let there : list_any is_line_feed after ≡ true =
    ap (list_any is_line_feed) (sym spelled ∙ append_assoc (decimal turn) (10 ∷ []) (turns_text turns))
    ∙ fed (decimal turn) (turns_text turns) in
    absurd (true≢false (sym there ∙ flat))

pub unended : (after : List ℕ) → IsFlat after → IsOfTurns after → after ≡ []
unended after flat (turns, is) = empty_of after flat turns is.spelled
