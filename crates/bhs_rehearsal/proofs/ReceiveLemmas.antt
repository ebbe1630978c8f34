-- A line that comes whole.
use Rattle.std.proofs.Common.{◌≡◌, ◌∙◌, ℕ, List, [], ◌∷◌, ◌++◌, ◌≤◌, length, map, true, false, refl, Option, Some, None}
use Rattle.std.proofs.Common.{is_none, unwrap_or, ap, ap₂, sym, subst, append-nil, arith}
use Rattle.std.specs.List.{list_any}
use Rattle.bhs_model.specs.declared.limits.TheConstants.{MAX_LINE}
use Rattle.bhs_wire.specs.Lines.{Line, is_line_feed, found_in, left_by, given}
use Rattle.bhs_wire.proofs.StreamLaws.{FitsHeld, found_in-ended, left_by-ended}
use Rattle.bhs_rehearsal.specs.Connections.{Item, Connection, Says}

nothing_fits : FitsHeld (Some [])
nothing_fits = λ line is. let same : [] ≡ line = cc in
    subst (λ (bytes : List ℕ). length bytes ≤ MAX_LINE) same (omega arith)

-- A single complete line: the result, and an empty buffer afterwards.
found_whole : (bytes line : List ℕ) → bytes ≡ line ++ 10 ∷ [] → list_any is_line_feed line ≡ false
    → found_in (Some []) bytes ≡ given line
found_whole bytes line is flat =
    ap (λ (all : List ℕ). found_in (Some []) all) is
    ∙ (found_in-ended (Some []) line [] nothing_fits flat ∙ append-nil (given line))

left_whole : (bytes line : List ℕ) → bytes ≡ line ++ 10 ∷ [] → left_by (Some []) bytes ≡ Some []
left_whole bytes line is = ap (λ (all : List ℕ). left_by (Some []) all) is ∙ left_by-ended (Some []) line []

pub received_whole : (old : Connection) (bytes line : List ℕ) (queue : List Item) → old.unfinished ≡ Some []
    → (bytes ≡ line ++ 10 ∷ []) × (list_any is_line_feed line ≡ false)
    → queue ≡ old.queue ++ map Says (given line)
    → record old { queue = queue } ≡ record old {
      unfinished = left_by old.unfinished bytes;
      queue = old.queue ++ map Says (found_in old.unfinished bytes);
    }
received_whole old bytes line queue fresh is queued =
    let unfinished : old.unfinished ≡ left_by old.unfinished bytes =
    fresh ∙ sym (ap (λ (held : Option (List ℕ)). left_by held bytes) fresh ∙ left_whole bytes line is.0) in
    let all : queue ≡ old.queue ++ map Says (found_in old.unfinished bytes) =
    queued ∙ ap (λ (lines : List Line). old.queue ++ map Says lines)
    (sym (ap (λ (held : Option (List ℕ)). found_in held bytes) fresh ∙ found_whole bytes line is.0 is.1)) in
    ap₂ (λ (held : Option (List ℕ)) (items : List Item). record old { unfinished = held; queue = items }) unfinished all

-- no line was held in part
pub none_held : (lines : Option (Option (List ℕ))) → is_none lines ≡ true → unwrap_or lines (Some []) ≡ Some []
none_held None is = refl
none_held (Some lines) is = cc
