-- The text of a match, line by line along its log.
use Rattle.std.proofs.Common.{◌≡◌, ℕ, ◌+◌, ◌<◌, ◌≤◌, List, [], ◌∷◌, ◌++◌, length, get_or, drop, refl, sym, ap, ap₂, ◌∙◌}
use Rattle.std.proofs.Common.{arith, append_assoc, append-nil, add-one, drop-cons, length-drop}
use Rattle.std.proofs.lemmas.List.{nil_from_length}
use Rattle.std.specs.Prelude.{map}
use Rattle.std.proofs.lemmas.List.{length-map}
use Rattle.bhs_model.specs.declared.marks.Kept.{Kept}
use Rattle.bhs_model.specs.InOrder.{replies}
use Rattle.bhs_model.specs.Marks.{events_of, read_if}
use Rattle.bhs_match.specs.Matches.{Play, world_in}
use Rattle.bhs_replay.specs.Head.{head_line, version_of}
use Rattle.bhs_replay.specs.EventLine.{event_line}
use Rattle.bhs_replay.specs.Replay.{end_line, event_lines, with_feeds, replay_of}

-- the line of an event of a log
abbrev pub kept_line : List Kept → Kept → List ℕ
kept_line log one = event_line one.event (read_if log one.mark)

-- the text after the head, for the remaining events of a log
abbrev pub left_of : List Kept → List Kept → List ℕ
left_of log rest = with_feeds (map (kept_line log) rest) ++ (end_line (length log) ++ 10 ∷ [])

pub feeds-append : (lines more : List (List ℕ)) → with_feeds (lines ++ more) ≡ with_feeds lines ++ with_feeds more
feeds-append [] more = refl
feeds-append (line ∷ lines) more = ap (λ t. (line ++ 10 ∷ []) ++ t) (feeds-append lines more)
    ∙ sym (append_assoc (line ++ 10 ∷ []) (with_feeds lines) (with_feeds more))

lines_along : (log rest : List Kept) → event_lines (events_of rest) (map (λ one. read_if log one.mark) rest) ≡ map
    (kept_line log) rest
lines_along log [] = refl
lines_along log (one ∷ rest) = ap (λ lines. kept_line log one ∷ lines) (lines_along log rest)

pub replay-along : (play : Play) → map (λ one. read_if play.log one.mark) play.log ≡ replies (world_in play)
    (events_of play.log)
    → replay_of play ≡ (head_line (version_of play.net play.setup) play.net play.setup ++ 10 ∷ [])
    ++ left_of play.log play.log
replay-along play answered =
    ap (λ text. (head_line (version_of play.net play.setup) play.net play.setup ++ 10 ∷ []) ++ text)
    (ap₂ (λ (lines : List (List ℕ)) (count : ℕ). with_feeds (lines ++ end_line count ∷ []))
    (ap (event_lines (events_of play.log)) (sym answered) ∙ lines_along play.log play.log)
    (length-map play.log (λ (one : Kept). one.event))
    ∙ feeds-append (map (kept_line play.log) play.log) (end_line (length play.log) ∷ [])
    ∙ ap (λ text. with_feeds (map (kept_line play.log) play.log) ++ text)
    (append-nil (end_line (length play.log) ++ 10 ∷ [])))

-- ---- line by line

-- the next event of the log
pub left-next : (log rest more : List Kept) (one : Kept) → rest ≡ one ∷ more
    → left_of log rest ≡ (kept_line log one ++ 10 ∷ []) ++ left_of log more
left-next log rest more one is =
    ap (left_of log) is ∙ append_assoc (kept_line log one ++ 10 ∷ []) (with_feeds (map (kept_line log) more))
    (end_line (length log) ++ 10 ∷ [])

pub drop-next : (log : List Kept) (i : ℕ) (one : Kept) → i < length log → one ≡ get_or log i one
    → drop i log ≡ one ∷ drop (i + 1) log
drop-next log i one within is = drop-cons log i one within ∙ ap₂ (λ (first : Kept) (n : ℕ). first ∷ drop n log) (sym is)
    (sym (add-one i))

pub left-last : (log : List Kept) (i : ℕ) → length log ≤ i → left_of log (drop i log) ≡ end_line (length log) ++ 10 ∷ []
left-last log i past = ap (left_of log) (nil_from_length (drop i log) (let left = length-drop i log in omega arith))
