-- The text of a part of a match, line by line along its log.
use Rattle.std.proofs.Common.{◌≡◌, ℕ, suc, ◌+◌, ◌<◌, ◌≤◌, Bool, true, false, List, [], ◌∷◌, ◌++◌, length, get_or, drop}
use Rattle.std.proofs.Common.{map, refl, sym, ap, ap₂, ◌∙◌, arith, append_assoc, append-nil, add-one, drop-cons}
use Rattle.std.proofs.Common.{length-drop, subst}
use Rattle.std.specs.Prelude.{None}
use Rattle.std.proofs.lemmas.List.{nil_from_length, get_or_default}
use Rattle.bhs_net.specs.Network.{Network}
use Rattle.bhs_model.specs.declared.events.Event.TheVariants.{Close}
use Rattle.bhs_model.specs.declared.marks.Kept.{Kept}
use Rattle.bhs_model.specs.declared.setups.Setup.{Setup}
use Rattle.bhs_model.specs.Cuts.{at_places}
use Rattle.bhs_model.specs.Marks.{events_of, read_if}
use Rattle.bhs_stream.specs.Streams.{WriteAnswer}
use Rattle.bhs_stream.specs.Sending.{PutsAll}
use Rattle.bhs_stream.proofs.PutsLemmas.{IsSentUpTo, sent_more}
use Rattle.bhs_replay.specs.Head.{head_line, version_of}
use Rattle.bhs_replay.specs.Replay.{end_line, event_lines, with_feeds, replay_of_part}
use Rattle.bhs_replay.proofs.ReplayTexts.{kept_line, feeds-append, drop-next}

-- The text behind the head, from some event of a log on: the lines of the events that are chosen, and the end line,
-- which has the number of all chosen events.
abbrev pub part_left : (log rest : List Kept) (places : List Bool) (count : ℕ) → List ℕ
part_left log rest places count =
    with_feeds (map (kept_line log) (at_places rest places)) ++ (end_line count ++ 10 ∷ [])

chosen_along : (log rest : List Kept) (places : List Bool)
    → event_lines (at_places (events_of rest) places) (at_places (map (λ one. read_if log one.mark) rest) places)
    ≡ map (kept_line log) (at_places rest places)
chosen_along log [] places = refl
chosen_along log (one ∷ rest) [] = refl
chosen_along log (one ∷ rest) (true ∷ places) =
    ap (λ (lines : List (List ℕ)). kept_line log one ∷ lines) (chosen_along log rest places)
chosen_along log (one ∷ rest) (false ∷ places) = chosen_along log rest places

chosen_count : (rest : List Kept) (places : List Bool)
    → length (at_places (events_of rest) places) ≡ length (at_places rest places)
chosen_count [] places = refl
chosen_count (one ∷ rest) [] = refl
chosen_count (one ∷ rest) (true ∷ places) = ap suc (chosen_count rest places)
chosen_count (one ∷ rest) (false ∷ places) = chosen_count rest places

pub part-along : (net : Network) (setup : Setup) (log : List Kept) (places : List Bool)
    → replay_of_part net setup log places ≡ (head_line (version_of net setup) net setup ++ 10 ∷ [])
    ++ part_left log log places (length (at_places log places))
part-along net setup log places =
    let count = length (at_places log places) in
    let lines = map (kept_line log) (at_places log places) in
    ap (λ (text : List ℕ). (head_line (version_of net setup) net setup ++ 10 ∷ []) ++ text)
    (ap₂ (λ (lines : List (List ℕ)) (count : ℕ). with_feeds (lines ++ end_line count ∷ []))
    (chosen_along log log places) (chosen_count log places)
    ∙ feeds-append lines (end_line count ∷ [])
    ∙ ap (λ (text : List ℕ). with_feeds lines ++ text) (append-nil (end_line count ++ 10 ∷ [])))

-- ---- line by line

module _ {O : Type 0} (takes : O → List ℕ → WriteAnswer → O → Type 0) (text : List ℕ) (log : List Kept)
    (places : List Bool) where
  abbrev all : ℕ
  all = length (at_places log places)

  -- The lines of the chosen events before this place went out. Their number is `count`.
  pub record IsSentBefore (old new : O) (count place : ℕ) : Type 0 where
    pub sent : IsSentUpTo takes old new text (part_left log (drop place log) (drop place places) all)
    pub counted : count + length (at_places (drop place log) (drop place places)) ≡ all
    pub few : count ≤ place

  pub before_all : (old new : O) → IsSentUpTo takes old new text (part_left log log places all)
      → IsSentBefore old new 0 0
  before_all old new sent = record { sent = sent; counted = omega arith; few = omega arith }

  pub joined : (old new other : O) (count number place : ℕ) → other ≡ new → number ≡ count
      → IsSentBefore old new count place → IsSentBefore old other number place
  joined old new other count number place is_new is_count before =
      subst (λ (new : O). IsSentBefore old new number place) (sym is_new)
      (subst (λ (count : ℕ). IsSentBefore old new count place) (sym is_count) before)

  module _ (old new : O) (count place : ℕ) (one : Kept) (chosen : Bool) (within : place < length log)
      (has : place < length places) (is : one ≡ get_or log place one) (chooses : get_or places place false ≡ chosen)
      (before : IsSentBefore old new count place) where
    rest : drop place log ≡ one ∷ drop (place + 1) log
    rest = drop-next log place one within is

    others : drop place places ≡ chosen ∷ drop (place + 1) places
    others = drop-cons places place false has
        ∙ ap₂ (λ (first : Bool) (n : ℕ). first ∷ drop n places) chooses (sym (add-one place))

    -- the line of a place that is chosen is next
    pub next_line : chosen ≡ true → IsSentUpTo takes old new text
        ((kept_line log one ++ 10 ∷ []) ++ part_left log (drop (place + 1) log) (drop (place + 1) places) all)
    next_line picked =
        subst (λ (left : List ℕ). IsSentUpTo takes old new text left)
        (ap₂ (λ (rest : List Kept) (others : List Bool). part_left log rest others all) rest
        (others ∙ ap (λ (chosen : Bool). chosen ∷ drop (place + 1) places) picked)
        ∙ append_assoc (kept_line log one ++ 10 ∷ [])
        (with_feeds (map (kept_line log) (at_places (drop (place + 1) log) (drop (place + 1) places))))
        (end_line all ++ 10 ∷ []))
        before.sent

    pub after_line : (later : O) → chosen ≡ true → PutsAll takes new (kept_line log one ++ 10 ∷ []) later
        → IsSentBefore old later (count + 1) (place + 1)
    after_line later picked puts = record {
      sent = sent_more takes old new later text (kept_line log one ++ 10 ∷ [])
          (part_left log (drop (place + 1) log) (drop (place + 1) places) all) (next_line picked) puts;
      counted =
          let same : length (at_places (drop place log) (drop place places))
          ≡ suc (length (at_places (drop (place + 1) log) (drop (place + 1) places))) =
          ap₂ (λ (rest : List Kept) (others : List Bool). length (at_places rest others)) rest
          (others ∙ ap (λ (chosen : Bool). chosen ∷ drop (place + 1) places) picked) in
          let counted = before.counted in
          omega (arith, same, counted);
      few = let few = before.few in omega (arith, few);
    }

    skipped : chosen ≡ false → IsSentBefore old new count (place + 1)
    skipped left_out =
        let skips = others ∙ ap (λ (chosen : Bool). chosen ∷ drop (place + 1) places) left_out in
        record {
          sent = subst (λ (left : List ℕ). IsSentUpTo takes old new text left)
              (ap₂ (λ (rest : List Kept) (others : List Bool). part_left log rest others all) rest skips) before.sent;
          counted =
              let same : length (at_places (drop place log) (drop place places))
              ≡ length (at_places (drop (place + 1) log) (drop (place + 1) places)) =
              ap₂ (λ (rest : List Kept) (others : List Bool). length (at_places rest others)) rest skips in
              let counted = before.counted in
              omega (arith, same, counted);
          few = let few = before.few in omega (arith, few);
        }

  pub after_none : (old new : O) (count place : ℕ) (within : place < length log) → place < length places
      → get_or places place false ≡ false → IsSentBefore old new count place → IsSentBefore old new count (place + 1)
  after_none old new count place within has is_not before =
      let closed : Kept = record { event = Close; mark = None } in
      skipped old new count place (get_or log place closed) false within has
      (get_or_default log place closed (get_or log place closed) within) is_not before refl

  -- once all lines went out
  pub after_all : (old new : O) (count place : ℕ) → length log ≤ place → IsSentBefore old new count place
      → IsSentUpTo takes old new text (end_line count ++ 10 ∷ [])
  after_all old new count place past before =
      let none : drop place log ≡ [] =
      nil_from_length (drop place log) (let left = length-drop place log in omega (arith, left, past)) in
      let nothing : length (at_places (drop place log) (drop place places)) ≡ 0 =
      ap (λ (rest : List Kept). length (at_places rest (drop place places))) none in
      let counted = before.counted in
      let is : all ≡ count = omega (arith, counted, nothing) in
      subst (λ (left : List ℕ). IsSentUpTo takes old new text left)
      (ap₂ (λ (rest : List Kept) (count : ℕ). part_left log rest (drop place places) count) none is) before.sent
