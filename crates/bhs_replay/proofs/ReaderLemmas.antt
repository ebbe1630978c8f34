-- Where a reader stands after the next bytes.
use Rattle.std.proofs.Common.{◌≡◌, ℕ, List, [], ◌∷◌, ◌++◌, false, Option, Some, None, refl, sym, subst, ap, ap₂, ◌∙◌}
use Rattle.std.proofs.Common.{append_assoc, append-nil}
use Rattle.std.specs.List.{list_any}
use Rattle.bhs_wire.specs.Lines.{is_line_feed, rest}
use Rattle.bhs_wire.proofs.StreamLaws.{rest_after-append}
use Rattle.bhs_replay.specs.declared.faults.ReplayFault.{ReplayFault}
use Rattle.bhs_replay.specs.declared.faults.ReplayFault.TheVariants as fault
use Rattle.bhs_replay.specs.declared.reader.Playing.{Playing}
use Rattle.bhs_replay.specs.declared.reader.Reader.{Reader}
use Rattle.bhs_replay.specs.Stages.{ReadState, Wrong, Follows, stays, Leads, follows, with_rest, Comes, ended}
use Rattle.bhs_replay.specs.Reading.{stage_of}
use Rattle.bhs_replay.specs.Readers.{stage_by, stage_in, IsOver, Stands, Holds, IsPast}
use Rattle.bhs_replay.proofs.TextLines.{ended-append, rest-flat, ended-flat, rest-line, ended-line}

-- ---- a fault stays

wrong_stays : (lines more : List (List ℕ)) (found : ReplayFault) → Leads lines (Wrong found)
    → Leads (lines ++ more) (Wrong found)
wrong_stays lines [] found leads = subst (λ ls. Leads ls (Wrong found)) (sym (append-nil lines)) leads
wrong_stays lines (line ∷ more) found leads =
    subst (λ ls. Leads ls (Wrong found)) (append_assoc lines (line ∷ []) more)
    (wrong_stays (lines ++ line ∷ []) more found
    (follows lines line (Wrong found) (Wrong found) leads (stays line found)))

with_rest-wrong : (bytes : List ℕ) (found : ReplayFault) → Wrong found ≡ with_rest bytes (Wrong found)
with_rest-wrong [] found = refl
with_rest-wrong (byte ∷ bytes) found = refl

-- whatever comes behind it
pub comes_wrong : (text more : List ℕ) (found : ReplayFault) → Leads (ended text) (Wrong found)
    → Comes (text ++ more) (Wrong found)
comes_wrong text more found leads = record {
  lines = Wrong found;
  leads = subst (λ lines. Leads lines (Wrong found)) (sym (ended-append [] text more))
      (wrong_stays (ended text) _ found leads);
  same = with_rest-wrong (rest (text ++ more)) found;
}

-- ---- the next line

module _ (text : List ℕ) (reader : Reader) (stands : Stands text reader) where
  pub leads_on : (end : List ℕ) (to : ReadState) → list_any is_line_feed end ≡ false
      → Follows (stage_in reader) (reader.line.items ++ end) to → Leads (ended (text ++ (end ++ 10 ∷ []))) to
  leads_on end to flat next =
      subst (λ lines. Leads lines to)
      (sym (ended-append [] text (end ++ 10 ∷ [])
      ∙ ap (λ lines. ended text ++ lines)
      (ended-line (rest text) end flat ∙ ap (λ line. (line ++ end) ∷ []) stands.line)))
      (follows (ended text) (reader.line.items ++ end) (stage_in reader) to stands.leads next)

  pub stands_on : (end : List ℕ) (new : Reader) → list_any is_line_feed end ≡ false
      → Follows (stage_in reader) (reader.line.items ++ end) (stage_in new) → new.line.items ≡ []
      → Stands (text ++ (end ++ 10 ∷ [])) new
  stands_on end new flat next clear = record {
    leads = leads_on end (stage_in new) flat next;
    line = rest_after-append [] text (end ++ 10 ∷ []) ∙ rest-line (rest text) end ∙ sym clear;
    quiet = λ over. clear;
  }

  -- ---- bytes without a line feed

  ended_same : (bytes : List ℕ) → list_any is_line_feed bytes ≡ false → ended (text ++ bytes) ≡ ended text
  ended_same bytes flat = ended-append [] text bytes
      ∙ ap (λ lines. ended text ++ lines) (ended-flat (rest text) bytes flat) ∙ append-nil (ended text)

  rest_more : (bytes : List ℕ) → list_any is_line_feed bytes ≡ false → rest (text ++ bytes) ≡ reader.line.items ++ bytes
  rest_more bytes flat = rest_after-append [] text bytes ∙ rest-flat (rest text) bytes flat
      ∙ ap (λ line. line ++ bytes) stands.line

  pub stands_holding : (bytes : List ℕ) (new : Reader) → list_any is_line_feed bytes ≡ false → Holds reader bytes new
      → Stands (text ++ bytes) new
  stands_holding bytes new flat holds = record {
    leads = subst (λ lines. Leads lines (stage_in new)) (sym (ended_same bytes flat))
        (subst (λ playing. Leads (ended text) (stage_by playing)) (sym holds.playing) stands.leads);
    line = rest_more bytes flat ∙ sym holds.line;
    quiet = λ over.
        let before = subst IsOver holds.playing over in
        holds.line ∙ ap₂ (λ (line more : List ℕ). line ++ more) (stands.quiet before) (holds.quiet before);
  }

  past_end : (playing : Option Playing) (bytes : List ℕ) (byte : ℕ) → IsOver playing
      → Wrong fault.End ≡ with_rest (byte ∷ bytes) (stage_by playing)
  past_end None bytes byte over = absurd over
  past_end (Some playing) bytes byte over = ap (λ is_over. with_rest (byte ∷ bytes) (stage_of playing.game is_over))
      (sym over)

  pub comes_past : (bytes : List ℕ) → list_any is_line_feed bytes ≡ false → IsPast reader bytes
      → Comes (text ++ bytes) (Wrong fault.End)
  comes_past [] flat past = absurd past
  comes_past (byte ∷ bytes) flat past = record {
    lines = stage_in reader;
    leads = subst (λ lines. Leads lines (stage_in reader)) (sym (ended_same (byte ∷ bytes) flat)) stands.leads;
    same = past_end reader.playing bytes byte past
        ∙ ap (λ left. with_rest left (stage_in reader))
        (sym (rest_more (byte ∷ bytes) flat ∙ ap (λ line. line ++ byte ∷ bytes) (stands.quiet past)));
  }
