use Rattle.std.proofs.Common.{ℕ, ◌≡◌, ◌<◌, List, [], ◌∷◌, ◌++◌, ◌+◌, Bool, true, length, drop, refl, arith}
use Rattle.std.proofs.Common.{ap, ap₂, ◌∙◌}
use Rattle.std.proofs.lemmas.Result.{IfOk-weaker}
use Rattle.bhs_net.specs.Network.{Network}
use Rattle.bhs_model.specs.declared.setups.Setup.{Setup}
use Rattle.bhs_model.specs.declared.marks.Kept.{Kept}
use Rattle.bhs_model.specs.Cuts.{at_places}
use Rattle.bhs_match.specs.Matches.{Play}
use Rattle.bhs_stream.proofs.PutsLemmas.{sent_more}
use Rattle.bhs_replay.specs.Head.{head_line, version_of}
use Rattle.bhs_replay.specs.Replay.{end_line, replay_of_part}
use Rattle.bhs_replay.proofs.ReplayTexts.{kept_line}
use Rattle.bhs_replay.proofs.PartTexts.{part_left, part-along, before_all, joined, next_line, after_line}
use Rattle.bhs_replay.proofs.PartTexts.{after_none, after_all}
use Rattle.bhs_replay.proofs.WritingLemmas.{fault_is, breaks_at, first_line, ends_whole, ends_broken}
use Rattle.bhs_replay.proofs.writer.write_part.Goals.{then-places-place+in_ok-send_event, else-places-place}
use Rattle.bhs_replay.proofs.writer.write_part.Goals as goal

has_place : (log other : List Kept) (places : List Bool) (place : ℕ) → log ≡ other → length places ≡ length other
    → place < length log → place < length places
has_place log other places place is same within =
    let is_long : length log ≡ length other = ap (λ (log : List Kept). length log) is in
    omega (arith, is_long, same, within)

pub returns-in_err-send_line-clause-err : goal.returns-in_err-send_line-clause-err
returns-in_err-send_line-clause-err g c =
    let start : Play = c.args.start.now in
    let log = c.args.sealed.now.log in
    let places = c.args.places.now in
    let head = head_line (version_of start.net start.setup) start.net start.setup in
    let left = part_left log log places (length (at_places log places)) in
    let text = replay_of_part start.net start.setup log places in
    let made =
    IfOk-weaker c.head_of.result _ _ (λ text is. is ∙ ap₂ (λ (n : Network) (s : Setup). head_line (version_of n s) n s)
    c.net.ensures c.setup.ensures.setup) c.head_of.ensures.line
    in
    fault_is c.from_residual.result c.in_err-send_line.field-0.0 _ c.from_residual.ensures.1
    (breaks_at g.W.Output.takes _ _ _ text (head ++ 10 ∷ []) left _
    (first_line g.W.Output.takes c.args.writer.now text (head ++ 10 ∷ []) left
    (part-along start.net start.setup log places))
    (c.in_err-send_line.ensures.err head made))

pub loop-place-init : goal.loop-place-init
loop-place-init g c =
    let start : Play = c.args.start.now in
    let log = c.args.sealed.now.log in
    let places = c.args.places.now in
    let head = head_line (version_of start.net start.setup) start.net start.setup in
    let left = part_left log log places (length (at_places log places)) in
    let text = replay_of_part start.net start.setup log places in
    let made =
    IfOk-weaker c.head_of.result _ _ (λ text is. is ∙ ap₂ (λ (n : Network) (s : Setup). head_line (version_of n s) n s)
    c.net.ensures c.setup.ensures.setup) c.head_of.ensures.line
    in
    rw c.log-log.ensures.log
    (before_all g.W.Output.takes text log places c.args.writer.now _
    (sent_more g.W.Output.takes _ _ _ text (head ++ 10 ∷ []) left
    (first_line g.W.Output.takes c.args.writer.now text (head ++ 10 ∷ []) left
    (part-along start.net start.setup log places))
    (c.in_ok-send_line.ensures.ok head made)))

pub returns-in_err-send_event-clause-err : goal.returns-in_err-send_event-clause-err
returns-in_err-send_event-clause-err g c =
    let start : Play = c.args.start.now in
    let log = c.log-log.result.now in
    let places = c.args.places.now in
    let place = c.loop-place.place in
    let one = c.index-log-place.result in
    let text = replay_of_part start.net start.setup c.args.sealed.now.log places in
    let is_log = c.log-log.ensures.log in
    let within = c.loop-place-test.true in
    let here = next_line g.W.Output.takes text log places c.args.writer.now _ c.loop-place.count place one true within
    (has_place log c.args.sealed.now.log places place is_log c.requires within)
    c.index-log-place.is c.if-places-place.true c.loop-place.invariant refl in
    fault_is c.from_residual-in_err-send_event.result c.in_err-send_event.field-0.0 _
    c.from_residual-in_err-send_event.ensures.1
    (breaks_at g.W.Output.takes _ _ _ text (kept_line log one ++ 10 ∷ [])
    (part_left log (drop (place + 1) log) (drop (place + 1) places) (length (at_places log places))) _ here
    (rw (← is_log) at c.in_err-send_event.ensures.err))

pub loop-place-preserved : goal.loop-place-preserved
loop-place-preserved g c =
    let start : Play = c.args.start.now in
    let log = c.log-log.result.now in
    let places = c.args.places.now in
    let place = c.loop-place.place in
    let text = replay_of_part start.net start.setup c.args.sealed.now.log places in
    let is_log = c.log-log.ensures.log in
    let within = c.loop-place-test.true in
    let has = has_place log c.args.sealed.now.log places place is_log c.requires within in
    elim c.if-places-place.branch [
      | then-places-place+in_ok-send_event w ↦
          let one = w.index-log-place.result in
          joined g.W.Output.takes text log places c.args.writer.now _ _ (c.loop-place.count + 1) _ (place + 1)
          w.writer-is w.count-is
          (after_line g.W.Output.takes text log places c.args.writer.now _ c.loop-place.count place one true within has
          w.index-log-place.is w.if-places-place.true c.loop-place.invariant _ refl
          (rw (← is_log) at w.in_ok-send_event.ensures.ok))
      | else-places-place w ↦
          joined g.W.Output.takes text log places c.args.writer.now _ _ c.loop-place.count _ (place + 1) w.writer-is
          w.count-is
          (after_none g.W.Output.takes text log places c.args.writer.now _ c.loop-place.count place within has
          w.if-places-place.false c.loop-place.invariant)
    ]

pub returns-clause-ok : goal.returns-clause-ok
returns-clause-ok g c =
    let start : Play = c.args.start.now in
    let log = c.log-log.result.now in
    let places = c.args.places.now in
    let text = replay_of_part start.net start.setup c.args.sealed.now.log places in
    ends_whole g.W.Output.takes c.send_line-2.result _ _ _ text (end_line c.loop-place.count ++ 10 ∷ [])
    (after_all g.W.Output.takes text log places _ _ c.loop-place.count c.loop-place.place c.loop-place-test.false
    c.loop-place.invariant)
    (c.send_line-2.ensures.ok (end_line c.loop-place.count) c.end_line.ensures)

pub returns-clause-err : goal.returns-clause-err
returns-clause-err g c =
    let start : Play = c.args.start.now in
    let log = c.log-log.result.now in
    let places = c.args.places.now in
    let text = replay_of_part start.net start.setup c.args.sealed.now.log places in
    ends_broken g.W.Output.takes c.send_line-2.result _ _ _ text (end_line c.loop-place.count ++ 10 ∷ [])
    (after_all g.W.Output.takes text log places _ _ c.loop-place.count c.loop-place.place c.loop-place-test.false
    c.loop-place.invariant)
    (c.send_line-2.ensures.err (end_line c.loop-place.count) c.end_line.ensures)
