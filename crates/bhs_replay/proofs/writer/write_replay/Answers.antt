use Rattle.std.proofs.Common.{◌≡◌, ◌<◌, ◌≤◌, ◌+◌, ℕ, List, [], ◌∷◌, ◌++◌, length, drop, get_or, map, subst, ap₂, ◌∙◌}
use Rattle.std.proofs.lemmas.Result.{IfOk-weaker}
use Rattle.bhs_net.specs.Network.{Network, IsNetwork}
use Rattle.bhs_model.specs.declared.setups.Setup.{Setup}
use Rattle.bhs_model.specs.Marks.{events_of, read_if}
use Rattle.bhs_model.specs.InOrder.{replies}
use Rattle.bhs_match.specs.Matches.{Play, world_in}
use Rattle.bhs_stream.specs.Streams.{WriteAnswer}
use Rattle.bhs_model.specs.declared.marks.Kept.{Kept}
use Rattle.bhs_stream.proofs.PutsLemmas.{IsSentUpTo, sent_more}
use Rattle.bhs_replay.specs.Head.{head_line, version_of}
use Rattle.bhs_replay.specs.Replay.{end_line, replay_of}
use Rattle.bhs_replay.proofs.ReplayTexts.{kept_line, left_of, replay-along, left-next, drop-next, left-last}
use Rattle.bhs_replay.proofs.ReadBack.{AreTypedUpTo, none_typed, one_more, all_typed, was_made, on_ok, read_as}
use Rattle.bhs_replay.proofs.WritingLemmas.{fault_is, breaks_at, first_line, ends_whole, ends_broken}
use Rattle.bhs_replay.proofs.writer.write_replay.Goals as goal

abbrev head_of : Play → List ℕ
head_of play = head_line (version_of play.net play.setup) play.net play.setup

begun : {O : Type 0} (takes : O → List ℕ → WriteAnswer → O → Type 0) (a : O) (play : Play)
    → map (λ one. read_if play.log one.mark) play.log ≡ replies (world_in play) (events_of play.log)
    → IsSentUpTo takes a a (replay_of play) ((head_of play ++ 10 ∷ [])
    ++ left_of play.log play.log)
begun takes a play answered = first_line takes a (replay_of play) (head_of play ++ 10 ∷ [])
    (left_of play.log play.log) (replay-along play answered)

-- the writer's state before the event at a place
at_event : {O : Type 0} (takes : O → List ℕ → WriteAnswer → O
    → Type 0) (a b : O) (text : List ℕ) (log : List Kept) (i : ℕ)
    (one : Kept) → i < length log → one ≡ get_or log i one
    → IsSentUpTo takes a b text (left_of log (drop i log))
    → IsSentUpTo takes a b text ((kept_line log one ++ 10 ∷ []) ++ left_of log (drop (i + 1) log))
at_event takes a b text log i one within is so_far =
    subst (λ (left : List ℕ). IsSentUpTo takes a b text left)
    (left-next log (drop i log) (drop (i + 1) log) one (drop-next log i one within is)) so_far

at_end : {O : Type 0} (takes : O → List ℕ → WriteAnswer → O
    → Type 0) (a b : O) (text : List ℕ) (log : List Kept) (i : ℕ)
    → length log ≤ i
    → IsSentUpTo takes a b text (left_of log (drop i log))
    → IsSentUpTo takes a b text (end_line (length log) ++ 10 ∷ [])
at_end takes a b text log i past so_far = subst (λ (left : List ℕ). IsSentUpTo takes a b text left)
    (left-last log i past) so_far

pub returns-in_err-send_line-clause-err : goal.returns-in_err-send_line-clause-err
returns-in_err-send_line-clause-err g c =
    let play : Play = c.args.sealed.now in
    let made =
    IfOk-weaker c.head_of.result _ _ (λ text is. is ∙ ap₂ (λ (n : Network) (s : Setup). head_line (version_of n s) n s)
    c.net.ensures c.setup.ensures.setup) c.head_of.ensures.line
    in
    fault_is c.from_residual.result c.in_err-send_line.field-0.0 _ c.from_residual.ensures.1
    (breaks_at g.W.Output.takes _ _ _ (replay_of play) (head_of play ++ 10 ∷ [])
    (left_of play.log play.log) _
    (begun g.W.Output.takes c.args.writer.now play c.log-log.ensures.replies)
    (c.in_err-send_line.ensures.err (head_of play) made))

pub loop-one-init : goal.loop-one-init
loop-one-init g c =
    let play : Play = c.args.sealed.now in
    let made =
    IfOk-weaker c.head_of.result _ _ (λ text is. is ∙ ap₂ (λ (n : Network) (s : Setup). head_line (version_of n s) n s)
    c.net.ensures c.setup.ensures.setup) c.head_of.ensures.line
    in (
      rw c.log-log.ensures.log
          (sent_more g.W.Output.takes _ _ _ (replay_of play) (head_of play ++ 10 ∷ [])
          (left_of play.log play.log)
          (begun g.W.Output.takes c.args.writer.now play c.log-log.ensures.replies)
          (c.in_ok-send_line.ensures.ok (head_of play) made)),
      none_typed c.log-log.result.now,
    )

pub returns-in_err-send_event-clause-err : goal.returns-in_err-send_event-clause-err
returns-in_err-send_event-clause-err g c =
    let play : Play = c.args.sealed.now in
    let same = c.log-log.ensures.log in
    let log : List Kept = c.log-log.result.now in
    let one : Kept = c.one-item.result in
    let here = at_event g.W.Output.takes c.args.writer.now _ (replay_of play) log c.loop-one.one-index one
    c.loop-one-test.true c.one-item.is c.loop-one.invariant.0 in
    fault_is c.from_residual-in_err-send_event.result c.in_err-send_event.field-0.0 _
    c.from_residual-in_err-send_event.ensures.1
    (breaks_at g.W.Output.takes _ _ _ (replay_of play) (kept_line log one ++ 10 ∷ [])
    (left_of log (drop (c.loop-one.one-index + 1) log)) _ here
    (rw (← same) at c.in_err-send_event.ensures.err))

pub loop-one-preserved : goal.loop-one-preserved
loop-one-preserved g c =
    let play : Play = c.args.sealed.now in
    let same = c.log-log.ensures.log in
    let log : List Kept = c.log-log.result.now in
    let one : Kept = c.one-item.result in
    let here = at_event g.W.Output.takes c.args.writer.now _ (replay_of play) log c.loop-one.one-index one
    c.loop-one-test.true c.one-item.is c.loop-one.invariant.0 in (
      sent_more g.W.Output.takes _ _ _ (replay_of play) (kept_line log one ++ 10 ∷ [])
          (left_of log (drop (c.loop-one.one-index + 1) log)) here
          (rw (← same) at c.in_ok-send_event.ensures.ok),
      one_more log c.loop-one.one-index one c.loop-one-test.true c.one-item.is c.loop-one.invariant.1
          c.send_event.ensures.typed,
    )

pub returns-clause-ok : goal.returns-clause-ok
returns-clause-ok g c =
    let play : Play = c.args.sealed.now in
    let log : List Kept = c.log-log.result.now in
    ends_whole g.W.Output.takes c.send_line-2.result _ _ _ (replay_of play) (end_line (length log) ++ 10 ∷ [])
    (at_end g.W.Output.takes _ _ (replay_of play) log c.loop-one.one-index c.loop-one-test.false c.loop-one.invariant.0)
    (c.send_line-2.ensures.ok (end_line (length log)) c.end_line.ensures)

pub returns-clause-err : goal.returns-clause-err
returns-clause-err g c =
    let play : Play = c.args.sealed.now in
    let log : List Kept = c.log-log.result.now in
    ends_broken g.W.Output.takes c.send_line-2.result _ _ _ (replay_of play) (end_line (length log) ++ 10 ∷ [])
    (at_end g.W.Output.takes _ _ (replay_of play) log c.loop-one.one-index c.loop-one-test.false c.loop-one.invariant.0)
    (c.send_line-2.ensures.err (end_line (length log)) c.end_line.ensures)

pub returns-clause-read : goal.returns-clause-read
returns-clause-read g c =
    let play : Play = c.args.sealed.now in
    let log : List Kept = c.log-log.result.now in
    let network : IsNetwork play.net = subst IsNetwork c.net.ensures
    (was_made c.head_of.result _ c.in_ok-send_line.ensures.made c.head_of.ensures.network) in
    let all : AreTypedUpTo play.log (length play.log) =
    rw c.log-log.ensures.log at (all_typed log c.loop-one.one-index c.loop-one-test.false c.loop-one.invariant.1)
    in
    on_ok c.send_line-2.result _
    (read_as play network c.setup.ensures.within c.setup.ensures.normal c.log-log.ensures.closed c.log-log.ensures.kept
    all)
