use Rattle.std.proofs.Common.{ℕ, ◌≡◌, ◌∷◌, ◌++◌, [], Bool, List, Option, length, inl, refl, sym, ap, ap₂, ◌∙◌}
use Rattle.bhs_net.specs.Network.{Network}
use Rattle.bhs_model.specs.declared.events.Event.{Event}
use Rattle.bhs_model.specs.declared.replies.Reply.{Reply}
use Rattle.bhs_model.specs.Marks.{events_of}
use Rattle.bhs_model.specs.declared.setups.Setup.{Setup}
use Rattle.bhs_match.specs.Matches.{Play}
use Rattle.bhs_replay.specs.Head.{head_line, version_of}
use Rattle.bhs_replay.specs.Replay.{end_line, event_lines, replay, replay_of, replay_of_part, with_feeds}
use Rattle.bhs_view.specs.Twins.{HasTwin, IsTwin, places_left, twin_events, twin_setup}
use Rattle.bhs_view.proofs.TwinPlayLemmas.{events_left}
use Rattle.bhs_cli_results.specs.Reports.{IsTwinReplay}
use Rattle.bhs_cli.specs.Showing.{PrintsByLine, prints}
use Rattle.bhs_cli_results.proofs.ResultLemmas.{untwinned}
use Rattle.bhs_cli_results.proofs.twin.print_twin_of.Goals as goal

abbrev text_of : Network → Setup → List Event → List ℕ
text_of net setup events = replay (version_of net setup) net setup events

part_is : (play start : Play) (node : ℕ) (left : List Bool)
    → start ≡ record { net = play.net; setup = twin_setup play node; log = [] } → left ≡ places_left play
    → HasTwin play node
    → replay_of_part start.net start.setup play.log left ≡ text_of play.net (twin_setup play node) (twin_events play)
part_is play start node left is_start is_left has =
    let setup = twin_setup play node in
    let events = twin_events play in
    ap₂ (λ (start : Play) (left : List Bool). replay_of_part start.net start.setup play.log left) is_start is_left
    ∙ ap (λ (answers : List (Option Reply)). with_feeds (head_line (version_of play.net setup) play.net setup
    ∷ (event_lines events answers ++ end_line (length events) ∷ []))) (sym has.answers)

same_text : (play twin : Play) (node : ℕ) → IsTwin play node twin
    → text_of play.net (twin_setup play node) (twin_events play) ≡ replay_of twin
same_text play twin node is =
    sym (ap₂ (λ (net : Network) (setup : Setup). text_of net setup (events_of twin.log)) is.net is.setup
    ∙ ap (text_of play.net (twin_setup play node)) (events_left play twin node is))

pub returns-in-Ok : goal.returns-in-Ok
returns-in-Ok g c =
    let play : Play = c.args.sealed.now in
    let twin = c.in-Ok.twin in
    let text = replay_of_part twin.start.net twin.start.setup play.log twin.left.items in
    let is = part_is play twin.start c.args.node twin.left.items c.in-Ok.ensures.start c.in-Ok.ensures.left
    c.in-Ok.ensures.twin in
    inl (prints text
    (record {
      play = play;
      replayed = c.requires;
      twinned = c.in-Ok.ensures.twin;
      said = is;
      same = λ other is_twin. is ∙ same_text play other c.args.node is_twin;
    })
    (c.passed_on.ensures c.args.writer.now text c.write_twin.ensures.ok c.write_twin.ensures.err))

pub returns-in-Err : goal.returns-in-Err
returns-in-Err g c =
    untwinned (PrintsByLine g.W.Output.takes g.W.Output.flushes) (IsTwinReplay c.args.node) c.args.sealed.now
    c.args.node c.requires _ _ c.report.result refl
    c.in-Err.fault c.in-Err.ensures.fault (rw c.from.ensures at c.report.ensures)
