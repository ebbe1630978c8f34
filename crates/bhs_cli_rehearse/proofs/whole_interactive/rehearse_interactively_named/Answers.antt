use Rattle.std.proofs.Common.{inl, refl, subst}
use Rattle.bhs_setups.specs.Lineups.{Contest}
use Rattle.bhs_stream.specs.Streams.{known_takes}
use Rattle.bhs_cli_rehearse.specs.Rehearsal.{opening_of}
use Rattle.bhs_cli_rehearse.specs.InteractiveTournaments.{InteractsWhole, interaction_on, tournament_refused}
use Rattle.bhs_cli_rehearse.proofs.whole_interactive.rehearse_interactively_named.Goals as goal

pub returns-in-Ok : goal.returns-in-Ok
returns-in-Ok g c =
    rw c.in-None.is (inl
    (subst (λ (contest : Contest). InteractsWhole (known_takes g.F.File.Write.contents) g.R.Input.gives g.W.Output.takes
    g.W.Output.flushes c.args.prefix
    (opening_of contest) c.args.reader.now c.interact_whole.new.reader c.args.writer.now c.interact_whole.new.writer
    c.interact_whole.result) c.in-Ok.ensures.made
    c.interact_whole.ensures))

pub returns-in-Ok-lineup_of : goal.returns-in-Ok-lineup_of
returns-in-Ok-lineup_of g c =
    rw c.in-Some.is (inl (interaction_on c.in-Ok-lineup_of.lineup c.in-Ok-lineup_of.ensures.made
    c.interact_whole-in-Ok-lineup_of.ensures))

pub returns-in-Err-lineup_of : goal.returns-in-Err-lineup_of
returns-in-Err-lineup_of g c =
    let (fault, is) = c.in-Err-lineup_of.ensures.fault in
    rw c.in-Some.is (inl (tournament_refused fault is (record { unread = refl; unwritten = refl })))
