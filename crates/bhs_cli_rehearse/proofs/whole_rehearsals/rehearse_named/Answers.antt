use Rattle.std.proofs.Common.{inl, refl, subst}
use Rattle.bhs_setups.specs.Lineups.{Contest}
use Rattle.bhs_model.specs.declared.limits.TheConstants.{MAX_TURNS}
use Rattle.bhs_stream.specs.Streams.{known_takes}
use Rattle.bhs_cli_rehearse.specs.Rehearsal.{Rehearses, opening_of}
use Rattle.bhs_cli_rehearse.specs.RehearsedTournaments.{rehearses_on, refuses_file}
use Rattle.bhs_cli_rehearse.proofs.whole_rehearsals.rehearse_named.Goals as goal

pub returns-in-Ok : goal.returns-in-Ok
returns-in-Ok g c =
    rw c.in-None.is (inl
    (subst (λ (contest : Contest). Rehearses (known_takes g.F.File.Write.contents) g.R.Input.gives g.W.Output.takes
    MAX_TURNS g.W.Output.flushes c.args.prefix
    (opening_of contest) c.args.reader.now c.rehearse_whole.new.reader c.args.writer.now c.rehearse_whole.new.writer
    c.rehearse_whole.result) c.in-Ok.ensures.made
    c.rehearse_whole.ensures))

pub returns-in-Ok-lineup_of : goal.returns-in-Ok-lineup_of
returns-in-Ok-lineup_of g c =
    rw c.in-Some.is (inl (rehearses_on c.in-Ok-lineup_of.lineup c.in-Ok-lineup_of.ensures.made
    c.rehearse_whole-in-Ok-lineup_of.ensures))

pub returns-in-Err-lineup_of : goal.returns-in-Err-lineup_of
returns-in-Err-lineup_of g c =
    let (fault, is) = c.in-Err-lineup_of.ensures.fault in
    rw c.in-Some.is (inl (refuses_file fault is (record { unread = refl; unwritten = refl })))
