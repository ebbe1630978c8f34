use Rattle.bhs_server.proofs.ServedLemmas.{attended_lemma}
use Rattle.bhs_server.proofs.visits.attend.Goals as goal

pub returns : goal.returns
returns g c = attended_lemma g.I.Input.gives g.O.Output.takes c.args.keys.now _ c.args.reader.now
    c.serve-ended.new.reader c.args.writer.now c.serve-ended.new.writer c.new-port.result c.serve-ended.new.port _
    c.into_played.result c.serve-ended.result c.new-port.ensures c.into_played.ensures c.serve-ended.ensures
