use Rattle.std.proofs.Common.{take}
use Rattle.bhs_model.specs.Cuts.{at_places}
use Rattle.bhs_model.specs.Marks.{events_of}
use Rattle.bhs_view.proofs.PlayingLemmas.{HasPlayed}
use Rattle.bhs_view.proofs.playback.replay.Given as goal

abbrev pub invariant-loop-place : goal.invariant-loop-place
invariant-loop-place l = HasPlayed l.fn.game (at_places (take l.place (events_of l.log)) l.set) l.game
