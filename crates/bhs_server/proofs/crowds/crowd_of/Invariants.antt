use Rattle.std.proofs.Common.{◌≡◌, drop}
use Rattle.bhs_server.specs.Crowds.{crowd_from, crowd_of}
use Rattle.bhs_server.proofs.crowds.crowd_of.Given as goal

abbrev pub invariant-loop-place : goal.invariant-loop-place
invariant-loop-place l = crowd_from (drop l.place l.clients) l.origin l.crowd ≡ crowd_of l.clients l.origin
