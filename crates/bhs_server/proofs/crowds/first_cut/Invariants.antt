use Rattle.std.proofs.Common.{◌≡◌, drop, None}
use Rattle.bhs_server.specs.Crowds.{densest_from}
use Rattle.bhs_server.proofs.crowds.first_cut.Given as goal

abbrev pub invariant-loop-place : goal.invariant-loop-place
invariant-loop-place l = densest_from l.clients (drop l.place l.clients) l.place l.found
    ≡ densest_from l.clients l.clients 0 None
