use Rattle.std.proofs.Common.{drop}
use Rattle.std.specs.Prelude.{map}
use Rattle.bhs_replay.specs.Head.{link_data}
use Rattle.bhs_replay.proofs.HeadLists.{IsWritingOn}
use Rattle.bhs_replay.proofs.heads.write_links.Given as goal

abbrev pub invariant-loop-link : goal.invariant-loop-link
invariant-loop-link l = IsWritingOn l.initial.out l.out (map link_data l.links)
    (map link_data (drop l.link-index l.links))
