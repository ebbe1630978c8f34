use Rattle.std.proofs.Common.{List, ℕ, length}
use Rattle.bhs_replay.specs.Readers.{Stands}
use Rattle.bhs_replay.proofs.FeedLemmas.{FedUpTo}
use Rattle.bhs_replay.proofs.reader.Reader.feed.Given as goal

abbrev pub invariant-loop-end : goal.invariant-loop-end
invariant-loop-end l = (text : List ℕ) → Stands text l.fn.self → FedUpTo text l.piece l.after l.self

abbrev pub decreases-loop-end : goal.decreases-loop-end
decreases-loop-end l = length l.after
