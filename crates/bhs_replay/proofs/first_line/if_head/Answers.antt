use Rattle.bhs_replay.proofs.first_line.if_head.Goals as goal

pub returns : goal.returns
returns c = λ says is version starts. rw c.if-branch.false at c.in_ok-is_head.ensures says is version starts
