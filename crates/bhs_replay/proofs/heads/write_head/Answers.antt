use Rattle.bhs_replay.proofs.HeadTexts.{gathered}
use Rattle.bhs_replay.proofs.heads.write_head.Goals as goal

pub returns-clause-ok : goal.returns-clause-ok
returns-clause-ok c =
    gathered c.args.version c.args.net.now c.args.setup.now c.args.out.now.tokens c.in_ok-begin_object.ensures.ok
    c.in_ok-write_number.ensures.ok c.in_ok-write_number-2.ensures.ok c.in_ok-write_dooms.ensures.ok
    c.in_ok-write_number-3.ensures.ok (rw c.requires at c.in_ok-write_links.ensures.ok)
    (rw c.nodes.ensures.count at c.in_ok-write_number-4.ensures.ok) c.in_ok-write_number-5.ensures.ok
    (rw c.number_of.ensures at c.in_ok-write_number-6.ensures.ok) c.in_ok-end_object.ensures.ok
