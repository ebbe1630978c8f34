use Rattle.std.proofs.Common.{rules, refl}
use Rattle.bhs_model.specs.PortMarks.{marks_of}
use Rattle.bhs_model.proofs.DoomLemmas.{link_added}
use Rattle.bhs_model.proofs.destroyers.Destroyers.add_link.Goals as goal

pub returns-clause-ok : goal.returns-clause-ok
returns-clause-ok c = λ holes dark are.
    link_added c.args.net.now holes dark c.args.self.now _ (marks_of c.make_room.new.marks.items)
    (marks_of c.make_room-2.new.marks.items) _ c.args.node c.args.port c.far-far.result c.requires.port
    (search rules) c.far-far.ensures.end are (search rules) (rw (← c.self.view_is) c.in_ok-make_room.ensures.more)
    c.in_ok-make_room.ensures.room c.in_ok-make_room-2.ensures.more c.in_ok-make_room-2.ensures.room
    (rw (c.mark_port-2.ensures, c.mark_port.ensures) refl)
