use Rattle.std.proofs.Common.{rules}
use Rattle.bhs_wire.proofs.SaidLemmas.{word_added, key_added, expect_added, put_added, port_added, passed_over}
use Rattle.bhs_wire.proofs.said.Said.add.Goals as goal

pub returns-in-do : goal.returns-in-do
returns-in-do c before d kept is = rw c.in-do.is (word_added d before c.args.self.now kept c.args.content is)

pub returns-in-key : goal.returns-in-key
returns-in-key c before d kept is = rw c.in-key.is (key_added d before c.args.self.now kept c.args.content is)

pub returns-in-expect : goal.returns-in-expect
returns-in-expect c before d kept is = rw c.in-expect.is (expect_added d before c.args.self.now kept c.args.content is)

pub returns-in-put : goal.returns-in-put
returns-in-put c before d kept is = rw c.in-put.is (put_added d before c.args.self.now kept c.args.content is)

pub returns-in-port : goal.returns-in-port
returns-in-port c before d kept is = rw c.in-port.is (port_added d before c.args.self.now kept c.args.content is)

pub returns-else-str_eq-5 : goal.returns-else-str_eq-5
returns-else-str_eq-5 c before d kept is = passed_over d before c.args.self.now kept c.args.name.now
    (search rules) (search rules) (search rules) (search rules) (search rules)
