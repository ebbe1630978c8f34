use Rattle.bhs_wasm.specs.Contents.{contents_of}
use Rattle.bhs_wasm.specs.States.{state_of}
use Rattle.bhs_wasm.proofs.Runs.{continues, spent, stops, trapped, unpaid}
use Rattle.bhs_wasm.proofs.interpreters.Interpreter.run.Goals as goal

pub returns-then-left-cost : goal.returns-then-left-cost
returns-then-left-cost c = trapped _ _ (unpaid (contents_of c.args.program.now) c.args.fuel c.loop.counter c.loop.left
    (state_of c.args.self.now) (state_of c.loop.self) c.next_in-next.result c.cost_of-cost.result c.next_in-next.ensures
    c.cost_of-cost.ensures c.loop.invariant c.loop-test.true c.if-left-cost.true)

pub returns-in-Waits : goal.returns-in-Waits
returns-in-Waits c = stops (contents_of c.args.program.now) c.args.fuel c.loop.counter c.loop.left
    (state_of c.args.self.now) (state_of c.loop.self) c.next_in-next.result c.cost_of-cost.result c.next_in-next.ensures
    c.cost_of-cost.ensures c.loop.invariant c.loop-test.true c.in_ok-progress.progress (state_of c.step.new.self)
    c.if-left-cost.false (λ e. let h = c.in-Waits.is in cc) c.in_ok-progress.ensures

pub returns-in-Ends : goal.returns-in-Ends
returns-in-Ends c = stops (contents_of c.args.program.now) c.args.fuel c.loop.counter c.loop.left
    (state_of c.args.self.now) (state_of c.loop.self) c.next_in-next.result c.cost_of-cost.result c.next_in-next.ensures
    c.cost_of-cost.ensures c.loop.invariant c.loop-test.true c.in_ok-progress.progress (state_of c.step.new.self)
    c.if-left-cost.false (λ e. let h = c.in-Ends.is in cc) c.in_ok-progress.ensures

pub returns-in-Traps : goal.returns-in-Traps
returns-in-Traps c = stops (contents_of c.args.program.now) c.args.fuel c.loop.counter c.loop.left
    (state_of c.args.self.now) (state_of c.loop.self) c.next_in-next.result c.cost_of-cost.result c.next_in-next.ensures
    c.cost_of-cost.ensures c.loop.invariant c.loop-test.true c.in_ok-progress.progress (state_of c.step.new.self)
    c.if-left-cost.false (λ e. let h = c.in-Traps.is in cc) c.in_ok-progress.ensures

pub loop-preserved : goal.loop-preserved
loop-preserved c = continues (contents_of c.args.program.now) c.args.fuel c.loop.counter c.loop.left
    (state_of c.args.self.now) (state_of c.loop.self) c.next_in-next.result c.cost_of-cost.result c.next_in-next.ensures
    c.cost_of-cost.ensures c.loop.invariant c.loop-test.true c.in_ok-progress.progress (state_of c.step.new.self)
    c.if-left-cost.false c.in-Continues.is c.in_ok-progress.ensures

pub returns : goal.returns
returns c = trapped _ _ (spent (contents_of c.args.program.now) c.args.fuel c.loop.counter c.loop.left
    (state_of c.args.self.now) (state_of c.loop.self) c.loop.invariant c.loop-test.false)
