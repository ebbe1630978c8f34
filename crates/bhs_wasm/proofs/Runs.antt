-- What an instance comes to while its fuel lasts.
use Rattle.std.proofs.Common.{ℕ, zero, suc, ◌+◌, ◌≡◌, ◌≢◌, ◌-◌, ◌<◌, ◌≤◌, ◌∙◌, Option, refl, sym, ap}
use Rattle.std.proofs.Common.{nat_lt, if◌then◌else◌, subst, arith}
use Rattle.std.proofs.lemmas.Bool.{cond-true, cond-false, lt-ltb, le-ltb}
use Rattle.bhs_wasm.specs.Contents.{Contents}
use Rattle.bhs_wasm.specs.declared.instructions.Instruction.{Instruction}
use Rattle.bhs_wasm.specs.declared.interpreters.Progress.{Progress}
use Rattle.bhs_wasm.specs.declared.interpreters.Progress.TheVariants as progresses
use Rattle.bhs_wasm.specs.States.{State, StepResult, Continues, Waits, Ends, Traps, IsStepResult, and_then, burned}
use Rattle.bhs_wasm.specs.States.{cost_of, do_next, instruction_in, run}

-- the result of the next instruction, followed by the remaining instructions
abbrev goes : Contents → (most left : ℕ) → Option Instruction → State → StepResult
goes program most left next state = and_then (do_next program next state)
    (burned program most (left - cost_of program.max_pages next state))

burns : (program : Contents) (most left : ℕ) (state : State) → burned program (suc most) left state
    ≡ (if nat_lt left (cost_of program.max_pages (instruction_in program state) state) then Traps
    else goes program most left (instruction_in program state) state)
unfolding burned
burns program most left state = refl

on_from : (result : StepResult) (then_do : State → StepResult) (progress : Progress) (new : State)
    → progress ≡ progresses.Continues → IsStepResult result progress new → and_then result then_do ≡ then_do new
on_from (Continues after) then_do progress new on is = ap then_do (sym is.1)
on_from (Waits function after) then_do progress new on is = absurd (let both = sym on ∙ is.0 in cc)
on_from Ends then_do progress new on is = absurd (let both = sym on ∙ is in cc)
on_from Traps then_do progress new on is = absurd (let both = sym on ∙ is in cc)

over_from : (result : StepResult) (then_do : State → StepResult) (progress : Progress) (new : State)
    → progress ≢ progresses.Continues → IsStepResult result progress new
    → IsStepResult (and_then result then_do) progress new
over_from (Continues after) then_do progress new over is = absurd (over is.0)
over_from (Waits function after) then_do progress new over is = is
over_from Ends then_do progress new over is = is
over_from Traps then_do progress new over is = is

pub trapped : (result : StepResult) (new : State) → result ≡ Traps → IsStepResult result progresses.Traps new
trapped result new is = subst (λ (it : StepResult). IsStepResult it progresses.Traps new) (sym is) refl

-- a run that has come to this instruction in this state, with this fuel left
module _ (program : Contents) (fuel counter left : ℕ) (start state : State) (next : Option Instruction) (cost : ℕ)
    (is_next : next ≡ instruction_in program state) (is_cost : cost ≡ cost_of program.max_pages next state)
    (has_come : run program fuel start ≡ burned program (fuel - counter) left state) (below : counter < fuel)
  where
    one_more : run program fuel start ≡ (if nat_lt left cost then Traps
        else and_then (do_next program next state) (burned program (fuel - (counter + 1)) (left - cost)))
    one_more =
        let more : fuel - counter ≡ suc (fuel - (counter + 1)) = omega (arith, below) in
        has_come ∙ ap (λ (n : ℕ). burned program n left state) more
        ∙ burns program (fuel - (counter + 1)) left state
        ∙ (λ i. if nat_lt left (cost_of program.max_pages (sym is_next i) state) then Traps
        else goes program (fuel - (counter + 1)) left (sym is_next i) state)
        ∙ (λ i. if nat_lt left (sym is_cost i) then Traps
        else and_then (do_next program next state) (burned program (fuel - (counter + 1)) (left - sym is_cost i)))

    -- The fuel does not pay for the instruction.
    pub unpaid : left < cost → run program fuel start ≡ Traps
    unpaid few = one_more ∙ cond-true (nat_lt left cost) _ _ (lt-ltb left cost few)

    paid : cost ≤ left → run program fuel start
        ≡ and_then (do_next program next state) (burned program (fuel - (counter + 1)) (left - cost))
    paid enough = one_more ∙ cond-false (nat_lt left cost) _ _ (le-ltb left cost enough)

    -- it continues
    pub continues : (progress : Progress) (new : State) → cost ≤ left → progress ≡ progresses.Continues
        → IsStepResult (do_next program next state) progress new
        → run program fuel start ≡ burned program (fuel - (counter + 1)) (left - cost) new
    continues progress new enough on is = paid enough
        ∙ on_from (do_next program next state) (burned program (fuel - (counter + 1)) (left - cost)) progress new on is

    -- it does not
    pub stops : (progress : Progress) (new : State) → cost ≤ left → progress ≢ progresses.Continues
        → IsStepResult (do_next program next state) progress new
        → IsStepResult (run program fuel start) progress new
    stops progress new enough over is =
        subst (λ (result : StepResult). IsStepResult result progress new) (sym (paid enough))
        (over_from (do_next program next state) (burned program (fuel - (counter + 1)) (left - cost)) progress new over
        is)

-- a run that has come to its last instruction
pub spent : (program : Contents) (fuel counter left : ℕ) (start state : State)
    → run program fuel start ≡ burned program (fuel - counter) left state → fuel ≤ counter
    → run program fuel start ≡ Traps
unfolding burned
spent program fuel counter left start state has_come past =
    let none : fuel - counter ≡ zero = omega (arith, past) in
    has_come ∙ ap (λ (n : ℕ). burned program n left state) none
