use Rattle.std.proofs.Common.{◌≡◌, ◌∙◌, ap, ap₂, sym, ℕ, List, subst}
use Rattle.bhs_agents.specs.Modules.{strategy_of_module}
use Rattle.bhs_schedules.specs.Strategies.{Strategy}
use Rattle.bhs_wasm.specs.Contents.{contents_of}
use Rattle.bhs_wasm_read.specs.Modules.{module_in}
use Rattle.bhs_wasm_team.specs.Agents.{strategy_of}
use Rattle.bhs_wasm_team.specs.declared.agents.Role.{Role}
use Rattle.bhs_wasm_team.specs.declared.agents.TheConstants.{FUEL}
use Rattle.bhs_attest.specs.Attested.{Player}
use Rattle.bhs_attest.specs.Attestations.{Attests}
use Rattle.bhs_cli_attest.proofs.agents.compare.Goals as goal

pub returns-in-Ok-attest : goal.returns-in-Ok-attest
returns-in-Ok-attest c =
    let file = c.args.file.now in
    let program = contents_of c.in-Ok.program in
    let arguments = c.in_ok-arguments.ensures.items ∙ c.deref-2.ensures.value in
    let same : strategy_of_module c.in_ok-player.player ≡ strategy_of program file.arguments.items FUEL =
    ap₂ (λ (role : Role) (fuel : ℕ). strategy_of (contents_of role.program) role.arguments.items fuel)
    c.in_ok-player.ensures.0 c.in_ok-player.ensures.1
    ∙ ap (λ (numbers : List ℕ). strategy_of program numbers FUEL) arguments in
    record {
      program = program;
      is_module = ap module_in (sym c.deref.ensures.value) ∙ c.in-Ok.ensures.contents;
      attests = subst (λ (player : Player). Attests player c.args.sealed.now c.in-Ok-attest.attestation)
          (ap₂ (λ (strategy : Strategy) (wakeups : ℕ).
          let player : Player = record { agent = c.args.agent; strategy = strategy; wakeups = wakeups } in player) same
          c.from.ensures) c.in-Ok-attest.ensures;
    }
