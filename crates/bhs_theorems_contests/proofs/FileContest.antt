-- Agents that run files in a contest.
use Rattle.std.proofs.Common.{ℕ, ◌≡◌, ◌∙◌, List, Option, Some, None, map, refl, sym, ap, ap₂, subst}
use Rattle.std.specs.Prelude.{slice_get, option_map}
use Rattle.std.proofs.lemmas.Option.{get_or_from_slice_get, slice_get-map}
use mathlib.Core.Path.{fun_ext}
use Rattle.bhs_net.specs.Network.{Network}
use Rattle.bhs_match.specs.Matches.{Play}
use Rattle.bhs_model.specs.declared.setups.Setup.{Setup}
use Rattle.bhs_wasm.specs.Contents.{Contents, contents_of}
use Rattle.bhs_schedules.specs.declared.results.Bounds.{Bounds}
use Rattle.bhs_explore.specs.Answers.{is_held}
use Rattle.bhs_schedules.specs.Schedules.{Trial}
use Rattle.bhs_schedules.specs.Strategies.{Strategies, Strategy}
use Rattle.bhs_wasm_read.specs.Modules.{module_in}
use Rattle.bhs_wasm_team.specs.declared.agents.Role.{Role}
use Rattle.bhs_wasm_team.specs.declared.agents.Roles.{Roles}
use Rattle.bhs_wasm_team.specs.declared.agents.TheConstants.{FUEL}
use Rattle.bhs_wasm_team.specs.Agents.{strategy_of}
use Rattle.bhs_wasm_team.specs.Laws.{IsSolved, trial_in as trial_of_roles}
use Rattle.bhs_wasm_team.specs.Roles.{all_roles, role_at, role_of, role_number, strategies_in}
use Rattle.bhs_cli_explore.specs.ModuleExploration.{ModuleLine, arguments_of, programs_of}
use Rattle.bhs_attest.specs.Laws.{trial_in}
use Rattle.bhs_theorems_contests.specs.Contests.{IsOrderly, WaitsOnLinks}
use Rattle.bhs_theorems_contests.specs.ModuleContests.{IsExplored, IsModuleContest, ModulesAreNeverWrong}
use Rattle.bhs_theorems_contests.specs.ModuleContests.{ModulesSolveContests, RunsItsFile}
use Rattle.bhs_theorems_contests.proofs.Contest.{contests_are_solved, contests_are_never_wrong, contests_stay_within}
use Rattle.bhs_theorems_contests.proofs.Orderly.{waiters_are_orderly}
use Rattle.bhs_theorems_contests.proofs.Waiters.{programs_wait}

-- two lists that show the same show the same at a place
at_place : {X Y Z : Type 0} (f : X → Z) (g : Y → Z) (xs : List X) (ys : List Y) (place : ℕ)
    → map f xs ≡ map g ys → option_map f (slice_get xs place) ≡ option_map g (slice_get ys place)
at_place f g xs ys place same =
    sym (slice_get-map f xs place) ∙ ap (λ zs. slice_get zs place) same ∙ slice_get-map g ys place

-- A property of the role at some place holds of this role in the list of all roles.
shown_at : {Z : Type 0} (g : Role → Z) (roles : Roles) (place : ℕ) (z : Z) (found : Option Role)
    → slice_get (all_roles roles) place ≡ found → option_map g found ≡ Some z → g (role_at roles place) ≡ z
shown_at g roles place z None is shown = absurd (cc)
shown_at g roles place z (Some role) is shown =
    let at : role_at roles place ≡ role = get_or_from_slice_get (all_roles roles) place role roles.first is in
    let same : g role ≡ z = cc in
    ap g at ∙ same

module _ (lines : List ModuleLine) (roles : Roles)
    (are : map (λ line. module_in line.file) lines ≡ programs_of roles)
    (have : map (λ line. line.arguments) lines ≡ arguments_of roles) where
  -- an agent that runs its file has the strategy of its role
  runs_its_role : (agent : ℕ) (strategy : Strategy) → RunsItsFile lines roles agent strategy
      → strategy ≡ strategies_in roles FUEL agent
  runs_its_role agent strategy it =
      let place : ℕ = role_number roles agent in
      let all : List Role = all_roles roles in
      let says : Role → Option Contents = λ role. Some (contents_of role.program) in
      let given : Role → List ℕ = λ role. role.arguments.items in
      let said : option_map says (slice_get all place) ≡ Some (Some it.program) =
      sym (at_place (λ (line : ModuleLine). module_in line.file) says lines all place are)
      ∙ ap (option_map (λ (line : ModuleLine). module_in line.file)) it.own ∙ ap Some it.says in
      let told : option_map given (slice_get all place) ≡ Some it.line.arguments =
      sym (at_place (λ (line : ModuleLine). line.arguments) given lines all place have)
      ∙ ap (option_map (λ (line : ModuleLine). line.arguments)) it.own in
      let program : Some (contents_of (role_at roles place).program) ≡ Some it.program =
      shown_at says roles place (Some it.program) (slice_get all place) refl said in
      let arguments : (role_at roles place).arguments.items ≡ it.line.arguments =
      shown_at given roles place it.line.arguments (slice_get all place) refl told in
      let contents : contents_of (role_at roles place).program ≡ it.program = cc in
      it.runs ∙ ap₂ (λ (c : Contents) (a : List ℕ). strategy_of c a FUEL) (sym contents) (sym arguments)

-- ---- a match that was explored

module _ (play : Play) (bounds : Bounds) (it : IsExplored play bounds) where
  abbrev pub links : List (ℕ × ℕ)
  links = it.report.is_found.links

  abbrev pub wakeups : ℕ
  wakeups = it.exploration.wakeups

  -- the strategies of the roles solve it
  pub roles_solve : IsSolved (trial_of_roles play.net play.setup links wakeups it.roles FUEL) bounds
  roles_solve =
      subst (λ (n : Network). IsSolved (trial_of_roles n play.setup links wakeups it.roles FUEL) bounds) it.net
      (subst (λ (s : Setup). IsSolved (trial_of_roles it.ready.game.net s links wakeups it.roles FUEL) bounds) it.setup
      (it.report.is_found.is_found.solved bounds it.solves))

  pub runs_as_explored : (agent : ℕ) (strategy : Strategy) → RunsItsFile it.report.lines it.roles agent strategy
      → strategy ≡ strategies_in it.roles FUEL agent
  runs_as_explored = runs_its_role it.report.lines it.roles it.report.are (it.report.have ∙ sym it.all)

-- ---- a contest

module _ (play : Play) (bounds : Bounds) (it : IsModuleContest play bounds) where
  abbrev held : List (ℕ × ℕ)
  held = links play bounds it.explored

  abbrev spurious : ℕ
  spurious = wakeups play bounds it.explored

  abbrev trial : Trial
  trial = trial_in play (is_held held) spurious it.strategies

  same : strategies_in it.explored.roles FUEL ≡ it.strategies
  same = sym (fun_ext (λ (agent : ℕ).
      runs_as_explored play bounds it.explored agent (it.strategies agent) (it.runs agent)))

  by : IsSolved trial bounds
  by = subst (λ (s : Strategies). IsSolved (trial_in play (is_held held) spurious s) bounds) same
      (roles_solve play bounds it.explored)

  orderly : IsOrderly trial
  orderly =
      let waits : (agent : ℕ) → WaitsOnLinks (it.strategies agent) = λ agent. subst WaitsOnLinks
      (ap (λ (s : Strategies). s agent) same)
      (programs_wait.modules_wait (contents_of (role_of it.explored.roles agent).program)
      (role_of it.explored.roles agent).arguments.items FUEL) in
      waiters_are_orderly trial it.enters waits

pub modules_solve_contests : ModulesSolveContests
modules_solve_contests play bounds it done =
    contests_are_solved play (is_held (held play bounds it)) (spurious play bounds it) it.strategies bounds.moves
    bounds.lost it.clients it.played it.plain done (orderly play bounds it) (by play bounds it).solves
    (by play bounds it).rests

pub modules_are_never_wrong : ModulesAreNeverWrong
modules_are_never_wrong play bounds it = (
  contests_are_never_wrong play (is_held (held play bounds it)) (spurious play bounds it) it.strategies bounds.moves
      bounds.lost it.clients it.played it.plain (orderly play bounds it) (by play bounds it).solves
      (by play bounds it).rests,
  contests_stay_within play (is_held (held play bounds it)) (spurious play bounds it) it.strategies bounds.moves
      bounds.lost it.clients it.played it.plain (orderly play bounds it) (by play bounds it).solves
      (by play bounds it).rests,
)
