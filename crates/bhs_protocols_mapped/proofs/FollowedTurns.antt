-- Simulation: any turn on the network matches the same turn on the part.
use Rattle.std.proofs.Common.{ℕ, ◌≡◌, Bool, true, false, not}
use Rattle.std.proofs.Common.{refl, sym, ap, ◌∙◌, subst, if◌then◌else◌, nat_lt}
use Rattle.std.proofs.lemmas.Bool.{cond-true, cond-false}
use Rattle.bhs_model.specs.declared.events.Event.TheVariants.{Tell, Deliver}
use Rattle.bhs_model.specs.Worlds.{Network, World}
use Rattle.bhs_model.specs.Runs.{Position, Before, At, Bound, After, is_doomed}
use Rattle.bhs_model.specs.Examples.{none_held}
use Rattle.bhs_model.proofs.StepLemmas.{by_cases}
use Rattle.bhs_schedules.specs.declared.answers.Step.{Step}
use Rattle.bhs_schedules.specs.declared.answers.Step.TheVariants.{Says, Sleeps, Stops, Fails}
use Rattle.bhs_schedules.specs.Strategies.{Strategies}
use Rattle.bhs_schedules.specs.Schedules.{Trial, Action, Makes, Wakes, Rests, action_at, is_move}
use Rattle.bhs_protocols.specs.Configurations.{Configuration, deed_in}
use Rattle.bhs_protocols.specs.Configurations.{delivered_in, done_in, turn_in}
use Rattle.bhs_protocols.specs.Configurations.{can_move_in}
use Rattle.bhs_protocols_mapped.specs.Parts.{IsPart, command_of, step_of}
use Rattle.bhs_protocols_mapped.specs.Parts.{on_part, through_part}
use Rattle.bhs_protocols_mapped.proofs.Following as following

module _ (world : World) (part : Network) (port : (node port : ℕ) → ℕ) (wakeups : ℕ) (strategies : Strategies)
    (is : IsPart world part port) where
  abbrev inner : World
  inner = following.inner world part port wakeups strategies is

  abbrev played : Trial
  played = on_part world part wakeups strategies

  abbrev followed_by : Trial
  followed_by = through_part world part port wakeups strategies

  abbrev IsAlike : Configuration → Configuration → Type 0
  IsAlike = following.IsAlike world part port wakeups strategies is

  abbrev SamePlace : Position → Position → Type 0
  SamePlace = following.SamePlace world part port wakeups strategies is

  -- ---- a turn

  sleeps : (outer it : Configuration) (k : ℕ) → IsAlike outer it →
      IsAlike (done_in followed_by outer k (if nat_lt wakeups (outer.woken k) then Rests else Wakes))
      (done_in played it k (if nat_lt wakeups (it.woken k) then Rests else Wakes))
  sleeps outer it k same =
      subst (λ (w : ℕ). IsAlike (done_in followed_by outer k (if nat_lt wakeups w then Rests else Wakes))
      (done_in played it k (if nat_lt wakeups (it.woken k) then Rests else Wakes))) (sym (same.woken k))
      (either (nat_lt wakeups (it.woken k)))
    where
      either : (b : Bool) → IsAlike (done_in followed_by outer k (if b then Rests else Wakes))
          (done_in played it k (if b then Rests else Wakes))
      either true = same
      either false = following.woken_alike world part port wakeups strategies is outer it k same

  acts : (outer it : Configuration) (k : ℕ) (there here : Position) (step : Step) → IsAlike outer it
      → outer.position k ≡ there → it.position k ≡ here → SamePlace there here → strategies k (it.history k) ≡ step →
      IsAlike (done_in followed_by outer k (action_at none_held wakeups there (outer.woken k)
      (step_of port here step) k))
      (done_in played it k (action_at none_held wakeups here (it.woken k) step k))
  acts outer it k there After step same at at_too like says =
      subst (λ (p : Position). IsAlike (done_in followed_by outer k
      (action_at none_held wakeups p (outer.woken k) (step_of port After step) k)) it) (sym like) same
  acts outer it k there (Bound node by) step same at at_too like says =
      subst (λ (p : Position). IsAlike (done_in followed_by outer k
      (action_at none_held wakeups p (outer.woken k) (step_of port (Bound node by) step) k))
      (done_in played it k (Makes (Deliver k)))) (sym like.2)
      (subst (λ (p : Position). IsAlike (delivered_in world outer k p) (delivered_in inner it k (it.position k)))
      (sym (at ∙ like.2))
      (subst (λ (p : Position). IsAlike (delivered_in world outer k (Bound node (port node by)))
      (delivered_in inner it k p)) (sym at_too)
      (following.delivered_alike world part port wakeups strategies is outer it k same node by like.0 like.1 (at
      ∙ like.2)
      at_too)))
  acts outer it k there Before (Says command) same at at_too like says =
      subst (λ (p : Position). IsAlike (done_in followed_by outer k
      (action_at none_held wakeups p (outer.woken k) (Says (command_of port Before command)) k))
      (done_in played it k (Makes (Tell k command)))) (sym like)
      (following.before_alike world part port wakeups strategies is outer it k same (at ∙ like) at_too command says)
  acts outer it k there (At node came) (Says command) same at at_too like says =
      subst (λ (p : Position). IsAlike (done_in followed_by outer k
      (action_at none_held wakeups p (outer.woken k) (Says (command_of port (At node came) command)) k))
      (done_in played it k (Makes (Tell k command)))) (sym like.2)
      (following.at_node world part port wakeups strategies is outer it k same node came like.1 like.0 (at ∙ like.2)
      at_too command says)
  acts outer it k there Before Sleeps same at at_too like says =
      subst (λ (p : Position). IsAlike (done_in followed_by outer k (action_at none_held wakeups p
      (outer.woken k) Sleeps k))
      (done_in played it k (if nat_lt wakeups (it.woken k) then Rests else Wakes))) (sym like) (sleeps outer it k same)
  acts outer it k there (At node came) Sleeps same at at_too like says =
      subst (λ (p : Position). IsAlike (done_in followed_by outer k (action_at none_held wakeups p
      (outer.woken k) Sleeps k))
      (done_in played it k (if nat_lt wakeups (it.woken k) then Rests else Wakes))) (sym like.2)
      (sleeps outer it k same)
  acts outer it k there Before Stops same at at_too like says =
      subst (λ (p : Position). IsAlike (done_in followed_by outer k (action_at none_held wakeups p
      (outer.woken k) Stops k))
      it) (sym like) same
  acts outer it k there (At node came) Stops same at at_too like says =
      subst (λ (p : Position). IsAlike (done_in followed_by outer k (action_at none_held wakeups p
      (outer.woken k) Stops k))
      it) (sym like.2) same
  acts outer it k there Before Fails same at at_too like says =
      subst (λ (p : Position). IsAlike (done_in followed_by outer k (action_at none_held wakeups p
      (outer.woken k) Fails k))
      it) (sym like) same
  acts outer it k there (At node came) Fails same at at_too like says =
      subst (λ (p : Position). IsAlike (done_in followed_by outer k (action_at none_held wakeups p
      (outer.woken k) Fails k))
      it) (sym like.2) same

  pub turn_alike : (outer it : Configuration) (k : ℕ) → IsAlike outer it
      → IsAlike (turn_in followed_by outer k) (turn_in played it k)
  turn_alike outer it k same = by_cases (nat_lt k world.agents)
      (IsAlike (turn_in followed_by outer k) (turn_in played it k))
      (λ yes.
      let deed : deed_in followed_by outer k ≡ action_at none_held wakeups (outer.position k) (outer.woken k)
      (step_of port (it.position k) (strategies k (it.history k))) k =
      cond-true _ _ _ yes
      ∙ (λ i. action_at none_held wakeups (outer.position k) (outer.woken k)
      (following.says_same world part port wakeups strategies is outer it k same i) k) in
      subst (λ (d : Action). IsAlike (done_in followed_by outer k d) (turn_in played it k)) (sym deed)
      (subst (λ (d : Action). IsAlike (done_in followed_by outer k
      (action_at none_held wakeups (outer.position k) (outer.woken k)
      (step_of port (it.position k) (strategies k (it.history k))) k)) (done_in played it k d))
      (sym (cond-true _ _ _ yes))
      (acts outer it k (outer.position k) (it.position k) (strategies k (it.history k)) same refl refl
      (same.place k) refl)))
      (λ none.
      subst (λ (d : Action). IsAlike (done_in followed_by outer k d) (turn_in played it k)) (sym
      (cond-false _ _ _ none))
      (subst (λ (d : Action). IsAlike outer (done_in played it k d)) (sym (cond-false _ _ _ none)) same))

  -- ---- whether it moves

  doomed_same : (outer it : Configuration) (k : ℕ) → IsAlike outer it → (place : Position) → it.position k ≡ place
      → SamePlace (outer.position k) place → is_doomed world (outer.position k) ≡ is_doomed inner place
  doomed_same outer it k same (Bound node by) at like =
      ap (is_doomed world) like.2
      ∙ following.doom_same world part port wakeups strategies is outer it k same node by like.0 like.1 like.2 at
  doomed_same outer it k same Before at like = ap (is_doomed world) like
  doomed_same outer it k same (At node came) at like = ap (is_doomed world) like.2
  doomed_same outer it k same After at like = ap (is_doomed world) like

  pub doomed_alike : (outer it : Configuration) → IsAlike outer it → (k : ℕ)
      → is_doomed world (outer.position k) ≡ is_doomed inner (it.position k)
  doomed_alike outer it same k = doomed_same outer it k same (it.position k) refl (same.place k)

  if_still : (b : Bool) (here there : Position) → is_move world there (if b then Rests else Wakes)
      ≡ is_move inner here (if b then Rests else Wakes)
  if_still true here there = refl
  if_still false here there = refl

  moves_as : (outer it : Configuration) (k : ℕ) (here : Position) (step : Step) → IsAlike outer it
      → it.position k ≡ here
      → SamePlace (outer.position k) here →
      is_move world (outer.position k)
      (action_at none_held wakeups (outer.position k) (outer.woken k) (step_of port here step) k)
      ≡ is_move inner here (action_at none_held wakeups here (it.woken k) step k)
  moves_as outer it k After step same at like =
      (λ i. is_move world (like i) (action_at none_held wakeups (like i) (outer.woken k) (step_of port After step) k))
  moves_as outer it k (Bound node by) step same at like =
      (λ i. is_move world (like.2 i) (action_at none_held wakeups (like.2 i) (outer.woken k)
      (step_of port (Bound node by) step) k))
      ∙ ap not (following.doom_same world part port wakeups strategies is outer it k same node by like.0 like.1 like.2
      at)
  moves_as outer it k Before (Says command) same at like =
      (λ i. is_move world (like i) (action_at none_held wakeups (like i) (outer.woken k)
      (Says (command_of port Before command)) k))
  moves_as outer it k (At node came) (Says command) same at like =
      (λ i. is_move world (like.2 i) (action_at none_held wakeups (like.2 i) (outer.woken k)
      (Says (command_of port (At node came) command)) k))
  moves_as outer it k Before Sleeps same at like =
      (λ i. is_move world (like i) (action_at none_held wakeups (like i) (same.woken k i) Sleeps k))
      ∙ if_still (nat_lt wakeups (it.woken k)) Before Before
  moves_as outer it k (At node came) Sleeps same at like =
      (λ i. is_move world (like.2 i) (action_at none_held wakeups (like.2 i) (same.woken k i) Sleeps k))
      ∙ if_still (nat_lt wakeups (it.woken k)) (At node came) (At node like.1)
  moves_as outer it k Before Stops same at like =
      (λ i. is_move world (like i) (action_at none_held wakeups (like i) (outer.woken k) Stops k))
  moves_as outer it k (At node came) Stops same at like =
      (λ i. is_move world (like.2 i) (action_at none_held wakeups (like.2 i) (outer.woken k) Stops k))
  moves_as outer it k Before Fails same at like =
      (λ i. is_move world (like i) (action_at none_held wakeups (like i) (outer.woken k) Fails k))
  moves_as outer it k (At node came) Fails same at like =
      (λ i. is_move world (like.2 i) (action_at none_held wakeups (like.2 i) (outer.woken k) Fails k))

  pub moves_alike : (outer it : Configuration) (k : ℕ) → IsAlike outer it
      → can_move_in followed_by outer k ≡ can_move_in played it k
  moves_alike outer it k same = by_cases (nat_lt k world.agents)
      (can_move_in followed_by outer k ≡ can_move_in played it k)
      (λ yes.
      ap (is_move world (outer.position k)) (cond-true _ _ _ yes
      ∙ (λ i. action_at none_held wakeups (outer.position k) (outer.woken k)
      (following.says_same world part port wakeups strategies is outer it k same i) k))
      ∙ moves_as outer it k (it.position k) (strategies k (it.history k)) same refl (same.place k)
      ∙ sym (ap (is_move inner (it.position k)) (cond-true _ _ _ yes)))
      (λ none.
      ap (is_move world (outer.position k)) (cond-false _ _ _ none)
      ∙ sym (ap (is_move inner (it.position k)) (cond-false _ _ _ none)))

  -- ---- whether it is a delivery

  abbrev pub delivers : Action → Bool
  delivers (Makes (Deliver agent)) = true
  delivers deed = false

  if_asleep : (b : Bool) → delivers (if b then Rests else Wakes) ≡ false
  if_asleep true = refl
  if_asleep false = refl

  delivers_as : (there here : Position) (woken woken_too : ℕ) (k : ℕ) (step : Step) → SamePlace there here
      → delivers (action_at none_held wakeups there woken (step_of port here step) k)
      ≡ delivers (action_at none_held wakeups here woken_too step k)
  delivers_as there After woken woken_too k step like =
      (λ i. delivers (action_at none_held wakeups (like i) woken (step_of port After step) k))
  delivers_as there (Bound node by) woken woken_too k step like =
      (λ i. delivers (action_at none_held wakeups (like.2 i) woken (step_of port (Bound node by) step) k))
  delivers_as there Before woken woken_too k (Says command) like =
      (λ i. delivers (action_at none_held wakeups (like i) woken (Says (command_of port Before command)) k))
  delivers_as there (At node came) woken woken_too k (Says command) like =
      (λ i. delivers (action_at none_held wakeups (like.2 i) woken (Says (command_of port (At node came) command)) k))
  delivers_as there Before woken woken_too k Sleeps like =
      (λ i. delivers (action_at none_held wakeups (like i) woken Sleeps k)) ∙ if_asleep (nat_lt wakeups woken)
      ∙ sym (if_asleep (nat_lt wakeups woken_too))
  delivers_as there (At node came) woken woken_too k Sleeps like =
      (λ i. delivers (action_at none_held wakeups (like.2 i) woken Sleeps k)) ∙ if_asleep (nat_lt wakeups woken)
      ∙ sym (if_asleep (nat_lt wakeups woken_too))
  delivers_as there Before woken woken_too k Stops like =
      (λ i. delivers (action_at none_held wakeups (like i) woken Stops k))
  delivers_as there (At node came) woken woken_too k Stops like =
      (λ i. delivers (action_at none_held wakeups (like.2 i) woken Stops k))
  delivers_as there Before woken woken_too k Fails like =
      (λ i. delivers (action_at none_held wakeups (like i) woken Fails k))
  delivers_as there (At node came) woken woken_too k Fails like =
      (λ i. delivers (action_at none_held wakeups (like.2 i) woken Fails k))

  pub delivers_alike : (outer it : Configuration) (k : ℕ) → IsAlike outer it
      → delivers (deed_in followed_by outer k) ≡ delivers (deed_in played it k)
  delivers_alike outer it k same = by_cases (nat_lt k world.agents)
      (delivers (deed_in followed_by outer k) ≡ delivers (deed_in played it k))
      (λ yes.
      ap delivers (cond-true _ _ _ yes ∙ (λ i. action_at none_held wakeups (outer.position k) (outer.woken k)
      (following.says_same world part port wakeups strategies is outer it k same i) k))
      ∙ delivers_as (outer.position k) (it.position k) (outer.woken k) (it.woken k) k (strategies k (it.history k))
      (same.place k) ∙ sym (ap delivers (cond-true _ _ _ yes)))
      (λ none. ap delivers (cond-false _ _ _ none) ∙ sym (ap delivers (cond-false _ _ _ none)))
