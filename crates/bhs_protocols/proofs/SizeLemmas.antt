-- On a greater ring the same happens, as long as nobody comes past the last safe nodes: then an accusation is right for
-- one of two nodes at most.
use Rattle.std.proofs.Common.{ℕ, ◌+◌, ◌-◌, ◌<◌, ◌≤◌, ◌≡◌, ◌⊎◌, Bool, true, false, ◌||◌, ◌==◌, Some, List, [], ◌∷◌, refl}
use Rattle.std.proofs.Common.{sym, ap, ◌∙◌, subst, nat_lt, inl, inr, arith}
use Rattle.std.specs.Prelude.{◌≢◌}
use Rattle.std.proofs.lemmas.Bool.{true≢false, eq-eqb, ne_eqb, cond-true, cond-false, cases_lt}
use Rattle.std.proofs.lemmas.Bool.Decides.{eqb_tells}
use Rattle.bhs_model.specs.declared.commands.Command.{Command}
use Rattle.bhs_model.specs.declared.commands.Command.TheVariants.{Enter, Look, Write, Depart, Accuse, Bad}
use Rattle.bhs_model.specs.declared.events.Event.TheVariants.{Tell, Deliver, Close}
use Rattle.bhs_model.specs.Worlds.{doomed}
use Rattle.bhs_model.specs.Runs.{Position, Before, At, Bound, After, changed, position_after}
use Rattle.bhs_model.specs.Examples.{none_held}
use Rattle.bhs_model.proofs.StepLemmas.{by_cases}
use Rattle.bhs_model.proofs.LegalLemmas.{either}
use Rattle.bhs_schedules.specs.Strategies.{Strategies}
use Rattle.bhs_schedules.specs.Schedules.{Trial, Action, Makes, Wakes, Rests}
use Rattle.bhs_protocols.specs.Configurations.{Configuration, blank, deed_in, is_heard, told_at, refused_in, said_in}
use Rattle.bhs_protocols.specs.Configurations.{arrived_in, delivered_in, done_in, turn_in, turns_in}
use Rattle.bhs_protocols.specs.LastWord.{SomeoneHasAccused, FindsFor}
use Rattle.bhs_protocols.specs.Sizes.{ring_net, Limits, played_on, SolvesSize, FindsSize, NoTeamFindsOnTwoSizes}
use Rattle.bhs_protocols.specs.Sizes.{NoTeamSolvesTwoSizes}
use Rattle.bhs_protocols.proofs.FindsLemmas.{accused_in, accused_if, solver_finds}

module _ (n size : ℕ) (three : 3 ≤ n) (more : n < size) (terms : Limits) (strategies : Strategies) (hole : ℕ)
    (beyond : n - 1 ≤ hole) where
  -- the ring of n nodes whose last node is the black hole, and a greater one
  abbrev small : Trial
  small = played_on (ring_net n) terms strategies 0 (n - 1)

  abbrev great : Trial
  great = played_on (ring_net size) terms strategies 0 hole

  -- nobody is where the two differ
  abbrev IsInside : Position → Type 0
  IsInside (At node came) = node < n - 1
  IsInside (Bound node port) = node < n - 1
  IsInside position = Unit {0}

  abbrev AreInside : Configuration → Type 0
  AreInside configuration = (k : ℕ) → IsInside (configuration.position k)

  doomed_small : (node port : ℕ) → doomed small.world node port ≡ (n - 1 == (small.world.net.far node port).0)
  doomed_small node port = or_none (n - 1 == (small.world.net.far node port).0)
    where
      or_none : (b : Bool) → ((b || false) || false) ≡ b
      or_none true = refl
      or_none false = refl

  doomed_great : (node port : ℕ) → doomed great.world node port ≡ (hole == (great.world.net.far node port).0)
  doomed_great node port = or_none (hole == (great.world.net.far node port).0)
    where
      or_none : (b : Bool) → ((b || false) || false) ≡ b
      or_none true = refl
      or_none false = refl

  -- a link that does not lead to the black hole leads to the same node of both
  same_far : (node port : ℕ) → node < n - 1 → doomed small.world node port ≡ false
      → (great.world.net.far node port ≡ small.world.net.far node port) × ((small.world.net.far node port).0 < n - 1)
  same_far node port inside safe = by_port (port == 0) refl
    where
      spared : (target label : ℕ) → small.world.net.far node port ≡ (target, label) → n - 1 ≢ target
      spared target label far same = true≢false (sym (ap (λ (e : ℕ × ℕ). n - 1 == e.0) far
          ∙ eq-eqb (n - 1) target same) ∙ (sym (doomed_small node port) ∙ safe))

      by_port : (b : Bool) → (port == 0) ≡ b
          → (great.world.net.far node port ≡ small.world.net.far node port)
          × ((small.world.net.far node port).0 < n - 1)
      by_port true is =
          let apart : node + 1 ≢ n = λ h. omega (arith, h, inside) in
          let apart_too : node + 1 ≢ size = λ h. omega (arith, h, inside, more) in
          let one : small.world.net.far node port ≡ (node + 1, 1) =
          cond-true _ _ _ is ∙ ap (λ (k : ℕ). let end : ℕ × ℕ = (k, 1) in end)
          (cond-false _ _ _ (ne_eqb (node + 1) n apart)) in
          let two : great.world.net.far node port ≡ (node + 1, 1) =
          cond-true _ _ _ is ∙ ap (λ (k : ℕ). let end : ℕ × ℕ = (k, 1) in end)
          (cond-false _ _ _ (ne_eqb (node + 1) size apart_too)) in
          let not_hole : n - 1 ≢ node + 1 = spared (node + 1) 1 one in (
            two ∙ sym one,
            subst (λ (k : ℕ). k < n - 1) (sym (ap (λ (e : ℕ × ℕ). e.0) one))
                (omega (arith, inside, not_hole)),
          )
      by_port false is = elim (eqb_tells node 0) [
        | inl h ↦
            let one : small.world.net.far node port ≡ (n - 1, 0) =
            cond-false _ _ _ is ∙ ap (λ (k : ℕ). let end : ℕ × ℕ = (k, 0) in end) (cond-true _ _ _ h.0) in
            absurd (spared (n - 1) 0 one refl)
        | inr h ↦
            let one : small.world.net.far node port ≡ (node - 1, 0) =
            cond-false _ _ _ is ∙ ap (λ (k : ℕ). let end : ℕ × ℕ = (k, 0) in end) (cond-false _ _ _ h.0) in
            let two : great.world.net.far node port ≡ (node - 1, 0) =
            cond-false _ _ _ is ∙ ap (λ (k : ℕ). let end : ℕ × ℕ = (k, 0) in end) (cond-false _ _ _ h.0) in
            (two ∙ sym one, subst (λ (k : ℕ). k < n - 1) (sym (ap (λ (e : ℕ × ℕ). e.0) one)) (omega (arith, inside)))
      ]

  -- ---- one turn

  record IsAlike (configuration after : Configuration) (in_great : Configuration) : Type 0 where
    inside : AreInside after
    either_way : (in_great ≡ after) ⊎ (after ≡ configuration)

  told_inside : (place : Position) (command : Command) → IsInside place
      → IsInside (position_after small.world place command)
  told_inside Before Enter inside = omega (arith, three)
  told_inside (At node came) Enter inside = omega (arith, three)
  told_inside (At node came) Look inside = inside
  told_inside (At node came) (Write expect put) inside = inside
  told_inside (At node came) (Depart port) inside =
      either IsInside (nat_lt port 2) (Bound node port) (At node came) inside inside
  told_inside (At node came) (Accuse port) inside = either IsInside (nat_lt port 2) After (At node came) tt inside
  told_inside (At node came) Bad inside = inside
  told_inside (Bound node way) Enter inside = omega (arith, three)
  told_inside (Bound node way) Look inside = inside
  told_inside (Bound node way) (Write expect put) inside = inside
  told_inside (Bound node way) (Depart port) inside = inside
  told_inside (Bound node way) (Accuse port) inside = inside
  told_inside (Bound node way) Bad inside = inside
  told_inside After Enter inside = omega (arith, three)
  told_inside place command inside = tt

  changed_inside : (position : ℕ → Position) (agent : ℕ) (place : Position) → ((k : ℕ) → IsInside (position k))
      → IsInside place → (k : ℕ) → IsInside (changed position agent place k)
  changed_inside position agent place all here k = either IsInside (k == agent) place (position k) here (all k)

  said_alike : (configuration : Configuration) (agent : ℕ) (command : Command) → AreInside configuration →
      IsAlike configuration (said_in small.world configuration agent command)
      (said_in great.world configuration agent command)
  said_alike configuration agent command inside = record {
    inside = by_cases (is_heard small.world configuration agent command)
        ((k : ℕ) → IsInside ((said_in small.world configuration agent command).position k))
        (λ yes k. subst (λ (p : Configuration). IsInside (p.position k))
        (sym (cond-true _ (told_at small.world configuration agent (configuration.position agent) command)
        (refused_in configuration agent command) yes))
        (changed_inside configuration.position agent (position_after small.world
        (configuration.position agent) command) inside
        (told_inside (configuration.position agent) command (inside agent)) k))
        (λ deaf k. subst (λ (p : Configuration). IsInside (p.position k))
        (sym (cond-false _ (told_at small.world configuration agent (configuration.position agent) command)
        (refused_in configuration agent command) deaf)) (inside k));
    either_way = inl refl;
  }

  delivered_alike : (configuration : Configuration) (agent : ℕ) (position : Position) → AreInside configuration
      → IsInside position →
      IsAlike configuration (delivered_in small.world configuration agent position)
      (delivered_in great.world configuration agent position)
  delivered_alike configuration agent (Bound node port) inside here = by_cases (doomed small.world node port)
      (IsAlike configuration (delivered_in small.world configuration agent (Bound node port))
      (delivered_in great.world configuration agent (Bound node port)))
      (λ yes.
      let is : delivered_in small.world configuration agent (Bound node port) ≡ configuration = cond-true _ _ _ yes in
      record {
        inside = λ k. subst (λ (p : Configuration). IsInside (p.position k)) (sym is) (inside k);
        either_way = inr is;
      })
      (λ none.
      let it = same_far node port here none in
      let target : ℕ = (small.world.net.far node port).0 in
      let label : ℕ = (small.world.net.far node port).1 in
      let arrived : Configuration = arrived_in small.world configuration agent target label in
      let is : delivered_in small.world configuration agent (Bound node port) ≡ arrived =
      cond-false _ configuration arrived none in
      let far_off : hole ≢ target = λ same. omega (arith, it.1, beyond, same) in
      let safe : doomed great.world node port ≡ false =
      doomed_great node port ∙ ap (λ (e : ℕ × ℕ). hole == e.0) it.0 ∙ ne_eqb hole target far_off in
      let in_great : delivered_in great.world configuration agent (Bound node port) ≡ arrived =
      cond-false _ _ _ safe ∙ ap (λ (e : ℕ × ℕ). arrived_in small.world configuration agent e.0 e.1) it.0 in
      record {
        inside = λ k. subst (λ (p : Configuration). IsInside (p.position k)) (sym is)
            (changed_inside configuration.position agent (At target (Some label)) inside it.1 k);
        either_way = inl (in_great ∙ sym is);
      })
  delivered_alike configuration agent Before inside here = record { inside = inside; either_way = inl refl }
  delivered_alike configuration agent (At place came) inside here = record { inside = inside; either_way = inl refl }
  delivered_alike configuration agent After inside here = record { inside = inside; either_way = inl refl }

  done_alike : (configuration : Configuration) (agent : ℕ) (it : Action) → AreInside configuration →
      IsAlike configuration (done_in small configuration agent it) (done_in great configuration agent it)
  done_alike configuration agent (Makes (Tell other command)) inside = said_alike configuration other command inside
  done_alike configuration agent (Makes (Deliver other)) inside =
      delivered_alike configuration other (configuration.position other) inside (inside other)
  done_alike configuration agent (Makes Close) inside = record { inside = inside; either_way = inl refl }
  done_alike configuration agent Wakes inside = record { inside = inside; either_way = inl refl }
  done_alike configuration agent Rests inside = record { inside = inside; either_way = inl refl }

  -- ---- and a schedule

  record IsSameRun (configuration : Configuration) (schedule : List ℕ) : Type 0 where
    other : List ℕ
    same : turns_in great configuration other ≡ turns_in small configuration schedule

  same_run : (schedule : List ℕ) (configuration : Configuration) → AreInside configuration
      → IsSameRun configuration schedule
  same_run [] configuration inside = record { other = []; same = refl }
  same_run (agent ∷ schedule) configuration inside =
      let it = done_alike configuration agent (deed_in small configuration agent) inside in
      let rest : IsSameRun (turn_in small configuration agent) schedule =
      same_run schedule (turn_in small configuration agent) it.inside in
      elim it.either_way [
        | inl h ↦ record {
          other = agent ∷ rest.other;
          same = ap (λ (p : Configuration). turns_in great p rest.other) h ∙ rest.same;
        }
        | inr h ↦ record {
          other = rest.other;
          same = ap (λ (p : Configuration). turns_in great p rest.other) (sym h) ∙ rest.same;
        }
      ]

  -- so an accusation on the small ring is one on the great ring, and right there
  right_in_great : FindsFor great hole → (schedule : List ℕ) (it : SomeoneHasAccused small schedule)
      → (great.world.net.far it.link.0 it.link.1).0 ≡ hole
  right_in_great finds schedule it =
      let run : IsSameRun blank schedule = same_run schedule blank (λ k. tt) in
      finds.right run.other (accused_if great run.other it.agent it.link it.within
      (ap (λ (p : Configuration). p.accused it.agent) run.same ∙ accused_in small schedule it))

-- what a greater ring's last node and the small ring's last node have in common
none_finds : (n size : ℕ) (terms : Limits) (strategies : Strategies) → 3 ≤ n → n < size → FindsSize n terms strategies
    → FindsSize size terms strategies → ⊥
none_finds n size terms strategies three more one two =
    let said = (one (n - 1) (omega (arith, three)) (omega (arith, three))).accuses [] in
    let it : SomeoneHasAccused (played_on (ring_net n) terms strategies 0 (n - 1)) said.0 = said.1 in
    let last : ((ring_net size).far it.link.0 it.link.1).0 ≡ n - 1 =
    right_in_great n size three more terms strategies (n - 1) (omega arith)
    (two (n - 1) (omega (arith, three)) (omega (arith, more))) said.0 it in
    let very_last : ((ring_net size).far it.link.0 it.link.1).0 ≡ size - 1 =
    right_in_great n size three more terms strategies (size - 1) (omega (arith, more))
    (two (size - 1) (omega (arith, three, more)) (omega (arith, more))) said.0 it in
    omega (arith, last, very_last, three, more)

pub no_team_finds_on_two_sizes : NoTeamFindsOnTwoSizes
no_team_finds_on_two_sizes n size terms strategies three three_too apart one two = elim (cases_lt n size) [
  | inl less ↦ none_finds n size terms strategies three less one two
  | inr least ↦ none_finds size n terms strategies three_too (omega (arith, least, apart)) two one
]

-- a team that solves finds
finds_size : (n : ℕ) (terms : Limits) (strategies : Strategies) → SolvesSize n terms strategies
    → FindsSize n terms strategies
finds_size n terms strategies solves hole some within =
    solver_finds (played_on (ring_net n) terms strategies 0 hole).world none_held terms.wakeups strategies hole
    (solves hole some within)

pub no_team_solves_two_sizes : NoTeamSolvesTwoSizes
no_team_solves_two_sizes n size terms strategies three three_too apart one two =
    no_team_finds_on_two_sizes n size terms strategies three three_too apart (finds_size n terms strategies one)
    (finds_size size terms strategies two)
