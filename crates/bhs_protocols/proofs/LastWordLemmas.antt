-- Indistinguishability: while a node is unreached, no agent can exclude that it is the black hole. Under some schedule
-- the same run happens with the black hole at that node, where the accusation is wrong.
use Rattle.std.proofs.Common.{ℕ, zero, suc, ◌+◌, ◌<◌, ◌≤◌, ◌≡◌, ◌⊎◌, Bool, true, false, not, ◌||◌, ◌==◌, Option, Some}
use Rattle.std.proofs.Common.{None, List, [], ◌∷◌, ◌++◌, refl, sym, ap, ◌∙◌, subst, if◌then◌else◌, nat_lt, inl, inr}
use Rattle.std.proofs.Common.{arith}
use Rattle.std.specs.Prelude.{◌≢◌}
use Rattle.std.specs.List.{list_any, range_with_len}
use Rattle.std.proofs.lemmas.Bool.{true≢false, cond-true, cond-false, ne_eqb}
use Rattle.std.proofs.lemmas.Bool.Decides.{eqb_tells}
use Rattle.bhs_model.specs.declared.commands.Command.{Command}
use Rattle.bhs_model.specs.declared.commands.Command.TheVariants.{Enter, Look, Write, Depart, Accuse, Leave, Bad}
use Rattle.bhs_model.specs.declared.events.Event.TheVariants.{Tell, Deliver, Close}
use Rattle.bhs_model.specs.declared.replies.Reply.{Reply}
use Rattle.bhs_model.specs.declared.replies.Reply.TheVariants as replies
use Rattle.bhs_model.specs.Worlds.{World, doomed}
use Rattle.bhs_model.specs.Draws.{Held}
use Rattle.bhs_model.specs.Runs.{Position, Before, At, Bound, After, changed, position_after}
use Rattle.bhs_model.proofs.StepLemmas.{by_cases, changed_same, changed_other}
use Rattle.bhs_model.proofs.LegalLemmas.{either}
use Rattle.bhs_referee.specs.declared.verdicts.Outcome.{Outcome}
use Rattle.bhs_referee.specs.declared.verdicts.Outcome.TheVariants.{Solved, Wrong}
use Rattle.bhs_referee.specs.declared.verdicts.Verdict.{Verdict}
use Rattle.bhs_referee.specs.Findings.{accused_by}
use Rattle.bhs_referee.specs.Verdicts.{passes, accuses, is_right}
use Rattle.bhs_schedules.specs.Strategies.{Strategies}
use Rattle.bhs_schedules.specs.Schedules.{Trial, Action, Makes, Wakes, Rests, action_at, under}
use Rattle.bhs_schedules.proofs.Turns.{verdict_is, IsOwn}
use Rattle.bhs_protocols.specs.Configurations.{Configuration, configuration_of, blank, deed_in, answer_at, is_heard}
use Rattle.bhs_protocols.specs.Configurations.{told_at, refused_in}
use Rattle.bhs_protocols.specs.Configurations.{said_in, arrived_in, delivered_in, done_in, turn_in, turns_in, found_in}
use Rattle.bhs_protocols.specs.Configurations.{outcome_in}
use Rattle.bhs_protocols.specs.LastWord.{searched, SolvesFor}
use Rattle.bhs_protocols.proofs.ConfigurationLemmas.{configurations_follow}
use Rattle.bhs_schedules.proofs.Turns.{own_at}

-- ---- what no turn undoes

-- a node that was reached
pub reached_told : (trial : Trial) (configuration : Configuration) (agent node : ℕ) (it : Action)
    → configuration.reached node ≡ true
    → (done_in trial configuration agent it).reached node ≡ true
reached_told trial configuration agent node (Makes (Tell other command)) was =
    by_cases (is_heard trial.world configuration other command)
    ((said_in trial.world configuration other command).reached node ≡ true)
    (λ yes. ap (λ (p : Configuration). p.reached node)
    (cond-true _ (told_at trial.world configuration other (configuration.position other)
    command) (refused_in configuration other command) yes) ∙ was)
    (λ none. ap (λ (p : Configuration). p.reached node) (cond-false _ (told_at trial.world configuration other
    (configuration.position other) command) (refused_in configuration other command) none) ∙ was)
reached_told trial configuration agent node (Makes (Deliver other)) was = by_place (configuration.position other)
  where
    kept : (target : ℕ) → changed configuration.reached target true node ≡ true
    kept target = elim (eqb_tells node target) [
      | inl h ↦ rw h.0 refl
      | inr h ↦ rw h.0 was
    ]

    by_place : (position : Position) → (delivered_in trial.world configuration other position).reached node ≡ true
    by_place (Bound start port) = by_cases (doomed trial.world start port)
        ((delivered_in trial.world configuration other (Bound start port)).reached node ≡ true)
        (λ yes. ap (λ (p : Configuration). p.reached node) (cond-true _ configuration
        (arrived_in trial.world configuration other
        (trial.world.net.far start port).0 (trial.world.net.far start port).1) yes) ∙ was)
        (λ none. ap (λ (p : Configuration). p.reached node) (cond-false _ configuration
        (arrived_in trial.world configuration other
        (trial.world.net.far start port).0 (trial.world.net.far start port).1) none)
        ∙ kept (trial.world.net.far start port).0)
    by_place Before = was
    by_place (At place came) = was
    by_place After = was
reached_told trial configuration agent node (Makes Close) was = was
reached_told trial configuration agent node Wakes was = was
reached_told trial configuration agent node Rests was = was

pub reached_later : (trial : Trial) (configuration : Configuration) (schedule : List ℕ) (node : ℕ)
    → configuration.reached node ≡ true
    → (turns_in trial configuration schedule).reached node ≡ true
reached_later trial configuration [] node was = was
reached_later trial configuration (agent ∷ schedule) node was =
    reached_later trial (turn_in trial configuration agent) schedule node
    (reached_told trial configuration agent node (deed_in trial configuration agent) was)

-- An accusation is the agent's last command.
abbrev pub IsHonest : Position → Option (ℕ × ℕ) → Type 0
IsHonest position accused = (accused ≡ None) ⊎ (position ≡ After)

pub accused_write : (reply : Reply) (expect put : List ℕ) (place : Position) (before : Option (ℕ × ℕ))
    → accused_by (Some reply) (Write expect put) place before ≡ before
accused_write (replies.Here ports came board) expect put place before = refl
accused_write reply expect put place before = refl

accused_depart : (reply : Reply) (port : ℕ) (place : Position) → accused_by (Some reply) (Depart port) place None ≡ None
accused_depart (replies.Here ports came board) port place = refl
accused_depart reply port place = refl

told_honest : (world : World) (place : Position) (command : Command) (shown : ℕ → List ℕ) →
    IsHonest (position_after world place command)
    (accused_by (Some (answer_at world shown place command)) command place None)
told_honest world (At node came) (Accuse port) shown =
    by_cases (nat_lt port (world.net.degree node)) (IsHonest (position_after world (At node came) (Accuse port))
    (accused_by (Some (answer_at world shown (At node came) (Accuse port))) (Accuse port) (At node came) None))
    (λ (yes : nat_lt port (world.net.degree node) ≡ true). rw yes (inr refl))
    (λ (none : nat_lt port (world.net.degree node) ≡ false). rw none (inl refl))
told_honest world (At node came) (Write expect put) shown = inl (accused_write _ expect put (At node came) None)
told_honest world (At node came) (Depart port) shown = inl (accused_depart _ port (At node came))
told_honest world (At node came) Enter shown = inl refl
told_honest world (At node came) Look shown = inl refl
told_honest world (At node came) Leave shown = inl refl
told_honest world (At node came) Bad shown = inl refl
told_honest world Before (Write expect put) shown = inl refl
told_honest world Before (Depart port) shown = inl refl
told_honest world Before (Accuse port) shown = inl refl
told_honest world Before Enter shown = inl refl
told_honest world Before Look shown = inl refl
told_honest world Before Leave shown = inl refl
told_honest world Before Bad shown = inl refl
told_honest world (Bound node way) (Write expect put) shown = inl refl
told_honest world (Bound node way) (Depart port) shown = inl refl
told_honest world (Bound node way) (Accuse port) shown = inl refl
told_honest world (Bound node way) Enter shown = inl refl
told_honest world (Bound node way) Look shown = inl refl
told_honest world (Bound node way) Leave shown = inl refl
told_honest world (Bound node way) Bad shown = inl refl
told_honest world After (Write expect put) shown = inl refl
told_honest world After (Depart port) shown = inl refl
told_honest world After (Accuse port) shown = inl refl
told_honest world After Enter shown = inl refl
told_honest world After Look shown = inl refl
told_honest world After Leave shown = inl refl
told_honest world After Bad shown = inl refl

abbrev pub IsHonestIn : (agent : ℕ) → Configuration → Type 0
IsHonestIn agent configuration = IsHonest (configuration.position agent) (configuration.accused agent)

-- an agent that says something
said_honest : (world : World) (configuration : Configuration) (k : ℕ) (command : Command)
    → configuration.accused k ≡ None
    → IsHonestIn k (said_in world configuration k command)
said_honest world configuration k command none = by_cases (is_heard world configuration k command)
    (IsHonestIn k (said_in world configuration k command))
    (λ yes. subst (IsHonestIn k) (sym (cond-true _ (told_at world configuration k (configuration.position k) command)
    (refused_in configuration k command) yes))
    (told k configuration.accused none))
    (λ deaf. subst (IsHonestIn k) (sym (cond-false _ (told_at world configuration k (configuration.position k) command)
    (refused_in configuration k command) deaf)) (inl none))
  where
    told : (agent : ℕ) (accused : ℕ → Option (ℕ × ℕ)) → accused k ≡ None →
        IsHonest (changed configuration.position k (position_after world (configuration.position k) command) k)
        (changed accused k (accused_by (Some (answer_at world configuration.shown
        (configuration.position k) command)) command
        (configuration.position k) (accused k)) k)
    told agent accused none =
        subst (λ (p : Position). IsHonest p (changed accused k (accused_by (Some (answer_at world configuration.shown
        (configuration.position k) command)) command (configuration.position k) (accused k)) k))
        (sym (changed_same configuration.position k _))
        (subst (λ (a : Option (ℕ × ℕ)). IsHonest (position_after world (configuration.position k) command) a)
        (sym (changed_same accused k _
        ∙ ap (λ (a : Option (ℕ
        × ℕ)). accused_by (Some (answer_at world configuration.shown (configuration.position k) command))
        command (configuration.position k) a) none))
        (told_honest world (configuration.position k) command configuration.shown))

-- nobody else's turn changes where an agent is and whom it has accused
pub record IsUntouched (k : ℕ) (old new : Configuration) : Type 0 where
  pub position : new.position k ≡ old.position k
  pub accused : new.accused k ≡ old.accused k

pub other_untouched : (trial : Trial) (configuration : Configuration) (agent k : ℕ) (it : Action) → IsOwn agent it
    → (k == agent) ≡ false
    → IsUntouched k configuration (done_in trial configuration agent it)
other_untouched trial configuration agent k (Makes (Tell other command)) own apart =
    let far : (k == other) ≡ false = subst (λ (j : ℕ). (k == j) ≡ false) (sym own) apart in
    by_cases (is_heard trial.world configuration other command)
    (IsUntouched k configuration (said_in trial.world configuration other command))
    (λ yes. subst (IsUntouched k configuration) (sym (cond-true _ (told_at trial.world configuration other
    (configuration.position other)
    command) (refused_in configuration other command) yes)) (record {
      position = changed_other configuration.position other k _ far;
      accused = changed_other configuration.accused other k _ far;
    }))
    (λ deaf. subst (IsUntouched k configuration)
    (sym (cond-false _ (told_at trial.world configuration other (configuration.position other)
    command) (refused_in configuration other command) deaf)) (record { position = refl; accused = refl }))
other_untouched trial configuration agent k (Makes (Deliver other)) own apart =
    let far : (k == other) ≡ false = subst (λ (j : ℕ). (k == j) ≡ false) (sym own) apart in
    by_place far (configuration.position other)
  where
    by_place : (k == other) ≡ false → (position : Position)
        → IsUntouched k configuration (delivered_in trial.world configuration other position)
    by_place far (Bound start port) = by_cases (doomed trial.world start port)
        (IsUntouched k configuration (delivered_in trial.world configuration other (Bound start port)))
        (λ yes. subst (IsUntouched k configuration) (sym (cond-true _ configuration
        (arrived_in trial.world configuration other
        (trial.world.net.far start port).0 (trial.world.net.far start port).1) yes))
        (record { position = refl; accused = refl }))
        (λ none. subst (IsUntouched k configuration) (sym (cond-false _ configuration
        (arrived_in trial.world configuration other
        (trial.world.net.far start port).0 (trial.world.net.far start port).1) none))
        (record { position = changed_other configuration.position other k _ far; accused = refl }))
    by_place far Before = record { position = refl; accused = refl }
    by_place far (At place came) = record { position = refl; accused = refl }
    by_place far After = record { position = refl; accused = refl }
other_untouched trial configuration agent k (Makes Close) own apart = record { position = refl; accused = refl }
other_untouched trial configuration agent k Wakes own apart = record { position = refl; accused = refl }
other_untouched trial configuration agent k Rests own apart = record { position = refl; accused = refl }

pub own_in : (trial : Trial) (configuration : Configuration) (agent : ℕ)
    → IsOwn agent (deed_in trial configuration agent)
own_in trial configuration agent =
    either (IsOwn agent) (nat_lt agent trial.world.agents)
    (action_at trial.held trial.wakeups (configuration.position agent) (configuration.woken agent)
    (trial.strategies agent (configuration.history agent)) agent) Rests
    (own_at trial.held trial.wakeups (configuration.position agent) (configuration.woken agent)
    (trial.strategies agent (configuration.history agent)) agent) tt

-- who has ended does nothing
pub ended_rests : (trial : Trial) (configuration : Configuration) (k : ℕ) → configuration.position k ≡ After
    → turn_in trial configuration k ≡ configuration
ended_rests trial configuration k at =
    ap (done_in trial configuration k) ((λ i. if nat_lt k trial.world.agents
    then action_at trial.held trial.wakeups (at i) (configuration.woken k) (trial.strategies k
    (configuration.history k)) k else Rests)
    ∙ same (nat_lt k trial.world.agents))
  where
    same : (b : Bool) → (if b then Rests else Rests) ≡ Rests
    same true = refl
    same false = refl

accused_delivered : (world : World) (configuration : Configuration) (other k : ℕ) (position : Position)
    → (delivered_in world configuration other position).accused k ≡ configuration.accused k
accused_delivered world configuration other k (Bound start port) = by_cases (doomed world start port)
    ((delivered_in world configuration other (Bound start port)).accused k ≡ configuration.accused k)
    (λ yes. ap (λ (p : Configuration). p.accused k) (cond-true _ configuration (arrived_in world configuration other
    (world.net.far start port).0 (world.net.far start port).1) yes))
    (λ none. ap (λ (p : Configuration). p.accused k) (cond-false _ configuration (arrived_in world configuration other
    (world.net.far start port).0 (world.net.far start port).1) none))
accused_delivered world configuration other k position = refl

own_honest : (trial : Trial) (configuration : Configuration) (k : ℕ) (it : Action) → IsOwn k it
    → configuration.accused k ≡ None
    → IsHonestIn k (done_in trial configuration k it)
own_honest trial configuration k (Makes (Tell other command)) own none =
    subst (λ (j : ℕ). IsHonestIn k (said_in trial.world configuration j command)) (sym own)
    (said_honest trial.world configuration k command none)
own_honest trial configuration k (Makes (Deliver other)) own none =
    inl (accused_delivered trial.world configuration other k (configuration.position other) ∙ none)
own_honest trial configuration k (Makes Close) own none = absurd own
own_honest trial configuration k Wakes own none = inl none
own_honest trial configuration k Rests own none = inl none

pub turn_honest : (trial : Trial) (configuration : Configuration) (agent k : ℕ) → IsHonestIn k configuration
    → IsHonestIn k (turn_in trial configuration agent)
turn_honest trial configuration agent k honest = elim (eqb_tells k agent) [
  | inl h ↦
      let turned : IsHonestIn k (turn_in trial configuration k) = elim honest [
        | inl none ↦ own_honest trial configuration k (deed_in trial configuration k)
            (own_in trial configuration k) none
        | inr after ↦ inr (ap (λ (p : Configuration). p.position k) (ended_rests trial configuration k after) ∙ after)
      ] in
      subst (λ (j : ℕ). IsHonestIn k (turn_in trial configuration j)) h.1 turned
  | inr h ↦
      let it : IsUntouched k configuration (turn_in trial configuration agent) =
      other_untouched trial configuration agent k (deed_in trial configuration agent)
      (own_in trial configuration agent) h.0 in
      elim honest [
        | inl none ↦ inl (it.accused ∙ none)
        | inr after ↦ inr (it.position ∙ after)
      ]
]

pub honest_later : (trial : Trial) (configuration : Configuration) (schedule : List ℕ) (k : ℕ)
    → IsHonestIn k configuration
    → IsHonestIn k (turns_in trial configuration schedule)
honest_later trial configuration [] k honest = honest
honest_later trial configuration (agent ∷ schedule) k honest =
    honest_later trial (turn_in trial configuration agent) schedule k (turn_honest trial configuration agent k honest)

-- what an agent has accused stays
record HasAccused (k : ℕ) (link : ℕ × ℕ) (configuration : Configuration) : Type 0 where
  after : configuration.position k ≡ After
  accused : configuration.accused k ≡ Some link

turn_accused : (trial : Trial) (configuration : Configuration) (agent k : ℕ) (link : ℕ × ℕ)
    → HasAccused k link configuration
    → HasAccused k link (turn_in trial configuration agent)
turn_accused trial configuration agent k link has = elim (eqb_tells k agent) [
  | inl h ↦ subst (λ (j : ℕ). HasAccused k link (turn_in trial configuration j)) h.1
      (subst (HasAccused k link) (sym (ended_rests trial configuration k has.after)) has)
  | inr h ↦
      let it : IsUntouched k configuration (turn_in trial configuration agent) =
      other_untouched trial configuration agent k (deed_in trial configuration agent)
      (own_in trial configuration agent) h.0 in
      record { after = it.position ∙ has.after; accused = it.accused ∙ has.accused }
]

accused_later : (trial : Trial) (configuration : Configuration) (schedule : List ℕ) (k : ℕ) (link : ℕ × ℕ)
    → HasAccused k link configuration → HasAccused k link (turns_in trial configuration schedule)
accused_later trial configuration [] k link has = has
accused_later trial configuration (agent ∷ schedule) k link has =
    accused_later trial (turn_in trial configuration agent) schedule k link
    (turn_accused trial configuration agent k link has)

-- ---- an accusation is right where the match is solved

pub turns_in_append : (trial : Trial) (configuration : Configuration) (xs ys : List ℕ)
    → turns_in trial configuration (xs ++ ys) ≡ turns_in trial (turns_in trial configuration xs) ys
turns_in_append trial configuration [] ys = refl
turns_in_append trial configuration (x ∷ xs) ys = turns_in_append trial (turn_in trial configuration x) xs ys

any_none : (test : ℕ → Bool) (start count k : ℕ) → list_any test (range_with_len start count) ≡ false → start ≤ k
    → k < start + count → test k ≡ false
any_none test start zero k none after before = absurd (omega (arith, after, before))
any_none test start (suc count) k none after before =
    let parts = both_false (test start) (list_any test (range_with_len (start + 1) count)) none in
    elim (eqb_tells start k) [
      | inl h ↦ ap test (sym h.1) ∙ parts.0
      | inr h ↦ any_none test (start + 1) count k parts.1 (omega (arith, after, h.1)) (omega (arith, before))
    ]
  where
    both_false : (a b : Bool) → (a || b) ≡ false → (a ≡ false) × (b ≡ false)
    both_false true b h = cc
    both_false false b h = (refl, h)

not_wrong : (a : Bool) (x : Outcome) → (if a then Wrong else x) ≡ Solved → a ≡ false
not_wrong true x h = cc
not_wrong false x h = refl

right_at_rest : (world : World) (configuration : Configuration) (k : ℕ) (link : ℕ × ℕ) → k < world.agents
    → configuration.accused k ≡ Some link → outcome_in world configuration ≡ Solved → is_right world link ≡ true
right_at_rest world configuration k link within accused solved =
    let none : accuses world (found_in configuration) (λ l. not (is_right world l)) ≡ false =
    not_wrong (accuses world (found_in configuration) (λ l. not (is_right world l))) _ solved in
    let here : passes (λ l. not (is_right world l)) (configuration.accused k) ≡ false =
    any_none (λ j. passes (λ l. not (is_right world l)) (configuration.accused j)) 0 world.agents k none (omega arith)
    (omega (arith, within)) in
    not_off (is_right world link) (sym (ap (passes (λ l. not (is_right world l))) accused) ∙ here)
  where
    not_off : (b : Bool) → not b ≡ false → b ≡ true
    not_off true h = refl
    not_off false h = cc

pub right_after : (trial : Trial) (schedule : List ℕ) (k : ℕ) (link : ℕ × ℕ) → SolvesFor trial → k < trial.world.agents
    → (turns_in trial blank schedule).accused k ≡ Some link → is_right trial.world link ≡ true
right_after trial schedule k link solves within accused =
    let configuration : Configuration = turns_in trial blank schedule in
    let honest : IsHonestIn k configuration = honest_later trial blank schedule k (inl refl) in
    let has : HasAccused k link configuration = elim honest [
      | inl none ↦ absurd (let both : None ≡ Some link = sym none ∙ accused in cc)
      | inr after ↦ record { after = after; accused = accused }
    ] in
    let more = solves.rests schedule in
    let whole : List ℕ = schedule ++ more.0 in
    let at_end : configuration_of trial (under trial whole) ≡ turns_in trial configuration more.0 =
    configurations_follow trial whole ∙ turns_in_append trial blank schedule more.0 in
    let later : HasAccused k link (turns_in trial configuration more.0) =
    accused_later trial configuration more.0 k link has in
    let last : (configuration_of trial (under trial whole)).accused k ≡ Some link =
    ap (λ (p : Configuration). p.accused k) at_end ∙ later.accused in
    let solved : outcome_in trial.world (configuration_of trial (under trial whole)) ≡ Solved =
    sym (ap (λ (v : Verdict). v.outcome) (verdict_is trial (under trial whole)))
    ∙ (solves.solves whole more.1).outcome in
    right_at_rest trial.world (configuration_of trial (under trial whole)) k link within last solved

-- ---- the same happens where another node is the black hole, as long as nobody arrives there

module _ (world : World) (held : Held) (wakeups : ℕ) (strategies : Strategies) (hole node : ℕ) where
  abbrev one : Trial
  one = searched world held wakeups strategies hole

  abbrev two : Trial
  two = searched world held wakeups strategies node

  -- A turn has equal effects in both matches, or no effect in the first match.
  record IsAlike (configuration : Configuration) (agent : ℕ) : Type 0 where
    either : (turn_in two configuration agent ≡ turn_in one configuration agent) ⊎ (turn_in one configuration agent
        ≡ configuration)

  pub doomed_is : (at start port : ℕ) → doomed (searched world held wakeups strategies at).world start port
      ≡ (at == (world.net.far start port).0)
  doomed_is at start port = or_none (at == (world.net.far start port).0)
    where
      or_none : (b : Bool) → ((b || false) || false) ≡ b
      or_none true = refl
      or_none false = refl

  alike_by : (configuration : Configuration) (agent : ℕ) (it : Action)
      → (done_in one configuration agent it).reached node ≡ false →
      (done_in two configuration agent it ≡ done_in one configuration agent it) ⊎ (done_in one configuration agent it
      ≡ configuration)
  alike_by configuration agent (Makes (Tell other command)) never = inl refl
  alike_by configuration agent (Makes (Deliver other)) never = by_place (configuration.position other) never
    where
      by_place : (position : Position) → (delivered_in one.world configuration other position).reached node ≡ false →
          (delivered_in two.world configuration other position ≡ delivered_in one.world configuration other position)
          ⊎ (delivered_in one.world configuration other position ≡ configuration)
      by_place (Bound start port) never = by_cases (doomed one.world start port)
          ((delivered_in two.world configuration other (Bound start port)
          ≡ delivered_in one.world configuration other (Bound start port))
          ⊎ (delivered_in one.world configuration other (Bound start port) ≡ configuration))
          (λ yes. inr (cond-true _ _ _ yes))
          (λ none.
          let target : ℕ = (world.net.far start port).0 in
          let arrived : Configuration = arrived_in one.world configuration other target (world.net.far start port).1 in
          let is : delivered_in one.world configuration other (Bound start port) ≡ arrived =
          cond-false _ configuration arrived none in
          let apart : node ≢ target = λ same. true≢false (sym (ap (changed configuration.reached target true) same
          ∙ changed_same configuration.reached target true)
          ∙ (sym (ap (λ (p : Configuration). p.reached node) is) ∙ never)) in
          let safe : doomed two.world start port ≡ false =
          doomed_is node start port ∙ ne_eqb node target apart in
          inl (cond-false _ configuration arrived safe ∙ sym is))
      by_place Before never = inl refl
      by_place (At place came) never = inl refl
      by_place After never = inl refl
  alike_by configuration agent (Makes Close) never = inl refl
  alike_by configuration agent Wakes never = inl refl
  alike_by configuration agent Rests never = inl refl

  pub record IsSameRun (configuration : Configuration) (schedule : List ℕ) : Type 0 where
    pub other : List ℕ
    pub same : turns_in two configuration other ≡ turns_in one configuration schedule

  pub same_run : (schedule : List ℕ) (configuration : Configuration)
      → (turns_in one configuration schedule).reached node ≡ false
      → IsSameRun configuration schedule
  same_run [] configuration never = record { other = []; same = refl }
  same_run (agent ∷ schedule) configuration never =
      let rest : IsSameRun (turn_in one configuration agent) schedule =
      same_run schedule (turn_in one configuration agent) never in
      let not_yet : (turn_in one configuration agent).reached node ≡ false =
      by_cases ((turn_in one configuration agent).reached node) ((turn_in one configuration agent).reached node ≡ false)
      (λ was. absurd (true≢false (sym (reached_later one (turn_in one configuration agent) schedule node was) ∙ never)))
      (λ none. none) in
      elim (alike_by configuration agent (deed_in one configuration agent) not_yet) [
        | inl h ↦ record {
          other = agent ∷ rest.other;
          same = ap (λ (p : Configuration). turns_in two p rest.other) h ∙ rest.same;
        }
        | inr h ↦ record {
          other = rest.other;
          same = ap (λ (p : Configuration). turns_in two p rest.other) (sym h) ∙ rest.same;
        }
      ]
