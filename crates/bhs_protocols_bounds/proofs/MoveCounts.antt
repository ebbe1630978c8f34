-- How many moves are counted: they never become fewer, and an agent on a link has made one.
use Rattle.std.proofs.Common.{ℕ, ◌+◌, ◌≤◌, ◌≡◌, Bool, true, false, Option, Some, List, [], ◌∷◌, refl, sym, ap, ◌∙◌}
use Rattle.std.proofs.Common.{subst, if◌then◌else◌, nat_lt, inl, inr, arith}
use Rattle.std.specs.Prelude.{◌≢◌}
use Rattle.std.proofs.lemmas.Bool.{cond-true, cond-false, ne_eqb}
use Rattle.std.proofs.lemmas.Bool.Decides.{eqb_tells}
use Rattle.bhs_model.specs.declared.commands.Command.{Command}
use Rattle.bhs_model.specs.declared.commands.Command.TheVariants.{Enter, Look, Write, Depart, Accuse, Leave, Bad}
use Rattle.bhs_model.specs.declared.events.Event.TheVariants.{Tell, Deliver, Close}
use Rattle.bhs_model.specs.declared.replies.Reply.{Reply}
use Rattle.bhs_model.specs.declared.replies.Reply.TheVariants.{Gone, Noted, No, Written, Changed}
use Rattle.bhs_model.specs.declared.replies.Why.TheVariants as whys
use Rattle.bhs_model.specs.Worlds.{World, doomed}
use Rattle.bhs_model.specs.Draws.{Held}
use Rattle.bhs_model.specs.Runs.{Position, Before, At, Bound, After, changed, position_after}
use Rattle.bhs_model.proofs.StepLemmas.{by_cases, changed_same}
use Rattle.bhs_referee.specs.Findings.{moves_by}
use Rattle.bhs_schedules.specs.Strategies.{Strategies}
use Rattle.bhs_schedules.specs.Schedules.{Trial, Action, Makes, Wakes, Rests}
use Rattle.bhs_schedules.proofs.Turns.{IsOwn}
use Rattle.bhs_protocols.specs.Configurations.{Configuration, blank, deed_in, done_in, turn_in, turns_in, answer_at}
use Rattle.bhs_protocols.specs.Configurations.{is_heard, told_at, refused_in, said_in, arrived_in, delivered_in}
use Rattle.bhs_protocols.proofs.LastWordLemmas.{other_untouched, own_in}
use Rattle.bhs_protocols_bounds.proofs.Holeless.{free, IsReachable}

pub moves_write : (shown : List ℕ) (moves : ℕ) (a b : Bool)
    → moves_by (Some (if a then (if b then Written else Changed shown) else No whys.Long)) moves ≡ moves
moves_write shown moves true true = refl
moves_write shown moves true false = refl
moves_write shown moves false b = refl

-- ---- no turn takes a move back

more_by : (reply : Reply) (moves : ℕ) → moves ≤ moves_by (Some reply) moves
more_by Gone moves = omega arith
more_by reply moves = omega arith

done_more : (trial : Trial) (configuration : Configuration) (agent : ℕ) (it : Action)
    → configuration.moves ≤ (done_in trial configuration agent it).moves
done_more trial configuration agent (Makes (Tell other command)) =
    by_cases (is_heard trial.world configuration other command)
    (configuration.moves ≤ (said_in trial.world configuration other command).moves)
    (λ yes. subst (λ (p : Configuration). configuration.moves ≤ p.moves)
    (sym (cond-true _ (told_at trial.world configuration other (configuration.position other) command)
    (refused_in configuration other command) yes)) (more_by _ configuration.moves))
    (λ deaf. subst (λ (p : Configuration). configuration.moves ≤ p.moves)
    (sym (cond-false _ (told_at trial.world configuration other (configuration.position other) command)
    (refused_in configuration other command) deaf)) (omega arith))
done_more trial configuration agent (Makes (Deliver other)) = by_place (configuration.position other)
  where
    by_place : (position : Position)
        → configuration.moves ≤ (delivered_in trial.world configuration other position).moves
    by_place (Bound start port) = by_cases (doomed trial.world start port)
        (configuration.moves ≤ (delivered_in trial.world configuration other (Bound start port)).moves)
        (λ yes. subst (λ (p : Configuration). configuration.moves ≤ p.moves)
        (sym (cond-true _ configuration (arrived_in trial.world configuration other
        (trial.world.net.far start port).0 (trial.world.net.far start port).1) yes)) (omega arith))
        (λ none. subst (λ (p : Configuration). configuration.moves ≤ p.moves)
        (sym (cond-false _ configuration (arrived_in trial.world configuration other
        (trial.world.net.far start port).0 (trial.world.net.far start port).1) none)) (omega arith))
    by_place Before = omega arith
    by_place (At place came) = omega arith
    by_place After = omega arith
done_more trial configuration agent (Makes Close) = omega arith
done_more trial configuration agent Wakes = omega arith
done_more trial configuration agent Rests = omega arith

pub turns_more : (trial : Trial) (schedule : List ℕ) (configuration : Configuration)
    → configuration.moves ≤ (turns_in trial configuration schedule).moves
turns_more trial [] configuration = omega arith
turns_more trial (agent ∷ schedule) configuration =
    let next : Configuration = turn_in trial configuration agent in
    let first : configuration.moves ≤ next.moves =
    done_more trial configuration agent (deed_in trial configuration agent) in
    let rest : next.moves ≤ (turns_in trial next schedule).moves = turns_more trial schedule next in
    omega (arith, first, rest)

-- ---- an agent on a link, or that arrived over one, has made a move

abbrev has_moved : Position → ℕ
has_moved (At node (Some label)) = 1
has_moved (Bound node port) = 1
has_moved position = 0

-- an agent at the first position, with so many moves counted, and then at the second
abbrev Pays : (old new : Position) → (before after : ℕ) → Type 0
Pays old new before after = has_moved new + before ≤ has_moved old + after

departs : (node port : ℕ) (came : Option ℕ) (moves : ℕ) (b : Bool)
    → Pays (At node came) (if b then Bound node port else At node came) moves
    (moves_by (Some (if b then Gone else No whys.Port)) moves)
departs node port came moves true = omega arith
departs node port came moves false = omega arith

accuses : (node : ℕ) (came : Option ℕ) (moves : ℕ) (b : Bool)
    → Pays (At node came) (if b then After else At node came) moves
    (moves_by (Some (if b then Noted else No whys.Port)) moves)
accuses node came moves true = omega arith
accuses node came moves false = omega arith

told_pays : (world : World) (shown : ℕ → List ℕ) (place : Position) (command : Command) (moves : ℕ)
    → Pays place (position_after world place command) moves
    (moves_by (Some (answer_at world shown place command)) moves)
told_pays world shown (At node came) (Depart port) moves =
    departs node port came moves (nat_lt port (world.net.degree node))
told_pays world shown (At node came) (Accuse port) moves = accuses node came moves (nat_lt port (world.net.degree node))
told_pays world shown (At node came) (Write expect put) moves =
    subst (Pays (At node came) (At node came) moves) (sym (moves_write (shown node) moves _ _)) (omega arith)
told_pays world shown (At node came) Enter moves = omega arith
told_pays world shown (At node came) Look moves = omega arith
told_pays world shown (At node came) Leave moves = omega arith
told_pays world shown (At node came) Bad moves = omega arith
told_pays world shown Before Enter moves = omega arith
told_pays world shown Before Leave moves = omega arith
told_pays world shown Before command moves = omega arith
told_pays world shown (Bound node port) Enter moves = omega arith
told_pays world shown (Bound node port) Leave moves = omega arith
told_pays world shown (Bound node port) command moves = omega arith
told_pays world shown After Enter moves = omega arith
told_pays world shown After Leave moves = omega arith
told_pays world shown After command moves = omega arith

module _ (world : World) (held : Held) (wakeups : ℕ) (strategies : Strategies) where
  abbrev empty : Trial
  empty = free world held wakeups strategies

  abbrev PaysFor : (agent : ℕ) → (old new : Configuration) → Type 0
  PaysFor agent old new = Pays (old.position agent) (new.position agent) old.moves new.moves

  said_pays : (configuration : Configuration) (agent : ℕ) (command : Command)
      → PaysFor agent configuration (said_in world configuration agent command)
  said_pays configuration agent command =
      let place : Position = configuration.position agent in
      let told : Configuration = told_at world configuration agent place command in
      let refused : Configuration = refused_in configuration agent command in
      by_cases (is_heard world configuration agent command)
      (PaysFor agent configuration (said_in world configuration agent command))
      (λ yes. subst (PaysFor agent configuration) (sym (cond-true _ told refused yes))
      (subst (λ (now : Position). Pays place now configuration.moves told.moves)
      (sym (changed_same configuration.position agent (position_after world place command)))
      (told_pays world configuration.shown place command configuration.moves)))
      (λ deaf. subst (PaysFor agent configuration) (sym (cond-false _ told refused deaf)) (omega arith))

  own_pays : (configuration : Configuration) (agent : ℕ) (it : Action) → IsOwn agent it
      → PaysFor agent configuration (done_in empty configuration agent it)
  own_pays configuration agent (Makes (Tell k command)) own =
      subst (λ (j : ℕ). PaysFor agent configuration (said_in world configuration j command)) (sym own)
      (said_pays configuration agent command)
  own_pays configuration agent (Makes (Deliver k)) own =
      subst (λ (j : ℕ). PaysFor agent configuration
      (delivered_in empty.world configuration j (configuration.position j))) (sym own)
      (by_place (configuration.position agent) refl)
    where
      by_place : (position : Position) → configuration.position agent ≡ position
          → PaysFor agent configuration (delivered_in empty.world configuration agent position)
      by_place (Bound start port) at =
          let target : ℕ = (world.net.far start port).0 in
          let now : Position = At target (Some (world.net.far start port).1) in
          let before : has_moved (configuration.position agent) ≡ 1 = ap has_moved at in
          let later : has_moved (changed configuration.position agent now agent) ≡ 1 =
          ap has_moved (changed_same configuration.position agent now) in
          omega (arith, before, later)
      by_place Before at = omega arith
      by_place (At place came) at = omega arith
      by_place After at = omega arith
  own_pays configuration agent (Makes Close) own = absurd own
  own_pays configuration agent Wakes own = omega arith
  own_pays configuration agent Rests own = omega arith

  abbrev ArePaid : (one other : ℕ) → Configuration → Type 0
  ArePaid one other configuration =
      has_moved (configuration.position one) + has_moved (configuration.position other) ≤ configuration.moves

  turn_paid : (configuration : Configuration) (agent one other : ℕ) → one ≢ other → ArePaid one other configuration
      → ArePaid one other (turn_in empty configuration agent)
  turn_paid configuration agent one other apart paid =
      let it : Action = deed_in empty configuration agent in
      let next : Configuration = turn_in empty configuration agent in
      let own : IsOwn agent it = own_in empty configuration agent in
      let pays : PaysFor agent configuration next = own_pays configuration agent it own in
      let more : configuration.moves ≤ next.moves = done_more empty configuration agent it in
      let stays : (k : ℕ) → k ≢ agent → has_moved (next.position k) ≡ has_moved (configuration.position k) =
      λ k differs. ap has_moved (other_untouched empty configuration agent k it own
      (ne_eqb k agent differs)).position in
      elim (eqb_tells one agent) [
        | inl h ↦
            let still = stays other (λ same. apart (h.1 ∙ sym same)) in
            let pays_too : PaysFor one configuration next =
            subst (λ (j : ℕ). PaysFor j configuration next) (sym h.1) pays in
            omega (arith, paid, pays_too, still)
        | inr h ↦
            let still = stays one h.1 in
            elim (eqb_tells other agent) [
              | inl g ↦
                  let pays_too : PaysFor other configuration next =
                  subst (λ (j : ℕ). PaysFor j configuration next) (sym g.1) pays in
                  omega (arith, paid, pays_too, still)
              | inr g ↦ let still_too = stays other g.1 in omega (arith, paid, more, still, still_too)
            ]
      ]

  turns_paid : (schedule : List ℕ) (configuration : Configuration) (one other : ℕ) → one ≢ other
      → ArePaid one other configuration → ArePaid one other (turns_in empty configuration schedule)
  turns_paid [] configuration one other apart paid = paid
  turns_paid (agent ∷ schedule) configuration one other apart paid =
      turns_paid schedule (turn_in empty configuration agent) one other apart
      (turn_paid configuration agent one other apart paid)

  -- two agents on links have made two moves
  pub both_moved : (configuration : Configuration) (one other start start_too port port_too : ℕ) → one ≢ other
      → IsReachable world held wakeups strategies configuration → configuration.position one ≡ Bound start port
      → configuration.position other ≡ Bound start_too port_too → 2 ≤ configuration.moves
  both_moved configuration one other start start_too port port_too apart it on on_too =
      let paid : ArePaid one other configuration =
      subst (ArePaid one other) it.leads (turns_paid it.schedule blank one other apart (omega arith)) in
      let first : has_moved (configuration.position one) ≡ 1 = ap has_moved on in
      let second : has_moved (configuration.position other) ≡ 1 = ap has_moved on_too in
      omega (arith, paid, first, second)
