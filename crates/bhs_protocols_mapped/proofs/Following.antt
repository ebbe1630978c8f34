-- Agents that do on a network what strategies do on a part of it: turn by turn the two matches are alike.
use Rattle.std.proofs.Common.{ℕ, ◌+◌, ◌<◌, ◌≤◌, ◌≡◌, Bool, true, false, ◌||◌, Option, Some, None, List, ◌∷◌}
use Rattle.std.proofs.Common.{length, refl, sym, ap, ◌∙◌, subst, if◌then◌else◌, nat_lt, inl, inr, arith}
use Rattle.std.specs.Prelude.{nat_le, bytes_eq}
use Rattle.std.proofs.lemmas.Bool.{lt-ltb, le-ltb, ltb-true, true≢false, cond-true, cond-false}
use Rattle.std.proofs.lemmas.Bool.Decides.{eqb_tells}
use Rattle.bhs_model.specs.declared.commands.Command.{Command}
use Rattle.bhs_model.specs.declared.commands.Command.TheVariants.{Enter, Look, Write, Depart, Accuse, Leave, Bad}
use Rattle.bhs_model.specs.declared.replies.Reply.{Reply}
use Rattle.bhs_model.specs.declared.replies.Reply.TheVariants.{Here, Written, Changed, Gone, Noted, Bye, No}
use Rattle.bhs_model.specs.declared.replies.Why.{Why}
use Rattle.bhs_model.specs.declared.replies.Why.TheVariants as whys
use Rattle.bhs_model.specs.Views.{counts}
use Rattle.bhs_model.specs.Replying.{accepts, refusal, swapped, write_answer}
use Rattle.bhs_model.specs.Standings.{standing_at}
use Rattle.bhs_model.specs.Worlds.{Network, World, doomed, is_hole, is_dark}
use Rattle.bhs_model.specs.Runs.{Position, Before, At, Bound, After, changed, position_after}
use Rattle.bhs_model.proofs.StepLemmas.{by_cases}
use Rattle.bhs_referee.specs.Findings.{accused_by, moves_by}
use Rattle.bhs_schedules.specs.declared.answers.Step.TheVariants.{Says}
use Rattle.bhs_schedules.specs.Strategies.{Observation, Heard, Woke, History, Strategies}
use Rattle.bhs_schedules.specs.Schedules.{Trial, faced, is_same_sight}
use Rattle.bhs_protocols.specs.Configurations.{Configuration, shown_in, is_heard, answer_at, shown_after, told_at}
use Rattle.bhs_protocols.specs.Configurations.{refused_in}
use Rattle.bhs_protocols.specs.Configurations.{said_in, arrived_in, delivered_in, woken_in, faces_alike}
use Rattle.bhs_protocols.specs.Programs.{held_after}
use Rattle.bhs_protocols_mapped.specs.Parts.{IsPart, Follower, bare, command_of, step_of, answered, heard_at, followed}
use Rattle.bhs_protocols_mapped.specs.Parts.{followers}
use Rattle.bhs_protocols_mapped.specs.Parts.{on_part, through_part}

module _ (world : World) (part : Network) (port : (node port : ℕ) → ℕ) (wakeups : ℕ) (strategies : Strategies)
    (is : IsPart world part port) where
  -- the worlds of both matches, with the part and with the whole network
  abbrev pub inner : World
  inner = record world { net = part }

  abbrev pub played : Trial
  played = on_part world part wakeups strategies

  abbrev pub followed_by : Trial
  followed_by = through_part world part port wakeups strategies

  abbrev holds : (agent : ℕ) → History → Follower
  holds = held_after (followers part world.home port strategies)

  -- ---- alike

  abbrev pub SamePlace : (outer place : Position) → Type 0
  SamePlace outer Before = outer ≡ Before
  SamePlace outer (At node came) = (node < part.nodes) × (seen : Option ℕ) × (outer ≡ At node seen)
  SamePlace outer (Bound node it) = (node < part.nodes) × (it < part.degree node) × (outer ≡ Bound node (port node it))
  SamePlace outer After = outer ≡ After

  abbrev pub SameLink : (outer link : Option (ℕ × ℕ)) → Type 0
  SameLink outer None = outer ≡ None
  SameLink outer (Some end) =
      (end.0 < part.nodes) × (end.1 < part.degree end.0) × (outer ≡ Some (end.0, port end.0 end.1))

  pub record IsAlike (outer it : Configuration) : Type 0 where
    pub place : (k : ℕ) → SamePlace (outer.position k) (it.position k)
    pub strategy : (k : ℕ) → holds k (outer.history k)
        ≡ record { agent = k; past = it.history k; place = it.position k }
    pub woken : (k : ℕ) → outer.woken k ≡ it.woken k
    pub used : (k : ℕ) → outer.used k ≡ it.used k
    pub shown : outer.shown ≡ it.shown
    pub accused : (k : ℕ) → SameLink (outer.accused k) (it.accused k)
    pub reached : outer.reached ≡ it.reached
    pub moves : outer.moves ≡ it.moves

  faced_same : (outer place : Position) → SamePlace outer place → faced world outer ≡ faced inner place
  faced_same outer Before same = ap (faced world) same
  faced_same outer (At node came) same = ap (faced world) same.2
  faced_same outer (Bound node it) same = ap (faced world) same.2
  faced_same outer After same = ap (faced world) same

  faces_same : (old old_too new new_too : Position) (shown shown_too showing showing_too : ℕ → List ℕ)
      → SamePlace old old_too → SamePlace new new_too → shown ≡ shown_too → showing ≡ showing_too
      → faces_alike world old shown new showing ≡ faces_alike inner old_too shown_too new_too showing_too
  faces_same old old_too new new_too shown shown_too showing showing_too at then_at like then_like i =
      is_same_sight (faced_same old old_too at i) (shown_in (like i) (faced_same old old_too at i))
      (faced_same new new_too then_at i) (shown_in (then_like i) (faced_same new new_too then_at i))

  -- ---- what a strategy says

  pub says_same : (outer it : Configuration) (k : ℕ) → IsAlike outer it
      → followed_by.strategies k (outer.history k) ≡ step_of port (it.position k) (strategies k (it.history k))
  says_same outer it k same =
      ap (λ (m : Follower). step_of port m.place (strategies m.agent m.past)) (same.strategy k)

  -- ---- a turn changes one agent

  changed_place : (outer it : Configuration) (k : ℕ) (there there_too : Position) → IsAlike outer it
      → SamePlace there there_too → (j : ℕ)
      → SamePlace (changed outer.position k there j) (changed it.position k there_too j)
  changed_place outer it k there there_too same at j = elim (eqb_tells j k) [
    | inl h ↦ rw h.0 at
    | inr h ↦ rw h.0 (same.place j)
  ]

  changed_strategy : (outer it : Configuration) (k : ℕ) (news news_too : Observation) (there : Position)
      → IsAlike outer it
      → followed part world.home strategies (record { agent = k; past = it.history k; place = it.position k }) news
      ≡ record { agent = k; past = news_too ∷ it.history k; place = there } → (j : ℕ)
      → holds j (changed outer.history k (news ∷ outer.history k) j) ≡ record {
        agent = j;
        past = changed it.history k (news_too ∷ it.history k) j;
        place = changed it.position k there j;
      }
  changed_strategy outer it k news news_too there same becomes j = elim (eqb_tells j k) [
    | inl h ↦ rw h.0 (subst (λ (a : ℕ). holds a (news ∷ outer.history k)
        ≡ record { agent = a; past = news_too ∷ it.history k; place = there }) (sym h.1)
        (ap (λ (m : Follower). followed part world.home strategies m news) (same.strategy k) ∙ becomes))
    | inr h ↦ rw h.0 (same.strategy j)
  ]

  changed_link : (outer it : Configuration) (k : ℕ) (link link_too : Option (ℕ × ℕ)) → IsAlike outer it
      → SameLink link link_too → (j : ℕ)
      → SameLink (changed outer.accused k link j) (changed it.accused k link_too j)
  changed_link outer it k link link_too same to j = elim (eqb_tells j k) [
    | inl h ↦ rw h.0 to
    | inr h ↦ rw h.0 (same.accused j)
  ]

  changed_number : (f g : ℕ → ℕ) (k a b : ℕ) → ((j : ℕ) → f j ≡ g j) → a ≡ b → (j : ℕ)
      → changed f k a j ≡ changed g k b j
  changed_number f g k a b all same j = elim (eqb_tells j k) [
    | inl h ↦ rw h.0 same
    | inr h ↦ rw h.0 (all j)
  ]

  -- ---- a command that is heard

  told_alike : (outer it : Configuration) (k : ℕ) (there here : Position) (command command_too : Command)
      → IsAlike outer it
      → SamePlace (position_after world there command) (position_after inner here command_too)
      → followed part world.home strategies (record { agent = k; past = it.history k; place = it.position k })
      (Heard (answer_at world outer.shown there command))
      ≡ record {
        agent = k;
        past = Heard (answer_at inner it.shown here command_too) ∷ it.history k;
        place = position_after inner here command_too;
      }
      → shown_after world.board outer.shown there command ≡ shown_after world.board it.shown here command_too
      → counts command ≡ counts command_too
      → SameLink (accused_by (Some (answer_at world outer.shown there command)) command there (outer.accused k))
      (accused_by (Some (answer_at inner it.shown here command_too)) command_too here (it.accused k))
      → moves_by (Some (answer_at world outer.shown there command)) outer.moves
      ≡ moves_by (Some (answer_at inner it.shown here command_too)) it.moves
      → IsAlike (told_at world outer k there command) (told_at inner it k here command_too)
  told_alike outer it k there here command command_too same place strategy shown costs link moves = record {
    place = changed_place outer it k _ _ same place;
    strategy = changed_strategy outer it k _ _ _ same strategy;
    woken = λ other.
        let alike = faces_same (outer.position other) (it.position other) _ _ outer.shown it.shown _ _
        (same.place other) (changed_place outer it k _ _ same place other) same.shown shown in
        (λ i. if alike i then same.woken other i else 0);
    used = changed_number outer.used it.used k _ _ same.used
        (λ i. if costs i then same.used k i + 1 else same.used k i);
    shown = shown;
    accused = changed_link outer it k _ _ same link;
    reached = same.reached;
    moves = moves;
  }

  told_by : (outer it : Configuration) (k : ℕ) (there here : Position) (command command_too : Command)
      (says hears : Reply)
      (goes comes : Position) → IsAlike outer it → answer_at world outer.shown there command ≡ says
      → answer_at inner it.shown here command_too ≡ hears → position_after world there command ≡ goes
      → position_after inner here command_too ≡ comes → SamePlace goes comes
      → followed part world.home strategies (record {
        agent = k;
        past = it.history k;
        place =
            it.position k;
      }) (Heard says)
      ≡ record { agent = k; past = Heard hears ∷ it.history k; place = comes }
      → shown_after world.board outer.shown there command ≡ shown_after world.board it.shown here command_too
      → counts command ≡ counts command_too
      → SameLink (accused_by (Some says) command there (outer.accused k))
      (accused_by (Some hears) command_too here (it.accused k))
      → moves_by (Some says) outer.moves ≡ moves_by (Some hears) it.moves
      → IsAlike (told_at world outer k there command) (told_at inner it k here command_too)
  told_by outer it k there here command command_too says hears goes comes same a b c d place strategy shown costs link
      moves =
      told_alike outer it k there here command command_too same
      (subst (λ (p : Position). SamePlace p (position_after inner here command_too)) (sym c)
      (subst (λ (p : Position). SamePlace goes p) (sym d) place))
      ((λ i. followed part world.home strategies (record { agent = k; past = it.history k; place = it.position k })
      (Heard (a i))) ∙ strategy
      ∙ sym (λ i. record { agent = k; past = Heard (b i) ∷ it.history k; place = d i }))
      shown costs
      (subst (λ (r : Reply). SameLink (accused_by (Some r) command there (outer.accused k))
      (accused_by (Some (answer_at inner it.shown here command_too)) command_too here (it.accused k))) (sym a)
      (subst (λ (r : Reply). SameLink (accused_by (Some says) command there (outer.accused k))
      (accused_by (Some r) command_too here (it.accused k))) (sym b) link))
      ((λ i. moves_by (Some (a i)) outer.moves) ∙ moves ∙ sym (λ i. moves_by (Some (b i)) it.moves))

  -- ---- replies that leave the position of an agent unchanged

  still_strategy : (outer it : Configuration) (k : ℕ) (news news_too : Observation) → IsAlike outer it
      → followed part world.home strategies (record { agent = k; past = it.history k; place = it.position k }) news
      ≡ record { agent = k; past = news_too ∷ it.history k; place = it.position k } → (j : ℕ)
      → holds j (changed outer.history k (news ∷ outer.history k) j) ≡ record {
        agent = j;
        past = changed it.history k (news_too ∷ it.history k) j;
        place = it.position j;
      }
  still_strategy outer it k news news_too same becomes j = elim (eqb_tells j k) [
    | inl h ↦ rw h.0 (subst (λ (a : ℕ). holds a (news ∷ outer.history k)
        ≡ record { agent = a; past = news_too ∷ it.history k; place = it.position a }) (sym h.1)
        (ap (λ (m : Follower). followed part world.home strategies m news) (same.strategy k) ∙ becomes))
    | inr h ↦ rw h.0 (same.strategy j)
  ]

  refused_alike : (outer it : Configuration) (k : ℕ) (command command_too : Command) → IsAlike outer it
      → refusal (standing_at (outer.position k)) command ≡ refusal (standing_at (it.position k)) command_too
      → ((why : Why) → followed part world.home strategies
      (record { agent = k; past = it.history k; place = it.position k }) (Heard (No why))
      ≡ record { agent = k; past = Heard (No why) ∷ it.history k; place = it.position k })
      → IsAlike (refused_in outer k command) (refused_in it k command_too)
  refused_alike outer it k command command_too same why stays = record {
    place = same.place;
    strategy = still_strategy outer it k _ _ same ((λ i. followed part world.home strategies
        (record { agent = k; past = it.history k; place = it.position k }) (Heard (No (why i)))) ∙ stays _);
    woken = same.woken;
    used = same.used;
    shown = same.shown;
    accused = same.accused;
    reached = same.reached;
    moves = same.moves;
  }

  pub woken_alike : (outer it : Configuration) (k : ℕ) → IsAlike outer it → IsAlike (woken_in outer k) (woken_in it k)
  woken_alike outer it k same = record {
    place = same.place;
    strategy = still_strategy outer it k Woke Woke same refl;
    woken = changed_number outer.woken it.woken k _ _ same.woken (ap (λ (w : ℕ). w + 1) (same.woken k));
    used = same.used;
    shown = same.shown;
    accused = same.accused;
    reached = same.reached;
    moves = same.moves;
  }

  -- ---- a command

  -- what an agent holds after a reply, at a place that is no link
  abbrev strategy_at : Configuration → ℕ → Follower
  strategy_at it k = record { agent = k; past = it.history k; place = it.position k }

  said_alike : (outer it : Configuration) (k : ℕ) (there here : Position) (command command_too : Command)
      → IsAlike outer it
      → outer.position k ≡ there → it.position k ≡ here
      → ((room : Bool) → accepts (standing_at there) room command ≡ accepts (standing_at here) room command_too)
      → refusal (standing_at there) command ≡ refusal (standing_at here) command_too
      → ((why : Why) → followed part world.home strategies (strategy_at it k) (Heard (No why))
      ≡ record { agent = k; past = Heard (No why) ∷ it.history k; place = it.position k })
      → (accepts (standing_at here) (nat_lt (it.used k) world.quota) command_too ≡ true
      → IsAlike (told_at world outer k there command) (told_at inner it k here command_too))
      → IsAlike (said_in world outer k command) (said_in inner it k command_too)
  said_alike outer it k there here command command_too same at at_too accept why stays told =
      let hears : is_heard world outer k command
      ≡ accepts (standing_at here) (nat_lt (it.used k) world.quota) command_too =
      (λ i. accepts (standing_at (at i)) (nat_lt (same.used k i) world.quota) command)
      ∙ accept (nat_lt (it.used k) world.quota) in
      let hears_too : is_heard inner it k command_too
      ≡ accepts (standing_at here) (nat_lt (it.used k) world.quota) command_too =
      (λ i. accepts (standing_at (at_too i)) (nat_lt (it.used k) world.quota) command_too) in
      by_cases (accepts (standing_at here) (nat_lt (it.used k) world.quota) command_too)
      (IsAlike (said_in world outer k command) (said_in inner it k command_too))
      (λ yes.
      subst (λ (p : Configuration). IsAlike p (said_in inner it k command_too))
      (sym (cond-true _ _ _ (hears ∙ yes) ∙ ap (λ (p : Position). told_at world outer k p command) at))
      (subst (λ (p : Configuration). IsAlike (told_at world outer k there command) p)
      (sym (cond-true _ _ _ (hears_too ∙ yes) ∙ ap (λ (p : Position). told_at inner it k p command_too) at_too))
      (told yes)))
      (λ none.
      subst (λ (p : Configuration). IsAlike p (said_in inner it k command_too)) (sym (cond-false _ _ _ (hears ∙ none)))
      (subst (λ (p : Configuration). IsAlike (refused_in outer k command) p) (sym (cond-false _ _ _ (hears_too ∙ none)))
      (refused_alike outer it k command command_too same
      (ap (λ (p : Position). refusal (standing_at p) command) at ∙ why
      ∙ sym (ap (λ (p : Position). refusal (standing_at p) command_too) at_too)) stays)))

  -- The agent has not entered yet.
  module _ (outer it : Configuration) (k : ℕ) (same : IsAlike outer it) (out : outer.position k ≡ Before)
      (out_too : it.position k ≡ Before) where
    hears_before : (command : Command) → strategies k (it.history k) ≡ Says command → (reply : Reply)
        → followed part world.home strategies (strategy_at it k) (Heard reply)
        ≡ answered part (strategy_at it k) (position_after (bare part world.home) Before command) reply
    hears_before command says reply i = heard_at part world.home (strategy_at it k) (out_too i) (says i) reply

    not_heard : (command : Command) → strategies k (it.history k) ≡ Says command
        → ((room : Bool) → accepts (standing_at Before) room command ≡ false)
        → IsAlike (said_in world outer k command) (said_in inner it k command)
    not_heard command says never = said_alike outer it k Before Before command command same out out_too (λ room. refl)
        refl (λ why. hears_before command says (No why))
        (λ yes. absurd (true≢false (sym yes ∙ never (nat_lt (it.used k) world.quota))))

    pub before_alike : (command : Command) → strategies k (it.history k) ≡ Says command
        → IsAlike (said_in world outer k command) (said_in inner it k command)
    before_alike Enter says = said_alike outer it k Before Before Enter Enter same out out_too (λ room. refl) refl
        (λ why. hears_before Enter says (No why))
        (λ yes. told_by outer it k Before Before Enter Enter _ _ _ _ same refl refl refl refl
        (is.home, None, refl)
        (hears_before Enter says _
        ∙ (λ i. record {
          agent = k;
          past = Heard (Here (part.degree world.home) None (same.shown i world.home)) ∷ it.history k;
          place = At world.home None;
        })) same.shown refl (same.accused k) same.moves)
    before_alike Look says = not_heard Look says (λ room. refl)
    before_alike (Write expect put) says = not_heard (Write expect put) says (λ room. refl)
    before_alike (Depart by) says = not_heard (Depart by) says (λ room. refl)
    before_alike (Accuse by) says = not_heard (Accuse by) says (λ room. refl)
    before_alike Leave says = not_heard Leave says (λ room. refl)
    before_alike Bad says = not_heard Bad says (λ room. refl)

  -- an agent at a node
  module _ (outer it : Configuration) (k : ℕ) (same : IsAlike outer it) (node : ℕ) (came seen : Option ℕ)
      (below : node < part.nodes) (on : outer.position k ≡ At node seen) (on_too : it.position k ≡ At node came) where
    hears_at : (command : Command) → strategies k (it.history k) ≡ Says command → (reply : Reply)
        → followed part world.home strategies (strategy_at it k) (Heard reply)
        ≡ answered part (strategy_at it k) (position_after (bare part world.home) (At node came) command) reply
    hears_at command says reply i = heard_at part world.home (strategy_at it k) (on_too i) (says i) reply

    stays_at : (command : Command) → strategies k (it.history k) ≡ Says command → (why : Why)
        → followed part world.home strategies (strategy_at it k) (Heard (No why))
        ≡ record { agent = k; past = Heard (No why) ∷ it.history k; place = it.position k }
    stays_at command says why = hears_at command says (No why)

    refused_at : (command : Command) → strategies k (it.history k) ≡ Says command → (why : Why)
        → followed part world.home strategies (strategy_at it k) (Heard (No why))
        ≡ record { agent = k; past = Heard (No why) ∷ it.history k; place = At node came }
    refused_at command says why = stays_at command says why
        ∙ ap (λ (p : Position). record { agent = k; past = Heard (No why) ∷ it.history k; place = p }) on_too

    here_too : SamePlace (At node seen) (At node came)
    here_too = (below, seen, refl)

    at_alike : (command command_too : Command) → strategies k (it.history k) ≡ Says command_too
        → ((room : Bool) → accepts (standing_at (At node seen)) room command
        ≡ accepts (standing_at (At node came)) room command_too)
        → refusal (standing_at (At node seen)) command ≡ refusal (standing_at (At node came)) command_too
        → (accepts (standing_at (At node came)) (nat_lt (it.used k) world.quota) command_too ≡ true
        → IsAlike (told_at world outer k (At node seen) command) (told_at inner it k (At node came) command_too))
        → IsAlike (said_in world outer k command) (said_in inner it k command_too)
    at_alike command command_too says accept why told =
        said_alike outer it k (At node seen) (At node came) command command_too same on on_too accept why
        (stays_at command_too says) told

    looks : strategies k (it.history k) ≡ Says Look → IsAlike (said_in world outer k Look) (said_in inner it k Look)
    looks says = at_alike Look Look says (λ room. refl) refl
        (λ yes. told_by outer it k (At node seen) (At node came) Look Look _ _ _ _ same refl refl refl refl here_too
        (hears_at Look says _
        ∙ (λ i. record {
          agent = k;
          past = Heard (Here (part.degree node) came (same.shown i node)) ∷ it.history k;
          place = At node came;
        })) same.shown refl (same.accused k) same.moves)

    writes : (expect put : List ℕ) → strategies k (it.history k) ≡ Says (Write expect put)
        → IsAlike (said_in world outer k (Write expect put)) (said_in inner it k (Write expect put))
    writes expect put says = at_alike command command says (λ room. refl) refl (λ yes. told)
      where
        command : Command
        command = Write expect put

        changes : shown_after world.board outer.shown (At node seen) (Write expect put)
            ≡ shown_after world.board it.shown (At node came) (Write expect put)
        changes i = changed (same.shown i) node (swapped world.board (same.shown i node) expect put)

        answers : (reply : Reply) → write_answer world.board (it.shown node) expect put ≡ reply
            → write_answer world.board (outer.shown node) expect put ≡ reply
        answers reply answer = (λ i. write_answer world.board (same.shown i node) expect put) ∙ answer

        by_answer : (reply : Reply) → write_answer world.board (it.shown node) expect put ≡ reply
            → followed part world.home strategies (strategy_at it k) (Heard reply)
            ≡ record { agent = k; past = Heard reply ∷ it.history k; place = At node came }
            → SameLink (accused_by (Some reply) (Write expect put) (At node seen) (outer.accused k))
            (accused_by (Some reply) (Write expect put) (At node came) (it.accused k))
            → moves_by (Some reply) outer.moves ≡ moves_by (Some reply) it.moves
            → IsAlike (told_at world outer k (At node seen) (Write expect put))
            (told_at inner it k (At node came) (Write expect put))
        by_answer reply answer strategy link moves = told_by outer it k (At node seen) (At node came) (Write expect put)
            (Write expect put) reply reply (At node seen) (At node came) same (answers reply answer) answer refl refl
            here_too strategy changes refl link moves

        told : IsAlike (told_at world outer k (At node seen) (Write expect put))
            (told_at inner it k (At node came) (Write expect put))
        told = by_cases (nat_le (length put) world.board) _
            (λ fits. by_cases (bytes_eq (it.shown node) expect) _
            (λ found. by_answer Written (cond-true _ _ _ fits ∙ cond-true _ _ _ found)
            (hears_at (Write expect put) says Written) (same.accused k) same.moves)
            (λ other. by_answer (Changed (it.shown node)) (cond-true _ _ _ fits ∙ cond-false _ _ _ other)
            (hears_at (Write expect put) says (Changed (it.shown node))) (same.accused k) same.moves))
            (λ long. by_answer (No whys.Long) (cond-false _ _ _ long) (refused_at (Write expect put) says whys.Long)
            (same.accused k) same.moves)

    -- A number is a port of the part exactly if its translation is a port of the network.
    has_port : (by : ℕ) → nat_lt by (part.degree node) ≡ true → nat_lt (port node by) (world.net.degree node) ≡ true
    has_port by has =
        lt-ltb (port node by) (world.net.degree node) (is.ports node by below (ltb-true by (part.degree node) has))

    no_port : (by : ℕ) → nat_lt by (part.degree node) ≡ false → nat_lt (port node by) (world.net.degree node) ≡ false
    no_port by none = le-ltb (port node by) (world.net.degree node) (is.beyond node by below (no_less by none))
      where
        no_less : (by : ℕ) → nat_lt by (part.degree node) ≡ false → part.degree node ≤ by
        no_less by none =
            let not_below : (by < part.degree node) → ⊥ =
            λ h. true≢false (sym (lt-ltb by (part.degree node) h) ∙ none) in
            omega (arith, not_below)

    departs : (by : ℕ) → strategies k (it.history k) ≡ Says (Depart by)
        → IsAlike (said_in world outer k (Depart (port node by))) (said_in inner it k (Depart by))
    departs by says = at_alike (Depart (port node by)) (Depart by) says (λ room. refl) refl
        (λ heard. by_cases (nat_lt by (part.degree node)) _
        (λ yes. told_by outer it k (At node seen) (At node came) (Depart (port node by)) (Depart by) Gone Gone
        (Bound node (port node by)) (Bound node by) same (cond-true _ _ _ (has_port by yes)) (cond-true _ _ _ yes)
        (cond-true _ _ _ (has_port by yes)) (cond-true _ _ _ yes)
        (below, ltb-true by (part.degree node) yes, refl)
        (hears_at (Depart by) says Gone
        ∙ ap (λ (p : Position). answered part (strategy_at it k) p Gone)
        (cond-true _ (Bound node by) (At node came) yes))
        same.shown refl (same.accused k) (ap (λ (m : ℕ). m + 1) same.moves))
        (λ none. told_by outer it k (At node seen) (At node came) (Depart (port node by)) (Depart by) (No whys.Port)
        (No whys.Port) (At node seen) (At node came) same (cond-false _ _ _ (no_port by none))
        (cond-false _ _ _ none) (cond-false _ _ _ (no_port by none)) (cond-false _ _ _ none) here_too
        (refused_at (Depart by) says whys.Port) same.shown refl (same.accused k) same.moves))

    accuses_one : (by : ℕ) → strategies k (it.history k) ≡ Says (Accuse by)
        → IsAlike (said_in world outer k (Accuse (port node by))) (said_in inner it k (Accuse by))
    accuses_one by says = at_alike (Accuse (port node by)) (Accuse by) says (λ room. refl) refl
        (λ heard. by_cases (nat_lt by (part.degree node)) _
        (λ yes. told_by outer it k (At node seen) (At node came) (Accuse (port node by)) (Accuse by) Noted Noted
        After After same (cond-true _ _ _ (has_port by yes)) (cond-true _ _ _ yes)
        (cond-true _ _ _ (has_port by yes)) (cond-true _ _ _ yes) refl
        (hears_at (Accuse by) says Noted
        ∙ ap (λ (p : Position). answered part (strategy_at it k) p Noted)
        (cond-true _ After (At node came) yes))
        same.shown refl (below, ltb-true by (part.degree node) yes, refl) same.moves)
        (λ none. told_by outer it k (At node seen) (At node came) (Accuse (port node by)) (Accuse by) (No whys.Port)
        (No whys.Port) (At node seen) (At node came) same (cond-false _ _ _ (no_port by none))
        (cond-false _ _ _ none) (cond-false _ _ _ (no_port by none)) (cond-false _ _ _ none) here_too
        (refused_at (Accuse by) says whys.Port) same.shown refl (same.accused k) same.moves))

    pub at_node : (command : Command) → strategies k (it.history k) ≡ Says command
        → IsAlike (said_in world outer k (command_of port (At node came) command)) (said_in inner it k command)
    at_node Look says = looks says
    at_node (Write expect put) says = writes expect put says
    at_node (Depart by) says = departs by says
    at_node (Accuse by) says = accuses_one by says
    at_node Enter says = at_alike Enter Enter says (λ room. refl) refl (λ yes. absurd (true≢false (sym yes)))
    at_node Leave says = at_alike Leave Leave says (λ room. refl) refl
        (λ yes. told_by outer it k (At node seen) (At node came) Leave Leave Bye Bye After After same refl refl refl
        refl refl (hears_at Leave says Bye) same.shown refl (same.accused k) same.moves)
    at_node Bad says = at_alike Bad Bad says (λ room. refl) refl
        (λ yes. told_by outer it k (At node seen) (At node came) Bad Bad (No whys.Line) (No whys.Line) (At node seen)
        (At node came) same refl refl refl refl here_too (refused_at Bad says whys.Line) same.shown refl
        (same.accused k) same.moves)

  -- ---- an arrival

  module _ (outer it : Configuration) (k : ℕ) (same : IsAlike outer it) (node by : ℕ) (below : node < part.nodes)
      (has : by < part.degree node) (on : outer.position k ≡ Bound node (port node by))
      (on_too : it.position k ≡ Bound node by) where
    pub doom_same : doomed world node (port node by) ≡ doomed inner node by
    doom_same = (λ i. is_hole world.holes (is.far node by below has i)
        || is_dark world.net.far (is.none_dark i) node (port node by))
        ∙ sym (λ i. is_hole world.holes (part.far node by).0 || is_dark part.far (is.none_dark i) node by)

    abbrev target : ℕ
    target = (part.far node by).0

    abbrev label : ℕ
    label = (part.far node by).1

    abbrev outer_label : ℕ
    outer_label = (world.net.far node (port node by)).1

    comes : followed part world.home strategies (strategy_at it k)
        (Heard (Here (world.net.degree target) (Some outer_label) (outer.shown target)))
        ≡ record {
          agent = k;
          past = Heard (Here (part.degree target) (Some label) (it.shown target)) ∷ it.history k;
          place = At target (Some label);
        }
    comes = (λ i. heard_at part world.home (strategy_at it k) (on_too i) (strategies k (it.history k))
        (Here (world.net.degree target) (Some outer_label) (outer.shown target)))
        ∙ (λ i. record {
          agent = k;
          past = Heard (Here (part.degree target) (Some label) (same.shown i target)) ∷ it.history k;
          place = At target (Some label);
        })

    lands : SamePlace (At target (Some outer_label)) (At target (Some label))
    lands = (is.within node by below has, Some outer_label, refl)

    arrived_alike : IsAlike (arrived_in world outer k target outer_label) (arrived_in inner it k target label)
    arrived_alike = record {
      place = changed_place outer it k _ _ same lands;
      strategy = changed_strategy outer it k _ _ _ same comes;
      woken = λ other.
          let alike = faces_same (outer.position other) (it.position other) _ _ outer.shown it.shown outer.shown
          it.shown (same.place other) (changed_place outer it k _ _ same lands other) same.shown same.shown in
          (λ i. if alike i then same.woken other i else 0);
      used = same.used;
      shown = same.shown;
      accused = same.accused;
      reached = λ i. changed (same.reached i) target true;
      moves = same.moves;
    }

    pub delivered_alike : IsAlike (delivered_in world outer k (Bound node (port node by)))
        (delivered_in inner it k (Bound node by))
    delivered_alike = by_cases (doomed inner node by) _
        (λ yes. subst (λ (p : Configuration). IsAlike p (delivered_in inner it k (Bound node by)))
        (sym (cond-true _ _ _ (doom_same ∙ yes)))
        (subst (λ (p : Configuration). IsAlike outer p) (sym (cond-true _ _ _ yes)) same))
        (λ none. subst (λ (p : Configuration). IsAlike p (delivered_in inner it k (Bound node by)))
        (sym (cond-false _ _ _ (doom_same ∙ none)))
        (subst (λ (p : Configuration). IsAlike
        (arrived_in world outer k (world.net.far node (port node by)).0 outer_label) p) (sym (cond-false _ _ _ none))
        (subst (λ (t : ℕ). IsAlike (arrived_in world outer k t outer_label) (arrived_in inner it k target label))
        (sym (is.far node by below has)) arrived_alike)))
