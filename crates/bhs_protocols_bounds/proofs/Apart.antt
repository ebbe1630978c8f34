-- Indistinguishability: an agent acts alike in two configurations while it stands in a zone where they agree. Hence two
-- agents at different nodes can act one after the other exactly as each of them acts alone.
use Rattle.std.proofs.Common.{ℕ, zero, suc, ◌+◌, ◌≤◌, ◌≡◌, Bool, true, false, Some, List, ◌∷◌, refl, sym, ap, ◌∙◌, ◌==◌}
use Rattle.std.proofs.Common.{subst, if◌then◌else◌, nat_lt, inl, inr, arith}
use Rattle.std.specs.Prelude.{◌≢◌}
use Rattle.std.proofs.lemmas.Bool.{true≢false, cond-true, cond-false, ne_eqb}
use Rattle.std.proofs.lemmas.Bool.Decides.{eqb_tells}
use Rattle.bhs_model.specs.declared.commands.Command.{Command}
use Rattle.bhs_model.specs.declared.commands.Command.TheVariants.{Enter, Look, Write, Depart, Accuse, Leave, Bad}
use Rattle.bhs_model.specs.declared.events.Event.TheVariants.{Tell, Deliver, Close}
use Rattle.bhs_model.specs.declared.replies.Reply.TheVariants.{Here, No}
use Rattle.bhs_model.specs.Views.{counts}
use Rattle.bhs_model.specs.Replying.{accepts, refusal, swapped, write_answer}
use Rattle.bhs_model.specs.Standings.{standing_at}
use Rattle.bhs_model.specs.Worlds.{World}
use Rattle.bhs_model.specs.Draws.{Held}
use Rattle.bhs_model.specs.Runs.{Position, Before, At, Bound, After, changed, position_after}
use Rattle.bhs_model.proofs.StepLemmas.{by_cases, changed_same, changed_other}
use Rattle.bhs_schedules.specs.Strategies.{Strategies, Heard, Woke}
use Rattle.bhs_schedules.specs.Schedules.{Trial, Action, Makes, Wakes, Rests, action_at, faced, is_same_sight}
use Rattle.bhs_schedules.proofs.Turns.{IsOwn}
use Rattle.bhs_protocols.specs.Configurations.{Configuration, deed_in, done_in, turn_in, is_heard, told_at, refused_in}
use Rattle.bhs_protocols.specs.Configurations.{said_in, delivered_in, arrived_in, answer_at, shown_after, shown_in}
use Rattle.bhs_protocols.specs.Configurations.{faces_alike}
use Rattle.bhs_protocols.proofs.LastWordLemmas.{own_in}
use Rattle.bhs_protocols_bounds.proofs.Holeless.{free, never_before}
use Rattle.bhs_protocols_bounds.proofs.Places.{IsOnLinkTo, runs, runs_are, often}
use Rattle.bhs_protocols_bounds.proofs.Elsewhere.{LooksAlike, ShowAlike, IsIn, HasEntered, StandsIn, is_in, is_out}
use Rattle.bhs_protocols_bounds.proofs.Elsewhere.{changed_alike}
use Rattle.bhs_protocols_bounds.proofs.Elsewhere.{after_entered, run_elsewhere}

module _ (world : World) (held : Held) (wakeups : ℕ) (strategies : Strategies) (zone : ℕ → Bool) where
  abbrev empty : Trial
  empty = free world held wakeups strategies

  abbrev after : Configuration → (agent count : ℕ) → Configuration
  after configuration agent count = runs world held wakeups strategies configuration agent count

  -- ---- the agent that stands in the zone, in two configurations that it can't tell apart

  answers_alike : (place : Position) (room : Bool) (command : Command) (old new : ℕ → List ℕ) → IsIn zone place
      → accepts (standing_at place) room command ≡ true → ShowAlike zone old new
      → answer_at world new place command ≡ answer_at world old place command
  answers_alike Before room command old new inside heard same = absurd inside
  answers_alike After room command old new inside heard same = absurd (true≢false (sym heard))
  answers_alike (At node came) room Enter old new inside heard same = absurd (true≢false (sym heard))
  answers_alike (At node came) room Look old new inside heard same =
      ap (λ (shown : List ℕ). Here (world.net.degree node) came shown) (same node inside)
  answers_alike (At node came) room (Write expect put) old new inside heard same =
      ap (λ (shown : List ℕ). write_answer world.board shown expect put) (same node inside)
  answers_alike (At node came) room (Depart port) old new inside heard same = refl
  answers_alike (At node came) room (Accuse port) old new inside heard same = refl
  answers_alike (At node came) room Leave old new inside heard same = refl
  answers_alike (At node came) room Bad old new inside heard same = refl
  answers_alike (Bound node port) room Enter old new inside heard same = absurd (true≢false (sym heard))
  answers_alike (Bound node port) room command old new inside heard same = refl

  faced_alike : (place : Position) (old new : ℕ → List ℕ) → IsIn zone place → ShowAlike zone old new
      → shown_in new (faced world place) ≡ shown_in old (faced world place)
  faced_alike Before old new inside same = absurd inside
  faced_alike (At node came) old new inside same = same node inside
  faced_alike (Bound node port) old new inside same = refl
  faced_alike After old new inside same = refl

  shows_alike : (limit : ℕ) (place : Position) (command : Command) (old new : ℕ → List ℕ) → IsIn zone place
      → ShowAlike zone old new
      → ShowAlike zone (shown_after limit old place command) (shown_after limit new place command)
  shows_alike limit (At node came) (Write expect put) old new inside same v there =
      let put_old : List ℕ = swapped limit (old node) expect put in
      let put_new : List ℕ = swapped limit (new node) expect put in
      let put_same : put_new ≡ put_old =
      ap (λ (shown : List ℕ). swapped limit shown expect put) (same node inside) in
      elim (eqb_tells v node) [
        | inl h ↦ ap (changed new node put_new) h.1 ∙ changed_alike new old node put_new put_old put_same
            ∙ ap (changed old node put_old) (sym h.1)
        | inr h ↦ changed_other new node v put_new h.0 ∙ same v there ∙ sym (changed_other old node v put_old h.0)
      ]
  shows_alike limit place command old new inside same v there = same v there

  -- the results of a turn in both configurations
  record StayAlike (agent : ℕ) (new old_next new_next : Configuration) : Type 0 where
    alike : LooksAlike zone agent old_next new_next
    entered : HasEntered (old_next.position agent)
    never : (node : ℕ) → new.reached node ≡ false → old_next.reached node ≡ false → new_next.reached node ≡ false

  module _ (agent : ℕ) where
    woken_alike : (old new : Configuration) (place now : Position) (old_showing new_showing : ℕ → List ℕ)
        → LooksAlike zone agent old new → old.position agent ≡ place → IsIn zone place → IsIn zone now
        → ShowAlike zone old_showing new_showing →
        (if faces_alike world (new.position agent) new.shown (changed new.position agent now agent) new_showing
        then new.woken agent else 0)
        ≡ (if faces_alike world (old.position agent) old.shown (changed old.position agent now agent) old_showing
        then old.woken agent else 0)
    woken_alike old new place now old_showing new_showing alike at inside inside_too same =
        (λ i. if faces_alike world ((alike.position ∙ at) i) new.shown (changed_same new.position agent now i)
        new_showing then new.woken agent else 0)
        ∙ (λ i. if is_same_sight (faced world place) (faced_alike place old.shown new.shown inside alike.shown i)
        (faced world now) (faced_alike now old_showing new_showing inside_too same i)
        then alike.woken i else 0)
        ∙ sym (λ i. if faces_alike world (at i) old.shown (changed_same old.position agent now i)
        old_showing then old.woken agent else 0)

    told_alike : (old new : Configuration) (command : Command) (place : Position) → LooksAlike zone agent old new
        → old.position agent ≡ place → IsIn zone place → HasEntered place
        → accepts (standing_at place) (nat_lt (old.used agent) world.quota) command ≡ true
        → StandsIn zone true (position_after world place command)
        → StayAlike agent new (told_at world old agent place command) (told_at world new agent place command)
    told_alike old new command place alike at inside entered heard stands =
        let now : Position = position_after world place command in
        let entered_too : HasEntered now = after_entered world place command entered in
        let inside_too : IsIn zone now = is_in zone now entered_too stands in
        let answer : answer_at world new.shown place command ≡ answer_at world old.shown place command =
        answers_alike place (nat_lt (old.used agent) world.quota) command old.shown new.shown inside heard alike.shown
        in
        let showing : ShowAlike zone (shown_after world.board old.shown place command)
        (shown_after world.board new.shown place command) =
        shows_alike world.board place command old.shown new.shown inside alike.shown in
        record {
          alike = record {
            position = changed_alike new.position old.position agent now now refl;
            history = changed_alike new.history old.history agent _ _
                (λ i. Heard (answer i) ∷ alike.history i);
            woken = woken_alike old new place now (shown_after world.board old.shown place command)
                (shown_after world.board new.shown place command) alike at inside inside_too showing;
            used = changed_alike new.used old.used agent _ _
                (λ i. if counts command then alike.used i + 1 else alike.used i);
            shown = showing;
          };
          entered = subst HasEntered (sym (changed_same old.position agent now)) entered_too;
          never = λ node never was. never;
        }

    refused_alike : (old new : Configuration) (command : Command) → LooksAlike zone agent old new
        → HasEntered (old.position agent)
        → StayAlike agent new (refused_in old agent command) (refused_in new agent command)
    refused_alike old new command alike entered = record {
      alike = record {
        position = alike.position;
        history = changed_alike new.history old.history agent _ _
            (λ i. Heard (No (refusal (standing_at (alike.position i)) command)) ∷ alike.history i);
        woken = alike.woken;
        used = alike.used;
        shown = alike.shown;
      };
      entered = entered;
      never = λ node never was. never;
    }

    said_alike : (old new : Configuration) (command : Command) → LooksAlike zone agent old new
        → IsIn zone (old.position agent) → HasEntered (old.position agent)
        → StandsIn zone true ((said_in world old agent command).position agent)
        → StayAlike agent new (said_in world old agent command) (said_in world new agent command)
    said_alike old new command alike inside entered stands =
        let place : Position = old.position agent in
        let now : Position = position_after world place command in
        let told : Configuration = told_at world old agent place command in
        let told_too : Configuration = told_at world new agent place command in
        let refused : Configuration = refused_in old agent command in
        let refused_too : Configuration = refused_in new agent command in
        let heard_alike : is_heard world new agent command ≡ is_heard world old agent command =
        (λ i. accepts (standing_at (alike.position i)) (nat_lt (alike.used i) world.quota) command) in
        by_cases (is_heard world old agent command)
        (StayAlike agent new (said_in world old agent command) (said_in world new agent command))
        (λ yes.
        let here : said_in world old agent command ≡ told = cond-true _ told refused yes in
        let there : said_in world new agent command ≡ told_too =
        cond-true _ (told_at world new agent (new.position agent) command) refused_too (heard_alike ∙ yes)
        ∙ ap (λ (position : Position). told_at world new agent position command) alike.position in
        let stands_too : StandsIn zone true now =
        subst (StandsIn zone true) (ap (λ (p : Configuration). p.position agent) here
        ∙ changed_same old.position agent now) stands in
        subst (λ (p : Configuration). StayAlike agent new p (said_in world new agent command)) (sym here)
        (subst (StayAlike agent new told) (sym there)
        (told_alike old new command place alike refl inside entered yes stands_too)))
        (λ deaf.
        let here : said_in world old agent command ≡ refused = cond-false _ told refused deaf in
        let there : said_in world new agent command ≡ refused_too =
        cond-false _ (told_at world new agent (new.position agent) command) refused_too (heard_alike ∙ deaf) in
        subst (λ (p : Configuration). StayAlike agent new p (said_in world new agent command)) (sym here)
        (subst (StayAlike agent new refused) (sym there) (refused_alike old new command alike entered)))

    arrived_alike : (old new : Configuration) (start port : ℕ) → LooksAlike zone agent old new
        → old.position agent ≡ Bound start port → zone (world.net.far start port).0 ≡ true →
        StayAlike agent new (arrived_in world old agent (world.net.far start port).0 (world.net.far start port).1)
        (arrived_in world new agent (world.net.far start port).0 (world.net.far start port).1)
    arrived_alike old new start port alike at inside =
        let target : ℕ = (world.net.far start port).0 in
        let label : ℕ = (world.net.far start port).1 in
        let now : Position = At target (Some label) in
        record {
          alike = record {
            position = changed_alike new.position old.position agent now now refl;
            history = changed_alike new.history old.history agent _ _
                (λ i. Heard (Here (world.net.degree target) (Some label) (alike.shown target inside i))
                ∷ alike.history i);
            woken = woken_alike old new (Bound start port) now old.shown new.shown alike at tt inside alike.shown;
            used = alike.used;
            shown = alike.shown;
          };
          entered = subst HasEntered (sym (changed_same old.position agent now)) tt;
          never = λ node never was. elim (eqb_tells node target) [
            | inl h ↦ absurd (true≢false (sym (ap (changed old.reached target true) h.1
                ∙ changed_same old.reached target true) ∙ was))
            | inr h ↦ changed_other new.reached target node true h.0 ∙ never
          ];
        }

    nothing : (old new : Configuration) → LooksAlike zone agent old new → HasEntered (old.position agent)
        → StayAlike agent new old new
    nothing old new alike entered =
        record { alike = alike; entered = entered; never = λ node never was. never }

    delivered_alike : (old new : Configuration) (position : Position) → LooksAlike zone agent old new
        → old.position agent ≡ position → HasEntered (old.position agent)
        → StandsIn zone true ((delivered_in empty.world old agent position).position agent) →
        StayAlike agent new (delivered_in empty.world old agent position)
        (delivered_in empty.world new agent position)
    delivered_alike old new (Bound start port) alike at entered stands =
        arrived_alike old new start port alike at
        (stands (world.net.far start port).0 (Some (world.net.far start port).1)
        (changed_same old.position agent (At (world.net.far start port).0 (Some (world.net.far start port).1))))
    delivered_alike old new Before alike at entered stands = nothing old new alike entered
    delivered_alike old new (At place came) alike at entered stands = nothing old new alike entered
    delivered_alike old new After alike at entered stands = nothing old new alike entered

    done_alike : (old new : Configuration) (it : Action) → IsOwn agent it → LooksAlike zone agent old new
        → IsIn zone (old.position agent) → HasEntered (old.position agent)
        → StandsIn zone true ((done_in empty old agent it).position agent)
        → StayAlike agent new (done_in empty old agent it) (done_in empty new agent it)
    done_alike old new (Makes (Tell k command)) own alike inside entered stands =
        subst (λ (j : ℕ). StandsIn zone true ((said_in world old j command).position agent)
        → StayAlike agent new (said_in world old j command) (said_in world new j command)) (sym own)
        (said_alike old new command alike inside entered) stands
    done_alike old new (Makes (Deliver k)) own alike inside entered stands =
        subst (λ (j : ℕ). StandsIn zone true
        ((delivered_in empty.world old j (old.position j)).position agent)
        → StayAlike agent new (delivered_in empty.world old j (old.position j))
        (delivered_in empty.world new j (new.position j))) (sym own)
        (λ there. subst (λ (position : Position). StayAlike agent new
        (delivered_in empty.world old agent (old.position agent)) (delivered_in empty.world new agent position))
        (sym alike.position)
        (delivered_alike old new (old.position agent) alike refl entered there)) stands
    done_alike old new (Makes Close) own alike inside entered stands = absurd own
    done_alike old new Wakes own alike inside entered stands = record {
      alike = record {
        position = alike.position;
        history = changed_alike new.history old.history agent _ _ (λ i. Woke ∷ alike.history i);
        woken = changed_alike new.woken old.woken agent _ _ (λ i. alike.woken i + 1);
        used = alike.used;
        shown = alike.shown;
      };
      entered = entered;
      never = λ node never was. never;
    }
    done_alike old new Rests own alike inside entered stands = nothing old new alike entered

    turn_alike : (old new : Configuration) → LooksAlike zone agent old new
        → HasEntered (old.position agent) → StandsIn zone true (old.position agent)
        → StandsIn zone true ((turn_in empty old agent).position agent)
        → StayAlike agent new (turn_in empty old agent) (turn_in empty new agent)
    turn_alike old new alike entered stands stands_too =
        let same : deed_in empty new agent ≡ deed_in empty old agent =
        (λ i. if nat_lt agent world.agents
        then action_at held wakeups (alike.position i) (alike.woken i) (strategies agent (alike.history i)) agent
        else Rests) in
        subst (λ (it : Action). StayAlike agent new (turn_in empty old agent) (done_in empty new agent it)) (sym same)
        (done_alike old new (deed_in empty old agent) (own_in empty old agent) alike
        (is_in zone (old.position agent) entered stands) entered stands_too)

    -- The agent acts alike in both configurations, and reaches the same nodes.
    record GoAlike (old new : Configuration) (count : ℕ) : Type 0 where
      position : (after new agent count).position agent ≡ (after old agent count).position agent
      never : (node : ℕ) → new.reached node ≡ false → (after old agent count).reached node ≡ false
          → (after new agent count).reached node ≡ false

    run_alike : (count : ℕ) (old new : Configuration) → LooksAlike zone agent old new
        → HasEntered (old.position agent)
        → ((i : ℕ) → i ≤ count → StandsIn zone true ((after old agent i).position agent)) → GoAlike old new count
    run_alike zero old new alike entered stands =
        record { position = alike.position; never = λ node never was. never }
    run_alike (suc count) old new alike entered stands =
        let next : Configuration = turn_in empty old agent in
        let next_too : Configuration = turn_in empty new agent in
        let first : StayAlike agent new next next_too =
        turn_alike old new alike entered (stands 0 (omega arith)) (stands 1 (omega arith)) in
        let rest : GoAlike next next_too count =
        run_alike count next next_too first.alike first.entered
        (λ i least. stands (suc i) (omega (arith, least))) in
        record {
          position = rest.position;
          never = λ node never was. rest.never node (first.never node never (before next count node was)) was;
        }
      where
        before : (configuration : Configuration) (count node : ℕ)
            → (after configuration agent count).reached node ≡ false → configuration.reached node ≡ false
        before configuration count node never =
            never_before world held wakeups strategies configuration (often world held wakeups strategies agent count)
            node (ap (λ (p : Configuration). p.reached node)
            (runs_are world held wakeups strategies configuration agent count) ∙ never)

  -- ---- both, one after the other

  pub record IsApart (configuration : Configuration) (one other count count_too : ℕ) : Type 0 where
    pub position : (after (after configuration one count) other count_too).position other
        ≡ (after configuration other count_too).position other
    pub new : (node : ℕ) → (after configuration one count).reached node ≡ false
        → (after configuration other count_too).reached node ≡ false
        → (after (after configuration one count) other count_too).reached node ≡ false

  pub stay_apart : (configuration : Configuration) (one other count count_too there : ℕ) → one ≢ other
      → IsOnLinkTo world configuration other there
      → ((i : ℕ) → i ≤ count → StandsIn zone false ((after configuration one i).position one))
      → ((i : ℕ) → i ≤ count_too → StandsIn zone true ((after configuration other i).position other))
      → IsApart configuration one other count count_too
  stay_apart configuration one other count count_too there different on out inside =
      let apart : (other == one) ≡ false = ne_eqb other one (λ same. different (sym same)) in
      let alike : LooksAlike zone other configuration (after configuration one count) =
      run_elsewhere world held wakeups strategies zone one other apart count configuration on.start on.port on.on
      (λ i least. is_out zone ((after configuration one i).position one) (out i least)) in
      let it : GoAlike other configuration (after configuration one count) count_too =
      run_alike other count_too configuration (after configuration one count) alike
      (subst HasEntered (sym on.on) tt) inside in
      record { position = it.position; new = it.never }
