-- Moves of one agent's run: each move changes the number of its node, or of its link's target, by at most one.
use Rattle.std.proofs.Common.{ℕ, zero, suc, ◌+◌, ◌-◌, ◌*◌, ◌<◌, ◌≤◌, ◌≡◌, ◌⊎◌, Bool, true, false, List, refl, sym, ap}
use Rattle.std.proofs.Common.{◌∙◌, subst, if◌then◌else◌, inl, inr, nat_lt, Option, Some, arith}
use Rattle.std.proofs.lemmas.Bool.{true≢false, cond-true, cond-false, ltb-true}
use Rattle.bhs_model.specs.declared.commands.Command.{Command}
use Rattle.bhs_model.specs.declared.commands.Command.TheVariants.{Enter, Look, Write, Depart, Accuse, Leave, Bad}
use Rattle.bhs_model.specs.declared.events.Event.TheVariants.{Tell, Deliver, Close}
use Rattle.bhs_model.specs.declared.replies.Reply.TheVariants.{Gone, Noted, No}
use Rattle.bhs_model.specs.declared.replies.Why.TheVariants as whys
use Rattle.bhs_model.specs.Replying.{accepts}
use Rattle.bhs_model.specs.Standings.{standing_at}
use Rattle.bhs_model.specs.Worlds.{World}
use Rattle.bhs_model.specs.Draws.{Held}
use Rattle.bhs_model.specs.Runs.{Position, Before, At, Bound, After, position_after}
use Rattle.bhs_model.proofs.StepLemmas.{by_cases, changed_same}
use Rattle.bhs_referee.specs.Findings.{moves_by}
use Rattle.bhs_schedules.specs.Strategies.{Strategies}
use Rattle.bhs_schedules.specs.Schedules.{Trial, Action, Makes, Wakes, Rests}
use Rattle.bhs_schedules.proofs.Turns.{IsOwn}
use Rattle.bhs_protocols.specs.Configurations.{Configuration, deed_in, answer_at, is_heard, told_at, refused_in}
use Rattle.bhs_protocols.specs.Configurations.{said_in, done_in, delivered_in, turn_in}
use Rattle.bhs_protocols.proofs.LastWordLemmas.{own_in}
use Rattle.bhs_protocols_bounds.proofs.Holeless.{free, IsReachable}
use Rattle.bhs_protocols_bounds.proofs.Places.{IsOnLinkTo, runs, runs_more, reachable_runs}
use Rattle.bhs_protocols_bounds.proofs.Lines.{Line, AreNext, IsLine, IsShort, number_of, Goes, GoesBelow}
use Rattle.bhs_protocols_bounds.proofs.MoveCounts.{moves_write}
use Rattle.bhs_protocols_bounds.proofs.Placing.{IsNet, IsPlacedAt, ArePlaced, turn_placed, reachable_placed}

-- the change of a number is paid for by moves
pub record IsPaid (old new before after : ℕ) : Type 0 where
  pub more : before ≤ after
  pub up : new + before ≤ old + after
  pub down : old + before ≤ new + after

-- The agent stands at a node or travels on a link.
abbrev pub IsInside : Position → Type 0
IsInside Before = ⊥
IsInside (At node came) = Unit {0}
IsInside (Bound node port) = Unit {0}
IsInside After = ⊥

module _ (world : World) (n : ℕ) (line : Line) (is : IsLine world.net n line) (last : ℕ) (short_of : last + 2 ≤ n)
  where
    pub record IsStep (old new : Position) (before after : ℕ) : Type 0 where
      pub inside : IsInside new
      pub paid : IsPaid (number_of world line old) (number_of world line new) before after

    still : (old : Position) (moves : ℕ) → IsInside old → IsStep old old moves moves
    still old moves inside = record {
      inside = inside;
      paid = record { more = omega arith; up = omega arith; down = omega arith };
    }

    departs : (reached : ℕ → Bool) (node port : ℕ) (came : Option ℕ) (moves : ℕ)
        → IsPlacedAt world reached (At node came)
        → (b : Bool) → nat_lt port (world.net.degree node) ≡ b → line.number node < last
        → IsShort world line last (if b then Bound node port else At node came)
        → IsStep (At node came) (if b then Bound node port else At node came) moves
        (moves_by (Some (if b then Gone else No whys.Port)) moves)
    departs reached node port came moves placed false h low short = still (At node came) moves tt
    departs reached node port came moves placed true h low short =
        let here : ℕ = line.number node in
        let there : ℕ = line.number (world.net.far node port).0 in
        let below : node < n = subst (λ (k : ℕ). node < k) is.size placed.0 in
        let next : AreNext n here there = is.next node port below (ltb-true port (world.net.degree node) h) in
        record { inside = tt; paid = by_side here there low short.1 next.either }
      where
        by_side : (here there : ℕ) → here < last → there ≤ last →
            (here ≡ there + 1) ⊎ (there ≡ here + 1) ⊎ ((here ≡ 0) × (there + 1 ≡ n)) ⊎ ((there ≡ 0) × (here + 1 ≡ n))
            → IsPaid here there moves (moves + 1)
        by_side here there low high either = elim either [
          | inl h ↦ record { more = omega arith; up = omega (arith, h); down = omega (arith, h) }
          | inr rest ↦ elim rest [
            | inl h ↦ record { more = omega arith; up = omega (arith, h); down = omega (arith, h) }
            | inr others ↦ elim others [
              | inl h ↦ absurd (let e : there + 1 ≡ n = h.1 in omega (arith, e, high, short_of))
              | inr h ↦ absurd (let e : here + 1 ≡ n = h.1 in omega (arith, e, low, short_of))
            ]
          ]
        ]

    accuses : (node : ℕ) (came : Option ℕ) (port moves : ℕ) (b : Bool)
        → IsShort world line last (if b then After else At node came)
        → IsStep (At node came) (if b then After else At node came) moves
        (moves_by (Some (if b then Noted else No whys.Port)) moves)
    accuses node came port moves true short = absurd short
    accuses node came port moves false short = still (At node came) moves tt

    told_step : (reached : ℕ → Bool) (shown : ℕ
        → List ℕ) (room : Bool) (moves : ℕ) (place : Position) (command : Command)
        → accepts (standing_at place) room command ≡ true → IsInside place → IsPlacedAt world reached place
        → IsShort world line last place → IsShort world line last (position_after world place command)
        → IsStep place (position_after world place command) moves
        (moves_by (Some (answer_at world shown place command)) moves)
    told_step reached shown room moves Before command heard inside placed low short = absurd inside
    told_step reached shown room moves After command heard inside placed low short = absurd inside
    told_step reached shown room moves (At node came) Enter heard inside placed low short =
        absurd (true≢false (sym heard))
    told_step reached shown room moves (At node came) Leave heard inside placed low short = absurd short
    told_step reached shown room moves (At node came) (Depart port) heard inside placed low short =
        departs reached node port came moves placed (nat_lt port (world.net.degree node)) refl low short
    told_step reached shown room moves (At node came) (Accuse port) heard inside placed low short =
        accuses node came port moves (nat_lt port (world.net.degree node)) short
    told_step reached shown room moves (At node came) (Write expect put) heard inside placed low short =
        subst (IsStep (At node came) (At node came) moves) (sym (moves_write (shown node) moves _ _))
        (still (At node came) moves tt)
    told_step reached shown room moves (At node came) Look heard inside placed low short = still (At node came) moves tt
    told_step reached shown room moves (At node came) Bad heard inside placed low short = still (At node came) moves tt
    told_step reached shown room moves (Bound node port) Enter heard inside placed low short =
        absurd (true≢false (sym heard))
    told_step reached shown room moves (Bound node port) Leave heard inside placed low short = absurd short
    told_step reached shown room moves (Bound node port) command heard inside placed low short =
        still (Bound node port) moves tt

    -- what a configuration that follows has to show of an agent
    abbrev Follows : (agent : ℕ) (old : Position) (before : ℕ) → Configuration → Type 0
    Follows agent old before new =
        IsShort world line last (new.position agent) → IsStep old (new.position agent) before new.moves

    said_step : (configuration : Configuration) (agent : ℕ) (command : Command)
        → IsInside (configuration.position agent)
        → ArePlaced world configuration → IsShort world line last (configuration.position agent)
        → Follows agent (configuration.position agent) configuration.moves (said_in world configuration agent command)
    said_step configuration agent command inside placed low =
        let place : Position = configuration.position agent in
        let next : Position = position_after world place command in
        let moves : ℕ = moves_by (Some (answer_at world configuration.shown place command)) configuration.moves in
        by_cases (is_heard world configuration agent command)
        (Follows agent place configuration.moves (said_in world configuration agent command))
        (λ yes. subst (Follows agent place configuration.moves) (sym (cond-true _
        (told_at world configuration agent place command)
        (refused_in configuration agent command) yes))
        (subst (λ (q : Position). IsShort world line last q → IsStep place q configuration.moves moves)
        (sym (changed_same configuration.position agent next))
        (told_step configuration.reached configuration.shown (nat_lt
        (configuration.used agent) world.quota) configuration.moves place command yes
        inside (placed.each agent) low)))
        (λ deaf. subst (Follows agent place configuration.moves) (sym (cond-false _
        (told_at world configuration agent place command)
        (refused_in configuration agent command) deaf)) (λ short. still place configuration.moves inside))

    module _ (held : Held) (wakeups : ℕ) (strategies : Strategies) (net : IsNet world) where
      abbrev empty : Trial
      empty = free world held wakeups strategies

      abbrev after : Configuration → (agent count : ℕ) → Configuration
      after configuration agent count = runs world held wakeups strategies configuration agent count

      done_step : (configuration : Configuration) (agent : ℕ) (it : Action) → IsOwn agent it
          → IsInside (configuration.position agent)
          → ArePlaced world configuration → IsShort world line last (configuration.position agent)
          → Follows agent (configuration.position agent) configuration.moves (done_in empty configuration agent it)
      done_step configuration agent (Makes (Tell other command)) own inside placed low =
          subst (λ (j : ℕ). Follows agent (configuration.position agent) configuration.moves
          (said_in world configuration j command))
          (sym own) (said_step configuration agent command inside placed low)
      done_step configuration agent (Makes (Deliver other)) own inside placed low =
          subst (λ (j : ℕ). Follows agent (configuration.position agent) configuration.moves
          (delivered_in empty.world configuration j (configuration.position j))) (sym own)
          (by_place (configuration.position agent) refl)
        where
          by_place : (position : Position) → configuration.position agent ≡ position →
              Follows agent (configuration.position agent) configuration.moves
              (delivered_in empty.world configuration agent position)
          by_place (Bound start port) at =
              let target : ℕ = (world.net.far start port).0 in
              let arrives : Position = At target (Some (world.net.far start port).1) in
              subst (λ (q : Position). IsShort world line last q
              → IsStep (configuration.position agent) q configuration.moves
              configuration.moves) (sym (changed_same configuration.position agent arrives))
              (subst (λ (q : Position). IsShort world line last arrives
              → IsStep q arrives configuration.moves configuration.moves)
              (sym at) (λ short. record {
                inside = tt;
                paid = record { more = omega arith; up = omega arith; down = omega arith };
              }))
          by_place Before at = λ short. still (configuration.position agent) configuration.moves inside
          by_place (At place came) at = λ short. still (configuration.position agent) configuration.moves inside
          by_place After at = λ short. still (configuration.position agent) configuration.moves inside
      done_step configuration agent (Makes Close) own inside placed low = absurd own
      done_step configuration agent Wakes own inside placed low =
          λ short. still (configuration.position agent) configuration.moves inside
      done_step configuration agent Rests own inside placed low =
          λ short. still (configuration.position agent) configuration.moves inside

      turn_step : (configuration : Configuration) (agent : ℕ) → IsInside (configuration.position agent)
          → ArePlaced world configuration
          → IsShort world line last (configuration.position agent)
          → Follows agent (configuration.position agent) configuration.moves (turn_in empty configuration agent)
      turn_step configuration agent inside placed low =
          done_step configuration agent (deed_in empty configuration agent)
          (own_in empty configuration agent) inside placed low

      -- a run that stays short
      pub run_step : (count : ℕ) (configuration : Configuration) (agent : ℕ) → IsInside (configuration.position agent)
          → ArePlaced world configuration
          → ((i : ℕ) → i ≤ count → IsShort world line last ((after configuration agent i).position agent))
          → IsStep (configuration.position agent) ((after configuration agent count).position agent) configuration.moves
          (after configuration agent count).moves
      run_step zero configuration agent inside placed short =
          still (configuration.position agent) configuration.moves inside
      run_step (suc count) configuration agent inside placed short =
          let next : Configuration = turn_in empty configuration agent in
          let first : IsStep (configuration.position agent) (next.position agent) configuration.moves next.moves =
          turn_step configuration agent inside placed (short 0 (omega arith)) (short 1 (omega arith)) in
          let rest : IsStep (next.position agent) ((after next agent count).position agent) next.moves
          (after next agent count).moves =
          run_step count next agent first.inside
          (turn_placed world held wakeups strategies net configuration agent placed)
          (λ i least. short (suc i) (omega (arith, least))) in
          record { inside = rest.inside; paid = both _ _ _ _ _ _ first.paid rest.paid }
        where
          both : (a b c p q r : ℕ) → IsPaid a b p q → IsPaid b c q r → IsPaid a c p r
          both a b c p q r one other = record {
            more = let x = one.more in let y = other.more in omega (arith, x, y);
            up = let x = one.up in let y = other.up in omega (arith, x, y);
            down = let x = one.down in let y = other.down in omega (arith, x, y);
          }

      -- ---- the cost of going on from one number to another

      number_to : (configuration : Configuration) (agent k : ℕ) → k < n
          → IsOnLinkTo world configuration agent (line.at k)
          → number_of world line (configuration.position agent) ≡ k
      number_to configuration agent k below it =
          ap (number_of world line) it.on ∙ ap line.number it.to ∙ is.there k below

      inside_on : (configuration : Configuration) (agent node : ℕ) → IsOnLinkTo world configuration agent node
          → IsInside (configuration.position agent)
      inside_on configuration agent node it = subst IsInside (sym it.on) tt

      pub cost : (configuration : Configuration) (agent front count : ℕ)
          → IsReachable world held wakeups strategies configuration → front < n
          → IsOnLinkTo world configuration agent (line.at front)
          → Goes world held wakeups strategies n configuration line agent last count
          → configuration.moves + last ≤ (after configuration agent count).moves + front
      cost configuration agent front count reachable below here goes =
          let last_configuration : Configuration = after configuration agent count in
          let step : IsStep (configuration.position agent)
          (last_configuration.position agent) configuration.moves last_configuration.moves =
          run_step count configuration agent (inside_on configuration agent (line.at front) here)
          (reachable_placed world held wakeups strategies net configuration reachable) goes.short in
          let from : number_of world line (configuration.position agent)
          ≡ front = number_to configuration agent front below here in
          let to : number_of world line (last_configuration.position agent) ≡ last =
          ap (number_of world line) goes.on.on ∙ ap line.number goes.on.to ∙ is.there last (omega (arith, short_of)) in
          let up = step.paid.up in
          omega (arith, up, from, to)

      pub cost_below : (configuration : Configuration) (agent front count bound : ℕ)
          → IsReachable world held wakeups strategies configuration
          → front < n → IsOnLinkTo world configuration agent (line.at front)
          → Goes world held wakeups strategies n configuration line agent last count
          → GoesBelow world held wakeups strategies configuration line agent count bound
          → configuration.moves + front + last + 2 ≤ (after configuration agent count).moves + 2 * bound
      cost_below configuration agent front count bound reachable below here goes low =
          let middle : Configuration = after configuration agent low.turn in
          let last_configuration : Configuration = after configuration agent count in
          let left : ℕ = count - low.turn in
          let sum : low.turn + left ≡ count = let within = low.within in omega (arith, within) in
          let from : number_of world line (configuration.position agent)
          ≡ front = number_to configuration agent front below here in
          let first : IsStep (configuration.position agent) (middle.position agent) configuration.moves middle.moves =
          run_step low.turn configuration agent (inside_on configuration agent (line.at front) here)
          (reachable_placed world held wakeups strategies net configuration reachable)
          (λ i least. goes.short i (let within = low.within in omega (arith, least, within))) in
          let second : IsStep (middle.position agent) ((after middle agent left).position agent) middle.moves
          (after middle agent left).moves =
          run_step left middle agent first.inside
          (reachable_placed world held wakeups strategies net middle
          (reachable_runs world held wakeups strategies configuration agent low.turn reachable))
          (λ i least. subst (λ (p : Configuration). IsShort world line last (p.position agent))
          (runs_more world held wakeups strategies configuration agent low.turn i)
          (goes.short (low.turn + i) (omega (arith, least, sum)))) in
          let ends : after middle agent left ≡ last_configuration =
          sym (runs_more world held wakeups strategies configuration agent low.turn left)
          ∙ ap (after configuration agent) sum in
          let to : number_of world line (last_configuration.position agent) ≡ last =
          ap (number_of world line) goes.on.on ∙ ap line.number goes.on.to ∙ is.there last (omega (arith, short_of)) in
          let stands : number_of world line (middle.position agent) ≡ line.number low.node =
          ap (number_of world line) low.stands in
          let down : number_of world line (configuration.position agent) + configuration.moves
          ≤ number_of world line (middle.position agent) + middle.moves = first.paid.down in
          let up : number_of world line (last_configuration.position agent) + middle.moves
          ≤ number_of world line (middle.position agent) + last_configuration.moves =
          subst (λ (p : Configuration). number_of world line (p.position agent) + middle.moves
          ≤ number_of world line (middle.position agent) + p.moves) ends second.paid.up in
          let less : line.number low.node < bound = low.low in
          omega (arith, down, up, from, to, stands, less)
