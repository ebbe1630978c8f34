-- An agent's own count of wake-ups in a row is at least the count of the schedule: an invariant of all schedules.
use Rattle.std.proofs.Common.{ℕ, ◌+◌, ◌≤◌, ◌≡◌, ◌∙◌, ◌⊎◌, ◌==◌, ◌&&◌, Bool, true, false, not, Option, Some, None}
use Rattle.std.proofs.Common.{List, [], ◌∷◌, ◌++◌, length, refl, sym, ap, subst, inl, inr, arith, if◌then◌else◌}
use Rattle.std.proofs.Common.{nat_lt, nat_le, bytes_eq}
use Rattle.std.proofs.lemmas.Bool.{true≢false, false≢true, cond-true, cond-false, cond_both, and_parts}
use Rattle.std.proofs.lemmas.Bool.Decides.{eqb_tells}
use Rattle.std.proofs.lemmas.Slice.Eq.{bytes_eq-Decides}
use Rattle.bhs_model.specs.declared.commands.Command.{Command}
use Rattle.bhs_model.specs.declared.commands.Command.TheVariants.{Enter, Look, Write, Depart, Accuse, Leave, Bad}
use Rattle.bhs_model.specs.declared.events.Event.{Event}
use Rattle.bhs_model.specs.declared.events.Event.TheVariants.{Tell, Deliver, Close}
use Rattle.bhs_model.specs.declared.replies.Reply.{Reply}
use Rattle.bhs_model.specs.declared.replies.Reply.TheVariants.{Here, Written, Changed, Gone, Noted, Bye, Over, No}
use Rattle.bhs_model.specs.declared.replies.Why.TheVariants.{Agent, Long, Port}
use Rattle.bhs_model.specs.Views.{View, Told, Arrived, WrittenBy, LastWrite, Standing, standing, ports, used}
use Rattle.bhs_model.specs.Replying.{accepts, answer, hears, here, refusal, text, text_left, rep}
use Rattle.bhs_model.specs.Standings.{standing_at}
use Rattle.bhs_model.specs.Worlds.{World}
use Rattle.bhs_model.specs.Runs.{State, Position, Before, At, Bound, After, changed, glance, position_after, heard}
use Rattle.bhs_model.specs.Runs.{last_writes_after, arrives, delivered, next, run, reply}
use Rattle.bhs_model.specs.Runs.{is_let_through, sight_at}
use Rattle.bhs_model.proofs.StepLemmas.{by_cases, changed_same, next_heard, next_arrived}
use Rattle.bhs_model.proofs.StepLemmas.{answered_by_past, arrival_by_past, no_arrival_no_reply}
use Rattle.bhs_model.proofs.LegalLemmas.{IsLegal, KnowsPorts, all_run}
use Rattle.bhs_schedules.specs.Strategies.{Woke, History, hearing}
use Rattle.bhs_schedules.specs.Schedules.{Trial, Scene, opening, state_of, Action, Makes, Wakes, Rests}
use Rattle.bhs_schedules.specs.Schedules.{deed, done, turn, turns, under, faced, is_same_sight, shown_to, faces_same}
use Rattle.bhs_schedules.proofs.Turns.{IsOwn, own_deed, run_more}
use Rattle.bhs_agents.specs.WakeUps.{WakeUps, is_news, after_text, after_reply, after_item, wake_ups_in}

-- ---- one count

abbrev IsShown : Option (List ℕ) → (text : List ℕ) → Type 0
IsShown None text = Unit {0}
IsShown (Some shown) text = shown ≡ text

-- The count of an agent that has woken `woken` times by the schedule and faces this text. If it has woken more often
-- than since its last reply, then the text has not changed since that reply.
record IsCounted (count : WakeUps) (woken : ℕ) (text : List ℕ) : Type 0 where
  row : woken ≤ count.in_a_row
  since : (woken ≤ count.since_reply) ⊎ IsShown count.shown text

-- the schedule starts to count anew, or the agent faces the same text as before
abbrev IsAnewOrSame : (woken new : ℕ) → (text after : List ℕ) → Type 0
IsAnewOrSame woken new text after = (new ≡ 0) ⊎ ((new ≡ woken) × (after ≡ text))

few : (woken new : ℕ) (text after : List ℕ) (most : ℕ) → IsAnewOrSame woken new text after → woken ≤ most → new ≤ most
few woken new text after most (inl none) bound = omega (arith, none)
few woken new text after most (inr same) bound = let is : new ≡ woken = same.0 in omega (arith, is, bound)

counted_woke : (count : WakeUps) (woken : ℕ) (text : List ℕ) → IsCounted count woken text
    → IsCounted (after_item count Woke) (woken + 1) text
counted_woke count woken text is = record {
  row = let row : woken ≤ count.in_a_row = is.row in omega (arith, row);
  since = elim is.since [
    | inl h ↦ inl (let since : woken ≤ count.since_reply = h in omega (arith, since))
    | inr h ↦ inr h
  ];
}

counted_else : (count : WakeUps) (woken new : ℕ) (text after : List ℕ) → IsCounted count woken text
    → IsAnewOrSame woken new text after → IsCounted count new after
counted_else count woken new text after is (inl none) = record {
  row = omega (arith, none);
  since = inl (omega (arith, none));
}
counted_else count woken new text after is (inr same) =
    subst (λ (n : ℕ). IsCounted count n after) (sym same.0)
    (subst (λ (bytes : List ℕ). IsCounted count woken bytes) (sym same.1) is)

-- what a reply says of the text that the agent faces then, and of the count of the schedule
abbrev Agrees : Reply → (new : ℕ) → (after : List ℕ) → Type 0
Agrees (Here ports came board) new after = after ≡ board
Agrees (Changed board) new after = after ≡ board
Agrees Gone new after = new ≡ 0
Agrees reply new after = Unit {0}

news_row : (shown : Option (List ℕ)) (since row woken new : ℕ) (text after board : List ℕ) → woken ≤ row
    → (woken ≤ since) ⊎ IsShown shown text → IsAnewOrSame woken new text after → after ≡ board
    → new ≤ (if is_news shown board then since else row)
news_row None since row woken new text after board bound is_since anew is = few woken new text after row anew bound
news_row (Some shown) since row woken new text after board bound is_since anew is =
    cond_both (not (bytes_eq shown board)) since row (λ (n : ℕ). new ≤ n) (λ differ. other is_since anew differ)
    (λ same. few woken new text after row anew bound)
  where
    other : (woken ≤ since) ⊎ (shown ≡ text) → IsAnewOrSame woken new text after → not (bytes_eq shown board) ≡ true
        → new ≤ since
    other (inl first) anew differ = few woken new text after since anew first
    other (inr first) (inl none) differ = omega (arith, none)
    other (inr first) (inr same) differ =
        absurd (false≢true (sym (ap not ((bytes_eq-Decides shown board).1 (first ∙ sym same.1 ∙ is))) ∙ differ))

counted_text : (count : WakeUps) (woken new : ℕ) (text after board : List ℕ) → IsCounted count woken text
    → IsAnewOrSame woken new text after → after ≡ board → IsCounted (after_text count board) new after
counted_text count woken new text after board is anew same = record {
  row = news_row count.shown count.since_reply count.in_a_row woken new text after board is.row is.since anew same;
  since = inr (sym same);
}

counted_plain : (count : WakeUps) (woken new : ℕ) (text after : List ℕ) → IsCounted count woken text
    → IsAnewOrSame woken new text after
    → IsCounted (record { shown = None; since_reply = 0; in_a_row = count.in_a_row }) new after
counted_plain count woken new text after is anew = record {
  row = few woken new text after count.in_a_row anew is.row;
  since = inr tt;
}

counted_reply : (count : WakeUps) (reply : Reply) (woken new : ℕ) (text after : List ℕ) → IsCounted count woken text
    → IsAnewOrSame woken new text after → Agrees reply new after → IsCounted (after_reply count reply) new after
counted_reply count (Here ports came board) woken new text after is anew agrees =
    counted_text count woken new text after board is anew agrees
counted_reply count (Changed board) woken new text after is anew agrees =
    counted_text count woken new text after board is anew agrees
counted_reply count Gone woken new text after is anew agrees = record {
  row = let none : new ≡ 0 = agrees in omega (arith, none);
  since = inl (let none : new ≡ 0 = agrees in omega (arith, none));
}
counted_reply count Written woken new text after is anew agrees = counted_plain count woken new text after is anew
counted_reply count Noted woken new text after is anew agrees = counted_plain count woken new text after is anew
counted_reply count Bye woken new text after is anew agrees = counted_plain count woken new text after is anew
counted_reply count Over woken new text after is anew agrees = counted_plain count woken new text after is anew
counted_reply count (No why) woken new text after is anew agrees = counted_plain count woken new text after is anew

-- ---- what a reply says of a scene

abbrev text_faced : World → State → (agent : ℕ) → List ℕ
text_faced world state agent = shown_to world state (faced world (state.position agent))

-- The reply fits the step from the old state to the new one: it shows the text that the agent faces, or the agent faces
-- another whiteboard than before.
abbrev Fits : World → (old new : State) → (agent : ℕ) → Reply → Type 0
Fits world old new agent (Here ports came board) = text_faced world new agent ≡ board
Fits world old new agent (Changed board) = text_faced world new agent ≡ board
Fits world old new agent Gone = faces_same world old new agent ≡ false
Fits world old new agent reply = Unit {0}

module _ (world : World) (old new : State) (agent : ℕ) where
  text_at : (node : ℕ) (came : Option ℕ) → new.position agent ≡ At node came → (writes : ℕ → LastWrite)
      → new.last_write ≡ writes → text_faced world new agent ≡ text world.board (writes node)
  text_at node came at writes same =
      ap (λ (position : Position). shown_to world new (faced world position)) at
      ∙ ap (λ (all : ℕ → LastWrite). text world.board (all node)) same

  -- an agent that departs faces no whiteboard
  departs : (node : ℕ) (came : Option ℕ) (from port : ℕ) → old.position agent ≡ At node came
      → new.position agent ≡ Bound from port → faces_same world old new agent ≡ false
  departs node came from port before after =
      ap (λ (position : Position). is_same_sight (faced world position) (shown_to world old (faced world position))
      (faced world (new.position agent)) (shown_to world new (faced world (new.position agent)))) before
      ∙ ap (λ (position : Position). is_same_sight (Some node) (shown_to world old (Some node)) (faced world position)
      (shown_to world new (faced world position))) after

  abbrev Writes : Position → Command → View → Type 0
  Writes position command view =
      new.last_write ≡ last_writes_after old.last_write position command
      (Told view command (glance world old position command))

  told_at : (node : ℕ) (came : Option ℕ) (command : Command) (view : View) → old.position agent ≡ At node came
      → new.position agent ≡ position_after world (At node came) command → Writes (At node came) command view
      → ports view ≡ world.net.degree node
      → Fits world old new agent
      (answer world.board (standing_at (At node came)) (ports view) command (glance world old (At node came) command))
  told_at node came Enter view before after writes knows = text_at world.home None after old.last_write writes
  told_at node came Look view before after writes knows = text_at node came after old.last_write writes
  told_at node came (Write expect put) view before after writes knows =
      let shown : List ℕ = text world.board (old.last_write node) in
      let past : View = Told view (Write expect put) (glance world old (At node came) (Write expect put)) in
      let left : text_faced world new agent ≡ text_left world.board past =
      text_at node came after (changed old.last_write node (WrittenBy past)) writes
      ∙ ap (text world.board) (changed_same old.last_write node (WrittenBy past)) in
      cond_both (nat_le (length put) world.board) (if bytes_eq shown expect then Written else Changed shown) (No Long)
      (Fits world old new agent)
      (λ short. cond_both (bytes_eq shown expect) Written (Changed shown) (Fits world old new agent) (λ same. tt)
      (λ differ. left ∙ cond-true _ _ _ short ∙ cond-false _ _ _ differ)) (λ long. tt)
  told_at node came (Depart port) view before after writes knows =
      cond_both (nat_lt port (ports view)) Gone (No Port) (Fits world old new agent)
      (λ is_port. departs node came node port before
      (after ∙ cond-true _ _ _ (ap (nat_lt port) (sym knows) ∙ is_port))) (λ none. tt)
  told_at node came (Accuse port) view before after writes knows =
      cond_both (nat_lt port (ports view)) Noted (No Port) (Fits world old new agent) (λ is_port. tt) (λ none. tt)
  told_at node came Leave view before after writes knows = tt
  told_at node came Bad view before after writes knows = tt

  told_fits : (position : Position) (command : Command) (view : View) (room : Bool) → old.position agent ≡ position
      → new.position agent ≡ position_after world position command → Writes position command view
      → KnowsPorts world view position → accepts (standing_at position) room command ≡ true
      → Fits world old new agent
      (answer world.board (standing_at position) (ports view) command (glance world old position command))
  told_fits (At node came) command view room before after writes knows takes =
      told_at node came command view before after writes knows
  told_fits Before Enter view room before after writes knows takes =
      text_at world.home None after old.last_write writes
  told_fits Before Look view room before after writes knows takes = absurd (false≢true takes)
  told_fits Before (Write expect put) view room before after writes knows takes = absurd (false≢true takes)
  told_fits Before (Depart port) view room before after writes knows takes = absurd (false≢true takes)
  told_fits Before (Accuse port) view room before after writes knows takes = absurd (false≢true takes)
  told_fits Before Leave view room before after writes knows takes = absurd (false≢true takes)
  told_fits Before Bad view room before after writes knows takes = absurd (false≢true takes)
  told_fits (Bound node port) Enter view room before after writes knows takes = tt
  told_fits (Bound node port) Look view room before after writes knows takes = tt
  told_fits (Bound node port) (Write expect put) view room before after writes knows takes = tt
  told_fits (Bound node port) (Depart gate) view room before after writes knows takes = tt
  told_fits (Bound node port) (Accuse gate) view room before after writes knows takes = tt
  told_fits (Bound node port) Leave view room before after writes knows takes = tt
  told_fits (Bound node port) Bad view room before after writes knows takes = tt
  told_fits After Enter view room before after writes knows takes = absurd (false≢true takes)
  told_fits After Look view room before after writes knows takes = absurd (false≢true takes)
  told_fits After (Write expect put) view room before after writes knows takes = absurd (false≢true takes)
  told_fits After (Depart port) view room before after writes knows takes = absurd (false≢true takes)
  told_fits After (Accuse port) view room before after writes knows takes = absurd (false≢true takes)
  told_fits After Leave view room before after writes knows takes = absurd (false≢true takes)
  told_fits After Bad view room before after writes knows takes = absurd (false≢true takes)

-- ---- the reply to an event

-- an unheard command is answered with Over or a refusal, which shows no text
refused : (world : World) (old new : State) (agent : ℕ) (view : View) (command : Command) (is_agent closed room : Bool)
    (answered : Option Reply) → (is_agent && (not closed && room)) ≡ false → (said : Reply)
    → (if is_agent then (if closed then Some Over else (if room then answered
    else Some (No (refusal (standing view) command)))) else Some (No Agent)) ≡ Some said
    → Fits world old new agent said
refused world old new agent view command true true room answered none said is =
    let same : Over ≡ said = cc in subst (Fits world old new agent) same tt
refused world old new agent view command true false true answered none said is = absurd (true≢false none)
refused world old new agent view command true false false answered none said is =
    let same : No (refusal (standing view) command) ≡ said = cc in subst (Fits world old new agent) same tt
refused world old new agent view command false closed room answered none said is =
    let same : No Agent ≡ said = cc in subst (Fits world old new agent) same tt

module _ (world : World) (state : State) (agent : ℕ) (legal : IsLegal world (state.past agent) (state.position agent))
  where
    abbrev view : View
    view = state.past agent

    abbrev position : Position
    position = state.position agent

    tell_fits : (command : Command) (said : Reply) → reply world state (Tell agent command) ≡ Some said
        → Fits world state (next world state (Tell agent command)) agent said
    tell_fits command said is =
        by_cases (heard world state agent command)
        (Fits world state (next world state (Tell agent command)) agent said) yes no
      where
        yes : heard world state agent command ≡ true
            → Fits world state (next world state (Tell agent command)) agent said
        yes is_heard =
            let stands = next_heard world state agent command is_heard in
            let takes = (and_parts (not state.closed) (hears world.quota view command)
            (and_parts (nat_lt agent world.agents) (not state.closed && hears world.quota view command) is_heard).1).1
            in
            let past : View = Told view command (glance world state position command) in
            let whole : Some (answer world.board (standing view) (ports view) command
            (glance world state position command))
            ≡ Some said =
            ap (rep world.board) (sym (changed_same state.past agent past))
            ∙ sym (answered_by_past world state agent command is_heard) ∙ is in
            let same : answer world.board (standing view) (ports view) command (glance world state position command)
            ≡ said = cc in
            subst (Fits world state (next world state (Tell agent command)) agent) same
            (subst (λ (s : Standing). Fits world state (next world state (Tell agent command)) agent
            (answer world.board s (ports view) command (glance world state position command))) (sym legal.standing)
            (told_fits world state (next world state (Tell agent command)) agent position command view
            (nat_lt (used view) world.quota) refl
            (ap (λ (s : State). s.position agent) stands
            ∙ changed_same state.position agent (position_after world position command))
            (ap (λ (s : State). s.last_write) stands) legal.ports
            (subst (λ (s : Standing). accepts s (nat_lt (used view) world.quota) command ≡ true) legal.standing takes)))

        no : heard world state agent command ≡ false
            → Fits world state (next world state (Tell agent command)) agent said
        no unheard =
            refused world state (next world state (Tell agent command)) agent view command (nat_lt agent world.agents)
            state.closed (hears world.quota view command)
            (rep world.board ((next world state (Tell agent command)).past agent)) unheard said is

    arrival_fits : (position : Position) (new : State) (said : Reply) → arrives world state agent ≡ true
        → state.position agent ≡ position → new ≡ delivered world state agent position
        → rep world.board (new.past agent) ≡ Some said → Fits world state new agent said
    arrival_fits Before new said arrival at stands is =
        absurd (false≢true (ap (is_let_through world) (sym at) ∙ (and_parts (not state.closed) _ arrival).1))
    arrival_fits (At node came) new said arrival at stands is =
        absurd (false≢true (ap (is_let_through world) (sym at) ∙ (and_parts (not state.closed) _ arrival).1))
    arrival_fits After new said arrival at stands is =
        absurd (false≢true (ap (is_let_through world) (sym at) ∙ (and_parts (not state.closed) _ arrival).1))
    arrival_fits (Bound node port) new said arrival at stands is =
        let far : ℕ = (world.net.far node port).0 in
        let label : ℕ = (world.net.far node port).1 in
        let past : View = Arrived (state.past agent) (sight_at world state far (Some label)) in
        let past_is : new.past agent ≡ past =
        ap (λ (s : State). s.past agent) stands ∙ changed_same state.past agent past in
        let whole : Some (here world.board (sight_at world state far (Some label))) ≡ Some said =
        ap (rep world.board) (sym past_is) ∙ is in
        let same : here world.board (sight_at world state far (Some label)) ≡ said = cc in
        subst (Fits world state new agent) same
        (text_at world state new agent far (Some label)
        (ap (λ (s : State). s.position agent) stands ∙ changed_same state.position agent (At far (Some label)))
        state.last_write (ap (λ (s : State). s.last_write) stands))

    deliver_fits : (said : Reply) → reply world state (Deliver agent) ≡ Some said
        → Fits world state (next world state (Deliver agent)) agent said
    deliver_fits said is =
        by_cases (arrives world state agent) (Fits world state (next world state (Deliver agent)) agent said)
        (λ arrival. let stands = next_arrived world state agent arrival in
        arrival_fits (state.position agent) (next world state (Deliver agent)) said arrival refl stands
        (ap (λ (s : State). rep world.board (s.past agent)) stands ∙ sym (arrival_by_past world state agent arrival)
        ∙ is))
        (λ none. absurd (never (sym (no_arrival_no_reply world state agent none) ∙ is)))
      where
        never : None ≡ Some said → ⊥
        never e = cc

    own_fits : (event : Event) → IsOwn agent (Makes event) → (said : Reply) → reply world state event ≡ Some said
        → Fits world state (next world state event) agent said
    own_fits (Tell other command) own said is =
        subst (λ (k : ℕ). Fits world state (next world state (Tell k command)) agent said) (sym own)
        (tell_fits command said (ap (λ (k : ℕ). reply world state (Tell k command)) (sym own) ∙ is))
    own_fits (Deliver other) own said is =
        subst (λ (k : ℕ). Fits world state (next world state (Deliver k)) agent said) (sym own)
        (deliver_fits said (ap (λ (k : ℕ). reply world state (Deliver k)) (sym own) ∙ is))
    own_fits Close own said is = absurd own

-- ---- all scenes

agrees : (world : World) (old new : State) (agent woken : ℕ) (said : Reply) → Fits world old new agent said
    → Agrees said (if faces_same world old new agent then woken else 0) (text_faced world new agent)
agrees world old new agent woken (Here ports came board) fits = fits
agrees world old new agent woken (Changed board) fits = fits
agrees world old new agent woken Gone fits = cond-false (faces_same world old new agent) woken 0 fits
agrees world old new agent woken Written fits = tt
agrees world old new agent woken Noted fits = tt
agrees world old new agent woken Bye fits = tt
agrees world old new agent woken Over fits = tt
agrees world old new agent woken (No why) fits = tt

same_sight : (one other : Option ℕ) (world : World) (old new : State)
    → is_same_sight one (shown_to world old one) other (shown_to world new other) ≡ true
    → shown_to world new other ≡ shown_to world old one
same_sight (Some one) (Some other) world old new is =
    sym ((bytes_eq-Decides (shown_to world old (Some one)) (shown_to world new (Some other))).0
    (and_parts (one == other) _ is).1)
same_sight (Some one) None world old new is = absurd (false≢true is)
same_sight None (Some other) world old new is = absurd (false≢true is)
same_sight None None world old new is = refl

anew : (world : World) (old new : State) (agent woken : ℕ)
    → IsAnewOrSame woken (if faces_same world old new agent then woken else 0) (text_faced world old agent)
    (text_faced world new agent)
anew world old new agent woken =
    by_cases (faces_same world old new agent) _
    (λ same. inr (
      cond-true _ _ _ same,
      same_sight (faced world (old.position agent)) (faced world (new.position agent))
          world old new same,
    ))
    (λ differ. inl (cond-false _ _ _ differ))

module _ (trial : Trial) where
  abbrev AreCounted : Scene → Type 0
  AreCounted scene = (agent : ℕ) → IsCounted (wake_ups_in (scene.history agent)) (scene.woken agent)
      (text_faced trial.world (state_of trial scene) agent)

  counted_hearing : (count_of : History) (answered : Option Reply) (woken new : ℕ) (text after : List ℕ)
      → IsCounted (wake_ups_in count_of) woken text → IsAnewOrSame woken new text after
      → ((said : Reply) → answered ≡ Some said → Agrees said new after)
      → IsCounted (wake_ups_in (hearing answered count_of)) new after
  counted_hearing history None woken new text after is again fits =
      counted_else (wake_ups_in history) woken new text after is again
  counted_hearing history (Some said) woken new text after is again fits =
      counted_reply (wake_ups_in history) said woken new text after is again (fits said refl)

  done_counted : (scene : Scene) (agent : ℕ) (action : Action) → IsOwn agent action → AreCounted scene
      → AreCounted (done trial scene agent action)
  done_counted scene agent Rests own all other = all other
  done_counted scene agent Wakes own all other = elim (eqb_tells other agent) [
    | inl h ↦ rw h.0 (counted_woke (wake_ups_in (scene.history agent)) (scene.woken agent) _
        (subst (λ (k : ℕ). IsCounted (wake_ups_in (scene.history agent)) (scene.woken agent)
        (text_faced trial.world (state_of trial scene) k)) (sym h.1) (all agent)))
    | inr h ↦ rw h.0 (all other)
  ]
  done_counted scene agent (Makes event) own all other =
      let world : World = trial.world in
      let state : State = state_of trial scene in
      let after : State = run world (scene.events ++ event ∷ []) in
      let stands : next world state event ≡ after = sym (run_more world scene.events event) in
      let again = anew world state after other (scene.woken other) in
      elim (eqb_tells other agent) [
        | inl h ↦ rw h.0 (counted_hearing (scene.history agent) (reply world state event) (scene.woken other) _ _ _
            (subst (λ (k : ℕ). IsCounted (wake_ups_in (scene.history k)) (scene.woken other)
            (text_faced world state other)) h.1 (all other)) again
            (λ said is. agrees world state after other (scene.woken other) said
            (subst (λ (k : ℕ). Fits world state after k said) (sym h.1)
            (subst (λ (s : State). Fits world state s agent said) stands
            (own_fits world state agent (all_run world scene.events agent) event own said is)))))
        | inr h ↦ rw h.0 (counted_else (wake_ups_in (scene.history other)) (scene.woken other) _ _ _ (all other) again)
      ]

  turns_counted : (scene : Scene) (schedule : List ℕ) → AreCounted scene → AreCounted (turns trial scene schedule)
  turns_counted scene [] all = all
  turns_counted scene (agent ∷ schedule) all =
      turns_counted (turn trial scene agent) schedule
      (done_counted scene agent (deed trial scene agent) (own_deed trial scene agent) all)

  -- under each schedule an agent has woken in a row at most as often as its own count says
  pub woken_few : (schedule : List ℕ) (agent : ℕ)
      → (under trial schedule).woken agent ≤ (wake_ups_in ((under trial schedule).history agent)).in_a_row
  woken_few schedule agent =
      (turns_counted opening schedule (λ other. record { row = omega arith; since = inr tt }) agent).row
