-- An agent has at most as many arrivals as its quota: before each it departed.
use Rattle.std.proofs.Common.{◌≡◌, ℕ, ◌+◌, ◌≤◌, Bool, true, false, Option, Some, None, List, [], ◌∷◌, ◌++◌}
use Rattle.std.proofs.Common.{length, map, refl, sym, ap, ◌∙◌, subst, inl, inr, arith, ◌==◌, if◌then◌else◌}
use Rattle.std.proofs.lemmas.Bool.{cond_both, cond-false, eq-eqb, ne_eqb}
use Rattle.std.proofs.lemmas.Bool.Decides.{eqb_tells}
use Rattle.bhs_model.specs.declared.commands.Command.{Command}
use Rattle.bhs_model.specs.declared.events.Event.{Event}
use Rattle.bhs_model.specs.declared.events.Event.TheVariants.{Tell, Deliver, Close}
use Rattle.bhs_model.specs.declared.marks.Mark.{Mark}
use Rattle.bhs_model.specs.declared.marks.Kept.{Kept}
use Rattle.bhs_model.specs.declared.replies.Reply.{Reply}
use Rattle.bhs_model.specs.Views.{used}
use Rattle.bhs_model.specs.Replying.{rep}
use Rattle.bhs_model.specs.Worlds.{World}
use Rattle.bhs_model.specs.Runs.{Position, Bound, State, initial, told, arrived, delivered}
use Rattle.bhs_model.specs.Runs.{arrives, heard, next, run_from, reply}
use Rattle.bhs_model.specs.InOrder.{replies, replies_from}
use Rattle.bhs_model.specs.Kept.{lost_after, lost, nobody}
use Rattle.bhs_model.specs.Marks.{events_of, read_if}
use Rattle.bhs_match.specs.Matches.{is_arrival, arrivals_from, arrivals}
use Rattle.bhs_match.proofs.MoveLemmas.{flight}
use Rattle.bhs_match.proofs.CountLemmas.{bit}
use Rattle.bhs_match.proofs.FairLemmas.{IsFair, IsHeard, heard_means, moves_of, IsArriving, arrival_means, bound_within}
use Rattle.bhs_match.proofs.FairLemmas.{fair_next, fair_run, fair_initial}

chosen_append : (b : Bool) (place : ℕ) (xs ys zs : List ℕ) → xs ≡ ys ++ zs
    → (if b then place ∷ xs else xs) ≡ (if b then place ∷ ys else ys) ++ zs
chosen_append true place xs ys zs same = ap (λ (rest : List ℕ). place ∷ rest) same
chosen_append false place xs ys zs same = same

-- the place of the last event, if it is an arrival
abbrev pub last_arrival : (agent place : ℕ) → Kept → List ℕ
last_arrival agent place one = if is_arrival agent one.event one.mark then (place ∷ []) else []

pub arrivals_more : (agent place : ℕ) (log : List Kept) (one : Kept) →
    arrivals_from agent place (log ++ one ∷ []) ≡ arrivals_from agent place log ++ last_arrival agent
    (place + length log) one
arrivals_more agent place [] one = ap (λ (place : ℕ). last_arrival agent place one) (zero_more place)
  where
    zero_more : (n : ℕ) → n ≡ n + 0
    zero_more n = omega arith
arrivals_more agent place (first ∷ log) one =
    let same : (place + 1) + length log ≡ place + length (first ∷ log) = omega arith in
    chosen_append (is_arrival agent first.event first.mark) place _ _ _
    (arrivals_more agent (place + 1) log one ∙ ap (λ (last : ℕ). arrivals_from agent (place + 1) log
    ++ last_arrival agent last one) same)

-- a flight begins with a command that counts, and ends with an arrival
record Balance (before after : State) (agent : ℕ) (arrival : Bool) : Type 0 where
  pub balance : bit arrival + used (before.past agent) + flight (after.position agent) ≤ used
      (after.past agent) + flight (before.position agent)

same_balance : (state : State) (agent : ℕ) → Balance state state agent false
same_balance state agent = record { balance = omega arith }

told_balance : (world : World) (state : State) (lost : ℕ → Bool) (one : ℕ) (command : Command) (agent : ℕ)
    → IsHeard world state one command → Balance state (told world state one command) agent false
told_balance world state lost one command agent is_heard = elim (eqb_tells agent one) [
  | inl h ↦ let moved = moves_of world state lost one command is_heard in
      record { balance = rw (h.1) (rw (eq-eqb one one refl) (omega (arith, moved.flight))) }
  | inr h ↦ record { balance = rw h.0 (omega arith) }
]

weaker_balance : (before after : State) (agent : ℕ) (arrival : Bool) → Balance before after agent arrival
    → Balance before after agent false
weaker_balance before after agent arrival whole = let known = whole.balance in record { balance = omega arith }

arrived_balance : (world : World) (state : State) (one node port there label agent : ℕ)
    → state.position one ≡ Bound node port → Balance state (arrived world state one there label) agent (agent == one)
arrived_balance world state one node port there label agent on = elim (eqb_tells agent one) [
  | inl h ↦
      let flying : flight (state.position one) ≡ 1 = ap flight on in
      let same : (one == one) ≡ true = eq-eqb one one refl in
      record { balance = rw h.1 (rw same (omega arith)) }
  | inr h ↦ record { balance = rw h.0 (omega arith) }
]

delivered_balance : (world : World) (state : State) (one agent : ℕ) → IsArriving world state one
    → Balance state (delivered world state one (state.position one)) agent (agent == one)
delivered_balance world state one agent flies =
    subst (λ (position : Position). Balance state (delivered world state one position) agent (agent == one))
    (sym flies.on)
    (arrived_balance world state one flies.node flies.port (world.net.far flies.node flies.port).0
    (world.net.far flies.node flies.port).1 agent flies.on)

next_balance : (world : World) (state : State) (lost : ℕ → Bool) (agent : ℕ) (event : Event) (mark : Option Mark)
    (whole : List Kept) → IsFair world state lost →
    read_if whole mark ≡ reply world state event → Balance state (next world state event) agent
    (is_arrival agent event mark)
next_balance world state lost agent (Tell one command) mark whole fair replied =
    cond_both (heard world state one command) (told world state one command) state
    (λ (after : State). Balance state after agent false)
    (λ is_heard. told_balance world state lost one command agent
    (heard_means world state lost one command fair is_heard)) (λ unheard. same_balance state agent)
next_balance world state lost agent (Deliver one) None whole fair replied =
    cond_both (arrives world state one) (delivered world state one (state.position one)) state
    (λ (after : State). Balance state after agent false)
    (λ arrival. weaker_balance state _ agent (agent == one)
    (delivered_balance world state one agent (arrival_means world state one arrival)))
    (λ stays. same_balance state agent)
next_balance world state lost agent (Deliver one) (Some mark) whole fair replied =
    cond_both (arrives world state one) (delivered world state one (state.position one)) state
    (λ (after : State). Balance state after agent (agent == one))
    (λ arrival. delivered_balance world state one agent (arrival_means world state one arrival))
    (λ stays. absurd (silent (replied ∙ cond-false (arrives world state one)
    (rep world.board ((next world state (Deliver one)).past one)) None stays)))
  where
    silent : read_if whole (Some mark) ≡ None → ⊥
    silent h = cc
next_balance world state lost agent Close mark whole fair replied = record { balance = omega arith }

length_chosen : (b : Bool) (place : ℕ) (places : List ℕ) → length (if b then place ∷ places else places) ≡ bit
    b + length places
length_chosen true place places = omega arith
length_chosen false place places = omega arith

news_run : (world : World) (state : State) (lost : ℕ → Bool) (agent place : ℕ) (whole log : List Kept)
    → IsFair world state lost →
    map (λ one. read_if whole one.mark) log ≡ replies_from world state (events_of log) →
    length (arrivals_from agent place log) + used (state.past agent) + flight
    ((run_from world state (events_of log)).position agent)
    ≤ used ((run_from world state (events_of log)).past agent) + flight (state.position agent)
news_run world state lost agent place whole [] fair replied = omega arith
news_run world state lost agent place whole (one ∷ log) fair replied =
    let after = next world state one.event in
    let first : read_if whole one.mark ≡ reply world state one.event = cc in
    let others : map (λ one. read_if whole one.mark) log ≡ replies_from world after (events_of log) = cc in
    let step = (next_balance world state lost agent one.event one.mark whole fair first).balance in
    let rest = news_run world after (lost_after world state lost one.event) agent (place + 1) whole log
    (fair_next world state lost one.event fair) others in
    let counted = length_chosen (is_arrival agent one.event one.mark) place (arrivals_from agent (place + 1) log) in
    omega arith

pub news_bound : (world : World) (agent : ℕ) (log : List Kept) → map (λ one. read_if log one.mark) log ≡ replies world
    (events_of log) → length (arrivals agent log) ≤ world.quota
news_bound world agent log replied =
    let all = news_run world initial nobody agent 0 log log (fair_initial world) replied in
    let most = (fair_run world (events_of log)).quota agent in
    omega arith

-- who is no agent never arrives
unknown_arrival : (world : World) (state : State) (lost : ℕ → Bool) (agent : ℕ) (event : Event) (mark : Option Mark)
    (whole : List Kept) → IsFair world state lost → world.agents ≤ agent →
    read_if whole mark ≡ reply world state event → is_arrival agent event mark ≡ false
unknown_arrival world state lost agent (Tell one command) mark whole fair unknown replied = refl
unknown_arrival world state lost agent (Deliver one) None whole fair unknown replied = refl
unknown_arrival world state lost agent (Deliver one) (Some mark) whole fair unknown replied =
    cond_both (arrives world state one) (rep world.board ((next world state (Deliver one)).past one)) None
    (λ (answer : Option Reply). read_if whole (Some mark) ≡ answer → (agent == one) ≡ false)
    (λ arrival _.
    let flies = arrival_means world state one arrival in
    let within = bound_within world state lost one flies.node flies.port fair flies.on in
    ne_eqb agent one (λ same. omega (arith, same)))
    (λ stays answer. cc)
    replied
unknown_arrival world state lost agent Close mark whole fair unknown replied = refl

unknown_run : (world : World) (state : State) (lost : ℕ → Bool) (agent place : ℕ) (whole log : List Kept)
    → IsFair world state lost → world.agents ≤ agent →
    map (λ one. read_if whole one.mark) log ≡ replies_from world state (events_of log)
    → arrivals_from agent place log ≡ []
unknown_run world state lost agent place whole [] fair unknown replied = refl
unknown_run world state lost agent place whole (one ∷ log) fair unknown replied =
    let after = next world state one.event in
    let first : read_if whole one.mark ≡ reply world state one.event = cc in
    let others : map (λ one. read_if whole one.mark) log ≡ replies_from world after (events_of log) = cc in
    let none : is_arrival agent one.event one.mark ≡ false =
    unknown_arrival world state lost agent one.event one.mark whole fair unknown first in
    rw none (unknown_run world after (lost_after world state lost one.event) agent (place + 1) whole log
    (fair_next world state lost one.event fair) unknown others)

pub unknown_news : (world : World) (agent : ℕ) (log : List Kept) → world.agents ≤ agent
    → map (λ one. read_if log one.mark) log ≡ replies world (events_of log) → arrivals agent log ≡ []
unknown_news world agent log unknown replied =
    unknown_run world initial nobody agent 0 log log (fair_initial world) unknown replied
