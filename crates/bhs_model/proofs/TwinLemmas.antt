-- No agent can tell two twins apart.
use Rattle.std.proofs.Common.{ℕ, ◌≡◌, Bool, true, false, not, ◌&&◌, ◌||◌, Option, None, List, [], ◌∷◌, ◌++◌, inl, inr}
use Rattle.std.proofs.Common.{if◌then◌else◌, option_to_list, refl, sym, ap, ap₂, ◌∙◌, subst}
use Rattle.std.proofs.lemmas.Bool.{cond_both, and_right, or_parts, or_cases, and_cases, true≢false}
use Rattle.bhs_model.specs.declared.events.Event.{Event}
use Rattle.bhs_model.specs.declared.events.Event.TheVariants.{Tell, Deliver, Close}
use Rattle.bhs_model.specs.declared.replies.Reply.{Reply}
use Rattle.bhs_model.specs.Replying.{rep}
use Rattle.bhs_model.specs.Worlds.{World}
use Rattle.bhs_model.specs.Twins.{SameButDoom, is_struck, strike_from, strike, reveals, RevealsNothing}
use Rattle.bhs_model.specs.Runs.{Position, Before, At, Bound, After, State, initial, run_from, run, is_bound, arrives}
use Rattle.bhs_model.specs.Runs.{is_let_through, delivered, next, reply}
use Rattle.bhs_model.specs.InOrder.{is_of, replies_to_from}
use Rattle.bhs_model.specs.Runs.{is_doomed}
use Rattle.bhs_model.specs.Laws.{TwinsLookAlike}
use Rattle.bhs_model.proofs.StepLemmas.{next_no_arrival, no_arrival_no_reply}

-- over a link that destroys nobody arrives
pub doomed_not_through : (world : World) (position : Position) → is_doomed world position ≡ true
    → is_let_through world position ≡ false
doomed_not_through world position is_lost = and_right (is_bound position) _ (ap not is_lost)

-- a struck event that gives nothing away makes nobody arrive
pub struck_no_arrival : (world other : World) (state : State) (agent : ℕ) →
    is_struck world other state (Deliver agent) ≡ true → reveals world other state (Deliver agent) ≡ false
    → arrives world state agent ≡ false
struck_no_arrival world other state agent struck reveals_nothing =
    elim (or_cases (is_doomed world (state.position agent)) (is_doomed other (state.position agent)) struck) [
      | inl here ↦ and_right (not state.closed) _ (doomed_not_through world (state.position agent) here)
      | inr there ↦ elim (and_cases (arrives world state agent) (is_doomed other (state.position agent))
          reveals_nothing) [
            | inl no_arrival ↦ no_arrival
            | inr harmless ↦ absurd (true≢false (sym there ∙ harmless))
          ]
    ]

-- a struck event leaves the state itself, and nobody is answered
pub struck_state : (world other : World) (state : State) (event : Event) →
    is_struck world other state event ≡ true → reveals world other state event ≡ false → next world state event ≡ state
struck_state world other state (Tell agent command) struck reveals_nothing = absurd (true≢false (sym struck))
struck_state world other state (Deliver agent) struck reveals_nothing =
    next_no_arrival world state agent (struck_no_arrival world other state agent struck reveals_nothing)
struck_state world other state Close struck reveals_nothing = absurd (true≢false (sym struck))

pub struck_reply : (world other : World) (state : State) (event : Event) →
    is_struck world other state event ≡ true → reveals world other state event ≡ false → reply world state event ≡ None
struck_reply world other state (Tell agent command) struck reveals_nothing = absurd (true≢false (sym struck))
struck_reply world other state (Deliver agent) struck reveals_nothing =
    no_arrival_no_reply world state agent (struck_no_arrival world other state agent struck reveals_nothing)
struck_reply world other state Close struck reveals_nothing = absurd (true≢false (sym struck))

-- no event of the list is struck
abbrev pub NoneStruck : (world other : World) → State → List Event → Type 0
NoneStruck world other state [] = Unit {0}
NoneStruck world other state (event ∷ events) = (is_struck world other state event ≡ false)
    × NoneStruck world other (next world state event) events

-- what holds of a list without its struck events, in one world: the same end, the same replies, and none is struck
pub record IsStrike (world other : World) (state : State) (events chosen : List Event) : Type 0 where
  pub ends : run_from world state chosen ≡ run_from world state events
  pub replies : (agent : ℕ) → replies_to_from world state agent chosen ≡ replies_to_from world state agent events
  pub none : NoneStruck world other state chosen

pub strike_is : (world other : World) (state : State) (events : List Event) → RevealsNothing world other state events →
    IsStrike world other state events (strike_from world other state events)
strike_is world other state [] reveals_nothing = record { ends = refl; replies = λ agent. refl; none = tt }
strike_is world other state (event ∷ events) reveals_nothing =
    let after = next world state event in
    let rest = strike_from world other after events in
    let same = strike_is world other after events reveals_nothing.1 in
    cond_both (is_struck world other state event) rest (event ∷ rest)
    (λ (chosen : List Event). IsStrike world other state (event ∷ events) chosen)
    (λ struck.
    let stays : after ≡ state = struck_state world other state event struck reveals_nothing.0 in
    let silent : reply world state event ≡ None = struck_reply world other state event struck reveals_nothing.0 in
    record {
      ends = ap (λ (start : State). run_from world start rest) (sym stays) ∙ same.ends;
      replies = λ agent. ap (λ (start : State). replies_to_from world start agent rest) (sym stays) ∙ same.replies agent
          ∙ sym (unread (is_of agent event) (reply world state event)
          (replies_to_from world after agent events) silent);
      none = subst (λ (start : State). NoneStruck world other start rest) stays same.none;
    })
    (λ unstruck. record {
      ends = same.ends;
      replies = λ agent. ap (λ (read : List Reply).
          (if is_of agent event then option_to_list (reply world state event) else []) ++ read) (same.replies agent);
      none = (unstruck, same.none);
    })
  where
    unread : (is_own : Bool) (replied : Option Reply) (others : List Reply) → replied ≡ None →
        (if is_own then option_to_list replied else []) ++ others ≡ others
    unread true replied others silent = ap (λ (one : Option Reply). option_to_list one ++ others) silent
    unread false replied others silent = refl

-- the same world with other links that destroy
abbrev pub with_destroyers : World → World → World
with_destroyers world other = record world { holes = other.holes; dark = other.dark }

pub other_world : (world other : World) → SameButDoom world other → with_destroyers world other ≡ other
other_world world other same i = record {
  net = same.net i;
  home = same.home i;
  holes = other.holes;
  dark = other.dark;
  agents = same.agents i;
  quota = same.quota i;
  board = same.board i;
}

-- where neither world destroys, both let through
pub same_through : (world : World) (destroyers : World) (position : Position) →
    (is_doomed world position || is_doomed (with_destroyers world destroyers) position) ≡ false →
    is_let_through world position ≡ is_let_through (with_destroyers world destroyers) position
same_through world destroyers position unstruck =
    let parts = or_parts (is_doomed world position) _ unstruck in
    ap (λ (destroyed : Bool). is_bound position && not destroyed) (parts.0 ∙ sym parts.1)

pub delivered_alike : (world : World) (destroyers : World) (state : State) (agent : ℕ) (position : Position) →
    delivered world state agent position ≡ delivered (with_destroyers world destroyers) state agent position
delivered_alike world destroyers state agent (Bound node port) = refl
delivered_alike world destroyers state agent Before = refl
delivered_alike world destroyers state agent (At node came) = refl
delivered_alike world destroyers state agent After = refl

-- an event that is not struck does the same in both worlds, and is answered alike
pub next_alike : (world : World) (destroyers : World) (state : State) (event : Event) →
    is_struck world (with_destroyers world destroyers) state event ≡ false →
    next world state event ≡ next (with_destroyers world destroyers) state event
next_alike world destroyers state (Tell agent command) unstruck = refl
next_alike world destroyers state (Deliver agent) unstruck =
    ap₂ (λ (through : Bool) (there : State). if not state.closed && through then there else state)
    (same_through world destroyers (state.position agent) unstruck)
    (delivered_alike world destroyers state agent (state.position agent))
next_alike world destroyers state Close unstruck = refl

pub reply_alike : (world : World) (destroyers : World) (state : State) (event : Event) →
    is_struck world (with_destroyers world destroyers) state event ≡ false →
    reply world state event ≡ reply (with_destroyers world destroyers) state event
reply_alike world destroyers state (Tell agent command) unstruck = refl
reply_alike world destroyers state (Deliver agent) unstruck =
    ap₂ (λ (through : Bool) (there : State). if not state.closed && through then rep world.board
    (there.past agent) else None)
    (same_through world destroyers (state.position agent) unstruck)
    (next_alike world destroyers state (Deliver agent) unstruck)
reply_alike world destroyers state Close unstruck = refl

pub next_twin : (world other : World) (state : State) (event : Event) → SameButDoom world other →
    is_struck world other state event ≡ false → next world state event ≡ next other state event
next_twin world other state event same unstruck =
    let is_other = other_world world other same in
    subst (λ (there : World). next world state event ≡ next there state event) is_other
    (next_alike world other state event (subst (λ (there : World). is_struck world there state event ≡ false)
    (sym is_other) unstruck))

-- two runs of one list end alike, with the same replies
pub record RunAlike (world other : World) (state : State) (events : List Event) : Type 0 where
  pub ends : run_from world state events ≡ run_from other state events
  pub replies : (agent : ℕ) → replies_to_from world state agent events ≡ replies_to_from other state agent events

pub run_alike_but_dooms : (world : World) (destroyers : World) (state : State) (events : List Event) →
    NoneStruck world (with_destroyers world destroyers) state events
    → RunAlike world (with_destroyers world destroyers) state events
run_alike_but_dooms world destroyers state [] none = record { ends = refl; replies = λ agent. refl }
run_alike_but_dooms world destroyers state (event ∷ events) none =
    let same = run_alike_but_dooms world destroyers (next world state event) events none.1 in
    let there = next_alike world destroyers state event none.0 in
    record {
      ends = same.ends ∙ ap (λ (start : State). run_from (with_destroyers world destroyers) start events) there;
      replies = λ agent.
          ap₂ (λ (replied : Option Reply) (read : List Reply).
          (if is_of agent event then option_to_list replied else []) ++ read)
          (reply_alike world destroyers state event none.0)
          (same.replies agent ∙ ap
          (λ (start : State). replies_to_from (with_destroyers world destroyers) start agent events)
          there);
    }

pub run_alike : (world other : World) (state : State) (events : List Event) → SameButDoom world other →
    NoneStruck world other state events → RunAlike world other state events
run_alike world other state events same none =
    let is_other = other_world world other same in
    subst (λ (there : World). RunAlike world there state events) is_other
    (run_alike_but_dooms world other state events
    (subst (λ (there : World). NoneStruck world there state events) (sym is_other) none))

pub twins_look_alike_lemma : TwinsLookAlike
twins_look_alike_lemma world events other others twins =
    let here = strike_is world other initial events twins.reveals_nothing in
    let there = strike_is other world initial others twins.other_reveals_nothing in
    let both = run_alike world other initial (strike world other events) twins.worlds here.none in
    let same_state : run world events ≡ run other others =
    sym here.ends ∙ both.ends ∙ ap (λ (chosen : List Event). run other chosen) twins.struck ∙ there.ends in
    record {
      states = same_state;
      pasts = λ agent. ap (λ (end : State). end.past agent) same_state;
      replies = λ agent. sym (here.replies agent) ∙ both.replies agent
          ∙ ap (λ (chosen : List Event). replies_to_from other initial agent chosen) twins.struck ∙ there.replies agent;
    }
