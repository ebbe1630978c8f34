-- What is still to be played of an agent: what its session met, and its naps between, oldest first.
use Rattle.std.proofs.Common.{ℕ, ◌≤◌, ◌≡◌, ◌⊎◌, true, List, [], ◌∷◌, ◌++◌, refl, sym, ap, subst, inl, inr}
use Rattle.std.specs.Prelude.{◌≢◌}
use Rattle.bhs_model.specs.Views.{View, Sight, Standing, Away, standing}
use Rattle.bhs_schedules.specs.declared.answers.Step.{Step}
use Rattle.bhs_schedules.specs.declared.answers.Step.TheVariants.{Says, Sleeps, Stops}
use Rattle.bhs_schedules.specs.Strategies.{Heard, Woke, History, Strategy}
use Rattle.bhs_theorems_isolation.specs.Met.{Meeting, Hears, Refuses, Arrives, past_after, view_from}
use Rattle.bhs_theorems_isolation.specs.Met.{answer_to, takes_commands, IsDue}
use Rattle.bhs_agents.specs.WakeUps.{wake_ups_in}

pub data Doing : Type 0 where
  Naps : Doing
  Meets : Meeting → Doing

abbrev pub met_in : List Doing → List Meeting
met_in [] = []
met_in (Naps ∷ doings) = met_in doings
met_in (Meets meeting ∷ doings) = meeting ∷ met_in doings

-- what an agent does that meets this next
abbrev pub IsBy : Step → Meeting → Type 0
IsBy step (Hears command glance) = step ≡ Says command
IsBy step (Refuses command) = step ≡ Says command
IsBy step (Arrives sight) = Unit {0}

-- An odd agent: on a link its strategy does not wait, or at a node its strategy has stopped. Schedules of an orderly
-- team that solves lead to no odd agent.
abbrev pub IsOdd : Standing → Step → Type 0
IsOdd stands step =
    ((stands ≡ Away) × (step ≢ Stops)) ⊎ ((takes_commands stands ≡ true) × (step ≡ Stops))

-- what an agent is bound by: its wake-ups in a row, its quota, and the size of a whiteboard
pub record Terms : Type 0 where
  pub wakeups : ℕ
  pub quota : ℕ
  pub board : ℕ

-- The doings are a run of an agent with this strategy, history and past, up to their end or to where the agent is odd.
abbrev pub Follows : Strategy → Terms → History → View → List Doing → Type 0
Follows strategy terms history view [] = Unit {0}
Follows strategy terms history view (Naps ∷ doings) =
    ((strategy history ≡ Sleeps) × ((wake_ups_in history).in_a_row ≤ terms.wakeups)
    × (takes_commands (standing view) ≡ true) × Follows strategy terms (Woke ∷ history) view doings)
    ⊎ IsOdd (standing view) (strategy history)
Follows strategy terms history view (Meets meeting ∷ doings) =
    (IsBy (strategy history) meeting × IsDue terms.quota view meeting
    × Follows strategy terms (Heard (answer_to terms.board view meeting) ∷ history) (past_after view meeting) doings)
    ⊎ IsOdd (standing view) (strategy history)

-- equal agents follow alike
pub follows_same : (strategy : Strategy) (terms : Terms) (history other : History) (view seen : View)
    (doings others : List Doing) → other ≡ history → seen ≡ view → others ≡ doings
    → Follows strategy terms history view doings → Follows strategy terms other seen others
follows_same strategy terms history other view seen doings others same same_view same_doings follows =
    subst (λ (list : List Doing). Follows strategy terms other seen list) (sym same_doings)
    (subst (λ (past : View). Follows strategy terms other past doings) (sym same_view)
    (subst (λ (known : History). Follows strategy terms known view doings) (sym same) follows))

-- ---- one arrival more

pub with_arrival : List Doing → Sight → List Doing
with_arrival [] sight = Meets (Arrives sight) ∷ []
with_arrival (doing ∷ doings) sight = doing ∷ with_arrival doings sight

pub arrival_met : (doings : List Doing) (sight : Sight) → met_in (with_arrival doings sight)
    ≡ met_in doings ++ Arrives sight ∷ []
unfolding with_arrival
arrival_met [] sight = refl
arrival_met (Naps ∷ doings) sight = arrival_met doings sight
arrival_met (Meets meeting ∷ doings) sight =
    ap (λ (met : List Meeting). meeting ∷ met) (arrival_met doings sight)

-- a run that ends on a link can be extended by an arrival
pub arrival_follows : (strategy : Strategy) (terms : Terms) (sight : Sight) (doings : List Doing) (history : History)
    (view : View) → standing (view_from view (met_in doings)) ≡ Away → Follows strategy terms history view doings
    → Follows strategy terms history view (with_arrival doings sight)
unfolding with_arrival
arrival_follows strategy terms sight [] history view away follows = inl (tt, away, tt)
arrival_follows strategy terms sight (Naps ∷ doings) history view away (inl naps) =
    inl (
      naps.0,
      naps.1,
      naps.2,
      arrival_follows strategy terms sight doings (Woke ∷ history) view away naps.3,
    )
arrival_follows strategy terms sight (Naps ∷ doings) history view away (inr odd) = inr odd
arrival_follows strategy terms sight (Meets meeting ∷ doings) history view away (inl does) =
    inl (
      does.0,
      does.1,
      arrival_follows strategy terms sight doings
          (Heard (answer_to terms.board view meeting) ∷ history) (past_after view meeting) away does.2,
    )
arrival_follows strategy terms sight (Meets meeting ∷ doings) history view away (inr odd) = inr odd
