-- Lemmas on talks: extension by an observation, and breaking off.
use Rattle.std.proofs.Common.{◌≡◌, ◌∙◌, ℕ, List, ◌∷◌, sym, ap, subst}
use Rattle.std.proofs.Common.{Result, Ok, Err, IfErr, IsErrAnd, OnErr}
use Rattle.bhs_model.specs.declared.replies.Reply.{Reply}
use Rattle.bhs_schedules.specs.declared.answers.Step.{Step}
use Rattle.bhs_schedules.specs.declared.answers.Step.TheVariants as steps
use Rattle.bhs_schedules.specs.Strategies.{History, Observation, Strategy}
use Rattle.bhs_client.specs.declared.player.PlayFault.{PlayFault}
use Rattle.bhs_client.specs.declared.player.PlayFault.TheVariants as fault
use Rattle.bhs_agents.specs.declared.searchers.SearcherFault.{SearcherFault}
use Rattle.bhs_agents.specs.declared.searchers.SearcherFault.TheVariants as searcher_fault
use Rattle.bhs_agents.specs.Searchers.{KeepsTo}
use Rattle.bhs_client.specs.Talks.{Hears, Meets, speaks, sleeps, sleeps_on, Talks, goes_on, HearsNone, stuck}
use Rattle.bhs_client.specs.Talks.{BreaksOff, silent, unheard, asleep, Breaks, fault_by}
use Rattle.bhs_agents.specs.declared.wake_ups.WakeUps.{WakeUps as WakeUpsInCode}
use Rattle.bhs_agents.proofs.WakeUpLemmas.{IsCounting, row_is}

-- an agent that follows its strategy follows it still once more has happened
pub follows_on : {S : Type 0} (strategy : S → Strategy) (has_met : S → History → Type 0) (start old new : S)
    (history : History) (item : Observation) (step next : Step)
    → KeepsTo strategy has_met start history step old → KeepsTo strategy has_met old (item ∷ history) next new
    → KeepsTo strategy has_met start (item ∷ history) next new
follows_on strategy has_met start old new history item step next before after = record {
  same = after.same ∙ before.same;
  met = after.met;
  is_next = after.is_next ∙ ap (λ (s : Strategy). s (item ∷ history)) before.same;
}

-- the talk of an agent goes on by the observation of its next step
pub talks_on : {W : Type 0} (says hears : W → List ℕ → W → Type 0) (wakeups : ℕ) (wake_ups : WakeUpsInCode)
    (strategy : Strategy) (key : List ℕ) (start here next : W) (history : History) (item : Observation) (step : Step)
    → Talks says hears wakeups strategy key start history here → step ≡ strategy history
    → IsCounting wakeups history wake_ups
    → Meets says hears key wake_ups.limit wake_ups.in_a_row step here item next
    → Talks says hears wakeups strategy key start (item ∷ history) next
talks_on says hears wakeups wake_ups strategy key start here next history item step talks does counting meets =
    goes_on history item here next talks
    (subst (λ (n : ℕ). Meets says hears key wakeups n (strategy history) here item next)
    (row_is wakeups history wake_ups counting)
    (subst (λ (n : ℕ). Meets says hears key n wake_ups.in_a_row (strategy history) here item next) counting.same_limit
    (subst (λ (s : Step). Meets says hears key wake_ups.limit wake_ups.in_a_row s here item next) does meets)))

-- an agent that breaks off within its next step
pub breaks_off : {W : Type 0} (says hears cuts : W → List ℕ → W → Type 0) (loses : W → W → Type 0) (wakeups : ℕ)
    (strategy : Strategy) (key : List ℕ) (start here new : W) (history : History) (step : Step) (why : PlayFault)
    → Talks says hears wakeups strategy key start history here → step ≡ strategy history
    → BreaksOff says hears cuts loses key step here new → (why ≡ fault.Failed → step ≡ steps.Fails)
    → Breaks says hears cuts loses wakeups strategy key start why new
breaks_off says hears cuts loses wakeups strategy key start here new history step why talks does off failed = record {
  history = history;
  here = here;
  talks = talks;
  off = subst (λ (it : Step). BreaksOff says hears cuts loses key it here new) does off;
  failed = λ is. sym does ∙ failed is;
}

-- hearing a reply is a case of hearing a line that ends the talk
pub stuck_by : {W : Type 0} (hears : W → List ℕ → W → Type 0) (loses : W → W → Type 0) (reply : Reply) (told new : W)
    → Hears hears reply told new → HearsNone hears loses told new
stuck_by hears loses reply told new heard = stuck heard.0 new heard.2

-- an agent may break off after each observation
pub then_off : {W : Type 0} (says hears cuts : W → List ℕ → W → Type 0) (loses : W → W → Type 0) (key : List ℕ)
    (wakeups woken : ℕ) (step : Step) (here new : W) (item : Observation)
    → Meets says hears key wakeups woken step here item new → BreaksOff says hears cuts loses key step here new
then_off says hears cuts loses key wakeups woken step here new item (speaks reply told next said heard) =
    unheard told next said (stuck_by hears loses reply told next heard)
then_off says hears cuts loses key wakeups woken step here new item (sleeps is few) = silent
then_off says hears cuts loses key wakeups woken step here new item (sleeps_on next is many heard) =
    asleep next is (stuck heard.0 next heard.2)

-- an agent that cannot go on does not fail by that
pub not_failed : (P : Type 0) (why : SearcherFault) (given : PlayFault) → given ≡ fault_by why
    → given ≡ fault.Failed → P
not_failed P searcher_fault.Size given is failed = absurd (cc)
not_failed P (searcher_fault.Refused why) given is failed = absurd (cc)
not_failed P searcher_fault.Memory given is failed = absurd (cc)

-- what is known of an error gives more of it
pub by_fault : {T E : Type 0} (P Q : E → Type 0) (result : Result T E) → ((error : E) → P error → Q error)
    → IsErrAnd result P → IfErr result Q
by_fault P Q (Ok it) more holds = tt
by_fault P Q (Err error) more holds = more error holds

-- the same for an error result
pub on_fault : {T E A : Type 0} (Q : E → Type 0) (result : Result T E) → ((error : E) → A → Q error) → OnErr result A
    → IfErr result Q
on_fault Q (Ok it) more holds = tt
on_fault Q (Err error) more holds = more error holds
