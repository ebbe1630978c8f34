-- An agent that follows its strategy, once it has observed more.
use Rattle.std.proofs.Common.{ℕ, ◌+◌, ◌≤◌, ◌≡◌, ◌∙◌, ◌∷◌, sym, ap, ap₂, subst, max}
use Rattle.bhs_schedules.specs.Strategies.{History, Observation, Strategy, Woke}
use Rattle.bhs_agents.specs.Searchers.{KeepsTo}
use Rattle.bhs_agents.specs.WakeUps.{WakeUps, after_item, counted}
use Rattle.bhs_agents.proofs.WakeUpLemmas.{IsCounting, counting_on}
use Rattle.bhs_attest.specs.declared.followers.Follower.{Follower}
use Rattle.bhs_attest.specs.Attested.{wake_ups_of}
use Rattle.bhs_attest.specs.Followers.{IsFollower}

module _ {S : Type 0} (strategy : S → Strategy) (has_met : S → History → Type 0) (own : Strategy) (limit : ℕ)
    (history : History) (old : Follower S) (is : IsFollower strategy has_met own limit history old) where
  pub counting : IsCounting limit history old.wake_ups
  counting = record { same_limit = is.same_limit; count = is.count; few = is.few }

  pub observes : (item : Observation) (new : Follower S)
      → KeepsTo strategy has_met old.searcher (item ∷ history) new.step new.searcher
      → new.wake_ups.limit ≡ old.wake_ups.limit → counted new.wake_ups ≡ after_item (counted old.wake_ups) item
      → (item ≡ Woke → old.wake_ups.in_a_row ≤ limit) → new.woken ≡ old.woken + wake_ups_of item
      → new.longest ≡ max old.longest new.wake_ups.in_a_row → IsFollower strategy has_met own limit (item ∷ history) new
  observes item new keeps same_limit count few woken longest =
      let counts = counting_on limit history old.wake_ups new.wake_ups item counting same_limit count
      (λ woke. subst (λ (n : ℕ). old.wake_ups.in_a_row ≤ n) (sym is.same_limit) (few woke)) in
      record {
        same = keeps.same ∙ is.same;
        met = keeps.met;
        does = keeps.is_next ∙ ap (λ (s : Strategy). s (item ∷ history)) is.same;
        same_limit = counts.same_limit;
        count = counts.count;
        few = counts.few;
        woken = woken ∙ ap (λ (n : ℕ). n + wake_ups_of item) is.woken;
        longest = longest ∙ ap₂ max is.longest (ap (λ (all : WakeUps). all.in_a_row) counts.count);
      }
