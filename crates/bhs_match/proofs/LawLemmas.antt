-- The laws of a match.
use Rattle.std.proofs.Common.{append-nil, ◌≡◌, ℕ, Bool, true, false, List, [], ◌∷◌, ◌++◌, map, refl}
use Rattle.std.proofs.Common.{sym, ap, ◌∙◌, if◌then◌else◌}
use Rattle.bhs_model.specs.declared.events.Event.{Event}
use Rattle.bhs_model.specs.declared.marks.Kept.{Kept}
use Rattle.bhs_model.specs.Worlds.{World}
use Rattle.bhs_model.specs.Runs.{Position, State, initial, run, reply}
use Rattle.bhs_model.specs.InOrder.{replies}
use Rattle.bhs_model.specs.KeptReplies.{kept_replies}
use Rattle.bhs_model.specs.Kept.{keeps, kept_first, lost, nobody}
use Rattle.bhs_model.specs.Draws.{pool}
use Rattle.bhs_model.specs.Marks.{events_of, read_if}
use Rattle.bhs_model.proofs.KeptLemmas.{run-kept, lost-kept, replies-kept}
use Rattle.bhs_model.proofs.AddLemmas.{kept-append}
use Rattle.bhs_world.specs.Tables.{keeps_next}
use Rattle.bhs_world.proofs.GrowthLemmas.{events_more}
use Rattle.bhs_match.specs.Matches.{bound_at}
use Rattle.bhs_match.specs.Laws.{IsLogOf, LogsTellAll, LogsGrow, LogsAreBounded}
use Rattle.bhs_match.specs.Laws.{ArrivalsAreBounded, PoolsAreOfAgents}
use Rattle.bhs_match.proofs.FairLemmas.{fair_run}
use Rattle.bhs_match.proofs.CountLemmas.{kept_bound}
use Rattle.bhs_match.proofs.PoolLemmas.{pool_bound}
use Rattle.bhs_match.proofs.NewsLemmas.{news_bound}

pub logs_tell_all_lemma : LogsTellAll
logs_tell_all_lemma world events log is =
    let same : run world events ≡ run world (events_of log) = sym (run-kept world initial nobody events)
    ∙ ap (run world) is in
    record {
      state = same;
      pool = ap pool same;
      lost = sym (lost-kept world initial nobody events) ∙ ap (lost world) is;
      replies = replies-kept world initial nobody events ∙ ap (replies world) is;
    }

-- the replies in a log are those that the kept events were given among all that happened
pub heard_in_log : (world : World) (log : List Kept) → map (λ one. read_if log one.mark) log ≡ replies world
    (events_of log) →
    (events : List Event) → IsLogOf world events log → map (λ one. read_if log one.mark) log ≡ kept_replies world events
heard_in_log world log replied events is = replied ∙ sym (logs_tell_all_lemma world events log is).replies

-- Case analysis: the event is kept or dropped.
log_chosen : (log : List Kept) (one : Kept) (is_kept : Bool) → events_of log ++ kept_first is_kept one.event
    [] ≡ events_of (if is_kept then log ++ one ∷ [] else log)
log_chosen log one true = sym (events_more log one)
log_chosen log one false = append-nil (events_of log)

pub logs_grow_lemma : LogsGrow
logs_grow_lemma world events log event mark is =
    let known = logs_tell_all_lemma world events log is in
    record {
      answer = ap (λ (state : State). reply world state event) (sym known.state);
      grown = kept-append world initial nobody events (event ∷ [])
          ∙ ap (λ (before : List Event). before
          ++ kept_first (keeps world (run world events) (lost world events) event) event []) is
          ∙ ap (λ (state : State). events_of log ++ kept_first (keeps world state (lost world events) event) event [])
          known.state
          ∙ ap (λ (lost : ℕ → Bool). events_of log ++ kept_first (keeps world (run world (events_of log)) lost event)
          event []) known.lost
          ∙ log_chosen log (record { event = event; mark = mark }) (keeps_next world log event);
    }

pub logs_are_bounded_lemma : LogsAreBounded
logs_are_bounded_lemma world events = kept_bound world events

pub arrivals_are_bounded_lemma : ArrivalsAreBounded
arrivals_are_bounded_lemma world agent log replied = news_bound world agent log replied

pooled_agents : (position : ℕ → Position) (agents : List ℕ)
    → map (λ bound. bound.agent) (map (λ agent. bound_at agent (position agent)) agents) ≡ agents
pooled_agents position [] = refl
pooled_agents position (agent ∷ agents) = ap (λ (others : List ℕ). agent ∷ others) (pooled_agents position agents)

pub pools_are_of_agents_lemma : PoolsAreOfAgents
pools_are_of_agents_lemma world events = record {
  agents = pooled_agents (run world events).position (pool (run world events));
  bound = pool_bound world (run world events) (lost world events) (fair_run world events);
}
