-- Charts that the whiteboard of the home base has shown before.
use Rattle.std.proofs.Common.{ℕ, ◌<◌, length, refl, ◌∙◌, arith}
use Rattle.bhs_protocols_charts.specs.Charts.{Chart, with_state}
use Rattle.bhs_protocols_charts.proofs.ChartLists.{ports_at, state_length, state_father, state_port, state_ports}
use Rattle.bhs_protocols_charts.proofs.ChartState.{Game, IsPast}

module _ (game : Game) where
  pub past_itself : (chart : Chart) → IsPast game chart chart
  past_itself chart = record {
    shorter = omega arith;
    father = λ i lt. refl;
    port = λ i lt. refl;
    ports_are = λ i lt. refl;
  }

  pub past_on : (old middle chart : Chart) → IsPast game old middle → IsPast game middle chart → IsPast game old chart
  past_on old middle chart it past =
      let short = it.shorter in
      let more = past.shorter in
      let below : (i : ℕ) → i < length old → i < length middle = λ i lt. omega (arith, lt, short) in
      record {
        shorter = omega (arith, short, more);
        father = λ i lt. it.father i lt ∙ past.father i (below i lt);
        port = λ i lt. it.port i lt ∙ past.port i (below i lt);
        ports_are = λ i lt. it.ports_are i lt ∙ past.ports_are i (below i lt);
      }

  -- another state of a port makes no difference
  module _ (old chart : Chart) (past : IsPast game old chart) (row port state : ℕ) (within : row < length old)
      (has : port < ports_at old row) where
    was_within : (i : ℕ) → i < length (with_state old row port state) → i < length old
    was_within i lt = omega (arith, state_length old row port state within has)

    pub past_state : IsPast game (with_state old row port state) chart
    past_state = record {
      shorter = omega (arith, past.shorter, state_length old row port state within has);
      father = λ i lt. state_father old row port state within has i ∙ past.father i (was_within i lt);
      port = λ i lt. state_port old row port state within has i ∙ past.port i (was_within i lt);
      ports_are = λ i lt. state_ports old row port state within has i ∙ past.ports_are i (was_within i lt);
    }
