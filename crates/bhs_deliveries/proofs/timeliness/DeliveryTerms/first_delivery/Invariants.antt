use Rattle.std.proofs.Common.{◌≡◌, ◌-◌, ◌%◌}
use Rattle.bhs_deliveries.specs.Dealer.{words_of_a_stream}
use Rattle.bhs_deliveries.specs.Timeliness.{first_delivery}
use Rattle.bhs_deliveries.proofs.timeliness.DeliveryTerms.first_delivery.Given as goal

abbrev pub invariant-loop-turn : goal.invariant-loop-turn
invariant-loop-turn l = record {
  words : l.words ≡ record l.self.dealer { word_pos = l.turn % words_of_a_stream };
  rest : first_delivery l.self l.dues l.fn.from (l.end - l.fn.from)
      ≡ first_delivery l.self l.dues l.turn (l.end - l.turn);
}
