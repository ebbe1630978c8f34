use Rattle.std.proofs.Common.{refl, inl}
use Rattle.bhs_time.proofs.laws.worked_rows.Goals as goal

pub returns : goal.returns
returns c = record {
  how_long_a_link_takes = (refl, refl, refl, refl, refl);
  who_is_released = (refl, refl, refl, refl, refl);
  a_walk_with_its_turns = refl;
  others_show_in_no_turn = (refl, refl);
  a_pick_that_does_nothing = (refl, refl);
  a_departure_keeps_its_turn = refl;
  a_held_link_holds = (refl, refl);
  a_log_with_its_turns = refl;
  an_arrival_in_a_past = inl (refl, refl);
  the_pool_tells = (refl, refl, refl);
}
