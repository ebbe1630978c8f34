use Rattle.std.proofs.Common.{refl}
use Rattle.bhs_model.proofs.laws.worked_examples.Goals as goal

pub returns : goal.returns
returns c = record {
  an_agent_enters = refl;
  a_departure_and_its_arrival = refl;
  the_black_hole_is_silent = refl;
  on_a_link_all_but_leave_is_away = refl;
  held_links_look_alike = refl;
  a_dark_link_is_silent = (refl, refl);
  a_dark_link_looks_held = refl;
  an_accusation_is_noted = refl;
  a_write_expects_what_it_replaces = refl;
  a_whiteboard_names_its_write = (refl, refl, refl);
  a_whiteboard_holds_so_many_bytes = refl;
  a_missing_port_is_used_up = refl;
  leaving_needs_no_quota = refl;
  a_bad_line_is_used_up = refl;
  quotas_are_apart = refl;
  words_pick_from_the_pool = refl;
  the_destroyed_stay_in_the_pool = refl;
  who_never_meets_is_not_in_the_cut = refl;
  who_wrote_what_is_seen_is_in_the_cut = refl;
  a_failed_write_counts = refl;
  a_failed_write_is_in_the_cut = refl;
  the_cut_stands_alone = refl;
  a_step_needs_the_steps_before = refl;
  a_sight_needs_the_write = refl;
  an_arrival_shows_the_label_there = refl;
  leaving_on_the_way = refl;
  the_destroyed_leave_alike = refl;
  who_leaves_leaves_the_pool = (refl, refl);
  what_is_kept = refl;
  who_is_lost = (refl, refl);
  an_unreached_node_may_be_the_hole = record {
    worlds = record { net = refl; home = refl; agents = refl; quota = refl; board = refl };
    struck = refl;
    reveals_nothing = (refl, (refl, (refl, (refl, tt))));
    other_reveals_nothing = (refl, (refl, (refl, tt)));
  };
  an_arrival_gives_it_away = refl;
  refusals_in_order = refl;
  each_match_has_its_own_events = refl;
  a_match_sees_no_other = refl;
}
