use Rattle.bhs_theorems_isolation.proofs.WorkedScripts as worked
use Rattle.bhs_theorems_isolation.proofs.scripts.worked_scripts.Goals as goal

pub returns : goal.returns
returns c = record {
  a_key_lets_in = worked.a_key_lets_in;
  a_line_may_come_in_pieces = worked.a_line_may_come_in_pieces;
  the_black_hole_is_silent = worked.the_black_hole_is_silent;
  held_links_send_the_same = worked.held_links_send_the_same;
  the_slow_triangle_is_slow = worked.the_slow_triangle_is_slow;
  lines_wait_for_the_arrival = worked.lines_wait_for_the_arrival;
  the_second_writer_sees_the_first = worked.the_second_writer_sees_the_first;
  the_quota_is_spent = worked.the_quota_is_spent;
  a_strange_key_is_denied = worked.a_strange_key_is_denied;
  a_used_key_is_denied = worked.a_used_key_is_denied;
  a_first_look_is_denied = worked.a_first_look_is_denied;
  the_present_are_told_later = worked.the_present_are_told_later;
  an_end_waits_for_the_arrival = worked.an_end_waits_for_the_arrival;
  the_agent_of_an_end_leaves = worked.the_agent_of_an_end_leaves;
  the_other_match_is_not_heard = worked.the_other_match_is_not_heard;
  what_is_not_there_does_nothing = worked.what_is_not_there_does_nothing;
}
