-- Worked rows: what the definitions compute.
use Rattle.std.proofs.Common.{◌≡◌, List, [], ◌∷◌, ◌++◌, codes, true, false, None, Some, refl}
use Rattle.bhs_net.specs.Network.{Network}
use Rattle.bhs_model.specs.declared.setups.Setup.{Setup}
use Rattle.bhs_model.specs.declared.commands.Command.TheVariants.{Enter, Write, Accuse}
use Rattle.bhs_model.specs.declared.events.Event.{Event}
use Rattle.bhs_model.specs.declared.events.Event.TheVariants.{Tell, Deliver, Close}
use Rattle.bhs_model.specs.declared.replies.Reply.TheVariants.{Here, Noted, Written}
use Rattle.bhs_wire.proofs.OnLiterals.{bhs_wire_on_literals}
use Rattle.bhs_replay.specs.declared.faults.ReplayFault.TheVariants as fault
use Rattle.bhs_replay.specs.declared.heads.Version.TheVariants.{One, Two}
use Rattle.bhs_replay.specs.EventLine.{event_line}
use Rattle.bhs_replay.specs.Head.{head_line, version_of}
use Rattle.bhs_replay.specs.Replay.{end_line}
use Rattle.bhs_replay.specs.Spelling.{spelled}
use Rattle.bhs_replay.specs.Stages.{is_end_line, Ends, Wrong, after_line}

enter_row : event_line (Tell 0 Enter) (Some (Here 2 None [])) ≡ codes
    "{\"agent\":0,\"do\":\"enter\",\"reply\":{\"board\":\"\",\"from\":null,\"ok\":\"here\",\"ports\":2}}"
unfolding bhs_wire_on_literals
enter_row = refl

close_row : event_line Close None ≡ codes "{\"do\":\"close\",\"reply\":null}"
unfolding bhs_wire_on_literals
close_row = refl

write_row : event_line (Tell 1 (Write [] (34 ∷ 10 ∷ 97 ∷ []))) (Some Written) ≡ codes
    "{\"agent\":1,\"do\":\"write\",\"expect\":\"\",\"put\":\"\\\"\\na\",\"reply\":{\"ok\":\"written\"}}"
unfolding bhs_wire_on_literals
write_row = refl

read_row : spelled (codes "{\"agent\":0,\"do\":\"accuse\",\"port\":2,\"reply\":{\"ok\":\"noted\"}}") ≡ Some
    (Tell 0 (Accuse 2), Some Noted)
unfolding bhs_wire_on_literals
read_row = refl

large_row : spelled (codes "{\"agent\":0,\"do\":\"accuse\",\"port\":65536,\"reply\":{\"ok\":\"noted\"}}") ≡ None
unfolding bhs_wire_on_literals
large_row = refl

spaced_row : spelled (codes "{\"agent\": 0,\"do\":\"look\",\"reply\":{\"ok\":\"noted\"}}") ≡ None
unfolding bhs_wire_on_literals
spaced_row = refl

escaped_row : spelled (codes "{\"agent\":1,\"do\":\"write\",\"expect\":\"\",\"put\":\"\\u0061\","
    ++ codes "\"reply\":{\"ok\":\"written\"}}") ≡ None
unfolding bhs_wire_on_literals
escaped_row = refl

null_row : spelled (codes "{\"agent\":0,\"do\":\"deliver\",\"reply\":null}") ≡ Some (Deliver 0, None)
unfolding bhs_wire_on_literals
null_row = refl

odd_null_row : spelled (codes "{\"agent\":0,\"do\":\"look\",\"reply\":null}") ≡ None
unfolding bhs_wire_on_literals
odd_null_row = refl

denial_row : spelled (codes "{\"agent\":0,\"do\":\"deliver\",\"reply\":{\"no\":\"key\"}}") ≡ None
unfolding bhs_wire_on_literals
denial_row = refl

-- ---- heads and end lines

abbrev triangle : Network
triangle = ((1, 0) ∷ (2, 1) ∷ []) ∷ ((0, 0) ∷ (2, 0) ∷ []) ∷ ((1, 1) ∷ (0, 1) ∷ []) ∷ []

abbrev two_agents : Setup
two_agents = record { home = 0; holes = 2 ∷ []; dark = []; agents = 2; quota = 10; board = 8 }

head_row : head_line Two triangle two_agents ≡ codes "{\"agents\":2,\"board\":8,\"dark\":[],\"holes\":[2],"
    ++ codes "\"home\":0,\"links\":[[0,0,1,0],[0,1,2,1],[1,1,2,0]],\"nodes\":3,\"quota\":10,\"replay\":2}"
unfolding bhs_wire_on_literals
head_row = refl

old_head_row : head_line One triangle two_agents ≡ codes "{\"agents\":2,\"board\":8,\"hole\":2,"
    ++ codes "\"home\":0,\"links\":[[0,0,1,0],[0,1,2,1],[1,1,2,0]],\"nodes\":3,\"quota\":10,\"replay\":1}"
unfolding bhs_wire_on_literals
old_head_row = refl

abbrev large_quota : Setup
large_quota = record two_agents { quota = 1001 }

large_head_row : head_line (version_of triangle large_quota) triangle large_quota
    ≡ codes "{\"agents\":2,\"board\":8,\"dark\":[],\"holes\":[2],"
    ++ codes "\"home\":0,\"links\":[[0,0,1,0],[0,1,2,1],[1,1,2,0]],\"nodes\":3,\"quota\":1001,\"replay\":3}"
unfolding bhs_wire_on_literals
large_head_row = refl

small_head_row : head_line (version_of triangle two_agents) triangle two_agents ≡ head_line Two triangle two_agents
small_head_row = refl

end_row : end_line 3 ≡ codes "{\"end\":3}"
unfolding bhs_wire_on_literals
end_row = refl

large_end_row : is_end_line (codes "{\"end\":18446744073709551616}") ≡ true
unfolding bhs_wire_on_literals
large_end_row = refl

zero_end_row : is_end_line (codes "{\"end\":01}") ≡ false
unfolding bhs_wire_on_literals
zero_end_row = refl

-- ---- lines behind a head

abbrev entered : List Event
entered = Tell 0 Enter ∷ []

differs_row : after_line triangle two_agents entered
    (codes "{\"agent\":0,\"do\":\"accuse\",\"port\":2,\"reply\":{\"ok\":\"noted\"}}") ≡ Wrong (fault.Differs 3)
unfolding bhs_wire_on_literals
differs_row = refl

not_kept_row : after_line triangle two_agents entered
    (codes "{\"agent\":0,\"do\":\"enter\",\"reply\":{\"no\":\"twice\"}}") ≡ Wrong (fault.Event 3)
unfolding bhs_wire_on_literals
not_kept_row = refl

ends_row : after_line triangle two_agents (Close ∷ []) (codes "{\"end\":1}") ≡ Ends triangle two_agents (Close ∷ [])
unfolding bhs_wire_on_literals
ends_row = refl

count_row : after_line triangle two_agents (Close ∷ []) (codes "{\"end\":2}") ≡ Wrong fault.End
unfolding bhs_wire_on_literals
count_row = refl
