-- The worked match of an agent that sleeps once.
use Rattle.std.proofs.Common.{ℕ, zero, suc, ◌<◌, ◌≡◌, [], ◌∷◌, None, refl, subst, arith}
use Rattle.std.proofs.lemmas.Bool.{true≢false}
use Rattle.bhs_model.specs.declared.commands.Command.{Command}
use Rattle.bhs_model.specs.declared.commands.Command.TheVariants.{Enter, Leave}
use Rattle.bhs_model.specs.declared.events.Event.TheVariants.{Tell, Deliver, Close}
use Rattle.bhs_model.specs.declared.replies.Reply.TheVariants.{Here}
use Rattle.bhs_model.specs.Examples.{none_held}
use Rattle.bhs_model.specs.Runs.{State, run}
use Rattle.bhs_match.specs.Matches.{world_in}
use Rattle.bhs_schedules.specs.Strategies.{History, Heard, Woke}
use Rattle.bhs_attest.specs.Attested.{ComesToSay, Follows, GoesOn, starts, wakes}
use Rattle.bhs_attest.specs.Example.{ItIsASchedule, ItIsFollowed, alone, short_match, whole_history}
use Rattle.bhs_attest.specs.Laws.{player_of}
use Rattle.bhs_attest.proofs.Schedules.{followed_logs_are_schedules_lemma}

no_close : (command : Command) → Tell 0 command ≡ Close → ⊥
no_close command same = cc

no_delivery : (command : Command) → Tell 0 command ≡ Deliver 0 → ⊥
no_delivery command same = cc

-- a command that the agent comes to say
speaks : (state : State) (command : Command) (old new : History)
    → ComesToSay (player_of alone 0 0) (world_in short_match) state command old new
    → GoesOn (player_of alone 0 0) (world_in short_match) state (Tell 0 command) old new
speaks state command old new comes = record {
  goes_on = no_close command;
  says = λ other same.
      let is : command ≡ other = cc in
      subst (λ (one : Command). ComesToSay (player_of alone 0 0) (world_in short_match) state one old new) is comes;
  arrives = λ same. absurd (no_delivery command same);
  others = λ apart. absurd (true≢false apart);
}

enters : GoesOn (player_of alone 0 0) (world_in short_match) (run (world_in short_match) []) (Tell 0 Enter) []
    (Heard (Here 2 None []) ∷ Woke ∷ [])
enters = speaks (run (world_in short_match) []) Enter [] (Heard (Here 2 None []) ∷ Woke ∷ []) (record {
  history = Woke ∷ [];
  idles = wakes [] starts refl (omega arith);
  listens = refl;
  says = refl;
  hears = refl;
})

leaves : GoesOn (player_of alone 0 0) (world_in short_match) (run (world_in short_match) (Tell 0 Enter ∷ []))
    (Tell 0 Leave) (Heard (Here 2 None []) ∷ Woke ∷ []) whole_history
leaves = speaks (run (world_in short_match) (Tell 0 Enter ∷ [])) Leave (Heard (Here 2 None []) ∷ Woke ∷ [])
    whole_history (record {
      history = Heard (Here 2 None []) ∷ Woke ∷ [];
      idles = starts;
      listens = refl;
      says = refl;
      hears = refl;
    })

pub it_is_followed : ItIsFollowed
it_is_followed = record {
  ended = record { some_agents = omega arith; kept = refl; closed = refl };
  free = (tt, (tt, (tt, tt)));
  follows = (Heard (Here 2 None []) ∷ Woke ∷ [], Tell 0 Leave, refl, ([], Tell 0 Enter, refl, refl, enters), leaves);
}

each_follows : (agent : ℕ) → agent < 1 → (history : History) × Follows (player_of alone 0 agent) short_match history
each_follows zero within = (whole_history, it_is_followed.follows)
each_follows (suc agent) within = absurd (omega (arith, within))

pub it_is_a_schedule : ItIsASchedule
it_is_a_schedule =
    followed_logs_are_schedules_lemma short_match none_held 0 alone it_is_followed.ended it_is_followed.free
    each_follows
