-- The replay of each match that has ended is read as that match.
use Rattle.std.proofs.Common.{◌≡◌, ℕ, ◌<◌, ◌^◌, Bool, true, not, nat_lt, List, [], ◌∷◌, length, refl, ap, arith}
use Rattle.std.proofs.lemmas.Bool.{and_parts, eq-eqb}
use Rattle.bhs_net.specs.Network.{Network, IsNetwork}
use Rattle.bhs_model.specs.declared.commands.Command.{Command}
use Rattle.bhs_model.specs.declared.events.Event.{Event}
use Rattle.bhs_model.specs.declared.events.Event.TheVariants.{Tell, Deliver, Close}
use Rattle.bhs_model.specs.declared.setups.Setup.{Setup}
use Rattle.bhs_model.specs.Setups.{world_of, IsNormal}
use Rattle.bhs_model.specs.Worlds.{World}
use Rattle.bhs_model.specs.Runs.{State, initial, next, reply, heard}
use Rattle.bhs_model.specs.InOrder.{replies_from}
use Rattle.bhs_model.specs.Kept.{keeps, kept_from, lost_after, nobody}
use Rattle.bhs_model.proofs.KeptLemmas.{first_kept}
use Rattle.bhs_world.specs.Faults.{IsWithinLimits}
use Rattle.bhs_world.proofs.NoFaultLemmas.{normal_fits}
use Rattle.bhs_match.proofs.CountLemmas.{kept_bound}
use Rattle.bhs_match.proofs.ApplyLemmas.{most_is_small}
use Rattle.bhs_replay.specs.declared.heads.Version.{Version}
use Rattle.bhs_replay.specs.Head.{CanSay, head_line}
use Rattle.bhs_replay.specs.Opening.{IsHead}
use Rattle.bhs_replay.specs.Played.{IsTyped, HasEnded}
use Rattle.bhs_replay.specs.Replay.{replay}
use Rattle.bhs_replay.specs.Spelling.{may_stand}
use Rattle.bhs_replay.specs.Stages.{Ends, Comes}
use Rattle.bhs_replay.proofs.EventReads.{event_utf8}
use Rattle.bhs_replay.proofs.FitLemmas.{ports_small, label_small}
use Rattle.bhs_replay.proofs.FittingPasts.{WorldFits, StateFits, initial_fits, next_fits}
use Rattle.bhs_replay.proofs.FittingReplies.{reply_fits}
use Rattle.bhs_replay.proofs.HeadReads.{AllOf}
use Rattle.bhs_replay.proofs.ListLemmas.{by_places}
use Rattle.bhs_replay.proofs.ListedLinks.{links_make}
use Rattle.bhs_replay.proofs.Spelled.{AreSpelled}
use Rattle.bhs_replay.proofs.Spellings.{spelled-event_line}
use Rattle.bhs_replay.proofs.WholeTexts.{not_true, complete}

-- ---- the reply to a kept event may stand in its line

tell_stands : (world : World) (state : State) (agent : ℕ) (command : Command) → heard world state agent command ≡ true
    → may_stand (Tell agent command) (reply world state (Tell agent command)) ≡ true
tell_stands world state agent command is =
    let first = and_parts (nat_lt agent world.agents) _ is in
    let second = and_parts (not state.closed) _ first.1 in
    rw (first.0, not_true state.closed second.0, second.1, eq-eqb agent agent refl) refl

pub stands : (world : World) (state : State) (gone : ℕ → Bool) (event : Event) → keeps world state gone event ≡ true
    → may_stand event (reply world state event) ≡ true
stands world state gone (Tell agent command) is = tell_stands world state agent command is
stands world state gone (Deliver agent) is = refl
stands world state gone Close is = refl

-- ---- each line is spelled

-- the lines of kept events and of what they are answered spell them
spelled_from : (world : World) → WorldFits world → (state : State) (gone : ℕ → Bool) (events : List Event)
    → StateFits state → AllOf IsTyped events → kept_from world state gone events ≡ events
    → AreSpelled events (replies_from world state events)
spelled_from world numbers state gone [] fits typed is = tt
spelled_from world numbers state gone (event ∷ events) fits typed is =
    let all = first_kept world state gone event events is in
    let answer = reply_fits world numbers state event fits typed.0.1 in (
      spelled-event_line event (reply world state event) typed.0.0 answer.numbers
          (stands world state gone event all.first)
          (event_utf8 event (reply world state event) typed.0.0 answer.numbers typed.0.1 answer.text),
      spelled_from world numbers (next world state event) (lost_after world state gone event) events
          (next_fits world numbers state event fits typed.0.1) typed.1 all.others,
    )

-- ---- the match

world_fits : (net : Network) (setup : Setup) → IsNetwork net → WorldFits (world_of net setup)
world_fits net setup network = record { ports = ports_small net network; labels = label_small net network }

few_events : (net : Network) (setup : Setup) (events : List Event) → HasEnded net setup events → length events < 2 ^ 64
few_events net setup events ended =
    let most = kept_bound (world_of net setup) events in
    let few = most_is_small net setup ended.within in
    let same = ap length ended.all_kept in
    omega arith

is_head : (version : Version) (net : Network) (setup : Setup) → CanSay version net setup → IsNetwork net
    → IsWithinLimits net setup → IsNormal net setup → IsHead (head_line version net setup) net setup
is_head version net setup can_say network within in_order = record {
  version = version;
  can_say = can_say;
  spelled = refl;
  made = links_make net network;
  fits = normal_fits net setup network.labelled within in_order;
  normal = in_order;
}

pub every_replay : (version : Version) (net : Network) (setup : Setup) (events : List Event) → CanSay version net setup
    → HasEnded net setup events → Comes (replay version net setup events) (Ends net setup events)
every_replay version net setup events can_say ended =
    complete version net setup events
    (is_head version net setup can_say ended.network ended.within ended.in_order) ended.all_kept ended.closed
    (spelled_from (world_of net setup) (world_fits net setup ended.network) initial nobody events initial_fits
    (by_places IsTyped events ended.typed) ended.all_kept) (few_events net setup events ended)
