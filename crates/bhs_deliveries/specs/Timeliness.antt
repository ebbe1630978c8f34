-- Whether a log with turns is that of a timed execution under the oblivious schedule of a match's words, as it is found
-- out event by event.
use Rattle.std.specs.Prelude.{ℕ, zero, suc, ◌+◌, ◌-◌, ◌%◌, ◌<◌, ◌≡◌, ◌==◌, Bool, false, Option, Some, None, List, []}
use Rattle.std.specs.Prelude.{◌∷◌, ◌++◌, take, nat_le, nat_lt, if◌then◌else◌, replicate, slice_set, slice_get}
use Rattle.std.specs.Prelude.{slice_index_or}
use Rattle.rand_chacha.specs.ChaCha.{ChaCha}
use Rattle.bhs_net.specs.Network.{Network}
use Rattle.bhs_model.specs.declared.commands.Command.TheVariants.{Depart, Leave}
use Rattle.bhs_model.specs.declared.events.Event.{Event}
use Rattle.bhs_model.specs.declared.events.Event.TheVariants.{Tell, Deliver}
use Rattle.bhs_model.specs.declared.marks.Kept.{Kept}
use Rattle.bhs_model.specs.Marks.{events_of}
use Rattle.bhs_model.specs.Sites.{sites}
use Rattle.bhs_model.specs.Worlds.{World}
use Rattle.bhs_model.specs.Draws.{Held}
use Rattle.bhs_time.specs.Schedules.{Schedule, DelayLaw, delay}
use Rattle.bhs_time.specs.Stamps.{Stamped}
use Rattle.bhs_time.specs.TimedLogs.{IsTimedLog, turn_behind, turns_passed}
use Rattle.bhs_match.specs.Matches.{Play, world_in}
use Rattle.bhs_deliveries.specs.Delaying.{delay_word}
use Rattle.bhs_deliveries.specs.Links.{held_in, is_port_of}
use Rattle.bhs_deliveries.specs.Scheduling.{words_by}
use Rattle.bhs_deliveries.specs.declared.timeliness.Untimely.{Untimely}
use Rattle.bhs_deliveries.specs.declared.timeliness.Untimely.TheVariants.{Early, LeftOut, Late}

-- what decides the deliveries of a match: its words, the law of its delays, its held links, its network, and how many
-- agents it has
pub record DeliveryTerms : Type 0 where
  pub dealer : ChaCha
  pub law : DelayLaw
  pub held : List (ℕ × ℕ)
  pub net : Network
  pub agents : ℕ

-- after how many turns an agent that departed after this many is ready to arrive
abbrev pub due_after : DeliveryTerms → (agent departed : ℕ) → ℕ
due_after terms agent departed =
    departed + delay terms.law.odds terms.law.scales (delay_word terms.dealer agent departed)

-- The due times of a match, by agent: the number of turns after which an agent on a link is ready to arrive. Agents on
-- no link, on a held link, or destroyed have none.
abbrev pub due_of : List (Option ℕ) → (agent : ℕ) → Option ℕ
due_of dues agent = slice_index_or dues agent None

-- whether a due has come
abbrev pub is_due : Option ℕ → (turn : ℕ) → Bool
is_due None turn = false
is_due (Some due) turn = nat_le due turn

-- the agent that a turn picks
abbrev pub picked_by : DeliveryTerms → (turn : ℕ) → ℕ
picked_by terms turn = (words_by terms.dealer).picks turn % terms.agents

-- the agent that a turn delivers, if it delivers one
abbrev pub delivered_by : DeliveryTerms → List (Option ℕ) → (turn : ℕ) → Option ℕ
delivered_by terms dues turn =
    if is_due (due_of dues (picked_by terms turn)) turn then Some (picked_by terms turn) else None

-- pairs the optional agent with its turn; falls back to the alternative
abbrev pub or_else : Option ℕ → (turn : ℕ) → Option (ℕ × ℕ) → Option (ℕ × ℕ)
or_else None turn later = later
or_else (Some agent) turn later = Some (agent, turn)

-- the first of `count` turns that delivers an agent, with that agent
abbrev pub first_delivery : DeliveryTerms → List (Option ℕ) → (from count : ℕ) → Option (ℕ × ℕ)
first_delivery terms dues from zero = None
first_delivery terms dues from (suc count) =
    or_else (delivered_by terms dues from) from (first_delivery terms dues (from + 1) count)

-- the due of an agent that departs by a port of a node
abbrev pub due_on : DeliveryTerms → (node port agent turn : ℕ) → Option ℕ
due_on terms node port agent turn =
    if held_in terms.held node port then None else Some (due_after terms agent turn)

-- the dues after an event with this site and turn
abbrev pub dues_after : DeliveryTerms → List (Option ℕ) → Event → (site : Option ℕ) → (turn : ℕ) → List (Option ℕ)
dues_after terms dues (Tell agent (Depart port)) (Some node) turn =
    if is_port_of terms.net (node, port) then slice_set dues agent (due_on terms node port agent turn) else dues
dues_after terms dues (Tell agent Leave) site turn = slice_set dues agent None
dues_after terms dues (Deliver agent) site turn = slice_set dues agent None
dues_after terms dues event site turn = dues

-- whether this is the agent
abbrev pub is_agent : Option ℕ → (agent : ℕ) → Bool
is_agent None agent = false
is_agent (Some other) agent = agent == other

-- what is wrong with an event in its own turn
abbrev pub late_in : DeliveryTerms → List (Option ℕ) → Event → (turn : ℕ) → Option Untimely
late_in terms dues (Deliver agent) turn =
    if is_agent (delivered_by terms dues turn) agent then None else Some Late
late_in terms dues event turn = None

-- the fault of a delivery that was left out earlier
abbrev pub left_out : Option (ℕ × ℕ) → Option Untimely → Option Untimely
left_out None own = own
left_out (Some found) own = Some (LeftOut found.0 found.1)

-- what is wrong with an event at its turn, if this many turns have passed before it
abbrev pub untimely : DeliveryTerms → List (Option ℕ) → (now : ℕ) → Event → (turn : ℕ) → Option Untimely
untimely terms dues now event turn =
    if nat_lt turn now then Some Early
    else left_out (first_delivery terms dues now (turn - now)) (late_in terms dues event turn)

-- the fault at this place; falls back to the later fault
abbrev pub at_or_later : (place : ℕ) → Option Untimely → Option (ℕ × Untimely) → Option (ℕ × Untimely)
at_or_later place None later = later
at_or_later place (Some why) later = Some (place, why)

-- the first event that is wrong, with its place, where the first event has this place and this many turns have passed
abbrev pub untimely_from : DeliveryTerms → List (Option ℕ) → (now place : ℕ) → List Kept → List (Option ℕ)
    → (turns : List ℕ)
    → Option (ℕ × Untimely)
untimely_from terms dues now place (one ∷ log) (site ∷ sites) (turn ∷ turns) =
    at_or_later place (untimely terms dues now one.event turn)
    (untimely_from terms (dues_after terms dues one.event site turn) (turn_behind one.event turn) (place + 1) log
    sites turns)
untimely_from terms dues now place log sites turns = None

abbrev pub untimely_in : DeliveryTerms → Play → (turns : List ℕ) → Option (ℕ × Untimely)
untimely_in terms play turns =
    untimely_from terms (replicate play.setup.agents None) 0 0 play.log
    (sites (world_in play) (events_of play.log)) turns

-- The reason why an event of a log, with its turn, cannot follow the events before it.
abbrev pub IsReason : Untimely → World → Held → Schedule → (before : List Stamped) → Stamped → Type 0
IsReason Early world held schedule before one = one.turn < turns_passed 0 before
IsReason (LeftOut agent turn) world held schedule before one =
    (turn < one.turn)
    × IsTimedLog world held schedule (before ++ record { event = Deliver agent; turn = turn } ∷ [])
IsReason Late world held schedule before one = (agent : ℕ) × (one.event ≡ Deliver agent)

-- The events before this place are the log of a timed execution; together with the event at this place they are not.
pub record IsUntimelyAt (world : World) (held : Held) (schedule : Schedule) (stamps : List Stamped) (place : ℕ)
    (why : Untimely) : Type 0 where
  pub before : IsTimedLog world held schedule (take place stamps)
  pub never : ¬ IsTimedLog world held schedule (take (suc place) stamps)
  pub one : Stamped
  pub there : slice_get stamps place ≡ Some one
  pub reason : IsReason why world held schedule (take place stamps) one
