-- The backward walk over a log: it collects the events that the chosen places need. Its agreement with the model's cut
-- is proved.
use Rattle.std.specs.Prelude.{ℕ, ◌<◌, ◌≡◌, Bool, true, false, ◌&&◌, ◌||◌, Option, Some, None, List, [], ◌∷◌}
use Rattle.std.specs.Prelude.{length, replicate, slice_index_or, slice_set, IfSome}
use Rattle.std.specs.List.{AllByRecursion, list_any}
use Rattle.bhs_model.specs.declared.commands.Command.TheVariants.{Enter, Look, Write}
use Rattle.bhs_model.specs.declared.events.Event.{Event}
use Rattle.bhs_model.specs.declared.events.Event.TheVariants.{Tell, Deliver, Close}
use Rattle.bhs_model.specs.declared.marks.Mark.{Mark}
use Rattle.bhs_model.specs.declared.marks.Kept.{Kept}
use Rattle.bhs_model.specs.Cuts.{Footprint, meet}
use Rattle.bhs_view.specs.Entries.{closes}

-- whose event this is
abbrev pub who_of : Event → Option ℕ
who_of (Tell agent command) = Some agent
who_of (Deliver agent) = Some agent
who_of Close = None

abbrev pub written_by : Event → (seen : Option ℕ) → Option ℕ
written_by (Tell agent (Write expect put)) seen = seen
written_by event seen = None

-- the node that an event with this mark and this site sees: Enter, Look and Write see it, and so does a Deliver that is
-- answered
abbrev pub seen_by : Event → Option Mark → Option ℕ → Option ℕ
seen_by (Tell agent Enter) mark site = site
seen_by (Tell agent Look) mark site = site
seen_by (Tell agent (Write expect put)) mark site = site
seen_by (Deliver agent) (Some mark) site = site
seen_by event mark site = None

-- the footprint of an event that sees this node
abbrev pub footprint_by : Event → (seen : Option ℕ) → Footprint
footprint_by event seen =
    record { who = who_of event; seen = seen; written = written_by event seen; closes = closes event }

-- the footprint of a place of a log, by its site
abbrev pub footprint_at : Kept → (site : Option ℕ) → Footprint
footprint_at kept site = footprint_by kept.event (seen_by kept.event kept.mark site)

abbrev pub footprints_at : List Kept → (sites : List (Option ℕ)) → List Footprint
footprints_at [] sites = []
footprints_at (kept ∷ log) [] = []
footprints_at (kept ∷ log) (site ∷ sites) = footprint_at kept site ∷ footprints_at log sites

-- what chosen places need of the earlier ones: those of these agents, those that write these nodes, and, where there is
-- any chosen place, each Close
pub record Needed : Type 0 where
  pub agents : List Bool
  pub nodes : List Bool
  pub any : Bool

abbrev pub nothing_needed : (agents nodes : ℕ) → Needed
nothing_needed agents nodes = record { agents = replicate agents false; nodes = replicate nodes false; any = false }

abbrev pub marked : List Bool → Option ℕ → Bool
marked marks None = false
marked marks (Some place) = slice_index_or marks place false

abbrev pub marks_with : List Bool → Option ℕ → List Bool
marks_with marks None = marks
marks_with marks (Some place) = slice_set marks place true

-- whether a place is needed
abbrev pub is_needed : Needed → Footprint → Bool
is_needed needed early =
    (early.closes && needed.any) || (marked needed.agents early.who || marked needed.nodes early.written)

-- what is needed where one more place is chosen
abbrev pub needed_after : Needed → Footprint → Needed
needed_after needed late =
    record { agents = marks_with needed.agents late.who; nodes = marks_with needed.nodes late.seen; any = true }

-- The agent and the node of a footprint exist.
pub record IsInRange (agents nodes : ℕ) (footprint : Footprint) : Type 0 where
  pub who : IfSome footprint.who (λ agent. agent < agents)
  pub seen : IfSome footprint.seen (λ node. node < nodes)

abbrev pub AreInRange : (agents nodes : ℕ) → List Footprint → Type 0
AreInRange agents nodes footprints = AllByRecursion (IsInRange agents nodes) footprints

-- what is needed is what these chosen places need, and all places of this agent
pub record AreNeeded (needed : Needed) (own : Option ℕ) (chosen : List Footprint) : Type 0 where
  pub agents : (agent : ℕ) → agent < length needed.agents → slice_index_or needed.agents agent false
      ≡ (meet own (Some agent) || list_any (λ late. meet late.who (Some agent)) chosen)
  pub nodes : (node : ℕ) → node < length needed.nodes →
      slice_index_or needed.nodes node false ≡ list_any (λ late. meet late.seen (Some node)) chosen
  pub any : needed.any ≡ list_any (λ late. true) chosen
