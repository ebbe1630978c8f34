-- How the passes over a log and its sites go about a twin. That they find what the definitions say is proved of them.
use Rattle.std.specs.Prelude.{ℕ, suc, Bool, false, not, Option, Some, None, List, [], ◌∷◌, if◌then◌else◌}
use Rattle.std.specs.Option.{option_or}
use Rattle.bhs_model.specs.declared.commands.Command.TheVariants.{Accuse}
use Rattle.bhs_model.specs.declared.events.Event.{Event}
use Rattle.bhs_model.specs.declared.events.Event.TheVariants.{Tell, Deliver}
use Rattle.bhs_model.specs.declared.marks.Mark.{Mark}
use Rattle.bhs_model.specs.declared.marks.Mark.TheVariants.{Noted}
use Rattle.bhs_model.specs.declared.marks.Kept.{Kept}
use Rattle.bhs_model.specs.Worlds.{World}
use Rattle.bhs_model.specs.Cuts.{meet}
use Rattle.bhs_view.specs.Twins.{hole_beyond}

-- the black hole that an event with this mark and this site accuses by a link that is not dark
abbrev pub hole_by : World → Event → Option Mark → (site : Option ℕ) → Option ℕ
hole_by world (Tell agent (Accuse port)) (Some Noted) (Some node) = hole_beyond world node port
hole_by world event mark site = None

abbrev pub hole_at : World → Kept → (site : Option ℕ) → Option ℕ
hole_at world kept site = hole_by world kept.event kept.mark site

abbrev pub first_hole : World → List Kept → (sites : List (Option ℕ)) → Option ℕ
first_hole world [] sites = None
first_hole world (kept ∷ log) [] = None
first_hole world (kept ∷ log) (site ∷ sites) = option_or (hole_at world kept site) (first_hole world log sites)

-- whether a Deliver with this site finds its agent bound for a node
abbrev pub is_bound_for : Event → (site old : Option ℕ) → Bool
is_bound_for (Deliver agent) site old = meet old site
is_bound_for event site old = false

abbrev pub left_at : (old : Option ℕ) → List Kept → (sites : List (Option ℕ)) → List Bool
left_at old [] sites = []
left_at old (kept ∷ log) [] = []
left_at old (kept ∷ log) (site ∷ sites) = not (is_bound_for kept.event site old) ∷ left_at old log sites

-- whether an event with this mark and site is an arrival at the node
abbrev pub is_arrival_by : Event → Option Mark → (site : Option ℕ) → (node : ℕ) → Bool
is_arrival_by (Deliver agent) (Some mark) site node = meet (Some node) site
is_arrival_by event mark site node = false

abbrev pub is_arrival_at : Kept → (site : Option ℕ) → (node : ℕ) → Bool
is_arrival_at kept site node = is_arrival_by kept.event kept.mark site node

abbrev pub first_arrival_at : (node place : ℕ) → List Kept → (sites : List (Option ℕ)) → Option ℕ
first_arrival_at node place [] sites = None
first_arrival_at node place (kept ∷ log) [] = None
first_arrival_at node place (kept ∷ log) (site ∷ sites) =
    if is_arrival_at kept site node then Some place else first_arrival_at node (suc place) log sites
