-- The match of a reader's stage, and the faults of texts.
use Rattle.std.proofs.Common.{◌≡◌, ℕ, List, [], ◌∷◌, ◌++◌, Bool, true, false, not, ◌&&◌, if◌then◌else◌, Option, Some}
use Rattle.std.proofs.Common.{None, refl, sym, subst}
use Rattle.bhs_net.specs.Network.{Network}
use Rattle.bhs_model.specs.declared.setups.Setup.{Setup}
use Rattle.bhs_model.specs.declared.events.Event.{Event}
use Rattle.bhs_model.specs.declared.replies.Reply.{Reply}
use Rattle.bhs_model.specs.Setups.{world_of}
use Rattle.bhs_model.specs.Runs.{run}
use Rattle.bhs_wire.specs.Lines.{rest}
use Rattle.bhs_replay.specs.declared.faults.ReplayFault.{ReplayFault}
use Rattle.bhs_replay.specs.declared.faults.ReplayFault.TheVariants as fault
use Rattle.bhs_replay.specs.Spelling.{spelled}
use Rattle.bhs_replay.specs.Stages.{ReadState, Opens, Goes, Ends, Wrong, next_number, is_end_line, after_spelled}
use Rattle.bhs_replay.specs.Stages.{Follows}
use Rattle.bhs_replay.specs.Stages.{opens, no_head, goes, goes_past, stays, Leads, begins, follows, with_rest, Comes}
use Rattle.bhs_replay.specs.Stages.{ended}

-- a fault of a text, whatever its reads
abbrev pub IsOfText : ReplayFault → Type 0
IsOfText fault.Read = ⊥
IsOfText fault.Memory = ⊥
IsOfText fault.Turns = ⊥
IsOfText found = Unit {0}

-- the end line stands behind a close, and a fault is one of the text
abbrev pub IsProper : ReadState → Type 0
IsProper Opens = Unit {0}
IsProper (Goes net setup events) = Unit {0}
IsProper (Ends net setup events) = (run (world_of net setup) events).closed ≡ true
IsProper (Wrong found) = IsOfText found

module _ (net : Network) (setup : Setup) (events : List Event) (line : List ℕ) where
  event_proper : (event : Event) (closed keep same : Bool)
      → IsProper (if closed then Wrong (fault.Line (next_number events))
      else (if not keep then Wrong (fault.Event (next_number events))
      else (if same then Goes net setup (events ++ event ∷ []) else Wrong (fault.Differs (next_number events)))))
  event_proper event true keep same = tt
  event_proper event false false same = tt
  event_proper event false true true = tt
  event_proper event false true false = tt

  fault_proper : (b : Bool) → IsProper (Wrong (if b then fault.End else fault.Line (next_number events)))
  fault_proper true = tt
  fault_proper false = tt

  other_proper : (closed same is_end : Bool) → (run (world_of net setup) events).closed ≡ closed
      → IsProper (if closed && same then Ends net setup events else Wrong
      (if is_end then fault.End else fault.Line (next_number events)))
  other_proper true true is_end is = is
  other_proper true false is_end is = fault_proper is_end
  other_proper false same is_end is = fault_proper is_end

  spelled_proper : (found : Option (Event × Option Reply)) → IsProper (after_spelled net setup events line found)
  spelled_proper (Some (event, answer)) = event_proper event _ _ _
  spelled_proper None = other_proper _ _ (is_end_line line) refl

follows_proper : (from to : ReadState) (line : List ℕ) → Follows from line to → IsProper from → IsProper to
follows_proper from to line (opens same net setup head) proper = tt
follows_proper from to line (no_head same none) proper = tt
follows_proper from to line (goes same net setup events next is) proper =
    subst IsProper (sym is) (spelled_proper net setup events same (spelled same))
follows_proper from to line (goes_past same net setup events) proper = tt
follows_proper from to line (stays same found) proper = proper

pub leads_proper : (lines : List (List ℕ)) (stage : ReadState) → Leads lines stage → IsProper stage
leads_proper lines stage begins = tt
leads_proper lines stage (follows before line from to leads next) =
    follows_proper from to line next (leads_proper before from leads)

rest_proper : (bytes : List ℕ) (stage : ReadState) → IsProper stage → IsProper (with_rest bytes stage)
rest_proper [] stage proper = proper
rest_proper (byte ∷ bytes) Opens proper = tt
rest_proper (byte ∷ bytes) (Goes net setup events) proper = tt
rest_proper (byte ∷ bytes) (Ends net setup events) proper = tt
rest_proper (byte ∷ bytes) (Wrong found) proper = proper

pub comes_proper : (text : List ℕ) (stage : ReadState) → Comes text stage → IsProper stage
comes_proper text stage comes = subst IsProper (sym comes.same)
    (rest_proper (rest text) comes.lines (leads_proper (ended text) comes.lines comes.leads))
