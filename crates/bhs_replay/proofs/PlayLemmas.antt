-- What the next line leads to, from where a reader stands.
use Rattle.std.proofs.Common.{◌≡◌, ◌⊎◌, inl, inr, ℕ, List, Bool, true, false, Option, Some, None, option_map, refl}
use Rattle.std.proofs.Common.{sym, ◌∙◌, subst}
use Rattle.bhs_net.specs.Network.{Network}
use Rattle.bhs_model.specs.declared.setups.Setup.{Setup}
use Rattle.bhs_model.specs.declared.events.Event.{Event}
use Rattle.bhs_model.specs.declared.replies.Reply.{Reply}
use Rattle.bhs_model.specs.declared.marks.Kept.{Kept}
use Rattle.bhs_model.specs.Marks.{events_of}
use Rattle.bhs_match.specs.Matches.{Play}
use Rattle.bhs_replay.specs.declared.faults.ReplayFault.{ReplayFault}
use Rattle.bhs_replay.specs.declared.faults.ReplayFault.TheVariants as fault
use Rattle.bhs_replay.specs.declared.reader.Playing.{Playing}
use Rattle.bhs_replay.specs.Opening.{OpensAs}
use Rattle.bhs_replay.specs.Spelling.{spelled}
use Rattle.bhs_replay.specs.Stages.{ReadState, Goes, Wrong, after_line, after_other, after_spelled, Follows, opens}
use Rattle.bhs_replay.specs.Stages.{no_head}
use Rattle.bhs_replay.specs.Stages.{goes, goes_past}
use Rattle.bhs_replay.specs.Reading.{stage_of}
use Rattle.bhs_replay.specs.Readers.{stage_by}

module _ (line : List ℕ) where
  pub past_end : (game : Play) (over : Bool) → over ≡ true → Follows (stage_of game over) line (Wrong fault.End)
  past_end game over is = subst (λ b. Follows (stage_of game b) line (Wrong fault.End)) (sym is)
      (goes_past line game.net game.setup (events_of game.log))

  pub on_line : (game : Play) (over : Bool) (to : ReadState) → over ≡ false
      → to ≡ after_line game.net game.setup (events_of game.log) line → Follows (stage_of game over) line to
  on_line game over to is next = subst (λ b. Follows (stage_of game b) line to) (sym is)
      (goes line game.net game.setup (events_of game.log) to next)

  pub on_fault : (game : Play) (over : Bool) (found : ReplayFault) → over ≡ false → (found ≡ fault.Memory)
      ⊎ (Wrong found ≡ after_line game.net game.setup (events_of game.log) line)
      → (found ≡ fault.Memory) ⊎ Follows (stage_of game over) line (Wrong found)
  on_fault game over found is (inl memory) = inl memory
  on_fault game over found is (inr next) = inr (on_line game over (Wrong found) is next)

  pub opens_match : (playing : Option Playing) (game : Play) → playing ≡ None → OpensAs line (Some game)
      → Follows (stage_by playing) line (Goes game.net game.setup (events_of game.log))
  opens_match playing game is head =
      subst (λ p. Follows (stage_by p) line (Goes game.net game.setup (events_of game.log))) (sym is)
      (subst (λ (log : List Kept). Follows (stage_by None) line (Goes game.net game.setup (events_of log))) (sym head.1)
      (opens line game.net game.setup head.0))

  pub opens_none : (playing : Option Playing) → playing ≡ None → OpensAs line None
      → Follows (stage_by playing) line (Wrong fault.Head)
  opens_none playing is none = subst (λ p. Follows (stage_by p) line (Wrong fault.Head)) (sym is) (no_head line none)

-- ---- a line that spells no event

abbrev event_of : Option (Event × Option Reply) → Option Event
event_of found = option_map (λ (one : Event × Option Reply). one.0) found

module _ (net : Network) (setup : Setup) (events : List Event) (line : List ℕ) where
  other : (found : Option (Event × Option Reply)) → None ≡ event_of found
      → after_other net setup events line ≡ after_spelled net setup events line found
  other None none = refl
  other (Some found) none = absurd (cc)

  pub other_line : (event : Option Event) → event ≡ None → event ≡ event_of (spelled line)
      → after_other net setup events line ≡ after_line net setup events line
  other_line event none is = other (spelled line) (sym none ∙ is)

  pub other_fault : (event : Option Event) → event ≡ None → event ≡ event_of (spelled line) → (found : ReplayFault)
      → (found ≡ fault.Memory) ⊎ (Wrong found ≡ after_other net setup events line)
      → (found ≡ fault.Memory) ⊎ (Wrong found ≡ after_line net setup events line)
  other_fault event none is found (inl memory) = inl memory
  other_fault event none is found (inr wrong) = inr (wrong ∙ other_line event none is)
