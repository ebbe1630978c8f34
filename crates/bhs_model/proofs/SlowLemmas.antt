-- A match with a black hole and the match whose links into it are only slow are twins.
use Rattle.std.proofs.Common.{ℕ, ◌≡◌, Bool, true, false, not, ◌||◌, Option, Some, None, List, [], ◌∷◌, ◌++◌}
use Rattle.std.proofs.Common.{if◌then◌else◌, option_to_list, refl, sym, ap, ◌∙◌, subst}
use Rattle.std.proofs.lemmas.Bool.{cond-true, cond-false, and_right, or_from, or_left, or_parts}
use Rattle.bhs_model.specs.declared.events.Event.{Event}
use Rattle.bhs_model.specs.declared.events.Event.TheVariants.{Tell, Deliver, Close}
use Rattle.bhs_model.specs.Worlds.{World}
use Rattle.bhs_model.specs.Runs.{Position, Before, At, Bound, After, State, initial, arrives, next}
use Rattle.bhs_model.specs.Runs.{is_doomed}
use Rattle.bhs_model.specs.Twins.{is_struck, strike_from, reveals, RevealsNothing, Twins}
use Rattle.bhs_model.specs.Draws.{Held, is_held, pool, pick, delivery_to, Act, Says, Draws, Closes, event_of_act}
use Rattle.bhs_model.specs.Draws.{next_if, played_from, played, SlowInstead}
use Rattle.bhs_model.specs.Laws.{HoleLooksSlow}
use Rattle.bhs_model.proofs.StepLemmas.{next_no_arrival}
use Rattle.bhs_model.proofs.TwinLemmas.{doomed_not_through, next_twin, twins_look_alike_lemma}

-- two lists of events that meet the twin condition from one state on
pub record InStep (world other : World) (state : State) (events others : List Event) : Type 0 where
  pub struck : strike_from world other state events ≡ strike_from other world state others
  pub reveals_nothing : RevealsNothing world other state events
  pub other_reveals_nothing : RevealsNothing other world state others

-- what an act makes in the two matches: nothing; or one event, which neither destroys; or here a Deliver that destroys
-- and there nothing
abbrev pub MadeAlike : (world other : World) → State → Option Event → Option Event → Type 0
MadeAlike world other state None None = Unit {0}
MadeAlike world other state None (Some event) = ⊥
MadeAlike world other state (Some (Deliver agent)) None = is_doomed world (state.position agent) ≡ true
MadeAlike world other state (Some event) None = ⊥
MadeAlike world other state (Some event) (Some twin) = (event ≡ twin) × (is_struck world other state event ≡ false)

module _ (world : World) (held : Held) (slow : World) (still : Held) (instead : SlowInstead world held slow still) where
  pub harmless_at : (position : Position) → is_doomed slow position ≡ false
  harmless_at (Bound node port) = instead.harmless node port
  harmless_at Before = refl
  harmless_at (At node came) = refl
  harmless_at After = refl

  pub held_at : (position : Position) → is_held still position ≡ (is_held held position || is_doomed world position)
  held_at (Bound node port) = instead.held_too node port
  held_at Before = refl
  held_at (At node came) = refl
  held_at After = refl

  pub let_go_alike : (state : State) (agent : ℕ) (is_kept is_lost is_still : Bool) → is_still ≡ (is_kept || is_lost)
      → is_doomed world (state.position agent) ≡ is_lost →
      MadeAlike world slow state (if is_kept then None else Some (Deliver agent))
      (if is_still then None else Some (Deliver agent))
  let_go_alike state agent true is_lost is_still same lost =
      subst (λ (there : Bool). MadeAlike world slow state None (if there then None else Some (Deliver agent)))
      (sym same) tt
  let_go_alike state agent false true is_still same lost =
      subst (λ (there : Bool). MadeAlike world slow state (Some (Deliver agent))
      (if there then None else Some (Deliver agent))) (sym same) lost
  let_go_alike state agent false false is_still same lost =
      subst (λ (there : Bool). MadeAlike world slow state (Some (Deliver agent))
      (if there then None else Some (Deliver agent))) (sym same)
      (refl, or_from _ _ lost (harmless_at (state.position agent)))

  pub draw_alike : (state : State) (closed : Bool) (picked : Option ℕ) →
      MadeAlike world slow state (if closed then None else delivery_to held state picked)
      (if closed then None else delivery_to still state picked)
  draw_alike state true picked = tt
  draw_alike state false None = tt
  draw_alike state false (Some agent) = let_go_alike state agent _ _ _ (held_at (state.position agent)) refl

  pub made_alike : (state : State) (act : Act) → MadeAlike world slow state (event_of_act held state act)
      (event_of_act still state act)
  made_alike state (Says agent command) = (refl, refl)
  made_alike state (Draws word) = draw_alike state state.closed (pick (pool state) word)
  made_alike state Closes = (refl, refl)

  -- what neither destroys gives nothing away, and is struck from neither side
  pub none_given : (state : State) (event : Event) → is_struck world slow state event ≡ false →
      (reveals world slow state event ≡ false) × (reveals slow world state event ≡ false)
      × (is_struck slow world state event ≡ false)
  none_given state (Tell agent command) unstruck = (refl, refl, refl)
  none_given state (Deliver agent) unstruck =
      let parts =
      or_parts (is_doomed world (state.position agent)) (is_doomed slow (state.position agent)) unstruck
      in (
        and_right (arrives world state agent) _ parts.1,
        and_right (arrives slow state agent) _ parts.0,
        or_from _ _ parts.1 parts.0,
      )
  none_given state Close unstruck = (refl, refl, refl)

  -- Induction step: one act, then the remaining acts.
  pub one_act : (state : State) (acts : List Act) (here there : Option Event) → MadeAlike world slow state here there →
      ((later : State) → InStep world slow later (played_from world held later acts)
      (played_from slow still later acts)) →
      InStep world slow state (option_to_list here ++ played_from world held (next_if world state here) acts)
      (option_to_list there ++ played_from slow still (next_if slow state there) acts)
  one_act state acts None None alike rest = rest state
  one_act state acts None (Some event) alike rest = absurd alike
  one_act state acts (Some (Tell agent command)) None alike rest = absurd alike
  one_act state acts (Some Close) None alike rest = absurd alike
  one_act state acts (Some (Deliver agent)) None alike rest =
      let stays : next world state (Deliver agent) ≡ state =
      next_no_arrival world state agent (and_right (not state.closed) _
      (doomed_not_through world (state.position agent) alike)) in
      record {
        struck = cond-true (is_struck world slow state (Deliver agent)) _ _ (or_left _ _ alike)
            ∙ ap (λ (later : State). strike_from world slow later (played_from world held later acts)) stays
            ∙ (rest state).struck;
        reveals_nothing = (
          and_right (arrives world state agent) _ (harmless_at (state.position agent)),
          subst (λ (later : State). RevealsNothing world slow later (played_from world held later acts)) (sym stays)
              (rest state).reveals_nothing,
        );
        other_reveals_nothing = (rest state).other_reveals_nothing;
      }
  one_act state acts (Some event) (Some twin) alike rest =
      subst (λ (there : Event). InStep world slow state (event ∷ played_from world held (next world state event) acts)
      (there ∷ played_from slow still (next slow state there) acts)) alike.0
      (subst (λ (later : State). InStep world slow state (event ∷ played_from world held (next world state event) acts)
      (event ∷ played_from slow still later acts)) same_next
      (together (rest (next world state event))))
    where
      same_next : next world state event ≡ next slow state event
      same_next = next_twin world slow state event instead.worlds alike.1

      together : InStep world slow (next world state event) (played_from world held (next world state event) acts)
          (played_from slow still (next world state event) acts) →
          InStep world slow state (event ∷ played_from world held (next world state event) acts)
          (event ∷ played_from slow still (next world state event) acts)
      together same =
          let given = none_given state event alike.1 in
          record {
            struck = cond-false (is_struck world slow state event) _ _ alike.1
                ∙ ap (λ (others : List Event). event ∷ others)
                (same.struck ∙ ap (λ (later : State). strike_from slow world later
                (played_from slow still (next world state event) acts)) same_next)
                ∙ sym (cond-false (is_struck slow world state event) _ _ given.2);
            reveals_nothing = (given.0, same.reveals_nothing);
            other_reveals_nothing = (
              given.1,
              subst
                  (λ (later : State). RevealsNothing slow world later
                  (played_from slow still (next world state event) acts)) same_next same.other_reveals_nothing,
            );
          }

  pub in_step : (state : State) (acts : List Act) → InStep world slow state (played_from world held state acts)
      (played_from slow still state acts)
  in_step state [] = record { struck = refl; reveals_nothing = tt; other_reveals_nothing = tt }
  in_step state (act ∷ acts) = one_act state acts (event_of_act held state act) (event_of_act still state act)
      (made_alike state act) (λ later. in_step later acts)

pub hole_looks_slow_lemma : HoleLooksSlow
hole_looks_slow_lemma world held slow still acts instead =
    let together = in_step world held slow still instead initial acts in
    let are_twins : Twins world (played world held acts) slow (played slow still acts) = record {
      worlds = instead.worlds;
      struck = together.struck;
      reveals_nothing = together.reveals_nothing;
      other_reveals_nothing = together.other_reveals_nothing;
    } in
    record {
      twins = are_twins;
      pools = ap pool (twins_look_alike_lemma world (played world held acts) slow (played slow still acts)
          are_twins).states;
    }
