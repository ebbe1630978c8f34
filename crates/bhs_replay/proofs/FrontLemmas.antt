-- Each front of a replay is a part.
use Rattle.std.proofs.Common.{◌≡◌, ℕ, List, [], ◌∷◌, ◌++◌, length, refl, sym, subst, ap, ◌∙◌, arith, append_assoc}
use Rattle.std.proofs.Common.{append-nil, length-append}
use Rattle.std.proofs.lemmas.List.{same_from_push}
use Rattle.bhs_net.specs.Network.{Network}
use Rattle.bhs_model.specs.declared.setups.Setup.{Setup}
use Rattle.bhs_model.specs.declared.events.Event.{Event}
use Rattle.bhs_wire.specs.Lines.{rest_after}
use Rattle.bhs_replay.specs.declared.faults.ReplayFault.{ReplayFault}
use Rattle.bhs_replay.specs.Parts.{FrontsAreParts}
use Rattle.bhs_replay.specs.Reading.{IsSound}
use Rattle.bhs_replay.specs.Stages.{ReadState, Opens, Goes, Ends, Wrong, Leads, begins, follows, ended, ended_after}
use Rattle.bhs_replay.proofs.OneReading.{one_reading}
use Rattle.bhs_replay.proofs.ReaderLemmas.{comes_wrong}
use Rattle.bhs_replay.proofs.TextLines.{ended-append}

-- a list that is not empty ends in an element
last_of : {A : Type 0} (x : A) (xs : List A) → (front : List A) × (last : A) × (x ∷ xs ≡ front ++ last ∷ [])
last_of x [] = ([], x, refl)
last_of x (y ∷ ys) = let found = last_of y ys in (x ∷ found.0, found.1, ap (λ zs. x ∷ zs) found.2)

nothing_behind : (front : List (List ℕ)) (x : List ℕ) (xs : List (List ℕ)) → [] ≡ front ++ x ∷ xs → ⊥
nothing_behind front x xs same =
    let none : 0 ≡ length (front ++ x ∷ xs) = ap length same in omega (arith, none, length-append front (x ∷ xs))

-- the first of some lines lead to a stage
leads_front : (front all : List (List ℕ)) (stage : ReadState) → Leads all stage → (back : List (List ℕ))
    → all ≡ front ++ back → (here : ReadState) × Leads front here
leads_front front all stage led [] same =
    (stage, subst (λ (lines : List (List ℕ)). Leads lines stage) (same ∙ append-nil front) led)
leads_front front all stage begins (x ∷ xs) same = absurd (nothing_behind front x xs same)
leads_front front all stage (follows before line from to leads next) (x ∷ xs) same =
    let found = last_of x xs in
    let parts = same_from_push before (front ++ found.0) line found.1
    (same ∙ ap (λ (ys : List (List ℕ)). front ++ ys) found.2 ∙ sym (append_assoc front found.0 (found.1 ∷ []))) in
    leads_front front before from leads found.0 parts.0

sound_unless : (stage : ReadState) → ((found : ReplayFault) → stage ≡ Wrong found → ⊥) → IsSound stage
sound_unless Opens none = tt
sound_unless (Goes net setup events) none = tt
sound_unless (Ends net setup events) none = tt
sound_unless (Wrong found) none = absurd (none found refl)

apart : (net : Network) (setup : Setup) (events : List Event) (found : ReplayFault)
    → Ends net setup events ≡ Wrong found → ⊥
apart net setup events found is = cc

pub fronts_are_parts_lemma : FrontsAreParts
fronts_are_parts_lemma front more net setup events comes =
    let found = leads_front (ended front) (ended (front ++ more)) comes.lines comes.leads
    (ended_after (rest_after [] front) more) (ended-append [] front more) in (
      found.0,
      found.1,
      sound_unless found.0 (λ fault is. apart net setup events fault
          (one_reading (front ++ more) (Ends net setup events) (Wrong fault) comes
          (comes_wrong front more fault (subst (λ (s : ReadState). Leads (ended front) s) is found.1)))),
    )
