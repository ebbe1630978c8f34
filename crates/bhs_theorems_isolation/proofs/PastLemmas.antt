-- How a past grows by what is met, and what is met by equal pasts.
use Rattle.std.proofs.Common.{◌≡◌, ◌∙◌, ℕ, zero, suc, ◌+◌, true, List, [], ◌∷◌, ◌++◌, map, refl, sym, ap, ap₂}
use Rattle.std.proofs.Common.{subst, arith}
use Rattle.bhs_model.specs.declared.commands.Command.{Command}
use Rattle.bhs_model.specs.Views.{View, Start, Told, Arrived, standing}
use Rattle.bhs_model.specs.Replying.{hears}
use Rattle.bhs_theorems_isolation.specs.Met.{Meeting, Hears, Refuses, Arrives, view_from, takes_commands, AreDue}

-- how many steps of a past they make
abbrev steps : List Meeting → ℕ
steps [] = zero
steps (Hears command glance ∷ met) = suc (steps met)
steps (Refuses command ∷ met) = steps met
steps (Arrives sight ∷ met) = suc (steps met)

abbrev pub size : View → ℕ
size Start = zero
size (Told view command glance) = suc (size view)
size (Arrived view sight) = suc (size view)

size-from : (view : View) (met : List Meeting) → size (view_from view met) ≡ steps met + size view
size-from view [] = omega arith
size-from view (Hears command glance ∷ met) = let rest = size-from (Told view command glance) met in omega (arith, rest)
size-from view (Refuses command ∷ met) = size-from view met
size-from view (Arrives sight ∷ met) = let rest = size-from (Arrived view sight) met in omega (arith, rest)

abbrev before : View → View
before Start = Start
before (Told view command glance) = view
before (Arrived view sight) = view

abbrev without_last : ℕ → View → View
without_last zero view = view
without_last (suc count) view = before (without_last count view)

without_last-from : (view : View) (met : List Meeting) → without_last (steps met) (view_from view met) ≡ view
without_last-from view [] = refl
without_last-from view (Hears command glance ∷ met) = ap before (without_last-from (Told view command glance) met)
without_last-from view (Refuses command ∷ met) = without_last-from view met
without_last-from view (Arrives sight ∷ met) = ap before (without_last-from (Arrived view sight) met)

-- pasts of one size that came to the same began alike
pub same_start : (view other : View) (met more : List Meeting) → size view ≡ size other
    → view_from view met ≡ view_from other more → view ≡ other
same_start view other met more sizes same =
    let one = size-from view met in
    let two = size-from other more in
    let whole : size (view_from view met) ≡ size (view_from other more) = ap size same in
    let count : steps met ≡ steps more = omega (arith, one, two, whole, sizes) in
    sym (without_last-from view met) ∙ ap₂ without_last count same ∙ without_last-from other more

-- a past does not come to itself by a step
pub no_circle : (view longer : View) (met : List Meeting)
    → size longer ≡ suc (size view) → view ≡ view_from longer met → ⊥
no_circle view longer met is same =
    let one = size-from longer met in
    let whole : size view ≡ size (view_from longer met) = ap size same in
    absurd (omega (arith, one, whole, is))

-- ---- what is met

-- the commands of these meetings, with their kinds
abbrev pub kinds : (kind : Command → Command) → List Meeting → List Command
kinds kind [] = []
kinds kind (Hears command glance ∷ met) = kind command ∷ kinds kind met
kinds kind (Refuses command ∷ met) = kind command ∷ kinds kind met
kinds kind (Arrives sight ∷ met) = kinds kind met

-- of a command that was not heard its kind alone
abbrev pub kinded : (kind : Command → Command) → Meeting → Meeting
kinded kind (Hears command glance) = Hears command glance
kinded kind (Refuses command) = Refuses (kind command)
kinded kind (Arrives sight) = Arrives sight

module _ (kind : Command → Command) (quota : ℕ) (same_hearing : (view : View) (one two : Command)
    → kind one ≡ kind two → hears quota view one ≡ hears quota view two) where
  -- Pasts that are met with commands of the same kinds first were met alike, where commands are left over only of an
  -- agent of which none is taken.
  pub met_alike : (view : View) (met other : List Meeting) (over more : List Command) → AreDue quota view met
      → AreDue quota view other →
      view_from view met ≡ view_from view other → kinds kind met ++ over ≡ kinds kind other ++ more →
      (takes_commands (standing (view_from view met)) ≡ true → over ≡ [])
      → (takes_commands (standing (view_from view other)) ≡ true → more ≡ [])
      → map (kinded kind) met ≡ map (kinded kind) other
  met_alike view [] [] over more due other_due same said rest rest2 = refl
  met_alike view [] (Hears command glance ∷ other) over more due other_due same said rest rest2 =
      absurd (no_circle view (Told view command glance) other refl same)
  met_alike view [] (Refuses command ∷ other) over more due other_due same said rest rest2 =
      absurd (let none = rest other_due.0.0 in cc)
  met_alike view [] (Arrives sight ∷ other) over more due other_due same said rest rest2 =
      absurd (no_circle view (Arrived view sight) other refl same)
  met_alike view (Hears command glance ∷ met) [] over more due other_due same said rest rest2 =
      absurd (no_circle view (Told view command glance) met refl (sym same))
  met_alike view (Refuses command ∷ met) [] over more due other_due same said rest rest2 =
      absurd (let none = rest2 due.0.0 in cc)
  met_alike view (Arrives sight ∷ met) [] over more due other_due same said rest rest2 =
      absurd (no_circle view (Arrived view sight) met refl (sym same))
  met_alike view (Hears command glance ∷ met) (Hears command2 glance2 ∷ other) over more due other_due same
      said rest rest2 =
      let start : ◌≡◌ {A = View} (Told view command glance) (Told view command2 glance2) =
      same_start (Told view command glance) (Told view command2 glance2) met other refl same in
      let first : ◌≡◌ {A = Meeting} (Hears command glance) (Hears command2 glance2) = cc in
      let said_more : kinds kind met ++ over ≡ kinds kind other ++ more = cc in
      let back : view_from (Told view command2 glance2) other ≡ view_from (Told view command glance) other =
      ap (λ (now : View). view_from now other) (sym start) in
      ap₂ (λ (one : Meeting) (others : List Meeting). one ∷ others) first
      (met_alike (Told view command glance) met other over more due.1
      (subst (λ (now : View). AreDue quota now other) (sym start) other_due.1)
      (same ∙ back) said_more rest (λ takes. rest2 (ap (λ (now : View). takes_commands (standing now)) back ∙ takes)))
  met_alike view (Hears command glance ∷ met) (Refuses command2 ∷ other) over more due other_due same
      said rest rest2 =
      absurd (let one = due.0.1 in let two = other_due.0.1 in let is : kind command ≡ kind command2 = cc in
      let again = same_hearing view command command2 is in cc)
  met_alike view (Hears command glance ∷ met) (Arrives sight ∷ other) over more due other_due same said rest rest2 =
      absurd (let takes = due.0.0 in let away = ap takes_commands other_due.0 in cc)
  met_alike view (Refuses command ∷ met) (Hears command2 glance2 ∷ other) over more due other_due same
      said rest rest2 =
      absurd (let one = due.0.1 in let two = other_due.0.1 in let is : kind command ≡ kind command2 = cc in
      let again = same_hearing view command command2 is in cc)
  met_alike view (Refuses command ∷ met) (Refuses command2 ∷ other) over more due other_due same said rest rest2 =
      let is : kind command ≡ kind command2 = cc in
      let said_more : kinds kind met ++ over ≡ kinds kind other ++ more = cc in
      ap₂ (λ (one : Command) (others : List Meeting). Refuses one ∷ others) is
      (met_alike view met other over more due.1 other_due.1 same said_more rest rest2)
  met_alike view (Refuses command ∷ met) (Arrives sight ∷ other) over more due other_due same said rest rest2 =
      absurd (let takes = due.0.0 in let away = ap takes_commands other_due.0 in cc)
  met_alike view (Arrives sight ∷ met) (Hears command2 glance2 ∷ other) over more due other_due same
      said rest rest2 =
      absurd (let takes = other_due.0.0 in let away = ap takes_commands due.0 in cc)
  met_alike view (Arrives sight ∷ met) (Refuses command2 ∷ other) over more due other_due same said rest rest2 =
      absurd (let takes = other_due.0.0 in let away = ap takes_commands due.0 in cc)
  met_alike view (Arrives sight ∷ met) (Arrives sight2 ∷ other) over more due other_due same said rest rest2 =
      let start : ◌≡◌ {A = View} (Arrived view sight) (Arrived view sight2) =
      same_start (Arrived view sight) (Arrived view sight2) met other refl same in
      let first : ◌≡◌ {A = Meeting} (Arrives sight) (Arrives sight2) = cc in
      let back : view_from (Arrived view sight2) other ≡ view_from (Arrived view sight) other =
      ap (λ (now : View). view_from now other) (sym start) in
      ap₂ (λ (one : Meeting) (others : List Meeting). one ∷ others) first
      (met_alike (Arrived view sight) met other over more due.1
      (subst (λ (now : View). AreDue quota now other) (sym start) other_due.1)
      (same ∙ back) said rest (λ takes. rest2 (ap (λ (now : View). takes_commands (standing now)) back ∙ takes)))
