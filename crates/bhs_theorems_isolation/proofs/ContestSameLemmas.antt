-- A past and the commands say what was written.
use Rattle.std.proofs.Common.{suc, ◌≡◌, ◌∙◌, ℕ, ◌⊎◌, inl, inr, Bool, true, List, [], ◌∷◌, ◌++◌, map, length, refl, sym}
use Rattle.std.proofs.Common.{ap, ap₂, subst, arith, append-nil, append_assoc, length-append}
use Rattle.std.proofs.lemmas.List.{map-append}
use Rattle.bhs_model.specs.declared.commands.Command.{Command}
use Rattle.bhs_model.specs.declared.commands.Command.TheVariants as commands
use Rattle.bhs_model.specs.declared.replies.Reply.{Reply}
use Rattle.bhs_model.specs.declared.replies.Reply.TheVariants as replies
use Rattle.bhs_model.specs.declared.replies.Why.{Why}
use Rattle.bhs_model.specs.Views.{View, Start, Told, Arrived, Nothing, Standing, Ended, standing, standing_after, ports}
use Rattle.bhs_model.specs.Replying.{accepts, hears, refusal}
use Rattle.bhs_shared_match.specs.Passes.{kind_of, kept_command}
use Rattle.bhs_session.specs.Texts.{text_of}
use Rattle.bhs_theorems_isolation.specs.Met.{Meeting, Hears, Refuses, Arrives, view_from, view_of, answer_to}
use Rattle.bhs_theorems_isolation.specs.Met.{bytes_from, bytes}
use Rattle.bhs_theorems_isolation.specs.Met.{takes_commands, IsDue, AreDue}
use Rattle.bhs_theorems_isolation.proofs.MeetingLemmas.{view_from-append, due-append}
use Rattle.bhs_theorems_isolation.proofs.PastLemmas.{kinds, kinded, met_alike}
use Rattle.bhs_theorems_isolation.specs.ContestMet.{Attended, fed, TookPart, AreSaid, IsLeftAs, is_whole, IsSentAsMet}
use Rattle.bhs_match.specs.Matches.{state_of}
use Rattle.bhs_theorems_isolation.proofs.ContestMetLemmas.{sent_as_met_lemma}

-- ---- the kinds of commands

kind_kept : (command : Command) (reply : Reply) → kind_of (kept_command command reply) ≡ kind_of command
kind_kept command reply = grind arith

pub kinds_said : (limit : ℕ) (view : View) (met : List Meeting) (said : List Command) → AreSaid limit view met said
    → kinds kind_of met ≡ map kind_of said
kinds_said limit view [] [] are = refl
kinds_said limit view [] (own ∷ said) are = absurd are
kinds_said limit view (Hears command glance ∷ met) [] are = absurd are
kinds_said limit view (Hears command glance ∷ met) (own ∷ said) are =
    let reply = answer_to limit view (Hears command glance) in
    ap₂ (λ (one : Command) (others : List Command). one ∷ others)
    (sym (kind_kept command reply) ∙ ap kind_of are.0 ∙ kind_kept own reply)
    (kinds_said limit (Told view command glance) met said are.1)
kinds_said limit view (Refuses command ∷ met) [] are = absurd are
kinds_said limit view (Refuses command ∷ met) (own ∷ said) are =
    ap₂ (λ (one : Command) (others : List Command). one ∷ others) (ap kind_of are.0)
    (kinds_said limit view met said are.1)
kinds_said limit view (Arrives sight ∷ met) said are = kinds_said limit (Arrived view sight) met said are

-- whether a command is heard, and why it is refused, goes by its kind
accepts_kind : (stands : Standing) (room : Bool) (command : Command)
    → accepts stands room (kind_of command) ≡ accepts stands room command
accepts_kind stands room command = grind arith

refusal_kind : (stands : Standing) (command : Command) → refusal stands (kind_of command) ≡ refusal stands command
refusal_kind stands command = grind arith

same_hearing : (quota : ℕ) (view : View) (one two : Command) → kind_of one ≡ kind_of two
    → hears quota view one ≡ hears quota view two
same_hearing quota view one two same =
    sym (accepts_kind (standing view) _ one) ∙ ap (accepts (standing view) _) same
    ∙ accepts_kind (standing view) _ two

-- ---- equal pasts

bytes_kinded : (limit : ℕ) (view : View) (met : List Meeting)
    → bytes_from limit view (map (kinded kind_of) met) ≡ bytes_from limit view met
bytes_kinded limit view [] = refl
bytes_kinded limit view (Hears command glance ∷ met) =
    ap (λ (rest : List ℕ). text_of (answer_to limit view (Hears command glance)) ++ rest)
    (bytes_kinded limit (Told view command glance) met)
bytes_kinded limit view (Refuses command ∷ met) =
    ap₂ (λ (why : Why) (rest : List ℕ). text_of (replies.No why) ++ rest) (refusal_kind (standing view) command)
    (bytes_kinded limit view met)
bytes_kinded limit view (Arrives sight ∷ met) =
    ap (λ (rest : List ℕ). text_of (answer_to limit view (Arrives sight)) ++ rest)
    (bytes_kinded limit (Arrived view sight) met)

length_kinded : (met : List Meeting) → length (kinds kind_of (map (kinded kind_of) met)) ≡ length (kinds kind_of met)
length_kinded [] = refl
length_kinded (Hears command glance ∷ met) = ap suc (length_kinded met)
length_kinded (Refuses command ∷ met) = ap suc (length_kinded met)
length_kinded (Arrives sight ∷ met) = length_kinded met

pub same_met : (quota : ℕ) (met other : List Meeting) (over more : List Command) → AreDue quota Start met
    → AreDue quota Start other → view_of met ≡ view_of other
    → kinds kind_of met ++ over ≡ kinds kind_of other ++ more →
    (takes_commands (standing (view_of met)) ≡ true → over ≡ [])
    → (takes_commands (standing (view_of other)) ≡ true → more ≡ [])
    → map (kinded kind_of) met ≡ map (kinded kind_of) other
same_met quota = met_alike kind_of quota (same_hearing quota) Start

pub same_bytes : (limit : ℕ) (met other : List Meeting) → map (kinded kind_of) met ≡ map (kinded kind_of) other
    → bytes limit met ≡ bytes limit other
same_bytes limit met other same =
    sym (bytes_kinded limit Start met) ∙ ap (bytes limit) same ∙ bytes_kinded limit Start other

-- ---- a Leave that an ending told

-- the last step of a past was due
last_due : (quota : ℕ) (view last : View) (met : List Meeting) → AreDue quota view met
    → view_from view met ≡ Told last commands.Leave Nothing →
    (view ≡ Told last commands.Leave Nothing) ⊎ IsDue quota last (Hears commands.Leave Nothing)
last_due quota view last [] due is = inl is
last_due quota view last (Refuses command ∷ met) due is = last_due quota view last met due.1 is
last_due quota view last (Hears command glance ∷ met) due is =
    elim (last_due quota (Told view command glance) last met due.1 is) [
      | inl same ↦
          let now : view ≡ last = cc in
          let leaves : command ≡ commands.Leave = cc in
          inr (subst (λ (one : View). IsDue quota one (Hears commands.Leave Nothing)) now
          (due.0.0, ap (hears quota view) (sym leaves) ∙ due.0.1))
      | inr later ↦ inr later
    ]
last_due quota view last (Arrives sight ∷ met) due is =
    elim (last_due quota (Arrived view sight) last met due.1 is) [
      | inl same ↦ absurd (cc)
      | inr later ↦ inr later
    ]

kinds-append : (met more : List Meeting) → kinds kind_of (met ++ more) ≡ kinds kind_of met ++ kinds kind_of more
kinds-append [] more = refl
kinds-append (Hears command glance ∷ met) more =
    ap (λ (rest : List Command). kind_of command ∷ rest) (kinds-append met more)
kinds-append (Refuses command ∷ met) more =
    ap (λ (rest : List Command). kind_of command ∷ rest) (kinds-append met more)
kinds-append (Arrives sight ∷ met) more = kinds-append met more

-- of two sessions that were fed commands of the same kinds, and whose agents have one past, neither was made to leave
-- alone
never_alone : (quota limit : ℕ) (met other : List Meeting) (over : List Command) → AreDue quota Start met
    → AreDue quota Start other → view_of met ≡ Told (view_of other) commands.Leave Nothing →
    IsDue quota (view_of other) (Hears commands.Leave Nothing) → kinds kind_of met ++ over ≡ kinds kind_of other → ⊥
never_alone quota limit met other over due other_due is leave said =
    let longer : List Meeting = other ++ Hears commands.Leave Nothing ∷ [] in
    let same = same_met quota met longer (over ++ commands.Leave ∷ []) [] due
    (due-append quota Start other (Hears commands.Leave Nothing ∷ []) other_due (leave, tt))
    (is ∙ sym (view_from-append Start other (Hears commands.Leave Nothing ∷ [])))
    (sym (append_assoc (kinds kind_of met) over (commands.Leave ∷ []))
    ∙ ap (λ (first : List Command). first ++ commands.Leave ∷ []) said
    ∙ sym (kinds-append other (Hears commands.Leave Nothing ∷ [])) ∙ sym (append-nil (kinds kind_of longer)))
    (λ takes. absurd (let ended = ap (λ (view : View). takes_commands (standing view)) is in
    no_more (standing (view_of other)) (ports (view_of other)) (sym ended ∙ takes)))
    (λ takes. refl) in
    let counts = sym (length_kinded met) ∙ ap (λ (all : List Meeting). length (kinds kind_of all)) same
    ∙ length_kinded longer ∙ ap length (kinds-append other (Hears commands.Leave Nothing ∷ [])) in
    let longer_by = length-append (kinds kind_of other) (commands.Leave ∷ []) in
    let shorter = ap length said in
    let shorter_by = length-append (kinds kind_of met) over in
    absurd (omega (arith, counts, longer_by, shorter, shorter_by))
  where
    no_more : (stands : Standing) (count : ℕ) → takes_commands (standing_after stands count commands.Leave) ≡ true → ⊥
    no_more stands count takes = grind arith

-- ---- the headline

-- either nothing more was fed, or the agent has ended
abbrev IsDone : View → List Command → Type 0
IsDone view more = (more ≡ []) ⊎ (standing view ≡ Ended)

takes_none : (view : View) (more : List Command) → IsDone view more → takes_commands (standing view) ≡ true → more ≡ []
takes_none view more (inl none) takes = none
takes_none view more (inr ended) takes = absurd (let never = ap takes_commands ended in cc)

-- one that was made to leave alone
left_alone : (quota limit : ℕ) (met other : List Meeting) (over more : List Command) → AreDue quota Start met
    → AreDue quota Start other → view_of met ≡ Told (view_of other) commands.Leave Nothing →
    IsDone (view_of other) more → kinds kind_of met ++ over ≡ kinds kind_of other ++ more → ⊥
left_alone quota limit met other over more due other_due is done said =
    elim (last_due quota Start (view_of other) met due is) [
      | inl never ↦ absurd (cc)
      | inr leave ↦ never_alone quota limit met other over due other_due is leave
          (said
          ∙ ap (λ (rest : List Command). kinds kind_of other ++ rest) (takes_none (view_of other) more done leave.0)
          ∙ append-nil (kinds kind_of other))
    ]

same_sent : (quota limit : ℕ) (met other : List Meeting) (over more : List Command) (past : View)
    → AreDue quota Start met → AreDue quota Start other → IsLeftAs (view_of met) past → IsLeftAs (view_of other) past
    → IsDone (view_of met) over → IsDone (view_of other) more →
    kinds kind_of met ++ over ≡ kinds kind_of other ++ more → bytes limit met ≡ bytes limit other
same_sent quota limit met other over more past due other_due (inl one) (inl two) done done2 said =
    same_bytes limit met other (same_met quota met other over more due other_due (sym one ∙ two) said
    (takes_none (view_of met) over done) (takes_none (view_of other) more done2))
same_sent quota limit met other over more past due other_due (inl one) (inr two) done done2 said =
    absurd (left_alone quota limit met other over more due other_due (sym one ∙ two) done2 said)
same_sent quota limit met other over more past due other_due (inr one) (inl two) done done2 said =
    absurd (left_alone quota limit other met more over other_due due (sym two ∙ one) done (sym said))
same_sent quota limit met other over more past due other_due (inr one) (inr two) done done2 said =
    let told : ◌≡◌ {A = View} (Told (view_of met) commands.Leave Nothing)
    (Told (view_of other) commands.Leave Nothing) = sym one ∙ two in
    let same : view_of met ≡ view_of other = cc in
    same_bytes limit met other (same_met quota met other over more due other_due same said
    (takes_none (view_of met) over done) (takes_none (view_of other) more done2))

-- all that was written, where nothing is left
all_sent : (one : Attended) (is : IsSentAsMet one) → is_whole one.ended ≡ true
    → one.written ≡ bytes one.play.setup.board is.met
all_sent one is whole =
    let none = is.whole whole in
    sym (append-nil one.written) ∙ ap (λ (rest : List ℕ). one.written ++ rest) (sym none.2) ∙ is.sent
    ∙ ap (λ (rest : List ℕ). bytes one.play.setup.board is.met ++ rest) none.1
    ∙ append-nil (bytes one.play.setup.board is.met)

-- every command that was taken
all_said : (one : Attended) (is : IsSentAsMet one) → is_whole one.ended ≡ true
    → kinds kind_of is.met ≡ map kind_of one.said
all_said one is whole =
    let none = is.whole whole in
    kinds_said one.play.setup.board Start is.met is.heard is.are_said
    ∙ ap (map kind_of) (sym (append-nil is.heard) ∙ ap (λ (rest : List Command). is.heard ++ rest) (sym none.0)
    ∙ sym is.said)

-- what was fed
all_fed : (one : Attended) (is : IsSentAsMet one) → is_whole one.ended ≡ true
    → kinds kind_of is.met ++ map kind_of one.more ≡ map kind_of (fed one)
all_fed one is whole =
    ap (λ (first : List Command). first ++ map kind_of one.more) (all_said one is whole)
    ∙ sym (map-append kind_of one.said one.more)

all_done : (one : Attended) → TookPart one → (is : IsSentAsMet one) → is_whole one.ended ≡ true
    → IsDone (view_of is.met) (map kind_of one.more)
all_done one part is whole = elim (is.whole whole).4 [
  | inl between ↦ inl (ap (map kind_of) (part.none_more between))
  | inr ended ↦ inr ended
]

pub equal_bytes_if_whole : (one two : Attended) → TookPart one → TookPart two → is_whole one.ended ≡ true →
    is_whole two.ended ≡ true → one.play.setup.quota ≡ two.play.setup.quota →
    one.play.setup.board ≡ two.play.setup.board →
    (state_of one.play).past one.pass.agent ≡ (state_of two.play).past two.pass.agent →
    fed one ≡ fed two → one.written ≡ two.written
equal_bytes_if_whole one two part part2 whole whole2 quotas boards pasts said =
    let first = sent_as_met_lemma one part in
    let second = sent_as_met_lemma two part2 in
    all_sent one first whole
    ∙ same_sent one.play.setup.quota one.play.setup.board first.met second.met (map kind_of one.more)
    (map kind_of two.more) _ first.due
    (subst (λ (quota : ℕ). AreDue quota Start second.met) (sym quotas) second.due) (first.whole whole).3
    (subst (IsLeftAs (view_of second.met)) (sym pasts) (second.whole whole2).3) (all_done one part first whole)
    (all_done two part2 second whole2)
    (all_fed one first whole ∙ ap (map kind_of) said ∙ sym (all_fed two second whole2))
    ∙ ap (λ (board : ℕ). bytes board second.met) boards ∙ sym (all_sent two second whole2)
