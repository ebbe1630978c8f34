-- What a pass says of a command, whatever stands under the lock.
use Rattle.std.proofs.Common.{◌≡◌, ℕ, ◌+◌, ◌-◌, ◌<◌, ◌≤◌, Bool, true, false, not, ◌&&◌, Option, Some, None, List}
use Rattle.std.proofs.Common.{length, refl, sym, ap, ◌∙◌, subst, nat_lt, ◌==◌, if◌then◌else◌, arith, inl, inr, ◌⊎◌}
use Rattle.std.specs.Prelude.{nat_le, bytes_eq, option_map}
use Rattle.std.proofs.lemmas.Bool.{cond_both, cond-true, cond-false, eq-eqb, and_parts, ltb-true}
use Rattle.std.proofs.lemmas.Bool.Decides.{eqb_tells, nat_tests}
use Rattle.bhs_model.specs.declared.commands.Command.{Command}
use Rattle.bhs_model.specs.declared.commands.Command.TheVariants.{Enter, Look, Write, Depart, Accuse, Leave, Bad}
use Rattle.bhs_model.specs.declared.marks.Mark.{Mark}
use Rattle.bhs_model.specs.declared.replies.Reply.{Reply}
use Rattle.bhs_model.specs.declared.replies.Reply.TheVariants.{Written, Changed, Gone, Noted, Over, No}
use Rattle.bhs_model.specs.declared.replies.Why.{Why}
use Rattle.bhs_model.specs.declared.replies.Why.TheVariants as whys
use Rattle.bhs_model.specs.Views.{View, Standing, Outside, Present, Away, Ended, standing, used, ports, Glance}
use Rattle.bhs_model.specs.Views.{Saw, Seen}
use Rattle.bhs_model.specs.Replying.{text, accepts, hears, answer, sight_answer, refusal}
use Rattle.bhs_model.specs.Runs.{heard, glance, reply}
use Rattle.bhs_match.specs.Matches.{Play, world_in, state_of}
use Rattle.bhs_shared_match.specs.declared.model.Tally.{Tally}
use Rattle.bhs_shared_match.specs.Tallies.{has_ended, tally_of}
use Rattle.bhs_shared_match.specs.Fitting.{Fits, AreFit}
use Rattle.bhs_shared_match.specs.Passes.{Passed, Ascend, AreBelow, tally_in, gained}
use Rattle.bhs_shared_match.specs.LockedMatches.{LockedState, agrees, IsTold}
use Rattle.bhs_shared_match.specs.Recording.{is_unheard, refusal_by, IsSubmitted}
use Rattle.bhs_shared_match.proofs.FitLemmas.{HeardCommand, heard_command, reply_heard}
use Rattle.bhs_shared_match.proofs.PassLemmas.{all_below}
use Rattle.bhs_shared_match.proofs.TallyLemmas.{HasAgreed, has_agreed}

-- ---- the reply to a command that is heard differs from a refusal

sight_heard : (limit : ℕ) (command : Command) (glance : Glance) → is_unheard (sight_answer limit command glance) ≡ false
sight_heard limit (Write expect put) (Saw (Seen ports came last_write)) =
    let shown : List ℕ = text limit last_write in
    cond_both (nat_le (length put) limit) (if bytes_eq shown expect then Written else Changed shown) (No whys.Long)
    (λ reply. is_unheard reply ≡ false)
    (λ fits. cond_both (bytes_eq shown expect) Written (Changed shown) (λ reply. is_unheard reply ≡ false) (λ e. refl)
    (λ e. refl)) (λ long. refl)
sight_heard limit command glance = grind arith

port_heard : (b : Bool) (reply : Reply) → is_unheard reply ≡ false
    → is_unheard (if b then reply else No whys.Port) ≡ false
port_heard true reply is = is
port_heard false reply is = refl

answer_heard : (limit : ℕ) (now : Standing) (ports : ℕ) (command : Command) (glance : Glance)
    → is_unheard (answer limit now ports command glance) ≡ false
answer_heard limit Outside ports (Depart port) glance = port_heard (nat_lt port ports) Gone refl
answer_heard limit Present ports (Depart port) glance = port_heard (nat_lt port ports) Gone refl
answer_heard limit Ended ports (Depart port) glance = port_heard (nat_lt port ports) Gone refl
answer_heard limit Outside ports (Accuse port) glance = port_heard (nat_lt port ports) Noted refl
answer_heard limit Present ports (Accuse port) glance = port_heard (nat_lt port ports) Noted refl
answer_heard limit Ended ports (Accuse port) glance = port_heard (nat_lt port ports) Noted refl
answer_heard limit Outside ports Enter glance = sight_heard limit Enter glance
answer_heard limit Present ports Enter glance = sight_heard limit Enter glance
answer_heard limit Ended ports Enter glance = sight_heard limit Enter glance
answer_heard limit Outside ports Look glance = sight_heard limit Look glance
answer_heard limit Present ports Look glance = sight_heard limit Look glance
answer_heard limit Ended ports Look glance = sight_heard limit Look glance
answer_heard limit Outside ports (Write expect put) glance = sight_heard limit (Write expect put) glance
answer_heard limit Present ports (Write expect put) glance = sight_heard limit (Write expect put) glance
answer_heard limit Ended ports (Write expect put) glance = sight_heard limit (Write expect put) glance
answer_heard limit now ports command glance = grind arith

-- ---- the reason for a refusal, computed from the tally

not_none : (n used : ℕ) → n ≡ used + 1 → (n == 0) ≡ false
not_none n used is = elim (eqb_tells n 0) [ inl h ↦ absurd (omega (arith, h.1, is)) | inr h ↦ h.0 ]

some_not_none : (n : ℕ) → 0 < n → (n == 0) ≡ false
some_not_none n some = elim (eqb_tells n 0) [ inl h ↦ absurd (omega (arith, h.1, some)) | inr h ↦ h.0 ]

all_spent : (n used quota : ℕ) → n ≡ used + 1 → used ≤ quota → nat_lt used quota ≡ false → (n - 1 == quota) ≡ true
all_spent n used quota is within none =
    let full : quota ≤ used = grind (arith, nat_tests, none) in
    eq-eqb (n - 1) quota (omega arith)

spent_means : (quota used n : ℕ) (ended : Bool) (b : Bool) (why : Option Why) → (n == 0) ≡ false → ended ≡ false
    → (n - 1 == quota) ≡ true →
    (if n == 0 then Some whys.Outside else (if ended then Some
    whys.Ended else (if n - 1 == quota then Some whys.Spent else None))) ≡ Some whys.Spent
spent_means quota used n ended b why some going full = cond-false _ _ _ some ∙ cond-false _ _ _ going
    ∙ cond-true _ _ _ full

-- The tally gives the same refusal as the definitions.
pub refusal_same : (quota : ℕ) (now : Standing) (used : ℕ) (tally : Tally) (command : Command)
    → tally.ended ≡ has_ended now → Fits quota now used tally.commands
    → accepts now (nat_lt used quota) command ≡ false → refusal_by quota tally command ≡ Some (refusal now command)
refusal_same quota Outside used tally Look ended fits none = cond-true _ _ _ (eq-eqb tally.commands 0 fits.0)
refusal_same quota Outside used tally (Write expect put) ended fits none =
    cond-true _ _ _ (eq-eqb tally.commands 0 fits.0)
refusal_same quota Outside used tally (Depart port) ended fits none = cond-true _ _ _ (eq-eqb tally.commands 0 fits.0)
refusal_same quota Outside used tally (Accuse port) ended fits none = cond-true _ _ _ (eq-eqb tally.commands 0 fits.0)
refusal_same quota Outside used tally Leave ended fits none = cond-true _ _ _ (eq-eqb tally.commands 0 fits.0)
refusal_same quota Outside used tally Bad ended fits none = cond-true _ _ _ (eq-eqb tally.commands 0 fits.0)
refusal_same quota Present used tally Enter ended fits none = cond-false _ _ _ (not_none tally.commands used fits.0)
refusal_same quota Present used tally Look ended fits none =
    spent_means quota used tally.commands tally.ended true None (not_none tally.commands used fits.0) ended
    (all_spent tally.commands used quota fits.0 fits.1 none)
refusal_same quota Present used tally (Write expect put) ended fits none =
    spent_means quota used tally.commands tally.ended true None (not_none tally.commands used fits.0) ended
    (all_spent tally.commands used quota fits.0 fits.1 none)
refusal_same quota Present used tally (Depart port) ended fits none =
    spent_means quota used tally.commands tally.ended true None (not_none tally.commands used fits.0) ended
    (all_spent tally.commands used quota fits.0 fits.1 none)
refusal_same quota Present used tally (Accuse port) ended fits none =
    spent_means quota used tally.commands tally.ended true None (not_none tally.commands used fits.0) ended
    (all_spent tally.commands used quota fits.0 fits.1 none)
refusal_same quota Present used tally Bad ended fits none =
    spent_means quota used tally.commands tally.ended true None (not_none tally.commands used fits.0) ended
    (all_spent tally.commands used quota fits.0 fits.1 none)
refusal_same quota Away used tally Enter ended fits none = cond-false _ _ _ (not_none tally.commands used fits.0)
refusal_same quota Away used tally Look ended fits none =
    spent_means quota used tally.commands tally.ended true None (not_none tally.commands used fits.0) ended
    (all_spent tally.commands used quota fits.0 fits.1 none)
refusal_same quota Away used tally (Write expect put) ended fits none =
    spent_means quota used tally.commands tally.ended true None (not_none tally.commands used fits.0) ended
    (all_spent tally.commands used quota fits.0 fits.1 none)
refusal_same quota Away used tally (Depart port) ended fits none =
    spent_means quota used tally.commands tally.ended true None (not_none tally.commands used fits.0) ended
    (all_spent tally.commands used quota fits.0 fits.1 none)
refusal_same quota Away used tally (Accuse port) ended fits none =
    spent_means quota used tally.commands tally.ended true None (not_none tally.commands used fits.0) ended
    (all_spent tally.commands used quota fits.0 fits.1 none)
refusal_same quota Away used tally Bad ended fits none =
    spent_means quota used tally.commands tally.ended true None (not_none tally.commands used fits.0) ended
    (all_spent tally.commands used quota fits.0 fits.1 none)
refusal_same quota Ended used tally Enter ended fits none = cond-false _ _ _ (some_not_none tally.commands fits)
refusal_same quota Ended used tally Look ended fits none = cond-false _ _ _ (some_not_none tally.commands fits)
    ∙ cond-true _ _ _ ended
refusal_same quota Ended used tally (Write expect put) ended fits none =
    cond-false _ _ _ (some_not_none tally.commands fits) ∙ cond-true _ _ _ ended
refusal_same quota Ended used tally (Depart port) ended fits none = cond-false _ _ _ (some_not_none tally.commands fits)
    ∙ cond-true _ _ _ ended
refusal_same quota Ended used tally (Accuse port) ended fits none = cond-false _ _ _ (some_not_none tally.commands fits)
    ∙ cond-true _ _ _ ended
refusal_same quota Ended used tally Leave ended fits none = cond-false _ _ _ (some_not_none tally.commands fits)
    ∙ cond-true _ _ _ ended
refusal_same quota Ended used tally Bad ended fits none = cond-false _ _ _ (some_not_none tally.commands fits)
    ∙ cond-true _ _ _ ended
refusal_same quota now used tally command ended fits none = grind arith

-- The tally does not refuse a command that is heard.

has_room : (n used quota : ℕ) → n ≡ used + 1 → nat_lt used quota ≡ true → (n - 1 == quota) ≡ false
has_room n used quota is room =
    let below : used < quota = ltb-true used quota room in
    elim (eqb_tells (n - 1) quota) [ inl h ↦ absurd (omega (arith, h.1, is, below)) | inr h ↦ h.0 ]

free_with_room : (quota used n : ℕ) (ended : Bool) → n ≡ used + 1 → ended ≡ false → nat_lt used quota ≡ true
    → (if n == 0 then Some whys.Outside else (if ended then Some whys.Ended else (if n - 1 == quota then Some whys.Spent
    else None))) ≡ None
free_with_room quota used n ended is going room = cond-false _ _ _ (not_none n used is) ∙ cond-false _ _ _ going
    ∙ cond-false _ _ _ (has_room n used quota is room)

free_to_leave : (used n : ℕ) (ended : Bool) → n ≡ used + 1 → ended ≡ false
    → (if n == 0 then Some whys.Outside else (if ended then Some whys.Ended else None)) ≡ None
free_to_leave used n ended is going = cond-false _ _ _ (not_none n used is) ∙ cond-false _ _ _ going

pub free_none : (quota : ℕ) (now : Standing) (used : ℕ) (tally : Tally) (command : Command)
    → tally.ended ≡ has_ended now → Fits quota now used tally.commands → accepts now (nat_lt used quota) command ≡ true
    → refusal_by quota tally command ≡ None
free_none quota Outside used tally Enter ended fits free = cond-true _ _ _ (eq-eqb tally.commands 0 fits.0)
free_none quota Present used tally Leave ended fits free = free_to_leave used tally.commands tally.ended fits.0 ended
free_none quota Present used tally Look ended fits free =
    free_with_room quota used tally.commands tally.ended fits.0 ended free
free_none quota Present used tally (Write expect put) ended fits free =
    free_with_room quota used tally.commands tally.ended fits.0 ended free
free_none quota Present used tally (Depart port) ended fits free =
    free_with_room quota used tally.commands tally.ended fits.0 ended free
free_none quota Present used tally (Accuse port) ended fits free =
    free_with_room quota used tally.commands tally.ended fits.0 ended free
free_none quota Present used tally Bad ended fits free =
    free_with_room quota used tally.commands tally.ended fits.0 ended free
free_none quota Away used tally Leave ended fits free = free_to_leave used tally.commands tally.ended fits.0 ended
free_none quota Away used tally Look ended fits free =
    free_with_room quota used tally.commands tally.ended fits.0 ended free
free_none quota Away used tally (Write expect put) ended fits free =
    free_with_room quota used tally.commands tally.ended fits.0 ended free
free_none quota Away used tally (Depart port) ended fits free =
    free_with_room quota used tally.commands tally.ended fits.0 ended free
free_none quota Away used tally (Accuse port) ended fits free =
    free_with_room quota used tally.commands tally.ended fits.0 ended free
free_none quota Away used tally Bad ended fits free =
    free_with_room quota used tally.commands tally.ended fits.0 ended free
free_none quota now used tally command ended fits free = grind arith

-- ---- the receipt of a command

by_known : (known closed hears : Bool) (answer : Option Reply) (why : Why) → known ≡ true
    → (known && (not closed && hears)) ≡ false →
    ((if known then (if closed then Some Over else (if hears then answer else Some (No why))) else Some
    (No whys.Agent)) ≡ Some Over)
    ⊎ ((hears ≡ false) × ((if known then (if closed then Some Over else (if hears then answer else Some (No why)))
    else Some (No whys.Agent)) ≡ Some (No why)))
by_known false closed hears answer why known none = absurd cc
by_known true true hears answer why known none = inl refl
by_known true false true answer why known none = absurd cc
by_known true false false answer why known none = inr (refl, refl)

some_same : {A : Type 0} (x y : A) → Some x ≡ Some y → x ≡ y
some_same x y is = cc

-- A refusal is no reply to a command that is heard.
refused_unheard : (now : Standing) (command : Command) → is_unheard (No (refusal now command)) ≡ true
refused_unheard now command = grind arith

-- a command of a pass that agrees
submitted_agreed : (inner : LockedState) (pass pass' : Passed) (command : Command) (place : Option ℕ) (mark : Mark)
    (said : Reply) (play' : Play) →
    HasAgreed inner pass → AreFit inner.play → AreBelow (length inner.play.log) pass.receipts
    → IsTold inner.play pass command place mark said play' pass' →
    (heard_now : Bool) → heard (world_in inner.play) (state_of inner.play) pass.agent command ≡ heard_now
    → IsSubmitted pass command place said pass'
submitted_agreed inner pass pass' command place mark said play' has fit above is true is_heard =
    let here : place ≡ Some (length inner.play.log) = is.at ∙ cond-true _ _ _ is_heard in
    let how : HeardCommand inner.play pass.agent command = heard_command inner.play pass.agent command is_heard in
    let answered = some_same _ _ (is.replied ∙ reply_heard inner.play pass.agent command how) in
    let play : Play = inner.play in
    let view : View = (state_of play).past pass.agent in
    let inside = (and_parts (nat_lt pass.agent play.setup.agents) _ is_heard).1 in
    let free = (and_parts (not (state_of play).closed) _ inside).1 in
    let none : refusal_by play.setup.quota (tally_of pass.agent play) command ≡ None =
    free_none play.setup.quota (standing view) (used view) (tally_of pass.agent play) command refl (fit pass.agent)
    free in
    subst (λ (place : Option ℕ). IsSubmitted pass command place said pass') (sym here) (record {
      gains = subst (λ (place : Option ℕ). pass' ≡ gained pass command place said) here is.kept;
      above = above;
      arrived = has.arrived;
      free = ap (λ (quota : ℕ). refusal_by quota (tally_in pass.receipts) command) has.quota
          ∙ ap (λ (tally : Tally). refusal_by play.setup.quota tally command) (sym has.tally) ∙ none;
      heard = ap is_unheard answered ∙ answer_heard _ _ _ command _;
    })
submitted_agreed inner pass pass' command place mark said play' has fit above is false unheard =
    let play : Play = inner.play in
    let view : View = (state_of play).past pass.agent in
    let none : place ≡ None = is.at ∙ cond-false _ _ _ unheard in
    let same : pass' ≡ pass = is.kept ∙ ap (λ (place : Option ℕ). gained pass command place said) none in
    subst (λ (place : Option ℕ). IsSubmitted pass command place said pass') (sym none)
    (elim (by_known (nat_lt pass.agent play.setup.agents) (state_of play).closed (hears play.setup.quota view command) _
    (refusal (standing view) command) known unheard) [
      | inl over ↦
          let reply_over : said ≡ Over = some_same said Over (is.replied ∙ over) in
          record { same = same; unheard = ap is_unheard reply_over; why = inr (inl reply_over) }
      | inr refused ↦
          let reply_no : said ≡ No (refusal (standing view) command) = some_same said _ (is.replied ∙ refused.1) in
          let by : refusal_by play.setup.quota (tally_of pass.agent play) command ≡ Some
          (refusal (standing view) command) =
          refusal_same play.setup.quota (standing view) (used view) (tally_of pass.agent play) command refl
          (fit pass.agent) refused.0 in
          let own : refusal_by pass.quota (tally_in pass.receipts) command ≡ Some (refusal (standing view) command) =
          ap (λ (quota : ℕ). refusal_by quota (tally_in pass.receipts) command) has.quota
          ∙ ap (λ (tally : Tally). refusal_by play.setup.quota tally command) (sym has.tally) ∙ by in
          record {
            same = same;
            unheard = ap is_unheard reply_no ∙ refused_unheard (standing view) command;
            why = inr (inr (ap (λ (r : Reply). Some r) reply_no ∙ sym (ap (option_map No) own)));
          }
    ])
  where
    known : nat_lt pass.agent inner.play.setup.agents ≡ true
    known = let within : pass.agent < inner.play.setup.agents = has.agent in grind (arith, nat_tests, within)

pub submitted : (inner : LockedState) (play play' : Play) (pass pass' : Passed) (command : Command) (place : Option ℕ)
    (mark : Mark) (said : Reply) →
    play ≡ inner.play → agrees inner pass ≡ true → AreFit play → Ascend 0 pass.receipts
    → IsTold play pass command place mark said play' pass' → IsSubmitted pass command place said pass'
submitted inner play play' pass pass' command place mark said same agreed fit order is =
    let has : HasAgreed inner pass = has_agreed inner pass agreed in
    let P : Play → Type 0 = λ play. AreFit play → IsTold play pass command place mark said play' pass'
    → IsSubmitted pass command place said pass' in
    subst P (sym same) (λ fit is. submitted_agreed inner pass pass' command place mark said play' has fit
    (all_below 0 pass.receipts (length inner.play.log) order has.below) is _ refl) fit is
