-- More is met.
use Rattle.std.proofs.Common.{◌≡◌, ◌∙◌, ℕ, List, [], ◌∷◌, ◌++◌, refl, sym, ap, append_assoc}
use Rattle.bhs_model.specs.declared.commands.Command.{Command}
use Rattle.bhs_model.specs.Views.{View}
use Rattle.bhs_session.specs.Texts.{text_of}
use Rattle.bhs_theorems_isolation.specs.Met.{Meeting, past_after, view_from, command_in, commands, answer_to}
use Rattle.bhs_theorems_isolation.specs.Met.{bytes_from, AreDue}

pub view_from-append : (view : View) (met more : List Meeting) → view_from view (met ++ more) ≡ view_from
    (view_from view met) more
view_from-append view [] more = refl
view_from-append view (meeting ∷ met) more = view_from-append (past_after view meeting) met more

pub bytes_from-append : (limit : ℕ) (view : View) (met more : List Meeting)
    → bytes_from limit view (met ++ more) ≡ bytes_from limit view met ++ bytes_from limit (view_from view met) more
bytes_from-append limit view [] more = refl
bytes_from-append limit view (meeting ∷ met) more =
    ap (λ (rest : List ℕ). text_of (answer_to limit view meeting) ++ rest)
    (bytes_from-append limit (past_after view meeting) met more)
    ∙ sym (append_assoc (text_of (answer_to limit view meeting)) (bytes_from limit (past_after view meeting) met)
    (bytes_from limit (view_from (past_after view meeting) met) more))

pub commands-append : (met more : List Meeting) → commands (met ++ more) ≡ commands met ++ commands more
commands-append [] more = refl
commands-append (meeting ∷ met) more =
    ap (λ (rest : List Command). command_in meeting ++ rest) (commands-append met more)
    ∙ sym (append_assoc (command_in meeting) (commands met) (commands more))

pub due-append : (quota : ℕ) (view : View) (met more : List Meeting) → AreDue quota view met
    → AreDue quota (view_from view met) more → AreDue quota view (met ++ more)
due-append quota view [] more due then_due = then_due
due-append quota view (meeting ∷ met) more due then_due =
    (due.0, due-append quota (past_after view meeting) met more due.1 then_due)
