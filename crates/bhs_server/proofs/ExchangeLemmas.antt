-- One exchange more: what it adds to the text, to a pass and to the turns.
use Rattle.std.proofs.Common.{◌≡◌, ◌∙◌, ℕ, List, [], ◌∷◌, ◌++◌}
use Rattle.std.proofs.Common.{refl, sym, ap, subst, append_assoc, append-nil}
use Rattle.bhs_model.specs.declared.commands.Command.{Command}
use Rattle.bhs_shared_match.specs.declared.model.Receipt.{Receipt}
use Rattle.bhs_shared_match.specs.Passes.{kept_command}
use Rattle.bhs_session.specs.Phase.{Phase}
use Rattle.bhs_server.specs.Exchanges.{Exchange, Took, Refused, Came, receipts_after, reply_in, text_if, text_from}
use Rattle.bhs_server.specs.Exchanges.{commands_in, receipts_in, kept_in, arrivals_in, phase_after}
use Rattle.bhs_server.specs.Exchanges.{phase_from, arrivals_after, IsInTurn, AreInTurn}

pub commands_in-append : (all more : List Exchange) → commands_in (all ++ more) ≡ commands_in all ++ commands_in more
commands_in-append [] more = refl
commands_in-append (Took command receipt ∷ all) more =
    ap (λ (rest : List Command). command ∷ rest) (commands_in-append all more)
commands_in-append (Refused command ∷ all) more =
    ap (λ (rest : List Command). command ∷ rest) (commands_in-append all more)
commands_in-append (Came receipt ∷ all) more = commands_in-append all more

pub receipts_in-append : (all more : List Exchange) → receipts_in (all ++ more) ≡ receipts_in all ++ receipts_in more
receipts_in-append [] more = refl
receipts_in-append (Took command receipt ∷ all) more =
    ap (λ (rest : List Receipt). receipt ∷ rest) (receipts_in-append all more)
receipts_in-append (Refused command ∷ all) more = receipts_in-append all more
receipts_in-append (Came receipt ∷ all) more = receipts_in-append all more

pub kept_in-append : (all more : List Exchange) → kept_in (all ++ more) ≡ kept_in all ++ kept_in more
kept_in-append [] more = refl
kept_in-append (Took command receipt ∷ all) more =
    ap (λ (rest : List Command). kept_command command receipt.reply ∷ rest) (kept_in-append all more)
kept_in-append (Refused command ∷ all) more = kept_in-append all more
kept_in-append (Came receipt ∷ all) more = kept_in-append all more

pub arrivals_in-append : (all more : List Exchange) → arrivals_in (all ++ more) ≡ arrivals_in all ++ arrivals_in more
arrivals_in-append [] more = refl
arrivals_in-append (Took command receipt ∷ all) more = arrivals_in-append all more
arrivals_in-append (Refused command ∷ all) more = arrivals_in-append all more
arrivals_in-append (Came receipt ∷ all) more =
    ap (λ (rest : List Receipt). receipt ∷ rest) (arrivals_in-append all more)

pub phase_from-one : (phase : Phase) (before : List Exchange) (one : Exchange)
    → phase_from phase (before ++ one ∷ []) ≡ phase_after one
phase_from-one phase [] one = refl
phase_from-one phase (first ∷ before) one = phase_from-one (phase_after first) before one

pub after_in : (receipts : List Receipt) (first : Exchange) (before : List Exchange)
    → receipts_after receipts first ++ receipts_in before ≡ receipts ++ receipts_in (first ∷ before)
after_in receipts (Took command receipt) before = append_assoc receipts (receipt ∷ []) (receipts_in before)
after_in receipts (Refused command) before = refl
after_in receipts (Came receipt) before = refl

pub came_in : (arrivals : List Receipt) (first : Exchange) (before : List Exchange)
    → arrivals_after arrivals first ++ arrivals_in before ≡ arrivals ++ arrivals_in (first ∷ before)
came_in arrivals (Took command receipt) before = refl
came_in arrivals (Refused command) before = refl
came_in arrivals (Came receipt) before = append_assoc arrivals (receipt ∷ []) (arrivals_in before)

-- The order of exchanges depends on the receipts alone.
pub turn_same : (quota : ℕ) (phase : Phase) (receipts receipts' arrivals arrivals' : List Receipt) (one : Exchange)
    → receipts ≡ receipts' → arrivals ≡ arrivals' → IsInTurn quota phase receipts arrivals one
    → IsInTurn quota phase receipts' arrivals' one
turn_same quota phase receipts receipts' arrivals arrivals' one same came is =
    subst (λ (some : List Receipt). IsInTurn quota phase some arrivals' one) same
    (subst (λ (some : List Receipt). IsInTurn quota phase receipts some one) came is)

pub turn_more : (quota : ℕ) (phase : Phase) (receipts arrivals : List Receipt) (before : List Exchange) (one : Exchange)
    → AreInTurn quota phase receipts arrivals before →
    IsInTurn quota (phase_from phase before) (receipts ++ receipts_in before) (arrivals ++ arrivals_in before) one
    → AreInTurn quota phase receipts arrivals (before ++ one ∷ [])
turn_more quota phase receipts arrivals [] one are is =
    (turn_same quota phase _ receipts _ arrivals one (append-nil receipts) (append-nil arrivals) is, tt)
turn_more quota phase receipts arrivals (first ∷ before) one are is = (
  are.0,
  turn_more quota (phase_after first) (receipts_after receipts first) (arrivals_after arrivals first) before one are.1
      (turn_same quota (phase_from (phase_after first) before) _ _ _ _ one (sym (after_in receipts first before))
      (sym (came_in arrivals first before)) is),
)

pub text_more : (quota : ℕ) (receipts : List Receipt) (before : List Exchange) (one : Exchange) →
    text_from quota receipts (before ++ one ∷ [])
    ≡ text_from quota receipts before ++ text_if (reply_in quota (receipts ++ receipts_in before) one)
text_more quota receipts [] one =
    append-nil (text_if (reply_in quota receipts one))
    ∙ ap (λ (some : List Receipt). text_if (reply_in quota some one)) (sym (append-nil receipts))
text_more quota receipts (first ∷ before) one =
    let text = text_if (reply_in quota receipts first) in
    let later = receipts_after receipts first in
    ap (λ (rest : List ℕ). text ++ rest) (text_more quota later before one)
    ∙ sym (append_assoc text (text_from quota later before)
    (text_if (reply_in quota (later ++ receipts_in before) one)))
    ∙ ap (λ (some : List Receipt). (text ++ text_from quota later before) ++ text_if (reply_in quota some one))
    (after_in receipts first before)
