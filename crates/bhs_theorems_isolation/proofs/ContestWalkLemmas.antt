-- What a session said and was answered, beside its agent's own steps in the log.
use Rattle.std.proofs.Common.{◌≡◌, ◌∙◌, ℕ, ◌+◌, ◌-◌, ◌≤◌, Bool, true, false, ◌||◌, nat_lt, Option, Some, None, List, []}
use Rattle.std.proofs.Common.{◌∷◌, ◌++◌, length, refl, sym, ap, ap₂, subst, arith, length-append}
use Rattle.std.specs.Prelude.{option_map, slice_get}
use Rattle.std.specs.List.{list_any, AllByRecursion}
use Rattle.std.proofs.lemmas.Bool.{le-ltb}
use Rattle.bhs_model.specs.declared.commands.Command.{Command}
use Rattle.bhs_model.specs.declared.commands.Command.TheVariants as commands
use Rattle.bhs_model.specs.declared.replies.Reply.{Reply}
use Rattle.bhs_model.specs.declared.replies.Reply.TheVariants.{No}
use Rattle.bhs_model.specs.declared.replies.Why.{Why}
use Rattle.bhs_model.specs.Views.{View, Told, Arrived, Glance, Standing, Outside, Away, Ended, standing}
use Rattle.bhs_model.specs.Views.{standing_after, ports, used}
use Rattle.bhs_model.specs.Replying.{accepts, hears, answer, refusal}
use Rattle.bhs_model.proofs.StepLemmas.{by_cases}
use Rattle.bhs_shared_match.specs.declared.model.Receipt.{Receipt}
use Rattle.bhs_shared_match.specs.Tallies.{has_ended}
use Rattle.bhs_shared_match.specs.Fitting.{Fits as Counts}
use Rattle.bhs_shared_match.specs.LockedMatches.{is_below, place_below}
use Rattle.bhs_shared_match.specs.Passes.{is_end, is_last, tally_in, kept_command}
use Rattle.bhs_shared_match.specs.Recording.{refusal_by}
use Rattle.bhs_shared_match.specs.Comparing.{HeardEntry}
use Rattle.bhs_shared_match.proofs.EndLemmas.{ends_standing}
use Rattle.bhs_shared_match.proofs.FitLemmas.{fits_told, arrived_fit}
use Rattle.bhs_shared_match.proofs.PlaceLemmas.{any_push}
use Rattle.bhs_shared_match.proofs.RecordLemmas.{refusal_same, free_none}
use Rattle.bhs_session.specs.declared.endings.Ended.TheVariants as endings
use Rattle.bhs_session.specs.Phase.{Phase, Fresh, Ready, Awaits, Owes, Leaves, Finished, answered_by}
use Rattle.bhs_session.specs.Session.{TakesLines}
use Rattle.bhs_session.specs.Texts.{text_of}
use Rattle.bhs_theorems_isolation.specs.Met.{Meeting, Hears, Refuses, Arrives as Meets, view_from, bytes_from}
use Rattle.bhs_theorems_isolation.specs.Met.{takes_commands, AreDue}
use Rattle.bhs_theorems_isolation.proofs.AnsweredLemmas.{Fits, meeting_fits}
use Rattle.bhs_server.specs.Exchanges.{Exchange, Took, Refused, Came, text_if, text_from, commands_in}
use Rattle.bhs_server.specs.Exchanges.{arrivals_in, phase_from, AreInTurn}
use Rattle.bhs_theorems_isolation.specs.ContestMet.{AreSaid}
use Rattle.bhs_theorems_isolation.specs.ContestSteps.{ContestStep, Spoke, Arrives, heard_of, arrivals_of, view_along}
use Rattle.bhs_theorems_isolation.specs.ContestSteps.{AreSteps, StandInOrder}
use Rattle.bhs_theorems_isolation.proofs.ContestStepsLemmas.{get_there}

-- ---- the phase and the standing

abbrev pub Sits : Phase → Standing → Type 0
Sits Fresh stands = stands ≡ Outside
Sits Ready stands = takes_commands stands ≡ true
Sits Awaits stands = stands ≡ Away
Sits (Owes text next) stands = Unit {0}
Sits (Leaves ended) stands = Unit {0}
Sits (Finished endings.Bye) stands = stands ≡ Ended
Sits (Finished endings.Noted) stands = stands ≡ Ended
Sits (Finished ended) stands = Unit {0}

pub takes_there : (phase : Phase) (stands : Standing) → TakesLines phase → Sits phase stands
    → takes_commands stands ≡ true
takes_there phase stands takes sits = grind arith

fits_sits : (reply : Reply) (stands : Standing) → (is_end reply ≡ true → stands ≡ Ended)
    → Fits (answered_by true reply) stands → Sits (answered_by true reply) stands
fits_sits reply stands ends fits = grind arith

has_ended_is : (stands : Standing) → has_ended stands ≡ true → stands ≡ Ended
has_ended_is stands is = grind arith

or_true : (one : Bool) → (one || true) ≡ true
or_true true = refl
or_true false = refl

-- A last reply means that the agent has ended.
end_ends : (quota limit : ℕ) (view : View) (command : Command) (glance : Glance) → hears quota view command ≡ true →
    is_end (answer limit (standing view) (ports view) command glance) ≡ true
    → standing (Told view command glance) ≡ Ended
end_ends quota limit view command glance free ends =
    has_ended_is (standing (Told view command glance))
    (sym (ends_standing limit (standing view) (nat_lt (used view) quota) (ports view) command glance free)
    ∙ ap (λ (one : Bool). has_ended (standing view) || one) ends ∙ or_true (has_ended (standing view)))

-- ---- the numbers of a pass and the past

pub record Tallied (quota : ℕ) (view : View) (receipts : List Receipt) : Type 0 where
  pub counts : Counts quota (standing view) (used view) (length receipts)
  pub ended : list_any is_last receipts ≡ has_ended (standing view)

-- a command that the numbers refuse is not heard, and refused so
pub record IsRefusedBy (quota : ℕ) (view : View) (receipts : List Receipt) (command : Command) : Type 0 where
  pub unheard : hears quota view command ≡ false
  pub why_is : refusal_by quota (tally_in receipts) command ≡ Some (refusal (standing view) command)

refused_by : (quota : ℕ) (view : View) (receipts : List Receipt) (command : Command) (why : Why)
    → takes_commands (standing view) ≡ true → Tallied quota view receipts →
    refusal_by quota (tally_in receipts) command ≡ Some why → IsRefusedBy quota view receipts command
refused_by quota view receipts command why takes tallied refused =
    by_cases (hears quota view command) (IsRefusedBy quota view receipts command)
    (λ free. absurd (
    let none : refusal_by quota (tally_in receipts) command ≡ None =
    free_none quota (standing view) (used view) (tally_in receipts) command tallied.ended tallied.counts free in
    never why (sym refused ∙ none)))
    (λ unheard. record {
      unheard = unheard;
      why_is = refusal_same quota (standing view) (used view) (tally_in receipts) command tallied.ended tallied.counts
          unheard;
    })
  where
    never : (why : Why) → ◌≡◌ {A = Option Why} (Some why) None → ⊥
    never why e = cc

-- a heard command more
tallied_told : (quota limit : ℕ) (view : View) (receipts : List Receipt) (command : Command) (glance : Glance)
    (receipt : Receipt) → hears quota view command ≡ true →
    receipt.reply ≡ answer limit (standing view) (ports view) command glance → Tallied quota view receipts
    → Tallied quota (Told view command glance) (receipts ++ receipt ∷ [])
tallied_told quota limit view receipts command glance receipt free is tallied = record {
  counts = subst (λ (n : ℕ). Counts quota (standing (Told view command glance)) (used (Told view command glance)) n)
      (sym (length-append receipts (receipt ∷ [])))
      (fits_told quota (standing view) (used view) (length receipts) (ports view) command free tallied.counts);
  ended = any_push is_last receipts receipt
      ∙ ap₂ (λ (one two : Bool). one || two) tallied.ended (ap is_end is)
      ∙ ends_standing limit (standing view) (nat_lt (used view) quota) (ports view) command glance free;
}

tallied_arrived : (quota : ℕ) (view : View) (receipts : List Receipt) (sight : _) → standing view ≡ Away
    → Tallied quota view receipts → Tallied quota (Arrived view sight) receipts
tallied_arrived quota view receipts sight away tallied = record {
  counts = arrived_fit quota (standing view) (used view) (length receipts) away tallied.counts;
  ended = tallied.ended ∙ ap has_ended away;
}

-- ---- the walk

-- the entries of the exchanges under comparison
abbrev pub entries_in : List Exchange → List HeardEntry
entries_in [] = []
entries_in (Took command receipt ∷ others) =
    record { place = receipt.place; command = kept_command command receipt.reply; reply = Some receipt.reply }
    ∷ entries_in others
entries_in (Refused command ∷ others) = entries_in others
entries_in (Came receipt ∷ others) = entries_in others

pub record Walked (quota limit : ℕ) (view : View) (phase : Phase) (receipts : List Receipt) (all : List Exchange)
    (steps : List ContestStep) (parting : List HeardEntry) (more : List Receipt) : Type 0 where
  pub met : List Meeting
  pub rest : List ContestStep
  pub due : AreDue quota view met
  pub said : AreSaid limit view met (commands_in all)
  pub same : bytes_from limit view met ≡ text_from quota receipts all
  pub are_steps : AreSteps quota limit (view_from view met) rest
  pub ends : view_along (view_from view met) rest ≡ view_along view steps
  pub heard : heard_of rest ≡ parting
  pub arrived : arrivals_of rest ≡ more
  pub sits : Sits (phase_from phase all) (standing (view_from view met))

-- an agent that has ended does nothing
pub ended_still : (quota limit : ℕ) (view : View) (steps : List ContestStep) → standing view ≡ Ended
    → AreSteps quota limit view steps → steps ≡ []
ended_still quota limit view [] ended are = refl
ended_still quota limit view (Spoke place command glance reply ∷ steps) ended are =
    absurd (let deaf = ap (λ (stands : Standing). accepts stands (nat_lt (used view) quota) command) ended in
    let free = are.0 in cc)
ended_still quota limit view (Arrives place sight reply ∷ steps) ended are = absurd (let away = are.0 in cc)

-- A command whose stored form is a Leave is a Leave.
pub kept_leave : (command : Command) (reply : Reply) → kept_command command reply ≡ commands.Leave
    → command ≡ commands.Leave
kept_leave command reply is = grind arith

pub left_ended : (view : View) (command : Command) (glance : Glance) → command ≡ commands.Leave
    → standing (Told view command glance) ≡ Ended
left_ended view command glance is = ap (λ (one : Command). standing_after (standing view) (ports view) one) is
    ∙ leave_ends (standing view)
  where
    leave_ends : (stands : Standing) → standing_after stands (ports view) commands.Leave ≡ Ended
    leave_ends stands = grind arith

-- ---- what comes after an arrival

-- the arrivals in steps whose places ascend from this one on
arrivals_above : (low least : ℕ) (steps : List ContestStep) → low ≤ least → StandInOrder least steps
    → AllByRecursion (λ (receipt : Receipt). low ≤ receipt.place) (arrivals_of steps)
arrivals_above low least [] below order = tt
arrivals_above low least (Spoke place command glance reply ∷ steps) below order =
    arrivals_above low (place + 1) steps (omega (arith, below, order.0)) order.1
arrivals_above low least (Arrives place sight reply ∷ steps) below order =
    (omega (arith, below, order.0), arrivals_above low (place + 1) steps (omega (arith, below, order.0)) order.1)

all_front : {A : Type 0} (P : A → Type 0) (front rest : List A) → AllByRecursion P (front ++ rest)
    → AllByRecursion P front
all_front P [] rest all = tt
all_front P (one ∷ front) rest all = (all.0, all_front P front rest all.1)

-- what came last is not below a lesser place
not_below : (arrivals : List Receipt) (receipt : Receipt) (place : ℕ) → place ≤ receipt.place
    → is_below (arrivals ++ receipt ∷ []) place ≡ false
not_below arrivals receipt place above =
    let count : length (arrivals ++ receipt ∷ []) ≡ length arrivals + 1 = length-append arrivals (receipt ∷ []) in
    let last : length (arrivals ++ receipt ∷ []) - 1 ≡ length arrivals = omega (arith, count) in
    ap (λ (n : ℕ). place_below (slice_get (arrivals ++ receipt ∷ []) n) place) last
    ∙ ap (λ (one : Option Receipt). place_below one place) (get_there arrivals receipt [])
    ∙ le-ltb receipt.place place above

-- where this entry comes first and stands below all arrivals, nothing more was said in turn: it is one of the parting
said_last : (quota : ℕ) (phase : Phase) (receipts arrivals : List Receipt) (all : List Exchange) (entry : HeardEntry)
    (others parting : List HeardEntry) → entry ∷ others ≡ entries_in all ++ parting
    → is_below arrivals entry.place ≡ false
    → AllByRecursion (λ (receipt : Receipt). entry.place + 1 ≤ receipt.place) (arrivals_in all)
    → AreInTurn quota phase receipts arrivals all → parting ≡ entry ∷ others
said_last quota phase receipts arrivals [] entry others parting first late above turn = sym first
said_last quota phase receipts arrivals (Refused command ∷ all) entry others parting first late above turn =
    said_last quota Ready receipts arrivals all entry others parting first late above turn.1
said_last quota phase receipts arrivals (Came receipt ∷ all) entry others parting first late above turn =
    said_last quota Ready receipts (arrivals ++ receipt ∷ []) all entry others parting first
    (not_below arrivals receipt entry.place (omega (arith, above.0))) above.1 turn.1
said_last quota phase receipts arrivals (Took command receipt ∷ all) entry others parting first late above turn =
    let same : entry ≡ record {
      place = receipt.place;
      command = kept_command command receipt.reply;
      reply = Some receipt.reply;
    } = cc in
    let at : entry.place ≡ receipt.place = ap (λ (one : HeardEntry). one.place) same in
    let early : is_below arrivals entry.place ≡ true = ap (is_below arrivals) at ∙ turn.0.2 in
    absurd (let both : true ≡ false = sym early ∙ late in cc)

pub walk : (quota limit : ℕ) (view : View) (phase : Phase) (receipts : List Receipt) (all : List Exchange)
    (steps : List ContestStep) (parting : List HeardEntry) (more arrivals : List Receipt) (least : ℕ)
    → Sits phase (standing view)
    → Tallied quota view receipts → AreInTurn quota phase receipts arrivals all → AreSteps quota limit view steps
    → heard_of steps ≡ entries_in all ++ parting → arrivals_of steps ≡ arrivals_in all ++ more
    → StandInOrder least steps → AllByRecursion (λ (one : HeardEntry). one.command ≡ commands.Leave) parting
    → Walked quota limit view phase receipts all steps parting more
walk quota limit view phase receipts [] steps parting more arrivals least sits tallied turn are heard arrived order
    leaves = record {
      met = [];
      rest = steps;
      due = tt;
      said = tt;
      same = refl;
      are_steps = are;
      ends = refl;
      heard = heard;
      arrived = arrived;
      sits = sits;
    }
walk quota limit view phase receipts (Refused command ∷ all) steps parting more arrivals least sits tallied turn are
    heard arrived order leaves =
    let takes = takes_there phase (standing view) turn.0.0 sits in
    let refused = refused_by quota view receipts command turn.0.1.0 takes tallied turn.0.1.1 in
    let w = walk quota limit view Ready receipts all steps parting more arrivals least takes tallied turn.1 are heard
    arrived order leaves in
    record {
      met = Refuses command ∷ w.met;
      rest = w.rest;
      due = ((takes, refused.unheard), w.due);
      said = (refl, w.said);
      same = ap₂ (λ (why : Option Why) (others : List ℕ). text_if (option_map No why) ++ others) (sym refused.why_is)
          w.same;
      are_steps = w.are_steps;
      ends = w.ends;
      heard = w.heard;
      arrived = w.arrived;
      sits = w.sits;
    }
walk quota limit view phase receipts (Took command receipt ∷ all) [] parting more arrivals least sits tallied turn are
    heard arrived order leaves = absurd cc
walk quota limit view phase receipts (Took command receipt ∷ all) (Arrives place sight reply ∷ steps) parting more
    arrivals least sits tallied turn are heard arrived order leaves =
    absurd (let takes = takes_there phase (standing view) turn.0.0 sits in let away = ap takes_commands are.0 in cc)
walk quota limit view phase receipts (Took command receipt ∷ all) (Spoke place own glance reply ∷ steps) parting more
    arrivals least sits tallied turn are heard arrived order leaves =
    let takes = takes_there phase (standing view) turn.0.0 sits in
    let first : ◌≡◌ {A = HeardEntry} (record { place = place; command = kept_command own reply; reply = Some reply })
    (record { place = receipt.place; command = kept_command command receipt.reply; reply = Some receipt.reply }) = cc in
    let others : heard_of steps ≡ entries_in all ++ parting = cc in
    let some_reply : ◌≡◌ {A = Option Reply} (Some reply) (Some receipt.reply) =
    ap (λ (one : HeardEntry). one.reply) first in
    let same_reply : reply ≡ receipt.reply = cc in
    let is : receipt.reply ≡ answer limit (standing view) (ports view) own glance = sym same_reply ∙ are.1 in
    let same_kept : kept_command own reply ≡ kept_command command receipt.reply =
    ap (λ (one : HeardEntry). one.command) first in
    let fits = meeting_fits quota limit view own (Hears own glance) takes are.0 refl in
    let now : Sits (answered_by true receipt.reply) (standing (Told view own glance)) =
    subst (λ (said : Reply). Sits (answered_by true said) (standing (Told view own glance))) (sym is)
    (fits_sits (answer limit (standing view) (ports view) own glance) (standing (Told view own glance))
    (end_ends quota limit view own glance are.0) fits.1) in
    let w = walk quota limit (Told view own glance) (answered_by true receipt.reply) (receipts ++ receipt ∷ []) all
    steps parting more arrivals (place + 1) now
    (tallied_told quota limit view receipts own glance receipt are.0 is tallied) turn.1 are.3 others arrived order.1
    leaves in
    record {
      met = Hears own glance ∷ w.met;
      rest = w.rest;
      due = (fits.0, w.due);
      said = (
        ap (kept_command own) (sym are.1) ∙ same_kept ∙ ap (kept_command command) is,
        w.said,
      );
      same = ap₂ (λ (said : Reply) (rest : List ℕ). text_of said ++ rest) (sym is) w.same;
      are_steps = w.are_steps;
      ends = w.ends;
      heard = w.heard;
      arrived = w.arrived;
      sits = w.sits;
    }
walk quota limit view phase receipts (Came receipt ∷ all) [] parting more arrivals least sits tallied turn are heard
    arrived order leaves = absurd cc
walk quota limit view phase receipts (Came receipt ∷ all) (Spoke place own glance reply ∷ steps) parting more
    arrivals least sits tallied turn are heard arrived order leaves =
    let entry : HeardEntry = record { place = place; command = kept_command own reply; reply = Some reply } in
    let above : AllByRecursion (λ (one : Receipt). place + 1 ≤ one.place) (receipt ∷ arrivals_in all ++ more) =
    subst (AllByRecursion (λ (one : Receipt). place + 1 ≤ one.place)) arrived
    (arrivals_above (place + 1) (place + 1) steps (omega arith) order.1) in
    let last : parting ≡ entry ∷ heard_of steps =
    said_last quota Ready receipts (arrivals ++ receipt ∷ []) all entry (heard_of steps) parting heard
    (not_below arrivals receipt place (omega (arith, above.0)))
    (all_front (λ (one : Receipt). place + 1 ≤ one.place) (arrivals_in all) more above.1) turn.1 in
    let own_leave : AllByRecursion (λ (one : HeardEntry). one.command ≡ commands.Leave) (entry ∷ heard_of steps) =
    subst (AllByRecursion (λ (one : HeardEntry). one.command ≡ commands.Leave)) last leaves in
    let leave : own ≡ commands.Leave = kept_leave own reply own_leave.0 in
    absurd (let none : arrivals_of steps ≡ [] = ap arrivals_of
    (ended_still quota limit (Told view own glance) steps (left_ended view own glance leave) are.3) in cc)
walk quota limit view phase receipts (Came receipt ∷ all) (Arrives place sight reply ∷ steps) parting more
    arrivals least sits tallied turn are heard arrived order leaves =
    let first : ◌≡◌ {A = Receipt} (record { place = place; reply = reply }) receipt = cc in
    let others : arrivals_of steps ≡ arrivals_in all ++ more = cc in
    let same_reply : reply ≡ receipt.reply = ap (λ (one : Receipt). one.reply) first in
    let w = walk quota limit (Arrived view sight) Ready receipts all steps parting more (arrivals ++ receipt ∷ [])
    (place + 1) refl (tallied_arrived quota view receipts sight are.0 tallied) turn.1 are.2 heard others order.1 leaves
    in
    record {
      met = Meets sight ∷ w.met;
      rest = w.rest;
      due = (are.0, w.due);
      said = w.said;
      same = ap₂ (λ (said : Reply) (rest : List ℕ). text_of said ++ rest) (sym are.1 ∙ same_reply) w.same;
      are_steps = w.are_steps;
      ends = w.ends;
      heard = w.heard;
      arrived = w.arrived;
      sits = w.sits;
    }
