-- The two numbers of each agent are kept with the log.
use Rattle.std.proofs.Common.{◌≡◌, ℕ, ◌+◌, ◌<◌, Bool, true, false, ◌||◌, Option, Some, None, List, [], ◌∷◌, ◌++◌}
use Rattle.std.proofs.Common.{length, map, refl, sym, ap, ◌∙◌, subst, nat_lt, ◌==◌, if◌then◌else◌, arith, slice_set}
use Rattle.std.proofs.Common.{length-set, length-append}
use Rattle.std.specs.Prelude.{is_some}
use Rattle.std.specs.List.{list_any}
use Rattle.std.proofs.lemmas.Bool.{and_parts, cond-true, cond-false, eqb-true, ltb-true, eq-eqb}
use Rattle.bhs_model.specs.declared.commands.Command.{Command}
use Rattle.bhs_model.specs.declared.events.Event.{Event}
use Rattle.bhs_model.specs.declared.events.Event.TheVariants.{Tell}
use Rattle.bhs_model.specs.declared.marks.Mark.{Mark}
use Rattle.bhs_model.specs.declared.marks.Kept.{Kept}
use Rattle.bhs_model.specs.declared.replies.Reply.{Reply}
use Rattle.bhs_model.specs.Kept.{kept}
use Rattle.bhs_model.specs.Marks.{events_of, read_if}
use Rattle.bhs_model.specs.Views.{View, Told, standing, used, ports}
use Rattle.bhs_model.specs.Replying.{answer}
use Rattle.bhs_model.specs.Runs.{State, glance, reply}
use Rattle.bhs_model.specs.InOrder.{replies}
use Rattle.bhs_world.specs.Tables.{keeps_next, log_after}
use Rattle.bhs_world.proofs.ListLemmas.{each_set}
use Rattle.bhs_match.specs.Matches.{Play, world_in, state_of}
use Rattle.bhs_shared_match.specs.declared.model.Receipt.{Receipt}
use Rattle.bhs_shared_match.specs.declared.model.Tally.{Tally}
use Rattle.bhs_shared_match.specs.Tallies.{is_told_by, heard_count, has_ended, tally_of, nothing, IsLegalHistory}
use Rattle.bhs_shared_match.specs.Fitting.{AreFit}
use Rattle.bhs_shared_match.specs.Passes.{Passed, is_end, is_last, tally_in, gained}
use Rattle.bhs_shared_match.specs.LockedMatches.{LockedState, agrees, same_bool, same_tally, is_below, IsTold}
use Rattle.bhs_shared_match.proofs.PlaceLemmas.{any_push}
use Rattle.bhs_shared_match.proofs.EndLemmas.{ends_standing}
use Rattle.bhs_shared_match.proofs.FitLemmas.{HeardCommand, heard_command, reply_heard, past_heard, state_more}
use Rattle.bhs_shared_match.proofs.FitLemmas.{count_more}
use Rattle.bhs_shared_match.proofs.FitLemmas.{event_fit, fit_more}

-- one receipt more
receipts_more : (receipts : List Receipt) (receipt : Receipt) → tally_in (receipts ++ receipt ∷ []) ≡ record
    { commands = length receipts + 1; ended = list_any is_last receipts || is_last receipt }
receipts_more receipts receipt =
    let longer : length (receipts ++ receipt ∷ []) ≡ length receipts + 1 = length-append receipts _ in
    let ended : list_any is_last (receipts ++ receipt ∷ []) ≡ (list_any is_last receipts || is_last receipt) =
    any_push is_last receipts receipt in
    rw (longer, ended) refl

bool_same : (a b : Bool) → same_bool a b ≡ true → a ≡ b
bool_same true true e = refl
bool_same true false e = cc
bool_same false true e = cc
bool_same false false e = refl

tally_is : (one two : Tally) → same_tally one two ≡ true → one ≡ two
tally_is one two e =
    let parts = and_parts (one.commands == two.commands) (same_bool one.ended two.ended) e in
    let heard : one.commands ≡ two.commands = eqb-true _ _ parts.0 in
    let ended : one.ended ≡ two.ended = bool_same _ _ parts.1 in
    ap (λ (n : ℕ). let t : Tally = record { commands = n; ended = one.ended } in t) heard
    ∙ ap (λ (b : Bool). let t : Tally = record { commands = two.commands; ended = b } in t) ended

-- what it says that a pass agrees
pub record HasAgreed (inner : LockedState) (pass : Passed) : Type 0 where
  pub quota : pass.quota ≡ inner.play.setup.quota
  pub agent : pass.agent < inner.play.setup.agents
  pub tally : tally_of pass.agent inner.play ≡ tally_in pass.receipts
  pub below : is_below pass.receipts (length inner.play.log) ≡ true
  pub arrived : is_below pass.arrivals (length inner.play.log) ≡ true

pub has_agreed : (inner : LockedState) (pass : Passed) → agrees inner pass ≡ true → HasAgreed inner pass
has_agreed inner pass e =
    let one = (and_parts (pass.game == inner.game) _ e).1 in
    let two = and_parts (pass.quota == inner.play.setup.quota) _ one in
    let three = and_parts (nat_lt pass.agent inner.play.setup.agents) _ two.1 in
    let four = and_parts (same_tally (tally_of pass.agent inner.play) (tally_in pass.receipts)) _ three.1 in
    let five = and_parts (is_below pass.receipts (length inner.play.log)) _ four.1 in
    record {
      quota = eqb-true _ _ two.0;
      agent = ltb-true _ _ three.0;
      tally = tally_is _ _ four.0;
      below = five.0;
      arrived = five.1;
    }

-- what `Match::log` says of the match after a command
abbrev pub IsLegalLog : Play → Type 0
IsLegalLog play = (kept (world_in play) (events_of play.log) ≡ events_of play.log)
    × (map (λ one. read_if play.log one.mark) play.log ≡ replies (world_in play) (events_of play.log))

-- what stands under the lock beside the match
abbrev pub IsHoused : Play → List Tally → Type 0
IsHoused play tallies = IsLegalHistory play tallies × AreFit play

pub is_some_if : (b : Bool) (n : ℕ) (place : Option ℕ) → place ≡ (if b then Some n else None) → is_some place ≡ b
is_some_if true n place e = ap (λ (p : Option ℕ). is_some p) e
is_some_if false n place e = ap (λ (p : Option ℕ). is_some p) e

-- a command changes no setup
pub agents_told : {play play' : Play} {pass pass' : Passed} {command : Command} {place : Option ℕ} {mark : Mark}
    {said : Reply} → IsTold play pass command place mark said play' pass' → play'.setup.agents ≡ play.setup.agents
agents_told is = ap (λ (one : Play). one.setup.agents) is.grown

-- a command that is not heard leaves the match
pub unheard_same : (play play' : Play) (pass pass' : Passed) (command : Command) (place : Option ℕ) (mark : Mark)
    (said : Reply) →
    IsTold play pass command place mark said play' pass' → is_some place ≡ false → play' ≡ play
unheard_same play play' pass pass' command place mark said is none =
    let unkept : keeps_next (world_in play) play.log (Tell pass.agent command) ≡ false =
    sym (is_some_if _ _ place is.at) ∙ none in
    is.grown ∙ ap (λ (log : List Kept). let p : Play = record play { log = log } in p) (cond-false _ _ _ unkept)

-- and the numbers
pub legal_unheard : (play play' : Play) (pass pass' : Passed) (command : Command) (place : Option ℕ) (mark : Mark)
    (said : Reply) (tallies : List Tally) →
    IsHoused play tallies → IsTold play pass command place mark said play' pass' → is_some place ≡ false
    → IsHoused play' tallies
legal_unheard play play' pass pass' command place mark said tallies housed is none =
    rw (unheard_same play play' pass pass' command place mark said is none) housed

-- a command that is heard
pub record IsHeard (play : Play) (pass : Passed) (command : Command) (place : Option ℕ) (mark : Mark)
    (play' : Play) : Type 0 where
  pub kept : keeps_next (world_in play) play.log (Tell pass.agent command) ≡ true
  pub here : place ≡ Some (length play.log)
  pub grown : play' ≡ record play {
    log = play.log
        ++ record { event = Tell pass.agent command; mark = Some mark } ∷ [];
  }

pub is_heard : (play play' : Play) (pass pass' : Passed) (command : Command) (place : Option ℕ) (mark : Mark)
    (said : Reply) →
    IsTold play pass command place mark said play' pass' → is_some place ≡ true
    → IsHeard play pass command place mark play'
is_heard play play' pass pass' command place mark said is some =
    let is_kept : keeps_next (world_in play) play.log (Tell pass.agent command) ≡ true =
    sym (is_some_if _ _ place is.at) ∙ some in
    record {
      kept = is_kept;
      here = is.at ∙ cond-true _ _ _ is_kept;
      grown = is.grown ∙ ap (λ (log : List Kept). let p : Play = record play { log = log } in p)
          (cond-true _ _ _ is_kept);
    }

-- the numbers of the agent that was heard
tally_heard : (play : Play) (agent : ℕ) (command : Command) (mark : Option Mark) (said : Reply) (place : ℕ)
    (receipts : List Receipt) →
    HeardCommand play agent command → Some said ≡ reply (world_in play) (state_of play) (Tell agent command)
    → tally_of agent play ≡ tally_in receipts →
    tally_in (receipts ++ record { place = place; reply = said } ∷ []) ≡ tally_of agent
    (record play { log = play.log ++ record { event = Tell agent command; mark = mark } ∷ [] })
tally_heard play agent command mark said place receipts is replied agreed =
    let one : Kept = record { event = Tell agent command; mark = mark } in
    let after : Play = record play { log = play.log ++ one ∷ [] } in
    let state : State = state_of play in
    let view : View = state.past agent in
    let itself : is_told_by agent one.event ≡ true = eq-eqb agent agent refl in
    let count : heard_count agent after.log ≡ heard_count agent play.log + 1 = count_more agent play.log one
    ∙ ap (λ (b : Bool). heard_count agent play.log + (if b then 1 else 0)) itself in
    let past : (state_of after).past agent ≡ Told view command
    (glance (world_in play) state (state.position agent) command) =
    ap (λ (state : State). state.past agent) (state_more play one) ∙ past_heard play agent command is in
    let answered : is_end (answer play.setup.board (standing view) (ports view) command
    (glance (world_in play) state (state.position agent) command)) ≡ is_end said = said_is
    (reply_heard play agent command is) replied in
    let ended : has_ended (standing ((state_of after).past agent)) ≡ (has_ended (standing view) || is_end said) =
    ap (λ (view : View). has_ended (standing view)) past
    ∙ sym (ends_standing play.setup.board (standing view) (nat_lt (used view) play.setup.quota) (ports view) command
    (glance (world_in play) state (state.position agent) command) is.free)
    ∙ ap (λ (b : Bool). has_ended (standing view) || b) answered in
    receipts_more receipts (record { place = place; reply = said })
    ∙ ap (λ (tally : Tally). let t : Tally = record
    { commands = tally.commands + 1; ended = tally.ended || is_end said } in t) (sym agreed)
    ∙ sym (ap (λ (n : ℕ). let t : Tally = record
    { commands = n; ended = has_ended (standing ((state_of after).past agent)) } in t) count
    ∙ ap (λ (b : Bool). let t : Tally = record { commands = heard_count agent play.log + 1; ended = b } in t) ended)
  where
    said_is : {r : Option Reply} {a : Reply} → r ≡ Some a → Some said ≡ r → is_end a ≡ is_end said
    said_is {r} {a} one two = let both : Some a ≡ Some said = sym one ∙ sym two in
        let same : a ≡ said = cc in ap is_end same

-- the numbers of another agent
tally_other : (play : Play) (event : Event) (mark : Option Mark) (other : ℕ)
    → keeps_next (world_in play) play.log event ≡ true → is_told_by other event ≡ false →
    tally_of other (record play { log = play.log ++ record { event = event; mark = mark } ∷ [] }) ≡ tally_of other play
tally_other play event mark other kept apart =
    let one : Kept = record { event = event; mark = mark } in
    let after : Play = record play { log = play.log ++ one ∷ [] } in
    let none : heard_count other play.log + 0 ≡ heard_count other play.log = omega arith in
    let count : heard_count other after.log ≡ heard_count other play.log = count_more other play.log one
    ∙ ap (λ (b : Bool). heard_count other play.log + (if b then 1 else 0)) apart ∙ none in
    let ended : has_ended (standing ((state_of after).past other)) ≡ has_ended (standing ((state_of play).past other)) =
    ap (λ (state : State). has_ended (standing (state.past other))) (state_more play one)
    ∙ (event_fit play event other kept).ended apart in
    ap (λ (n : ℕ). let t : Tally = record { commands = n; ended = has_ended (standing ((state_of after).past other)) }
    in t) count
    ∙ ap (λ (b : Bool). let t : Tally = record { commands = heard_count other play.log; ended = b } in t) ended

-- a command that is heard gives its agent the numbers of the pass
legal_heard : (play play' : Play) (pass pass' : Passed) (command : Command) (place : Option ℕ) (mark : Mark)
    (said : Reply) (tallies : List Tally) →
    IsHoused play tallies → IsTold play pass command place mark said play' pass' → is_some place ≡ true
    → IsLegalLog play' →
    pass.agent < play.setup.agents → tally_of pass.agent play ≡ tally_in pass.receipts
    → IsHoused play' (slice_set tallies pass.agent (tally_in pass'.receipts))
legal_heard play play' pass pass' command place mark said tallies housed is some log within agreed =
    let how : IsHeard play pass command place mark play' =
    is_heard play play' pass pass' command place mark said is some in
    let event : Event = Tell pass.agent command in
    let one : Kept = record { event = event; mark = Some mark } in
    let after : Play = record play { log = play.log ++ one ∷ [] } in
    let gain : pass'.receipts ≡ pass.receipts ++ record { place = length play.log; reply = said } ∷ [] =
    ap (λ (p : Passed). p.receipts) (is.kept ∙ ap (λ (place : Option ℕ). gained pass command place said) how.here) in
    let told : tally_in pass'.receipts ≡ tally_of pass.agent after =
    ap tally_in gain ∙ tally_heard play pass.agent command (Some mark) said (length play.log) pass.receipts
    (heard_command play pass.agent command how.kept) is.replied agreed in
    let inside : pass.agent < length tallies = rw housed.0.agents within in
    let legal_log : IsLegalLog after = subst IsLegalLog how.grown log in
    subst (λ (after : Play). IsHoused after (slice_set tallies pass.agent (tally_in pass'.receipts))) (sym how.grown) (
      record {
        kept_alone = legal_log.0;
        replied = legal_log.1;
        agents = length-set tallies pass.agent _ ∙ housed.0.agents;
        tallied = each_set (λ k tally. k < play.setup.agents → tally ≡ tally_of k after) tallies pass.agent
            (tally_in pass'.receipts) nothing inside
            (λ below. told)
            (λ k apart below. housed.0.tallied k below ∙ sym (tally_other play event (Some mark) k how.kept apart));
      },
      fit_more play event (Some mark) how.kept housed.1,
    )

-- the same where the pass agrees with the locked match, whose fields these are
pub legal_agreed : (inner : LockedState) (play play' : Play) (pass pass' : Passed) (command : Command)
    (place : Option ℕ)
    (mark : Mark) (said : Reply) (tallies : List Tally) →
    play ≡ inner.play → agrees inner pass ≡ true → IsHoused play tallies
    → IsTold play pass command place mark said play'
    pass' → is_some place ≡ true → IsLegalLog play' →
    IsHoused play' (slice_set tallies pass.agent (tally_in pass'.receipts))
legal_agreed inner play play' pass pass' command place mark said tallies same agreed housed is some log =
    let both = has_agreed inner pass agreed in
    legal_heard play play' pass pass' command place mark said tallies housed is some log
    (rw same both.agent)
    (ap (tally_of pass.agent) same ∙ both.tally)

-- an event that is no command leaves the numbers
pub legal_untold : (play play' : Play) (event : Event) (mark : Option Mark) (tallies : List Tally)
    → IsHoused play tallies →
    play' ≡ record play { log = log_after (world_in play) play.log event mark }
    → ((agent : ℕ) → is_told_by agent event ≡ false) → IsLegalLog play' → IsHoused play' tallies
legal_untold play play' event mark tallies housed is untold log =
    by_keeping (keeps_next (world_in play) play.log event) refl
  where
    by_keeping : (b : Bool) → keeps_next (world_in play) play.log event ≡ b → IsHoused play' tallies
    by_keeping false unkept =
        let same : play' ≡ play = is ∙ ap (λ (log : List Kept). let p : Play = record play { log = log } in p)
        (cond-false _ _ _ unkept) in
        rw same housed
    by_keeping true is_kept =
        let one : Kept = record { event = event; mark = mark } in
        let after : Play = record play { log = play.log ++ one ∷ [] } in
        let grown : play' ≡ after = is ∙ ap (λ (log : List Kept). let p : Play = record play { log = log } in p)
        (cond-true _ _ _ is_kept) in
        let legal_log : IsLegalLog after = subst IsLegalLog grown log in
        subst (λ (after : Play). IsHoused after tallies) (sym grown) (
          record {
            kept_alone = legal_log.0;
            replied = legal_log.1;
            agents = housed.0.agents;
            tallied = λ k below. housed.0.tallied k below ∙ sym (tally_other play event mark k is_kept (untold k));
          },
          fit_more play event mark is_kept housed.1,
        )
