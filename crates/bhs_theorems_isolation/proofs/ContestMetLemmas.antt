-- What a session wrote is the bytes of what its agent met.
use Rattle.std.proofs.Common.{◌≡◌, ◌≢◌, ◌∙◌, ℕ, zero, suc, ◌⊎◌, inl, inr, true, Option, Some, None, List, [], ◌∷◌, ◌++◌}
use Rattle.std.proofs.Common.{map, take, drop, length, refl, sym, ap, ap₂, subst, option_to_list, arith}
use Rattle.std.specs.Prelude.{slice_get}
use Rattle.std.specs.List.{AllByRecursion}
use Rattle.bhs_model.specs.declared.commands.Command.{Command}
use Rattle.bhs_model.specs.declared.commands.Command.TheVariants as commands
use Rattle.bhs_model.specs.declared.replies.Reply.{Reply}
use Rattle.bhs_model.specs.declared.setups.Setup.{Setup}
use Rattle.bhs_model.specs.Views.{View, Start, Told, Arrived, Glance, Nothing, Standing, Present, Away, Ended, standing}
use Rattle.bhs_model.specs.Runs.{initial}
use Rattle.bhs_model.specs.Kept.{nobody}
use Rattle.bhs_match.specs.Matches.{Play, world_in, state_of, arrivals}
use Rattle.bhs_shared_match.specs.declared.model.Receipt.{Receipt}
use Rattle.bhs_shared_match.specs.Passes.{Passed, kept_command}
use Rattle.bhs_shared_match.specs.Arrivals.{receipt_at}
use Rattle.bhs_shared_match.specs.Comparing.{HeardEntry, heard_in, receipted}
use Rattle.bhs_shared_match.specs.Settling.{Compared, told_by, told_by_none, without_pass, arrived_by}
use Rattle.bhs_session.specs.declared.endings.Ended.{Ended as Ending}
use Rattle.bhs_session.specs.declared.endings.Ended.TheVariants as endings
use Rattle.bhs_session.specs.Phase.{Phase, Fresh}
use Rattle.bhs_session.specs.Session.{TakesLines}
use Rattle.bhs_theorems_isolation.specs.Met.{takes_commands, view_of, bytes}
use Rattle.bhs_session.specs.Answering.{MayLack}
use Rattle.bhs_server.specs.Exchanges.{Exchange, Took, Refused, Came, session_text, commands_in, receipts_in, kept_in}
use Rattle.bhs_server.specs.Exchanges.{phase_from, AreInTurn}
use Rattle.bhs_server.specs.Written.{Ends, MayBeOver, IsWrittenBy, is_between}
use Rattle.bhs_theorems_isolation.specs.ContestMet.{Attended, TookPart, IsLeftAs, IsLeftAway, IsLastOf, is_whole}
use Rattle.bhs_theorems_isolation.specs.ContestMet.{SentAsMet}
use Rattle.bhs_theorems_isolation.specs.ContestSteps.{ContestStep, Spoke, Arrives, heard_of, arrivals_of, view_along}
use Rattle.bhs_theorems_isolation.specs.ContestSteps.{AreSteps}
use Rattle.bhs_server.proofs.ServedLemmas.{of_given}
use Rattle.bhs_theorems_isolation.proofs.ContestStepsLemmas.{steps_of}
use Rattle.bhs_theorems_isolation.proofs.ContestWalkLemmas.{Sits, takes_there, entries_in, Walked, walk, ended_still}
use Rattle.bhs_theorems_isolation.proofs.ContestWalkLemmas.{kept_leave}
use Rattle.bhs_theorems_isolation.proofs.ContestWalkLemmas.{left_ended}

-- ---- what a settlement says of one pass

agree_at : {A B : Type 0} (P : B → Type 0) (f : A → B) (xs : List A) (ys : List B) (index : ℕ) (x : A)
    → AllByRecursion P (map f xs ++ ys) → slice_get xs index ≡ Some x → P (f x)
agree_at P f [] ys index x all there = absurd (cc)
agree_at P f (first ∷ xs) ys zero x all there = let is : first ≡ x = cc in subst (λ (one : _). P (f one)) is all.0
agree_at P f (first ∷ xs) ys (suc index) x all there = agree_at P f xs ys index x all.1 there

agree_alone : {A B : Type 0} (P : B → Type 0) (f : A → B) (xs : List A) (index : ℕ) (x : A)
    → AllByRecursion P (map f xs) → slice_get xs index ≡ Some x → P (f x)
agree_alone P f [] index x all there = absurd (cc)
agree_alone P f (first ∷ xs) zero x all there = let is : first ≡ x = cc in subst (λ (one : _). P (f one)) is all.0
agree_alone P f (first ∷ xs) (suc index) x all there = agree_alone P f xs index x all.1 there

-- the first arrivals are those of the pass
front_of : (ys xs : List Receipt) → take (length ys) (map Some xs) ≡ map Some ys → xs ≡ ys ++ drop (length ys) xs
front_of [] xs same = refl
front_of (y ∷ ys) [] same = absurd (cc)
front_of (y ∷ ys) (x ∷ xs) same =
    let first : x ≡ y = cc in
    let others : take (length ys) (map Some xs) ≡ map Some ys = cc in
    ap₂ (λ (one : Receipt) (rest : List Receipt). one ∷ rest) first (front_of ys xs others)

-- ---- a pass and the session's commands

receipted_in : (all : List Exchange) (parting : List Receipt) →
    receipted (receipts_in all ++ parting) (kept_in all ++ map (λ (receipt : Receipt). commands.Leave) parting)
    ≡ entries_in all ++ receipted parting (map (λ (receipt : Receipt). commands.Leave) parting)
receipted_in [] parting = refl
receipted_in (Took command receipt ∷ all) parting =
    ap (λ (others : List HeardEntry).
    let one : HeardEntry = record {
      place = receipt.place;
      command = kept_command command receipt.reply;
      reply = Some receipt.reply;
    } in one ∷ others) (receipted_in all parting)
receipted_in (Refused command ∷ all) parting = receipted_in all parting
receipted_in (Came receipt ∷ all) parting = receipted_in all parting

-- what an ending told is a Leave
parting_leaves : (parting : Option Receipt) → AllByRecursion (λ (one : HeardEntry). one.command ≡ commands.Leave)
    (receipted (option_to_list parting) (map (λ (receipt : Receipt). commands.Leave) (option_to_list parting)))
parting_leaves None = tt
parting_leaves (Some receipt) = (refl, tt)

-- ---- what is left

-- a Leave alone
left_told : (quota limit : ℕ) (view : View) (place : ℕ) (command : Command) (glance : Glance) (reply : Reply)
    (steps : List ContestStep) (parting : Option Receipt)
    → AreSteps quota limit view (Spoke place command glance reply ∷ steps) →
    heard_of (Spoke place command glance reply ∷ steps)
    ≡ receipted (option_to_list parting) (map (λ (receipt : Receipt). commands.Leave) (option_to_list parting)) →
    view_along view (Spoke place command glance reply ∷ steps) ≡ Told view commands.Leave Nothing
left_told quota limit view place command glance reply steps None are same = absurd (cc)
left_told quota limit view place command glance reply steps (Some receipt) are same =
    let first : ◌≡◌ {A = HeardEntry} (record {
      place = place;
      command = kept_command command reply;
      reply =
          Some reply;
    })
    (record { place = receipt.place; command = commands.Leave; reply = Some receipt.reply }) = cc in
    let leaves : command ≡ commands.Leave = kept_leave command reply (ap (λ (one : HeardEntry). one.command) first) in
    ap (view_along (Told view command glance)) (ended_still quota limit (Told view command glance) steps
    (left_ended view command glance leaves) are.3)
    ∙ ap₂ (λ (one : Command) (seen : Glance). Told view one seen) leaves (are.2 leaves)

left_as : (quota limit : ℕ) (view : View) (rest : List ContestStep) (parting : Option Receipt) → standing view ≢ Away
    → AreSteps quota limit view rest →
    heard_of rest
    ≡ receipted (option_to_list parting) (map (λ (receipt : Receipt). commands.Leave) (option_to_list parting)) →
    IsLeftAs view (view_along view rest)
left_as quota limit view [] parting here are same = inl refl
left_as quota limit view (Spoke place command glance reply ∷ rest) parting here are same =
    inr (left_told quota limit view place command glance reply rest parting are same)
left_as quota limit view (Arrives place sight reply ∷ rest) parting here are same = absurd (here are.0)

present_here : (stands : Standing) → stands ≡ Present → stands ≢ Away
present_here stands is away = absurd (cc)

left_away : (quota limit : ℕ) (view : View) (rest : List ContestStep) (parting : Option Receipt)
    → AreSteps quota limit view rest →
    heard_of rest
    ≡ receipted (option_to_list parting) (map (λ (receipt : Receipt). commands.Leave) (option_to_list parting)) →
    IsLeftAway view (view_along view rest)
left_away quota limit view [] parting are same = inl (inl refl)
left_away quota limit view (Spoke place command glance reply ∷ rest) parting are same =
    inl (inr (left_told quota limit view place command glance reply rest parting are same))
left_away quota limit view (Arrives place sight reply ∷ rest) parting are same =
    inr (are.0, (sight, left_as quota limit (Arrived view sight) rest parting (present_here Present refl) are.2 same))

-- ---- the ending

not_away : (stands : Standing) → takes_commands stands ≡ true → stands ≢ Away
not_away stands takes away = absurd (let none = ap takes_commands away in cc)

ended_here : (stands : Standing) → stands ≡ Ended → stands ≢ Away
ended_here stands ended away = absurd (cc)

-- what an ending that is whole leaves
pub record IsAllWritten (ended : Ending) (stands : Standing) (left : List Command) (last unwritten : List ℕ) : Type 0
  where
    pub none_left : left ≡ []
    pub no_last : last ≡ []
    pub all_written : unwritten ≡ []
    pub here : stands ≢ Away
    pub done : (is_between ended ≡ true) ⊎ (stands ≡ Ended)

between : (ended : Ending) (phase : Phase) (stands : Standing) (left : List Command) (last unwritten : List ℕ)
    → is_between ended ≡ true → TakesLines phase × (left ≡ []) × (last ≡ []) → unwritten ≡ [] → Sits phase stands
    → IsAllWritten ended stands left last unwritten
between ended phase stands left last unwritten is ends lack sits = record {
  done = inl is;
  none_left = ends.1;
  no_last = ends.2;
  all_written = lack;
  here = not_away stands (takes_there phase stands ends.0 sits);
}

all_written : (ended : Ending) (phase : Phase) (stands : Standing) (parting : Option Receipt) (left : List Command)
    (last unwritten : List ℕ) → is_whole ended ≡ true → Ends ended phase parting left last → MayLack ended unwritten
    → Sits phase stands → IsAllWritten ended stands left last unwritten
all_written endings.Bye phase stands parting left last unwritten whole ends lack sits = record {
  none_left = ends.2;
  no_last = ends.3;
  all_written = lack;
  here = ended_here stands (subst (λ (one : Phase). Sits one stands) ends.0 sits);
  done = inr (subst (λ (one : Phase). Sits one stands) ends.0 sits);
}
all_written endings.Noted phase stands parting left last unwritten whole ends lack sits = record {
  none_left = ends.2;
  no_last = ends.3;
  all_written = lack;
  here = ended_here stands (subst (λ (one : Phase). Sits one stands) ends.0 sits);
  done = inr (subst (λ (one : Phase). Sits one stands) ends.0 sits);
}
all_written endings.InputEnded phase stands parting left last unwritten whole ends lack sits =
    between endings.InputEnded phase stands left last unwritten refl ends lack sits
all_written endings.ReadFault phase stands parting left last unwritten whole ends lack sits =
    between endings.ReadFault phase stands left last unwritten refl ends lack sits
all_written endings.Turns phase stands parting left last unwritten whole ends lack sits =
    between endings.Turns phase stands left last unwritten refl ends lack sits
all_written endings.Over phase stands parting left last unwritten whole ends lack sits = absurd (cc)
all_written endings.Denied phase stands parting left last unwritten whole ends lack sits = absurd (cc)
all_written endings.WriteFault phase stands parting left last unwritten whole ends lack sits = absurd (cc)
all_written endings.Memory phase stands parting left last unwritten whole ends lack sits = absurd (cc)

-- the line behind it
last_of : (ended : Ending) (phase : Phase) (parting : Option Receipt) (left : List Command) (last : List ℕ)
    → MayBeOver last → Ends ended phase parting left last → IsLastOf ended last
last_of ended phase parting left last may ends = grind arith

-- ---- the law

-- the steps of the agent, beside what its session said and was answered
pub record IsWalked (one : Attended) (w : IsWrittenBy one.pass one.said one.written one.ended) : Type 0 where
  pub more : List Receipt
  pub steps : List ContestStep
  pub walked : Walked one.play.setup.quota one.play.setup.board Start Fresh [] w.all steps
      (receipted (option_to_list w.parting)
      (map (λ (receipt : Receipt). commands.Leave) (option_to_list w.parting))) more
  pub past : view_along Start steps ≡ (state_of one.play).past one.pass.agent

-- The pass and the match have the same quota.
own_quota : (one : Attended) → TookPart one → one.pass.quota ≡ one.play.setup.quota
own_quota one part = of_given part.shared_matches part.game one.pass part.given part.shared_match part.of_shared_match
    ∙ ap (λ (setup : Setup). setup.quota) (sym part.accord.world.same_setup)

walked_lemma : (one : Attended) (part : TookPart one) → IsWalked one part.wrote
walked_lemma one part =
    let play : Play = one.play in
    let pass : Passed = one.pass in
    let w = part.wrote in
    let s = steps_of (world_in play) initial nobody pass.agent play.log [] play.log 0 [] refl refl refl part.kept
    part.replies in
    let logged : heard_in pass.agent play.log ≡ receipted pass.receipts pass.commands =
    agree_at (λ (compared : Compared HeardEntry). compared.logged ≡ compared.said) (told_by play) part.passes
    (map (told_by_none play) (without_pass part.passes play.setup.agents)) part.index pass part.accord.commands
    part.handed_in in
    let first : take (length pass.arrivals) (map (receipt_at play.log) (arrivals pass.agent play.log))
    ≡ map Some pass.arrivals =
    agree_alone (λ (compared : Compared (Option Receipt)). compared.logged ≡ compared.said) (arrived_by play)
    part.passes part.index pass part.accord.arrivals part.handed_in in
    let said : heard_of s.steps ≡ receipted pass.receipts pass.commands = sym s.heard ∙ logged in
    let spoke : receipted pass.receipts pass.commands ≡ entries_in w.all
    ++ receipted (option_to_list w.parting)
    (map (λ (receipt : Receipt). commands.Leave) (option_to_list w.parting)) =
    ap₂ receipted w.receipts w.kept ∙ receipted_in w.all (option_to_list w.parting) in
    let fronts : arrivals_of s.steps ≡ pass.arrivals ++ drop (length pass.arrivals) (arrivals_of s.steps) =
    front_of pass.arrivals (arrivals_of s.steps)
    (ap (take (length pass.arrivals)) (sym s.arrived) ∙ first) in
    let more : List Receipt = drop (length pass.arrivals) (arrivals_of s.steps) in
    record {
      more = more;
      steps = s.steps;
      walked = walk play.setup.quota play.setup.board Start Fresh [] w.all s.steps
          (receipted (option_to_list w.parting)
          (map (λ (receipt : Receipt). commands.Leave) (option_to_list w.parting))) more [] 0 refl
          (record { counts = (refl, refl); ended = refl })
          (subst (λ (quota : ℕ). AreInTurn quota Fresh [] [] w.all) (own_quota one part) w.in_turn) s.are (said ∙ spoke)
          (fronts ∙ ap (λ (own : List Receipt). own ++ more) w.arrivals)
          s.in_order (parting_leaves w.parting);
      past = s.ends;
    }

pub sent_as_met_lemma : SentAsMet
sent_as_met_lemma one part =
    let w = part.wrote in
    let all = walked_lemma one part in
    let met = all.walked in
    let past : view_along (view_of met.met) met.rest ≡ (state_of one.play).past one.pass.agent =
    met.ends ∙ all.past in
    let text : session_text one.pass.quota w.all ≡ bytes one.play.setup.board met.met =
    ap (λ (quota : ℕ). session_text quota w.all) (own_quota one part) ∙ sym met.same in
    record {
      met = met.met;
      due = met.due;
      heard = commands_in w.all;
      left = w.left;
      few = w.few;
      said = w.said;
      are_said = met.said;
      lived = subst (IsLeftAway (view_of met.met)) past
          (left_away one.play.setup.quota one.play.setup.board (view_of met.met) met.rest w.parting met.are_steps
          met.heard);
      last = w.last;
      is_last = last_of one.ended (phase_from Fresh w.all) w.parting w.left w.last w.is_last w.ends;
      unwritten = w.unwritten;
      sent = w.heard ∙ ap (λ (own : List ℕ). own ++ w.last) text;
      is_unwritten = w.is_unwritten;
      whole = λ whole.
          let is = all_written one.ended (phase_from Fresh w.all) (standing (view_of met.met)) w.parting w.left w.last
          w.unwritten whole w.ends w.is_unwritten met.sits in (
            is.none_left,
            is.no_last,
            is.all_written,
            subst (IsLeftAs (view_of met.met)) past
                (left_as one.play.setup.quota one.play.setup.board (view_of met.met) met.rest w.parting is.here
                met.are_steps met.heard),
            is.done,
            is.here,
          );
    }
