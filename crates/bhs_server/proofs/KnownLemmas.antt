-- A session over a port to a shared match: its commands with their answers, and what it wrote to its client.
use Rattle.std.proofs.Common.{◌≡◌, ◌∙◌, ℕ, zero, suc, inl, inr, Option, Some, None, List, [], ◌∷◌, ◌++◌, map, take}
use Rattle.std.proofs.Common.{drop, length, get_or, ◌<◌, arith, Result, Ok, Err, IfOk, OnErr}
use Rattle.std.proofs.Common.{true, false, option_to_list, refl, sym, ap, ap₂, subst, append_assoc, append-nil}
use Rattle.std.specs.Prelude.{option_map}
use Rattle.std.proofs.lemmas.List.{map-append, take-append-drop}
use Rattle.std.specs.declared.alloc.AllocError.{AllocError}
use Rattle.bhs_session.specs.Port.{News, answered}
use Rattle.bhs_model.specs.declared.commands.Command.{Command}
use Rattle.bhs_model.specs.declared.commands.Command.TheVariants as commands
use Rattle.bhs_model.specs.declared.replies.Reply.{Reply}
use Rattle.bhs_model.specs.declared.replies.Reply.TheVariants as replies
use Rattle.bhs_model.specs.declared.replies.Why.{Why}
use Rattle.bhs_wire.specs.Lines.{Line}
use Rattle.bhs_stream.specs.Streams.{WriteAnswer}
use Rattle.bhs_shared_match.specs.declared.model.Receipt.{Receipt}
use Rattle.bhs_shared_match.specs.Passes.{Passed, tally_in}
use Rattle.bhs_shared_match.specs.Recording.{is_unheard, refusal_by, IsSubmitted}
use Rattle.bhs_shared_match.specs.SharedMatches.{Given, GainsArrival, IsNews}
use Rattle.bhs_session.specs.declared.endings.Ended.{Ended as Ending}
use Rattle.bhs_session.specs.declared.endings.Ended.TheVariants as endings
use Rattle.bhs_session.specs.Phase.{Phase, Fresh, Ready, Awaits, Owes, Leaves, Finished, answered_by, stopped}
use Rattle.bhs_session.specs.Phase.{Sends, all as goes_out, part as is_cut, none as is_kept_back}
use Rattle.bhs_session.specs.Texts.{text_of, command_of}
use Rattle.bhs_session.specs.Machine.{behind_text}
use Rattle.bhs_session.specs.Session.{TakesLines}
use Rattle.bhs_session.specs.Answering.{IsLastLine, MayLack, IsUnwritten}
use Rattle.bhs_session.proofs.LackLemmas.{lacks_none}
use Rattle.bhs_server.specs.declared.ports.SessionAgent.{SessionAgent}
use Rattle.bhs_server.specs.Ports.{Seated, IsOfSharedMatch, IsNewsIn, IsToldBy, Calls}
use Rattle.bhs_server.specs.Exchanges.{Exchange, Took, Refused, Came, reply_in, text_if}
use Rattle.bhs_server.specs.Exchanges.{session_text, commands_in, receipts_in, kept_in, arrivals_in, phase_after}
use Rattle.bhs_server.specs.Exchanges.{phase_from, IsInTurn, AreInTurn}
use Rattle.bhs_server.specs.Written.{IsFew, MayBeOver, Ends}
use Rattle.bhs_server.proofs.ExchangeLemmas.{commands_in-append, receipts_in-append, kept_in-append}
use Rattle.bhs_server.proofs.ExchangeLemmas.{arrivals_in-append, phase_from-one, turn_same}
use Rattle.bhs_server.proofs.ExchangeLemmas.{turn_more, text_more}

-- ---- what is known

-- endings before which an agent is told to leave
abbrev pub MayLeave : Ending → Type 0
MayLeave endings.Bye = ⊥
MayLeave endings.Noted = ⊥
MayLeave endings.Over = ⊥
MayLeave endings.Denied = ⊥
MayLeave ended = Unit {0}

abbrev pub Behind : Phase → Phase → Option Receipt → (left : List Command) → (last : List ℕ) → Type 0
Behind Fresh now parting left last = ⊥
Behind Ready now parting left last = (now ≡ Ready) × (parting ≡ None) × (left ≡ []) × (last ≡ [])
Behind Awaits now parting left last = (now ≡ Awaits) × (parting ≡ None) × (left ≡ []) × (last ≡ [])
Behind (Owes text next) now parting left last = ⊥
Behind (Leaves ended) now parting left last = MayLeave ended × (parting ≡ None) × Ends ended now None left last
Behind (Finished ended) now parting left last = Ends ended now parting left last

-- of a session that plays by this pass
pub record Talks (written : List ℕ) (taken : List Line) (phase : Phase) (pass : Passed) : Type 0 where
  pub all : List Exchange
  pub in_turn : AreInTurn pass.quota Fresh [] [] all
  pub parting : Option Receipt
  pub receipts : pass.receipts ≡ receipts_in all ++ option_to_list parting
  pub kept : pass.commands ≡ kept_in all ++ map (λ (receipt : Receipt). commands.Leave) (option_to_list parting)
  pub arrivals : pass.arrivals ≡ arrivals_in all
  pub left : List Command
  pub few : IsFew left
  pub said : map command_of taken ≡ commands_in all ++ left
  pub last : List ℕ
  pub is_last : MayBeOver last
  pub unwritten : List ℕ
  pub heard : written ++ unwritten ≡ session_text pass.quota all ++ last
  pub is_unwritten : IsUnwritten phase unwritten
  pub stands : Behind (behind_text phase) (phase_from Fresh all) parting left last

-- the same session, with another text written of what it said, in another phase
pub talks_on : (written written' : List ℕ) (taken : List Line) (phase phase' : Phase) (pass : Passed)
    (k : Talks written taken phase pass) (unwritten : List ℕ) →
    written' ++ unwritten ≡ session_text pass.quota k.all ++ k.last → IsUnwritten phase' unwritten →
    Behind (behind_text phase') (phase_from Fresh k.all) k.parting k.left k.last → Talks written' taken phase' pass
talks_on written written' taken phase phase' pass k unwritten heard is stands = record {
  all = k.all;
  in_turn = k.in_turn;
  parting = k.parting;
  receipts = k.receipts;
  kept = k.kept;
  arrivals = k.arrivals;
  left = k.left;
  few = k.few;
  said = k.said;
  last = k.last;
  is_last = k.is_last;
  unwritten = unwritten;
  heard = heard;
  is_unwritten = is;
  stands = stands;
}

abbrev pub StandsOutside : Phase → (last : List ℕ) → List Line → Type 0
StandsOutside Fresh last taken = (last ≡ []) × (taken ≡ [])
StandsOutside (Finished ended) last taken = Unit {0}
StandsOutside phase last taken = ⊥

-- of a session that plays no agent
pub record Alone (written : List ℕ) (taken : List Line) (phase : Phase) : Type 0 where
  pub last : List ℕ
  pub is_last : IsLastLine last
  pub unwritten : List ℕ
  pub heard : written ++ unwritten ≡ last
  pub is_unwritten : IsUnwritten phase unwritten
  pub stands : StandsOutside (behind_text phase) last taken

abbrev pub Known : List ℕ → List Line → Phase → Option SessionAgent → Type 0
Known written taken phase None = Alone written taken phase
Known written taken phase (Some played) = Talks written taken phase played.pass

-- The session's pass belongs to the match that it plays on.
abbrev pub IsPlayedOn : List Given → Option SessionAgent → Type 0
IsPlayedOn shared_matches None = Unit {0}
IsPlayedOn shared_matches (Some played) = IsOfSharedMatch shared_matches played.game played.pass

-- between two answers: all is written, and every line taken was answered
pub record Answered (written : List ℕ) (taken : List Line) (now : Phase) (pass : Passed) : Type 0 where
  pub all : List Exchange
  pub in_turn : AreInTurn pass.quota Fresh [] [] all
  pub receipts : pass.receipts ≡ receipts_in all
  pub kept : pass.commands ≡ kept_in all
  pub arrivals : pass.arrivals ≡ arrivals_in all
  pub said : map command_of taken ≡ commands_in all
  pub heard : written ≡ session_text pass.quota all
  pub stands : phase_from Fresh all ≡ now

pub answered_all : (written : List ℕ) (taken : List Line) (phase now : Phase) (pass : Passed)
    (k : Talks written taken phase pass) → k.unwritten ≡ [] →
    (phase_from Fresh k.all ≡ now) × (k.parting ≡ None) × (k.left ≡ []) × (k.last ≡ [])
    → Answered written taken now pass
answered_all written taken phase now pass k unwritten stands = record {
  all = k.all;
  in_turn = k.in_turn;
  receipts = k.receipts ∙ ap (λ (parting : Option Receipt). receipts_in k.all ++ option_to_list parting) stands.1
      ∙ append-nil (receipts_in k.all);
  kept = k.kept ∙ ap (λ (parting : Option Receipt). kept_in k.all
      ++ map (λ (receipt : Receipt). commands.Leave) (option_to_list parting)) stands.1
      ∙ append-nil (kept_in k.all);
  arrivals = k.arrivals;
  said = k.said ∙ ap (λ (rest : List Command). commands_in k.all ++ rest) stands.2 ∙ append-nil (commands_in k.all);
  heard = sym (append-nil written) ∙ ap (λ (rest : List ℕ). written ++ rest) (sym unwritten) ∙ k.heard
      ∙ ap (λ (rest : List ℕ). session_text pass.quota k.all ++ rest) stands.3
      ∙ append-nil (session_text pass.quota k.all);
  stands = stands.0;
}

-- ---- answers

-- something is said and answered, and its line is owed
pub more_said : (written : List ℕ) (taken more : List Line) (now : Phase) (pass pass' : Passed) (one : Exchange)
    (reply : Reply) (next : Phase) → Answered written taken now pass →
    pass'.quota ≡ pass.quota → pass'.receipts ≡ pass.receipts ++ receipts_in (one ∷ []) →
    pass'.commands ≡ pass.commands ++ kept_in (one ∷ []) → pass'.arrivals ≡ pass.arrivals ++ arrivals_in (one ∷ []) →
    map command_of more ≡ commands_in (one ∷ []) → IsInTurn pass.quota now pass.receipts pass.arrivals one →
    reply_in pass.quota pass.receipts one ≡ Some reply → Behind next (phase_after one) None [] [] →
    Talks written (taken ++ more) (Owes (text_of reply) next) pass'
more_said written taken more now pass pass' one reply next a quota receipts kept arrivals said turn replied behind =
    let longer : List Exchange = a.all ++ one ∷ [] in
    record {
      all = longer;
      in_turn = subst (λ (quota : ℕ). AreInTurn quota Fresh [] [] longer) (sym quota)
          (turn_more pass.quota Fresh [] [] a.all one a.in_turn
          (subst (λ (phase : Phase). IsInTurn pass.quota phase (receipts_in a.all) (arrivals_in a.all) one)
          (sym a.stands) (turn_same pass.quota now _ _ _ _ one a.receipts a.arrivals turn)));
      parting = None;
      receipts = receipts ∙ ap (λ (some : List Receipt). some ++ receipts_in (one ∷ [])) a.receipts
          ∙ sym (receipts_in-append a.all (one ∷ [])) ∙ sym (append-nil (receipts_in longer));
      kept = kept ∙ ap (λ (some : List Command). some ++ kept_in (one ∷ [])) a.kept
          ∙ sym (kept_in-append a.all (one ∷ [])) ∙ sym (append-nil (kept_in longer));
      arrivals = arrivals ∙ ap (λ (some : List Receipt). some ++ arrivals_in (one ∷ [])) a.arrivals
          ∙ sym (arrivals_in-append a.all (one ∷ []));
      left = [];
      few = inl refl;
      said = map-append command_of taken more ∙ ap₂ (λ (some rest : List Command). some ++ rest) a.said said
          ∙ sym (commands_in-append a.all (one ∷ [])) ∙ sym (append-nil (commands_in longer));
      last = [];
      is_last = inl refl;
      unwritten = text_of reply;
      heard = ap₂ (λ (some rest : List ℕ). some ++ rest) a.heard
          (ap text_if (sym replied) ∙ ap (λ (some : List Receipt). text_if (reply_in pass.quota some one)) a.receipts)
          ∙ sym (text_more pass.quota [] a.all one) ∙ ap (λ (quota : ℕ). session_text quota longer) (sym quota)
          ∙ sym (append-nil (session_text pass'.quota longer));
      is_unwritten = refl;
      stands = subst (λ (phase : Phase). Behind next phase None [] []) (sym (phase_from-one Fresh a.all one)) behind;
    }

pub few_lines : (line : Line) → IsFew (map command_of (line ∷ []))
few_lines line = inr (command_of line, refl)

-- nothing is said of what is left, and this is owed
left_unsaid : (written : List ℕ) (taken more : List Line) (now phase : Phase) (pass : Passed) (last : List ℕ)
    → IsFew (map command_of more) → Answered written taken now pass → MayBeOver last → IsUnwritten phase last →
    ((now : Phase) → Behind (behind_text phase) now None (map command_of more) last)
    → Talks written (taken ++ more) phase pass
left_unsaid written taken more now phase pass last few a may is stands = record {
  all = a.all;
  in_turn = a.in_turn;
  parting = None;
  receipts = a.receipts ∙ sym (append-nil (receipts_in a.all));
  kept = a.kept ∙ sym (append-nil (kept_in a.all));
  arrivals = a.arrivals;
  left = map command_of more;
  few = few;
  said = map-append command_of taken more ∙ ap (λ (some : List Command). some ++ map command_of more) a.said;
  last = last;
  is_last = may;
  unwritten = last;
  heard = ap (λ (some : List ℕ). some ++ last) a.heard;
  is_unwritten = is;
  stands = stands (phase_from Fresh a.all);
}

-- that the match is over
pub ends_over : (written : List ℕ) (taken more : List Line) (now : Phase) (pass pass' : Passed)
    → IsFew (map command_of more) → pass' ≡ pass → Answered written taken now pass →
    Talks written (taken ++ more) (Owes (text_of replies.Over) (Finished endings.Over)) pass'
ends_over written taken more now pass pass' few same a =
    subst (Talks written (taken ++ more) (Owes (text_of replies.Over) (Finished endings.Over))) (sym same)
    (left_unsaid written taken more now _ pass (text_of replies.Over) few a (inr refl) refl (λ now. (refl, refl)))

-- no answer, for want of memory
pub leaves_without : (written : List ℕ) (taken more : List Line) (now : Phase) (pass : Passed)
    → IsFew (map command_of more) → Answered written taken now pass
    → Talks written (taken ++ more) (Leaves endings.Memory) pass
leaves_without written taken more now pass few a =
    left_unsaid written taken more now _ pass [] few a (inl refl) tt (λ now. (tt, refl, tt))

pub behind_heard : (reply : Reply) → is_unheard reply ≡ false
    → Behind (answered_by true reply) (answered_by true reply) None [] []
behind_heard reply heard = grind arith

-- The reason why a command was not heard.
pub by_refusal : (written : List ℕ) (taken : List Line) (line : Line) (now : Phase) (pass : Passed) (reply : Reply)
    (refusal : Option Why) → TakesLines now → Answered written taken now pass →
    refusal_by pass.quota (tally_in pass.receipts) (command_of line) ≡ refusal
    → Some reply ≡ option_map replies.No refusal
    → Talks written (taken ++ line ∷ []) (Owes (text_of reply) (answered_by true reply)) pass
by_refusal written taken line now pass reply None takes a is same = absurd (cc)
by_refusal written taken line now pass reply (Some why) takes a is same =
    let said : reply ≡ replies.No why = cc in
    subst (λ (one : Reply). Talks written (taken ++ line ∷ []) (Owes (text_of one) (answered_by true one)) pass)
    (sym said)
    (more_said written taken (line ∷ []) now pass pass (Refused (command_of line)) (replies.No why) Ready a refl
    (sym (append-nil pass.receipts)) (sym (append-nil pass.commands)) (sym (append-nil pass.arrivals)) refl
    (takes, (why, is)) (ap (option_map replies.No) is) (refl, refl, refl, refl))

-- the answer to a line
pub line_answered : (written : List ℕ) (taken : List Line) (line : Line) (now : Phase) (pass pass' : Passed)
    (reply : Reply) → TakesLines now → Answered written taken now pass → IsToldBy pass (command_of line) reply pass' →
    Talks written (taken ++ line ∷ []) (Owes (text_of reply) (answered_by true reply)) pass'
line_answered written taken line now pass pass' reply takes a told = by_place told.place told.submitted
  where
    by_place : (place : Option ℕ) → IsSubmitted pass (command_of line) place reply pass' →
        Talks written (taken ++ line ∷ []) (Owes (text_of reply) (answered_by true reply)) pass'
    by_place (Some place) is =
        let receipt : Receipt = record { place = place; reply = reply } in
        more_said written taken (line ∷ []) now pass pass' (Took (command_of line) receipt) reply
        (answered_by true reply) a (ap (λ (one : Passed). one.quota) is.gains)
        (ap (λ (one : Passed). one.receipts) is.gains) (ap (λ (one : Passed). one.commands) is.gains)
        (ap (λ (one : Passed). one.arrivals) is.gains ∙ sym (append-nil pass.arrivals)) refl
        (takes, is.free, is.arrived) refl
        (behind_heard reply is.heard)
    by_place None is = elim is.why [
      | inl stray ↦ absurd (told.agrees stray)
      | inr (inl over) ↦
          subst (λ (one : Reply). Talks written (taken ++ line ∷ []) (Owes (text_of one) (answered_by true one)) pass')
          (sym over) (ends_over written taken (line ∷ []) now pass pass' (few_lines line) is.same a)
      | inr (inr refused) ↦
          subst (Talks written (taken ++ line ∷ []) (Owes (text_of reply) (answered_by true reply))) (sym is.same)
          (by_refusal written taken line now pass reply _ takes a refl refused)
    ]

-- what news makes of a pass, whatever was seen
abbrev pub PassNews : Passed → Reply → Passed → Type 0
PassNews pass (replies.Here ports came board) pass' = GainsArrival pass (replies.Here ports came board) pass'
PassNews pass replies.Over pass' = pass' ≡ pass
PassNews pass said pass' = ⊥

of_news : (given : Given) (pass pass' : Passed) (reply : Reply) → IsNews given pass reply pass' →
    PassNews pass reply pass'
of_news given pass pass' reply is = grind arith

pub pass_news : (shared_matches : List Given) (game : ℕ) (pass pass' : Passed) (reply : Reply)
    → IsNewsIn shared_matches game pass reply pass' → PassNews pass reply pass'
pass_news [] game pass pass' reply is = subst (λ (said : Reply). PassNews pass said pass') (sym is.0) is.1
pass_news (given ∷ shared_matches) zero pass pass' reply is = of_news given pass pass' reply is
pass_news (given ∷ shared_matches) (suc game) pass pass' reply is = pass_news shared_matches game pass pass' reply is

-- Case analysis: the number belongs to a match of the list.
news_at : (shared_matches : List Given) (game : ℕ) (pass pass' : Passed) (given : Given) → game < length shared_matches
    → given ≡ get_or shared_matches game given → (reply : Reply) → IsNews given pass reply pass'
    → IsNewsIn shared_matches game pass reply pass'
news_at [] game pass pass' given below there reply is = absurd (omega (arith, below))
news_at (first ∷ shared_matches) zero pass pass' given below there reply is =
    subst (λ (one : Given). IsNews one pass reply pass') there is
news_at (first ∷ shared_matches) (suc game) pass pass' given below there reply is =
    news_at shared_matches game pass pass' given (omega (arith, below)) there reply is

pub news_called : (inside old : Seated) (played : SessionAgent) (pass' : Passed) (given : Given)
    (result : Result Reply AllocError) → inside ≡ old → inside.played ≡ Some played
    → played.game < length inside.shared_matches
    → given ≡ get_or inside.shared_matches played.game given
    → IfOk result (λ reply. IsNews given played.pass reply pass')
    → OnErr result (pass' ≡ played.pass) →
    Calls old News (answered result) (record inside { played = Some (record played { pass = pass' }) })
news_called inside old played pass' given result same plays below there news failed =
    subst (λ (old : Seated). Calls old News (answered result) (record inside
    { played = Some (record played { pass = pass' }) })) same (by_result result news failed)
  where
    by_result : (result : Result Reply AllocError) → IfOk result (λ reply. IsNews given played.pass reply pass')
        → OnErr result (pass' ≡ played.pass) →
        Calls inside News (answered result) (record inside { played = Some (record played { pass = pass' }) })
    by_result (Ok reply) news failed =
        rw plays (pass', news_at inside.shared_matches played.game played.pass pass' given below there reply news, refl)
    by_result (Err error) news failed = rw (failed, plays) refl

-- the answer to news
pub news_answered : (written : List ℕ) (taken : List Line) (pass pass' : Passed) (reply : Reply)
    → Answered written taken Awaits pass → PassNews pass reply pass' →
    Talks written (taken ++ []) (Owes (text_of reply) (answered_by false reply)) pass'
news_answered written taken pass pass' (replies.Here ports came board) a is =
    let said : Reply = replies.Here ports came board in
    more_said written taken [] Awaits pass pass' (Came (record { place = is.place; reply = said })) said Ready a
    (ap (λ (one : Passed). one.quota) is.gains)
    (ap (λ (one : Passed). one.receipts) is.gains ∙ sym (append-nil pass.receipts))
    (ap (λ (one : Passed). one.commands) is.gains ∙ sym (append-nil pass.commands))
    (ap (λ (one : Passed). one.arrivals) is.gains) refl refl refl (refl, refl, refl, refl)
news_answered written taken pass pass' replies.Over a is =
    ends_over written taken [] Awaits pass pass' (inl refl) is a
news_answered written taken pass pass' replies.Written a is = absurd is
news_answered written taken pass pass' (replies.Changed board) a is = absurd is
news_answered written taken pass pass' replies.Gone a is = absurd is
news_answered written taken pass pass' replies.Noted a is = absurd is
news_answered written taken pass pass' replies.Bye a is = absurd is
news_answered written taken pass pass' (replies.No why) a is = absurd is

-- ---- stops

-- between two lines
pub stopped_known : (written : List ℕ) (taken : List Line) (phase : Phase) (played : Option SessionAgent)
    (cause : Ending)
    → MayLeave cause → ((now : Phase) → TakesLines now → Ends cause now None [] []) → TakesLines phase →
    Known written taken phase played → Known written taken (stopped phase cause) played
stopped_known written taken Fresh None cause leave ends takes k = record {
  last = k.last;
  is_last = k.is_last;
  unwritten = k.unwritten;
  heard = k.heard;
  is_unwritten = subst (MayLack cause) (sym k.is_unwritten) (lacks_none cause);
  stands = tt;
}
stopped_known written taken Fresh (Some played) cause leave ends takes k = absurd k.stands
stopped_known written taken Ready None cause leave ends takes k = absurd k.stands
stopped_known written taken Ready (Some played) cause leave ends takes k =
    talks_on written written taken Ready (Leaves cause) played.pass k k.unwritten k.heard
    (subst (MayLack cause) (sym k.is_unwritten) (lacks_none cause)) (
      leave,
      k.stands.1,
      subst (λ (left : List Command). Ends cause (phase_from Fresh k.all) None left k.last) (sym k.stands.2)
          (subst (λ (last : List ℕ). Ends cause (phase_from Fresh k.all) None [] last) (sym k.stands.3)
          (ends (phase_from Fresh k.all) (subst TakesLines (sym k.stands.0) tt))),
    )
stopped_known written taken Awaits played cause leave ends takes k = absurd takes
stopped_known written taken (Owes text next) played cause leave ends takes k = absurd takes
stopped_known written taken (Leaves ended) played cause leave ends takes k = absurd takes
stopped_known written taken (Finished ended) played cause leave ends takes k = absurd takes

-- ---- writing

-- a text of which a part went out, where this stops the session
module _ (written some rest text : List ℕ) (taken : List Line) (cause : Ending) (split : some ++ rest ≡ text)
    (lacks_any : MayLack cause rest) (leave : MayLeave cause)
    (ends : (now : Phase) (parting : Option Receipt) (left : List Command) (last : List ℕ)
    → Ends cause now parting left last) where
  cut_talk : (next : Phase) (pass : Passed) → Talks written taken (Owes text next) pass
      → Talks (written ++ some) taken (stopped next cause) pass
  cut_talk next pass k =
      go next k.stands
    where
      with_phase : (phase : Phase) → IsUnwritten phase rest →
          Behind (behind_text phase) (phase_from Fresh k.all) k.parting k.left k.last
          → Talks (written ++ some) taken phase pass
      with_phase phase =
          talks_on written (written ++ some) taken (Owes text next) phase pass k rest
          (append_assoc written some rest
          ∙ ap (λ (all : List ℕ). written ++ all) (split ∙ sym k.is_unwritten) ∙ k.heard)

      go : (next : Phase) → Behind next (phase_from Fresh k.all) k.parting k.left k.last
          → Talks (written ++ some) taken (stopped next cause) pass
      go Fresh stands = absurd stands
      go Ready stands = with_phase (Leaves cause) lacks_any (leave, stands.1, ends _ _ _ _)
      go Awaits stands = with_phase (Leaves cause) lacks_any (leave, stands.1, ends _ _ _ _)
      go (Owes text next) stands = absurd stands
      go (Leaves ended) stands = with_phase (Leaves cause) lacks_any (leave, stands.1, ends _ _ _ _)
      go (Finished ended) stands = with_phase (Finished cause) lacks_any (ends _ _ _ _)

  cut_alone : (next : Phase) → Alone written taken (Owes text next)
      → Alone (written ++ some) taken (stopped next cause)
  cut_alone next k = go next k.stands
    where
      with_ending : Alone (written ++ some) taken (Finished cause)
      with_ending = record {
        last = k.last;
        is_last = k.is_last;
        unwritten = rest;
        heard = append_assoc written some rest
            ∙ ap (λ (all : List ℕ). written ++ all) (split ∙ sym k.is_unwritten) ∙ k.heard;
        is_unwritten = lacks_any;
        stands = tt;
      }

      go : (next : Phase) → StandsOutside next k.last taken → Alone (written ++ some) taken (stopped next cause)
      go Fresh stands = with_ending
      go Ready stands = absurd stands
      go Awaits stands = absurd stands
      go (Owes text next) stands = absurd stands
      go (Leaves ended) stands = absurd stands
      go (Finished ended) stands = with_ending

-- a text that went out
module _ (written text : List ℕ) (taken : List Line) where
  out_talk : (next : Phase) (pass : Passed) → Talks written taken (Owes text next) pass
      → Talks (written ++ text) taken next pass
  out_talk next pass k =
      go next k.stands
    where
      with_phase : (phase : Phase) → IsUnwritten phase [] →
          Behind (behind_text phase) (phase_from Fresh k.all) k.parting k.left k.last
          → Talks (written ++ text) taken phase pass
      with_phase phase =
          talks_on written (written ++ text) taken (Owes text next) phase pass k []
          (append-nil (written ++ text) ∙ ap (λ (all : List ℕ). written ++ all) (sym k.is_unwritten) ∙ k.heard)

      go : (next : Phase) → Behind next (phase_from Fresh k.all) k.parting k.left k.last
          → Talks (written ++ text) taken next pass
      go Fresh stands = absurd stands
      go Ready stands = with_phase Ready refl stands
      go Awaits stands = with_phase Awaits refl stands
      go (Owes text next) stands = absurd stands
      go (Leaves ended) stands = with_phase (Leaves ended) (lacks_none ended) stands
      go (Finished ended) stands = with_phase (Finished ended) (lacks_none ended) stands

  out_alone : (next : Phase) → Alone written taken (Owes text next) → Alone (written ++ text) taken next
  out_alone next k =
      go next k.stands
    where
      with_phase : (phase : Phase) → IsUnwritten phase [] → StandsOutside (behind_text phase) k.last taken
          → Alone (written ++ text) taken phase
      with_phase phase is stands = record {
        last = k.last;
        is_last = k.is_last;
        unwritten = [];
        heard = append-nil (written ++ text) ∙ ap (λ (all : List ℕ). written ++ all) (sym k.is_unwritten) ∙ k.heard;
        is_unwritten = is;
        stands = stands;
      }

      go : (next : Phase) → StandsOutside next k.last taken → Alone (written ++ text) taken next
      go Fresh stands = with_phase Fresh refl stands
      go Ready stands = absurd stands
      go Awaits stands = absurd stands
      go (Owes text next) stands = absurd stands
      go (Leaves ended) stands = absurd stands
      go (Finished ended) stands = with_phase (Finished ended) (lacks_none ended) stands

pub sent_known : {O : Type 0} (takes : O → List ℕ → WriteAnswer → O → Type 0) (written : List ℕ) (taken : List Line)
    (played : Option SessionAgent) (old new : O) (phase next : Phase) (some : List ℕ)
    → Sends takes old phase some new next →
    Known written taken phase played → Known (written ++ some) taken next played
sent_known takes written taken None old _ _ _ _ (goes_out text next new puts) k = out_alone written text taken next k
sent_known takes written taken None old _ _ _ _ (is_cut text next new some) k =
    cut_alone written (take some.sent text) (drop some.sent text) text taken endings.WriteFault
    (take-append-drop some.sent text) tt tt (λ now parting left last. tt) next k
sent_known takes written taken None old _ _ _ _ (is_kept_back text next) k =
    cut_alone written [] text text taken endings.Memory refl tt tt (λ now parting left last. tt) next k
sent_known takes written taken (Some played) old _ _ _ _ (goes_out text next new puts) k =
    out_talk written text taken next played.pass k
sent_known takes written taken (Some played) old _ _ _ _ (is_cut text next new some) k =
    cut_talk written (take some.sent text) (drop some.sent text) text taken endings.WriteFault
    (take-append-drop some.sent text) tt tt (λ now parting left last. tt) next played.pass k
sent_known takes written taken (Some played) old _ _ _ _ (is_kept_back text next) k =
    cut_talk written [] text text taken endings.Memory refl tt tt (λ now parting left last. tt) next played.pass k
