-- What a session over a port to a shared match wrote, step by step.
use Rattle.std.proofs.Common.{◌≡◌, ◌∙◌, ℕ, zero, suc, inl, inr, Option, Some, None, List, [], ◌∷◌, ◌++◌, map}
use Rattle.std.proofs.Common.{length, get_or, ◌<◌, arith}
use Rattle.std.proofs.Common.{option_to_list, refl, sym, ap, subst, append-nil}
use Rattle.std.specs.Prelude.{slice_get}
use Rattle.bhs_model.specs.declared.commands.Command.{Command}
use Rattle.bhs_model.specs.declared.commands.Command.TheVariants as commands
use Rattle.bhs_model.specs.declared.replies.Reply.{Reply}
use Rattle.bhs_wire.specs.declared.commands.First.{First}
use Rattle.bhs_wire.specs.declared.commands.First.TheVariants as firsts
use Rattle.bhs_wire.specs.declared.denials.Denial.{Denial}
use Rattle.bhs_wire.specs.declared.denials.Denial.TheVariants as denials
use Rattle.bhs_wire.specs.Lines.{Line, said_by}
use Rattle.bhs_stream.specs.Streams.{Chunk, Bytes, End, Fails, WriteAnswer}
use Rattle.bhs_setups.specs.KeyTable.{Seat}
use Rattle.bhs_shared_match.specs.declared.model.Receipt.{Receipt}
use Rattle.bhs_shared_match.specs.Passes.{Passed}
use Rattle.bhs_shared_match.specs.Recording.{IsSubmitted}
use Rattle.bhs_shared_match.specs.SharedMatches.{Given}
use Rattle.bhs_shared_match.specs.Unclaimed.{IsFresh}
use Rattle.bhs_session.specs.declared.endings.Ended.{Ended as Ending}
use Rattle.bhs_session.specs.declared.endings.Ended.TheVariants as endings
use Rattle.bhs_session.specs.declared.port.Entered.TheVariants as entered
use Rattle.bhs_session.specs.Port.{PortRequest, Enters, Tells, News, PortAnswer, LetIn, Answers, NoMemory}
use Rattle.bhs_session.specs.Phase.{Phase, Fresh, Ready, Awaits, Owes, Leaves, Finished, denied}
use Rattle.bhs_session.specs.Texts.{denial_text, command_by, command_of}
use Rattle.bhs_session.specs.Machine.{Asks, Denies, ask, hear}
use Rattle.bhs_session.specs.Session.{Point, SessionStep, Session, opens, reads, steps, asks, denies, awaits, sends}
use Rattle.bhs_session.specs.Session.{lacks}
use Rattle.bhs_session.specs.Session.{tires, leaves, fresh, TakesLines, after_read, Serves}
use Rattle.bhs_session.proofs.SessionLaws.{InOrder-session}
use Rattle.bhs_server.specs.declared.ports.SessionAgent.{SessionAgent}
use Rattle.bhs_server.specs.Ports.{Seated, IsOfSharedMatch, IsToldBy, Calls}
use Rattle.bhs_server.specs.Exchanges.{session_text, receipts_in, kept_in}
use Rattle.bhs_server.specs.Exchanges.{phase_from, AreInTurn}
use Rattle.bhs_server.specs.Written.{Ends, IsWrittenFor, IsAttended}
use Rattle.bhs_server.proofs.DrainedLemmas.{session_drained, none_more}
use Rattle.bhs_server.proofs.KnownLemmas.{MayLeave, Talks, Alone, Known, IsPlayedOn, Answered}
use Rattle.bhs_server.proofs.KnownLemmas.{talks_on, answered_all, few_lines, leaves_without}
use Rattle.bhs_server.proofs.KnownLemmas.{line_answered, PassNews, pass_news, news_answered, stopped_known, sent_known}

-- ---- the port

-- a denial is owed
denied_alone : (written : List ℕ) (taken more : List Line) (denial : Denial) → Alone written taken Fresh
    → Alone written more (denied denial)
denied_alone written taken more denial k = record {
  last = denial_text denial;
  is_last = inr (inr (denial, refl));
  unwritten = denial_text denial;
  heard = ap (λ (some : List ℕ). some ++ denial_text denial)
      (sym (append-nil written) ∙ ap (λ (rest : List ℕ). written ++ rest) (sym k.is_unwritten) ∙ k.heard
      ∙ k.stands.0);
  is_unwritten = refl;
  stands = tt;
}

no_length : (xs : List Command) → length xs ≡ 0 → xs ≡ []
no_length [] none = refl
no_length (x ∷ xs) none = absurd (omega (arith, none))

-- a pass that was claimed has told nothing
claimed : (written : List ℕ) (taken : List Line) (agent : ℕ) (pass : Passed) → IsFresh agent pass
    → length pass.receipts ≡ length pass.commands → Alone written taken Fresh → Answered written taken Fresh pass
claimed written taken agent pass is paired k = record {
  all = [];
  in_turn = tt;
  receipts = is.receipts;
  kept = no_length pass.commands (sym paired ∙ ap length is.receipts);
  arrivals = is.arrivals;
  said = ap (map command_of) k.stands.1;
  heard = sym (append-nil written) ∙ ap (λ (rest : List ℕ). written ++ rest) (sym k.is_unwritten) ∙ k.heard
      ∙ k.stands.0;
  stands = refl;
}

-- no answer to an enter, for want of memory
finished_without : (written : List ℕ) (taken : List Line) (line : Line) (pass : Passed)
    → Answered written taken Fresh pass → Talks written (taken ++ line ∷ []) (Finished endings.Memory) pass
finished_without written taken line pass a =
    let k = leaves_without written taken (line ∷ []) Fresh pass (few_lines line) a in
    talks_on written written (taken ++ line ∷ []) (Leaves endings.Memory) (Finished endings.Memory) pass k k.unwritten
    k.heard tt tt

-- a port by its parts
abbrev seated : List Seat → List Given → Option SessionAgent → Seated
seated keys shared_matches played = record { keys = keys; shared_matches = shared_matches; played = played }

module _ (written : List ℕ) (taken : List Line) (keys : List Seat) (shared_matches : List Given) where
  -- the first line
  first_heard : (line : Line) (key : List ℕ) (heard : PortAnswer) (new : Seated) (says : said_by line
      ≡ firsts.Enter key) →
      Calls (seated keys shared_matches None) (Enters key) heard new → Alone written taken Fresh
      → Known written (taken ++ line ∷ []) (hear Fresh heard) new.played
  first_heard line key (LetIn entered.Key) new says called k =
      subst (λ (port : Seated). Known written (taken ++ line ∷ []) (denied denials.Key) port.played) (sym called.0)
      (denied_alone written taken (taken ++ line ∷ []) denials.Key k)
  first_heard line key (LetIn entered.Taken) new says called k =
      subst (λ (port : Seated). Known written (taken ++ line ∷ []) (denied denials.Taken) port.played) (sym called.0)
      (denied_alone written taken (taken ++ line ∷ []) denials.Taken k)
  first_heard line key (LetIn (entered.In reply)) new says called k =
      subst (λ (port : Seated). Known written (taken ++ line ∷ []) (hear Fresh (LetIn (entered.In reply))) port.played)
      (sym called.plays)
      (line_answered written taken line Fresh called.fresh called.pass reply tt
      (claimed written taken called.claimed.agent called.fresh called.claimed.is_fresh called.claimed.paired k)
      (subst (λ (command : Command). IsToldBy called.fresh command reply called.pass) (sym (ap command_by says))
      called.told))
  first_heard line key NoMemory new says called k =
      subst (λ (port : Seated). Known written (taken ++ line ∷ []) (Finished endings.Memory) port.played)
      (sym called.plays)
      (finished_without written taken line called.fresh
      (claimed written taken called.claimed.agent called.fresh called.claimed.is_fresh called.claimed.paired k))
  first_heard line key (Answers reply) new says called k = absurd called

  -- a later line
  later_heard : (line : Line) (played : SessionAgent) (heard : PortAnswer) (new : Seated) →
      Calls (seated keys shared_matches (Some played)) (Tells (command_of line)) heard new
      → Talks written taken Ready played.pass
      → Known written (taken ++ line ∷ []) (hear Ready heard) new.played
  later_heard line played (Answers reply) new called k =
      subst (λ (port : Seated). Known written (taken ++ line ∷ []) (hear Ready (Answers reply)) port.played)
      (sym called.2)
      (line_answered written taken line Ready played.pass called.0 reply tt
      (answered_all written taken Ready Ready played.pass k k.is_unwritten k.stands) called.1)
  later_heard line played NoMemory new called k =
      subst (λ (port : Seated). Known written (taken ++ line ∷ []) (Leaves endings.Memory) port.played) (sym called)
      (leaves_without written taken (line ∷ []) Ready played.pass (few_lines line)
      (answered_all written taken Ready Ready played.pass k k.is_unwritten k.stands))
  later_heard line played (LetIn answer) new called k = absurd called

  -- news
  news_heard : (played : SessionAgent) (heard : PortAnswer) (new : Seated) →
      Calls (seated keys shared_matches (Some played)) News heard new → Talks written taken Awaits played.pass
      → Known written taken (hear Awaits heard) new.played
  news_heard played (Answers reply) new called k =
      subst (λ (lines : List Line). Known written lines (hear Awaits (Answers reply)) new.played) (append-nil taken)
      (subst (λ (port : Seated). Known written (taken ++ []) (hear Awaits (Answers reply)) port.played)
      (sym called.2)
      (news_answered written taken played.pass called.0 reply
      (answered_all written taken Awaits Awaits played.pass k k.is_unwritten k.stands)
      (pass_news shared_matches played.game played.pass called.0 reply called.1)))
  news_heard played NoMemory new called k =
      subst (λ (lines : List Line). Known written lines (Leaves endings.Memory) new.played) (append-nil taken)
      (subst (λ (port : Seated). Known written (taken ++ []) (Leaves endings.Memory) port.played) (sym called)
      (leaves_without written taken [] Awaits played.pass (inl refl)
      (answered_all written taken Awaits Awaits played.pass k k.is_unwritten k.stands)))
  news_heard played (LetIn answer) new called k = absurd called

  -- a Leave that an ending tells
  leave_ends : (ended : Ending) (now : Phase) (parting : Option Receipt) (left : List Command) (last : List ℕ)
      → MayLeave ended → Ends ended now None left last → Ends ended now parting left last
  leave_ends ended now parting left last leave ends = grind arith

  with_parting : (ended : Ending) (pass pass' : Passed) (parting : Option Receipt)
      → (k : Talks written taken (Leaves ended) pass) → pass'.quota ≡ pass.quota →
      pass'.receipts ≡ pass.receipts ++ option_to_list parting →
      pass'.commands ≡ pass.commands ++ map (λ (receipt : Receipt). commands.Leave) (option_to_list parting) →
      pass'.arrivals ≡ pass.arrivals → Talks written taken (Finished ended) pass'
  with_parting ended pass pass' parting k quota receipts kept arrivals = record {
    all = k.all;
    in_turn = subst (λ (quota : ℕ). AreInTurn quota Fresh [] [] k.all) (sym quota) k.in_turn;
    parting = parting;
    receipts = receipts ∙ ap (λ (some : List Receipt). some ++ option_to_list parting)
        (k.receipts ∙ ap (λ (some : Option Receipt). receipts_in k.all ++ option_to_list some) k.stands.1
        ∙ append-nil (receipts_in k.all));
    kept = kept
        ∙ ap (λ (some : List Command). some ++ map (λ (receipt : Receipt). commands.Leave) (option_to_list parting))
        (k.kept ∙ ap (λ (some : Option Receipt). kept_in k.all
        ++ map (λ (receipt : Receipt). commands.Leave) (option_to_list some)) k.stands.1
        ∙ append-nil (kept_in k.all));
    arrivals = arrivals ∙ k.arrivals;
    left = k.left;
    few = k.few;
    said = k.said;
    last = k.last;
    is_last = k.is_last;
    unwritten = k.unwritten;
    heard = k.heard ∙ ap (λ (quota : ℕ). session_text quota k.all ++ k.last) (sym quota);
    is_unwritten = k.is_unwritten;
    stands = leave_ends ended (phase_from Fresh k.all) parting k.left k.last k.stands.0 k.stands.2;
  }

  left_same : (ended : Ending) (pass pass' : Passed) → pass' ≡ pass → Talks written taken (Leaves ended) pass
      → Talks written taken (Finished ended) pass'
  left_same ended pass pass' same k =
      with_parting ended pass pass' None k (ap (λ (one : Passed). one.quota) same)
      (ap (λ (one : Passed). one.receipts) same ∙ sym (append-nil pass.receipts))
      (ap (λ (one : Passed). one.commands) same ∙ sym (append-nil pass.commands))
      (ap (λ (one : Passed). one.arrivals) same)

  left_told : (ended : Ending) (pass pass' : Passed) (reply : Reply) (place : Option ℕ)
      → IsSubmitted pass commands.Leave place reply pass' → Talks written taken (Leaves ended) pass
      → Talks written taken (Finished ended) pass'
  left_told ended pass pass' reply None is k = left_same ended pass pass' is.same k
  left_told ended pass pass' reply (Some place) is k =
      with_parting ended pass pass' (Some (record { place = place; reply = reply })) k
      (ap (λ (one : Passed). one.quota) is.gains) (ap (λ (one : Passed). one.receipts) is.gains)
      (ap (λ (one : Passed). one.commands) is.gains) (ap (λ (one : Passed). one.arrivals) is.gains)

  leave_heard : (ended : Ending) (played : SessionAgent) (heard : PortAnswer) (new : Seated) →
      Calls (seated keys shared_matches (Some played)) (Tells commands.Leave) heard new
      → Talks written taken (Leaves ended) played.pass → Known written taken (Finished ended) new.played
  leave_heard ended played (Answers reply) new called k =
      subst (λ (port : Seated). Known written taken (Finished ended) port.played) (sym called.2)
      (left_told ended played.pass called.0 reply called.1.place called.1.submitted k)
  leave_heard ended played NoMemory new called k =
      subst (λ (port : Seated). Known written taken (Finished ended) port.played) (sym called)
      (left_same ended played.pass played.pass refl k)
  leave_heard ended played (LetIn answer) new called k = absurd called

  -- a line
  first_known : (line : Line) (asked : PortRequest) (heard : PortAnswer) (new : Seated) (first : First)
      → said_by line ≡ first →
      ask Fresh first ≡ Asks asked → Calls (seated keys shared_matches None) asked heard new → Alone written taken Fresh
      → Known written (taken ++ line ∷ []) (hear Fresh heard) new.played
  first_known line asked heard new (firsts.Enter key) says is called k =
      let same : asked ≡ Enters key = cc in
      first_heard line key heard new says
      (subst (λ (one : PortRequest). Calls (seated keys shared_matches None) one heard new) same called) k
  first_known line asked heard new (firsts.Tell command) says is called k = absurd (cc)

  asked_known : (phase : Phase) (played : Option SessionAgent) (line : Line) (asked : PortRequest) (heard : PortAnswer)
      (new : Seated) →
      ask phase (said_by line) ≡ Asks asked → Calls (seated keys shared_matches played) asked heard new →
      Known written taken phase played → Known written (taken ++ line ∷ []) (hear phase heard) new.played
  asked_known Fresh None line asked heard new is called k =
      first_known line asked heard new (said_by line) refl is called k
  asked_known Fresh (Some played) line asked heard new is called k = absurd k.stands
  asked_known Ready None line asked heard new is called k = absurd k.stands
  asked_known Ready (Some played) line asked heard new is called k =
      let same : asked ≡ Tells (command_of line) = cc in
      later_heard line played heard new
      (subst (λ (one : PortRequest). Calls (seated keys shared_matches (Some played)) one heard new) same called) k
  asked_known Awaits played line asked heard new is called k = absurd (cc)
  asked_known (Owes text next) played line asked heard new is called k = absurd (cc)
  asked_known (Leaves ended) played line asked heard new is called k = absurd (cc)
  asked_known (Finished ended) played line asked heard new is called k = absurd (cc)

  denied_known : (phase : Phase) (played : Option SessionAgent) (line : Line) (denial : Denial) →
      ask phase (said_by line) ≡ Denies denial → Known written taken phase played
      → Known written (taken ++ line ∷ []) (denied denial) played
  denied_known Fresh None line denial is k = denied_alone written taken (taken ++ line ∷ []) denial k
  denied_known Fresh (Some played) line denial is k = absurd k.stands
  denied_known Ready played line denial is k = absurd (cc)
  denied_known Awaits played line denial is k = absurd (cc)
  denied_known (Owes text next) played line denial is k = absurd (cc)
  denied_known (Leaves ended) played line denial is k = absurd (cc)
  denied_known (Finished ended) played line denial is k = absurd (cc)

  news_known : (played : Option SessionAgent) (heard : PortAnswer) (new : Seated)
      → Calls (seated keys shared_matches played) News heard new
      → Known written taken Awaits played → Known written taken (hear Awaits heard) new.played
  news_known None heard new called k = absurd k.stands
  news_known (Some played) heard new called k = news_heard played heard new called k

  left_known : (ended : Ending) (played : Option SessionAgent) (heard : PortAnswer) (new : Seated) →
      Calls (seated keys shared_matches played) (Tells commands.Leave) heard new
      → Known written taken (Leaves ended) played
      → Known written taken (Finished ended) new.played
  left_known ended None heard new called k = absurd k.stands
  left_known ended (Some played) heard new called k = leave_heard ended played heard new called k

-- ---- sessions

module _ {O : Type 0} (takes : O → List ℕ → WriteAnswer → O → Type 0) where
  abbrev At : Point O Seated → Type 0
  At p = Known p.written p.taken p.phase p.port.played

  step_known : (p q : Point O Seated) → SessionStep takes Calls p q → At p → At q
  step_known _ _ (asks p line asked heard new says next called) k =
      asked_known p.written p.taken p.port.keys p.port.shared_matches p.phase p.port.played line asked heard new says
      called k
  step_known _ _ (denies p line denial says next) k =
      denied_known p.written p.taken p.port.keys p.port.shared_matches p.phase p.port.played line denial says k
  step_known _ _ (awaits p heard new at called) k =
      subst (λ (phase : Phase). Known p.written p.taken (hear phase heard) new.played) (sym at)
      (news_known p.written p.taken p.port.keys p.port.shared_matches p.port.played heard new called
      (subst (λ (phase : Phase). Known p.written p.taken phase p.port.played) at k))
  step_known _ _ (sends p some output next sent) k =
      sent_known takes p.written p.taken p.port.played p.output output p.phase next some sent k
  step_known _ _ (lacks p lines some) k =
      stopped_known p.written p.taken p.phase p.port.played endings.Memory tt (λ now line. tt) lines k
  step_known _ _ (tires p lines every left) k =
      stopped_known p.written p.taken p.phase p.port.played endings.Turns tt (λ now line. (line, refl, refl)) lines k
  step_known _ _ (leaves p ended heard new at called) k =
      left_known p.written p.taken p.port.keys p.port.shared_matches ended p.port.played heard new called
      (subst (λ (phase : Phase). Known p.written p.taken phase p.port.played) at k)

  read_known : (p : Point O Seated) (chunk : Chunk) → TakesLines p.phase → At p → At (after_read chunk p)
  read_known p (Bytes piece) lines k = k
  read_known p End lines k =
      stopped_known p.written p.taken p.phase p.port.played endings.InputEnded tt (λ now line. (line, refl, refl)) lines
      k
  read_known p Fails lines k =
      stopped_known p.written p.taken p.phase p.port.played endings.ReadFault tt (λ now line. (line, refl, refl)) lines
      k

  session_known : {I : Type 0} (gives : I → Chunk → I → Type 0) (from : I) (start : Point O Seated) (input : I)
      (q : Point O Seated) → Session gives takes Calls from start input q → At start → At q
  session_known gives from start _ _ opens k = k
  session_known gives from start _ _ (reads input next p chunk session lines every left is given) k =
      read_known p chunk lines (session_known gives from start input p session k)
  session_known gives from start _ _ (steps input p q session step) k =
      step_known p q step (session_known gives from start input p session k)

-- ---- the match of the pass

quota_told : (pass pass' : Passed) (command : Command) (reply : Reply) (place : Option ℕ)
    → IsSubmitted pass command place reply pass' → pass'.quota ≡ pass.quota
quota_told pass pass' command reply (Some place) is = ap (λ (one : Passed). one.quota) is.gains
quota_told pass pass' command reply None is = ap (λ (one : Passed). one.quota) is.same

quota_news : (pass pass' : Passed) (reply : Reply) → PassNews pass reply pass' → pass'.quota ≡ pass.quota
quota_news pass pass' reply is = grind arith

-- Case analysis: the list has no match with this number.
of_none : (shared_matches : List Given) (game : ℕ) (pass : Passed) →
    slice_get shared_matches game ≡ None → IsOfSharedMatch shared_matches game pass → ⊥
of_none [] game pass none is = is
of_none (first ∷ shared_matches) zero pass none is = absurd (cc)
of_none (first ∷ shared_matches) (suc game) pass none is = of_none shared_matches game pass none is

pub of_given : (shared_matches : List Given) (game : ℕ) (pass : Passed) (given : Given)
    → slice_get shared_matches game ≡ Some given
    → IsOfSharedMatch shared_matches game pass → pass.quota ≡ given.setup.quota
of_given [] game pass given there is = absurd (cc)
of_given (first ∷ shared_matches) zero pass given there is =
    let same : first ≡ given = cc in is ∙ ap (λ (one : Given). one.setup.quota) same
of_given (first ∷ shared_matches) (suc game) pass given there is = of_given shared_matches game pass given there is

of_some : (shared_matches : List Given) (game : ℕ) (pass : Passed) (given : Given)
    → slice_get shared_matches game ≡ Some given
    → pass.quota ≡ given.setup.quota → IsOfSharedMatch shared_matches game pass
of_some [] game pass given there is = absurd (cc)
of_some (first ∷ shared_matches) zero pass given there is =
    let same : first ≡ given = cc in is ∙ ap (λ (one : Given). one.setup.quota) (sym same)
of_some (first ∷ shared_matches) (suc game) pass given there is = of_some shared_matches game pass given there is

-- Case analysis: the number belongs to a match of the list.
pub of_at : (shared_matches own : List Given) (game : ℕ) (pass : Passed) (given : Given) → shared_matches ≡ own
    → game < length shared_matches
    → given ≡ get_or shared_matches game given → pass.quota ≡ given.setup.quota → IsOfSharedMatch own game pass
of_at shared_matches own game pass given same below there is =
    subst (λ (all : List Given). IsOfSharedMatch all game pass) same (go shared_matches game below there)
  where
    go : (shared_matches : List Given) (game : ℕ) → game < length shared_matches
        → given ≡ get_or shared_matches game given
        → IsOfSharedMatch shared_matches game pass
    go [] game below there = absurd (omega (arith, below))
    go (first ∷ shared_matches) zero below there = is ∙ ap (λ (one : Given). one.setup.quota) there
    go (first ∷ shared_matches) (suc game) below there = go shared_matches game (omega (arith, below)) there

of_shared_match_same : (shared_matches : List Given) (game : ℕ) (pass pass' : Passed) → pass'.quota ≡ pass.quota
    → IsOfSharedMatch shared_matches game pass → IsOfSharedMatch shared_matches game pass'
of_shared_match_same shared_matches game pass pass' same is = by_given (slice_get shared_matches game) refl
  where
    by_given : (found : Option Given) → slice_get shared_matches game ≡ found
        → IsOfSharedMatch shared_matches game pass'
    by_given None none = absurd (of_none shared_matches game pass none is)
    by_given (Some given) there = of_some shared_matches game pass' given there
        (same ∙ of_given shared_matches game pass given there is)

-- The port belongs to the same matches, and its pass to one of them.
pub record StaysOn (shared_matches : List Given) (port : Seated) : Type 0 where
  pub same : port.shared_matches ≡ shared_matches
  pub plays : IsPlayedOn shared_matches port.played

stays_as : (shared_matches : List Given) (new old : Seated) → new ≡ old → StaysOn shared_matches old
    → StaysOn shared_matches new
stays_as shared_matches new old is stays = subst (StaysOn shared_matches) (sym is) stays

module _ (keys : List Seat) (shared_matches : List Given) where
  stays_after : (asked : PortRequest) (heard : PortAnswer) (played : Option SessionAgent) (new : Seated) →
      Calls (seated keys shared_matches played) asked heard new → IsPlayedOn shared_matches played
      → StaysOn shared_matches new
  stays_after (Enters key) (LetIn entered.Key) played new called on =
      stays_as shared_matches new (seated keys shared_matches played) called.0 (record { same = refl; plays = on })
  stays_after (Enters key) (LetIn entered.Taken) played new called on =
      stays_as shared_matches new (seated keys shared_matches played) called.0 (record { same = refl; plays = on })
  stays_after (Enters key) (LetIn (entered.In reply)) played new called on =
      stays_as shared_matches new _ called.plays (record {
        same = refl;
        plays = of_shared_match_same shared_matches called.game called.fresh called.pass
            (quota_told called.fresh called.pass commands.Enter reply called.told.place called.told.submitted)
            called.claimed.of_shared_match;
      })
  stays_after (Enters key) (Answers reply) played new called on = absurd called
  stays_after (Enters key) NoMemory played new called on =
      stays_as shared_matches new _ called.plays (record { same = refl; plays = called.claimed.of_shared_match })
  stays_after (Tells command) (LetIn answer) played new called on = absurd called
  stays_after (Tells command) (Answers reply) None new called on =
      stays_as shared_matches new (seated keys shared_matches None) called.1 (record { same = refl; plays = on })
  stays_after (Tells command) (Answers reply) (Some played) new called on =
      stays_as shared_matches new _ called.2 (record {
        same = refl;
        plays = of_shared_match_same shared_matches played.game played.pass called.0
            (quota_told played.pass called.0 command reply called.1.place called.1.submitted) on;
      })
  stays_after (Tells command) NoMemory played new called on =
      stays_as shared_matches new (seated keys shared_matches played) called (record { same = refl; plays = on })
  stays_after News (LetIn answer) played new called on = absurd called
  stays_after News (Answers reply) None new called on =
      stays_as shared_matches new (seated keys shared_matches None) called.1 (record { same = refl; plays = on })
  stays_after News (Answers reply) (Some played) new called on =
      stays_as shared_matches new _ called.2 (record {
        same = refl;
        plays = of_shared_match_same shared_matches played.game played.pass called.0
            (quota_news played.pass called.0 reply
            (pass_news shared_matches played.game played.pass called.0 reply called.1)) on;
      })
  stays_after News NoMemory played new called on =
      stays_as shared_matches new (seated keys shared_matches played) called (record { same = refl; plays = on })

-- of a port by itself
stays_called : (shared_matches : List Given) (asked : PortRequest) (heard : PortAnswer) (old new : Seated)
    → Calls old asked heard new
    → StaysOn shared_matches old → StaysOn shared_matches new
stays_called shared_matches asked heard old new called stays =
    let P : List Given → Type 0 = λ own. Calls (seated old.keys own old.played) asked heard new in
    stays_after old.keys shared_matches asked heard old.played new (subst P stays.same called) stays.plays

module _ {O : Type 0} (takes : O → List ℕ → WriteAnswer → O → Type 0) (shared_matches : List Given) where
  stays_step : (p q : Point O Seated) → SessionStep takes Calls p q → StaysOn shared_matches p.port
      → StaysOn shared_matches q.port
  stays_step _ _ (asks p line asked heard new says next called) on =
      stays_called shared_matches asked heard p.port new called on
  stays_step _ _ (denies p line denial says next) on = on
  stays_step _ _ (awaits p heard new at called) on =
      stays_called shared_matches News heard p.port new called on
  stays_step _ _ (sends p some output next sent) on = on
  stays_step _ _ (lacks p lines some) on = on
  stays_step _ _ (tires p lines every left) on = on
  stays_step _ _ (leaves p ended heard new at called) on =
      stays_called shared_matches (Tells commands.Leave) heard p.port new called on

  stays_read : (p : Point O Seated) (chunk : Chunk) → StaysOn shared_matches p.port
      → StaysOn shared_matches (after_read chunk p).port
  stays_read p (Bytes piece) on = on
  stays_read p End on = on
  stays_read p Fails on = on

  stays_session : {I : Type 0} (gives : I → Chunk → I → Type 0) (from : I) (start : Point O Seated) (input : I)
      (q : Point O Seated) → Session gives takes Calls from start input q → StaysOn shared_matches start.port
      → StaysOn shared_matches q.port
  stays_session gives from start _ _ opens on = on
  stays_session gives from start _ _ (reads input next p chunk session lines every left is given) on =
      stays_read p chunk (stays_session gives from start input p session on)
  stays_session gives from start _ _ (steps input p q session step) on =
      stays_step p q step (stays_session gives from start input p session on)

ended_known : (shared_matches : List Given) (written : List ℕ) (taken : List Line) (ended : Ending)
    (played : Option SessionAgent)
    → IsPlayedOn shared_matches played → Known written taken (Finished ended) played
    → IsWrittenFor shared_matches played (map command_of taken) written ended
ended_known shared_matches written taken ended None on k = record {
  last = k.last;
  is_last = k.is_last;
  unwritten = k.unwritten;
  heard = k.heard;
  is_unwritten = k.is_unwritten;
}
ended_known shared_matches written taken ended (Some played) on k = (
  on,
  record {
    all = k.all;
    in_turn = k.in_turn;
    parting = k.parting;
    receipts = k.receipts;
    kept = k.kept;
    arrivals = k.arrivals;
    left = k.left;
    few = k.few;
    said = k.said;
    last = k.last;
    is_last = k.is_last;
    unwritten = k.unwritten;
    heard = k.heard;
    is_unwritten = k.is_unwritten;
    ends = k.stands;
  },
)

-- what a session over a port to a shared match wrote, by the pass that it played by
pub served_lemma : {I O : Type 0} (gives : I → Chunk → I → Type 0) (takes : O → List ℕ → WriteAnswer → O → Type 0)
    (keys : List Seat) (shared_matches : List Given) (from input : I) (old output : O) (last : Seated) (turns : ℕ)
    (ended : Ending)
    (serves : Serves gives takes Calls from input old output (seated keys shared_matches None) last turns
    (Finished ended)) →
    IsWrittenFor shared_matches last.played (map command_of serves.taken) serves.written ended
served_lemma gives takes keys shared_matches from input old output last turns ended serves =
    ended_known shared_matches serves.written serves.taken ended last.played
    (stays_session takes shared_matches gives from (fresh old (seated keys shared_matches None) turns) input _
    serves.session
    (record { same = refl; plays = tt })).plays
    (session_known takes gives from (fresh old (seated keys shared_matches None) turns) input _ serves.session (record {
      last = [];
      is_last = inl refl;
      unwritten = [];
      heard = refl;
      is_unwritten = refl;
      stands = (refl, refl);
    }))

-- the same of a port that begins as a new one
pub attended_lemma : {I O : Type 0} (gives : I → Chunk → I → Type 0) (takes : O → List ℕ → WriteAnswer → O → Type 0)
    (keys : List Seat) (shared_matches : List Given) (from input : I) (old output : O) (first last : Seated) (turns : ℕ)
    (played : Option SessionAgent) (ended : Ending) → first ≡ seated keys shared_matches None → played ≡ last.played →
    Serves gives takes Calls from input old output first last turns (Finished ended)
    → IsAttended gives takes keys shared_matches from input old output turns played ended
attended_lemma gives takes keys shared_matches from input old output first last turns played ended is plays serves =
    let whole : Serves gives takes Calls from input old output (seated keys shared_matches None) last turns
    (Finished ended) =
    subst (λ (port : Seated). Serves gives takes Calls from input old output port last turns (Finished ended)) is
    serves in
    let order = InOrder-session whole.session ([], refl) in
    record {
      last = last;
      plays = sym plays;
      serves = whole;
      written = subst (λ (one : Option SessionAgent). IsWrittenFor shared_matches one
          (map command_of whole.taken) whole.written ended)
          (sym plays) (served_lemma gives takes keys shared_matches from input old output last turns ended whole);
      more = order.0;
      in_order = order.1;
      none_more = none_more whole.read whole.taken order.0 ended
          (session_drained takes Calls gives from (fresh old (seated keys shared_matches None) turns) input _
          whole.session tt)
          order.1;
    }
