-- A session that ended between two lines took every line that it read.
use Rattle.std.proofs.Common.{◌≡◌, ℕ, Bool, true, false, List, [], ◌∷◌, ◌++◌, length, refl, sym, ap, subst, arith}
use Rattle.std.proofs.Common.{length-append}
use Rattle.bhs_model.specs.declared.replies.Reply.{Reply}
use Rattle.bhs_wire.specs.declared.commands.First.{First}
use Rattle.bhs_wire.specs.Lines.{Line, lines, said_by}
use Rattle.bhs_stream.specs.Streams.{Chunk, Bytes, End, Fails, WriteAnswer}
use Rattle.bhs_session.specs.declared.endings.Ended.{Ended as Ending}
use Rattle.bhs_session.specs.declared.endings.Ended.TheVariants as endings
use Rattle.bhs_session.specs.Port.{PortRequest, PortAnswer}
use Rattle.bhs_session.specs.Phase.{Phase, Fresh, Ready, Awaits, Owes, Leaves, Finished, answered_by, stopped}
use Rattle.bhs_session.specs.Phase.{Sends, all as goes_out, part as is_cut, none as is_kept_back}
use Rattle.bhs_session.specs.Machine.{Asks, ask, hear}
use Rattle.bhs_session.specs.Session.{Point, SessionStep, Session, opens, reads, steps, asks, denies, awaits, sends}
use Rattle.bhs_session.specs.Session.{lacks}
use Rattle.bhs_session.specs.Session.{tires, leaves, TakesLines, after_read}
use Rattle.bhs_server.specs.Written.{is_between}

-- no ending between two lines is ahead
abbrev pub IsPlain : Phase → Type 0
IsPlain (Owes text next) = ⊥
IsPlain (Leaves ended) = is_between ended ≡ false
IsPlain (Finished ended) = is_between ended ≡ false
IsPlain phase = Unit {0}

abbrev pub Drained : Phase → (read : List ℕ) → (taken : List Line) → Type 0
Drained (Owes text next) read taken = IsPlain next
Drained (Leaves ended) read taken = is_between ended ≡ true → taken ≡ lines read
Drained (Finished ended) read taken = is_between ended ≡ true → taken ≡ lines read
Drained phase read taken = Unit {0}

plain_drained : (phase : Phase) (read : List ℕ) (taken : List Line) → IsPlain phase → Drained phase read taken
plain_drained phase read taken plain = grind arith

plain_answer : (waits : Bool) (reply : Reply) → IsPlain (answered_by waits reply)
plain_answer waits reply = grind arith

heard_drained : (phase : Phase) (heard : PortAnswer) (first : First) (asked : PortRequest) (read : List ℕ)
    (taken : List Line)
    → ask phase first ≡ Asks asked → Drained (hear phase heard) read taken
heard_drained phase heard first asked read taken is = grind (arith, plain_answer)

news_drained : (heard : PortAnswer) (read : List ℕ) (taken : List Line) → Drained (hear Awaits heard) read taken
news_drained heard read taken = grind (arith, plain_answer)

-- a session is stopped otherwise
plain_stop : (phase : Phase) (cause : Ending) (read : List ℕ) (taken : List Line) → is_between cause ≡ false
    → Drained phase read taken → Drained (stopped phase cause) read taken
plain_stop Fresh cause read taken plain drained = λ between. absurd (cc)
plain_stop Ready cause read taken plain drained = λ between. absurd (cc)
plain_stop Awaits cause read taken plain drained = λ between. absurd (cc)
plain_stop (Owes text next) cause read taken plain drained =
    plain_stop next cause read taken plain (plain_drained next read taken drained)
plain_stop (Leaves ended) cause read taken plain drained = λ between. absurd (cc)
plain_stop (Finished ended) cause read taken plain drained = λ between. absurd (cc)

-- or between two lines, where each was taken
line_stop : (phase : Phase) (cause : Ending) (read : List ℕ) (taken : List Line) → TakesLines phase
    → taken ≡ lines read → Drained (stopped phase cause) read taken
line_stop phase cause read taken takes every = grind arith

lines_drained : (phase : Phase) (read : List ℕ) (taken : List Line) → TakesLines phase → Drained phase read taken
lines_drained phase read taken takes = grind arith

sent_drained : {O : Type 0} (takes : O → List ℕ → WriteAnswer → O → Type 0) (old new : O) (phase next : Phase)
    (some read : List ℕ) (taken : List Line) → Sends takes old phase some new next → Drained phase read taken
    → Drained next read taken
sent_drained takes old _ _ _ _ read taken (goes_out text next new puts) drained = plain_drained next read taken drained
sent_drained takes old _ _ _ _ read taken (is_cut text next new some) drained =
    plain_stop next endings.WriteFault read taken refl (plain_drained next read taken drained)
sent_drained takes old _ _ _ _ read taken (is_kept_back text next) drained =
    plain_stop next endings.Memory read taken refl (plain_drained next read taken drained)

module _ {O P : Type 0} (takes : O → List ℕ → WriteAnswer → O → Type 0) (calls : P → PortRequest → PortAnswer → P
    → Type 0) where
  abbrev IsDrained : Point O P → Type 0
  IsDrained p = Drained p.phase p.read p.taken

  step_drained : (p q : Point O P) → SessionStep takes calls p q → IsDrained p → IsDrained q
  step_drained _ _ (asks p line asked heard new says next called) h =
      heard_drained p.phase heard (said_by line) asked p.read (p.taken ++ line ∷ []) says
  step_drained _ _ (denies p line denial says next) h = refl
  step_drained _ _ (awaits p heard new at called) h =
      subst (λ (phase : Phase). Drained (hear phase heard) p.read p.taken) (sym at) (news_drained heard p.read p.taken)
  step_drained _ _ (sends p some output next sent) h =
      sent_drained takes p.output output p.phase next some p.read p.taken sent h
  step_drained _ _ (lacks p lines some) h = plain_stop p.phase endings.Memory p.read p.taken refl h
  step_drained _ _ (tires p lines every left) h = line_stop p.phase endings.Turns p.read p.taken lines every
  step_drained _ _ (leaves p ended heard new at called) h =
      subst (λ (phase : Phase). Drained phase p.read p.taken) at h

  read_drained : (p : Point O P) (chunk : Chunk) → TakesLines p.phase → p.taken ≡ lines p.read → IsDrained p
      → IsDrained (after_read chunk p)
  read_drained p (Bytes piece) takes every h = lines_drained p.phase (p.read ++ piece) p.taken takes
  read_drained p End takes every h = line_stop p.phase endings.InputEnded p.read p.taken takes every
  read_drained p Fails takes every h = line_stop p.phase endings.ReadFault p.read p.taken takes every

  pub session_drained : {I : Type 0} (gives : I → Chunk → I → Type 0) (from : I) (start : Point O P) (input : I)
      (q : Point O P) → Session gives takes calls from start input q → IsDrained start → IsDrained q
  session_drained gives from start _ _ opens h = h
  session_drained gives from start _ _ (reads input next p chunk session takes every left is given) h =
      read_drained p chunk takes every (session_drained gives from start input p session h)
  session_drained gives from start _ _ (steps input p q session step) h =
      step_drained p q step (session_drained gives from start input p session h)

no_more : (all taken more : List Line) → all ≡ taken ++ more → taken ≡ all → more ≡ []
no_more all taken [] split every = refl
no_more all taken (line ∷ more) split every =
    let long = ap length split in
    let short = ap length every in
    let longer = length-append taken (line ∷ more) in
    absurd (omega (arith, long, short, longer))

-- nothing more was read
pub none_more : (read : List ℕ) (taken more : List Line) (ended : Ending) → Drained (Finished ended) read taken
    → lines read ≡ taken ++ more → is_between ended ≡ true → more ≡ []
none_more read taken more ended drained split between = no_more (lines read) taken more split (drained between)
