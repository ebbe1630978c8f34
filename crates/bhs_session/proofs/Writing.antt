-- The written bytes as a step of a session.
use Rattle.std.proofs.Common.{◌≡◌, ℕ, Bool, true, false, List, [], None, Some, refl, sym, subst, take}
use Rattle.std.specs.declared.option.Option.{Option}
use Rattle.bhs_model.specs.declared.replies.Reply.{Reply}
use Rattle.bhs_model.specs.declared.replies.Reply.TheVariants as replies
use Rattle.bhs_stream.specs.Streams.{WriteAnswer}
use Rattle.bhs_stream.specs.Sending.{PutsAll}
use Rattle.bhs_session.specs.declared.endings.Ended.{Ended}
use Rattle.bhs_session.specs.declared.endings.Ended.TheVariants as endings
use Rattle.bhs_session.specs.Phase.{Phase, Ready, Owes, Leaves, Finished, Sends, all, part, none, stopped, waiting}
use Rattle.bhs_session.specs.Phase.{finished_or}
use Rattle.bhs_session.specs.Sent.{SentBut}

-- bytes that the output took, and that lead from one phase to another
abbrev pub Wrote : {O : Type 0} → (O → List ℕ → WriteAnswer → O → Type 0) → O → O → Phase → Phase → Type 0
Wrote takes a b phase next = (more : List ℕ) × Sends takes a phase more b next

pub Wrote-all : {O : Type 0} (takes : O → List ℕ → WriteAnswer → O → Type 0) (a b : O) (text : List ℕ) (next : Phase)
    → PutsAll takes a text b → Wrote takes a b (Owes text next) next
Wrote-all takes a b text next whole = (text, all text next b whole)

pub Wrote-but : {O : Type 0} (takes : O → List ℕ → WriteAnswer → O → Type 0) (cause : Ended) (a b : O) (text : List ℕ)
    (next : Phase) → SentBut takes cause a text b → Wrote takes a b (Owes text next) (stopped next cause)
Wrote-but takes endings.Memory a b text next kept =
    subst (λ (o : _). Wrote takes a o (Owes text next) (stopped next endings.Memory)) (sym kept) ([], none text next)
Wrote-but takes endings.WriteFault a b text next short = (take short.sent text, part text next b short)
Wrote-but takes endings.Bye a b text next h = absurd h
Wrote-but takes endings.Noted a b text next h = absurd h
Wrote-but takes endings.Over a b text next h = absurd h
Wrote-but takes endings.Denied a b text next h = absurd h
Wrote-but takes endings.InputEnded a b text next h = absurd h
Wrote-but takes endings.ReadFault a b text next h = absurd h
Wrote-but takes endings.Turns a b text next h = absurd h

-- ---- what follows an answer that ends nothing

pub waiting-false : (reply : Reply) → waiting false reply ≡ Ready
waiting-false replies.Gone = refl
waiting-false replies.Bye = refl
waiting-false replies.Noted = refl
waiting-false replies.Over = refl
waiting-false (replies.Here ports came board) = refl
waiting-false replies.Written = refl
waiting-false (replies.Changed board) = refl
waiting-false (replies.No why) = refl

-- its agent is inside
pub stopped-waiting : (waits : Bool) (reply : Reply) (cause : Ended)
    → stopped (waiting waits reply) cause ≡ Leaves cause
stopped-waiting true replies.Gone cause = refl
stopped-waiting false replies.Gone cause = refl
stopped-waiting waits replies.Bye cause = refl
stopped-waiting waits replies.Noted cause = refl
stopped-waiting waits replies.Over cause = refl
stopped-waiting waits (replies.Here ports came board) cause = refl
stopped-waiting waits replies.Written cause = refl
stopped-waiting waits (replies.Changed board) cause = refl
stopped-waiting waits (replies.No why) cause = refl

-- ---- the same, by the ending that the code found

module _ {O : Type 0} (takes : O → List ℕ → WriteAnswer → O → Type 0) (a b : O) (text : List ℕ) (next : Phase)
    (ending : Option Ended) where
  pub Wrote-answer : None ≡ ending → PutsAll takes a text b → Wrote takes a b (Owes text (finished_or ending next)) next
  Wrote-answer goes whole = subst (λ (o : Option Ended). Wrote takes a b (Owes text (finished_or o next)) next) goes
      (Wrote-all takes a b text next whole)

  pub Wrote-ending : (ended : Ended) → Some ended ≡ ending → PutsAll takes a text b
      → Wrote takes a b (Owes text (finished_or ending next)) (Finished ended)
  Wrote-ending ended ends whole = subst (λ (o : Option Ended). Wrote takes a b (Owes text (finished_or o next))
      (Finished ended)) ends (Wrote-all takes a b text (Finished ended) whole)

  pub Wrote-answer_but : (cause : Ended) → None ≡ ending → stopped next cause ≡ Leaves cause
      → SentBut takes cause a text b → Wrote takes a b (Owes text (finished_or ending next)) (Leaves cause)
  Wrote-answer_but cause goes inside short =
      subst (λ (o : Option Ended). Wrote takes a b (Owes text (finished_or o next)) (Leaves cause)) goes
      (subst (λ (phase : Phase). Wrote takes a b (Owes text next) phase) inside
      (Wrote-but takes cause a b text next short))

  pub Wrote-ending_but : (cause ended : Ended) → Some ended ≡ ending → SentBut takes cause a text b
      → Wrote takes a b (Owes text (finished_or ending next)) (Finished cause)
  Wrote-ending_but cause ended ends short =
      subst (λ (o : Option Ended). Wrote takes a b (Owes text (finished_or o next)) (Finished cause)) ends
      (Wrote-but takes cause a b text (Finished ended) short)
