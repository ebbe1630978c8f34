-- A text that goes out line by line.
use Rattle.std.proofs.Common.{◌≡◌, ℕ, List, [], ◌++◌, sym, subst, append-nil, Result, Ok, Err, IfErr, OnOk, IsErrAnd}
use Rattle.bhs_stream.specs.Streams.{WriteAnswer}
use Rattle.bhs_stream.specs.Sending.{PutsAll}
use Rattle.bhs_stream.proofs.PutsLemmas.{IsSentUpTo, sent_none, sent_more, sent_all, sent_part, sent_some}
use Rattle.bhs_replay.specs.declared.faults.WritingFault.{WritingFault}
use Rattle.bhs_replay.specs.declared.faults.WritingFault.TheVariants.{Write, Memory}
use Rattle.bhs_replay.specs.Writing.{Breaks}

-- The operator `?` passes on exactly this fault.
pub fault_is : {T : Type 0} (r : Result T WritingFault) (fault : WritingFault) (P : WritingFault → Type 0)
    → IsErrAnd r (λ e. e ≡ fault) → P fault → IfErr r P
fault_is (Ok x) fault P is holds = tt
fault_is (Err e) fault P is holds = subst P (sym is) holds

module _ {O : Type 0} (takes : O → List ℕ → WriteAnswer → O → Type 0) where
  pub breaks_at : (a b c : O) (text bytes left : List ℕ) (fault : WritingFault)
      → IsSentUpTo takes a b text (bytes ++ left) → Breaks takes b bytes fault c → Breaks takes a text fault c
  breaks_at a b c text bytes left Write so_far part = sent_part takes a b c text bytes left so_far part
  breaks_at a b c text bytes left Memory so_far (count, some) = sent_some takes a b c text bytes left count so_far some

  -- before the first line
  pub first_line : (a : O) (text bytes left : List ℕ) → text ≡ bytes ++ left → IsSentUpTo takes a a text (bytes ++ left)
  first_line a text bytes left is = subst (λ (t : List ℕ). IsSentUpTo takes a a text t) is (sent_none takes a text)

  -- before the last line
  last_line : (a b : O) (text bytes : List ℕ) → IsSentUpTo takes a b text bytes
      → IsSentUpTo takes a b text (bytes ++ [])
  last_line a b text bytes so_far = subst (λ (t : List ℕ). IsSentUpTo takes a b text t) (sym (append-nil bytes)) so_far

  pub ends_whole : {T : Type 0} (r : Result T WritingFault) (a b c : O) (text bytes : List ℕ)
      → IsSentUpTo takes a b text bytes → OnOk r (PutsAll takes b bytes c) → OnOk r (PutsAll takes a text c)
  ends_whole (Ok x) a b c text bytes so_far sent =
      sent_all takes a c text (sent_more takes a b c text bytes [] (last_line a b text bytes so_far) sent)
  ends_whole (Err e) a b c text bytes so_far sent = tt

  pub ends_broken : {T : Type 0} (r : Result T WritingFault) (a b c : O) (text bytes : List ℕ)
      → IsSentUpTo takes a b text bytes
      → IfErr r (λ fault. Breaks takes b bytes fault c) → IfErr r (λ fault. Breaks takes a text fault c)
  ends_broken (Ok x) a b c text bytes so_far broken = tt
  ends_broken (Err e) a b c text bytes so_far broken =
      breaks_at a b c text bytes [] e (last_line a b text bytes so_far) broken
