-- Writes of several texts, one after the other.
use Rattle.std.proofs.Common.{◌≡◌, ◌∙◌, ℕ, ◌+◌, ◌<◌, List, [], ◌++◌, length, refl, sym, ap, subst, arith, append_assoc}
use Rattle.std.proofs.Common.{append-nil, length-append, length-drop}
use Rattle.std.proofs.Math.Seq.{drop-append-le, drop-append-add}
use Rattle.bhs_stream.specs.Streams.{WriteAnswer}
use Rattle.bhs_stream.specs.Sending.{IsOffered, Puts, begins, goes_on, PutsAll, PutsPart}

-- bytes were left if some are offered
pub offered-short : (bytes : List ℕ) (sent : ℕ) (offered : List ℕ) → IsOffered bytes sent offered → sent < length bytes
offered-short bytes sent offered is_offered =
    let left = length-drop sent bytes in
    let same = ap length is_offered.front in
    let parts = length-append offered is_offered.rest in
    let some = is_offered.some in
    omega (arith, left, same, parts, some)

-- what is offered of the front is offered of the whole
offered-front : (front rest : List ℕ) (sent : ℕ) (offered : List ℕ) → IsOffered front sent offered
    → IsOffered (front ++ rest) sent offered
offered-front front rest sent offered is_offered = record {
  rest = is_offered.rest ++ rest;
  front = let short = offered-short front sent offered is_offered in
      drop-append-le sent front rest (omega arith) ∙ ap (λ (xs : List ℕ). xs ++ rest) is_offered.front
      ∙ append_assoc offered is_offered.rest rest;
  some = is_offered.some;
}

offered-rest : (front rest : List ℕ) (sent : ℕ) (offered : List ℕ) → IsOffered rest sent offered
    → IsOffered (front ++ rest) (length front + sent) offered
offered-rest front rest sent offered is_offered = record {
  rest = is_offered.rest;
  front = drop-append-add front rest sent ∙ is_offered.front;
  some = is_offered.some;
}

module _ {O : Type 0} (takes : O → List ℕ → WriteAnswer → O → Type 0) (front rest : List ℕ) where
  pub Puts-front : (old new : O) (sent : ℕ) → Puts takes old front sent new → Puts takes old (front ++ rest) sent new
  Puts-front old new sent begins = begins
  Puts-front old new sent (goes_on before count offered here next puts is_offered more within took) =
      goes_on before count offered here next (Puts-front old here before puts)
      (offered-front front rest before offered is_offered) more within took

  -- Transitivity: the whole front is written, then a part of the rest.
  pub Puts-trans : (old mid new : O) (sent : ℕ) → PutsAll takes old front mid → Puts takes mid rest sent new
      → Puts takes old (front ++ rest) (length front + sent) new
  Puts-trans old mid new sent all begins = subst (λ (n : ℕ). Puts takes old (front ++ rest) n new) (omega arith)
      (Puts-front old mid (length front) all)
  Puts-trans old mid new sent all (goes_on before count offered here next puts is_offered more within took) =
      subst (λ (n : ℕ). Puts takes old (front ++ rest) n new) (omega arith)
      (goes_on (length front + before) count offered here next (Puts-trans old mid here before all puts)
      (offered-rest front rest before offered is_offered) more within took)

  pub PutsAll-trans : (old mid new : O) → PutsAll takes old front mid → PutsAll takes mid rest new
      → PutsAll takes old (front ++ rest) new
  PutsAll-trans old mid new all more =
      subst (λ (n : ℕ). Puts takes old (front ++ rest) n new) (sym (length-append front rest))
      (Puts-trans old mid new (length rest) all more)

  pub PutsPart-front : (old new : O) → PutsPart takes old front new → PutsPart takes old (front ++ rest) new
  PutsPart-front old new part = record {
    sent = part.sent;
    before = part.before;
    offered = part.offered;
    puts = Puts-front old part.before part.sent part.puts;
    is_offered = offered-front front rest part.sent part.offered part.is_offered;
    last = part.last;
  }

  pub PutsPart-trans : (old mid new : O) → PutsAll takes old front mid → PutsPart takes mid rest new
      → PutsPart takes old (front ++ rest) new
  PutsPart-trans old mid new all part = record {
    sent = length front + part.sent;
    before = part.before;
    offered = part.offered;
    puts = Puts-trans old mid part.before part.sent all part.puts;
    is_offered = offered-rest front rest part.sent part.offered part.is_offered;
    last = part.last;
  }

-- ---- a loop that sends a text piece by piece

-- an output took the front of a text, and this of it is left
pub record IsSentUpTo {O : Type 0} (takes : O → List ℕ → WriteAnswer → O → Type 0) (old new : O)
    (text left : List ℕ) : Type 0 where
  pub front : List ℕ
  pub sent : PutsAll takes old front new
  pub whole : front ++ left ≡ text

module _ {O : Type 0} (takes : O → List ℕ → WriteAnswer → O → Type 0) where
  pub sent_none : (a : O) (text : List ℕ) → IsSentUpTo takes a a text text
  sent_none a text = record { front = []; sent = begins; whole = refl }

  pub sent_more : (a b c : O) (text bytes left : List ℕ) → IsSentUpTo takes a b text (bytes ++ left)
      → PutsAll takes b bytes c → IsSentUpTo takes a c text left
  sent_more a b c text bytes left so_far more = record {
    front = so_far.front ++ bytes;
    sent = PutsAll-trans takes so_far.front bytes a b c so_far.sent more;
    whole = append_assoc so_far.front bytes left ∙ so_far.whole;
  }

  pub sent_all : (a b : O) (text : List ℕ) → IsSentUpTo takes a b text [] → PutsAll takes a text b
  sent_all a b text so_far = subst (λ (bytes : List ℕ). PutsAll takes a bytes b)
      (sym (append-nil so_far.front) ∙ so_far.whole) so_far.sent

  -- the next bytes went out in part, and a write failed or took nothing
  pub sent_part : (a b c : O) (text bytes left : List ℕ) → IsSentUpTo takes a b text (bytes ++ left)
      → PutsPart takes b bytes c → PutsPart takes a text c
  sent_part a b c text bytes left so_far part =
      subst (λ (whole : List ℕ). PutsPart takes a whole c) so_far.whole
      (PutsPart-trans takes so_far.front (bytes ++ left) a b c so_far.sent (PutsPart-front takes bytes left b c part))

  -- the next bytes went out up to here
  pub sent_some : (a b c : O) (text bytes left : List ℕ) (count : ℕ) → IsSentUpTo takes a b text (bytes ++ left)
      → Puts takes b bytes count c
      → (all : ℕ) × Puts takes a text all c
  sent_some a b c text bytes left count so_far some = (
    length so_far.front + count,
    subst (λ (whole : List ℕ). Puts takes a whole (length so_far.front + count) c) so_far.whole
        (Puts-trans takes so_far.front (bytes ++ left) a b c count so_far.sent
        (Puts-front takes bytes left b c count some)),
  )

  -- none of the next bytes went out
  pub sent_so_far : (a b : O) (text left : List ℕ) → IsSentUpTo takes a b text left → (count : ℕ)
      × Puts takes a text count b
  sent_so_far a b text left so_far = (
    length so_far.front,
    subst (λ (whole : List ℕ). Puts takes a whole (length so_far.front) b) so_far.whole
        (Puts-front takes so_far.front left a b (length so_far.front) so_far.sent),
  )
