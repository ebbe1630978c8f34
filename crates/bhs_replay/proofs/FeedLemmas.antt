-- A piece of a text, line by line.
use Rattle.std.proofs.Common.{◌≡◌, ◌⊎◌, inl, inr, ℕ, List, [], ◌∷◌, ◌++◌, false, refl, sym, subst, ap, ◌∙◌}
use Rattle.std.proofs.Common.{append_assoc, append-nil, Result, Ok, Err, IfErr, IsErrAnd}
use Rattle.std.specs.List.{list_any}
use Rattle.bhs_wire.specs.Lines.{is_line_feed}
use Rattle.bhs_replay.specs.declared.faults.ReplayFault.{ReplayFault}
use Rattle.bhs_replay.specs.declared.faults.ReplayFault.TheVariants.{Memory, End}
use Rattle.bhs_replay.specs.declared.reader.Reader.{Reader}
use Rattle.bhs_replay.specs.Stages.{Wrong, Follows, Comes}
use Rattle.bhs_replay.specs.Readers.{stage_in, Stands, Holds, IsPast}
use Rattle.bhs_replay.proofs.ReaderLemmas.{leads_on, stands_on, comes_wrong, stands_holding, comes_past}

-- The operator `?` passes on exactly this fault.
pub fault_is : {T : Type 0} (r : Result T ReplayFault) (fault : ReplayFault) (P : ReplayFault → Type 0)
    → IsErrAnd r (λ e. e ≡ fault) → P fault → IfErr r P
fault_is (Ok x) fault P is holds = tt
fault_is (Err e) fault P is holds = subst P (sym is) holds

-- After some text, all bytes of the piece except a remainder were fed.
pub record FedUpTo (text piece after : List ℕ) (now : Reader) : Type 0 where
  pub done : List ℕ
  pub split : piece ≡ done ++ after
  pub stands : Stands (text ++ done) now

pub fed_none : (text piece : List ℕ) (reader : Reader) → Stands text reader → FedUpTo text piece piece reader
fed_none text piece reader stands = record {
  done = [];
  split = refl;
  stands = subst (λ t. Stands t reader)
      (sym (append-nil text)) stands;
}

-- a part of a text in two groupings
grouped : (text done line more : List ℕ) → ((text ++ done) ++ line) ++ more ≡ text ++ (done ++ (line ++ more))
grouped text done line more = append_assoc (text ++ done) line more ∙ append_assoc text done (line ++ more)

ends_line : (end more : List ℕ) → (end ++ 10 ∷ []) ++ more ≡ end ++ 10 ∷ more
ends_line end more = append_assoc end (10 ∷ []) more

module _ (text piece after end more : List ℕ) (old : Reader) (fed : FedUpTo text piece after old)
    (is : after ≡ end ++ 10 ∷ more) (flat : list_any is_line_feed end ≡ false) where
  piece_is : piece ≡ fed.done ++ ((end ++ 10 ∷ []) ++ more)
  piece_is = fed.split ∙ ap (λ (left : List ℕ). fed.done ++ left) (is ∙ sym (ends_line end more))

  pub fed_on : (new : Reader) → Follows (stage_in old) (old.line.items ++ end) (stage_in new) → new.line.items ≡ []
      → FedUpTo text piece more new
  fed_on new next clear = record {
    done = fed.done ++ (end ++ 10 ∷ []);
    split = piece_is ∙ sym (append_assoc fed.done (end ++ 10 ∷ []) more);
    stands = subst (λ t. Stands t new) (append_assoc text fed.done (end ++ 10 ∷ []))
        (stands_on (text ++ fed.done) old fed.stands end new flat next clear);
  }

  fed_wrong : (found : ReplayFault) → Follows (stage_in old) (old.line.items ++ end) (Wrong found)
      → Comes (text ++ piece) (Wrong found)
  fed_wrong found next =
      subst (λ t. Comes t (Wrong found)) (grouped text fed.done (end ++ 10 ∷ []) more
      ∙ ap (λ (left : List ℕ). text ++ left) (sym piece_is))
      (comes_wrong ((text ++ fed.done) ++ (end ++ 10 ∷ [])) more found
      (leads_on (text ++ fed.done) old fed.stands end (Wrong found) flat next))

  pub fed_fault : (found : ReplayFault) → (found ≡ Memory) ⊎ Follows (stage_in old) (old.line.items ++ end)
      (Wrong found) → (found ≡ Memory) ⊎ Comes (text ++ piece) (Wrong found)
  fed_fault found (inl memory) = inl memory
  fed_fault found (inr next) = inr (fed_wrong found next)

module _ (text piece after : List ℕ) (old : Reader) (fed : FedUpTo text piece after old)
    (flat : list_any is_line_feed after ≡ false) where
  whole : (text ++ fed.done) ++ after ≡ text ++ piece
  whole = append_assoc text fed.done after ∙ ap (λ (left : List ℕ). text ++ left) (sym fed.split)

  pub fed_whole : (new : Reader) → Holds old after new → Stands (text ++ piece) new
  fed_whole new holds = subst (λ t. Stands t new) whole
      (stands_holding (text ++ fed.done) old fed.stands after new flat holds)

  pub fed_past : (found : ReplayFault) → (found ≡ Memory) ⊎ ((found ≡ End) × IsPast old after) → (found ≡ Memory)
      ⊎ Comes (text ++ piece) (Wrong found)
  fed_past found (inl memory) = inl memory
  fed_past found (inr (is_end, past)) =
      inr (subst (λ t. Comes t (Wrong found)) whole
      (subst (λ f. Comes ((text ++ fed.done) ++ after) (Wrong f)) (sym is_end)
      (comes_past (text ++ fed.done) old fed.stands after flat past)))
