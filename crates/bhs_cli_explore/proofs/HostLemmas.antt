-- What a host gives, read by read and line by line.
use Rattle.std.proofs.Common.{ℕ, ◌+◌, ◌≡◌, Bool, true, false, List, [], ◌++◌, ap, sym, ◌∙◌, subst, refl, arith}
use Rattle.std.proofs.Common.{append_assoc}
use Rattle.std.proofs.lemmas.List.{append-nil}
use Rattle.bhs_stream.specs.Reading.{Gathers, IsPiece, begins, goes_on}
use Rattle.bhs_stream.specs.Sending.{PutsAll}
use Rattle.bhs_stream.specs.Streams.{Chunk, Bytes, WriteAnswer}
use Rattle.bhs_schedules.specs.declared.answers.Step.{Step}
use Rattle.bhs_cli_explore.specs.declared.hosts.Host.{Host}
use Rattle.bhs_cli.specs.LineStates.{IsPart}
use Rattle.bhs_cli_explore.specs.HostAnswers.{IsAnswer, IsReplied, TakesText, TakesHeld}

-- the bytes of two sequences of reads are joined
gathers_both : {I : Type 0} (gives : I → Chunk → I → Type 0) (old here new : I) (first second : ℕ) (one other : List ℕ)
    → Gathers gives old first one here → Gathers gives here second other new
    → Gathers gives old (first + second) (one ++ other) new
gathers_both {I} gives old here new first second one other before (begins) =
    subst (λ (bytes : List ℕ). Gathers gives old (first + 0) bytes here) (sym (append-nil one))
    (subst (λ (n : ℕ). Gathers gives old n one here) (omega arith) before)
gathers_both {I} gives old here new first second one other before
    (goes_on reads bytes piece there next after is_piece given) =
    subst (λ (all : List ℕ). Gathers gives old (first + (reads + 1)) all next) (append_assoc one bytes piece)
    (subst (λ (n : ℕ). Gathers gives old n ((one ++ bytes) ++ piece) next) (omega arith)
    (goes_on (first + reads) (one ++ bytes) piece there next
    (gathers_both gives old here there first reads one bytes before after) is_piece given))

pub takes_both : {R W : Type 0} (gives : R → Chunk → R → Type 0) (old here new : Host R W) (one other : List ℕ)
    → TakesText gives old here one → TakesText gives here new other → TakesText gives old new (one ++ other)
takes_both gives old here new one other first second = record {
  reads = first.reads + second.reads;
  came = first.came ++ second.came;
  gathered = gathers_both gives old.reader.now here.reader.now new.reader.now first.reads second.reads first.came
      second.came first.gathered second.gathered;
  cut = sym (append_assoc old.held.items first.came second.came)
      ∙ ap (λ (xs : List ℕ). xs ++ second.came) first.cut
      ∙ append_assoc one here.held.items second.came
      ∙ ap (λ (xs : List ℕ). one ++ xs) second.cut
      ∙ sym (append_assoc one other new.held.items);
}

pub empty_part : IsPart []
empty_part = record { unended = refl; short = omega arith }

-- nothing was taken yet
pub takes_nothing : {R W : Type 0} (gives : R → Chunk → R → Type 0) (old new : Host R W) (text : List ℕ) → text ≡ []
    → new.reader.now ≡ old.reader.now → new.held.items ≡ old.held.items → TakesText gives old new text
takes_nothing gives old new text none reader held = record {
  reads = 0;
  came = [];
  gathered = subst (λ r. Gathers gives old.reader.now 0 [] r) (sym reader) begins;
  cut = append-nil old.held.items ∙ sym (ap (λ (xs : List ℕ). xs ++ new.held.items) none ∙ held);
}

-- a line goes on, and one more read brings bytes
pub takes_more : {R W : Type 0} (gives : R → Chunk → R → Type 0) (old here waits new : Host R W)
    (part line piece : List ℕ)
    → TakesText gives old here part → waits.reader.now ≡ here.reader.now
    → TakesHeld (part ++ here.held.items) line waits.held.items false → IsPiece piece
    → gives waits.reader.now (Bytes piece) new.reader.now → new.held.items ≡ waits.held.items ++ piece
    → TakesText gives old new line
takes_more gives old here waits new part line piece before reader unended is_piece given held = record {
  reads = before.reads + 1;
  came = before.came ++ piece;
  gathered = goes_on before.reads before.came piece waits.reader.now new.reader.now
      (subst (λ r. Gathers gives old.reader.now before.reads before.came r) (sym reader) before.gathered) is_piece
      given;
  cut = sym (append_assoc old.held.items before.came piece)
      ∙ ap (λ (xs : List ℕ). xs ++ piece) (before.cut ∙ unended.0)
      ∙ ap (λ (xs : List ℕ). line ++ xs) (sym (held ∙ ap (λ (xs : List ℕ). xs ++ piece) unended.1));
}

-- the same was taken between hosts that read and hold the same
pub takes_as : {R W : Type 0} (gives : R → Chunk → R → Type 0) (old also here new : Host R W) (text : List ℕ)
    → TakesText gives old here text → also.reader.now ≡ old.reader.now → also.held.items ≡ old.held.items
    → new.reader.now ≡ here.reader.now → new.held.items ≡ here.held.items → TakesText gives also new text
takes_as gives old also here new text it from_reader from_held to_reader to_held = record {
  reads = it.reads;
  came = it.came;
  gathered = subst (λ r. Gathers gives r it.reads it.came new.reader.now) (sym from_reader)
      (subst (λ r. Gathers gives old.reader.now it.reads it.came r) (sym to_reader) it.gathered);
  cut = ap (λ (xs : List ℕ). xs ++ it.came) from_held ∙ it.cut ∙ ap (λ (xs : List ℕ). text ++ xs) (sym to_held);
}

-- a question was written, and then the answer was taken
pub replied : {R W : Type 0} (gives : R → Chunk → R → Type 0) (takes : W → List ℕ → WriteAnswer → W → Type 0)
    (flushes : W → Bool → W → Type 0) (old begun here new : Host R W) (asked text : List ℕ) (put : W) (memory : ℕ)
    (step : Step) → PutsAll takes old.writer.now asked put → flushes put true begun.writer.now
    → begun.reader.now ≡ old.reader.now → begun.held.items ≡ old.held.items → TakesText gives begun here text
    → here.writer.now ≡ begun.writer.now → new ≡ here → IsAnswer text memory step
    → IsReplied gives takes flushes old asked memory step new
replied gives takes flushes old begun here new asked text put memory step written passed reader held took writer same
    answer =
    subst (λ h. IsReplied gives takes flushes old asked memory step h) (sym same) (record {
      put = put;
      written = written;
      passed = subst (λ w. flushes put true w) (sym writer) passed;
      text = text;
      read = takes_as gives begun old here here text took (sym reader) (sym held) refl refl;
      answer = answer;
    })
