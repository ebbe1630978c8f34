-- The bytes that go over a wire, as the transcript of a talk.
use Rattle.std.proofs.Common.{◌≡◌, ◌∙◌, ◌+◌, ℕ, Bool, List, [], ◌∷◌, ◌++◌, refl, sym, ap, subst, append_assoc}
use Rattle.std.proofs.Common.{append-nil}
use Rattle.bhs_stream.specs.Reading.{Gathers, begins as gathers_none, goes_on as gathers_more}
use Rattle.bhs_stream.specs.Streams.{Chunk, WriteAnswer}
use Rattle.bhs_schedules.specs.declared.answers.Step.{Step}
use Rattle.bhs_schedules.specs.declared.answers.Step.TheVariants.{Says as SaysIt, Sleeps, Stops, Fails}
use Rattle.bhs_schedules.specs.Strategies.{History, Observation, Strategy}
use Rattle.bhs_client.specs.Talks.{Says, Meets, speaks, sleeps, sleeps_on, Talks, begins, goes_on}
use Rattle.bhs_agents.specs.WakeUps.{wake_ups_in}
use Rattle.bhs_client.specs.Transcripts.{Transcript, unused, Writes, Reads}
use Rattle.bhs_player.specs.declared.wire.Wire.{Wire}
use Rattle.bhs_player.specs.Wires.{ended, IsHeard, IsSaid}
use Rattle.bhs_player.specs.Clients.{Sends, sends_nothing, sends_more, IsTranscript, ClientsTalk}

module _ {R W : Type 0} (gives : R → Chunk → R → Type 0) (takes : W → List ℕ → WriteAnswer → W → Type 0)
    (flushes : W → Bool → W → Type 0) where
  -- ---- reads

  -- reads that follow others
  gathers_on : (start here next : R) (reads more : ℕ) (bytes others : List ℕ) → Gathers gives start reads bytes here
      → Gathers gives here more others next → (count : ℕ) × Gathers gives start count (bytes ++ others) next
  gathers_on start here next reads more bytes others front gathers_none =
      (reads, subst (λ (all : List ℕ). Gathers gives start reads all here) (sym (append-nil bytes)) front)
  gathers_on start here next reads more bytes others front
      (gathers_more count first piece middle last behind is given) =
      let (many, before) = gathers_on start here middle reads count bytes first front behind in (
        many + 1,
        subst (λ (all : List ℕ). Gathers gives start (many + 1) all next) (append_assoc bytes first piece)
            (gathers_more many (bytes ++ first) piece middle next before is given),
      )

  -- ---- spoken and heard lines

  -- the step's line is written to the wire and to the transcript
  record SaysBoth (key : List ℕ) (step : Step) (start : Wire R W) (transcript : Transcript) (told : Wire R W)
      : Type 0 where
    after : Transcript
    says : Says Writes key step transcript after
    is : IsTranscript gives takes flushes start told after

  says_both : (key : List ℕ) (step : Step) (start here told : Wire R W) (transcript : Transcript)
      → IsTranscript gives takes flushes start here transcript → Says (IsSaid takes flushes) key step here told
      → SaysBoth key step start transcript told
  says_both key (SaysIt command) start here told transcript is says =
      let line : List ℕ = says.0 in
      let said : IsSaid takes flushes here line told = says.2 in
      record {
        after = record transcript { said = transcript.said ++ ended line };
        says = (line, says.1, refl);
        is = record {
          sent = sends_more transcript.said (ended line) here.writer said.1.0 told.writer is.sent said.1.1 said.1.2;
          reads = is.reads;
          given = subst (λ (input : R). Gathers gives start.reader is.reads (transcript.heard ++ told.held.items) input)
              (sym said.0.0)
              (subst (λ held. Gathers gives start.reader is.reads (transcript.heard ++ held.items) here.reader)
              (sym said.0.1) is.given);
        };
      }
  says_both key Stops start here told transcript is says = record {
    after = transcript;
    says = refl;
    is = subst (λ (wire : Wire R W). IsTranscript gives takes flushes start wire transcript) says is;
  }
  says_both key Sleeps start here told transcript is says = absurd says
  says_both key Fails start here told transcript is says = absurd says

  hears_both : (start told new : Wire R W) (transcript : Transcript) (line : List ℕ)
      → IsTranscript gives takes flushes start told transcript → (heard : IsHeard gives told line new)
      → IsTranscript gives takes flushes start new (record transcript { heard = transcript.heard ++ ended line })
  hears_both start told new transcript line is heard =
      let all = gathers_on start.reader told.reader new.reader is.reads heard.reads
      (transcript.heard ++ told.held.items) heard.bytes is.given heard.gathered in
      let same : (transcript.heard ++ told.held.items) ++ heard.bytes
      ≡ (transcript.heard ++ ended line) ++ new.held.items =
      append_assoc transcript.heard told.held.items heard.bytes
      ∙ ap (λ (bytes : List ℕ). transcript.heard ++ bytes) heard.parts
      ∙ sym (append_assoc transcript.heard (ended line) new.held.items) in
      record {
        sent = subst (λ (output : W). Sends takes flushes start.writer transcript.said output) (sym heard.writer)
            is.sent;
        reads = all.0;
        given = subst (λ (bytes : List ℕ). Gathers gives start.reader all.0 bytes new.reader) same all.1;
      }

  -- ---- a talk

  record HasTalked (wakeups : ℕ) (strategy : Strategy) (key : List ℕ) (start : Wire R W) (history : History)
      (here : Wire R W) : Type 0 where
    transcript : Transcript
    talks : Talks Writes Reads wakeups strategy key unused history transcript
    is : IsTranscript gives takes flushes start here transcript

  meets_both : (wakeups : ℕ) (strategy : Strategy) (key : List ℕ) (start : Wire R W) (history : History)
      (item : Observation) (here next : Wire R W) → HasTalked wakeups strategy key start history here
      → Meets (IsSaid takes flushes) (IsHeard gives) key wakeups (wake_ups_in history).in_a_row (strategy history) here
      item next → HasTalked wakeups strategy key start (item ∷ history) next
  meets_both wakeups strategy key start history item here next talked (speaks reply told new says hears) =
      let said = says_both key (strategy history) start here told talked.transcript talked.is says in
      let line : List ℕ = hears.0 in
      let heard : IsHeard gives told line next = hears.2 in
      let after : Transcript = record said.after { heard = said.after.heard ++ ended line } in
      record {
        transcript = after;
        talks = goes_on history item talked.transcript after talked.talks
            (speaks reply said.after after said.says (line, hears.1, (heard.flat, refl)));
        is = hears_both start told next said.after line said.is heard;
      }
  meets_both wakeups strategy key start history item here next talked (sleeps doing few) = record {
    transcript = talked.transcript;
    talks = goes_on history item talked.transcript talked.transcript talked.talks (sleeps doing few);
    is = talked.is;
  }
  meets_both wakeups strategy key start history item here next talked (sleeps_on new doing many hears) =
      let line : List ℕ = hears.0 in
      let heard : IsHeard gives here line next = hears.2 in
      let after : Transcript = record talked.transcript { heard = talked.transcript.heard ++ ended line } in
      record {
        transcript = after;
        talks = goes_on history item talked.transcript after talked.talks
            (sleeps_on after doing many (line, hears.1, (heard.flat, refl)));
        is = hears_both start here next talked.transcript line talked.is heard;
      }

  talked_both : (wakeups : ℕ) (strategy : Strategy) (key : List ℕ) (start : Wire R W) (history : History)
      (here : Wire R W) → start.held.items ≡ []
      → Talks (IsSaid takes flushes) (IsHeard gives) wakeups strategy key start history here
      → HasTalked wakeups strategy key start history here
  talked_both wakeups strategy key start history here none begins = record {
    transcript = unused;
    talks = begins;
    is = record {
      sent = sends_nothing;
      reads = 0;
      given = subst (λ (bytes : List ℕ). Gathers gives start.reader 0 bytes start.reader) (sym none) gathers_none;
    };
  }
  talked_both wakeups strategy key start history here none (goes_on before item middle next talks meets) =
      meets_both wakeups strategy key start before item middle next
      (talked_both wakeups strategy key start before middle none talks) meets

  pub clients_talk : ClientsTalk gives takes flushes
  clients_talk wakeups strategy key old how new none ends =
      let talked = talked_both wakeups strategy key old (ends.item ∷ ends.history) new none ends.talks in (
        talked.transcript,
        record {
          history = ends.history;
          item = ends.item;
          talks = talked.talks;
          last = ends.last;
          fine = ends.fine;
        },
        talked.is,
      )

-- what reads gave behind what was held is held; nothing was written
pub record HasRead {R W : Type 0} (gives : R → Chunk → R → Type 0) (old new : Wire R W) : Type 0 where
  pub writer : new.writer ≡ old.writer
  pub reads : ℕ
  pub bytes : List ℕ
  pub gathered : Gathers gives old.reader reads bytes new.reader
  pub held : old.held.items ++ bytes ≡ new.held.items
