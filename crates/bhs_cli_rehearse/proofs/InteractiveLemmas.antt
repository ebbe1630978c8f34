-- A script that is played as it comes: one line further, and a fault at one of its lines.
use Rattle.std.proofs.Common.{◌≡◌, ◌≢◌, ◌⊎◌, ◌∙◌, refl, sym, ap, subst, inl, inr, ℕ, ◌+◌, ◌<◌, ◌≤◌, List, [], ◌∷◌}
use Rattle.std.proofs.Common.{◌++◌, length, Bool, true, false, append-nil, arith, nat_lt, if◌then◌else◌}
use Rattle.std.proofs.Common.{IfErr, OnOk, Result, Ok, Err, length-take-le, take}
use Rattle.std.proofs.lemmas.Bool.{le-ltb, lt-ltb}
use Rattle.bhs_stream.specs.Reading.{IsPiece}
use Rattle.bhs_stream.specs.declared.reader.TheConstants.{BUFFER}
use Rattle.bhs_stream.specs.Streams.{Bytes, Chunk, End, WriteAnswer}
use Rattle.bhs_stream.specs.Sending.{PutsAll, PutsPart}
use Rattle.bhs_rehearsal.specs.Stages.{Stage}
use Rattle.bhs_model.specs.declared.limits.TheConstants.{MAX_TEXT}
use Rattle.bhs_script.specs.Script.{Meaning, Refused, meaning}
use Rattle.bhs_cli_rehearse.specs.Shells.{IsConcluded, IsRefusal, IsReplied, progress_of}
use Rattle.bhs_cli.specs.LineStates.{IsPart}
use Rattle.bhs_cli_rehearse.specs.Interactive.{Answers, none, more, AnswersPart, BreaksAt, BreaksWithin, IsNext}
use Rattle.bhs_cli_rehearse.specs.Interactive.{IsRefused}
use Rattle.bhs_cli_rehearse.specs.Interactive.{unmeant, overlong, ScriptProgress, Interacts, answer, answers, ended}
use Rattle.bhs_cli_rehearse.specs.Interactive.{judged}
use Rattle.bhs_cli_rehearse.specs.Interactive.{onward}
use Rattle.bhs_cli_rehearse.specs.Interactive.{Breaks, InteractsToEnd, InteractionStops, reads_end, reads_more}
use Rattle.bhs_cli_rehearse.specs.Interactive.{at_start}
use Rattle.bhs_cli_rehearse.specs.Interactive.{with_end}
use Rattle.bhs_cli.specs.LineStates.{IsOverlong}
use Rattle.bhs_cli.specs.declared.reporting.faults.Fault.{Fault}
use Rattle.bhs_cli.specs.declared.reporting.faults.Fault.TheVariants.{Read, Text, Line, File, Replay, Twin, Write}
use Rattle.bhs_cli.specs.declared.reporting.faults.Fault.TheVariants.{Memory}
use Rattle.bhs_cli.specs.declared.reporting.faults.Fault.TheVariants.{Turns, Listen, Busy, Threads, Unsettled}
use Rattle.bhs_cli.specs.declared.reporting.faults.Fault.TheVariants.{Modules, NoMatch}
use Rattle.bhs_cli.specs.declared.reporting.faults.Fault.TheVariants.{Exploring, Appeal}
use Rattle.bhs_cli_rehearse.specs.declared.interactive.Shell.{Shell}

-- ---- one line

chosen : (b : Bool) (one two : Meaning) → b ≡ true → (if b then one else two) ≡ one
chosen true one two e = refl
chosen false one two e = cc

left_out : (b : Bool) (one two : Meaning) → b ≡ false → (if b then one else two) ≡ two
left_out true one two e = cc
left_out false one two e = refl

-- a line that is not too long means what it means in a script
pub judged-short : (games : ℕ) (line : List ℕ) → length line ≤ MAX_TEXT → judged games line ≡ meaning games line
judged-short games line short =
    left_out (nat_lt MAX_TEXT (length line)) Refused (meaning games line) (le-ltb MAX_TEXT (length line) short)

pub judged-long : (games : ℕ) (line : List ℕ) → MAX_TEXT < length line → judged games line ≡ Refused
judged-long games line long =
    chosen (nat_lt MAX_TEXT (length line)) Refused (meaning games line) (lt-ltb MAX_TEXT (length line) long)

-- two places of a script are the same
pub same_progress : {stage stage' : Stage} {answered answered' : ℕ} {held held' : List ℕ} → stage ≡ stage'
    → answered ≡ answered' → held ≡ held'
    → (let one : ScriptProgress = record { stage = stage; answered = answered; held = held } in
    let two : ScriptProgress = record { stage = stage'; answered = answered'; held = held' } in one ≡ two)
same_progress e f g = rw (e, f, g) refl

-- ---- lines one after the other

module _ {O : Type 0} (takes : O → List ℕ → WriteAnswer → O → Type 0) (games : ℕ) where
  pub Answers-trans : (a b : ScriptProgress) (x y : O) → Answers takes games a x b y → (c : ScriptProgress) (z : O)
      → Answers takes games b y c z → Answers takes games a x c z
  Answers-trans a b x y one c z none = one
  Answers-trans a b x y one c z (more mid line rest there next others is_next meant puts) =
      more mid line rest there next (Answers-trans a b x y one mid there others) is_next meant puts

module _ {I O : Type 0} (gives : I → Chunk → I → Type 0) (takes : O → List ℕ → WriteAnswer → O → Type 0)
    (flushes : O → Bool → O → Type 0) (turns : ℕ) (stage : Stage) (input : I) (output : O) where
  -- the rehearsal goes on by the lines that are answered
  pub interacts_on : (reads : ℕ) (is_over : Bool) (progress : ScriptProgress) (here : I) (there : O)
      → Interacts gives takes flushes turns stage input output reads is_over progress here there
      → (progress' : ScriptProgress) (there' : O) → Answers takes (length stage.games) progress there progress' there'
      → Interacts gives takes flushes turns stage input output reads is_over progress' here there'
  interacts_on reads is_over progress here there interacts progress' there' none = interacts
  interacts_on reads is_over progress here there interacts progress' there'
      (more mid line rest mid_out next others is_next meant puts) =
      answers reads is_over mid line rest here mid_out next
      (interacts_on reads is_over progress here there interacts mid mid_out others) is_next meant puts

-- ---- faults

module _ {O : Type 0} (takes : O → List ℕ → WriteAnswer → O → Type 0) (flushes : O → Bool → O
    → Type 0) (games : ℕ) where
  -- a line that is refused
  pub refused_at : (progress : ScriptProgress) (output output' : O) (fault : Fault) → IsRefused games progress
      → IsRefusal flushes (progress.answered + 1) output output' fault
      → BreaksAt takes games flushes progress output output' fault
  refused_at progress output output' (Line line) refused (is, passed) = (refused, is, passed)
  refused_at progress output output' Write refused held = inl held
  refused_at progress output output' Read refused bad = absurd bad
  refused_at progress output output' Text refused bad = absurd bad
  refused_at progress output output' Turns refused bad = absurd bad
  refused_at progress output output' (File fault) refused bad = absurd bad
  refused_at progress output output' (Replay fault) refused bad = absurd bad
  refused_at progress output output' (Twin fault) refused bad = absurd bad
  refused_at progress output output' Listen refused bad = absurd bad
  refused_at progress output output' Busy refused bad = absurd bad
  refused_at progress output output' Threads refused bad = absurd bad
  refused_at progress output output' (NoMatch game) refused bad = absurd bad
  refused_at progress output output' (Modules modules agents) refused bad = absurd bad
  refused_at progress output output' (Exploring why) refused bad = absurd bad
  refused_at progress output output' (Appeal why) refused bad = absurd bad
  refused_at progress output output' (Unsettled game) refused bad = absurd bad
  refused_at progress output output' Memory refused bad = absurd bad

  -- behind lines that were answered
  pub breaks_within : (start progress : ScriptProgress) (output there output' : O) (fault : Fault)
      → Answers takes games start output progress there → BreaksAt takes games flushes progress there output' fault
      → BreaksWithin takes games flushes start output output' fault
  breaks_within start progress output there output' fault so_far breaks = record {
    here = progress;
    there = there;
    answers = so_far;
    breaks = breaks;
  }

-- the line of a shell, with the bytes read after it
module _ (shell : Shell) (rest : List ℕ) (part : IsPart shell.line.items) where
  pub next_line : IsNext (progress_of shell (10 ∷ rest)) shell.line.items rest
  next_line = record { held = refl; first = part.unended }

-- A line that is too long is refused.
pub overlong_refused : (games : ℕ) (progress : ScriptProgress) → IsOverlong progress.held → IsRefused games progress
overlong_refused games progress over = begun over.begins where
  begun : (progress.held ≡ over.line) ⊎ (progress.held ≡ over.line ++ 10 ∷ over.rest) → IsRefused games progress
  begun (inl same) = overlong (rw same over.unended) (rw same over.long)
  begun (inr same) =
      unmeant over.line over.rest (record { held = same; first = over.unended }) (judged-long games over.line over.long)

-- a line was answered
module _ {O : Type 0} (takes : O → List ℕ → WriteAnswer → O → Type 0) (old new : Shell) (output output' : O)
    (part : IsPart old.line.items) (text : List ℕ)
    (replied : IsReplied (meaning old.games old.line.items) old.rehearsal.stage new.rehearsal.stage [] text true)
  where
    means : judged old.games old.line.items ≡ meaning old.games old.line.items
    means = judged-short old.games old.line.items part.short

    meant : judged old.games old.line.items ≢ Refused
    meant refused = replied.0 (sym means ∙ refused)

    answers_so : text ≡ answer old.rehearsal.stage (judged old.games old.line.items)
    answers_so = replied.1 ∙ ap (answer old.rehearsal.stage) (sym means)

    pub line_answered : (rest : List ℕ) → PutsAll takes output text output' → new.line.items ≡ []
        → new.answered ≡ old.answered + 1
        → Answers takes old.games (progress_of old (10 ∷ rest)) output (progress_of new rest) output'
    line_answered rest puts empty count =
        subst (λ (progress : ScriptProgress). Answers takes old.games (progress_of old
        (10 ∷ rest)) output progress output')
        (same_progress (sym (replied.2 ∙ ap (onward old.rehearsal.stage) (sym means))) (sym count)
        (sym (ap (λ (line : List ℕ). line ++ rest) empty)))
        (more (progress_of old (10 ∷ rest)) old.line.items rest output output' none (next_line old rest part) meant
        (subst (λ (bytes : List ℕ). PutsAll takes output bytes output') answers_so puts))

    pub line_cut_off : (rest : List ℕ) → PutsPart takes output text output'
        → AnswersPart takes old.games (progress_of old (10 ∷ rest)) output output'
    line_cut_off rest part_of = record {
      line = old.line.items;
      rest = rest;
      next = next_line old rest part;
      part = subst (λ (bytes : List ℕ). PutsPart takes output bytes output') answers_so part_of;
    }

-- ---- where the shell is

-- the end of the input ends a line that has any byte
end_of_line : (bytes : List ℕ) → 0 < length bytes → with_end (bytes ++ []) ≡ bytes ++ 10 ∷ []
end_of_line [] some = absurd (omega (arith, some))
end_of_line (byte ∷ bytes) some = ap (λ (all : List ℕ). byte ∷ (all ++ 10 ∷ [])) (append-nil bytes)

pub ended_line : (shell : Shell) → 0 < length shell.line.items
    → ended (progress_of shell []) ≡ progress_of shell (10 ∷ [])
ended_line shell some = same_progress refl refl (end_of_line shell.line.items some)

no_end : (bytes : List ℕ) → length bytes ≡ 0 → with_end (bytes ++ []) ≡ bytes ++ []
no_end [] e = refl
no_end (byte ∷ bytes) e = absurd (omega (arith, e))

pub ended_nothing : (shell : Shell) → length shell.line.items ≡ 0 → ended (progress_of shell []) ≡ progress_of
    shell []
ended_nothing shell e = same_progress refl refl (no_end shell.line.items e)

pub nothing_left : (bytes : List ℕ) → length bytes ≡ 0 → bytes ++ [] ≡ []
nothing_left [] e = refl
nothing_left (byte ∷ bytes) e = absurd (omega (arith, e))

-- a shell that has read nothing
pub silent : (shell : Shell) → shell.line.items ≡ [] → shell.answered ≡ 0
    → at_start shell.rehearsal.stage ≡ progress_of shell []
silent shell line count = same_progress refl (sym count) (sym (append-nil shell.line.items ∙ line))

pub part_of : (bytes : List ℕ) → IsPart bytes → IsPart (bytes ++ [])
part_of bytes part = subst IsPart (sym (append-nil bytes)) part

-- ---- the whole rehearsal

module _ {I O : Type 0} (gives : I → Chunk → I → Type 0) (takes : O → List ℕ → WriteAnswer → O → Type 0)
    (flushes : O → Bool → O → Type 0) (turns : ℕ) (stage : Stage) (input : I) (output : O) where
  abbrev InteractsHere : (reads : ℕ) → (is_over : Bool) → ScriptProgress → I → O → Type 0
  InteractsHere = Interacts gives takes flushes turns stage input output

  -- more is read, and its lines are answered
  pub interacts_more : (reads : ℕ) (old new : Shell) (piece : List ℕ) (here next : I) (there passed out : O)
      → InteractsHere reads false (progress_of old []) here there → IsPart old.line.items → flushes there true passed
      → reads < turns → IsPiece piece → gives here (Bytes piece) next
      → Answers takes (length stage.games) (progress_of old piece) passed (progress_of new []) out
      → InteractsHere (reads + 1) false (progress_of new []) next out
  interacts_more reads old new piece here next there passed out interacts part flushed left is_piece given more_of =
      interacts_on gives takes flushes turns stage input output (reads + 1) false (progress_of old piece) next passed
      (subst (λ (progress : ScriptProgress). InteractsHere (reads + 1) false progress next passed)
      (same_progress refl refl (ap (λ (line : List ℕ). line ++ piece) (append-nil old.line.items)))
      (reads_more reads (progress_of old []) piece here next there passed interacts (part_of old.line.items part)
      flushed left
      is_piece given))
      (progress_of new []) out more_of

  -- more is read, and a fault comes at one of its lines
  pub interacts_before : (reads : ℕ) (old : Shell) (piece : List ℕ) (here next : I) (there passed : O)
      → InteractsHere reads false (progress_of old []) here there → IsPart old.line.items → flushes there true passed
      → reads < turns → IsPiece piece → gives here (Bytes piece) next
      → InteractsHere (reads + 1) false (progress_of old piece) next passed
  interacts_before reads old piece here next there passed interacts part flushed left is_piece given =
      subst (λ (progress : ScriptProgress). InteractsHere (reads + 1) false progress next passed)
      (same_progress refl refl (ap (λ (line : List ℕ). line ++ piece) (append-nil old.line.items)))
      (reads_more reads (progress_of old []) piece here next there passed interacts (part_of old.line.items part)
      flushed left
      is_piece given)

  module _ (reads : ℕ) (is_over : Bool) (start : ScriptProgress) (input' : I) (there output' : O)
      (interacts : InteractsHere reads is_over start input' there) where
    breaks_at : (fault : Fault) → BreaksWithin takes (length stage.games) flushes start there output' fault
        → Breaks gives takes flushes turns stage input output input' output' fault
    breaks_at fault within = record {
      reads = reads;
      is_over = is_over;
      progress = within.here;
      there = within.there;
      interacts = interacts_on gives takes flushes turns stage input output reads is_over start input' there interacts
          within.here within.there within.answers;
      breaks = within.breaks;
    }

    -- a fault at a line that was read ends the rehearsal
    pub stops_within : (fault : Fault) → BreaksWithin takes (length stage.games) flushes start there output' fault
        → InteractionStops gives takes flushes turns stage input output input' output' fault
    stops_within (Line line) within = breaks_at (Line line) within
    stops_within Write within = breaks_at Write within
    stops_within Memory within = breaks_at Memory within
    stops_within Text within = breaks_at Text within
    stops_within (File fault) within = breaks_at (File fault) within
    stops_within (Replay fault) within = breaks_at (Replay fault) within
    stops_within (Twin fault) within = breaks_at (Twin fault) within
    stops_within Listen within = breaks_at Listen within
    stops_within Busy within = breaks_at Busy within
    stops_within Threads within = breaks_at Threads within
    stops_within (NoMatch game) within = breaks_at (NoMatch game) within
    stops_within (Modules modules agents) within = breaks_at (Modules modules agents) within
    stops_within (Exploring why) within = breaks_at (Exploring why) within
    stops_within (Appeal why) within = breaks_at (Appeal why) within
    stops_within (Unsettled game) within = breaks_at (Unsettled game) within
    stops_within Read within = absurd within.breaks
    stops_within Turns within = absurd within.breaks

    pub stops_by : {T : Type 0} (r : Result T Fault)
        → IfErr r (BreaksWithin takes (length stage.games) flushes start there output')
        → IfErr r (InteractionStops gives takes flushes turns stage input output input' output')
    stops_by (Ok x) within = tt
    stops_by (Err fault) within = stops_within fault within

  -- the end of the input
  module _ (reads : ℕ) (old new : Shell) (here input' : I) (before there output' : O)
      (interacts : InteractsHere reads false (progress_of old []) here before) (part : IsPart old.line.items)
      (flushed : flushes before true there) (left : reads < turns) (given : gives here End input')
      (games : old.games ≡ length stage.games) where
    pub interacts_ended : InteractsHere (reads + 1) true (ended (progress_of old [])) input' there
    interacts_ended =
        reads_end reads (progress_of old []) here input' before there interacts (part_of old.line.items part) flushed
        left given

    interacted_to_end : IsConcluded takes flushes old new there output'
        → InteractsToEnd gives takes flushes turns stage input output input' output' new.rehearsal.stage.games
    interacted_to_end concluded = record {
      reads = reads + 1;
      progress = concluded.progress;
      there = concluded.there;
      interacts = interacts_on gives takes flushes turns stage input output (reads + 1) true
          (ended (progress_of old [])) input' there interacts_ended concluded.progress concluded.there
          (subst (λ (count : ℕ). Answers takes count (ended (progress_of old [])) there concluded.progress
          concluded.there)
          games concluded.answers);
      all = concluded.all;
      passed = concluded.passed;
      left = ap (λ (s : Stage). s.games) (sym concluded.left);
    }

    pub interacts_out : {T E : Type 0} (r : Result T E) → OnOk r (IsConcluded takes flushes old new there output')
        → OnOk r (InteractsToEnd gives takes flushes turns stage input output input' output' new.rehearsal.stage.games)
    interacts_out (Ok x) concluded = interacted_to_end concluded
    interacts_out (Err e) concluded = tt

-- what one read brings
pub piece_read : (count : ℕ) (buffer : List ℕ) → 0 < count → count ≤ length buffer → length buffer ≡ BUFFER
    → IsPiece (take count buffer)
piece_read count buffer some within full =
    let long : length (take count buffer) ≡ count = length-take-le count buffer within in (omega arith, omega arith)
