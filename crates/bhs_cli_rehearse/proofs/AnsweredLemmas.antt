-- What a rehearsal whose script is played as it comes has read and written.
use Rattle.std.proofs.Common.{◌≡◌, ◌∙◌, ◌⊎◌, refl, sym, ap, subst, inl, inr, ℕ, ◌+◌, List, [], ◌∷◌, ◌++◌, length, Bool}
use Rattle.std.proofs.Common.{true, false, append-nil, append_assoc, arith, length-append, nat_lt, if◌then◌else◌}
use Rattle.std.proofs.Common.{Ok, ◌≢◌}
use Rattle.std.specs.declared.option.Option.{Option}
use Rattle.std.specs.List.{AllByRecursion, list_any}
use Rattle.std.specs.Io.KnownBytes.{Appends, Consumes}
use Rattle.std.proofs.KnownBytes.{Consumes-nil, Consumes-trans, Appends-nil, Appends-trans, Appends-kept}
use Rattle.bhs_model.specs.declared.limits.TheConstants.{MAX_TEXT}
use Rattle.bhs_wire.specs.Lines.{is_line_feed}
use Rattle.bhs_stream.specs.Streams.{known_gives, known_takes}
use Rattle.bhs_stream.proofs.OverMemory.{Appends-from_all}
use Rattle.bhs_rehearsal.specs.Stages.{Stage, Instruction, step}
use Rattle.bhs_script.specs.Script.{Gives, Meaning, Refused, Skipped, before, instructions_from, lines_of, meaning}
use Rattle.bhs_script.specs.Script.{with_meaning}
use Rattle.bhs_script.specs.Transcript.{all_printed}
use Rattle.bhs_script.proofs.LineLemmas.{lines_of-found}
use Rattle.bhs_cli_rehearse.specs.Answered.{answers_to, HasAnswered, IsTranscribed, known_flushes, Mean}
use Rattle.bhs_cli_rehearse.specs.Answered.{no_line, skips, gives, stands_by}
use Rattle.bhs_cli_rehearse.specs.Interactive.{ScriptProgress, Interacts, answer, answers, begins, reads_end}
use Rattle.bhs_cli_rehearse.specs.Interactive.{reads_more}
use Rattle.bhs_cli_rehearse.specs.Interactive.{judged}
use Rattle.bhs_cli_rehearse.specs.Interactive.{onward, with_end}

-- ---- lines, and the text that they end in

abbrev ended_text : List (List ℕ) → List ℕ
ended_text [] = []
ended_text (line ∷ lines) = line ++ 10 ∷ ended_text lines

abbrev AreLines : List (List ℕ) → Type 0
AreLines lines = AllByRecursion (λ line. list_any is_line_feed line ≡ false) lines

one_line_more : (lines : List (List ℕ)) (line : List ℕ) → AreLines lines → list_any is_line_feed line ≡ false
    → AreLines (lines ++ line ∷ [])
one_line_more [] line all one = (one, tt)
one_line_more (first ∷ lines) line (its, others) one = (its, one_line_more lines line others one)

text_more : (lines : List (List ℕ)) (line rest : List ℕ)
    → ended_text (lines ++ line ∷ []) ++ rest ≡ ended_text lines ++ (line ++ 10 ∷ rest)
text_more [] line rest = append_assoc line (10 ∷ []) rest
text_more (first ∷ lines) line rest =
    append_assoc first (10 ∷ ended_text (lines ++ line ∷ [])) rest
    ∙ ap (λ (text : List ℕ). first ++ 10 ∷ text) (text_more lines line rest)
    ∙ sym (append_assoc first (10 ∷ ended_text lines) (line ++ 10 ∷ rest))

lines_cut : (lines : List (List ℕ)) (held : List ℕ) → AreLines lines
    → lines_of (ended_text lines ++ held) ≡ lines ++ lines_of held
lines_cut [] held all = refl
lines_cut (line ∷ lines) held (one, others) =
    ap lines_of (append_assoc line (10 ∷ ended_text lines) held)
    ∙ lines_of-found line (ended_text lines ++ held) one
    ∙ ap (λ (all : List (List ℕ)). line ∷ all) (lines_cut lines held others)

-- ---- one line more

stands_more : (games : ℕ) (stage : Stage) (lines : List (List ℕ)) (line : List ℕ)
    → stands_by games stage (lines ++ line ∷ []) ≡ onward (stands_by games stage lines) (judged games line)
stands_more games stage [] line = refl
stands_more games stage (first ∷ lines) line = stands_more games (onward stage (judged games first)) lines line

answers_more : (games : ℕ) (stage : Stage) (lines : List (List ℕ)) (line : List ℕ)
    → answers_to games stage (lines ++ line ∷ [])
    ≡ answers_to games stage lines ++ answer (stands_by games stage lines) (judged games line)
answers_more games stage [] line = append-nil (answer stage (judged games line))
answers_more games stage (first ∷ lines) line =
    ap (λ (text : List ℕ). answer stage (judged games first) ++ text)
    (answers_more games (onward stage (judged games first)) lines line)
    ∙ sym (append_assoc (answer stage (judged games first)) (answers_to games (onward stage (judged games first)) lines)
    (answer (stands_by games (onward stage (judged games first)) lines) (judged games line)))

-- ---- what lines mean

mean_append : (games : ℕ) (lines others : List (List ℕ)) (script more : List Instruction) → Mean games lines script
    → Mean games others more → Mean games (lines ++ others) (script ++ more)
mean_append games lines others script more no_line rest = rest
mean_append games lines others script more (skips line behind its is mean) rest =
    skips line (behind ++ others) (its ++ more) is (mean_append games behind others its more mean rest)
mean_append games lines others script more (gives line behind one its is mean) rest =
    gives line (behind ++ others) one (its ++ more) is (mean_append games behind others its more mean rest)

-- the instructions of an accepted line
abbrev means_by : Meaning → List Instruction
means_by Skipped = []
means_by (Gives one) = one ∷ []
means_by Refused = []

mean_one : (games : ℕ) (line : List ℕ) (means : Meaning) → judged games line ≡ means → means ≢ Refused
    → Mean games (line ∷ []) (means_by means)
mean_one games line Skipped is meant = skips line [] [] is no_line
mean_one games line (Gives one) is meant = gives line [] one [] is no_line
mean_one games line Refused is meant = absurd (meant refl)

unless_long : (is_long : Bool) (means wanted : Meaning) → (if is_long then Refused else means) ≡ wanted
    → wanted ≢ Refused → means ≡ wanted
unless_long false means wanted is meant = is
unless_long true means wanted is meant = absurd (meant (sym is))

not_skipped : let skipped : Meaning = Skipped in skipped ≢ Refused
not_skipped e = cc

not_given : (one : Instruction) → (let given : Meaning = Gives one in given ≢ Refused)
not_given one e = cc

as_script : (games : ℕ) (lines : List (List ℕ)) (script : List Instruction) → Mean games lines script → (place : ℕ)
    → instructions_from games place (lines ++ [] ∷ []) ≡ Ok script
as_script games lines script no_line place = refl
as_script games lines script (skips line others all is mean) place =
    ap (λ (means : Meaning). with_meaning place means (instructions_from games (place + 1) (others ++ [] ∷ [])))
    (unless_long (nat_lt MAX_TEXT (length line)) (meaning games line) Skipped is not_skipped)
    ∙ as_script games others all mean (place + 1)
as_script games lines script (gives line others one all is mean) place =
    ap (λ (means : Meaning). with_meaning place means (instructions_from games (place + 1) (others ++ [] ∷ [])))
    (unless_long (nat_lt MAX_TEXT (length line)) (meaning games line) (Gives one) is (not_given one))
    ∙ ap (before one) (as_script games others all mean (place + 1))

-- ---- the whole

module _ {R W : Type 0} (remaining : R → Option (List ℕ)) (contents : W → Option (List ℕ)) (turns : ℕ) (stage : Stage)
    (input : R) (output : W) where
  -- what was read and written so far
  record SoFar (is_over : Bool) (progress : ScriptProgress) (input' : R) (output' : W) : Type 0 where
    pub script : List ℕ
    pub supplied : List ℕ
    pub lines : List (List ℕ)
    pub read : Consumes (remaining input) (remaining input') script
    pub end : (supplied ≡ []) ⊎ (supplied ≡ 10 ∷ [])
    pub nothing_yet : is_over ≡ false → supplied ≡ []
    pub all : AreLines lines
    pub cut : script ++ supplied ≡ ended_text lines ++ progress.held
    pub count : progress.answered ≡ length lines
    pub instructions : List Instruction
    pub mean : Mean (length stage.games) lines instructions
    pub stands : progress.stage ≡ stands_by (length stage.games) stage lines
    pub written : Appends (contents output) (contents output') (answers_to (length stage.games) stage lines)

  abbrev InteractsKnown : (reads : ℕ) → (is_over : Bool) → ScriptProgress → R → W → Type 0
  InteractsKnown = Interacts (known_gives remaining) (known_takes contents) (known_flushes contents) turns stage input
      output

  -- the line feed that the end of the input supplies
  abbrev feed_of : List ℕ → List ℕ
  feed_of [] = []
  feed_of (byte ∷ bytes) = 10 ∷ []

  with_feed : (held : List ℕ) → with_end held ≡ held ++ feed_of held
  with_feed [] = refl
  with_feed (byte ∷ bytes) = refl

  feed_is : (held : List ℕ) → (feed_of held ≡ []) ⊎ (feed_of held ≡ 10 ∷ [])
  feed_is [] = inl refl
  feed_is (byte ∷ bytes) = inr refl

  at_first : (script supplied held : List ℕ) → supplied ≡ [] → script ++ supplied ≡ held → script ≡ held
  at_first script supplied held none is = sym (append-nil script) ∙ ap (λ (s : List ℕ). script ++ s) (sym none) ∙ is

  so_far : (reads : ℕ) (is_over : Bool) (progress : ScriptProgress) (input' : R) (output' : W)
      → InteractsKnown reads is_over progress input' output' → SoFar is_over progress input' output'
  so_far reads is_over progress input' output' begins = record {
    script = [];
    supplied = [];
    lines = [];
    read = Consumes-nil (remaining input);
    end = inl refl;
    nothing_yet = λ e. refl;
    all = tt;
    cut = refl;
    count = refl;
    instructions = [];
    mean = no_line;
    stands = refl;
    written = Appends-nil (contents output);
  }
  so_far reads is_over progress input' output'
      (reads_more earlier here_progress piece here next there passed interacts part flushed left is_piece given) =
      let old = so_far earlier false here_progress here there interacts in record {
        script = old.script ++ piece;
        supplied = [];
        lines = old.lines;
        read = Consumes-trans _ _ _ old.script piece old.read given;
        end = inl refl;
        nothing_yet = λ e. refl;
        all = old.all;
        cut = append-nil (old.script ++ piece)
            ∙ ap (λ (text : List ℕ). text ++ piece)
            (at_first old.script old.supplied _ (old.nothing_yet refl) old.cut)
            ∙ append_assoc (ended_text old.lines) here_progress.held piece;
        count = old.count;
        instructions = old.instructions;
        mean = old.mean;
        stands = old.stands;
        written = Appends-kept _ _ _ _ old.written flushed;
      }
  so_far reads is_over progress input' output'
      (reads_end earlier here_progress here next there passed interacts part flushed left given) =
      let old = so_far earlier false here_progress here there interacts in record {
        script = old.script;
        supplied = feed_of here_progress.held;
        lines = old.lines;
        read = subst (Consumes (remaining input) (remaining next)) (append-nil old.script)
            (Consumes-trans _ _ _ old.script [] old.read given.0);
        end = feed_is here_progress.held;
        nothing_yet = λ e. cc;
        all = old.all;
        cut = ap (λ (text : List ℕ). text ++ feed_of here_progress.held)
            (at_first old.script old.supplied _ (old.nothing_yet refl) old.cut)
            ∙ append_assoc (ended_text old.lines) here_progress.held (feed_of here_progress.held)
            ∙ ap (λ (text : List ℕ). ended_text old.lines ++ text) (sym (with_feed here_progress.held));
        count = old.count;
        instructions = old.instructions;
        mean = old.mean;
        stands = old.stands;
        written = Appends-kept _ _ _ _ old.written flushed;
      }
  so_far reads is_over progress input' output'
      (answers many over here_progress line rest here there next interacts is_next meant puts) =
      let old = so_far many over here_progress here there interacts in
      let games = length stage.games in
      let longer = length-append old.lines (line ∷ []) in
      let counted = old.count in record {
        script = old.script;
        supplied = old.supplied;
        lines = old.lines ++ line ∷ [];
        read = old.read;
        end = old.end;
        nothing_yet = old.nothing_yet;
        all = one_line_more old.lines line old.all is_next.first;
        cut = old.cut ∙ ap (λ (text : List ℕ). ended_text old.lines ++ text) is_next.held
            ∙ sym (text_more old.lines line rest);
        count = omega (arith, longer, counted);
        instructions = old.instructions ++ means_by (judged games line);
        mean = mean_append games old.lines (line ∷ []) old.instructions (means_by (judged games line)) old.mean
            (mean_one games line (judged games line) refl meant);
        stands = ap (λ (s : Stage). onward s (judged games line)) old.stands
            ∙ sym (stands_more games stage old.lines line);
        written = subst (Appends (contents output) (contents next))
            (ap (λ (s : Stage). answers_to games stage old.lines ++ answer s (judged games line)) old.stands
            ∙ sym (answers_more games stage old.lines line))
            (Appends-trans _ _ _ _ _ old.written (Appends-from_all contents _ there next puts));
      }

  pub has_answered : (reads : ℕ) (is_over : Bool) (progress : ScriptProgress) (input' : R) (output' : W)
      → InteractsKnown reads is_over progress input' output' → HasAnswered remaining contents stage input input' output
      output'
      progress
  has_answered reads is_over progress input' output' interacts =
      let all = so_far reads is_over progress input' output' interacts in record {
        script = all.script;
        supplied = all.supplied;
        lines = all.lines;
        read = all.read;
        end = all.end;
        cut = ap lines_of all.cut ∙ lines_cut all.lines progress.held all.all;
        count = all.count;
        instructions = all.instructions;
        mean = all.mean;
        stands = all.stands;
        written = all.written;
      }

-- ---- the same as a script that is played at once

pub is_transcribed : (games : ℕ) (lines : List (List ℕ)) (script : List Instruction) → Mean games lines script
    → (stage : Stage) → IsTranscribed games stage lines script
is_transcribed games lines script no_line stage =
    record { whole = refl; apart = refl; together = refl; stands = refl }
is_transcribed games lines script (skips line others all is mean) stage =
    let rest = is_transcribed games others all mean stage in record {
      whole = as_script games (line ∷ others) all (skips line others all is mean) 1;
      apart = rw is (ap (λ (text : List ℕ). 10 ∷ text) rest.apart);
      together = rw is rest.together;
      stands = rw is rest.stands;
    }
is_transcribed games lines script (gives line others one all is mean) stage =
    let rest = is_transcribed games others all mean (step stage one).stage in record {
      whole = as_script games (line ∷ others) (one ∷ all) (gives line others one all is mean) 1;
      apart = rw is (ap (λ (text : List ℕ). (all_printed (step stage one).outs ++ 10 ∷ []) ++ text) rest.apart);
      together = rw is (ap (λ (text : List ℕ). all_printed (step stage one).outs ++ text) rest.together);
      stands = rw is rest.stands;
    }
