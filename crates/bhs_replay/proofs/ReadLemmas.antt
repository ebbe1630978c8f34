-- The sequence of reads of a replay.
use Rattle.std.proofs.Common.{◌≡◌, ◌⊎◌, inl, inr, ℕ, ◌+◌, ◌<◌, List, [], ◌∷◌, ◌++◌, Bool, true, false, ◌&&◌}
use Rattle.std.proofs.Common.{if◌then◌else◌, length, Option, Some, None, Result, Ok, Err, IfOk, IfErr, refl, sym, subst}
use Rattle.std.proofs.Common.{ap, ◌∙◌, arith}
use Rattle.bhs_model.specs.Marks.{events_of}
use Rattle.bhs_match.specs.Matches.{Play, state_of}
use Rattle.bhs_wire.specs.Lines.{rest}
use Rattle.bhs_stream.specs.Streams.{Chunk, Bytes, End, Fails}
use Rattle.bhs_stream.specs.Reading.{Gathers, begins, goes_on, IsPiece, Closes}
use Rattle.bhs_replay.specs.declared.faults.ReplayFault.{ReplayFault}
use Rattle.bhs_replay.specs.declared.faults.ReplayFault.TheVariants as fault
use Rattle.bhs_replay.specs.declared.reader.Playing.{Playing}
use Rattle.bhs_replay.specs.declared.reader.Reader.{Reader}
use Rattle.bhs_replay.specs.Parts.{IsClosedAt, ReadsPart}
use Rattle.bhs_replay.specs.Stages.{Opens, Ends, Wrong, with_rest, Comes, ended}
use Rattle.bhs_replay.specs.Reading.{stage_of, IsSound, fault_at_end, ReadsWhole, EndsShort, MeetsFault, StopsBy}
use Rattle.bhs_replay.specs.Readers.{stage_by, stage_in, IsOver, Stands, IsReadBy, finished_by, finished}
use Rattle.bhs_replay.proofs.StageLemmas.{IsOfText, IsProper, leads_proper, comes_proper}

-- ---- where a reader stands, nothing is wrong

rest_same : (playing : Option Playing) (left : List ℕ) → (IsOver playing → left ≡ [])
    → stage_by playing ≡ with_rest left (stage_by playing)
rest_same playing [] quiet = refl
rest_same None (byte ∷ left) quiet = refl
rest_same (Some playing) (byte ∷ left) quiet = over playing.is_over refl
  where
    over : (b : Bool) → playing.is_over ≡ b → stage_of playing.game playing.is_over ≡ with_rest (byte ∷ left)
        (stage_of playing.game playing.is_over)
    over true is = absurd (let none : byte ∷ left ≡ [] = quiet is in cc)
    over false is = subst (λ b. stage_of playing.game b ≡ with_rest (byte ∷ left) (stage_of playing.game b)) (sym is)
        refl

comes_here : (text : List ℕ) (reader : Reader) → Stands text reader → Comes text (stage_in reader)
comes_here text reader stands = record {
  lines = stage_in reader;
  leads = stands.leads;
  same = rest_same reader.playing (rest text) (λ over. stands.line ∙ stands.quiet over);
}

of_sound : (play : Play) (b : Bool) → IsSound (stage_of play b)
of_sound play true = tt
of_sound play false = tt

sound_here : (playing : Option Playing) → IsSound (stage_by playing)
sound_here None = tt
sound_here (Some playing) = of_sound playing.game playing.is_over

-- ---- the end of a text

over_whole : (game play : Play) (over closed : Bool) → (if over && closed then Ok game else Err fault.End) ≡ Ok play
    → stage_of game over ≡ Ends play.net play.setup (events_of play.log)
over_whole game play true true is = let same : game ≡ play = cc in ap (λ p. Ends p.net p.setup (events_of p.log)) same
over_whole game play true false is = absurd (cc)
over_whole game play false closed is = absurd (cc)

whole_by : (playing : Option Playing) (play : Play) → finished_by playing ≡ Ok play
    → stage_by playing ≡ Ends play.net play.setup (events_of play.log)
whole_by None play is = absurd (cc)
whole_by (Some playing) play is = over_whole playing.game play playing.is_over (state_of playing.game).closed is

over_short : (game : Play) (found : ReplayFault) (over closed : Bool) → (state_of game).closed ≡ closed
    → IsProper (stage_of game over) → (if over && closed then Ok game else Err fault.End) ≡ Err found
    → (fault_at_end (stage_of game over) ≡ Some found) × (found ≡ fault.End)
over_short game found true true is proper ended = absurd (cc)
over_short game found true false is proper ended = absurd (cc)
over_short game found false closed is proper ended = let same : fault.End ≡ found = cc in (ap Some same, sym same)

short_by : (playing : Option Playing) (found : ReplayFault) → IsProper (stage_by playing)
    → finished_by playing ≡ Err found → (fault_at_end (stage_by playing) ≡ Some found)
    × ((found ≡ fault.Head) ⊎ (found ≡ fault.End))
short_by None found proper ended = let same : fault.Head ≡ found = cc in (ap Some same, inl (sym same))
short_by (Some playing) found proper ended =
    let both = over_short playing.game found playing.is_over (state_of playing.game).closed refl proper ended in
    (both.0, inr both.1)

-- ---- reads

-- by this number of reads a reader came to stand here
pub record SoFar {I : Type 0} (gives : I → Chunk → I → Type 0) (start : I) (reads : ℕ) (here : I)
    (reader : Reader) : Type 0 where
  pub bytes : List ℕ
  pub gathered : Gathers gives start reads bytes here
  pub stands : Stands bytes reader

pub at_start : {I : Type 0} (gives : I → Chunk → I → Type 0) (start : I) (reader : Reader) → Stands [] reader
    → SoFar gives start 0 start reader
at_start gives start reader stands = record { bytes = []; gathered = begins; stands = stands }

module _ {I : Type 0} (gives : I → Chunk → I → Type 0) (start here next : I) (reads turns : ℕ) (reader : Reader)
    (so_far : SoFar gives start reads here reader) where
  pub one_read_more : (piece : List ℕ) (new : Reader) → IsPiece piece → gives here (Bytes piece) next
      → Stands (so_far.bytes ++ piece) new → SoFar gives start (reads + 1) next new
  one_read_more piece new is_piece given stands = record {
    bytes = so_far.bytes ++ piece;
    gathered = goes_on reads so_far.bytes piece here next so_far.gathered is_piece given;
    stands = stands;
  }

  closes : (chunk : Chunk) → reads < turns → gives here chunk next → Closes gives start (length so_far.bytes) turns
      so_far.bytes chunk next
  closes chunk left given = record {
    reads = reads;
    before = here;
    gathered = so_far.gathered;
    turn_left = left;
    fits = omega arith;
    last = given;
  }

  pub read_fails : reads < turns → gives here Fails next → StopsBy gives start turns fault.Read next
  read_fails left given = record {
    bytes = so_far.bytes;
    stage = stage_in reader;
    closes = closes Fails left given;
    comes = comes_here so_far.bytes reader so_far.stands;
    sound = sound_here reader.playing;
  }

  pub turns_end : reads ≡ turns → here ≡ next → StopsBy gives start turns fault.Turns next
  turns_end all same = (
    so_far.bytes,
    record {
      stage = stage_in reader;
      gathered = subst (λ (i : I). Gathers gives start turns so_far.bytes i) same
          (subst (λ (n : ℕ). Gathers gives start n so_far.bytes here) all so_far.gathered);
      comes = comes_here so_far.bytes reader so_far.stands;
      sound = sound_here reader.playing;
    },
  )

  pub has_read : reads < turns → gives here End next → IsReadBy gives start turns reader next
  has_read left given = record {
    text = so_far.bytes;
    closes = closes End left given;
    stands = so_far.stands;
  }

  -- ---- a fault in the midst

  meets : (piece : List ℕ) (found : ReplayFault) → reads < turns → gives here (Bytes piece) next
      → Comes (so_far.bytes ++ piece) (Wrong found) → MeetsFault gives start turns found next
  meets piece found left given wrong = record {
    bytes = so_far.bytes;
    piece = piece;
    stage = stage_in reader;
    closes = closes (Bytes piece) left given;
    comes = comes_here so_far.bytes reader so_far.stands;
    sound = sound_here reader.playing;
    wrong = wrong;
  }

  by_text : (found : ReplayFault) → IsOfText found → MeetsFault gives start turns found next
      → StopsBy gives start turns found next
  by_text fault.Head is met = inr met
  by_text (fault.Line line) is met = inr met
  by_text (fault.Event line) is met = inr met
  by_text (fault.Differs line) is met = inr met
  by_text fault.End is met = inr met
  by_text fault.Read is met = absurd is
  by_text fault.Memory is met = absurd is
  by_text fault.Turns is met = absurd is

  pub stops_at_fault : (piece : List ℕ) (found : ReplayFault) → IsPiece piece → reads < turns
      → gives here (Bytes piece) next → (found ≡ fault.Memory) ⊎ Comes (so_far.bytes ++ piece) (Wrong found)
      → StopsBy gives start turns found next
  stops_at_fault piece found is_piece left given (inl memory) =
      subst (λ f. StopsBy gives start turns f next) (sym memory) (
        so_far.bytes ++ piece,
        reads + 1,
        omega arith,
        goes_on reads so_far.bytes piece here next
            so_far.gathered is_piece given,
      )
  stops_at_fault piece found is_piece left given (inr wrong) =
      by_text found (comes_proper (so_far.bytes ++ piece) (Wrong found) wrong) (meets piece found left given wrong)

-- ---- the text has ended

module _ {I : Type 0} (gives : I → Chunk → I → Type 0) (start next : I) (turns : ℕ) (reader : Reader)
    (read : IsReadBy gives start turns reader next) where
  pub ends_whole : (r : Result Play ReplayFault) → r ≡ finished reader
      → IfOk r (λ play. ReadsWhole gives start turns play next)
  ends_whole (Ok play) is = record {
    text = read.text;
    closes = read.closes;
    comes = subst (Comes read.text) (whole_by reader.playing play (sym is)) (comes_here read.text reader read.stands);
  }
  ends_whole (Err found) is = tt

  short_fault : (found : ReplayFault) → finished reader ≡ Err found
      → (fault_at_end (stage_in reader) ≡ Some found) × ((found ≡ fault.Head) ⊎ (found ≡ fault.End))
  short_fault found is =
      short_by reader.playing found (leads_proper (ended read.text) (stage_in reader) read.stands.leads) is

  short : (found : ReplayFault) → finished reader ≡ Err found → EndsShort gives start turns found next
  short found is = record {
    text = read.text;
    stage = stage_in reader;
    closes = read.closes;
    comes = comes_here read.text reader read.stands;
    short = (short_fault found is).0;
  }

  stops_at_end : (found : ReplayFault) → (found ≡ fault.Head) ⊎ (found ≡ fault.End)
      → EndsShort gives start turns found next → StopsBy gives start turns found next
  stops_at_end found (inl head) ends = subst (λ f. StopsBy gives start turns f next) (sym head)
      (inl (subst (λ f. EndsShort gives start turns f next) head ends))
  stops_at_end found (inr end) ends = subst (λ f. StopsBy gives start turns f next) (sym end)
      (inl (subst (λ f. EndsShort gives start turns f next) end ends))

  pub ends_short : (r : Result Play ReplayFault) → r ≡ finished reader
      → IfErr r (λ found. StopsBy gives start turns found next)
  ends_short (Ok play) is = tt
  ends_short (Err found) is = stops_at_end found (short_fault found (sym is)).1 (short found (sym is))

  -- no line has ended where the text ends
  headless : stage_in reader ≡ Opens → EndsShort gives start turns fault.Head next
  headless none = record {
    text = read.text;
    stage = stage_in reader;
    closes = read.closes;
    comes = comes_here read.text reader read.stands;
    short = ap fault_at_end none;
  }

  pub ends_headless : (r : Result Play ReplayFault)
      → IfErr r (λ found. (found ≡ fault.Head) × (stage_in reader ≡ Opens))
      → IfErr r (λ found. StopsBy gives start turns found next)
  ends_headless (Ok play) is = tt
  ends_headless (Err found) is = stops_at_end found (inl is.0)
      (subst (λ f. EndsShort gives start turns f next) (sym is.0) (headless is.1))

  -- where the text ends, the match is closed
  pub ends_part : (r : Result Play ReplayFault) → IfOk r (IsClosedAt (stage_in reader))
      → IfOk r (λ play. ReadsPart gives start turns play next)
  ends_part (Ok play) closed = record {
    text = read.text;
    closes = read.closes;
    part = record { stage = stage_in reader; leads = read.stands.leads; closed = closed };
  }
  ends_part (Err found) closed = tt
