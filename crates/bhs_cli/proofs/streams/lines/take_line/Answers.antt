use Rattle.std.proofs.Common.{◌≡◌, rules, [], ◌++◌, ◌∙◌, ap, sym, refl, inl, inr, length, append_assoc}
use Rattle.bhs_cli.proofs.LineLemmas.{overlong}
use Rattle.bhs_cli.proofs.streams.lines.take_line.Goals.{in-Some, in-None}
use Rattle.bhs_cli.proofs.streams.lines.take_line.Goals as goal

pub returns-then-len-end-gt-MAX_TEXT-clause-taken : goal.returns-then-len-end-gt-MAX_TEXT-clause-taken
returns-then-len-end-gt-MAX_TEXT-clause-taken c part =
    let line = c.args.line.now.items in
    let piece = c.args.piece.now in
    let count : c.len.result ≡ length line = search rules in
    elim c.match-split_line.branch [
      | in-Some w ↦
          let cut = w.in-Some.ensures in
          let long = rw (w.t-11-is, count) at c.if-len-end-gt-MAX_TEXT.true in (
            overlong line w.in-Some.end.now part cut.1 long (line ++ piece) w.in-Some.rest.now
                (inr (ap (λ (more : _). line ++ more) cut.0 ∙ sym (append_assoc line w.in-Some.end.now _))),
            refl,
          )
      | in-None w ↦
          let long = rw (w.t-11-is, count) at c.if-len-end-gt-MAX_TEXT.true in
          (overlong line piece part w.in-None.ensures long (line ++ piece) [] (inl refl), refl)
    ]
