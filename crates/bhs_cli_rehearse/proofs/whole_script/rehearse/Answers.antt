use Rattle.std.proofs.Common.{arith, ◌≡◌, ap, map, length}
use Rattle.std.proofs.lemmas.List.{length-map}
use Rattle.bhs_rehearsal.specs.Rehearsing.{Rehearsing, game_of}
use Rattle.bhs_script.specs.Instructions.{seen}
use Rattle.bhs_cli_rehearse.specs.Rehearsal.{opening, Means}
use Rattle.bhs_cli_rehearse.proofs.PlayLemmas.{plays_all, stops_all}
use Rattle.bhs_cli_rehearse.proofs.whole_script.rehearse.Goals as goal

pub returns-clause-played : goal.returns-clause-played
returns-clause-played g c =
    let stage = opening c.args.lineup in
    let instructions = map seen c.in_ok-instructions.instructions.items in
    let same : c.in_ok-rehearsal.rehearsal.stage ≡ stage = ap (λ (r : Rehearsing). r.stage) c.in_ok-rehearsal.ensures in
    let counted : c.len.result ≡ length c.args.lineup.ready.items =
    omega (arith, c.len.ensures, c.args.lineup.ready.ok.0) in
    let means : Means g.R.Input.gives g.W.Output.takes c.args.turns stage c.args.reader.now c.read_text.new.reader
    instructions = record {
      script = c.in_ok-script.script.items;
      read = c.in_ok-script.ensures.text;
      meant = rw (length-map c.args.lineup.ready.items game_of)
          (rw (c.deref.ensures.value, counted) at c.in_ok-instructions.ensures);
    } in
    plays_all g.R.Input.gives g.W.Output.takes c.args.turns stage _ _ _ _ instructions means
    (λ ready. map game_of ready.items) c.play_script.result
    (rw (same, c.deref-2.ensures.value) at c.play_script.ensures.printed)
    (rw (same, c.deref-2.ensures.value) at c.play_script.ensures.played)

pub returns-clause-stopped : goal.returns-clause-stopped
returns-clause-stopped g c =
    let stage = opening c.args.lineup in
    let instructions = map seen c.in_ok-instructions.instructions.items in
    let same : c.in_ok-rehearsal.rehearsal.stage ≡ stage = ap (λ (r : Rehearsing). r.stage) c.in_ok-rehearsal.ensures in
    let counted : c.len.result ≡ length c.args.lineup.ready.items =
    omega (arith, c.len.ensures, c.args.lineup.ready.ok.0) in
    let means : Means g.R.Input.gives g.W.Output.takes c.args.turns stage c.args.reader.now c.read_text.new.reader
    instructions = record {
      script = c.in_ok-script.script.items;
      read = c.in_ok-script.ensures.text;
      meant = rw (length-map c.args.lineup.ready.items game_of)
          (rw (c.deref.ensures.value, counted) at c.in_ok-instructions.ensures);
    } in
    stops_all g.R.Input.gives g.W.Output.takes c.args.turns stage _ _ _ _ instructions means c.play_script.result
    (rw (same, c.deref-2.ensures.value) at c.play_script.ensures.stopped)
