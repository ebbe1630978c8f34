use Rattle.std.proofs.Common.{◌+◌, length, arith, sym, ◌∙◌, ap, map, [], ◌∷◌}
use Rattle.std.proofs.lemmas.List.{map-append}
use Rattle.bhs_script.specs.Script.{instructions_from, Gives}
use Rattle.bhs_script.specs.Instructions.{seen, seen_as}
use Rattle.bhs_script.proofs.InstructionLemmas.{with_front-before, rest_lines, bytes_left-shorter, one_line}
use Rattle.bhs_script.proofs.script.instructions_in.Goals as goal

pub loop-rest-preserved : goal.loop-rest-preserved
loop-rest-preserved c =
    let games = c.args.games in
    let front = map seen c.loop-rest.found.items in
    let one = seen c.in-Gives.instruction in
    let others = instructions_from games (c.loop-rest.number + 1 + 1) (rest_lines c.first_line.result.2) in
    let kept = rw c.in-Some.is at c.loop-rest.invariant in
    let line = one_line games front c.loop-rest.number c.in-Some.text.now _ _ (Gives one) c.first_line.ensures.lines
    (sym (ap seen_as c.in-Gives.is) ∙ c.in_ok-meaning_of.ensures) in
    let shorter = bytes_left-shorter c.first_line.result.2 (length c.in-Some.text.now) c.first_line.ensures.shorter in
    let grown = ap (map seen) c.in_ok-push-in-Gives.ensures.items ∙ map-append seen c.loop-rest.found.items
    (c.in-Gives.instruction ∷ []) in
    (rw grown (sym (with_front-before front one others) ∙ (sym line ∙ kept.0)), omega (arith, kept.1, shorter))
