use Rattle.std.proofs.Common.{ℕ, ◌≤◌, List, length, string_bytes, refl, rules, subst}
use Rattle.bhs_model.specs.declared.limits.TheConstants.{MAX_LINE}
use Rattle.bhs_wire.proofs.Reading.{on_err}
use Rattle.bhs_client.specs.Talks.{silent, cut}
use Rattle.bhs_client.proofs.player.say.Goals as goal

pub returns-in_err-line-clause-broken : goal.returns-in_err-line-clause-broken
returns-in_err-line-clause-broken g c = on_err c.from_residual.result silent

pub returns-in_err-say-clause-broken : goal.returns-in_err-say-clause-broken
returns-in_err-say-clause-broken g c =
    let line = c.in_ok-line in
    let short : length (string_bytes line.line) ≤ MAX_LINE = search rules in
    let written = subst (λ (bytes : List ℕ). g.C.ServerConnection.cuts c.args.connection.now bytes c.say.new.self)
    c.as_str.ensures.value c.in_err-say.ensures.cut in
    on_err c.from_residual-in_err-say.result
    (cut c.args.command.now (string_bytes line.line) c.say.new.self refl
    (record { means = line.ensures.meant short; flat = line.ensures.flat }) written)

pub returns-then-len-gt-MAX_LINE-clause-broken : goal.returns-then-len-gt-MAX_LINE-clause-broken
returns-then-len-gt-MAX_LINE-clause-broken g c = silent
