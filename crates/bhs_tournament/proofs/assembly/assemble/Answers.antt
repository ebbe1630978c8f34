use Rattle.std.proofs.Common.{refl}
use Rattle.std.proofs.lemmas.Result.{err_from_is_err_and}
use Rattle.bhs_files.specs.Tournaments.{plan, key_lists}
use Rattle.bhs_tournament.proofs.KeysFind.{lets_in}
use Rattle.bhs_tournament.proofs.Passing.{no_game, no_keys, not_ready, all_made, ready_are}
use Rattle.bhs_tournament.proofs.assembly.assemble.Goals as goal

pub returns-in_err-games-clause-exact : goal.returns-in_err-games-clause-exact
returns-in_err-games-clause-exact c =
    let p = err_from_is_err_and c.from_residual.result c.from_residual.ensures.1 in
    rw (p.1, p.2)
    (no_game c.args.tournament.seed c.args.tournament.schedule c.args.tournament.matches.items _
    c.args.networks.now refl _ c.in_err-games.ensures)

pub returns-in_err-keys-clause-exact : goal.returns-in_err-keys-clause-exact
returns-in_err-keys-clause-exact c =
    let p = err_from_is_err_and c.from_residual-in_err-keys.result c.from_residual-in_err-keys.ensures.1 in
    rw (p.1, p.2)
    (no_keys c.args.tournament.seed c.args.tournament.schedule c.args.tournament.matches.items _
    c.args.networks.now refl
    c.in_ok-games.games.items _ c.in_ok-games.ensures (rw c.deref.ensures.value at c.in_err-keys.ensures))

pub returns-in_err-all_ready-clause-exact : goal.returns-in_err-all_ready-clause-exact
returns-in_err-all_ready-clause-exact c =
    let p = err_from_is_err_and c.from_residual-in_err-all_ready.result c.from_residual-in_err-all_ready.ensures.1 in
    rw (p.1, p.2)
    (not_ready c.args.tournament.seed c.args.tournament.schedule c.args.tournament.matches.items _
    c.args.networks.now refl
    c.in_ok-games.games.items c.in_ok-keys.keys _ c.in_ok-games.ensures
    (rw c.deref.ensures.value at c.in_ok-keys.ensures) c.in_err-all_ready.ensures)

pub returns-clause-exact : goal.returns-clause-exact
returns-clause-exact c = all_made c.args.tournament.seed c.args.tournament.schedule c.args.tournament.matches.items _
    c.args.networks.now refl
    c.in_ok-games.games.items c.in_ok-keys.keys c.in_ok-all_ready.field-0.items c.in_ok-games.ensures
    (rw c.deref.ensures.value at c.in_ok-keys.ensures) c.in_ok-all_ready.ensures

pub returns-clause-matches : goal.returns-clause-matches
returns-clause-matches c = ready_are (plan c.args.tournament) c.args.networks.now _ (returns-clause-exact c)

pub returns-clause-lets_in : goal.returns-clause-lets_in
returns-clause-lets_in c = lets_in (key_lists c.args.tournament) c.in_ok-keys.keys
    (rw c.deref.ensures.value at c.in_ok-keys.ensures)
