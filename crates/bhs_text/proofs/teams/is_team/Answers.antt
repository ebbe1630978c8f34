use Rattle.std.proofs.Common.{◌≡◌, rules, tests}
use Rattle.std.specs.List.{list_all}
use Rattle.std.proofs.lemmas.Iterator.{YieldsList-from_slice}
use Rattle.std.proofs.lemmas.Iterator.Search.{all_from_yields_List}
use Rattle.bhs_text.specs.Teams.{is_team_character}
use Rattle.bhs_text.proofs.teams.is_team.Goals as goal

pub returns-then-is_sized : goal.returns-then-is_sized
returns-then-is_sized c =
    let all : c.all.result ≡ list_all is_team_character c.args.name.now =
    all_from_yields_List is_team_character _ _ c.all.result c.all.ensures.ran
    (YieldsList-from_slice c.args.name.now cc) (λ x b q k. search (rules, tests)) in
    rw (← c.if-is_sized.ensures) all
