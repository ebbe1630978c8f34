use Rattle.std.proofs.Common.{Some, None, option_map, string_bytes}
use Rattle.std.proofs.Common.{ap, sym, ◌∙◌, rules, tests}
use Rattle.std.specs.Option.{option_copied}
use Rattle.std.proofs.lemmas.Iterator.Search.{find_from_yields_List}
use Rattle.bhs_files.proofs.TableKeys.{is_unknown, unknown_of, yields_keys}
use Rattle.bhs_files.proofs.tables.unknown_key.Goals as goal

pub returns-in_err-key : goal.returns-in_err-key
returns-in_err-key c =
    ap option_copied c.from_residual.ensures
    ∙ unknown_of c.args.version c.args.game c.args.table.now.entries c.find.result None
    (find_from_yields_List (is_unknown c.args.version c.args.game) _ _ c.find.result c.find.ensures.ran
    (yields_keys _ c.keys.result c.keys.ensures.rest) (λ x b q k. search (rules, tests)))
    (ap (option_map (λ key. string_bytes key.now)) c.in_err-key.was)

pub returns : goal.returns
returns c =
    unknown_of c.args.version c.args.game c.args.table.now.entries c.find.result (Some c.as_str.result.now)
    (find_from_yields_List (is_unknown c.args.version c.args.game) _ _ c.find.result c.find.ensures.ran
    (yields_keys _ c.keys.result c.keys.ensures.rest) (λ x b q k. search (rules, tests)))
    (ap (option_map (λ key. string_bytes key.now)) c.in_ok-key.was ∙ ap Some (sym c.as_str.ensures.value))
