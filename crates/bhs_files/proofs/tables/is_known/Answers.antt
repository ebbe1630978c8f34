use Rattle.std.proofs.Common.{ap, map, ◌∙◌, rules, tests}
use Rattle.std.specs.List.{list_any}
use Rattle.std.proofs.lemmas.Iterator.{YieldsList-from_slice}
use Rattle.std.proofs.lemmas.Iterator.Search.{any_from_yields_List}
use Rattle.bhs_files.specs.Names.{same_name}
use Rattle.bhs_files.specs.Words.{word}
use Rattle.bhs_files.proofs.TableKeys.{any_seen}
use Rattle.bhs_files.proofs.tables.is_known.Goals as goal

pub returns : goal.returns
returns c =
    any_from_yields_List (λ known. same_name c.args.word.now (word known)) _ _ c.any.result c.any.ensures.ran
    (YieldsList-from_slice c.known_keys.result.now cc) (λ x b q k. search (rules, tests))
    ∙ any_seen word (same_name c.args.word.now) c.known_keys.result.now
    ∙ ap (λ keys. list_any (same_name c.args.word.now) (map word keys)) c.known_keys.ensures
