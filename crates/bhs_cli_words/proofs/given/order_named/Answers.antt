use Rattle.std.proofs.Common.{◌≡◌, ◌≢◌, Bool, codes, false, List, None, refl, true}
use Rattle.std.proofs.lemmas.Slice.Eq.{bytes_eq-Decides}
use Rattle.std.specs.Str.{bytes_eq}
use Rattle.clap.specs.Words.{Row, Text, found_of, rows_of}
use Rattle.bhs_cli_words.specs.CommandLine.{order_by}
use Rattle.bhs_cli_words.proofs.given.order_named.Goals as goal

differs : (one other : Text) → one ≢ other → bytes_eq one other ≡ false
differs one other apart = go (bytes_eq one other) refl
  where
    go : (b : Bool) → bytes_eq one other ≡ b → b ≡ false
    go true e = absurd (apart ((bytes_eq-Decides one other).0 e))
    go false e = refl

-- No command has this name.
no_order : (name : Text) (rows : List Row) → name ≢ codes "rehearse" → name ≢ codes "check" → name ≢ codes "judge"
    → name ≢ codes "table" → name ≢ codes "explain" → name ≢ codes "twin" → name ≢ codes "recover"
    → name ≢ codes "explore" → name ≢ codes "attest" → name ≢ codes "serve" → order_by (name, rows) ≡ None
no_order name rows rehearse check judge table explain twin recover explore attest serve =
    rw (
      differs name (codes "rehearse") rehearse,
      differs name (codes "check") check,
      differs name (codes "judge") judge,
      differs name (codes "table") table,
      differs name (codes "explain") explain,
      differs name (codes "twin") twin,
      differs name (codes "recover") recover,
      differs name (codes "explore") explore,
      differs name (codes "attest") attest,
      differs name (codes "serve") serve,
    ) refl

pub returns-in_default : goal.returns-in_default
returns-in_default c =
    let no = c.in_default in
    no_order c.args.name.now (rows_of (found_of c.args.words.now)) no.not-rehearse no.not-check no.not-judge
    no.not-table no.not-explain no.not-twin no.not-recover no.not-explore no.not-attest no.not-serve
