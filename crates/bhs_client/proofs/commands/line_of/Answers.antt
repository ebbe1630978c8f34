use Rattle.std.proofs.Common.{◌≡◌, ◌∙◌, ◌≤◌, Some, false, string_bytes, subst, sym, ap}
use Rattle.std.proofs.lemmas.Result.{IfOk-weaker}
use Rattle.std.proofs.lemmas.Str.{IsUtf8-string_bytes}
use Rattle.serde_json.specs.Data.{Data, depth}
use Rattle.serde_json.specs.Read.{max_depth}
use Rattle.serde_json.specs.View.{view}
use Rattle.serde_json.specs.Written.{compact_text, has_float}
use Rattle.bhs_replay.proofs.Flat.{IsFlat, text_flat}
use Rattle.bhs_client.specs.CommandLines.{data_of, PortFits}
use Rattle.bhs_client.proofs.CommandLemmas.{first_of-data_of, says-data_of, shallow, no_float, is_plain, ok_by_both}
use Rattle.bhs_client.proofs.commands.line_of.Goals as goal

pub returns-clause-meant : goal.returns-clause-meant
returns-clause-meant c =
    let key = c.args.key.now in
    let command = c.args.command.now in
    let same : view c.in_ok-value_of.field-0 ≡ data_of key command = c.in_ok-value_of.ensures.value in
    let fits : PortFits command = c.in_ok-value_of.ensures.fits in
    let deep : depth (view c.in_ok-value_of.field-0) ≤ max_depth =
    subst (λ (value : Data). depth value ≤ max_depth) (sym same) (shallow key command) in
    let plain : has_float (view c.in_ok-value_of.field-0) ≡ false =
    subst (λ (value : Data). has_float value ≡ false) (sym same) (no_float key command) in
    ok_by_both c.to_string.result _ _ _
    (λ line back text short. says-data_of (string_bytes line) key command (text plain ∙ ap compact_text same)
    (first_of-data_of (string_bytes line) key command fits (IsUtf8-string_bytes line) (back deep ∙ ap Some same)) short)
    c.to_string.ensures.reads_back c.to_string.ensures.text

pub returns-clause-flat : goal.returns-clause-flat
returns-clause-flat c =
    let key = c.args.key.now in
    let command = c.args.command.now in
    let same : view c.in_ok-value_of.field-0 ≡ data_of key command = c.in_ok-value_of.ensures.value in
    let fits : PortFits command = c.in_ok-value_of.ensures.fits in
    let plain : has_float (view c.in_ok-value_of.field-0) ≡ false =
    subst (λ (value : Data). has_float value ≡ false) (sym same) (no_float key command) in
    IfOk-weaker c.to_string.result _ _
    (λ line text. subst IsFlat (sym (text plain ∙ ap compact_text same))
    (text_flat (data_of key command) (is_plain key command fits))) c.to_string.ensures.text
