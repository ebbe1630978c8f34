use Rattle.std.proofs.Common.{◌≡◌, ℕ, List, IfOk, sym, ap, ◌∙◌, subst}
use Rattle.json.specs.Lex.{tokens}
use Rattle.bhs_wire.specs.Said.{said_by_tokens}
use Rattle.bhs_wire.specs.declared.commands.First.{First}
use Rattle.bhs_wire.proofs.FirstLines.{first_of-text, first_of-no_text}
use Rattle.bhs_wire.proofs.commands.LineReader.read.Goals as goal

pub returns-in_default : goal.returns-in_default
returns-in_default c = sym (first_of-no_text c.args.line.now c.in_default.ensures.cases.0)

pub returns-in-Ok-read_object : goal.returns-in-Ok-read_object
returns-in-Ok-read_object c =
    let text = c.in-Ok.ensures.cases in
    let line = ap (λ (bytes : List ℕ). said_by_tokens (tokens bytes)) text.0 ∙ sym
    (first_of-text c.args.line.now text.1) in
    let said = sym c.in-Ok-read_object.ensures.ok ∙ (ap said_by_tokens c.in_ok-reader.ensures.ok ∙ line) in
    subst (λ (all : First). IfOk c.command_in.result (λ first. first ≡ all)) said c.command_in.ensures

pub returns-in-Err : goal.returns-in-Err
returns-in-Err c =
    let text = c.in-Ok.ensures.cases in
    let line = ap (λ (bytes : List ℕ). said_by_tokens (tokens bytes)) text.0 ∙ sym
    (first_of-text c.args.line.now text.1) in
    sym c.in-Err.ensures.err ∙ (ap said_by_tokens c.in_ok-reader.ensures.ok ∙ line)
