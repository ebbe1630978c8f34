use Rattle.std.proofs.Common.{◌≡◌, ◌∙◌, ap, sym, refl, Some}
use Rattle.bhs_model.specs.declared.commands.Command.TheVariants.{Bad}
use Rattle.bhs_wire.specs.First.{first_of, says_as}
use Rattle.bhs_wire.specs.LineKind.{line_kind}
use Rattle.bhs_wire.specs.declared.commands.First.{First}
use Rattle.bhs_wire.specs.declared.commands.First.TheVariants.{Tell}
use Rattle.bhs_wire.specs.declared.kinds.LineKind.{LineKind}
use Rattle.bhs_wire.specs.declared.kinds.LineKind.TheVariants.{Over, Whole}
use Rattle.bhs_cli_explore.proofs.HostLemmas.{takes_as}
use Rattle.bhs_cli_explore.proofs.hosts.Host.command.Goals as goal

pub returns-in-Over-clause-command : goal.returns-in-Over-clause-command
returns-in-Over-clause-command g c =
    let line = c.in_ok-line.line.items in
    let kind : line_kind line ≡ Over =
    ap line_kind (sym c.deref.ensures.value) ∙ sym c.kind_of.ensures ∙ c.in-Over.is in
    record {
      said = line;
      takes = c.in_ok-line.ensures.line;
      means = (Tell Bad, ap (λ (k : LineKind). says_as k line) kind, refl);
    }

pub returns-clause-command : goal.returns-clause-command
returns-clause-command g c =
    let line = c.in_ok-line.line.items in
    let kind : line_kind line ≡ Whole =
    ap line_kind (sym c.deref.ensures.value) ∙ sym c.kind_of.ensures ∙ c.in-Whole.is in
    record {
      said = line;
      takes = takes_as g.R.Input.gives _ _ c.line.new.self _ _ c.in_ok-line.ensures.line refl refl refl refl;
      means = (
        Tell c.in-Tell.command,
        ap (λ (k : LineKind). says_as k line) kind ∙ ap (λ (it : First). Some it)
            (ap first_of (sym c.deref-in-Whole.ensures.value) ∙ sym c.in_ok-command_of-in-Whole.ensures ∙ c.in-Tell.is),
        refl,
      );
    }
