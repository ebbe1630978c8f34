use Rattle.std.proofs.Common.{◌∙◌, sym, subst, ℕ, List}
use Rattle.bhs_cli_explore.specs.Discoveries.{AreLinks}
use Rattle.bhs_cli_explore.proofs.explore.discovered.Goals as goal

pub returns-in-Ok-made : goal.returns-in-Ok-made
returns-in-Ok-made g c =
    record {
      known = c.made.new.explorer;
      of = record {
        net = c.in-Ok-made.ensures.same.0 ∙ (c.in-Ok.ensures.world.0 ∙ c.in_ok-world.ensures.0);
        setup = c.in-Ok-made.ensures.same.1 ∙ (c.in-Ok.ensures.world.1 ∙ c.in_ok-world.ensures.1);
        held = subst (λ (links : List (ℕ × ℕ)). AreLinks c.args.ready.now links)
            (sym (c.in-Ok-made.ensures.held.0 ∙ c.in-Ok.ensures.held.0)) c.in_ok-held.ensures;
        wakeups = c.in-Ok-made.ensures.held.1 ∙ c.in-Ok.ensures.held.1;
      };
      once = c.in-Ok-made.ensures.once;
      some = c.in-Ok-made.ensures.some;
      kind = c.in-Ok-made.ensures.kind;
      is_true = c.in-Ok-made.ensures.found;
      counted = c.in-Ok-made.ensures.counted;
    }
