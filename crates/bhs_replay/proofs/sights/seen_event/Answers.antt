use Rattle.std.proofs.Common.{◌++◌, codes, decimal, ap, ◌∙◌}
use Rattle.bhs_replay.proofs.sights.seen_event.Goals as goal

pub returns-in-Some-after : goal.returns-in-Some-after
returns-in-Some-after c = λ reply is.
    c.in-Some.ensures ∙ ap (λ rest. codes "{\"agent\":" ++ rest) (c.in_ok-agent.ensures
    ∙ ap (λ rest. decimal c.in_ok-agent.agent ++ rest) (c.in-Some-after.ensures
    ∙ ap (λ rest. codes ",\"do\":\"deliver\"" ++ rest) is))
