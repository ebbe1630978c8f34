use Rattle.std.proofs.Common.{◌≡◌, List, ℕ, IfOk, sym, ap, ◌∙◌, subst}
use Rattle.bhs_model.specs.Marks.{text_at}
use Rattle.bhs_match.specs.Matches.{Play, world_in, state_of, shown_at}
use Rattle.bhs_match.proofs.ApplyLemmas.{shown_same}
use Rattle.bhs_match.proofs.games.Match.seen.Goals as goal

pub returns-in-Some : goal.returns-in-Some
returns-in-Some c =
    subst (λ (play : Play). IfOk c.text_shared.result (λ text. text ≡ shown_at (world_in play) (state_of play)
    ((state_of play).position c.args.agent))) c.self.view_is
    (subst (λ (shown : List ℕ). IfOk c.text_shared.result (λ text. text ≡ shown))
    (ap (λ log. text_at log c.last.result) c.deref.ensures.value
    ∙ ap (text_at c.self.inside.log.items) c.last.ensures.kept
    ∙ shown_same c.self.inside.world _ c.args.agent _ c.self.invariant.0.stands
    (sym (rw c.in-Some.is at c.node_seen.ensures.node))) c.text_shared.ensures)
