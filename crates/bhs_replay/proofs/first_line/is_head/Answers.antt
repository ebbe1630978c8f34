use Rattle.std.proofs.Common.{bytes_eq, sym, subst, ap, ap₂, ◌∙◌}
use Rattle.std.proofs.lemmas.Bool.{false≢true}
use Rattle.bhs_net.specs.Network.{Network}
use Rattle.bhs_model.specs.declared.setups.Setup.{Setup}
use Rattle.bhs_replay.specs.Head.{head_line, CanSay}
use Rattle.bhs_replay.proofs.OpeningLemmas.{cannot_say, opens_if}
use Rattle.bhs_replay.proofs.first_line.is_head.Goals as goal

pub returns-then-not-can_say : goal.returns-then-not-can_say
returns-then-not-can_say c = λ says is version starts.
    cannot_say c.args.line.now says is c.args.game.now starts
    (λ can. false≢true (sym c.if-not-can_say.true ∙ c.can_say.ensures.1
    (subst (λ (n : Network). CanSay c.args.version n c.setup.result.now) (sym c.net.ensures)
    (subst (λ (s : Setup). CanSay c.args.version c.args.game.now.net s) (sym c.setup.ensures.setup)
    (subst (λ v. CanSay v c.args.game.now.net c.args.game.now.setup) (sym version) can)))))

pub returns : goal.returns
returns c = λ says is version starts.
    let can = subst (λ (s : Setup). CanSay c.args.version c.args.game.now.net s) c.setup.ensures.setup
    (subst (λ (n : Network). CanSay c.args.version n c.setup.result.now) c.net.ensures
    (c.can_say.ensures.0 c.if-not-can_say.false)) in
    let text = c.as_bytes.ensures.value ∙ (c.in_ok-text.ensures.line
    ∙ ap₂ (λ (n : Network) (s : Setup). head_line c.args.version n s) c.net-2.ensures c.setup-2.ensures.setup) in
    opens_if c.args.line.now says is c.args.game.now starts c.setup.ensures.within c.setup.ensures.normal
    c.args.version version can c.eq.result (c.eq.ensures ∙ ap (bytes_eq c.args.line.now) text)
