use Rattle.std.proofs.Common.{◌≡◌, ◌∷◌, ℕ, [], true, List, IfOk, sym, ap, ◌∙◌, subst, append-nil}
use Rattle.bhs_model.specs.declared.commands.Command.{Command}
use Rattle.bhs_model.specs.declared.commands.Command.TheVariants.{Leave}
use Rattle.bhs_model.specs.declared.events.Event.TheVariants.{Tell}
use Rattle.bhs_wire.specs.Lines.{seen, said_by}
use Rattle.bhs_wire.specs.declared.commands.First.{First}
use Rattle.bhs_session.specs.Phase.{Ready}
use Rattle.bhs_session.specs.Machine.{ask}
use Rattle.bhs_session.specs.Texts.{command_by}
use Rattle.bhs_rehearsal.specs.Games.{Game, played, reply_to}
use Rattle.bhs_rehearsal.specs.Connections.{TakenItems, taken, answers}
use Rattle.bhs_rehearsal.specs.Rehearsing.{game_of, seen_item}
use Rattle.bhs_rehearsal.specs.Takings.{behind, goes_on}
use Rattle.bhs_rehearsal.specs.declared.items.Item.{Item as ItemOfCode}
use Rattle.bhs_rehearsal.proofs.TakeLemmas.{same_command, takes_end, takes_line}
use Rattle.bhs_rehearsal.proofs.takings.take_item.Goals as goal

pub returns-in_ok-first-in-Says-clause-taken : goal.returns-in_ok-first-in-Says-clause-taken
returns-in_ok-first-in-Says-clause-taken c others here =
    let game : Game = game_of c.args.ready.now in
    let agent = c.args.agent in
    let line = c.in-Says.line in
    let said : command_by (said_by (seen line)) ≡ c.command_in.result =
    same_command (command_by (said_by (seen line))) c.command_in.result
    (ap (λ (first : First). ask Ready first) (sym c.in_ok-first-in-Says.ensures.said) ∙ c.command_in.ensures) in
    let told : taken game agent (seen_item c.args.item ∷ others)
    ≡ answers (reply_to game (Tell agent c.command_in.result)) (played game (Tell agent c.command_in.result))
    (taken (played game (Tell agent c.command_in.result)) agent others) =
    ap (λ (item : ItemOfCode). taken game agent (seen_item item ∷ others)) c.in-Says.is
    ∙ takes_line game agent (seen line) others here
    ∙ ap (λ (command : Command). answers (reply_to game (Tell agent command)) (played game (Tell agent command))
    (taken (played game (Tell agent command)) agent others)) said in
    subst (λ (taken : TakenItems). IfOk c.answer_command.result
    (λ is_done. behind c.args.text.now.items taken ≡ goes_on is_done (game_of c.answer_command.new.ready) agent others
    c.answer_command.new.text.items))
    (sym told) (c.answer_command.ensures.taken others)

pub returns-in-Ends-clause-taken : goal.returns-in-Ends-clause-taken
returns-in-Ends-clause-taken c others here =
    let game : Game = game_of c.args.ready.now in
    let agent = c.args.agent in
    let text = c.args.text.now.items in
    ap (λ (item : ItemOfCode). behind text (taken game agent (seen_item item ∷ others))) c.in-Ends.is
    ∙ ap (behind text) (takes_end game agent others here)
    ∙ ap (λ (all : List ℕ). record
    { game = played game (Tell agent Leave); is_done = true; left = []; text = all }) (append-nil text)
    ∙ ap (λ (after : Game). record { game = after; is_done = true; left = []; text = text })
    (sym c.play_event.ensures.game)
