-- Loop invariant: taking the items of a connection in order.
use Rattle.std.proofs.Common.{◌≡◌, ℕ, Bool, true, false, List, [], ◌∷◌, refl}
use Rattle.std.proofs.Common.{if◌then◌else◌}
use Rattle.bhs_model.specs.declared.events.Event.TheVariants.{Tell}
use Rattle.bhs_model.specs.declared.commands.Command.TheVariants.{Leave}
use Rattle.bhs_model.specs.declared.commands.Command.{Command}
use Rattle.bhs_wire.specs.Lines.{Line, said_by}
use Rattle.bhs_session.specs.Port.{Tells}
use Rattle.bhs_session.specs.Machine.{Ask, Asks}
use Rattle.bhs_session.specs.Texts.{command_by}
use Rattle.bhs_rehearsal.specs.Games.{Game, played, reply_to, is_away}
use Rattle.bhs_rehearsal.specs.Connections.{Item, Says, Ends, TakenItems, taken, leaves, answers}

-- what is asked for a later line
pub same_command : (one two : Command) → ◌≡◌ {A = Ask} (Asks (Tells one)) (Asks (Tells two)) → one ≡ two
same_command one two same = cc

if_away : (away : Bool) (here there : TakenItems) → away ≡ false → (if away then here else there) ≡ there
if_away true here there is = absurd (cc_false is) where
  cc_false : true ≡ false → ⊥
  cc_false is = cc
if_away false here there is = refl

if_here : (away : Bool) (here there : TakenItems) → away ≡ true → (if away then here else there) ≡ here
if_here true here there is = refl
if_here false here there is = absurd (cc_true is) where
  cc_true : false ≡ true → ⊥
  cc_true is = cc

-- the next item of an agent that is not away
pub takes_line : (game : Game) (agent : ℕ) (line : Line) (items : List Item) → is_away game agent ≡ false →
    taken game agent (Says line ∷ items)
    ≡ answers (reply_to game (Tell agent (command_by (said_by line))))
    (played game (Tell agent (command_by (said_by line))))
    (taken (played game (Tell agent (command_by (said_by line)))) agent items)
takes_line game agent line items here = if_away (is_away game agent) _ _ here

pub takes_end : (game : Game) (agent : ℕ) (items : List Item) → is_away game agent ≡ false →
    taken game agent (Ends ∷ items) ≡ record {
      game = played game (Tell agent Leave);
      is_done = true;
      left = [];
      text = [];
    }
takes_end game agent items here = if_away (is_away game agent) _ _ here

-- An agent on a link takes no item.
pub takes_none : (game : Game) (agent : ℕ) (items : List Item) → is_away game agent ≡ true
    → taken game agent items ≡ leaves game items
takes_none game agent [] away = refl
takes_none game agent (Says line ∷ items) away = if_here (is_away game agent) _ _ away
takes_none game agent (Ends ∷ items) away = if_here (is_away game agent) _ _ away
