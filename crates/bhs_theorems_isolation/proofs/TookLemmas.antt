-- What an agent meets while items of its connection are taken.
use Rattle.std.proofs.Common.{◌≡◌, ◌≢◌, ◌∙◌, ℕ, ◌⊎◌, inl, inr, Bool, true, false, not, Option, List}
use Rattle.std.proofs.Common.{[], ◌∷◌, ◌++◌, map, refl, sym, ap, ap₂, subst, append-nil}
use Rattle.bhs_model.specs.declared.commands.Command.{Command}
use Rattle.bhs_model.specs.declared.commands.Command.TheVariants.{Leave}
use Rattle.bhs_model.specs.declared.events.Event.TheVariants.{Tell}
use Rattle.bhs_model.specs.declared.setups.Setup.{Setup}
use Rattle.bhs_model.specs.declared.replies.Reply.{Reply}
use Rattle.bhs_model.specs.declared.replies.Reply.TheVariants as replies
use Rattle.bhs_model.specs.Views.{View, Told, Nothing, Away, Ended, standing}
use Rattle.bhs_model.specs.Worlds.{World}
use Rattle.bhs_model.specs.Runs.{State, Position, is_bound, glance, position_after, heard, next}
use Rattle.bhs_model.proofs.StepLemmas.{changed_same}
use Rattle.bhs_wire.specs.Lines.{Line}
use Rattle.bhs_session.specs.Texts.{text_of, command_of}
use Rattle.bhs_rehearsal.specs.Games.{Game, world_in, state_of, played, reply_to, is_away}
use Rattle.bhs_rehearsal.specs.Connections.{Item, Says, Ends, TakenItems, is_last, leaves, answers, taken}
use Rattle.bhs_theorems_isolation.proofs.CuttingLemmas.{behind}
use Rattle.bhs_theorems_isolation.proofs.AwayLemmas.{state_of-played}
use Rattle.bhs_theorems_isolation.specs.Met.{Meeting, past_after, view_from, commands, answer_to, bytes_from}
use Rattle.bhs_theorems_isolation.specs.Met.{takes_commands}
use Rattle.bhs_theorems_isolation.specs.Met.{AreDue}
use Rattle.bhs_theorems_isolation.specs.SentAsMet.{IsPastOf, over_text}
use Rattle.bhs_theorems_isolation.proofs.OverLemmas.{EndsLast, has_end, over_none, over_next, over_ended}
use Rattle.bhs_theorems_isolation.proofs.FitLemmas.{fits_here, here_stands}
use Rattle.bhs_theorems_isolation.proofs.EventLemmas.{IsIn, played_in}
use Rattle.bhs_theorems_isolation.proofs.EventLemmas.{closed-told, Answered, answered-open, answered-closed}
use Rattle.bhs_theorems_isolation.proofs.EventLemmas.{unheard-closed}
use Rattle.bhs_model.proofs.LegalLemmas.{either}
use Rattle.std.proofs.lemmas.Bool.{cond_both}

-- the lines among items
abbrev pub lines_of : List Item → List Line
lines_of [] = []
lines_of (Says line ∷ items) = line ∷ lines_of items
lines_of (Ends ∷ items) = lines_of items

pub lines_of-append : (items more : List Item) → lines_of (items ++ more) ≡ lines_of items ++ lines_of more
lines_of-append [] more = refl
lines_of-append (Says line ∷ items) more = ap (λ (lines : List Line). line ∷ lines) (lines_of-append items more)
lines_of-append (Ends ∷ items) more = lines_of-append items more

pub lines_of-says : (lines : List Line) → lines_of (map Says lines) ≡ lines
lines_of-says [] = refl
lines_of-says (line ∷ lines) = ap (λ (rest : List Line). line ∷ rest) (lines_of-says lines)

pub has_end-says : (items : List Item) (lines : List Line) → has_end (items ++ map Says lines) ≡ has_end items
has_end-says [] [] = refl
has_end-says [] (line ∷ lines) = has_end-says [] lines
has_end-says (Says line ∷ items) lines = has_end-says items lines
has_end-says (Ends ∷ items) lines = refl

pub has_end-end : (items : List Item) → has_end (items ++ Ends ∷ []) ≡ true
has_end-end [] = refl
has_end-end (Says line ∷ items) = has_end-end items
has_end-end (Ends ∷ items) = refl

-- ---- of the agent itself

-- its agent is on no link, or its match is over: it is never told anything again
abbrev pub IsQuiet : (closed away : Bool) → Type 0
IsQuiet closed away = (closed ≡ true) ⊎ (away ≡ false)

-- The match is open: an agent on a link is awaited.
abbrev pub IsOpen : (closed away : Bool) → Type 0
IsOpen closed away = (closed ≡ false) ⊎ (away ≡ false)

pub record Took (setup : Setup) (closed was_away : Bool) (old : View) (items : List Item) (done : TakenItems)
    (agent : ℕ) : Type 0 where
  pub met : List Meeting
  pub lines : List Line
  pub over : List Line
  pub split : lines_of items ≡ lines ++ over
  pub left : done.is_done ≡ false → over ≡ lines_of done.left
  pub end_left : done.is_done ≡ false → has_end items ≡ has_end done.left
  pub last_left : done.is_done ≡ false → EndsLast items → EndsLast done.left
  pub open_left : done.is_done ≡ false → IsOpen closed was_away → IsOpen closed (is_away done.game agent)
  pub said : commands met ≡ map command_of lines
  pub due : AreDue setup.quota old met
  pub lived : done.is_done ≡ false → (state_of done.game).past agent ≡ view_from old met
  pub died : done.is_done ≡ true → IsPastOf (has_end items) (view_from old met) ((state_of done.game).past agent)
  pub heard : done.is_done ≡ false → done.text ≡ bytes_from setup.board old met
  pub last : done.is_done ≡ true
      → done.text ≡ bytes_from setup.board old met ++ over_text closed (standing (view_from old met)) over
  -- who is done before the close is told nothing at the close; and who took all lines and may say more, by the end of
  -- its input
  pub mute : done.is_done ≡ true → closed ≡ false → over_text true (standing (view_from old met)) over ≡ []
  pub by_end : done.is_done ≡ true → over ≡ [] → takes_commands (standing (view_from old met)) ≡ true
      → has_end items ≡ true
  pub quiet : done.is_done ≡ true → IsQuiet closed (is_away done.game agent)
  -- The session goes on, so its agent has not ended; in an open match, before the end of the input, only the agent's
  -- end closes the connection.
  pub lives : done.is_done ≡ false → standing ((state_of done.game).past agent) ≢ Ended
  pub done_by : done.is_done ≡ true → closed ≡ false → has_end items ≡ false
      → takes_commands (standing (view_from old met)) ≡ false
  pub closed_is : (state_of done.game).closed ≡ closed
  pub is_in : IsIn setup agent done.game

not_back : (one : Bool) → not one ≡ true → one ≡ false
not_back true is = absurd (cc)
not_back false is = refl

-- nothing is taken
took-leaves : (setup : Setup) (closed : Bool) (game : Game) (agent : ℕ) (items : List Item) → IsIn setup agent game
    → standing ((state_of game).past agent) ≢ Ended → (state_of game).closed ≡ closed →
    Took setup closed (is_away game agent) ((state_of game).past agent) items (leaves game items) agent
took-leaves setup closed game agent items is lives at = record {
  met = [];
  lines = [];
  over = lines_of items;
  split = refl;
  left = λ goes_on. refl;
  end_left = λ goes_on. refl;
  last_left = λ goes_on last. last;
  open_left = λ goes_on open_yet. open_yet;
  said = refl;
  due = tt;
  lived = λ goes_on. refl;
  died = λ done. inl refl;
  heard = λ goes_on. refl;
  last = λ done. absurd (cc);
  mute = λ done. absurd (cc);
  by_end = λ done. absurd (cc);
  quiet = λ done. absurd (cc);
  lives = λ goes_on. lives;
  done_by = λ done. absurd (cc);
  closed_is = at;
  is_in = is;
}

-- the end of the input
left_position : (world : World) (state : State) (agent : ℕ) → is_bound (state.position agent) ≡ false
    → is_bound ((next world state (Tell agent Leave)).position agent) ≡ false
left_position world state agent at =
    either (λ (new : State). is_bound (new.position agent) ≡ false) (heard world state agent Leave) _ state
    (ap is_bound (changed_same state.position agent (position_after world (state.position agent) Leave))) at

left_glance : (world : World) (state : State) (position : Position) → glance world state position Leave ≡ Nothing
left_glance world state position = refl

left_past : (world : World) (state : State) (agent : ℕ)
    → IsPastOf true (state.past agent) ((next world state (Tell agent Leave)).past agent)
left_past world state agent =
    either (λ (new : State). IsPastOf true (state.past agent) (new.past agent)) (heard world state agent Leave) _ state
    (inr (
      changed_same state.past agent _ ∙ ap (λ seen. Told (state.past agent) Leave seen)
          (left_glance world state (state.position agent)),
      refl,
    ))
    (inl refl)

took-end : (setup : Setup) (closed : Bool) (game : Game) (agent : ℕ) (items : List Item) → IsIn setup agent game
    → (state_of game).closed ≡ closed → is_away game agent ≡ false → items ≡ [] →
    Took setup closed (is_away game agent) ((state_of game).past agent) (Ends ∷ items)
    (record { game = played game (Tell agent Leave); is_done = true; left = []; text = [] }) agent
took-end setup closed game agent items is at here none =
    let standing_here = here_stands (world_in game) ((state_of game).past agent) ((state_of game).position agent)
    (fits_here game agent) here in
    let stands = state_of-played game (Tell agent Leave) in
    record {
      met = [];
      lines = [];
      over = [];
      split = ap lines_of none;
      left = λ goes_on. absurd (cc);
      end_left = λ goes_on. absurd (cc);
      last_left = λ goes_on. absurd (cc);
      open_left = λ goes_on. absurd (cc);
      said = refl;
      due = tt;
      lived = λ goes_on. absurd (cc);
      died = λ done. subst (λ (state : State). IsPastOf true ((state_of game).past agent) (state.past agent))
          (sym stands) (left_past (world_in game) (state_of game) agent);
      heard = λ goes_on. refl;
      last = λ done. sym (over_none closed (standing ((state_of game).past agent)) standing_here);
      mute = λ done still. over_none true (standing ((state_of game).past agent)) standing_here;
      by_end = λ done untaken takes. refl;
      quiet = λ done. inr (ap (λ (state : State). is_bound (state.position agent)) stands
          ∙ left_position (world_in game) (state_of game) agent here);
      lives = λ goes_on. absurd (cc);
      done_by = λ done still unended. absurd (cc);
      closed_is = closed-told game agent Leave ∙ at;
      is_in = played_in setup agent game (Tell agent Leave) is;
    }

-- a line behind the close
took-over : (setup : Setup) (game : Game) (agent : ℕ) (line : Line) (items : List Item) → IsIn setup agent game
    → standing ((state_of game).past agent) ≢ Ended → (state_of game).closed ≡ true → is_away game agent ≡ false →
    Took setup true (is_away game agent) ((state_of game).past agent) (Says line ∷ items)
    (record {
      game = played game (Tell agent (command_of line));
      is_done = true;
      left = [];
      text = text_of
          replies.Over;
    }) agent
took-over setup game agent line items is lives at here =
    let still = unheard-closed setup game agent (command_of line) is here lives at in
    record {
      met = [];
      lines = [];
      over = line ∷ lines_of items;
      split = refl;
      left = λ goes_on. absurd (cc);
      end_left = λ goes_on. absurd (cc);
      last_left = λ goes_on. absurd (cc);
      open_left = λ goes_on. absurd (cc);
      said = refl;
      due = tt;
      lived = λ goes_on. absurd (cc);
      died = λ done. inl (ap (λ (state : State). state.past agent) still);
      heard = λ goes_on. absurd (cc);
      last = λ done. sym (over_next (standing ((state_of game).past agent)) line (lines_of items) lives);
      mute = λ done still. absurd (cc);
      by_end = λ done none. absurd (cc);
      quiet = λ done. inl refl;
      lives = λ goes_on. absurd (cc);
      done_by = λ done still. absurd (cc);
      closed_is = closed-told game agent (command_of line) ∙ at;
      is_in = played_in setup agent game (Tell agent (command_of line)) is;
    }

-- a line before it
module _ (setup : Setup) (game : Game) (agent : ℕ) (line : Line) (items : List Item) (is : IsIn setup agent game)
    (lives : standing ((state_of game).past agent) ≢ Ended)
    (at : (state_of game).closed ≡ false) (here : is_away game agent ≡ false) where
  abbrev command : Command
  command = command_of line

  abbrev next_game : Game
  next_game = played game (Tell agent command)

  abbrev old : View
  old = (state_of game).past agent

  abbrev new : View
  new = (state_of next_game).past agent

  took-last : (a : Answered setup old new command (reply_to game (Tell agent command)) (not (is_away next_game agent)))
      →
      is_last (answer_to setup.board old a.meeting) ≡ true →
      Took setup false (is_away game agent) old (Says line ∷ items)
      (record { game = next_game; is_done = true; left = []; text = text_of (answer_to setup.board old a.meeting) })
      agent
  took-last a is_last_one =
      let text = text_of (answer_to setup.board old a.meeting) in
      let stopped : takes_commands (standing (past_after old a.meeting)) ≡ false =
      ap (λ (view : View). takes_commands (standing view)) (sym a.new_is) ∙ a.ends_it is_last_one in
      let here_now : standing (past_after old a.meeting) ≢ Away =
      subst (λ (view : View). standing view ≢ Away) a.new_is
      (here_stands (world_in next_game) new ((state_of next_game).position agent) (fits_here next_game agent)
      (not_back (is_away next_game agent) (a.stays is_last_one))) in
      record {
        met = a.meeting ∷ [];
        lines = line ∷ [];
        over = lines_of items;
        split = refl;
        left = λ goes_on. absurd (cc);
        end_left = λ goes_on. absurd (cc);
        last_left = λ goes_on. absurd (cc);
        open_left = λ goes_on. absurd (cc);
        said = ap (λ (said : List Command). said ++ []) a.command_is;
        due = (a.due, tt);
        lived = λ goes_on. absurd (cc);
        died = λ done. inl a.new_is;
        heard = λ goes_on. absurd (cc);
        last = λ done. sym (append-nil (text ++ []) ∙ append-nil text);
        mute = λ done still. over_ended (standing (past_after old a.meeting)) (lines_of items) stopped here_now;
        by_end = λ done none takes. absurd (let both = sym stopped ∙ takes in cc);
        quiet = λ done. inr (not_back (is_away next_game agent) (a.stays is_last_one));
        lives = λ goes_on. absurd (cc);
        done_by = λ done still unended. ap (λ (view : View). takes_commands (standing view)) (sym a.new_is)
            ∙ a.ends_it is_last_one;
        closed_is = closed-told game agent command ∙ at;
        is_in = played_in setup agent game (Tell agent command) is;
      }

  took-more : (a : Answered setup old new command (reply_to game (Tell agent command)) (not (is_away next_game agent)))
      → (others : TakenItems) →
      Took setup false (is_away next_game agent) new items others agent →
      Took setup false (is_away game agent) old (Says line ∷ items) (behind
      (text_of (answer_to setup.board old a.meeting)) others) agent
  took-more a others more =
      let m = a.meeting in
      let text = text_of (answer_to setup.board old m) in
      let same : ◌≡◌ {A = View} new (past_after old m) = a.new_is in
      record {
        met = m ∷ more.met;
        lines = line ∷ more.lines;
        over = more.over;
        split = ap (λ (lines : List Line). line ∷ lines) more.split;
        left = more.left;
        end_left = more.end_left;
        last_left = more.last_left;
        open_left = λ goes_on open_yet. inl refl;
        said = ap₂ (λ (one two : List Command). one ++ two) a.command_is more.said;
        due = (a.due, subst (λ (view : View). AreDue setup.quota view more.met) same more.due);
        lived = λ goes_on. more.lived goes_on ∙ ap (λ (view : View). view_from view more.met) same;
        died = λ done. subst (λ (view : View). IsPastOf (has_end items) (view_from view more.met)
            ((state_of others.game).past agent)) same (more.died done);
        heard = λ goes_on. ap (λ (rest : List ℕ). text ++ rest)
            (more.heard goes_on ∙ ap (λ (view : View). bytes_from setup.board view more.met) same);
        last = λ done. ap (λ (rest : List ℕ). text ++ rest)
            (more.last done ∙ append-nil (bytes_from setup.board new more.met)
            ∙ ap (λ (view : View). bytes_from setup.board view more.met) same)
            ∙ sym (append-nil (text ++ bytes_from setup.board (past_after old m) more.met));
        mute = λ done still. ap (λ (view : View). over_text true (standing (view_from view more.met)) more.over)
            (sym same) ∙ more.mute done still;
        by_end = λ done none takes. more.by_end done none
            (ap (λ (view : View). takes_commands (standing (view_from view more.met))) same ∙ takes);
        quiet = more.quiet;
        lives = more.lives;
        done_by = λ done still unended. ap (λ (view : View). takes_commands (standing (view_from view more.met)))
            (sym same) ∙ more.done_by done still unended;
        closed_is = more.closed_is;
        is_in = more.is_in;
      }

  took-line : (others : TakenItems)
      → (standing new ≢ Ended → Took setup false (is_away next_game agent) new items others agent) →
      Took setup false (is_away game agent) old (Says line ∷ items) (answers (reply_to game (Tell agent command))
      next_game others) agent
  took-line others more =
      let a = answered-open setup game agent command is here lives at in
      let reply = answer_to setup.board old a.meeting in
      subst (λ (replied : Option Reply). Took setup false (is_away game agent) old (Says line ∷ items)
      (answers replied next_game others) agent) (sym a.replied_is)
      (cond_both (is_last reply) _ _
      (λ (done : TakenItems). Took setup false (is_away game agent) old (Says line ∷ items) done agent)
      (took-last a) (λ goes_on. took-more a others (more (a.goes_on goes_on))))

pub took : (setup : Setup) (closed : Bool) (game : Game) (agent : ℕ) (items : List Item) → IsIn setup agent game
    → standing ((state_of game).past agent) ≢ Ended → (state_of game).closed ≡ closed → EndsLast items →
    Took setup closed (is_away game agent) ((state_of game).past agent) items (taken game agent items) agent
took setup closed game agent [] is lives at last = took-leaves setup closed game agent [] is lives at
took setup closed game agent (Says line ∷ items) is lives at last =
    let event = Tell agent (command_of line) in
    let next_game = played game event in
    let others = taken next_game agent items in
    cond_both (is_away game agent) _ _ (λ (done : TakenItems). Took setup closed (is_away game agent)
    ((state_of game).past agent) (Says line ∷ items) done agent)
    (λ away. took-leaves setup closed game agent (Says line ∷ items) is lives at)
    (λ here. by_closed setup closed game agent line items is lives at here others
    (λ still_lives. took setup closed next_game agent items (played_in setup agent game event is) still_lives
    (closed-told game agent (command_of line) ∙ at) last))
  where
    by_closed : (setup : Setup) (closed : Bool) (game : Game) (agent : ℕ) (line : Line) (items : List Item)
        → IsIn setup agent game → standing ((state_of game).past agent) ≢ Ended → (state_of game).closed ≡ closed →
        is_away game agent ≡ false → (others : TakenItems) →
        (standing ((state_of (played game (Tell agent (command_of line)))).past agent) ≢ Ended
        → Took setup closed (is_away (played game (Tell agent (command_of line))) agent)
        ((state_of (played game (Tell agent (command_of line)))).past agent) items others agent)
        →
        Took setup closed (is_away game agent) ((state_of game).past agent) (Says line ∷ items)
        (answers (reply_to game (Tell agent (command_of line))) (played game (Tell agent (command_of line))) others)
        agent
    by_closed setup true game agent line items is lives at here others more =
        subst (λ (replied : Option Reply). Took setup true (is_away game agent) ((state_of game).past agent)
        (Says line ∷ items) (answers replied (played game (Tell agent (command_of line))) others) agent)
        (sym (answered-closed setup game agent (command_of line) is here lives at))
        (took-over setup game agent line items is lives at here)
    by_closed setup false game agent line items is lives at here others more =
        took-line setup game agent line items is lives at here others more
took setup closed game agent (Ends ∷ items) is lives at last =
    cond_both (is_away game agent) _ _ (λ (done : TakenItems). Took setup closed (is_away game agent)
    ((state_of game).past agent) (Ends ∷ items) done agent)
    (λ away. took-leaves setup closed game agent (Ends ∷ items) is lives at)
    (λ here. took-end setup closed game agent items is at here last)
