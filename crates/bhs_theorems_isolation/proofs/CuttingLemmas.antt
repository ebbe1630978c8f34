-- Taking more items is taking the first, and then what they leave with the others.
use Rattle.std.proofs.Common.{◌≡◌, ◌≢◌, ◌∙◌, ℕ, Bool, true, false, cond, ◌&&◌, nat_lt, ◌==◌, Option, Some, None, List}
use Rattle.std.proofs.Common.{[], ◌∷◌, ◌++◌, refl, sym, ap, append_assoc, arith, if◌then◌else◌}
use Rattle.std.proofs.lemmas.Bool.{cond-true, cond-false, eqb-true, eqb-false}
use Rattle.std.proofs.lemmas.Bool.Decides.{nat_tests}
use Rattle.bhs_model.specs.declared.commands.Command.{Command}
use Rattle.bhs_model.specs.declared.commands.Command.TheVariants.{Leave}
use Rattle.bhs_model.specs.declared.events.Event.TheVariants.{Tell}
use Rattle.bhs_model.specs.declared.replies.Reply.{Reply}
use Rattle.bhs_model.specs.Runs.{heard}
use Rattle.bhs_wire.specs.Lines.{said_by}
use Rattle.bhs_session.specs.Texts.{text_of, command_by}
use Rattle.bhs_rehearsal.specs.Games.{Game, world_in, state_of, played, reply_to, is_away}
use Rattle.bhs_rehearsal.specs.Connections.{Item, Says, Ends, TakenItems, is_last, leaves, answers, taken}
use Rattle.bhs_model.proofs.LegalLemmas.{either}

-- a fact about a Bool, by its two cases
pub by_bool : (b : Bool) (P : Bool → Type 0) → (b ≡ true → P true) → (b ≡ false → P false) → P b
by_bool true P yes_case no_case = yes_case refl
by_bool false P yes_case no_case = no_case refl

-- a fact, whether two numbers are the same or not
pub by_same : {P : Type 0} (one other : ℕ) → (one ≡ other → P) → (one ≢ other → P) → P
by_same {P} one other same apart =
    by_bool (one == other) (λ (is : Bool). P) (λ is. same (eqb-true one other is))
    (λ differs. apart (eqb-false one other differs))

-- what is chosen by equal tests is related if each of the choices is
pub cond_alike : {A B : Type 0} (R : A → B → Type 0) (one two : Bool) (x y : A) (z w : B) → one ≡ two
    → (one ≡ true → R x z) → (one ≡ false → R y w) → R (cond one x y) (cond two z w)
cond_alike R true true x y z w same yes_case no_case = yes_case refl
cond_alike R true false x y z w same yes_case no_case = absurd (cc)
cond_alike R false true x y z w same yes_case no_case = absurd (cc)
cond_alike R false false x y z w same yes_case no_case = no_case refl

-- prepends text to the output of the taken items
abbrev pub behind : (text : List ℕ) → TakenItems → TakenItems
behind text done = record done { text = text ++ done.text }

-- what more items come to after some that came to this
abbrev pub and_then : TakenItems → (agent : ℕ) → List Item → TakenItems
and_then done agent more = if done.is_done then done else behind done.text (taken done.game agent (done.left ++ more))

behind_then : (text : List ℕ) (game : Game) (is_done : Bool) (left : List Item) (own : List ℕ) (agent : ℕ)
    (more : List Item) →
    behind text (and_then (record { game = game; is_done = is_done; left = left; text = own }) agent more)
    ≡ and_then (record { game = game; is_done = is_done; left = left; text = text ++ own }) agent more
behind_then text game true left own agent more = refl
behind_then text game false left own agent more =
    ap (λ (all : List ℕ). record (taken game agent (left ++ more)) { text = all })
    (sym (append_assoc text own (taken game agent (left ++ more)).text))

answers_then : (reply : Option Reply) (game : Game) (others : TakenItems) (agent : ℕ) (more : List Item) →
    answers reply game (and_then others agent more) ≡ and_then (answers reply game others) agent more
answers_then None game others agent more = refl
answers_then (Some reply) game others agent more =
    cond_alike (λ (all done : TakenItems). all ≡ and_then done agent more) (is_last reply) (is_last reply) _ _ _ _ refl
    (λ last. refl)
    (λ goes_on. behind_then (text_of reply) others.game others.is_done others.left others.text agent more)

pub taken-append : (game : Game) (agent : ℕ) (items more : List Item) → taken game agent (items ++ more) ≡ and_then
    (taken game agent items) agent more
taken-append game agent [] more = refl
taken-append game agent (Says line ∷ items) more =
    let event = Tell agent (command_by (said_by line)) in
    let next = played game event in
    let waits = leaves game (Says line ∷ (items ++ more)) in
    let goes_on = answers (reply_to game event) next (taken next agent (items ++ more)) in
    cond_alike (λ (all done : TakenItems). all
    ≡ and_then done agent more) (is_away game agent) (is_away game agent) _ _ _ _
    refl
    (λ away. sym (cond-true (is_away game agent) waits goes_on away))
    (λ here.
    ap (answers (reply_to game event) next) (taken-append next agent items more)
    ∙ answers_then (reply_to game event) next (taken next agent items) agent more)
taken-append game agent (Ends ∷ items) more =
    cond_alike (λ (all done : TakenItems). all
    ≡ and_then done agent more) (is_away game agent) (is_away game agent) _ _ _ _
    refl
    (λ away. sym (cond-true _ _ _ away))
    (λ here. refl)

-- ---- a match without agents

none_below : (agent agents : ℕ) → agents ≡ 0 → nat_lt agent agents ≡ false
none_below agent agents none = grind (arith, nat_tests)

pub and_false : (one other : Bool) → one ≡ false → (one && other) ≡ false
and_false true other is = absurd (cc)
and_false false other is = refl

played_nobody : (game : Game) (agent : ℕ) (command : Command) → game.setup.agents ≡ 0
    → played game (Tell agent command) ≡ game
played_nobody game agent command none =
    cond-false (heard (world_in game) (state_of game) agent command) _ _
    (and_false (nat_lt agent game.setup.agents) _ (none_below agent game.setup.agents none))

answers_same : (reply : Option Reply) (game next : Game) (others : TakenItems) → next ≡ game → others.game ≡ game
    → (answers reply next others).game ≡ game
answers_same None game next others same later = later
answers_same (Some reply) game next others same later =
    either (λ (done : TakenItems). done.game ≡ game) (is_last reply) _ _ same later

-- nobody's commands change it
pub taken_nobody : (game : Game) (agent : ℕ) (items : List Item) → game.setup.agents ≡ 0
    → (taken game agent items).game ≡ game
taken_nobody game agent [] none = refl
taken_nobody game agent (Says line ∷ items) none =
    let event = Tell agent (command_by (said_by line)) in
    let same = played_nobody game agent (command_by (said_by line)) none in
    either (λ (done : TakenItems). done.game ≡ game) (is_away game agent) _ _ refl
    (answers_same (reply_to game event) game (played game event) _ same
    (ap (λ (next : Game). (taken next agent items).game) same ∙ taken_nobody game agent items none))
taken_nobody game agent (Ends ∷ items) none =
    either (λ (done : TakenItems). done.game ≡ game) (is_away game agent) _ _ refl (played_nobody game agent Leave none)
