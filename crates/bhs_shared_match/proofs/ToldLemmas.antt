-- What a command makes of a match and a pass, from what the calls of `tell` ensure.
use Rattle.std.proofs.Common.{◌≡◌, ℕ, Bool, true, false, refl, Option, Some, None, List, [], ◌∷◌, ◌++◌, length, sym, ap}
use Rattle.std.proofs.Common.{◌∙◌, subst, if◌then◌else◌}
use Rattle.bhs_net.specs.Network.{Network}
use Rattle.bhs_model.specs.declared.commands.Command.{Command}
use Rattle.bhs_model.specs.declared.events.Event.{Event}
use Rattle.bhs_model.specs.declared.events.Event.TheVariants.{Tell}
use Rattle.bhs_model.specs.declared.marks.Mark.{Mark}
use Rattle.bhs_model.specs.declared.marks.Mark.TheVariants as marks
use Rattle.bhs_model.specs.declared.marks.Kept.{Kept}
use Rattle.bhs_model.specs.declared.replies.Reply.{Reply}
use Rattle.bhs_model.specs.declared.setups.Setup.{Setup}
use Rattle.bhs_model.specs.Marks.{read, read_if}
use Rattle.bhs_model.specs.Runs.{reply}
use Rattle.bhs_world.specs.Tables.{keeps_next, log_after, is_of_board, is_of_board_if}
use Rattle.bhs_match.specs.Matches.{Play, world_in, state_of, shown_at}
use Rattle.bhs_shared_match.specs.declared.model.Receipt.{Receipt}
use Rattle.bhs_shared_match.specs.declared.model.Spare.{Spare}
use Rattle.bhs_shared_match.specs.Passes.{Passed, gained, kept_command}
use Rattle.bhs_shared_match.specs.LockedMatches.{spoken, IsSpareFor, IsTold}
use Rattle.bhs_shared_match.proofs.SeenLemmas.{spoken_told}

pub same_play : (new old : Play) (log : List Kept) → new.net ≡ old.net → new.setup ≡ old.setup → new.log ≡ log
    → new ≡ record old { log = log }
same_play new old log net setup is =
    ap (λ (net : Network). let p : Play = record { net = net; setup = new.setup; log = new.log } in p) net
    ∙ ap (λ (setup : Setup). let p : Play = record { net = old.net; setup = setup; log = new.log } in p) setup
    ∙ ap (λ (log : List Kept). let p : Play = record { net = old.net; setup = old.setup; log = log } in p) is

-- a reply that speaks of no whiteboard needs no text
spoken_silent : (log : List Kept) (mark : Mark) (text : List ℕ) → is_of_board (read log mark) ≡ false
    → spoken mark text ≡ read log mark
spoken_silent log (marks.Here ports came board) text silent = cc
spoken_silent log marks.Written text silent = refl
spoken_silent log (marks.Changed board) text silent = cc
spoken_silent log marks.Gone text silent = refl
spoken_silent log marks.Noted text silent = refl
spoken_silent log marks.Bye text silent = refl
spoken_silent log marks.Over text silent = refl
spoken_silent log (marks.No why) text silent = refl

-- The mark, together with its text if any, stands for this reply.
pub spoken_is : (play play' : Play) (agent : ℕ) (command : Command) (given : Option Mark) (mark : Mark)
    (text : List ℕ) →
    read_if play'.log given ≡ reply (world_in play) (state_of play) (Tell agent command) → given ≡ Some mark →
    (is_of_board_if (reply (world_in play) (state_of play) (Tell agent command)) ≡ true
    → text ≡ shown_at (world_in play) (state_of play) ((state_of play).position agent)) →
    spoken mark text ≡ read play'.log mark
spoken_is play play' agent command given mark text replied is seen = by_board (is_of_board (read play'.log mark)) refl
  where
    whole : Some (read play'.log mark) ≡ reply (world_in play) (state_of play) (Tell agent command)
    whole = sym (ap (read_if play'.log) is) ∙ replied

    by_board : (b : Bool) → is_of_board (read play'.log mark) ≡ b → spoken mark text ≡ read play'.log mark
    by_board true speaks = ap (spoken mark) (seen (ap is_of_board_if (sym whole) ∙ speaks))
        ∙ spoken_told play play'.log agent command mark whole
    by_board false silent = spoken_silent play'.log mark text silent

pub told_is : (play play' : Play) (given pass pass' : Passed) (command : Command) (place : Option ℕ)
    (answered : Option Mark) (mark : Mark) (spare : Spare) (said : Reply) →
    given ≡ pass →
    read_if play'.log answered ≡ reply (world_in play) (state_of play) (Tell given.agent command) →
    play'.log ≡ log_after (world_in play) play.log (Tell given.agent command) answered →
    place ≡ (if keeps_next (world_in play) play.log (Tell given.agent command) then Some (length play.log) else None) →
    (play'.net ≡ play.net) × (play'.setup ≡ play.setup) →
    answered ≡ Some mark → IsSpareFor play given.agent command spare → said ≡ spoken mark spare.text →
    pass' ≡ gained given command place said → IsTold play pass command place mark said play' pass'
told_is play play' given pass pass' command place answered mark spare said is_pass replied log at same is
    ready spoke gain =
    let event : Event = Tell given.agent command in
    let whole : said ≡ read play'.log mark = spoke ∙ spoken_is play play' given.agent command answered mark spare.text
    replied is (λ speaks. (ready.texts speaks).0) in
    let P : Passed → Type 0 = λ pass. IsTold play pass command place mark said play' pass' in
    subst P is_pass (record {
      replied = ap (λ (r : Reply). Some r) whole ∙ sym (ap (read_if play'.log) is) ∙ replied;
      reads = sym whole;
      at = at;
      grown = same_play play' play _ same.0 same.1 (log ∙ ap (log_after (world_in play) play.log event) is);
      kept = gain;
    })

-- a pass with unchanged lists
pub same_lists : (pass : Passed) (receipts : List Receipt) (commands : List Command) → receipts ≡ pass.receipts
    → commands ≡ pass.commands → record pass { receipts = receipts; commands = commands } ≡ pass
same_lists pass receipts commands r k =
    ap (λ (receipts : List Receipt). let p : Passed = record pass { receipts = receipts; commands = commands } in p) r
    ∙ ap (λ (commands : List Command). let p : Passed = record pass { commands = commands } in p) k

-- a pass with a receipt and a command more
pub gain_is : (play play' : Play) (pass : Passed) (room receipts : List Receipt) (space commands : List Command)
    (command : Command) (place : ℕ) (answered : Option Mark) (mark : Mark) (spare : Spare) (said again : Reply) →
    room ≡ pass.receipts → space ≡ pass.commands →
    read_if play'.log answered ≡ reply (world_in play) (state_of play) (Tell pass.agent command) → answered ≡ Some mark
    → IsSpareFor play pass.agent command spare →
    said ≡ spoken mark spare.text → again ≡ spoken mark spare.again →
    receipts ≡ room ++ record { place = place; reply = again } ∷ [] → commands ≡ space ++ spare.kept ∷ [] →
    record pass { receipts = receipts; commands = commands } ≡ gained pass command (Some place) said
gain_is play play' pass room receipts space commands command place answered mark spare said again r s replied is ready
    one two more longer =
    let whole : said ≡ read play'.log mark = one ∙ spoken_is play play' pass.agent command answered mark spare.text
    replied is (λ speaks. (ready.texts speaks).0) in
    let same : again ≡ said = two ∙ spoken_is play play' pass.agent command answered mark spare.again replied is
    (λ speaks. (ready.texts speaks).1) ∙ sym whole in
    let kept : spare.kept ≡ kept_command command said =
    ready.kept said (ap (λ (r : Reply). Some r) whole ∙ sym (ap (read_if play'.log) is) ∙ replied) in
    same_lists (gained pass command (Some place) said) receipts commands
    (more ∙ ap (λ (room : List Receipt). room ++ record { place = place; reply = again } ∷ []) r
    ∙ ap (λ (reply : Reply). pass.receipts ++ record { place = place; reply = reply } ∷ []) same)
    (longer ∙ ap (λ (space : List Command). space ++ spare.kept ∷ []) s
    ∙ ap (λ (kept : Command). pass.commands ++ kept ∷ []) kept)
