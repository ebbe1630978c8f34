-- The lines that a client writes spell its commands, and the lines that it reads spell replies.
use Rattle.std.proofs.Common.{ℕ, ◌≡◌, ◌∙◌, Bool, true, ◌||◌, Some, None, List, [], ◌∷◌, ◌++◌}
use Rattle.std.proofs.Common.{map, refl, sym, ap, ap₂, subst, arith, append_assoc}
use Rattle.std.specs.List.{list_any}
use Rattle.std.specs.Prelude.{Option, option_to_list}
use Rattle.std.proofs.lemmas.List.{map-append}
use Rattle.std.proofs.lemmas.Simd.{map-map}
use Rattle.std.proofs.lemmas.Bool.{true≢false, or_parts}
use Rattle.bhs_model.specs.declared.commands.Command.{Command}
use Rattle.bhs_model.specs.declared.commands.Command.TheVariants.{Enter, Look, Write, Depart, Accuse, Leave, Bad}
use Rattle.bhs_model.specs.declared.replies.Reply.{Reply}
use Rattle.bhs_model.specs.declared.replies.Reply.TheVariants as replies
use Rattle.bhs_wire.specs.declared.commands.First.{First}
use Rattle.bhs_wire.specs.Lines.{is_line_feed, given, lines, said_by}
use Rattle.bhs_wire.specs.Reply.{line as line_of}
use Rattle.bhs_wire.specs.ReplyNumbers.{NumbersFit}
use Rattle.bhs_wire.proofs.ReplyLines.{compact_text-data_of}
use Rattle.bhs_wire.proofs.ReplyData.{data_of}
use Rattle.bhs_wire.proofs.StreamLaws.{lines-ended, says_given}
use Rattle.bhs_replay.proofs.Flat.{IsFlat, IsPlain, text_flat}
use Rattle.bhs_session.specs.Texts.{command_by, command_of, text_of}
use Rattle.bhs_client.specs.CommandLines.{meant}
use Rattle.bhs_client.specs.ReplyLines.{reply_on}
use Rattle.bhs_client.specs.Talks.{IsLineOf}
use Rattle.bhs_client.proofs.ReplyLemmas.{reply_on-line}

-- ---- what a client says

command_meant : (key : List ℕ) (command : Command) → command_by (meant key command) ≡ command
command_meant key Enter = refl
command_meant key Look = refl
command_meant key (Write expect put) = refl
command_meant key (Depart port) = refl
command_meant key (Accuse port) = refl
command_meant key Leave = refl
command_meant key Bad = refl

-- a line that a server takes for a command gives that command, and then come the others
pub commands_said : (key line more : List ℕ) (command : Command) → IsLineOf key command line
    → map command_of (lines ((line ++ 10 ∷ []) ++ more)) ≡ command ∷ map command_of (lines more)
commands_said key line more command is =
    ap (λ (bytes : List ℕ). map command_of (lines bytes)) (append_assoc line (10 ∷ []) more)
    ∙ ap (map command_of) (lines-ended line more is.flat)
    ∙ map-append command_of (given line) (lines more)
    ∙ ap (λ (said : List Command). said ++ map command_of (lines more))
    (sym (map-map command_by said_by (given line)) ∙ ap (map command_by) (says_given line)
    ∙ ap (λ (first : Option First). map command_by (option_to_list first)) is.means)
    ∙ ap (λ (said : Command). said ∷ map command_of (lines more)) (command_meant key command)

-- ---- what it reads

plain_reply : (reply : Reply) → NumbersFit reply → IsPlain (data_of reply)
plain_reply (replies.Here ports None board) fits = (tt, (tt, (tt, (omega (arith, fits.0), tt))))
plain_reply (replies.Here ports (Some port) board) fits =
    (tt, (omega (arith, fits.1), (tt, (omega (arith, fits.0), tt))))
plain_reply replies.Written fits = (tt, tt)
plain_reply (replies.Changed board) fits = (tt, (tt, tt))
plain_reply replies.Gone fits = (tt, tt)
plain_reply replies.Noted fits = (tt, tt)
plain_reply replies.Bye fits = (tt, tt)
plain_reply replies.Over fits = (tt, tt)
plain_reply (replies.No why) fits = (tt, tt)

pub reply_flat : (reply : Reply) → NumbersFit reply → IsFlat (line_of reply)
reply_flat reply fits =
    subst IsFlat (compact_text-data_of reply) (text_flat (data_of reply) (plain_reply reply fits))

-- the first line feed is at one place
pub record AreSplit (one two rest other : List ℕ) : Type 0 where
  pub first : one ≡ two
  pub others : rest ≡ other

on_feed : (byte : ℕ) (others : Bool) → 10 ≡ byte → (is_line_feed byte || others) ≡ true
on_feed byte others is = ap (λ (b : ℕ). is_line_feed b || others) (sym is)

split : (one two rest other : List ℕ) → IsFlat one → IsFlat two → one ++ 10 ∷ rest ≡ two ++ 10 ∷ other
    → AreSplit one two rest other
split [] [] rest other flat level same = record { first = refl; others = cc }
split [] (byte ∷ two) rest other flat level same =
    let is : 10 ≡ byte = cc in
    absurd (true≢false (sym (on_feed byte (list_any is_line_feed two) is) ∙ level))
split (byte ∷ one) [] rest other flat level same =
    let is : 10 ≡ byte = cc in
    absurd (true≢false (sym (on_feed byte (list_any is_line_feed one) is) ∙ flat))
split (byte ∷ one) (also ∷ two) rest other flat level same =
    let is : byte ≡ also = cc in
    let behind : one ++ 10 ∷ rest ≡ two ++ 10 ∷ other = cc in
    let parts = split one two rest other (or_parts (is_line_feed byte) _ flat).1
    (or_parts (is_line_feed also) _ level).1 behind in
    record { first = ap₂ (λ (b : ℕ) (bytes : List ℕ). b ∷ bytes) is parts.first; others = parts.others }

-- the first line of a text is the line of its first reply
pub record IsReadAs (reply sent : Reply) (rest other : List ℕ) : Type 0 where
  pub same : reply ≡ sent
  pub others : rest ≡ other

pub reply_read : (line rest other : List ℕ) (reply sent : Reply) → NumbersFit sent → IsFlat line
    → reply_on line ≡ Some reply → line ++ 10 ∷ rest ≡ text_of sent ++ other → IsReadAs reply sent rest other
reply_read line rest other reply sent fits flat reads same =
    let parts = split line (line_of sent) rest other flat (reply_flat sent fits)
    (same ∙ append_assoc (line_of sent) (10 ∷ []) other) in
    let both : Some reply ≡ Some sent = sym reads ∙ ap reply_on parts.first ∙ reply_on-line sent fits in
    record { same = cc; others = parts.others }

-- a text is not nothing
pub some_text : (sent : Reply) (other : List ℕ) → [] ≡ text_of sent ++ other → ⊥
some_text sent other none = at (line_of sent) (none ∙ append_assoc (line_of sent) (10 ∷ []) other)
  where
    at : (line : List ℕ) → [] ≡ line ++ 10 ∷ other → ⊥
    at [] e = cc
    at (byte ∷ line) e = cc
