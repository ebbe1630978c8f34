-- The line of a reply is read as that reply.
use Rattle.std.proofs.Common.{◌≡◌, ◌∙◌, ◌≤◌, Some, None, option_and_then, refl, sym, ap, arith}
use Rattle.json.specs.Tree.{HasNumbers, depth}
use Rattle.serde_json.specs.Read.{of_json, read, max_depth}
use Rattle.serde_json.specs.Written.{outline}
use Rattle.bhs_model.specs.declared.replies.Reply.{Reply}
use Rattle.bhs_model.specs.declared.replies.Reply.TheVariants.{Here, Written, Changed, Gone, Noted, Bye, Over, No}
use Rattle.bhs_wire.specs.Reply.{line}
use Rattle.bhs_wire.specs.ReplyNumbers.{NumbersFit}
use Rattle.bhs_wire.proofs.ReplyData.{data_of}
use Rattle.bhs_wire.proofs.ReplyLines.{compact_text-data_of}
use Rattle.bhs_replay.specs.Spelling.{reply_in}
use Rattle.bhs_replay.proofs.EventReads.{is_number, reads, read-compact_text}
use Rattle.bhs_replay.proofs.Spellings.{reply_in-data}
use Rattle.bhs_client.specs.ReplyLines.{reply_on}

numbers : (reply : Reply) → NumbersFit reply → HasNumbers (outline (data_of reply))
numbers (Here ports None board) fits = (tt, (tt, (tt, (is_number ports fits.0, tt))))
numbers (Here ports (Some port) board) fits = (tt, (is_number port fits.1, (tt, (is_number ports fits.0, tt))))
numbers Written fits = (tt, tt)
numbers (Changed board) fits = (tt, (tt, tt))
numbers Gone fits = (tt, tt)
numbers Noted fits = (tt, tt)
numbers Bye fits = (tt, tt)
numbers Over fits = (tt, tt)
numbers (No why) fits = (tt, tt)

shallow : (reply : Reply) → depth (outline (data_of reply)) ≤ max_depth
shallow (Here ports None board) = omega arith
shallow (Here ports (Some port) board) = omega arith
shallow Written = omega arith
shallow (Changed board) = omega arith
shallow Gone = omega arith
shallow Noted = omega arith
shallow Bye = omega arith
shallow Over = omega arith
shallow (No why) = omega arith

same : (reply : Reply) → NumbersFit reply → of_json (outline (data_of reply)) ≡ Some (data_of reply)
same (Here ports None board) fits = rw (reads ports fits.0)
same (Here ports (Some port) board) fits = rw (reads ports fits.0, reads port fits.1)
same Written fits = refl
same (Changed board) fits = refl
same Gone fits = refl
same Noted fits = refl
same Bye fits = refl
same Over fits = refl
same (No why) fits = refl

pub reply_on-line : (reply : Reply) → NumbersFit reply → reply_on (line reply) ≡ Some reply
reply_on-line reply fits =
    ap (λ text. option_and_then reply_in (read text)) (sym (compact_text-data_of reply))
    ∙ (ap (option_and_then reply_in) (read-compact_text (data_of reply) (numbers reply fits) (shallow reply)
    (same reply fits)) ∙ reply_in-data reply fits)
