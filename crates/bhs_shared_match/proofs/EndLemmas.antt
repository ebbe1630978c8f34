-- The second number: an agent has ended in the log where the definitions say that it stands ended.
use Rattle.std.proofs.Common.{arith, ◌≡◌, ℕ, Bool, true, false, ◌||◌, List, length, refl, nat_lt, if◌then◌else◌}
use Rattle.std.specs.Prelude.{nat_le, bytes_eq}
use Rattle.std.proofs.lemmas.Bool.{cond_both}
use Rattle.bhs_model.specs.declared.commands.Command.{Command}
use Rattle.bhs_model.specs.declared.commands.Command.TheVariants.{Enter, Look, Write, Depart, Accuse}
use Rattle.bhs_model.specs.declared.replies.Reply.TheVariants.{Written, Changed, Gone, Noted, No}
use Rattle.bhs_model.specs.declared.replies.Why.TheVariants.{Long, Port}
use Rattle.bhs_model.specs.Views.{Standing, Outside, Present, Away, Ended, standing_after, Glance, Saw, Seen}
use Rattle.bhs_model.specs.Replying.{text, accepts, answer, sight_answer}
use Rattle.bhs_shared_match.specs.Tallies.{has_ended}
use Rattle.bhs_shared_match.specs.Passes.{is_end}

quiet : (limit : ℕ) (command : Command) (glance : Glance) → is_end (sight_answer limit command glance) ≡ false
quiet limit (Write expect put) (Saw (Seen ports came last_write)) =
    let shown : List ℕ = text limit last_write in
    cond_both (nat_le (length put) limit) (if bytes_eq shown expect then Written else Changed shown) (No Long)
    (λ reply. is_end reply ≡ false)
    (λ fits. cond_both (bytes_eq shown expect) Written (Changed shown) (λ reply. is_end reply ≡ false) (λ e. refl)
    (λ e. refl)) (λ long. refl)
quiet limit command glance = grind arith

by_port : (b : Bool) → is_end (if b then Noted else No Port) ≡ has_ended (if b then Ended else Present)
by_port true = refl
by_port false = refl

by_gone : (b : Bool) → is_end (if b then Gone else No Port) ≡ has_ended (if b then Away else Present)
by_gone true = refl
by_gone false = refl

-- a command that may be said ends its agent exactly if it is answered Noted or Bye
pub ends_standing : (limit : ℕ) (now : Standing) (room : Bool) (ports : ℕ) (command : Command) (glance : Glance)
    → accepts now room command ≡ true →
    (has_ended now || is_end (answer limit now ports command glance)) ≡ has_ended (standing_after now ports command)
ends_standing limit Outside room ports Enter glance free = quiet limit Enter glance
ends_standing limit Present room ports Look glance free = quiet limit Look glance
ends_standing limit Present room ports (Write expect put) glance free = quiet limit (Write expect put) glance
ends_standing limit Present room ports (Depart port) glance free = by_gone (nat_lt port ports)
ends_standing limit Present room ports (Accuse port) glance free = by_port (nat_lt port ports)
ends_standing limit now room ports command glance free = grind arith
