-- What an agent has met in a match is answered in numbers of 16 bits, and a pass keeps the texts of what it wrote.
use Rattle.std.proofs.Common.{ℕ, zero, suc, ◌⊎◌, ◌<◌, ◌≤◌, ◌^◌, ◌≡◌, ◌∙◌, true, List, [], ◌∷◌}
use Rattle.std.proofs.Common.{nat_lt, refl, sym, ap, subst, arith, inl, inr, length}
use Rattle.std.specs.List.{AllByRecursion}
use Rattle.std.specs.Prelude.{bytes_eq, nat_le, slice_index_or}
use Rattle.std.proofs.lemmas.Bool.{false≢true, cond_both, le-leb}
use Rattle.std.proofs.lemmas.Bool.Decides.{eqb_tells}
use Rattle.bhs_net.specs.Network as networks
use Rattle.bhs_net.specs.Network.{IsPortLabelled}
use Rattle.bhs_net.proofs.Degrees.{degree_of-le}
use Rattle.bhs_model.specs.declared.commands.Command.{Command}
use Rattle.bhs_model.specs.declared.commands.Command.TheVariants.{Enter, Look, Write, Depart, Accuse, Leave, Bad}
use Rattle.bhs_model.specs.declared.events.Event.{Event}
use Rattle.bhs_model.specs.declared.events.Event.TheVariants.{Tell, Deliver, Close}
use Rattle.bhs_model.specs.declared.replies.Reply.{Reply}
use Rattle.bhs_model.specs.Views.{View, Start, Told, Arrived, Glance, Nothing, Saw, Sight, Seen, Standing}
use Rattle.bhs_model.specs.Views.{Outside, Present, Away, Ended, standing, ports, used}
use Rattle.bhs_model.specs.Standings.{standing_at}
use Rattle.bhs_model.specs.Replying.{answer, write_answer, text, hears, accepts}
use Rattle.bhs_model.specs.Worlds.{World}
use Rattle.bhs_model.specs.Runs.{State, Position, Before, At, Bound, After, initial, glance}
use Rattle.bhs_model.specs.Runs.{position_after, heard, arrives, told, delivered, next, run_from}
use Rattle.bhs_model.proofs.LegalLemmas.{AllLegal, all_next, either}
use Rattle.bhs_match.specs.Matches.{Play, world_in}
use Rattle.bhs_wire.specs.ReplyNumbers.{LabelFits, NumbersFit}
use Rattle.bhs_world.specs.Tables.{is_of_board}
use Rattle.bhs_theorems_isolation.specs.Met.{Meeting, Hears, Refuses, Arrives, past_after, view_from}
use Rattle.bhs_theorems_isolation.specs.Met.{answer_to, takes_commands, IsDue}
use Rattle.bhs_theorems_contests.specs.Contests.{IsShort}

-- ---- what is plain

abbrev pub IsWhole : Command → Reply → Type 0
IsWhole (Write expect put) reply = is_of_board reply ≡ true
IsWhole command reply = Unit {0}

abbrev pub IsKeptWhole : (quota limit : ℕ) → View → Meeting → Type 0
IsKeptWhole quota limit view (Hears command seen) =
    IsDue quota view (Hears command seen) → IsWhole command (answer_to limit view (Hears command seen))
IsKeptWhole quota limit view (Refuses command) = Unit {0}
IsKeptWhole quota limit view (Arrives sight) = Unit {0}

-- the reply has numbers of 16 bits, and its command is kept with its texts
abbrev pub IsPlain : (quota limit : ℕ) → View → Meeting → Type 0
IsPlain quota limit view meeting =
    NumbersFit (answer_to limit view meeting) × IsKeptWhole quota limit view meeting

abbrev pub ArePlain : (quota limit : ℕ) → View → List Meeting → Type 0
ArePlain quota limit view [] = Unit {0}
ArePlain quota limit view (meeting ∷ met) =
    IsPlain quota limit view meeting × ArePlain quota limit (past_after view meeting) met

abbrev pub IsPlainPast : (quota limit : ℕ) → View → Type 0
IsPlainPast quota limit Start = Unit {0}
IsPlainPast quota limit (Told view command seen) =
    IsPlain quota limit view (Hears command seen) × IsPlainPast quota limit view
IsPlainPast quota limit (Arrived view sight) =
    IsPlain quota limit view (Arrives sight) × IsPlainPast quota limit view

pub plain_met : (quota limit : ℕ) (met : List Meeting) (view : View) → IsPlainPast quota limit (view_from view met)
    → ArePlain quota limit view met × IsPlainPast quota limit view
plain_met quota limit [] view plain = (tt, plain)
plain_met quota limit (Hears command seen ∷ met) view plain =
    let rest = plain_met quota limit met (Told view command seen) plain in ((rest.1.0, rest.0), rest.1.1)
plain_met quota limit (Refuses command ∷ met) view plain =
    let rest = plain_met quota limit met view plain in (((tt, tt), rest.0), rest.1)
plain_met quota limit (Arrives sight ∷ met) view plain =
    let rest = plain_met quota limit met (Arrived view sight) plain in ((rest.1.0, rest.0), rest.1.1)

-- ---- numbers

abbrev SightFits : Sight → Type 0
SightFits (Seen count came last) = (count < 2 ^ 16) × LabelFits came

abbrev GlanceFits : Glance → Type 0
GlanceFits Nothing = Unit {0}
GlanceFits (Saw sight) = SightFits sight

abbrev FitsAt : Position → Type 0
FitsAt (At node came) = LabelFits came
FitsAt position = Unit {0}

record IsSmall (world : World) : Type 0 where
  ports : (node : ℕ) → world.net.degree node < 2 ^ 16
  labels : (node port : ℕ) → (world.net.far node port).1 < 2 ^ 16

write_fits : (limit : ℕ) (shown expect put : List ℕ) → NumbersFit (write_answer limit shown expect put)
write_fits limit shown expect put =
    either NumbersFit (nat_le (length put) limit) _ _ (either NumbersFit (bytes_eq shown expect) _ _ tt tt) tt

answer_fits : (limit : ℕ) (stands : Standing) (count : ℕ) (command : Command) (seen : Glance) → GlanceFits seen
    → NumbersFit (answer limit stands count command seen)
answer_fits limit Outside count Enter Nothing fits = tt
answer_fits limit Outside count Enter (Saw (Seen many came last)) fits = fits
answer_fits limit Outside count Look Nothing fits = tt
answer_fits limit Outside count Look (Saw (Seen many came last)) fits = fits
answer_fits limit Outside count (Write expect put) Nothing fits = tt
answer_fits limit Outside count (Write expect put) (Saw (Seen many came last)) fits =
    write_fits limit (text limit last) expect put
answer_fits limit Outside count (Depart port) seen fits = either NumbersFit (nat_lt port count) _ _ tt tt
answer_fits limit Outside count (Accuse port) seen fits = either NumbersFit (nat_lt port count) _ _ tt tt
answer_fits limit Outside count Leave seen fits = tt
answer_fits limit Outside count Bad seen fits = tt
answer_fits limit Present count Enter Nothing fits = tt
answer_fits limit Present count Enter (Saw (Seen many came last)) fits = fits
answer_fits limit Present count Look Nothing fits = tt
answer_fits limit Present count Look (Saw (Seen many came last)) fits = fits
answer_fits limit Present count (Write expect put) Nothing fits = tt
answer_fits limit Present count (Write expect put) (Saw (Seen many came last)) fits =
    write_fits limit (text limit last) expect put
answer_fits limit Present count (Depart port) seen fits = either NumbersFit (nat_lt port count) _ _ tt tt
answer_fits limit Present count (Accuse port) seen fits = either NumbersFit (nat_lt port count) _ _ tt tt
answer_fits limit Present count Leave seen fits = tt
answer_fits limit Present count Bad seen fits = tt
answer_fits limit Away count Enter seen fits = tt
answer_fits limit Away count Look seen fits = tt
answer_fits limit Away count (Write expect put) seen fits = tt
answer_fits limit Away count (Depart port) seen fits = tt
answer_fits limit Away count (Accuse port) seen fits = tt
answer_fits limit Away count Leave seen fits = tt
answer_fits limit Away count Bad seen fits = tt
answer_fits limit Ended count Enter Nothing fits = tt
answer_fits limit Ended count Enter (Saw (Seen many came last)) fits = fits
answer_fits limit Ended count Look Nothing fits = tt
answer_fits limit Ended count Look (Saw (Seen many came last)) fits = fits
answer_fits limit Ended count (Write expect put) Nothing fits = tt
answer_fits limit Ended count (Write expect put) (Saw (Seen many came last)) fits =
    write_fits limit (text limit last) expect put
answer_fits limit Ended count (Depart port) seen fits = either NumbersFit (nat_lt port count) _ _ tt tt
answer_fits limit Ended count (Accuse port) seen fits = either NumbersFit (nat_lt port count) _ _ tt tt
answer_fits limit Ended count Leave seen fits = tt
answer_fits limit Ended count Bad seen fits = tt

glance_fits : (world : World) (state : State) (position : Position) (command : Command) → IsSmall world
    → FitsAt position → GlanceFits (glance world state position command)
glance_fits world state Before Enter small fits = (small.ports world.home, tt)
glance_fits world state Before Look small fits = tt
glance_fits world state Before (Write expect put) small fits = tt
glance_fits world state Before (Depart port) small fits = tt
glance_fits world state Before (Accuse port) small fits = tt
glance_fits world state Before Leave small fits = tt
glance_fits world state Before Bad small fits = tt
glance_fits world state (At node came) Enter small fits = (small.ports world.home, tt)
glance_fits world state (At node came) Look small fits = (small.ports node, fits)
glance_fits world state (At node came) (Write expect put) small fits = (small.ports node, fits)
glance_fits world state (At node came) (Depart port) small fits = tt
glance_fits world state (At node came) (Accuse port) small fits = tt
glance_fits world state (At node came) Leave small fits = tt
glance_fits world state (At node came) Bad small fits = tt
glance_fits world state (Bound node back) Enter small fits = (small.ports world.home, tt)
glance_fits world state (Bound node back) Look small fits = tt
glance_fits world state (Bound node back) (Write expect put) small fits = tt
glance_fits world state (Bound node back) (Depart port) small fits = tt
glance_fits world state (Bound node back) (Accuse port) small fits = tt
glance_fits world state (Bound node back) Leave small fits = tt
glance_fits world state (Bound node back) Bad small fits = tt
glance_fits world state After Enter small fits = (small.ports world.home, tt)
glance_fits world state After Look small fits = tt
glance_fits world state After (Write expect put) small fits = tt
glance_fits world state After (Depart port) small fits = tt
glance_fits world state After (Accuse port) small fits = tt
glance_fits world state After Leave small fits = tt
glance_fits world state After Bad small fits = tt

position_fits : (world : World) (position : Position) (command : Command) → FitsAt position
    → FitsAt (position_after world position command)
position_fits world Before Enter fits = tt
position_fits world Before Look fits = fits
position_fits world Before (Write expect put) fits = fits
position_fits world Before (Depart port) fits = fits
position_fits world Before (Accuse port) fits = fits
position_fits world Before Leave fits = tt
position_fits world Before Bad fits = fits
position_fits world (At node came) Enter fits = tt
position_fits world (At node came) Look fits = fits
position_fits world (At node came) (Write expect put) fits = fits
position_fits world (At node came) (Depart port) fits =
    either FitsAt (nat_lt port (world.net.degree node)) (Bound node port) (At node came) tt fits
position_fits world (At node came) (Accuse port) fits =
    either FitsAt (nat_lt port (world.net.degree node)) After (At node came) tt fits
position_fits world (At node came) Leave fits = tt
position_fits world (At node came) Bad fits = fits
position_fits world (Bound node back) Enter fits = tt
position_fits world (Bound node back) Look fits = fits
position_fits world (Bound node back) (Write expect put) fits = fits
position_fits world (Bound node back) (Depart port) fits = fits
position_fits world (Bound node back) (Accuse port) fits = fits
position_fits world (Bound node back) Leave fits = tt
position_fits world (Bound node back) Bad fits = fits
position_fits world After Enter fits = tt
position_fits world After Look fits = fits
position_fits world After (Write expect put) fits = fits
position_fits world After (Depart port) fits = fits
position_fits world After (Accuse port) fits = fits
position_fits world After Leave fits = tt
position_fits world After Bad fits = fits

-- ---- texts that are kept

short_whole : (limit : ℕ) (shown expect put : List ℕ) → length put ≤ limit
    → is_of_board (write_answer limit shown expect put) ≡ true
short_whole limit shown expect put short =
    cond_both (nat_le (length put) limit) _ _ (λ (reply : Reply). is_of_board reply ≡ true)
    (λ fits. either (λ (reply : Reply). is_of_board reply ≡ true) (bytes_eq shown expect) _ _ refl refl)
    (λ long. absurd (false≢true (sym long ∙ le-leb (length put) limit short)))

-- a Write that is heard at a node is kept whole
whole_write : (world : World) (state : State) (quota : ℕ) (view : View) (position : Position) (expect put : List ℕ)
    → length put ≤ world.board → standing view ≡ standing_at position
    → (takes_commands (standing view) ≡ true) × (hears quota view (Write expect put) ≡ true)
    → is_of_board (answer world.board (standing view) (ports view) (Write expect put)
    (glance world state position (Write expect put))) ≡ true
whole_write world state quota view Before expect put short stands due =
    absurd (false≢true (sym (ap (λ (s : Standing). accepts s (nat_lt (used view) quota) (Write expect put)) stands)
    ∙ due.1))
whole_write world state quota view (At node came) expect put short stands due =
    subst (λ (s : Standing). is_of_board (answer world.board s (ports view) (Write expect put)
    (glance world state (At node came) (Write expect put))) ≡ true) (sym stands)
    (short_whole world.board (text world.board (state.last_write node)) expect put short)
whole_write world state quota view (Bound node back) expect put short stands due =
    absurd (false≢true (sym (ap takes_commands stands) ∙ due.0))
whole_write world state quota view After expect put short stands due =
    absurd (false≢true (sym (ap takes_commands stands) ∙ due.0))

-- ---- an event

abbrev IsFitAgent : World → View → Position → Type 0
IsFitAgent world view position = IsPlainPast world.quota world.board view × FitsAt position

abbrev AllPlain : World → State → Type 0
AllPlain world state = (agent : ℕ) → IsFitAgent world (state.past agent) (state.position agent)

whole_told : (world : World) (state : State) (agent : ℕ) (view : View) (position : Position) (command : Command)
    → IsShort world.board (Tell agent command) → standing view ≡ standing_at position
    → IsKeptWhole world.quota world.board view (Hears command (glance world state position command))
whole_told world state agent view position Enter short stands due = tt
whole_told world state agent view position Look short stands due = tt
whole_told world state agent view position (Write expect put) short stands due =
    whole_write world state world.quota view position expect put short stands due
whole_told world state agent view position (Depart port) short stands due = tt
whole_told world state agent view position (Accuse port) short stands due = tt
whole_told world state agent view position Leave short stands due = tt
whole_told world state agent view position Bad short stands due = tt

plain_told : (world : World) (state : State) (agent : ℕ) (command : Command) → IsSmall world
    → IsShort world.board (Tell agent command) → AllLegal world state → AllPlain world state
    → AllPlain world (told world state agent command)
plain_told world state agent command small short legal plain other = elim (eqb_tells other agent) [
  | inl h ↦ rw h.0 (let own = plain agent in (
    (
      (
        answer_fits world.board (standing (state.past agent)) (ports (state.past agent)) command
            (glance world state (state.position agent) command)
            (glance_fits world state (state.position agent) command small own.1),
        whole_told world state agent (state.past agent) (state.position agent) command short (legal agent).standing,
      ),
      own.0,
    ),
    position_fits world (state.position agent) command own.1,
  ))
  | inr h ↦ rw h.0 (plain other)
]

plain_delivered : (world : World) (state : State) (agent : ℕ) (position : Position) → IsSmall world
    → AllPlain world state → AllPlain world (delivered world state agent position)
plain_delivered world state agent Before small plain other = plain other
plain_delivered world state agent (At node came) small plain other = plain other
plain_delivered world state agent (Bound node port) small plain other = elim (eqb_tells other agent) [
  | inl h ↦ rw h.0 (
    (((small.ports (world.net.far node port).0, small.labels node port), tt), (plain agent).0),
    small.labels node port,
  )
  | inr h ↦ rw h.0 (plain other)
]
plain_delivered world state agent After small plain other = plain other

plain_next : (world : World) (state : State) (event : Event) → IsSmall world → IsShort world.board event
    → AllLegal world state → AllPlain world state → AllPlain world (next world state event)
plain_next world state (Tell agent command) small short legal plain = either (AllPlain world)
    (heard world state agent command) (told world state agent command) state
    (plain_told world state agent command small short legal plain) plain
plain_next world state (Deliver agent) small short legal plain = either (AllPlain world)
    (arrives world state agent) (delivered world state agent (state.position agent)) state
    (plain_delivered world state agent (state.position agent) small plain) plain
plain_next world state Close small short legal plain = plain

plain_run : (world : World) (state : State) (events : List Event) → IsSmall world
    → AllByRecursion (IsShort world.board) events → AllLegal world state → AllPlain world state
    → AllPlain world (run_from world state events)
plain_run world state [] small short legal plain = plain
plain_run world state (event ∷ events) small short legal plain =
    plain_run world (next world state event) events small short.1 (all_next world state event legal)
    (plain_next world state event small short.0 legal plain)

-- ---- a network with port labels has small numbers

row_end : (row : List (ℕ × ℕ)) (port : ℕ) → (port < length row) ⊎ (slice_index_or row port (0, 0) ≡ (0, 0))
row_end [] port = inr refl
row_end (end ∷ row) zero = inl (omega arith)
row_end (end ∷ row) (suc port) = elim (row_end row port) [
  | inl within ↦ inl (omega (arith, within))
  | inr none ↦ inr none
]

small_net : (play : Play) → IsPortLabelled play.net → IsSmall (world_in play)
small_net play labelled = record {
  ports = λ node. let most = degree_of-le play.net node labelled in let many : networks.nodes_of play.net ≤ 4096 =
      labelled.many in omega (arith, most, many);
  labels = λ node port. elim (row_end (networks.row_of play.net node) port) [
    | inl within ↦ let back : (networks.far_of play.net node port).1
        < networks.degree_of play.net (networks.far_of play.net node port).0 = labelled.within node port within in
        let most = degree_of-le play.net (networks.far_of play.net node port).0 labelled in
        let many : networks.nodes_of play.net ≤ 4096 = labelled.many in
        omega (arith, back, most, many)
    | inr none ↦ subst (λ (end : ℕ × ℕ). end.1 < 2 ^ 16) (sym none) (omega arith)
  ];
}

-- whatever an agent has met in a match whose Writes are short is plain
pub plain_past : (play : Play) (events : List Event) → IsPortLabelled play.net
    → AllByRecursion (IsShort play.setup.board) events → (agent : ℕ)
    → IsPlainPast play.setup.quota play.setup.board ((run_from (world_in play) initial events).past agent)
plain_past play events labelled short agent =
    (plain_run (world_in play) initial events (small_net play labelled) short
    (λ other. record { standing = refl; ports = tt }) (λ other. (tt, tt)) agent).0
