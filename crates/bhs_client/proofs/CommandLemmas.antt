-- What a client writes is read as the command that it was written for.
use Rattle.std.proofs.Common.{◌≡◌, ℕ, ◌<◌, ◌≤◌, ◌^◌, List, length, true, false, cond, nat_lt, None, Some, refl}
use Rattle.std.proofs.Common.{◌+◌, ◌++◌, [], ◌∷◌, ap, arith, codes, length-append}
use Rattle.std.proofs.Common.{lt-ltb, le-ltb, ◌∙◌}
use Rattle.std.specs.Prelude.{Result, Ok, Err, IfOk}
use Rattle.std.specs.List.{list_all}
use Rattle.std.specs.Str.{IsUtf8}
use Rattle.std.proofs.lemmas.Str.{is_utf8-from_IsUtf8}
use Rattle.serde_json.specs.Data.{depth, member, no_members, string}
use Rattle.serde_json.specs.Read.{read, max_depth}
use Rattle.json.specs.Print.{escape, escape_byte}
use Rattle.serde_json.specs.Written.{compact_text, has_float, members_text}
use Rattle.bhs_model.specs.declared.commands.Command.{Command}
use Rattle.bhs_model.specs.declared.commands.Command.TheVariants.{Enter, Look, Write, Depart, Accuse, Leave, Bad}
use Rattle.bhs_model.specs.declared.limits.TheConstants.{MAX_LINE}
use Rattle.bhs_wire.specs.First.{first_of, first_of_read, first_in, says, says_as}
use Rattle.bhs_wire.specs.declared.kinds.LineKind.TheVariants.{Over, Blank, Whole}
use Rattle.bhs_wire.specs.LineKind.{is_space}
use Rattle.bhs_replay.proofs.Flat.{IsPlain}
use Rattle.bhs_wasm_team.specs.Agents.{write_length}
use Rattle.bhs_client.specs.CommandLines.{data_of, meant, PortFits}

small : (port : ℕ) → port < 2 ^ 16 → nat_lt port (2 ^ 16) ≡ true
small port fits = lt-ltb port (2 ^ 16) fits

-- the object says what the command is
pub first_in-data_of : (key : List ℕ) (command : Command) → PortFits command
    → first_in (data_of key command) ≡ meant key command
first_in-data_of key Enter fits = refl
first_in-data_of key Look fits = refl
first_in-data_of key (Write expect put) fits = refl
first_in-data_of key (Depart port) fits = rw (small port fits)
first_in-data_of key (Accuse port) fits = rw (small port fits)
first_in-data_of key Leave fits = refl
first_in-data_of key Bad fits = refl

-- a text that reads as such an object says it too
pub first_of-data_of : (line key : List ℕ) (command : Command) → PortFits command → IsUtf8 line
    → read line ≡ Some (data_of key command) → first_of line ≡ meant key command
first_of-data_of line key command fits text same =
    ap (λ b. first_of_read (cond b (read line) None)) (is_utf8-from_IsUtf8 line text)
    ∙ ap first_of_read same ∙ first_in-data_of key command fits

pub shallow : (key : List ℕ) (command : Command) → depth (data_of key command) ≤ max_depth
shallow key Enter = omega arith
shallow key Look = omega arith
shallow key (Write expect put) = omega arith
shallow key (Depart port) = omega arith
shallow key (Accuse port) = omega arith
shallow key Leave = omega arith
shallow key Bad = omega arith

pub no_float : (key : List ℕ) (command : Command) → has_float (data_of key command) ≡ false
no_float key Enter = refl
no_float key Look = refl
no_float key (Write expect put) = refl
no_float key (Depart port) = refl
no_float key (Accuse port) = refl
no_float key Leave = refl
no_float key Bad = refl

pub is_plain : (key : List ℕ) (command : Command) → PortFits command → IsPlain (data_of key command)
is_plain key Enter fits = (tt, (tt, tt))
is_plain key Look fits = (tt, tt)
is_plain key (Write expect put) fits = (tt, (tt, (tt, tt)))
is_plain key (Depart port) fits = (tt, (omega arith, tt))
is_plain key (Accuse port) fits = (tt, (omega arith, tt))
is_plain key Leave fits = (tt, tt)
is_plain key Bad fits = tt

-- the text of a JSON object is not blank
visible : (key : List ℕ) (command : Command) → list_all is_space (compact_text (data_of key command)) ≡ false
visible key Enter = refl
visible key Look = refl
visible key (Write expect put) = refl
visible key (Depart port) = refl
visible key (Accuse port) = refl
visible key Leave = refl
visible key Bad = refl

-- a server takes such a text for the command, unless it is too long
pub says-data_of : (line key : List ℕ) (command : Command) → line ≡ compact_text (data_of key command)
    → first_of line ≡ meant key command → length line ≤ MAX_LINE → says line ≡ Some (meant key command)
says-data_of line key command text first short =
    ap (λ b. says_as (cond b Over (cond (list_all is_space line) Blank Whole)) line)
    (le-ltb MAX_LINE (length line) short)
    ∙ ap (λ b. says_as (cond b Blank Whole) line) (ap (list_all is_space) text ∙ visible key command)
    ∙ ap Some first

-- what follows from two facts of what is given
pub ok_by_both : {T E : Type 0} (result : Result T E) (P Q R : T → Type 0) → ((x : T) → P x → Q x → R x)
    → IfOk result P → IfOk result Q → IfOk result R
ok_by_both (Ok x) P Q R both first second = both x first second
ok_by_both (Err fault) P Q R both first second = tt

-- ---- the length of a line

last_length : (put : List ℕ) → length (members_text true (member (codes "put") (string put) no_members))
    ≡ 10 + length (escape put)
unfolding escape_byte
last_length put =
    let own : length (escape put ++ 34 ∷ []) ≡ length (escape put) + 1 = length-append (escape put) (34 ∷ []) in
    let all : length ((escape put ++ 34 ∷ []) ++ 125 ∷ []) ≡ length (escape put ++ 34 ∷ []) + 1 =
    length-append (escape put ++ 34 ∷ []) (125 ∷ []) in
    omega (arith, own, all)

-- the line of a Write has the length by which a module is judged
pub write_line_length : (key expect put : List ℕ)
    → length (compact_text (data_of key (Write expect put))) ≡ write_length expect put
unfolding escape_byte
write_line_length key expect put =
    let last : List ℕ = members_text true (member (codes "put") (string put) no_members) in
    let behind : length last ≡ 10 + length (escape put) = last_length put in
    let own : length (escape expect ++ 34 ∷ []) ≡ length (escape expect) + 1 =
    length-append (escape expect) (34 ∷ []) in
    let all : length ((escape expect ++ 34 ∷ []) ++ last) ≡ length (escape expect ++ 34 ∷ []) + length last =
    length-append (escape expect ++ 34 ∷ []) last in
    omega (arith, behind, own, all)
