-- How a command of the command line consumes its words in order.
use Rattle.std.proofs.Common.{◌≡◌, ◌∙◌, ap, ap₂, sym, refl, false, ℕ, List, [], ◌∷◌, ◌++◌, append_assoc, fold}
use Rattle.std.proofs.Common.{None, Option, Some, append-nil, is_some}
use Rattle.std.specs.Prelude.{option_and_then}
use Rattle.clap.specs.Words.{Shape, Text}
use Rattle.clap.specs.Kinds.{Kinds, or_else}
use Rattle.clap.specs.Faults.{check_fault, defaults_fault, entered_fault, level_fault, settle_fault, step_fault}
use Rattle.clap.specs.Faults.{turn_fault, walk_fault}
use Rattle.clap.specs.Simple.{App, built, built_leaf, entered, inherited, names_of}
use Rattle.clap.specs.Walk.{Held, Names, Waiting, Walk, after_step, finished, idle, nothing_held, option, plain_word}
use Rattle.clap.specs.Walk.{positional, rows_after, settled, walk_from, walked}
use Rattle.bhs_cli_words.specs.CommandLine.{arena, command_in, faults, is_dashed, order_by}
use Rattle.bhs_cli_words.specs.declared.orders.Order.{Order}

-- ---- the words behind the name of a command

-- where a walk stands that has entered a command
abbrev entered_walk : Walk → Text → List Text → Walk
entered_walk w name words = record w { stopped = Some (name, words) }

-- The remaining words are passed on to the command.
passed_on : (s : Shape) (names : Names) (w : Walk) (name : Text) (before rest : List Text)
    → fold (walked s.rules names) (entered_walk w name before) rest ≡ entered_walk w name (before ++ rest)
unfolding walked
passed_on s names w name before [] = ap (entered_walk w name) (sym (append-nil before))
passed_on s names w name before (word ∷ rest) =
    passed_on s names w name (before ++ word ∷ []) rest
    ∙ ap (entered_walk w name) (append_assoc before (word ∷ []) rest)

passed_faultless : (s : Shape) (names : Names) (w : Walk) (name : Text) (before rest : List Text)
    → walk_fault s names (entered_walk w name before) rest ≡ []
unfolding walked walk_fault
passed_faultless s names w name before [] = refl
passed_faultless s names w name before (word ∷ rest) =
    passed_faultless s names w name (before ++ word ∷ []) rest

-- the command line, and one of its commands, while words are parsed
abbrev pub line : App
line = built arena

abbrev pub leaf_of : Shape → Shape
leaf_of command = built_leaf (inherited arena.top command)

-- the faults of the whole command line, by those of its own walk and by where that ends
abbrev pub line_fault : Kinds → Walk → Kinds
line_fault kinds w = or_else kinds (or_else (entered_fault line w.stopped)
    (or_else (settle_fault line.top.rules line.top.args_override_self w.held)
    (or_else (defaults_fault (settled line.top.rules w.held).rows line.top.rules)
    (check_fault line.top (finished line.top.rules w.held) (is_some (entered line w.stopped))))))

pub passed : (name : Text) (rest : List Text)
    → fold (walked line.top.rules (names_of line)) (entered_walk (walk_from nothing_held) name []) rest
    ≡ entered_walk (walk_from nothing_held) name rest
passed name rest = passed_on line.top (names_of line) (walk_from nothing_held) name [] rest

pub passed_whole : (name : Text) (rest : List Text)
    → walk_fault line.top (names_of line) (entered_walk (walk_from nothing_held) name []) rest ≡ []
passed_whole name rest = passed_faultless line.top (names_of line) (walk_from nothing_held) name [] rest

-- Behind this name what the command takes the command line takes, and it finds what the command finds.
pub record Enters (name : Text) (leaf : Shape) : Type 0 where
  pub takes : (rest : List Text) → level_fault leaf [] nothing_held rest false [] ≡ [] → faults (name ∷ rest) ≡ []
  pub finds : (rest : List Text) → command_in (name ∷ rest) ≡ Some (name, rows_after leaf.rules [] rest)

-- ---- parsing words in order

-- where a walk stands between two words
abbrev pub between : Held → Waiting → ℕ → Walk
between held waiting position =
    record { held = held; waiting = waiting; position = position; is_trailing = false; stopped = None }

-- one word, and several, lead without a fault to where the walk then stands
pub record ReadsOne (s : Shape) (w : Walk) (word : Text) (next : Walk) : Type 0 where
  pub faultless : turn_fault s [] w word ≡ []
  pub goes : walked s.rules [] w word ≡ next

pub record Reads (s : Shape) (w : Walk) (words : List Text) (end : Walk) : Type 0 where
  pub faultless : walk_fault s [] w words ≡ []
  pub goes : fold (walked s.rules []) w words ≡ end

pub reads_none : (s : Shape) (w : Walk) → Reads s w [] w
unfolding walk_fault
reads_none s w = record { faultless = refl; goes = refl }

pub reads_more : {s : Shape} {w next end : Walk} {word : Text} {words : List Text} → ReadsOne s w word next
    → Reads s next words end → Reads s w (word ∷ words) end
unfolding walk_fault
reads_more {s = s} {words = words} one more = record {
  faultless = ap₂ or_else one.faultless (ap (λ (w : Walk). walk_fault s [] w words) one.goes ∙ more.faultless);
  goes = ap (λ (w : Walk). fold (walked s.rules []) w words) one.goes ∙ more.goes;
}

-- a word that begins with no hyphen
pub read_plain : (s : Shape) (held : Held) (position : ℕ) (waiting : Waiting) (word : Text) → is_dashed word ≡ false
    → (let met = plain_word s.rules waiting word held in step_fault s position met.0 met.1 ≡ [])
    → (let met = plain_word s.rules waiting word held in ReadsOne s (between held waiting position) word
    (after_step s.rules word (between held waiting position) met.0 met.1))
unfolding walked
read_plain s held position idle [] plain none = record { faultless = none; goes = refl }
read_plain s held position idle (b ∷ bs) plain none = record { faultless = simp plain none; goes = simp plain }
read_plain s held position (option id) [] plain none = record { faultless = none; goes = refl }
read_plain s held position (option id) (b ∷ bs) plain none = record { faultless = simp plain none; goes = simp plain }
read_plain s held position positional [] plain none = record { faultless = none; goes = refl }
read_plain s held position positional (b ∷ bs) plain none = record { faultless = simp plain none; goes = simp plain }

-- the faults that are found behind the last word
abbrev pub end_fault : Shape → Walk → Kinds
end_fault leaf w = or_else (settle_fault leaf.rules leaf.args_override_self w.held)
    (or_else (defaults_fault (settled leaf.rules w.held).rows leaf.rules)
    (check_fault leaf (finished leaf.rules w.held) false))

-- a command whose words are read without a fault, and give this order
pub order_read : {name : Text} {leaf : Shape} (enters : Enters name leaf) (words : List Text) (end : Walk)
    (order : Option Order) → Reads leaf (walk_from nothing_held) words end → end_fault leaf end ≡ []
    → order_by (name, finished leaf.rules end.held) ≡ order
    → (faults (name ∷ words) ≡ []) × (option_and_then order_by (command_in (name ∷ words)) ≡ order)
order_read {name = name} {leaf = leaf} enters words end order read faultless ordered = (
  enters.takes words (ap₂ (λ (kinds : Kinds) (w : Walk). or_else kinds (end_fault leaf w)) read.faultless read.goes
      ∙ faultless),
  ap (option_and_then order_by) (enters.finds words)
      ∙ ap (λ (w : Walk). order_by (name, finished leaf.rules w.held)) read.goes ∙ ordered,
)
