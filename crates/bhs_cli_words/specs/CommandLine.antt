-- The command line of the program, and what its words give.
use Rattle.std.specs.Prelude.{◌≡◌, ◌⊎◌, ◌==◌, ◌&&◌, IsTrue, Bool, true, false, not, ℕ, nat_lt}
use Rattle.std.specs.Prelude.{List, [], ◌∷◌, ◌++◌, Option, length}
use Rattle.std.specs.Prelude.{Some, None, codes, if◌then◌else◌, option_and_then, option_map}
use Rattle.std.specs.List.{list_any, before_first, after_first, position_or_len}
use Rattle.std.specs.Str.{bytes_eq}
use Rattle.clap.specs.Words.{App, Kinds, Row, Rule, Shape, Text, fault_of, first_of, new_rule, subcommand_of}
use Rattle.clap.specs.Words.{with_subcommand}
use Rattle.clap.specs.Walk.{is_empty}
use Rattle.clap.specs.declared.builder.action.ArgAction.TheVariants.{Append}
use Rattle.clap.specs.declared.error.kind.ErrorKind.{ErrorKind}
use Rattle.clap.specs.declared.error.kind.ErrorKind.TheVariants.{DisplayHelp, DisplayVersion}
use Rattle.bhs_text.specs.Teams.{is_team}
use Rattle.bhs_cli_words.specs.Arguments.{behind, command, flag, is_given, may_have, must_have, number_in, program}
use Rattle.bhs_cli_words.specs.Arguments.{all_said, number_of, numbered, text_in, texts_in}
use Rattle.bhs_cli_words.specs.Exploring.{explore, exploration_by, module_words, modules_in, plain_exploration_in}
use Rattle.bhs_cli_words.specs.Exploring.{wakeups_option}
use Rattle.bhs_cli_words.specs.Serving.{hosting_by, hosting_in, plain_words, serve}
use Rattle.bhs_cli_words.specs.declared.orders.Order.{Order}
use Rattle.bhs_cli_words.specs.declared.orders.Order.TheVariants.{Rehearse, Check, Judge, Table, Explain, Twin}
use Rattle.bhs_cli_words.specs.declared.orders.Order.TheVariants.{Explore, ExploreModules, ExploreAllHoles, Recover}
use Rattle.bhs_cli_words.specs.declared.orders.Order.TheVariants.{Attest, RehearseInteractively, Serve}
use Rattle.bhs_cli_words.specs.declared.orders.Order.TheVariants.{ContestTable, RecoverContest}
use Rattle.bhs_cli_words.specs.declared.orders.Order.TheVariants as variants
use Rattle.bhs_cli_words.specs.declared.orders.AgentModule.{AgentModule}
use Rattle.bhs_cli_words.specs.declared.orders.Appeal.{Appeal}
use Rattle.bhs_cli_words.specs.declared.orders.Exploration.{Exploration}
use Rattle.bhs_cli_words.specs.declared.orders.TableEntry.{TableEntry}
use Rattle.bhs_cli_words.specs.declared.Parsed.{Parsed}
use Rattle.bhs_cli_words.specs.declared.Parsed.TheVariants.{Ordered, Shown, Refused}

-- ---- the commands

-- one word or more
abbrev pub entry_words : Rule
entry_words = record (new_rule (codes "entry")) { required = true; action = Some Append; value_names = 1 }

abbrev pub rehearse : Shape
rehearse = command (codes "rehearse")
    (may_have (codes "tournament") ∷ behind (codes "replay") (may_have (codes "prefix"))
    ∷ behind (codes "interactive") (flag (codes "interactive")) ∷ [])

abbrev pub check : Shape
check = command (codes "check") (must_have (codes "tournament") ∷ [])

abbrev pub judge : Shape
judge = command (codes "judge") (must_have (codes "replay") ∷ behind (codes "turns") (may_have (codes "turns"))
    ∷ behind (codes "tournament") (may_have (codes "tournament")) ∷ behind (codes "match") (may_have (codes "match"))
    ∷ [])

abbrev pub table : Shape
table = command (codes "table") (entry_words ∷ behind (codes "replay") (may_have (codes "prefix")) ∷ [])

abbrev pub explain : Shape
explain = command (codes "explain") (must_have (codes "replay") ∷ must_have (codes "agent") ∷ [])

abbrev pub twin : Shape
twin = command (codes "twin") (must_have (codes "replay") ∷ must_have (codes "node") ∷ [])

abbrev pub recover : Shape
recover = command (codes "recover")
    (must_have (codes "file") ∷ behind (codes "replay") (may_have (codes "prefix")) ∷ [])

abbrev pub attest : Shape
attest = command (codes "attest") (must_have (codes "replay") ∷ module_words ∷ numbered wakeups_option ∷ [])

abbrev pub arena : App
arena =
    with_subcommand (with_subcommand (with_subcommand (with_subcommand (with_subcommand (with_subcommand
    (with_subcommand (with_subcommand (with_subcommand (with_subcommand (program (codes "arena")) rehearse) check)
    judge) table) explain) twin) recover) explore) attest) serve

-- ---- what clap makes of the words that stand after the program's name

-- The reasons to refuse the words as a command line; empty if they are accepted.
abbrev pub faults : List Text → Kinds
faults words = fault_of arena words

-- the command that the words name, with the values of its own words
abbrev pub command_in : List Text → Option (Text × List Row)
command_in words = subcommand_of arena words

-- ---- what a word says

-- the character `=`
abbrev pub is_equals : ℕ → Bool
is_equals byte = byte == 61

-- the team and the name of its replay that a word TEAM=REPLAY says; it is split at its first `=`
abbrev pub entry_in : Text → Option TableEntry
entry_in word =
    if nat_lt (position_or_len is_equals word) (length word) && is_team (before_first is_equals word)
    then Some (record { team = before_first is_equals word; replay = after_first is_equals word }) else None

-- The entries that the words describe; None if a word describes no entry.
abbrev pub entries_in : List Text → Option (List TableEntry)
entries_in = all_said entry_in

-- ---- orders

-- the rehearsal of a tournament, by whether its script is played as it comes
abbrev pub rehearsal_of : (is_interactive : Bool) → (tournament prefix : Option Text) → Order
rehearsal_of true tournament prefix = RehearseInteractively tournament prefix
rehearsal_of false tournament prefix = Rehearse tournament prefix

-- the optional appeal on the match with this number
abbrev pub appeal_of : (turns tournament : Text) → (game : Option ℕ) → Option Appeal
appeal_of turns tournament (Some game) = Some (record { turns = turns; tournament = tournament; game = game })
appeal_of turns tournament None = None

-- the judging of a replay by itself, or an appeal if all words of one are given
unfoldable pub judging_of : (replay : Text) → (turns tournament game : Option Text) → Option Order
judging_of replay None None None = Some (Judge replay)
judging_of replay (Some turns) (Some tournament) (Some game) =
    option_map (variants.Appeal replay) (appeal_of turns tournament (number_in game))
judging_of replay turns tournament game = None

-- the order that the words of `judge` give
abbrev pub judging_by : List Row → Option Order
judging_by rows = judging_of (text_in (codes "replay") rows) (first_of (codes "turns") rows)
    (first_of (codes "tournament") rows) (first_of (codes "match") rows)

-- whether one word stands where a table has its entries
abbrev pub is_one_word : List Row → Bool
is_one_word rows = length (texts_in (codes "entry") rows) == 1

-- the table of a contest with this prefix, if one word alone says its tournament
abbrev pub contest_table_by : (prefix : Text) → List Row → Option Order
contest_table_by prefix rows =
    if is_one_word rows then Some (ContestTable (text_in (codes "entry") rows) prefix) else None

-- the table of entries or, with a prefix, the table of a contest
abbrev pub tabling_of : (prefix : Option Text) → List Row → Option Order
tabling_of None rows = option_map Table (entries_in (texts_in (codes "entry") rows))
tabling_of (Some prefix) rows = contest_table_by prefix rows

-- the order that the words of `table` give
abbrev pub tabling_by : List Row → Option Order
tabling_by rows = tabling_of (first_of (codes "prefix") rows) rows

-- the recovery of a match from its part or, with a prefix, of a tournament's contest
abbrev pub recovery_of : (file : Text) → (prefix : Option Text) → Order
recovery_of file None = Recover file
recovery_of file (Some prefix) = RecoverContest file prefix

-- the order that the words of `recover` give
abbrev pub recovery_by : List Row → Order
recovery_by rows = recovery_of (text_in (codes "file") rows) (first_of (codes "prefix") rows)

-- The exploration of a match by a host, with the match's own black holes; with all holes there is none.
abbrev pub exploring_host : (tournament : Text) → (is_all : Bool) → Option Exploration → Option Order
exploring_host tournament is_all exploration = if is_all then None else option_map (Explore tournament) exploration

-- the exploration of a match whose agents run these modules, with all black holes or those of the match
abbrev pub exploring_modules : (tournament : Text) → (is_all : Bool) → Exploration → List AgentModule → Order
exploring_modules tournament is_all exploration modules =
    if is_all then ExploreAllHoles tournament modules exploration else ExploreModules tournament modules exploration

-- the exploration of a match whose agents a host plays, or run the modules that words say
abbrev pub exploring_of : (tournament : Text) → (words : List Text) → (is_all : Bool) → Option Exploration
    → Option Order
exploring_of tournament [] is_all exploration = exploring_host tournament is_all exploration
exploring_of tournament (word ∷ words) is_all (Some exploration) =
    option_map (exploring_modules tournament is_all exploration) (modules_in (word ∷ words))
exploring_of tournament (word ∷ words) is_all None = None

-- the comparison of a replay with the modules that words say, of agents that may wake again so often
abbrev pub attesting_of : (replay : Text) → (words : List Text) → (wakeups : Option ℕ) → Option Order
attesting_of replay [] wakeups = None
attesting_of replay (word ∷ words) (Some wakeups) =
    option_map (λ modules. Attest replay modules wakeups) (modules_in (word ∷ words))
attesting_of replay (word ∷ words) None = None

-- the order that a command gives
abbrev pub order_by : Text × List Row → Option Order
order_by (name, rows) =
    if bytes_eq name (codes "rehearse")
    then Some (rehearsal_of (is_given (codes "interactive") rows) (first_of (codes "tournament") rows)
    (first_of (codes "prefix") rows))
    else (if bytes_eq name (codes "check") then Some (Check (text_in (codes "tournament") rows))
    else (if bytes_eq name (codes "judge") then judging_by rows
    else (if bytes_eq name (codes "table") then tabling_by rows
    else (if bytes_eq name (codes "explain")
    then option_map (Explain (text_in (codes "replay") rows)) (number_in (text_in (codes "agent") rows))
    else (if bytes_eq name (codes "twin")
    then option_map (Twin (text_in (codes "replay") rows)) (number_in (text_in (codes "node") rows))
    else (if bytes_eq name (codes "recover")
    then Some (recovery_by rows)
    else (if bytes_eq name (codes "explore")
    then exploring_of (text_in (codes "tournament") rows) (texts_in (codes "module") rows)
    (is_given (codes "all-holes") rows) (exploration_by rows)
    else (if bytes_eq name (codes "attest")
    then attesting_of (text_in (codes "replay") rows) (texts_in (codes "module") rows)
    (number_of wakeups_option (text_in wakeups_option.name rows))
    else (if bytes_eq name (codes "serve")
    then option_map (Serve (text_in (codes "tournament") rows)) (hosting_by rows)
    else None)))))))))

-- the order that the words describe, or None
abbrev pub order_in : List Text → Option Order
order_in words =
    if is_empty (faults words) then option_and_then order_by (command_in words) else None

-- ---- the plainest words of each order

-- the word begins with a hyphen, as an option does
abbrev pub is_dashed : Text → Bool
is_dashed [] = false
is_dashed (byte ∷ bytes) = byte == 45

-- a name that begins with no hyphen
abbrev pub IsName : Text → Type 0
IsName name = is_dashed name ≡ false

-- The words give this order: the command and its own words, none of which begins with a hyphen, and the options last,
-- in this order. A command alone may have the mark `--` that ends the options.
abbrev pub Says : List Text → Order → Type 0
Says words (Rehearse None None) = (words ≡ codes "rehearse" ∷ []) ⊎ (words ≡ codes "rehearse" ∷ codes "--" ∷ [])
Says words (Rehearse (Some name) None) = IsName name × (words ≡ codes "rehearse" ∷ name ∷ [])
Says words (Rehearse None (Some prefix)) =
    IsName prefix × (words ≡ codes "rehearse" ∷ codes "--replay" ∷ prefix ∷ [])
Says words (Rehearse (Some name) (Some prefix)) =
    IsName name × IsName prefix × (words ≡ codes "rehearse" ∷ name ∷ codes "--replay" ∷ prefix ∷ [])
Says words (RehearseInteractively None None) = words ≡ codes "rehearse" ∷ codes "--interactive" ∷ []
Says words (RehearseInteractively (Some name) None) = IsName name × (words ≡ codes "rehearse" ∷ name ∷ codes
    "--interactive" ∷ [])
Says words (RehearseInteractively None (Some prefix)) =
    IsName prefix × (words ≡ codes "rehearse" ∷ codes "--interactive" ∷ codes "--replay" ∷ prefix ∷ [])
Says words (RehearseInteractively (Some name) (Some prefix)) =
    IsName name × IsName prefix
    × (words ≡ codes "rehearse" ∷ name ∷ codes "--interactive" ∷ codes "--replay" ∷ prefix ∷ [])
Says words (Check name) = IsName name × (words ≡ codes "check" ∷ name ∷ [])
Says words (Judge replay) = IsName replay × (words ≡ codes "judge" ∷ replay ∷ [])
Says words (variants.Appeal replay appeal) =
    (word : Text) × IsName replay × IsName appeal.turns × IsName appeal.tournament × IsName word
    × (number_in word ≡ Some appeal.game)
    × (words ≡ codes "judge" ∷ replay ∷ codes "--turns" ∷ appeal.turns ∷ codes "--tournament" ∷ appeal.tournament
    ∷ codes "--match" ∷ word ∷ [])
Says words (Table entries) =
    (word : Text) × IsName word × (entries_in (word ∷ []) ≡ Some entries) × (words ≡ codes "table" ∷ word ∷ [])
Says words (ContestTable tournament prefix) =
    IsName tournament × IsName prefix × (words ≡ codes "table" ∷ tournament ∷ codes "--replay" ∷ prefix ∷ [])
Says words (Explain replay agent) =
    (word : Text) × IsName replay × IsName word × (number_in word ≡ Some agent)
    × (words ≡ codes "explain" ∷ replay ∷ word ∷ [])
Says words (Twin replay node) =
    (word : Text) × IsName replay × IsName word × (number_in word ≡ Some node)
    × (words ≡ codes "twin" ∷ replay ∷ word ∷ [])
Says words (Recover part) = IsName part × (words ≡ codes "recover" ∷ part ∷ [])
Says words (RecoverContest tournament prefix) =
    IsName tournament × IsName prefix × (words ≡ codes "recover" ∷ tournament ∷ codes "--replay" ∷ prefix ∷ [])
Says words (Explore tournament exploration) =
    (word : Text) × IsName tournament × IsName word × (plain_exploration_in word ≡ Some exploration)
    × (words ≡ codes "explore" ∷ tournament ∷ word ∷ [])
Says words (ExploreModules tournament modules exploration) =
    (word : Text) × (spelled : Text) × IsName tournament × IsName word × IsName spelled
    × (plain_exploration_in word ≡ Some exploration) × (modules_in (spelled ∷ []) ≡ Some modules)
    × (words ≡ codes "explore" ∷ tournament ∷ word ∷ codes "--module" ∷ spelled ∷ [])
Says words (ExploreAllHoles tournament modules exploration) =
    (word : Text) × (spelled : Text) × IsName tournament × IsName word × IsName spelled
    × (plain_exploration_in word ≡ Some exploration) × (modules_in (spelled ∷ []) ≡ Some modules)
    × (words ≡ codes "explore" ∷ tournament ∷ word ∷ codes "--module" ∷ spelled ∷ codes "--all-holes" ∷ [])
Says words (Attest replay modules wakeups) =
    (spelled : Text) × IsName replay × IsName spelled
    × (number_of wakeups_option wakeups_option.default ≡ Some wakeups) × (modules_in (spelled ∷ []) ≡ Some modules)
    × (words ≡ codes "attest" ∷ replay ∷ codes "--module" ∷ spelled ∷ [])
Says words (Serve tournament hosting) =
    (port : Text) × (sessions : Text) × (turns : Text) × (pause : Text)
    × IsName tournament × IsName hosting.prefix
    × (hosting_in (plain_words port sessions turns pause hosting.prefix) ≡ Some hosting)
    × (words ≡ codes "serve" ∷ tournament ∷ codes "--port" ∷ port ∷ codes "--sessions" ∷ sessions
    ∷ codes "--turns" ∷ turns ∷ codes "--pause" ∷ pause ∷ codes "--replay" ∷ hosting.prefix ∷ [])

-- ---- answers

-- clap says this where help or the version is asked for
abbrev pub is_asked : ErrorKind → Bool
is_asked DisplayHelp = true
is_asked DisplayVersion = true
is_asked _ = false

-- some fault of the words is more than a question for help
abbrev pub AreFaulty : List Text → Type 0
AreFaulty words = IsTrue (list_any (λ kind. not (is_asked kind)) (faults words))

-- The words have the form of a command line, but a number or a table entry among them is invalid, or they do not go
-- together.
abbrev pub AreUnfit : List Text → Type 0
AreUnfit words = (faults words ≡ []) × (order_in words ≡ None)

abbrev pub AreRefused : List Text → Type 0
AreRefused words = AreFaulty words ⊎ AreUnfit words

-- the words get this answer
abbrev pub Parses : List Text → Parsed → Type 0
Parses words (Ordered order) = order_in words ≡ Some order
Parses words (Shown text) = IsTrue (list_any is_asked (faults words))
Parses words (Refused text) = AreRefused words

-- the words that ask for help after these
abbrev pub AskAfter : List Text → List Text → Type 0
AskAfter before words = (words ≡ before ++ codes "--help" ∷ []) ⊎ (words ≡ before ++ codes "-h" ∷ [])

-- the words that ask for help and do nothing else
abbrev pub AsksHelp : List Text → Type 0
AsksHelp words = AskAfter [] words
    ⊎ (AskAfter (codes "rehearse" ∷ []) words
    ⊎ (AskAfter (codes "check" ∷ []) words
    ⊎ (AskAfter (codes "judge" ∷ []) words
    ⊎ (AskAfter (codes "table" ∷ []) words
    ⊎ (AskAfter (codes "explain" ∷ []) words
    ⊎ (AskAfter (codes "twin" ∷ []) words
    ⊎ (AskAfter (codes "recover" ∷ []) words
    ⊎ (AskAfter (codes "explore" ∷ []) words
    ⊎ (AskAfter (codes "attest" ∷ []) words
    ⊎ AskAfter (codes "serve" ∷ []) words)))))))))

-- the words that ask for the version and do nothing else
abbrev pub AsksVersion : List Text → Type 0
AsksVersion words = (words ≡ codes "--version" ∷ []) ⊎ (words ≡ codes "-V" ∷ [])

abbrev pub is_shown : Parsed → Bool
is_shown (Shown text) = true
is_shown _ = false

abbrev pub is_refused : Parsed → Bool
is_refused (Refused text) = true
is_refused _ = false

-- the answer tells an error of this kind
abbrev pub Explains : ErrorKind → Parsed → Type 0
Explains kind (Ordered order) = ⊥
Explains kind (Shown text) = is_asked kind ≡ true
Explains kind (Refused text) = is_asked kind ≡ false
