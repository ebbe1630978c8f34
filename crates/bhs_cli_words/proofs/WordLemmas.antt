-- Which words the command line takes.
use Rattle.std.proofs.Common.{◌≡◌, ◌∙◌, ap, ap₂, subst, sym, refl, inl, inr, true≢false, Bool, true, false, ℕ}
use Rattle.std.proofs.Common.{codes, List, [], ◌∷◌, ◌++◌, Option, Some, None}
use Rattle.std.specs.Prelude.{option_and_then, option_map}
use Rattle.clap.specs.Words.{Text}
use Rattle.clap.specs.Simple.{entered, is_simple}
use Rattle.clap.specs.Walk.{Walk, idle, option}
use Rattle.clap.specs.Kinds.{Kinds, or_else}
use Rattle.clap.specs.Faults.{is_simple_and_free}
use Rattle.clap.specs.declared.error.kind.ErrorKind.{ErrorKind}
use Rattle.clap.specs.declared.error.kind.ErrorKind.TheVariants.{DisplayHelp, DisplayHelpOnMissingArgumentOrSubcommand}
use Rattle.clap.specs.declared.error.kind.ErrorKind.TheVariants.{DisplayVersion}
use Rattle.clap.proofs.OnLiterals.{clap_on_literals}
use Rattle.bhs_cli_words.specs.Arguments.{number_in, number_of}
use Rattle.bhs_cli_words.specs.Exploring.{drawing_in, explore, plain_exploration_in, wakeups_option}
use Rattle.bhs_cli_words.specs.CommandLine.{AskAfter, AsksHelp, AsksVersion, Says, appeal_of, arena, check}
use Rattle.bhs_cli_words.specs.CommandLine.{attest, attesting_of, command_in, entries_in, explain, exploring_of, faults}
use Rattle.bhs_cli_words.specs.CommandLine.{is_dashed, judge}
use Rattle.bhs_cli_words.specs.CommandLine.{judging_of, order_by, recover, rehearse, table, twin}
use Rattle.bhs_cli_words.specs.declared.orders.Order.{Order}
use Rattle.bhs_cli_words.specs.declared.orders.Order.TheVariants.{Check, Explain, Explore, Judge, Recover, Rehearse}
use Rattle.bhs_cli_words.specs.declared.orders.Order.TheVariants.{Attest, RehearseInteractively, Serve, Table, Twin}
use Rattle.bhs_cli_words.specs.declared.orders.Order.TheVariants.{ContestTable, ExploreModules, RecoverContest}
use Rattle.bhs_cli_words.specs.declared.orders.Order.TheVariants.{ExploreAllHoles}
use Rattle.bhs_cli_words.specs.declared.orders.Order.TheVariants as order
use Rattle.bhs_cli_words.specs.declared.orders.AgentModule.{AgentModule}
use Rattle.bhs_cli_words.specs.declared.orders.TableEntry.{TableEntry}
use Rattle.bhs_cli_words.specs.declared.orders.Exploration.{Exploration}
use Rattle.bhs_cli_words.specs.declared.orders.Hosting.{Hosting}
use Rattle.bhs_cli_words.proofs.NumberLemmas.{hosting_plain}
use Rattle.bhs_cli_words.proofs.ReadLemmas.{Enters, leaf_of, line, line_fault, order_read, passed, passed_whole}
use Rattle.bhs_cli_words.proofs.ReadLemmas.{read_plain, reads_more, reads_none}
use Rattle.bhs_cli_words.proofs.ServeLemmas.{serve_found}

-- ---- lists of kinds

pub kind≢none : (k : ErrorKind) (ks : Kinds) → k ∷ ks ≡ [] → ⊥
kind≢none k ks e = true≢false (ap (λ (xs : Kinds). has_one xs) e)
  where
    has_one : Kinds → Bool
    has_one [] = false
    has_one (x ∷ xs) = true

-- ---- words that are written out

pub arena_is_simple : is_simple arena ≡ true
unfolding clap_on_literals
arena_is_simple = refl

pub arena_is_free : is_simple_and_free arena ≡ true
unfolding clap_on_literals
arena_is_free = refl

-- words that ask for help after these, where both forms do
asked_after : (before words : List Text) → AskAfter before words
    → (faults (before ++ codes "--help" ∷ []) ≡ DisplayHelp ∷ [])
    × (faults (before ++ codes "-h" ∷ []) ≡ DisplayHelp ∷ [])
    → faults words ≡ DisplayHelp ∷ []
asked_after before words (inl is) both = ap faults is ∙ both.0
asked_after before words (inr is) both = ap faults is ∙ both.1

pub help_fault : (words : List Text) → AsksHelp words → faults words ≡ DisplayHelp ∷ []
unfolding clap_on_literals
help_fault words (inl asks) = asked_after [] words asks (refl, refl)
help_fault words (inr (inl asks)) = asked_after (codes "rehearse" ∷ []) words asks (refl, refl)
help_fault words (inr (inr (inl asks))) = asked_after (codes "check" ∷ []) words asks (refl, refl)
help_fault words (inr (inr (inr (inl asks)))) = asked_after (codes "judge" ∷ []) words asks (refl, refl)
help_fault words (inr (inr (inr (inr (inl asks))))) = asked_after (codes "table" ∷ []) words asks (refl, refl)
help_fault words (inr (inr (inr (inr (inr (inl asks)))))) = asked_after (codes "explain" ∷ []) words asks (refl, refl)
help_fault words (inr (inr (inr (inr (inr (inr (inl asks))))))) =
    asked_after (codes "twin" ∷ []) words asks (refl, refl)
help_fault words (inr (inr (inr (inr (inr (inr (inr (inl asks)))))))) =
    asked_after (codes "recover" ∷ []) words asks (refl, refl)
help_fault words (inr (inr (inr (inr (inr (inr (inr (inr (inl asks))))))))) =
    asked_after (codes "explore" ∷ []) words asks (refl, refl)
help_fault words (inr (inr (inr (inr (inr (inr (inr (inr (inr (inl asks)))))))))) =
    asked_after (codes "attest" ∷ []) words asks (refl, refl)
help_fault words (inr (inr (inr (inr (inr (inr (inr (inr (inr (inr asks)))))))))) =
    asked_after (codes "serve" ∷ []) words asks (refl, refl)

pub version_fault : (words : List Text) → AsksVersion words → faults words ≡ DisplayVersion ∷ []
unfolding clap_on_literals
version_fault words (inl is) = subst (λ (ws : List Text). faults ws ≡ DisplayVersion ∷ []) (sym is) refl
version_fault words (inr is) = subst (λ (ws : List Text). faults ws ≡ DisplayVersion ∷ []) (sym is) refl

pub no_word_fault : (words : List Text) → words ≡ [] → faults words ≡ DisplayHelpOnMissingArgumentOrSubcommand ∷ []
unfolding clap_on_literals
no_word_fault words is = subst (λ (ws : List Text). faults ws ≡ DisplayHelpOnMissingArgumentOrSubcommand ∷ []) (sym is)
    refl

-- ---- the plainest words

-- the words have no fault, and are found to give this order
abbrev Gives : List Text → Order → Type 0
Gives words order = (faults words ≡ []) × (option_and_then order_by (command_in words) ≡ Some order)

rehearse_enters : Enters (codes "rehearse") (leaf_of rehearse)
unfolding clap_on_literals
rehearse_enters = record {
  takes = λ rest none. ap₂ line_fault (passed_whole (codes "rehearse") rest) (passed (codes "rehearse") rest)
      ∙ ap (λ (kinds : Kinds). or_else kinds []) none;
  finds = λ rest. ap (λ (w : Walk). entered line w.stopped) (passed (codes "rehearse") rest);
}

rehearse_alone : Gives (codes "rehearse" ∷ []) (Rehearse None None) × Gives (codes "rehearse" ∷ codes "--" ∷ [])
    (Rehearse None None)
unfolding clap_on_literals
rehearse_alone = (
  order_read rehearse_enters [] _ _ (reads_none (leaf_of rehearse) _) refl refl,
  order_read rehearse_enters (codes "--" ∷ []) _ _
      (reads_more (record { faultless = refl; goes = refl }) (reads_none (leaf_of rehearse) _)) refl refl,
)

rehearse_named : (name : Text) → is_dashed name ≡ false
    → Gives (codes "rehearse" ∷ name ∷ []) (Rehearse (Some name) None)
unfolding clap_on_literals
rehearse_named name e =
    order_read rehearse_enters (name ∷ []) _ _
    (reads_more (read_plain (leaf_of rehearse) _ 1 idle name e refl) (reads_none (leaf_of rehearse) _)) refl refl

rehearse_written : (prefix : Text) → is_dashed prefix ≡ false
    → Gives (codes "rehearse" ∷ codes "--replay" ∷ prefix ∷ []) (Rehearse None (Some prefix))
unfolding clap_on_literals
rehearse_written prefix e =
    order_read rehearse_enters (codes "--replay" ∷ prefix ∷ []) _ _
    (reads_more (record { faultless = refl; goes = refl })
    (reads_more (read_plain (leaf_of rehearse) _ 1 (option (codes "prefix")) prefix e refl)
    (reads_none (leaf_of rehearse) _))) refl refl

rehearse_both : (name prefix : Text) → is_dashed name ≡ false → is_dashed prefix ≡ false
    → Gives (codes "rehearse" ∷ name ∷ codes "--replay" ∷ prefix ∷ []) (Rehearse (Some name) (Some prefix))
unfolding clap_on_literals
rehearse_both name prefix e f =
    order_read rehearse_enters (name ∷ codes "--replay" ∷ prefix ∷ []) _ _
    (reads_more (read_plain (leaf_of rehearse) _ 1 idle name e refl)
    (reads_more (record { faultless = refl; goes = refl })
    (reads_more (read_plain (leaf_of rehearse) _ 2 (option (codes "prefix")) prefix f refl)
    (reads_none (leaf_of rehearse) _)))) refl refl

interaction_alone : Gives (codes "rehearse" ∷ codes "--interactive" ∷ []) (RehearseInteractively None None)
unfolding clap_on_literals
interaction_alone =
    order_read rehearse_enters (codes "--interactive" ∷ []) _ _
    (reads_more (record { faultless = refl; goes = refl }) (reads_none (leaf_of rehearse) _)) refl refl

interaction_named : (name : Text) → is_dashed name ≡ false
    → Gives (codes "rehearse" ∷ name ∷ codes "--interactive" ∷ []) (RehearseInteractively (Some name) None)
unfolding clap_on_literals
interaction_named name e =
    order_read rehearse_enters (name ∷ codes "--interactive" ∷ []) _ _
    (reads_more (read_plain (leaf_of rehearse) _ 1 idle name e refl)
    (reads_more (record { faultless = refl; goes = refl }) (reads_none (leaf_of rehearse) _))) refl refl

interaction_written : (prefix : Text) → is_dashed prefix ≡ false
    → Gives (codes "rehearse" ∷ codes "--interactive" ∷ codes "--replay" ∷ prefix ∷ [])
    (RehearseInteractively None (Some prefix))
unfolding clap_on_literals
interaction_written prefix e =
    order_read rehearse_enters (codes "--interactive" ∷ codes "--replay" ∷ prefix ∷ []) _ _
    (reads_more (record { faultless = refl; goes = refl })
    (reads_more (record { faultless = refl; goes = refl })
    (reads_more (read_plain (leaf_of rehearse) _ 1 (option (codes "prefix")) prefix e refl)
    (reads_none (leaf_of rehearse) _)))) refl refl

interaction_both : (name prefix : Text) → is_dashed name ≡ false → is_dashed prefix ≡ false
    → Gives (codes "rehearse" ∷ name ∷ codes "--interactive" ∷ codes "--replay" ∷ prefix ∷ [])
    (RehearseInteractively (Some name) (Some prefix))
unfolding clap_on_literals
interaction_both name prefix e f =
    order_read rehearse_enters (name ∷ codes "--interactive" ∷ codes "--replay" ∷ prefix ∷ []) _ _
    (reads_more (read_plain (leaf_of rehearse) _ 1 idle name e refl)
    (reads_more (record { faultless = refl; goes = refl })
    (reads_more (record { faultless = refl; goes = refl })
    (reads_more (read_plain (leaf_of rehearse) _ 2 (option (codes "prefix")) prefix f refl)
    (reads_none (leaf_of rehearse) _))))) refl refl

check_enters : Enters (codes "check") (leaf_of check)
unfolding clap_on_literals
check_enters = record {
  takes = λ rest none. ap₂ line_fault (passed_whole (codes "check") rest) (passed (codes "check") rest)
      ∙ ap (λ (kinds : Kinds). or_else kinds []) none;
  finds = λ rest. ap (λ (w : Walk). entered line w.stopped) (passed (codes "check") rest);
}

check_named : (name : Text) → is_dashed name ≡ false → Gives (codes "check" ∷ name ∷ []) (Check name)
unfolding clap_on_literals
check_named name e =
    order_read check_enters (name ∷ []) _ _
    (reads_more (read_plain (leaf_of check) _ 1 idle name e refl) (reads_none (leaf_of check) _)) refl refl

judge_enters : Enters (codes "judge") (leaf_of judge)
unfolding clap_on_literals
judge_enters = record {
  takes = λ rest none. ap₂ line_fault (passed_whole (codes "judge") rest) (passed (codes "judge") rest)
      ∙ ap (λ (kinds : Kinds). or_else kinds []) none;
  finds = λ rest. ap (λ (w : Walk). entered line w.stopped) (passed (codes "judge") rest);
}

judge_named : (replay : Text) → is_dashed replay ≡ false → Gives (codes "judge" ∷ replay ∷ []) (Judge replay)
unfolding clap_on_literals judging_of
judge_named replay e =
    order_read judge_enters (replay ∷ []) _ _
    (reads_more (read_plain (leaf_of judge) _ 1 idle replay e refl) (reads_none (leaf_of judge) _)) refl refl

appeal_found : (replay turns tournament word : Text) → is_dashed replay ≡ false → is_dashed turns ≡ false
    → is_dashed tournament ≡ false → is_dashed word ≡ false
    → (let words = codes "judge" ∷ replay ∷ codes "--turns" ∷ turns ∷ codes "--tournament" ∷ tournament
    ∷ codes "--match" ∷ word ∷ [] in (faults words ≡ [])
    × (option_and_then order_by (command_in words)
    ≡ option_map (order.Appeal replay) (appeal_of turns tournament (number_in word))))
unfolding clap_on_literals judging_of
appeal_found replay turns tournament word e f g h =
    order_read judge_enters
    (replay ∷ codes "--turns" ∷ turns ∷ codes "--tournament" ∷ tournament ∷ codes "--match" ∷ word ∷ []) _ _
    (reads_more (read_plain (leaf_of judge) _ 1 idle replay e refl)
    (reads_more (record { faultless = refl; goes = refl })
    (reads_more (read_plain (leaf_of judge) _ 2 (option (codes "turns")) turns f refl)
    (reads_more (record { faultless = refl; goes = refl })
    (reads_more (read_plain (leaf_of judge) _ 2 (option (codes "tournament")) tournament g refl)
    (reads_more (record { faultless = refl; goes = refl })
    (reads_more (read_plain (leaf_of judge) _ 2 (option (codes "match")) word h refl)
    (reads_none (leaf_of judge) _)))))))) refl refl

recover_enters : Enters (codes "recover") (leaf_of recover)
unfolding clap_on_literals
recover_enters = record {
  takes = λ rest none. ap₂ line_fault (passed_whole (codes "recover") rest) (passed (codes "recover") rest)
      ∙ ap (λ (kinds : Kinds). or_else kinds []) none;
  finds = λ rest. ap (λ (w : Walk). entered line w.stopped) (passed (codes "recover") rest);
}

recover_named : (part : Text) → is_dashed part ≡ false → Gives (codes "recover" ∷ part ∷ []) (Recover part)
unfolding clap_on_literals
recover_named part e =
    order_read recover_enters (part ∷ []) _ _
    (reads_more (read_plain (leaf_of recover) _ 1 idle part e refl) (reads_none (leaf_of recover) _)) refl refl

contest_recovered : (tournament prefix : Text) → is_dashed tournament ≡ false → is_dashed prefix ≡ false
    → Gives (codes "recover" ∷ tournament ∷ codes "--replay" ∷ prefix ∷ []) (RecoverContest tournament prefix)
unfolding clap_on_literals
contest_recovered tournament prefix e f =
    order_read recover_enters (tournament ∷ codes "--replay" ∷ prefix ∷ []) _ _
    (reads_more (read_plain (leaf_of recover) _ 1 idle tournament e refl)
    (reads_more (record { faultless = refl; goes = refl })
    (reads_more (read_plain (leaf_of recover) _ 2 (option (codes "prefix")) prefix f refl)
    (reads_none (leaf_of recover) _)))) refl refl

table_enters : Enters (codes "table") (leaf_of table)
unfolding clap_on_literals
table_enters = record {
  takes = λ rest none. ap₂ line_fault (passed_whole (codes "table") rest) (passed (codes "table") rest)
      ∙ ap (λ (kinds : Kinds). or_else kinds []) none;
  finds = λ rest. ap (λ (w : Walk). entered line w.stopped) (passed (codes "table") rest);
}

table_found : (word : Text) → is_dashed word ≡ false
    → (faults (codes "table" ∷ word ∷ []) ≡ [])
    × (option_and_then order_by (command_in (codes "table" ∷ word ∷ [])) ≡ option_map Table
    (entries_in (word ∷ [])))
unfolding clap_on_literals
table_found word e =
    order_read table_enters (word ∷ []) _ _
    (reads_more (read_plain (leaf_of table) _ 1 idle word e refl) (reads_none (leaf_of table) _)) refl refl

contest_tabled : (tournament prefix : Text) → is_dashed tournament ≡ false → is_dashed prefix ≡ false
    → Gives (codes "table" ∷ tournament ∷ codes "--replay" ∷ prefix ∷ []) (ContestTable tournament prefix)
unfolding clap_on_literals
contest_tabled tournament prefix e f =
    order_read table_enters (tournament ∷ codes "--replay" ∷ prefix ∷ []) _ _
    (reads_more (read_plain (leaf_of table) _ 1 idle tournament e refl)
    (reads_more (record { faultless = refl; goes = refl })
    (reads_more (read_plain (leaf_of table) _ 1 (option (codes "prefix")) prefix f refl)
    (reads_none (leaf_of table) _)))) refl refl

explain_enters : Enters (codes "explain") (leaf_of explain)
unfolding clap_on_literals
explain_enters = record {
  takes = λ rest none. ap₂ line_fault (passed_whole (codes "explain") rest) (passed (codes "explain") rest)
      ∙ ap (λ (kinds : Kinds). or_else kinds []) none;
  finds = λ rest. ap (λ (w : Walk). entered line w.stopped) (passed (codes "explain") rest);
}

explain_found : (replay word : Text) → is_dashed replay ≡ false → is_dashed word ≡ false
    → (faults (codes "explain" ∷ replay ∷ word ∷ []) ≡ [])
    × (option_and_then order_by (command_in (codes "explain" ∷ replay ∷ word ∷ [])) ≡ option_map (Explain replay)
    (number_in word))
unfolding clap_on_literals
explain_found replay word e f =
    order_read explain_enters (replay ∷ word ∷ []) _ _
    (reads_more (read_plain (leaf_of explain) _ 1 idle replay e refl)
    (reads_more (read_plain (leaf_of explain) _ 2 idle word f refl) (reads_none (leaf_of explain) _))) refl refl

twin_enters : Enters (codes "twin") (leaf_of twin)
unfolding clap_on_literals
twin_enters = record {
  takes = λ rest none. ap₂ line_fault (passed_whole (codes "twin") rest) (passed (codes "twin") rest)
      ∙ ap (λ (kinds : Kinds). or_else kinds []) none;
  finds = λ rest. ap (λ (w : Walk). entered line w.stopped) (passed (codes "twin") rest);
}

twin_found : (replay word : Text) → is_dashed replay ≡ false → is_dashed word ≡ false
    → (faults (codes "twin" ∷ replay ∷ word ∷ []) ≡ [])
    × (option_and_then order_by (command_in (codes "twin" ∷ replay ∷ word ∷ [])) ≡ option_map (Twin replay)
    (number_in word))
unfolding clap_on_literals
twin_found replay word e f =
    order_read twin_enters (replay ∷ word ∷ []) _ _
    (reads_more (read_plain (leaf_of twin) _ 1 idle replay e refl)
    (reads_more (read_plain (leaf_of twin) _ 2 idle word f refl) (reads_none (leaf_of twin) _))) refl refl

explore_enters : Enters (codes "explore") (leaf_of explore)
unfolding clap_on_literals
explore_enters = record {
  takes = λ rest none. ap₂ line_fault (passed_whole (codes "explore") rest) (passed (codes "explore") rest)
      ∙ ap (λ (kinds : Kinds). or_else kinds []) none;
  finds = λ rest. ap (λ (w : Walk). entered line w.stopped) (passed (codes "explore") rest);
}

explore_found : (tournament word : Text) → is_dashed tournament ≡ false → is_dashed word ≡ false
    → (faults (codes "explore" ∷ tournament ∷ word ∷ []) ≡ [])
    × (option_and_then order_by (command_in (codes "explore" ∷ tournament ∷ word ∷ []))
    ≡ option_map (Explore tournament) (plain_exploration_in word))
unfolding clap_on_literals drawing_in
explore_found tournament word e f =
    order_read explore_enters (tournament ∷ word ∷ []) _ _
    (reads_more (read_plain (leaf_of explore) _ 1 idle tournament e refl)
    (reads_more (read_plain (leaf_of explore) _ 2 idle word f refl) (reads_none (leaf_of explore) _))) refl refl

module_explore_found : (tournament word spelled : Text) → is_dashed tournament ≡ false → is_dashed word ≡ false
    → is_dashed spelled ≡ false
    → (faults (codes "explore" ∷ tournament ∷ word ∷ codes "--module" ∷ spelled ∷ []) ≡ [])
    × (option_and_then order_by (command_in (codes "explore" ∷ tournament ∷ word ∷ codes "--module" ∷ spelled ∷ []))
    ≡ exploring_of tournament (spelled ∷ []) false (plain_exploration_in word))
unfolding clap_on_literals drawing_in
module_explore_found tournament word spelled e f h =
    order_read explore_enters (tournament ∷ word ∷ codes "--module" ∷ spelled ∷ []) _ _
    (reads_more (read_plain (leaf_of explore) _ 1 idle tournament e refl)
    (reads_more (read_plain (leaf_of explore) _ 2 idle word f refl)
    (reads_more (record { faultless = refl; goes = refl })
    (reads_more (read_plain (leaf_of explore) _ 3 (option (codes "module")) spelled h refl)
    (reads_none (leaf_of explore) _))))) refl refl

all_holes_found : (tournament word spelled : Text) → is_dashed tournament ≡ false → is_dashed word ≡ false
    → is_dashed spelled ≡ false
    → (faults (codes "explore" ∷ tournament ∷ word ∷ codes "--module" ∷ spelled ∷ codes "--all-holes" ∷ []) ≡ [])
    × (option_and_then order_by
    (command_in (codes "explore" ∷ tournament ∷ word ∷ codes "--module" ∷ spelled ∷ codes "--all-holes" ∷ []))
    ≡ exploring_of tournament (spelled ∷ []) true (plain_exploration_in word))
unfolding clap_on_literals drawing_in
all_holes_found tournament word spelled e f h =
    order_read explore_enters (tournament ∷ word ∷ codes "--module" ∷ spelled ∷ codes "--all-holes" ∷ []) _ _
    (reads_more (read_plain (leaf_of explore) _ 1 idle tournament e refl)
    (reads_more (read_plain (leaf_of explore) _ 2 idle word f refl)
    (reads_more (record { faultless = refl; goes = refl })
    (reads_more (read_plain (leaf_of explore) _ 3 (option (codes "module")) spelled h refl)
    (reads_more (record { faultless = refl; goes = refl })
    (reads_none (leaf_of explore) _)))))) refl refl

attest_enters : Enters (codes "attest") (leaf_of attest)
unfolding clap_on_literals
attest_enters = record {
  takes = λ rest none. ap₂ line_fault (passed_whole (codes "attest") rest) (passed (codes "attest") rest)
      ∙ ap (λ (kinds : Kinds). or_else kinds []) none;
  finds = λ rest. ap (λ (w : Walk). entered line w.stopped) (passed (codes "attest") rest);
}

attest_found : (replay spelled : Text) → is_dashed replay ≡ false → is_dashed spelled ≡ false
    → (faults (codes "attest" ∷ replay ∷ codes "--module" ∷ spelled ∷ []) ≡ [])
    × (option_and_then order_by (command_in (codes "attest" ∷ replay ∷ codes "--module" ∷ spelled ∷ []))
    ≡ attesting_of replay (spelled ∷ []) (number_of wakeups_option wakeups_option.default))
unfolding clap_on_literals
attest_found replay spelled e f =
    order_read attest_enters (replay ∷ codes "--module" ∷ spelled ∷ []) _ _
    (reads_more (read_plain (leaf_of attest) _ 1 idle replay e refl)
    (reads_more (record { faultless = refl; goes = refl })
    (reads_more (read_plain (leaf_of attest) _ 2 (option (codes "module")) spelled f refl)
    (reads_none (leaf_of attest) _)))) refl refl

here : (words given : List Text) (order : Order) → words ≡ given → Gives given order → Gives words order
here words given order is gives = subst (λ (ws : List Text). Gives ws order) (sym is) gives

pub says_gives : (words : List Text) (order : Order) → Says words order → Gives words order
says_gives words (Rehearse None None) (inl is) = here words _ _ is rehearse_alone.0
says_gives words (Rehearse None None) (inr is) = here words _ _ is rehearse_alone.1
says_gives words (Rehearse (Some name) None) (plain, is) = here words _ _ is (rehearse_named name plain)
says_gives words (Rehearse None (Some prefix)) (plain, is) = here words _ _ is (rehearse_written prefix plain)
says_gives words (Rehearse (Some name) (Some prefix)) (plain, also, is) =
    here words _ _ is (rehearse_both name prefix plain also)
says_gives words (RehearseInteractively None None) is = here words _ _ is interaction_alone
says_gives words (RehearseInteractively (Some name) None) (plain, is) = here words _ _ is (interaction_named name plain)
says_gives words (RehearseInteractively None (Some prefix)) (plain, is) = here words _ _ is
    (interaction_written prefix plain)
says_gives words (RehearseInteractively (Some name) (Some prefix)) (plain, also, is) =
    here words _ _ is (interaction_both name prefix plain also)
says_gives words (Check name) (plain, is) = here words _ _ is (check_named name plain)
says_gives words (Judge replay) (plain, is) = here words _ _ is (judge_named replay plain)
says_gives words (order.Appeal replay appeal) (word, plain, also, third, last, says, is) =
    let found = appeal_found replay appeal.turns appeal.tournament word plain also third last in
    here words _ _ is (
      found.0,
      found.1
          ∙ ap (λ (o : Option ℕ). option_map (order.Appeal replay) (appeal_of appeal.turns appeal.tournament o)) says,
    )
says_gives words (Recover part) (plain, is) = here words _ _ is (recover_named part plain)
says_gives words (RecoverContest tournament prefix) (plain, also, is) =
    here words _ _ is (contest_recovered tournament prefix plain also)
says_gives words (ContestTable tournament prefix) (plain, also, is) =
    here words _ _ is (contest_tabled tournament prefix plain also)
says_gives words (Table entries) (word, plain, says, is) =
    let found = table_found word plain in
    here words _ _ is (found.0, found.1 ∙ ap (λ (o : Option (List TableEntry)). option_map Table o) says)
says_gives words (Explain replay agent) (word, plain, also, says, is) =
    let found = explain_found replay word plain also in
    here words _ _ is (found.0, found.1 ∙ ap (λ (o : Option ℕ). option_map (Explain replay) o) says)
says_gives words (Twin replay node) (word, plain, also, says, is) =
    let found = twin_found replay word plain also in
    here words _ _ is (found.0, found.1 ∙ ap (λ (o : Option ℕ). option_map (Twin replay) o) says)
says_gives words (Explore tournament exploration) (word, plain, also, says, is) =
    let found = explore_found tournament word plain also in
    here words _ _ is (found.0, found.1 ∙ ap (λ (o : Option Exploration). option_map (Explore tournament) o) says)
says_gives words (ExploreModules tournament modules exploration)
    (word, spelled, plain, also, third, says, reads, is) =
    let found = module_explore_found tournament word spelled plain also third in
    here words _ _ is (
      found.0,
      found.1 ∙ ap (exploring_of tournament (spelled ∷ []) false) says
          ∙ ap (option_map (λ (m : List AgentModule). ExploreModules tournament m exploration)) reads,
    )
says_gives words (ExploreAllHoles tournament modules exploration)
    (word, spelled, plain, also, third, says, reads, is) =
    let found = all_holes_found tournament word spelled plain also third in
    here words _ _ is (
      found.0,
      found.1 ∙ ap (exploring_of tournament (spelled ∷ []) true) says
          ∙ ap (option_map (λ (m : List AgentModule). ExploreAllHoles tournament m exploration)) reads,
    )
says_gives words (Attest replay modules wakeups) (spelled, plain, also, says, reads, is) =
    let found = attest_found replay spelled plain also in
    here words _ _ is (
      found.0,
      found.1 ∙ ap (attesting_of replay (spelled ∷ [])) says
          ∙ ap (option_map (λ (m : List AgentModule). Attest replay m wakeups)) reads,
    )
says_gives words (Serve tournament hosting) (port, sessions, turns, pause, plain, also, says, is) =
    let found = serve_found tournament port sessions turns pause hosting.prefix plain also
    (hosting_plain port sessions turns pause hosting.prefix hosting says) in
    here words _ _ is (found.0, found.1 ∙ ap (λ (o : Option Hosting). option_map (Serve tournament) o) says)
