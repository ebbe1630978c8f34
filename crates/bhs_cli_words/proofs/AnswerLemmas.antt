-- What an error tells, and which answer the words get.
use Rattle.std.proofs.Common.{◌≡◌, ◌≢◌, ◌⊎◌, ◌↔◌, ◌∙◌, ◌||◌, IsTrue, ap, subst, sym, refl, inl, inr, not, true≢false}
use Rattle.std.proofs.Common.{Bool, true, false, List, [], ◌∷◌, Option, Some, None, Result, Ok, Err, IfOk, arith}
use Rattle.std.proofs.Common.{is_some, eqb-true, length, suc}
use Rattle.std.specs.Prelude.{IsErr, if◌then◌else◌, option_and_then}
use Rattle.std.specs.List.{list_any}
use Rattle.clap.specs.Words.{App, Row, Text, fault_of, is_simple, is_simple_and_free, subcommand_of}
use Rattle.clap.specs.Walk.{is_empty}
use Rattle.clap.specs.Kinds.{IsAmong, Kinds}
use Rattle.clap.specs.declared.error.kind.ErrorKind.{ErrorKind}
use Rattle.clap.specs.declared.error.kind.ErrorKind.TheVariants.{DisplayHelp, DisplayVersion, OutOfMemory}
use Rattle.bhs_cli_words.specs.CommandLine.{AreRefused, AsksHelp, AsksVersion, Explains, Parses, Says, arena}
use Rattle.bhs_cli_words.specs.CommandLine.{command_in, faults, is_asked, is_refused, is_shown, order_by, order_in}
use Rattle.bhs_cli_words.specs.declared.Parsed.{Parsed}
use Rattle.bhs_cli_words.specs.declared.Parsed.TheVariants.{Ordered, Refused, Shown}
use Rattle.bhs_cli_words.specs.declared.orders.Order.{Order}
use Rattle.bhs_cli_words.proofs.WordLemmas.{arena_is_free, arena_is_simple, help_fault, kind≢none, no_word_fault}
use Rattle.bhs_cli_words.proofs.WordLemmas.{version_fault}
use Rattle.bhs_cli_words.proofs.WordLemmas.{says_gives}

asked_kind : (kind : ErrorKind) → is_asked kind ≡ true → (kind ≡ DisplayHelp) ⊎ (kind ≡ DisplayVersion)
asked_kind DisplayHelp e = inl refl
asked_kind DisplayVersion e = inr refl
asked_kind _ e = absurd (true≢false (sym e))

-- an error for standard error asks for nothing
pub mistake_told : (kind : ErrorKind) → (kind ≢ DisplayHelp) × (kind ≢ DisplayVersion) → is_asked kind ≡ false
mistake_told kind other = go (is_asked kind) refl
  where
    go : (b : Bool) → is_asked kind ≡ b → b ≡ false
    go false e = refl
    go true e = absurd (elim (asked_kind kind e) [ inl h ↦ other.0 h | inr h ↦ other.1 h ])

-- another one asks for help or the version
pub asked_told : (kind : ErrorKind) (stderr : Bool) → IsTrue stderr ↔ ((kind ≢ DisplayHelp) × (kind ≢ DisplayVersion))
    → stderr ≡ false → is_asked kind ≡ true
asked_told kind stderr says not_stderr = go (is_asked kind) refl
  where
    go : (b : Bool) → is_asked kind ≡ b → b ≡ true
    go true e = refl
    go false e =
        let differs : (other : ErrorKind) → is_asked other ≡ true → kind ≢ other =
        λ other asks same. true≢false (sym asks ∙ ap is_asked (sym same) ∙ e) in
        absurd (true≢false (sym (says.1 (differs DisplayHelp refl, differs DisplayVersion refl)) ∙ not_stderr))

-- a test that one of the kinds passes
pub some_passes : (test : ErrorKind → Bool) (kind : ErrorKind) (kinds : Kinds) → IsAmong kind kinds → test kind ≡ true
    → list_any test kinds ≡ true
some_passes test kind [] among passes = absurd among
some_passes test kind (k ∷ ks) (inl same) passes = or_first (test k) (list_any test ks) (ap test (sym same) ∙ passes)
  where
    or_first : (a b : Bool) → a ≡ true → (a || b) ≡ true
    or_first true b e = refl
    or_first false b e = absurd (true≢false (sym e))
some_passes test kind (k ∷ ks) (inr among) passes =
    or_second (test k) (list_any test ks) (some_passes test kind ks among passes)
  where
    or_second : (a b : Bool) → b ≡ true → (a || b) ≡ true
    or_second true b e = refl
    or_second false b e = e

-- ---- the answers that the words get

-- the words get the answer that tells their error
pub error_answered : {E : Type 0} (r : Result Parsed E) (kind : ErrorKind) (words : List Text) → (kind ≡ OutOfMemory)
    ⊎ IsAmong kind (faults words)
    → IfOk r (Explains kind) → (kind ≡ OutOfMemory → IsErr r) → IfOk r (Parses words)
error_answered (Err x) kind words has tells memory = tt
error_answered (Ok answer) kind words (inl out) tells memory = absurd (true≢false (sym (memory out)))
error_answered (Ok (Ordered order)) kind words (inr among) tells memory = absurd tells
error_answered (Ok (Shown text)) kind words (inr among) tells memory =
    some_passes is_asked kind (faults words) among tells
error_answered (Ok (Refused text)) kind words (inr among) tells memory =
    inl (some_passes (λ k. not (is_asked k)) kind (faults words) among (ap not tells))

none_empty : (kinds : Kinds) → is_empty kinds ≡ true → kinds ≡ []
none_empty [] e = refl
none_empty (k ∷ ks) e = let bad : suc (length ks) ≡ 0 = eqb-true (length (k ∷ ks)) 0 e in absurd (omega (arith, bad))

-- words that give an order have no fault
ordered_taken : (words : List Text) (order : Order) → order_in words ≡ Some order → faults words ≡ []
ordered_taken words order e = none_empty (faults words) (go (is_empty (faults words)) e)
  where
    go : (b : Bool) → (if b then option_and_then order_by (command_in words) else None) ≡ Some order → b ≡ true
    go true e = refl
    go false e = absurd (true≢false (sym (ap is_some e)))

-- words that are refused have a fault, or give no order
refused_none : (words : List Text) → AreRefused words → faults words ≡ [] → order_in words ≡ None
refused_none words (inl faulty) none = absurd
    (true≢false (sym faulty ∙ ap (list_any (λ kind. not (is_asked kind))) none))
refused_none words (inr unfit) none = unfit.1

some≢none : (order : Order) → (let one : Option Order = Some order in one ≡ None) → ⊥
some≢none order e = true≢false (ap is_some e)

-- words without a fault that give an order are answered by it
says_order : (words : List Text) (order : Order) → Says words order → order_in words ≡ Some order
says_order words order says =
    let gives = says_gives words order says in
    ap (λ (kinds : Kinds). if is_empty kinds then option_and_then order_by (command_in words) else None)
    gives.0 ∙ gives.1

pub plainly_answered : (words : List Text) (answer : Parsed) → Parses words answer → (order : Order) → Says words order
    → answer ≡ Ordered order
plainly_answered words (Ordered other) e order says = ap order_or_this (sym e ∙ says_order words order says)
  where
    order_or_this : Option Order → Parsed
    order_or_this None = Ordered order
    order_or_this (Some one) = Ordered one
plainly_answered words (Shown text) e order says =
    absurd (true≢false (sym e ∙ ap (list_any is_asked) (says_gives words order says).0))
plainly_answered words (Refused text) e order says =
    absurd (some≢none order (sym (says_order words order says) ∙ refused_none words e (says_gives words order says).0))

-- words that only ask for something are shown it
shown_answered : (words : List Text) (answer : Parsed) (kind : ErrorKind) → Parses words answer
    → faults words ≡ kind ∷ [] → is_asked kind ≡ true → is_shown answer ≡ true
shown_answered words (Ordered order) kind e one asked = absurd (kind≢none _ _ (sym one ∙ ordered_taken words order e))
shown_answered words (Shown text) kind e one asked = refl
shown_answered words (Refused text) kind (inl e) one asked =
    absurd (true≢false (sym e ∙ ap (list_any (λ kind. not (is_asked kind))) one ∙ ap (λ b. not b || false) asked))
shown_answered words (Refused text) kind (inr e) one asked = absurd (kind≢none _ _ (sym one ∙ e.0))

pub no_word_answered : (words : List Text) (answer : Parsed) → Parses words answer → words ≡ []
    → is_refused answer ≡ true
no_word_answered words (Ordered order) e none =
    absurd (kind≢none _ _ (sym (no_word_fault words none) ∙ ordered_taken words order e))
no_word_answered words (Shown text) e none = absurd
    (true≢false (sym e ∙ ap (list_any is_asked) (no_word_fault words none)))
no_word_answered words (Refused text) e none = refl

-- what the contract says of an answer beside `Parses`
pub record Plainly (words : List Text) (answer : Parsed) : Type 0 where
  pub plain : (order : Order) → Says words order → answer ≡ Ordered order
  pub help : AsksHelp words → is_shown answer ≡ true
  pub version : AsksVersion words → is_shown answer ≡ true
  pub no_word : words ≡ [] → is_refused answer ≡ true

pub plainly : (words : List Text) (answer : Parsed) → Parses words answer → Plainly words answer
plainly words answer e = record {
  plain = plainly_answered words answer e;
  help = λ asks. shown_answered words answer DisplayHelp e (help_fault words asks) refl;
  version = λ asks. shown_answered words answer DisplayVersion e (version_fault words asks) refl;
  no_word = no_word_answered words answer e;
}

pub all_plainly : {E : Type 0} (r : Result Parsed E) (words : List Text) → IfOk r (Parses words)
    → IfOk r (λ answer. (order : Order) → Says words order → answer ≡ Ordered order)
    × IfOk r (λ answer. AsksHelp words → is_shown answer ≡ true)
    × IfOk r (λ answer. AsksVersion words → is_shown answer ≡ true)
    × IfOk r (λ answer. words ≡ [] → is_refused answer ≡ true)
all_plainly (Ok answer) words answers = let p = plainly words answer answers in (p.plain, p.help, p.version, p.no_word)
all_plainly (Err x) words answers = (tt, tt, tt, tt)

-- what clap's answers are over the command line as it is told
module _ (a : App) (is : a ≡ arena) (words : List Text) where
  pub simple_here : is_simple a ≡ true
  simple_here = ap is_simple is ∙ arena_is_simple

  pub free_here : is_simple_and_free a ≡ true
  free_here = ap is_simple_and_free is ∙ arena_is_free

  -- clap's matches give the order of the words, or none
  pub order_same : (rows : Option (Text × List Row)) (order : Option Order) → fault_of a words ≡ []
      → rows ≡ subcommand_of a words
      → option_and_then order_by rows ≡ order → order_in words ≡ order
  order_same rows order none same given =
      sym (ap (option_and_then order_by) (same ∙ ap (λ (b : App). subcommand_of b words) is)
      ∙ ap (λ (kinds : Kinds). if is_empty kinds then option_and_then order_by (command_in words) else None)
      (sym none ∙ ap (λ (b : App). fault_of b words) is))
      ∙ given

  pub refused_here : (rows : Option (Text × List Row)) → fault_of a words ≡ [] → rows ≡ subcommand_of a words
      → option_and_then order_by rows ≡ None → AreRefused words
  refused_here rows none same given = inr (
    ap (λ (b : App). fault_of b words) (sym is)
        ∙ none,
    order_same rows None none same given,
  )

  pub kind_here : (kind : ErrorKind) → (kind ≡ OutOfMemory) ⊎ IsAmong kind (fault_of a words) → (kind ≡ OutOfMemory)
      ⊎ IsAmong kind (faults words)
  kind_here kind has = subst (λ (b : App). (kind ≡ OutOfMemory) ⊎ IsAmong kind (fault_of b words)) is has
