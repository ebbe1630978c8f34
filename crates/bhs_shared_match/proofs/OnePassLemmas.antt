-- One pass over the log, with an index for each agent.
use Rattle.std.proofs.Common.{◌≡◌, ℕ, zero, suc, ◌+◌, ◌<◌, ◌≤◌, Bool, true, false, not, ◌⊎◌, inl, inr, Option}
use Rattle.std.proofs.Common.{Some, None, List, [], ◌∷◌, ◌++◌, length, take, drop, map, refl, sym, ap, ◌∙◌, subst}
use Rattle.std.proofs.Common.{arith, get_or, append-nil, length-append, slice_set, length-set}
use Rattle.std.proofs.Common.{replicate, ◌==◌, if◌then◌else◌}
use Rattle.std.specs.Prelude.{slice_get, filter}
use Rattle.std.specs.List.{AllByRecursion, range_with_len}
use Rattle.std.proofs.lemmas.Bool.{cond-true, cond-false, eq-eqb}
use Rattle.std.proofs.lemmas.Bool.Decides.{eqb_tells}
use Rattle.std.proofs.lemmas.List.{get_or-set_other}
use Rattle.std.proofs.lemmas.Grind.{get_or-set_at}
use Rattle.bhs_model.specs.declared.commands.Command.{Command}
use Rattle.bhs_model.specs.declared.events.Event.TheVariants.{Tell}
use Rattle.bhs_model.specs.declared.marks.Kept.{Kept}
use Rattle.bhs_world.proofs.ListLemmas.{lt_tells}
use Rattle.bhs_match.specs.Matches.{Play}
use Rattle.bhs_shared_match.specs.Passes.{Passed}
use Rattle.bhs_shared_match.specs.Comparing.{HeardEntry, command_by, entry_of, entry_first, heard_from, heard_in}
use Rattle.bhs_shared_match.specs.Saying.{AllSay, AnyOther, IsSaid}
use Rattle.bhs_shared_match.specs.Settling.{Compared, lesser, has_pass, told_by, told_by_none, without_pass}
use Rattle.bhs_shared_match.specs.Settling.{commands_of}
use Rattle.bhs_shared_match.proofs.CompareLemmas.{taken, whole_parted}
use Rattle.bhs_shared_match.proofs.FoundLemmas.{AgreesAt, AnyDiffers, IsFound, still_agrees, same_agrees, found_agrees}
use Rattle.bhs_shared_match.proofs.FoundLemmas.{found_more}

-- the number of commands of each agent in the first events of a log
abbrev pub Counts : (log : List Kept) (heard : List ℕ) (place : ℕ) → Type 0
Counts log heard place = (agent : ℕ) → get_or heard agent 0 ≡ length (heard_from log agent 0 (take place log))

-- what was compared so far agrees
abbrev pub AgreeSoFar : (heard : List ℕ) → Option (ℕ × ℕ) → List (Compared HeardEntry) → Type 0
AgreeSoFar heard best all = AllByRecursion (λ one. (k : ℕ) → k < get_or heard one.agent 0 → AgreesAt best one k) all

-- the log was looked through so far
pub record IsSoFar (play : Play) (passes : List Passed) (log : List Kept) (heard : List ℕ) (place : ℕ)
    (best : Option (ℕ × ℕ)) : Type 0 where
  pub room : length heard ≡ 64
  pub counts : Counts log heard place
  pub agree : AgreeSoFar heard best (commands_of play passes)
  pub found : IsFound best (commands_of play passes)

zeros : (n agent : ℕ) → let none : ℕ = 0 in get_or (replicate n none) agent none ≡ none
zeros zero agent = refl
zeros (suc n) zero = refl
zeros (suc n) (suc agent) = zeros n agent

all_of : {A : Type 0} (P : A → Type 0) (xs : List A) → ((x : A) → P x) → AllByRecursion P xs
all_of P [] f = tt
all_of P (x ∷ xs) f = (f x, all_of P xs f)

all_both : {A : Type 0} (P Q R : A → Type 0) (xs : List A) → ((x : A) → P x → Q x → R x) → AllByRecursion P xs
    → AllByRecursion Q xs → AllByRecursion R xs
all_both P Q R [] f one two = tt
all_both P Q R (x ∷ xs) f one two = (f x one.0 two.0, all_both P Q R xs f one.1 two.1)

pub all_joined : {A : Type 0} (P : A → Type 0) (xs ys : List A) → AllByRecursion P xs → AllByRecursion P ys
    → AllByRecursion P (xs ++ ys)
all_joined P [] ys one two = two
all_joined P (x ∷ xs) ys one two = (one.0, all_joined P xs ys one.1 two)

pub all_right : {A : Type 0} (P : A → Type 0) (xs ys : List A) → AllByRecursion P (xs ++ ys) → AllByRecursion P ys
all_right P [] ys all = all
all_right P (x ∷ xs) ys all = all_right P xs ys all.1

all_mapped : {A B : Type 0} (P : B → Type 0) (f : A → B) (xs : List A) → ((x : A) → P (f x))
    → AllByRecursion P (map f xs)
all_mapped P f [] g = tt
all_mapped P f (x ∷ xs) g = (g x, all_mapped P f xs g)

pub begun_so_far : (play : Play) (passes : List Passed) (log : List Kept)
    → IsSoFar play passes log (replicate 64 0) 0 None
begun_so_far play passes log = record {
  room = refl;
  counts = λ agent. zeros 64 agent;
  agree = all_of _ (commands_of play passes) (λ one k below. absurd (omega (arith, below, zeros 64 one.agent)));
  found = tt;
}

-- All logged entries under comparison are read from the log.
logged_all : (play : Play) (passes : List Passed) → AllByRecursion (λ one. one.logged ≡ heard_in one.agent play.log)
    (commands_of play passes)
logged_all play passes =
    all_joined (λ one. one.logged ≡ heard_in one.agent play.log) (map (told_by play) passes)
    (map (told_by_none play) (without_pass passes play.setup.agents))
    (all_mapped (λ one. one.logged ≡ heard_in one.agent play.log) (told_by play) passes (λ pass. refl))
    (all_mapped (λ one. one.logged ≡ heard_in one.agent play.log) (told_by_none play)
    (without_pass passes play.setup.agents) (λ agent. refl))

-- an event other than this agent's commands
not_told : (log : List Kept) (agent place : ℕ) (one : Kept) → place < length log → one ≡ get_or log place one
    → command_by agent one.event ≡ None →
    length (heard_from log agent 0 (take (place + 1) log)) ≡ length (heard_from log agent 0 (take place log))
not_told log agent place one inside is none =
    let told = heard_from log agent 0 (take place log) in
    ap length (taken log agent place one inside is
    ∙ ap (λ (command : Option Command). told ++ entry_first log place command one.mark []) none ∙ append-nil told)

pub counts_skip : (play : Play) (passes : List Passed) (log : List Kept) (heard : List ℕ) (place : ℕ)
    (best : Option (ℕ × ℕ)) (one : Kept) → IsSoFar play passes log heard place best →
    place < length log → one ≡ get_or log place one → ((agent : ℕ) → command_by agent one.event ≡ None)
    → IsSoFar play passes log heard (place + 1) best
counts_skip play passes log heard place best one so_far inside is none = record {
  room = so_far.room;
  counts = λ agent. so_far.counts agent ∙ sym (not_told log agent place one inside is (none agent));
  agree = so_far.agree;
  found = so_far.found;
}

-- a command of an agent
counts_more : (log : List Kept) (heard : List ℕ) (place : ℕ) (one : Kept) (agent : ℕ) (command : Command) (index : ℕ)
    → Counts log heard place → place < length log → one ≡ get_or log place one →
    one.event ≡ Tell agent command → agent < length heard → index ≡ get_or heard agent 0
    → Counts log (slice_set heard agent (index + 1)) (place + 1)
counts_more log heard place one agent command index counts inside is told within at other =
    elim (eqb_tells other agent) [
      | inl e ↦
          let its : command_by other one.event ≡ Some command = ap (command_by other) told
          ∙ cond-true (other == agent) _ _ e.0 in
          let before = heard_from log other 0 (take place log) in
          let more : length (heard_from log other 0 (take (place + 1) log)) ≡ length before + 1 =
          ap length (taken log other place one inside is
          ∙ ap (λ (command : Option Command). before ++ entry_first log place command one.mark []) its)
          ∙ length-append before _ in
          let same : index ≡ length before = at ∙ ap (λ (a : ℕ). get_or heard a 0) (sym e.1) ∙ counts other in
          get_or-set_at heard agent other (index + 1) 0 e.1 within ∙ ap (λ (n : ℕ). n + 1) same ∙ sym more
      | inr e ↦
          let none : command_by other one.event ≡ None = ap (command_by other) told
          ∙ cond-false (other == agent) _ _ e.0 in
          get_or-set_other heard agent other (index + 1) 0 e.1 ∙ counts other
          ∙ sym (not_told log other place one inside is none)
    ]

-- what agrees where one index goes on
agree_more : (all : List (Compared HeardEntry)) (heard : List ℕ) (agent index : ℕ) (best now : Option (ℕ × ℕ))
    → agent < length heard → index ≡ get_or heard agent 0 →
    ((one : Compared HeardEntry) (k : ℕ) → AgreesAt best one k → AgreesAt now one k)
    → AllByRecursion (λ one. one.agent ≡ agent → AgreesAt now one index) all →
    AgreeSoFar heard best all → AgreeSoFar (slice_set heard agent (index + 1)) now all
agree_more all heard agent index best now within at keeps here agree =
    all_both (λ one. one.agent ≡ agent → AgreesAt now one index)
    (λ one. (k : ℕ) → k < get_or heard one.agent 0 → AgreesAt best one k)
    (λ one. (k : ℕ) → k < get_or (slice_set heard agent (index + 1)) one.agent 0 → AgreesAt now one k) all
    (λ one new old k below. elim (eqb_tells one.agent agent) [
      | inl e ↦
          let top : get_or (slice_set heard agent (index + 1)) one.agent 0 ≡ index + 1 =
          get_or-set_at heard agent one.agent (index + 1) 0 e.1 within in
          let its : get_or heard one.agent 0 ≡ index = ap (λ (a : ℕ). get_or heard a 0) e.1 ∙ sym at in
          elim (lt_tells k index) [
            | inl h ↦ keeps one k (old k (omega (arith, h.1, its)))
            | inr h ↦ let last : k ≡ index = omega (arith, h.1, below, top) in
                subst (λ (k : ℕ). AgreesAt now one k) (sym last) (new e.1)
          ]
      | inr e ↦ keeps one k (old k (subst (λ (n : ℕ). k < n)
          (get_or-set_other heard agent one.agent (index + 1) 0 e.1) below))
    ]) here agree

-- the entry stands in the log at its agent's index
entry_there : (log : List Kept) (place : ℕ) (one : Kept) (agent : ℕ) (command : Command) → place < length log
    → one ≡ get_or log place one → one.event ≡ Tell agent command →
    slice_get (heard_in agent log) (length (heard_from log agent 0 (take place log))) ≡ Some
    (entry_of log place command one.mark)
entry_there log place one agent command inside is told =
    let its : command_by agent one.event ≡ Some command = ap (command_by agent) told
    ∙ cond-true (agent == agent) _ _ (eq-eqb agent agent refl) in
    let before = heard_from log agent 0 (take place log) in
    let rest = heard_from log agent (place + 1) (drop (suc place) log) in
    ap (λ (all : List HeardEntry). slice_get all (length before))
    (whole_parted log agent place one inside is
    ∙ ap (λ (command : Option Command). before ++ entry_first log place command one.mark rest) its)
    ∙ at_end before rest (entry_of log place command one.mark)
  where
    at_end : (xs ys : List HeardEntry) (y : HeardEntry) → slice_get (xs ++ y ∷ ys) (length xs) ≡ Some y
    at_end [] ys y = refl
    at_end (x ∷ xs) ys y = at_end xs ys y

-- the receipts' claims, for everything under comparison
all_say : (play : Play) (passes : List Passed) (agent index : ℕ) (entry : HeardEntry) → has_pass passes agent ≡ true
    → AllSay agent index entry passes →
    AllByRecursion (λ one. one.agent ≡ agent → slice_get one.said index ≡ Some entry) (commands_of play passes)
all_say play passes agent index entry has say =
    all_joined Says (map (told_by play) passes) (map (told_by_none play) (without_pass passes play.setup.agents))
    (by_pass passes say) (by_none (range_with_len 0 play.setup.agents))
  where
    Says : Compared HeardEntry → Type 0
    Says one = one.agent ≡ agent → slice_get one.said index ≡ Some entry

    by_pass : (some : List Passed) → AllSay agent index entry some → AllByRecursion Says (map (told_by play) some)
    by_pass [] all = tt
    by_pass (pass ∷ some) all = (all.0, by_pass some all.1)

    first : (b : Bool) (other : ℕ) (others : List ℕ) → b ≡ not (has_pass passes other)
        → AllByRecursion Says (map (told_by_none play) others)
        → AllByRecursion Says (map (told_by_none play) (if b then other ∷ others else others))
    first true other others is all = (
      λ same. absurd
          (cannot (is ∙ ap (λ (a : ℕ). not (has_pass passes a)) same ∙ ap not has)),
      all,
    )
      where
        cannot : true ≡ false → ⊥
        cannot e = cc
    first false other others is all = all

    by_none : (agents : List ℕ) → AllByRecursion Says
        (map (told_by_none play) (filter (λ agent. not (has_pass passes agent)) agents))
    by_none [] = tt
    by_none (other ∷ others) = first (not (has_pass passes other)) other
        (filter (λ agent. not (has_pass passes agent)) others) refl (by_none others)

pub any_left : (agent index : ℕ) (xs ys : List (Compared HeardEntry)) → AnyDiffers agent index xs
    → AnyDiffers agent index (xs ++ ys)
any_left agent index [] ys any = absurd any
any_left agent index (x ∷ xs) ys any = elim any [ inl h ↦ inl h | inr h ↦ inr (any_left agent index xs ys h) ]

any_right : (agent index : ℕ) (xs ys : List (Compared HeardEntry)) → AnyDiffers agent index ys
    → AnyDiffers agent index (xs ++ ys)
any_right agent index [] ys any = any
any_right agent index (x ∷ xs) ys any = inr (any_right agent index xs ys any)

-- what a pass does not say differs
any_other : (play : Play) (passes : List Passed) (agent index : ℕ) (entry : HeardEntry)
    → slice_get (heard_in agent play.log) index ≡ Some entry → AnyOther agent index entry passes
    → AnyDiffers agent index (map (told_by play) passes)
any_other play [] agent index entry there other = absurd other
any_other play (pass ∷ passes) agent index entry there other = elim other [
  | inl h ↦ inl (h.0, λ same. h.1 (sym same ∙ ap (λ (a : ℕ). slice_get (heard_in a play.log) index) h.0 ∙ there))
  | inr h ↦ inr (any_other play passes agent index entry there h)
]

-- what nobody says differs
any_none : (play : Play) (passes : List Passed) (agent index : ℕ) (entry : HeardEntry)
    → slice_get (heard_in agent play.log) index ≡ Some entry → has_pass passes agent ≡ false → (start count : ℕ)
    → start ≤ agent → agent < start + count →
    AnyDiffers agent index (map (told_by_none play)
    (filter (λ agent. not (has_pass passes agent)) (range_with_len start count)))
any_none play passes agent index entry there none start zero above below = absurd (omega (arith, above, below))
any_none play passes agent index entry there none start (suc count) above below = elim (eqb_tells start agent) [
  | inl e ↦
      let without : not (has_pass passes start) ≡ true = ap (λ (a : ℕ). not (has_pass passes a)) e.1 ∙ ap not none in
      subst (λ (agents : List ℕ). AnyDiffers agent index (map (told_by_none play) agents))
      (sym (cond-true (not (has_pass passes start)) (start ∷ others) others without))
      (inl (e.1, λ same. cannot (sym (ap (λ (a : ℕ). slice_get (heard_in a play.log) index) e.1 ∙ there) ∙ same)))
  | inr e ↦ first (not (has_pass passes start))
      (any_none play passes agent index entry there none (start + 1) count (omega (arith, above, e.1))
      (omega (arith, below)))
]
  where
    others : List ℕ
    others = filter (λ agent. not (has_pass passes agent)) (range_with_len (start + 1) count)

    cannot : Some entry ≡ None → ⊥
    cannot e = cc

    first : (b : Bool) → AnyDiffers agent index (map (told_by_none play) others)
        → AnyDiffers agent index (map (told_by_none play) (if b then start ∷ others else others))
    first true any = inr any
    first false any = any

-- one command more: where the passes say it, nothing is found; else this place is
pub counts_on : (play : Play) (passes : List Passed) (log : List Kept) (heard : List ℕ) (place : ℕ)
    (best now : Option (ℕ × ℕ)) (one : Kept) (agent index : ℕ) (command : Command) (said : Bool)
    → IsSoFar play passes log heard place best →
    log ≡ play.log → place < length log → one ≡ get_or log place one → one.event ≡ Tell agent command → agent < 64
    → agent < play.setup.agents → index ≡ get_or heard agent 0 →
    IsSaid said passes agent index (entry_of log place command one.mark)
    → now ≡ (if said then best else lesser best agent (Some index))
    → IsSoFar play passes log (slice_set heard agent (index + 1)) (place + 1) now
counts_on play passes log heard place best now one agent index command said so_far same inside is told small within at
    says made = by_said said says made
  where
    room : agent < length heard
    room = omega (arith, small, so_far.room)

    entry : HeardEntry
    entry = entry_of log place command one.mark

    there : slice_get (heard_in agent play.log) index ≡ Some entry
    there =
        ap (λ (log : List Kept). slice_get (heard_in agent log) index) (sym same)
        ∙ ap (λ (n : ℕ). slice_get (heard_in agent log) n) (at ∙ so_far.counts agent)
        ∙ entry_there log place one agent command inside is told

    so_on : (now : Option (ℕ × ℕ)) → AgreeSoFar (slice_set heard agent (index + 1)) now (commands_of play passes)
        → IsFound now (commands_of play passes)
        → IsSoFar play passes log (slice_set heard agent (index + 1)) (place + 1) now
    so_on now agree found = record {
      room = length-set heard agent (index + 1) ∙ so_far.room;
      counts = counts_more log heard place one agent command index so_far.counts inside is told room at;
      agree = agree;
      found = found;
    }

    differs : (has_pass passes agent ≡ false) ⊎ AnyOther agent index entry passes
        → AnyDiffers agent index (commands_of play passes)
    differs why = elim why [
      | inl h ↦ any_right agent index (map (told_by play) passes) _
          (any_none play passes agent index entry there h 0 play.setup.agents (omega arith) (omega (arith, within)))
      | inr h ↦ any_left agent index (map (told_by play) passes) _ (any_other play passes agent index entry there h)
    ]

    by_said : (said : Bool) → IsSaid said passes agent index entry
        → now ≡ (if said then best else lesser best agent (Some index))
        → IsSoFar play passes log (slice_set heard agent (index + 1)) (place + 1) now
    by_said true says made =
        let here = all_both (λ one. one.logged ≡ heard_in one.agent play.log)
        (λ one. one.agent ≡ agent → slice_get one.said index ≡ Some entry)
        (λ one. one.agent ≡ agent → AgreesAt best one index) (commands_of play passes)
        (λ one logged said its. same_agrees best one index
        (ap (λ (xs : List HeardEntry). slice_get xs index) logged
        ∙ ap (λ (a : ℕ). slice_get (heard_in a play.log) index)
        its ∙ there ∙ sym (said its)))
        (logged_all play passes) (all_say play passes agent index entry says.0 says.1) in
        rw made (so_on best (agree_more (commands_of play passes) heard agent index best best room at (λ one k old. old)
        here so_far.agree) so_far.found)
    by_said false says made =
        let later : Option (ℕ × ℕ) = lesser best agent (Some index) in
        let here = all_of (λ one. one.agent ≡ agent → AgreesAt later one index) (commands_of play passes)
        (λ one its. found_agrees best agent index one index its (omega arith)) in
        rw made (so_on later (agree_more (commands_of play passes) heard agent index best later room at
        (λ one k old. still_agrees best agent (Some index) one k old) here so_far.agree)
        (found_more best agent index (commands_of play passes) so_far.found (differs says)))
