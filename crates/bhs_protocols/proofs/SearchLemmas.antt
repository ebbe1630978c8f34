-- Searches by two agents that have the nodes in an order and in its opposite: their whiteboards, where the black hole
-- is, and when a match is solved.
use Rattle.std.proofs.Common.{ℕ, zero, suc, ◌+◌, ◌-◌, ◌*◌, ◌/◌, ◌%◌, ◌<◌, ◌≤◌, ◌≡◌, ◌⊎◌, Bool, true, false, not, ◌&&◌}
use Rattle.std.proofs.Common.{◌||◌, ◌==◌, Some, None, List, [], ◌∷◌, length, refl, sym, ap, ◌∙◌, subst, if◌then◌else◌}
use Rattle.std.proofs.Common.{nat_lt, inl, inr, arith}
use Rattle.std.specs.Prelude.{◌≢◌, bytes_eq, cond, find, count_by}
use Rattle.std.specs.List.{list_any, range_with_len}
use Rattle.std.proofs.lemmas.List.Recursion.{is_count_by}
use Rattle.std.proofs.lemmas.Bool.{lt-ltb, ltb-true, true≢false, eq-eqb, ne_eqb, cond-false}
use Rattle.std.proofs.lemmas.Bool.Decides.{eqb_tells}
use Rattle.std.proofs.lemmas.Slice.Eq.{bytes_eq-Decides}
use Rattle.bhs_model.specs.Worlds.{World, doomed, is_hole, is_dark}
use Rattle.bhs_model.specs.Runs.{After, is_doomed}
use Rattle.bhs_model.proofs.StepLemmas.{by_cases}
use Rattle.bhs_referee.specs.declared.verdicts.Outcome.TheVariants.{Solved}
use Rattle.bhs_referee.specs.Verdicts.{passes, accuses, is_dark_accused, is_hole_accused, is_over_dark, is_right}
use Rattle.bhs_referee.specs.Verdicts.{is_silent, is_present, is_unfinished, is_unreached, first_unreached}
use Rattle.bhs_referee.specs.Verdicts.{guess_or_solved}
use Rattle.bhs_schedules.specs.Schedules.{Trial}
use Rattle.bhs_protocols.specs.Configurations.{Configuration, can_move_in, doomed_in, found_in, outcome_in, turn_in}
use Rattle.bhs_protocols.specs.Invariants.{GoesOn}
use Rattle.bhs_protocols.specs.Rings.{Ways, IsSearch}
use Rattle.bhs_protocols.specs.Shuttle.{board_text, right_in, left_in, other_in, text_by}

-- ---- the whiteboard

pub digits : (k : ℕ) → (32 + k / 64 - 32) * 64 + (32 + k % 64 - 32) ≡ k
digits k = omega arith

pub right_of : (right left : ℕ) → right_in (board_text right left) ≡ right
right_of zero zero = refl
right_of zero (suc left) = digits 0
right_of (suc right) zero = digits (suc right)
right_of (suc right) (suc left) = digits (suc right)

pub left_of : (right left : ℕ) → left_in (board_text right left) ≡ left
left_of zero zero = refl
left_of zero (suc left) = digits (suc left)
left_of (suc right) zero = digits 0
left_of (suc right) (suc left) = digits (suc left)

pub text_short : (right left : ℕ) → length (board_text right left) ≤ 4
text_short zero zero = omega arith
text_short zero (suc left) = omega arith
text_short (suc right) zero = omega arith
text_short (suc right) (suc left) = omega arith

-- ---- the two sides

abbrev pub opposite : ℕ → ℕ
opposite zero = 1
opposite (suc k) = 0

-- an agent and its partner
pub record Pair (s o : ℕ) : Type 0 where
  pub own : s < 2
  pub other : o < 2
  pub is : o ≡ opposite s
  pub was : s ≡ opposite o

pub swapped_pair : (s o : ℕ) → Pair s o → Pair o s
swapped_pair s o pair = record { own = pair.other; other = pair.own; is = pair.was; was = pair.is }

pub zero_one : Pair 0 1
zero_one = record { own = omega arith; other = omega arith; is = refl; was = refl }

pub one_zero : Pair 1 0
one_zero = swapped_pair 0 1 zero_one

-- An invariant that is the same seen from either agent goes on, whoever takes the turn.
pub either_goes_on : (trial : Trial) (Holds : (s o : ℕ) → Configuration → (left : ℕ) → Type 0)
    → ((s o : ℕ) (configuration : Configuration) (left : ℕ) → Pair s o → Holds s o configuration left
    → Holds o s configuration left)
    → ((s o : ℕ) (configuration : Configuration) (left : ℕ) → Pair s o → can_move_in trial configuration s ≡ true
    → Holds s o configuration left → GoesOn (Holds s o) left (turn_in trial configuration s))
    → (configuration : Configuration)
    (left agent : ℕ) → agent < 2 → can_move_in trial configuration agent ≡ true → Holds 0 1 configuration left
    → GoesOn (Holds 0 1) left (turn_in trial configuration agent)
either_goes_on trial Holds turned goes_on configuration left zero below moves held =
    goes_on 0 1 configuration left zero_one moves held
either_goes_on trial Holds turned goes_on configuration left (suc zero) below moves held =
    let on : GoesOn (Holds 1 0) left (turn_in trial configuration 1) =
    goes_on 1 0 configuration left one_zero moves (turned 0 1 configuration left zero_one held) in
    record {
      rest = on.rest;
      fewer = on.fewer;
      holds =
          turned 1 0 (turn_in trial configuration 1) on.rest one_zero on.holds;
    }
either_goes_on trial Holds turned goes_on configuration left (suc (suc k)) below moves held =
    absurd (omega (arith, below))

-- Case analysis: an agent is number 0 or number 1.
pub both : (P : ℕ → Type 0) → P 0 → P 1 → (s : ℕ) → s < 2 → P s
both P zeroth first zero below = zeroth
both P zeroth first (suc zero) below = first
both P zeroth first (suc (suc k)) below = absurd (omega (arith, below))

pub others_are : (s o : ℕ) → Pair s o → (s == o) ≡ false
others_are s o pair =
    subst (λ (k : ℕ). (s == k) ≡ false) (sym pair.is)
    (both (λ (k : ℕ). (k == opposite k) ≡ false) refl refl s pair.own)

pub apart_from : (s o : ℕ) → Pair s o → (o == s) ≡ false
apart_from s o pair = others_are o s (swapped_pair s o pair)

pub text_other : (s o a b : ℕ) → Pair s o → text_by o b a ≡ text_by s a b
text_other s o a b pair =
    subst (λ (k : ℕ). text_by k b a ≡ text_by s a b) (sym pair.is)
    (both (λ (k : ℕ). text_by (opposite k) b a ≡ text_by k a b) refl refl s pair.own)

pub read_other : (s a b : ℕ) → s < 2 → other_in s (text_by s a b) ≡ b
read_other s a b below = both (λ (k : ℕ). other_in k (text_by k a b) ≡ b) (left_of a b) (right_of b a) s below

pub text_fits : (s a b : ℕ) → s < 2 → length (text_by s a b) ≤ 4
text_fits s a b below =
    both (λ (k : ℕ). length (text_by k a b) ≤ 4) (text_short a b) (text_short b a) s below

pub bytes_same : (xs : List ℕ) → bytes_eq xs xs ≡ true
bytes_same xs = (bytes_eq-Decides xs xs).1 refl

-- who expects what was shown earlier sees that it has changed
pub bytes_other : (s a b c : ℕ) → s < 2 → b ≢ c → bytes_eq (text_by s a b) (text_by s a c) ≡ false
bytes_other s a b c below other = by_cases (bytes_eq (text_by s a b) (text_by s a c))
    (bytes_eq (text_by s a b) (text_by s a c) ≡ false)
    (λ yes. absurd (other (sym (read_other s a b below)
    ∙ ap (other_in s) ((bytes_eq-Decides (text_by s a b) (text_by s a c)).0 yes) ∙ read_other s a c below)))
    (λ none. none)

-- ---- where the black hole is

-- Two agents search a world of n nodes with one black hole. Each has an order of the nodes from the home base, which is
-- the other's turned round, and the black hole has these numbers in the two orders.
pub record IsTwoSided (world : World) (n right left : ℕ) (node_at : (side place : ℕ) → ℕ) : Type 0 where
  pub size : world.net.nodes ≡ n
  pub home : (side : ℕ) → node_at side 0 ≡ world.home
  pub around : (place rest : ℕ) → place + rest ≡ n → 0 < place → 0 < rest → node_at 1 place ≡ node_at 0 rest
  pub apart : (one other : ℕ) → one < n → other < n → node_at 0 one ≡ node_at 0 other → one ≡ other
  pub all : (it : ℕ) → it < n → (place : ℕ) × (place < n) × (node_at 0 place ≡ it)
  pub sum : right + left ≡ n
  pub not_home : 0 < right
  pub nor_around : 0 < left
  pub hole : world.holes ≡ node_at 0 right ∷ []
  pub none_dark : world.dark ≡ []
  pub agents : world.agents ≡ 2

-- on a ring
pub sides : {world : World} {n right left : ℕ} {ways : Ways} → IsSearch world n right left ways
    → IsTwoSided world n right left ways.node
sides search = record {
  size = search.ring.size;
  home = search.ring.home;
  around = search.ring.around;
  apart = search.ring.apart;
  all = search.ring.all;
  sum = search.sum;
  not_home = search.not_home;
  nor_around = search.nor_around;
  hole = search.hole;
  none_dark = search.none_dark;
  agents = search.agents;
}

module _ {world : World} {n right left : ℕ} {node_at : (side place : ℕ) → ℕ}
    (search : IsTwoSided world n right left node_at) where
  -- the number of the black hole on each side
  abbrev pub distance : ℕ → ℕ
  distance zero = right
  distance (suc k) = left

  pub agents_two : (s : ℕ) → s < 2 → s < world.agents
  agents_two s below = subst (λ (k : ℕ). s < k) (sym search.agents) below

  pub sum_is : (s o : ℕ) → Pair s o → distance s + distance o ≡ n
  sum_is s o pair =
      let sum : right + left ≡ n = search.sum in
      subst (λ (k : ℕ). distance s + distance k ≡ n) (sym pair.is)
      (both (λ (k : ℕ). distance k + distance (opposite k) ≡ n) sum (omega (arith, sum)) s pair.own)

  pub positive : (s : ℕ) → s < 2 → 0 < distance s
  positive s below = both (λ (k : ℕ). 0 < distance k) search.not_home search.nor_around s below

  pub within_n : (s : ℕ) → s < 2 → distance s < n
  within_n s below =
      let sum : right + left ≡ n = search.sum in let first : 0 < right = search.not_home in
      let second : 0 < left = search.nor_around in
      both (λ (k : ℕ). distance k < n) (omega (arith, sum, first, second)) (omega (arith, sum, first, second)) s below

  -- ---- the links

  -- what a link destroys by, where this node is at its far end
  pub doomed_is : (node port target label : ℕ) → world.net.far node port ≡ (target, label)
      → doomed world node port ≡ (node_at 0 right == target)
  doomed_is node port target label far =
      (λ i. is_hole (search.hole i) (far i).0 || is_dark world.net.far (search.none_dark i) node port)
      ∙ or_none (node_at 0 right == target)
    where
      or_none : (b : Bool) → ((b || false) || false) ≡ b
      or_none true = refl
      or_none false = refl

  pub hole_at : (s : ℕ) → s < 2 → node_at s (distance s) ≡ node_at 0 right
  hole_at s below =
      let sum : right + left ≡ n = search.sum in
      both (λ (k : ℕ). node_at k (distance k) ≡ node_at 0 right) refl
      (search.around left right (omega (arith, sum)) search.nor_around search.not_home) s below

  -- No node before the black hole is a black hole.
  safe_right : (steps : ℕ) → steps < right → (node_at 0 right == node_at 0 steps) ≡ false
  safe_right steps before = ne_eqb (node_at 0 right) (node_at 0 steps) (λ h.
      let below : right < n = within_n 0 (omega arith) in
      let same : right ≡ steps = search.apart right steps below (omega (arith, before, below)) h in
      omega (arith, same, before))

  safe_left : (steps : ℕ) → steps < left → (node_at 0 right == node_at 1 steps) ≡ false
  safe_left zero before =
      subst (λ (k : ℕ). (node_at 0 right == k) ≡ false) (search.home 0 ∙ sym (search.home 1))
      (safe_right 0 search.not_home)
  safe_left (suc steps) before = ne_eqb (node_at 0 right) (node_at 1 (suc steps)) (λ h.
      let sum : right + left ≡ n = search.sum in
      let first : 0 < right = search.not_home in
      let same : right ≡ n - suc steps = search.apart right (n - suc steps) (omega (arith, sum, before))
      (omega (arith, sum, before)) (h
      ∙ search.around (suc steps) (n - suc steps) (omega (arith, sum, before)) (omega arith)
      (omega (arith, sum, before))) in
      omega (arith, same, sum, before))

  pub safe_before : (s steps : ℕ) → s < 2 → steps < distance s → (node_at 0 right == node_at s steps) ≡ false
  safe_before zero steps below before = safe_right steps before
  safe_before (suc zero) steps below before = safe_left steps before
  safe_before (suc (suc k)) steps below before = absurd (omega (arith, below))

  -- ---- the verdict

  or_true : (b : Bool) → (b || true) ≡ true
  or_true true = refl
  or_true false = refl

  accuses_two : (configuration : Configuration) (test : ℕ × ℕ → Bool) → accuses world (found_in configuration) test
      ≡ (passes test (configuration.accused 0) || (passes test (configuration.accused 1) || false))
  accuses_two configuration test =
      ap (λ (k : ℕ). list_any (λ agent. passes test (configuration.accused agent)) (range_with_len 0 k)) search.agents

  accuses_by : (configuration : Configuration) (test : ℕ × ℕ → Bool) (s : ℕ) → s < 2
      → passes test (configuration.accused s) ≡ true
      → accuses world (found_in configuration) test ≡ true
  accuses_by configuration test s below =
      both (λ (k : ℕ). passes test (configuration.accused k) ≡ true
      → accuses world (found_in configuration) test ≡ true)
      (λ h. accuses_two configuration test ∙ ap (λ (b : Bool). b || (passes test (configuration.accused 1) || false)) h)
      (λ h. accuses_two configuration test
      ∙ ap (λ (b : Bool). passes test (configuration.accused 0) || (b || false)) h
      ∙ or_true (passes test (configuration.accused 0)))
      s below

  accuses_none : (configuration : Configuration) (test : ℕ × ℕ → Bool)
      → ((s : ℕ) → s < 2 → passes test (configuration.accused s) ≡ false)
      → accuses world (found_in configuration) test ≡ false
  accuses_none configuration test none =
      accuses_two configuration test ∙ (λ i. none 0 (omega arith) i || (none 1 (omega arith) i || false))

  unfinished_none : (configuration : Configuration) → ((s : ℕ) → s < 2 → is_present (configuration.position s) ≡ false)
      → is_unfinished world configuration.position ≡ false
  unfinished_none configuration none =
      ap (λ (k : ℕ). list_any (λ agent. is_present (configuration.position agent)) (range_with_len 0 k)) search.agents
      ∙ (λ i. none 0 (omega arith) i || (none 1 (omega arith) i || false))

  solved_by : (configuration : Configuration)
      → accuses world (found_in configuration) (λ link. not (is_right world link)) ≡ false
      → is_silent world (found_in configuration) ≡ false → is_unfinished world configuration.position ≡ false
      → first_unreached world (found_in configuration) ≡ None → outcome_in world configuration ≡ Solved
  solved_by configuration right_ones spoken finished reached =
      cond-false _ _ _ right_ones ∙ cond-false _ _ _ spoken ∙ cond-false _ _ _ finished
      ∙ either_way (accuses world (found_in configuration) (λ link. not (is_over_dark world link)))
    where
      either_way : (b : Bool)
          → (if b then guess_or_solved (first_unreached world (found_in configuration)) else Solved) ≡ Solved
      either_way true = ap guess_or_solved reached
      either_way false = refl

  -- ---- each node was reached

  find_none : (test : ℕ → Bool) (start count : ℕ) → ((k : ℕ) → start ≤ k → k < start + count → test k ≡ false)
      → find test (range_with_len start count) ≡ None
  find_none test start zero none = refl
  find_none test start (suc count) none =
      cond-false _ _ _ (none start (omega arith) (omega arith))
      ∙ find_none test (start + 1) count (λ k after before. none k (omega (arith, after)) (omega (arith, before)))

  -- all nodes of both sides but the black hole are known to be safe
  record IsAllKnown (configuration : Configuration) : Type 0 where
    known : (s k : ℕ) → s < 2 → 0 < k → k < distance s → configuration.reached (node_at s k) ≡ true

  reached_all : (configuration : Configuration) → IsAllKnown configuration
      → first_unreached world (found_in configuration) ≡ None
  reached_all configuration all =
      ap (λ (k : ℕ). find (is_unreached world (found_in configuration)) (range_with_len 0 k)) search.size
      ∙ find_none (is_unreached world (found_in configuration)) 0 n (λ node after before.
      let it = search.all node (omega (arith, before)) in
      subst (λ (k : ℕ). is_unreached world (found_in configuration) k ≡ false) it.2 (by_steps it.0 it.1))
    where
      none_by_home : (a b c : Bool) → a ≡ true → (not a && (not b && not c)) ≡ false
      none_by_home a b c h = ap (λ (x : Bool). not x && (not b && not c)) h

      none_by_hole : (a b c : Bool) → b ≡ true → (not a && (not b && not c)) ≡ false
      none_by_hole true b c h = refl
      none_by_hole false b c h = ap (λ (x : Bool). not x && not c) h

      none_by_arrival : (a b c : Bool) → c ≡ true → (not a && (not b && not c)) ≡ false
      none_by_arrival true b c h = refl
      none_by_arrival false true c h = refl
      none_by_arrival false false c h = ap not h

      or_false : (b : Bool) → b ≡ true → (b || false) ≡ true
      or_false b h = ap (λ (x : Bool). x || false) h

      by_steps : (steps : ℕ) → steps < n → is_unreached world (found_in configuration) (node_at 0 steps) ≡ false
      by_steps zero within = none_by_home (node_at 0 zero == world.home) _ _
          (eq-eqb (node_at 0 zero) world.home (search.home 0))
      by_steps (suc k) within = elim (eqb_tells (suc k) right) [
        | inl h ↦ none_by_hole (node_at 0 (suc k) == world.home) (is_hole world.holes (node_at 0 (suc k)))
            (configuration.reached (node_at 0 (suc k)))
            (ap (λ (holes : List ℕ). is_hole holes (node_at 0 (suc k))) search.hole
            ∙ or_false (node_at 0 right == node_at 0 (suc k))
            (eq-eqb (node_at 0 right) (node_at 0 (suc k)) (ap (node_at 0) (sym h.1))))
        | inr h ↦ none_by_arrival (node_at 0 (suc k) == world.home) (is_hole world.holes (node_at 0 (suc k)))
            (configuration.reached (node_at 0 (suc k)))
            (by_cases (nat_lt (suc k) right) (configuration.reached (node_at 0 (suc k)) ≡ true)
            (λ yes. all.known 0 (suc k) (omega arith) (omega arith) (ltb-true (suc k) right yes))
            (λ none.
            let sum : right + left ≡ n = search.sum in
            let first : 0 < right = search.not_home in
            let not_below : (suc k < right) → ⊥ = λ b. true≢false (sym (lt-ltb (suc k) right b) ∙ none) in
            let above : right < suc k = omega (arith, not_below, h.1) in
            ap configuration.reached (sym (search.around (n - suc k) (suc k) (omega (arith, within))
            (omega (arith, within)) (omega arith)))
            ∙ all.known 1 (n - suc k) (omega arith) (omega (arith, within)) (omega (arith, sum, above, within))))
      ]

  -- ---- few are lost

  number_of : (ℕ → Bool) → List ℕ → ℕ
  number_of p [] = 0
  number_of p (x ∷ xs) = cond (p x) (1 + number_of p xs) (number_of p xs)

  counted_two : (p : ℕ → Bool) → (p 0 ≡ false) ⊎ (p 1 ≡ false) → number_of p (0 ∷ 1 ∷ []) ≤ 1
  unfolding number_of
  counted_two p spared = elim spared [
    | inl h ↦ rw h (one_at_most (p 1))
    | inr h ↦ rw h (one_at_most (p 0))
  ]
    where
      one_at_most : (b : Bool) → cond b (1 + 0) 0 ≤ 1
      one_at_most true = omega arith
      one_at_most false = omega arith

  number_is : (p : ℕ → Bool) (xs : List ℕ) → number_of p xs ≡ count_by p xs
  unfolding number_of
  number_is p xs = is_count_by (number_of p) p refl (λ x others. refl) xs

  few_doomed : (configuration : Configuration) (s : ℕ) → s < 2 → configuration.position s ≡ After
      → doomed_in world configuration ≤ 1
  few_doomed configuration s below at =
      let test : ℕ → Bool = λ agent. is_doomed world (configuration.position agent) in
      let spared : test s ≡ false = ap (is_doomed world) at in
      let either_one : (test 0 ≡ false) ⊎ (test 1 ≡ false) =
      both (λ (k : ℕ). test k ≡ false → (test 0 ≡ false) ⊎ (test 1 ≡ false)) (λ h. inl h) (λ h. inr h) s below spared in
      let same : doomed_in world configuration ≡ count_by test (0 ∷ 1 ∷ []) =
      ap (λ (k : ℕ). count_by test (range_with_len 0 k)) search.agents in
      let number : number_of test (0 ∷ 1 ∷ []) ≡ count_by test (0 ∷ 1 ∷ []) = number_is test (0 ∷ 1 ∷ []) in
      let few : number_of test (0 ∷ 1 ∷ []) ≤ 1 = counted_two test either_one in
      omega (arith, same, number, few)

  -- ---- two agents

  each : (s o : ℕ) → Pair s o → (P : ℕ → Type 0) → P s → P o → (k : ℕ) → k < 2 → P k
  each s o pair P mine theirs =
      both (λ (k : ℕ). P k → P (opposite k) → (j : ℕ) → j < 2 → P j) (λ p q. both P p q) (λ p q. both P q p) s pair.own
      mine (subst P pair.is theirs)

  -- an agent has accused a link that leads to the black hole
  pub record IsAccuser (s : ℕ) (configuration : Configuration) : Type 0 where
    pub start : ℕ
    pub port : ℕ
    pub label : ℕ
    pub far : world.net.far start port ≡ (node_at 0 right, label)
    pub accused : configuration.accused s ≡ Some (start, port)

  -- The accusation is right if its link leads to the next node of a side on which all other nodes are reached.
  pub accuser : (configuration : Configuration) (agent s mine start port label : ℕ) → s < 2 → mine + 1 ≡ distance s
      → world.net.far start port ≡ (node_at s (mine + 1), label) → configuration.accused agent ≡ Some (start, port)
      → IsAccuser agent configuration
  accuser configuration agent s mine start port label below edge far accused = record {
    start = start;
    port = port;
    label = label;
    far = far ∙ (λ i. ((ap (node_at s) edge ∙ hole_at s below) i, label));
    accused = accused;
  }

  -- an agent at rest has accused nobody, or the black hole
  abbrev pub HasAccused : (s : ℕ) → Configuration → Type 0
  HasAccused s configuration = (configuration.accused s ≡ None) ⊎ IsAccuser s configuration

  never_wrong : (configuration : Configuration) (s : ℕ) → HasAccused s configuration
      → passes (λ link. not (is_right world link)) (configuration.accused s) ≡ false
  never_wrong configuration s has = elim has [
    | inl h ↦ ap (passes (λ link. not (is_right world link))) h
    | inr h ↦ ap (passes (λ link. not (is_right world link))) h.accused
        ∙ ap not (doomed_is h.start h.port (node_at 0 right) h.label h.far
        ∙ eq-eqb (node_at 0 right) (node_at 0 right) refl)
  ]

  not_silent : (configuration : Configuration) (s : ℕ) → s < 2 → IsAccuser s configuration
      → is_silent world (found_in configuration) ≡ false
  not_silent configuration s below it =
      let some : accuses world (found_in configuration) (λ link. true) ≡ true =
      accuses_by configuration (λ link. true) s below (ap (passes (λ link. true)) it.accused) in
      let test : ℕ × ℕ → Bool = λ link. node_at 0 right == (world.net.far link.0 link.1).0 in
      let hole : is_hole_accused world (found_in configuration) (node_at 0 right) ≡ true =
      accuses_by configuration test s below (ap (passes test) it.accused
      ∙ ap (λ (f : ℕ × ℕ). node_at 0 right == f.0) it.far ∙ eq-eqb (node_at 0 right) (node_at 0 right) refl) in
      (λ i. not (accuses world (found_in configuration) (λ link. true))
      || list_any (λ h. not (is_hole_accused world (found_in configuration) h)) (search.hole i)
      || list_any (λ e. not (is_dark_accused world (found_in configuration) e)) (search.none_dark i))
      ∙ (λ i. not (some i) || (not (hole i) || false) || false)

  -- an agent at rest: it is at no node, and has come to this many nodes of its side
  pub record HasCome (s far : ℕ) (configuration : Configuration) : Type 0 where
    pub accused : HasAccused s configuration
    pub away : is_present (configuration.position s) ≡ false
    pub reached : (k : ℕ) → 0 < k → k ≤ far → configuration.reached (node_at s k) ≡ true

  -- both are at rest, agent s has accused and ended, and all nodes but the black hole were reached
  pub record IsDone (s o far far_too : ℕ) (configuration : Configuration) : Type 0 where
    pub accuses : IsAccuser s configuration
    pub ended : configuration.position s ≡ After
    pub own : HasCome s far configuration
    pub other : HasCome o far_too configuration
    pub all : distance s ≤ far + 1
    pub all_too : distance o ≤ far_too + 1

  pub solved_once : (s o far far_too : ℕ) (configuration : Configuration) → Pair s o
      → IsDone s o far far_too configuration
      → (outcome_in world configuration ≡ Solved) × (doomed_in world configuration ≤ 1)
  solved_once s o far far_too configuration pair it = (
    solved_by configuration
        (accuses_none configuration (λ link. not (is_right world link)) (λ k below. never_wrong configuration k
        (each s o pair (λ (j : ℕ). HasAccused j configuration) it.own.accused it.other.accused k below)))
        (not_silent configuration s pair.own it.accuses)
        (unfinished_none configuration (each s o pair (λ (j : ℕ). is_present (configuration.position j) ≡ false)
        it.own.away it.other.away))
        (reached_all configuration (record {
          known = λ k place below some before.
              each s o pair (λ (j : ℕ). place < distance j → configuration.reached (node_at j place) ≡ true)
              (λ less. it.own.reached place some (omega (arith, less, it.all)))
              (λ less. it.other.reached place some (omega (arith, less, it.all_too))) k below before;
        })),
    few_doomed configuration s pair.own it.ended,
  )

-- on a ring it is so if that link is ahead of the last safe node of a side
pub ring_accuser : {world : World} {n right left : ℕ} {ways : Ways} (search : IsSearch world n right left ways)
    (configuration : Configuration) (agent side steps : ℕ) → side < 2 → steps + 1 ≡ distance (sides search) side
    → configuration.accused agent ≡ Some (ways.node side steps, ways.ahead side steps)
    → IsAccuser (sides search) agent configuration
ring_accuser {ways = ways} search configuration agent side steps below edge accused =
    let within = within_n (sides search) side below in
    accuser (sides search) configuration agent side steps (ways.node side steps) (ways.ahead side steps)
    (1 - ways.ahead side (steps + 1)) below edge (search.ring.out side steps below (omega (arith, edge, within)))
    accused
