-- Lemmas on the texts of whiteboards, and on the memory after `follows` and `learns`.
use Rattle.std.proofs.Common.{ℕ, zero, suc, ◌+◌, ◌-◌, ◌*◌, ◌/◌, ◌%◌, ◌<◌, ◌≤◌, ◌≡◌, ◌⊎◌, true, false, List}
use Rattle.std.proofs.Common.{◌∷◌, length, refl, ap, ◌∙◌, inl, inr, arith}
use Rattle.std.proofs.lemmas.Bool.{ltb-true, ltb-false, cond-true, cond-false}
use Rattle.bhs_model.proofs.StepLemmas.{by_cases}
use Rattle.bhs_protocols.specs.Shuttle.{other_in}
use Rattle.bhs_protocols.specs.Halves.{own_in}
use Rattle.bhs_protocols_divided.specs.Plans.{Itinerary, Plan, Explores, news, explored, count_at}
use Rattle.bhs_protocols_divided.specs.Dividing.{Memory, Phase, Writes, Follows, Tells, others_of, told_in}
use Rattle.bhs_protocols_divided.specs.Dividing.{text_by, about, is_marked, follows, learns, learned}
use Rattle.bhs_protocols_divided.proofs.NewsLemmas.{news_new, news_below, walked, walked_new}
use Rattle.bhs_protocols_divided.proofs.StageLemmas.{stacked}

-- ---- whiteboards

pub digits : (k : ℕ) → (32 + k / 64 - 32) * 64 + (32 + k % 64 - 32) ≡ k
digits k = omega arith

-- either side
pub either : (P : ℕ → Type 0) → P 0 → P 1 → (s : ℕ) → s < 2 → P s
either P one two zero below = one
either P one two (suc zero) below = two
either P one two (suc (suc s)) below = absurd (omega (arith, below))

pub own_written : (s own other told : ℕ) → s < 2 → own_in s (text_by s own other told) ≡ own
own_written s own other told below =
    either (λ (k : ℕ). own_in k (text_by k own other told) ≡ own) (digits own) (digits own) s below

pub other_written : (s own other told : ℕ) → s < 2 → own_in (1 - s) (text_by s own other told) ≡ other
other_written s own other told below =
    either (λ (k : ℕ). own_in (1 - k) (text_by k own other told) ≡ other) (digits other) (digits other) s below

pub told_written : (s own other told : ℕ) → s < 2 → told_in (text_by s own other told) ≡ told
told_written s own other told below =
    either (λ (k : ℕ). told_in (text_by k own other told) ≡ told) (omega arith) (omega arith) s below

pub text_fits : (s own other told : ℕ) → s < 2 → length (text_by s own other told) ≤ 5
text_fits s own other told below =
    either (λ (k : ℕ). length (text_by k own other told) ≤ 5) (omega arith) (omega arith) s below

pub other_is : (s : ℕ) (text : List ℕ) → s < 2 → other_in s text ≡ own_in (1 - s) text
other_is s text below = either (λ (k : ℕ). other_in k text ≡ own_in (1 - k) text) refl refl s below

-- ---- going after the other one

module _ (plan : Plan) (m : Memory) where
  -- the phase after `follows`, and the step of the partner's itinerary
  pub record Goes (step : ℕ) (after : Memory) : Type 0 where
    pub now : ℕ
    pub phase : Phase
    pub is : after ≡ about m now phase
    pub within : now < (others_of plan m).steps
    pub walks : walked (others_of plan m) now ≡ walked (others_of plan m) step
    pub node : (others_of plan m).node now ≡ (others_of plan m).node step
    pub about_what : ((phase ≡ Follows) × ((others_of plan m).is_new now ≡ false))
        ⊎ ((phase ≡ Tells) × ((others_of plan m).is_new now ≡ true)
        × (own_in (1 - m.side) m.seen < count_at plan m.divisions (1 - m.side) now))

  module _ (others hole_step hole : ℕ) (below : m.side < 2) (shows : own_in (1 - m.side) m.seen ≤ others)
      (spot : Explores plan m.divisions (1 - m.side) hole_step hole)
      (hidden : others < count_at plan m.divisions (1 - m.side) hole_step)
      (stays : (step : ℕ) → step < (others_of plan m).steps → (others_of plan m).is_new step ≡ true
      → (others_of plan m).node (step + 1) ≡ (others_of plan m).node step) where
    -- the other one has explored the new nodes before this step
    abbrev pub Few : ℕ → Type 0
    Few step = explored plan m.divisions (1 - m.side) + news (others_of plan m) step ≤ others

    -- The step does not come after the exploration of the black hole.
    pub before_hole : (step : ℕ) → Few step → step ≤ hole_step
    before_hole step few =
        let never : (hole_step < step) → ⊥ = λ h.
        let more : news (others_of plan m) hole_step + 1 ≤ news (others_of plan m) step =
        news_below (others_of plan m) hole_step step h spot.is_new in
        omega (arith, more, few, hidden) in
        omega (arith, never)

    pub goes : (rest step : ℕ) → rest + step ≡ (others_of plan m).steps → Few step
        → (it : Goes step (follows plan m rest step)) × Few it.now
    goes zero step sum few =
        let before : step ≤ hole_step = before_hole step few in
        let within : hole_step < (others_of plan m).steps = spot.within in
        absurd (omega (arith, sum, before, within))
    goes (suc rest) step sum few =
        let it : Itinerary = others_of plan m in
        let text : ℕ = other_in m.side m.seen in
        let text_is : text ≡ own_in (1 - m.side) m.seen = other_is m.side m.seen below in
        let within : step < it.steps = omega (arith, sum) in
        by_cases (it.is_new step) ((g : Goes step (follows plan m (suc rest) step)) × Few g.now)
        (λ yes. by_cases (is_marked plan m step) ((g : Goes step (follows plan m (suc rest) step)) × Few g.now)
        (λ marked.
        let less : explored plan m.divisions (1 - m.side) + news it step < text =
        ltb-true (explored plan m.divisions (1 - m.side) + news it step) text marked in
        let more : news it (step + 1) ≡ news it step + 1 = news_new it step yes in
        let on = goes rest (step + 1) (omega (arith, sum)) (omega (arith, less, text_is, shows, more)) in (
          record {
            now = on.0.now;
            phase = on.0.phase;
            is = cond-true _ _ _ yes ∙ cond-true _ _ _ marked ∙ on.0.is;
            within = on.0.within;
            walks = on.0.walks ∙ walked_new it step yes;
            node = on.0.node ∙ stays step within yes;
            about_what = on.0.about_what;
          },
          on.1,
        ))
        (λ unmarked.
        let no_less : text ≤ explored plan m.divisions (1 - m.side) + news it step =
        ltb-false (explored plan m.divisions (1 - m.side) + news it step) text unmarked in (
          record {
            now = step;
            phase = Tells;
            is = cond-true _ _ _ yes ∙ cond-false _ _ _ unmarked;
            within = within;
            walks = refl;
            node = refl;
            about_what = inr (refl, yes, omega (arith, no_less, text_is));
          },
          few,
        )))
        (λ old. (
          record {
            now = step;
            phase = Follows;
            is = cond-false _ _ _ old;
            within = within;
            walks = refl;
            node = refl;
            about_what = inl (refl, old);
          },
          few,
        ))

-- ---- reading what was told

-- the step of an agent after it has learned `count` divisions
abbrev pub first_of : (count step : ℕ) → ℕ
first_of zero step = step
first_of (suc count) step = 0

first_zero : (count : ℕ) → first_of count 0 ≡ 0
first_zero zero = refl
first_zero (suc count) = refl

pub learns_is : (count : ℕ) (m : Memory) → learns count m
    ≡ record m { divisions = stacked m.side count m.step m.divisions; step = first_of count m.step }
learns_is zero m = refl
learns_is (suc count) m =
    learns_is count (record m { divisions = (m.side, m.step) ∷ m.divisions; step = 0 })
    ∙ (λ i. record m { divisions = stacked m.side count 0 ((m.side, m.step) ∷ m.divisions); step = first_zero count i })

pub learned_is : (m : Memory) (board : List ℕ) (count : ℕ) → told_in board - length m.divisions ≡ count
    → learned m board ≡ record {
      side = m.side;
      divisions = stacked m.side count m.step m.divisions;
      step = first_of count m.step;
      seen = board;
      phase = Writes;
    }
learned_is m board count is =
    ap (λ (k : ℕ). learns k (record m { seen = board; phase = Writes })) is
    ∙ learns_is count (record m { seen = board; phase = Writes })
