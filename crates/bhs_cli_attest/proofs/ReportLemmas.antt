-- The lines of a report, one agent after another.
use Rattle.std.proofs.Common.{ℕ, zero, suc, ◌+◌, ◌≡◌, ◌∙◌, Bool, true, false, ◌&&◌, List, [], ◌∷◌, ◌++◌, length, map}
use Rattle.std.proofs.Common.{refl, sym, ap, ap₂, append_assoc, append-nil, arith}
use Rattle.std.proofs.lemmas.Bool.{true≢false}
use Rattle.std.specs.List.{AllByRecursion, range_with_len}
use Rattle.bhs_match.specs.Matches.{Play}
use Rattle.bhs_cli_attest.specs.Attesting.{IsLine}
use Rattle.bhs_cli_attest.specs.Lines.{AgentLine, agent_line, agent_lines, all_follow, follows}
use Rattle.bhs_cli_attest.specs.Reports.{AreLinesOf, IsLineOf}

-- the text has the lines of the first agents, all of which follow their modules
pub record HasLines (play : Play) (wakeups : ℕ) (arguments : List (List ℕ)) (count : ℕ) (text : List ℕ) : Type 0 where
  pub lines : List AgentLine
  pub are : AllByRecursion (IsLine play wakeups arguments) lines
  pub agents : map (λ line. line.agent) lines ≡ range_with_len 0 count
  pub count_is : length lines ≡ count
  pub follow : all_follow lines ≡ true
  pub said : text ≡ agent_lines lines

-- ---- one line more

range-push : (first count : ℕ)
    → range_with_len first (suc count) ≡ range_with_len first count ++ (first + count) ∷ []
range-push first zero = ap (λ (k : ℕ). k ∷ []) (let e : first ≡ first + 0 = omega arith in e)
range-push first (suc count) =
    ap (λ (rest : List ℕ). first ∷ rest) (range-push (first + 1) count
    ∙ ap (λ (k : ℕ). range_with_len (first + 1) count ++ k ∷ [])
    (let e : first + 1 + count ≡ first + suc count = omega arith in e))

are-push : (P : AgentLine → Type 0) (lines : List AgentLine) (line : AgentLine) → AllByRecursion P lines → P line
    → AllByRecursion P (lines ++ line ∷ [])
are-push P [] line all is = (is, tt)
are-push P (first ∷ lines) line all is = (all.0, are-push P lines line all.1 is)

agent_lines-push : (lines : List AgentLine) (line : AgentLine)
    → agent_lines (lines ++ line ∷ []) ≡ agent_lines lines ++ agent_line line
agent_lines-push [] line = append-nil (agent_line line)
agent_lines-push (first ∷ lines) line =
    ap (λ (rest : List ℕ). agent_line first ++ rest) (agent_lines-push lines line)
    ∙ sym (append_assoc (agent_line first) (agent_lines lines) (agent_line line))

all_follow-push : (lines : List AgentLine) (line : AgentLine) → all_follow lines ≡ true
    → all_follow (lines ++ line ∷ []) ≡ follows line.attestation
all_follow-push [] line all = last (follows line.attestation)
  where
    last : (b : Bool) → (b && true) ≡ b
    last true = refl
    last false = refl
all_follow-push (first ∷ lines) line all = step (follows first.attestation) all (all_follow-push lines line)
  where
    step : (b : Bool) → (b && all_follow lines) ≡ true
        → (all_follow lines ≡ true → all_follow (lines ++ line ∷ []) ≡ follows line.attestation)
        → (b && all_follow (lines ++ line ∷ [])) ≡ follows line.attestation
    step true rest rule = rule rest
    step false rest rule = absurd (cc)

map-push : (lines : List AgentLine) (line : AgentLine) → map (λ (one : AgentLine). one.agent) (lines ++ line ∷ [])
    ≡ map (λ (one : AgentLine). one.agent) lines ++ line.agent ∷ []
map-push [] line = refl
map-push (first ∷ lines) line = ap (λ (rest : List ℕ). first.agent ∷ rest) (map-push lines line)

length-push : (lines : List AgentLine) (line : AgentLine) → length (lines ++ line ∷ []) ≡ suc (length lines)
length-push [] line = refl
length-push (first ∷ lines) line = ap suc (length-push lines line)

module _ (play : Play) (wakeups : ℕ) (arguments : List (List ℕ)) (count : ℕ) (text more whole : List ℕ)
    (is_attested : Bool) (has : HasLines play wakeups arguments count text)
    (one : IsLineOf play wakeups arguments count more is_attested) (joined : whole ≡ text ++ more) where
  abbrev all : List AgentLine
  all = has.lines ++ one.line ∷ []

  are : AllByRecursion (IsLine play wakeups arguments) all
  are = are-push (IsLine play wakeups arguments) has.lines one.line has.are one.is

  numbers : map (λ (line : AgentLine). line.agent) all ≡ range_with_len 0 (suc count)
  numbers =
      map-push has.lines one.line
      ∙ ap₂ (λ (front : List ℕ) (last : ℕ). front ++ last ∷ []) has.agents one.own
      ∙ ap (λ (k : ℕ). range_with_len 0 count ++ k ∷ []) (let e : count ≡ 0 + count = omega arith in e)
      ∙ sym (range-push 0 count)

  said : whole ≡ agent_lines all
  said =
      joined ∙ ap₂ (λ (front end : List ℕ). front ++ end) has.said one.said
      ∙ sym (agent_lines-push has.lines one.line)

  count_is : length all ≡ suc count
  count_is = length-push has.lines one.line ∙ ap suc has.count_is

  next : suc count ≡ count + 1
  next = omega arith

  -- the next agent follows its module, too
  pub line_more : is_attested ≡ true → HasLines play wakeups arguments (count + 1) whole
  line_more is = record {
    lines = all;
    are = are;
    agents = numbers ∙ ap (range_with_len 0) next;
    count_is = count_is ∙ next;
    follow = all_follow-push has.lines one.line has.follow ∙ sym one.told ∙ is;
    said = said;
  }

  -- the next agent differs from its module
  pub line_differs : is_attested ≡ false → AreLinesOf play wakeups arguments whole false
  line_differs is =
      let not_all : all_follow all ≡ false = all_follow-push has.lines one.line has.follow ∙ sym one.told ∙ is in
      record {
        lines = all;
        are = are;
        agents = numbers ∙ ap (range_with_len 0) (sym count_is);
        whole = λ follow. absurd (true≢false (sym follow ∙ not_all));
        said = said;
        told = sym not_all;
      }
