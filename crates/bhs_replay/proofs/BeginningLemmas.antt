-- What a line begins with.
use Rattle.std.proofs.Common.{◌≡◌, ℕ, ◌+◌, ◌*◌, ◌/◌, ◌%◌, ◌<◌, ◌≤◌, ◌^◌, Bool, true, false, not, List, [], ◌∷◌, ◌++◌}
use Rattle.std.proofs.Common.{length, take, drop, bytes_eq, codes, decimal, Option, Some, unwrap_or, cond, refl, sym}
use Rattle.std.proofs.Common.{ap, ◌∙◌, arith}
use Rattle.std.proofs.Common.{append_assoc}
use Rattle.std.specs.Bool.{OnTrue}
use Rattle.std.proofs.lemmas.Fmt.{decimal_step}
use Rattle.std.proofs.lemmas.List.{take-append-drop}
use Rattle.std.proofs.lemmas.Slice.Eq.{bytes_eq-Decides}
use Rattle.json.specs.Written.{PlainBetween}
use Rattle.serde_json.proofs.OnLiterals.{serde_json_on_literals}
use Rattle.bhs_model.specs.declared.replies.Reply.TheVariants.{Here, Changed, No}
use Rattle.bhs_model.specs.declared.replies.Why.{Why}
use Rattle.bhs_model.specs.declared.replies.Why.TheVariants.{Agent, Outside, Twice, Ended, Spent, Away, Line, Port}
use Rattle.bhs_model.specs.declared.replies.Why.TheVariants.{Long}
use Rattle.bhs_wire.specs.Reply.{quoted_text, label, line}
use Rattle.bhs_wire.specs.Why.{word}
use Rattle.bhs_replay.specs.Spelling.{why_by}

-- a line that is cut behind as many bytes as a part has
pub cut : (line part front rest : List ℕ) (n : ℕ) → front ≡ take n line → rest ≡ drop n line
    → bytes_eq front part ≡ true → line ≡ part ++ rest
cut line part front rest n at from same =
    let is : take n line ≡ part = sym at ∙ (bytes_eq-Decides front part).0 same in
    sym (take-append-drop n line) ∙ ap (λ f. f ++ drop n line) is ∙ ap (λ r. part ++ r) (sym from)

-- a number and its next digit
pub one_digit_more : (number digit next : ℕ) (more : List ℕ) → 0 < number → digit < 10
    → next ≡ number * 10 + digit → next < 2 ^ 16 → decimal number ++ (48 + digit) ∷ more ≡ decimal next ++ more
one_digit_more number digit next more some small is fits =
    let over : next / 10 ≡ number = omega (arith, is) in
    let last : next % 10 ≡ digit = omega (arith, is) in
    sym (ap (λ d. d ++ more) (decimal_step next (omega (arith, is)) (omega arith))
    ∙ append_assoc (decimal (next / 10)) ((48 + next % 10) ∷ []) more
    ∙ ap (λ n. decimal n ++ (48 + next % 10) ∷ more) over ∙ ap (λ d. decimal number ++ (48 + d) ∷ more) last)

-- ---- texts without escapes

pub plain_all : (has_escape : Bool) (text : List ℕ) (n : ℕ) → (has_escape ≡ false → PlainBetween text 0 n)
    → length text ≤ n → OnTrue (not has_escape) (PlainBetween text 0 (length text))
plain_all true text n plain long = tt
plain_all false text n plain long = λ k low high. plain refl k low (omega arith)

-- ---- parts one after the other

module _ (board : List ℕ) (at behind : List ℕ) (text : at ≡ quoted_text board ++ behind) where
  pub changed_line : (rest : List ℕ) → behind ≡ codes ",\"ok\":\"changed\"}" ++ rest
      → codes "{\"board\":" ++ at ≡ line (Changed board) ++ rest
  changed_line rest changed =
      ap (λ t. codes "{\"board\":" ++ t) (text ∙ ap (λ t. quoted_text board ++ t) changed
      ∙ sym (append_assoc (quoted_text board) (codes ",\"ok\":\"changed\"}") rest))

  pub here_line : (ports : ℕ) (came : Option ℕ) (labelled ended counted last rest : List ℕ)
      → behind ≡ codes ",\"from\":" ++ labelled → labelled ≡ label came ++ ended
      → ended ≡ codes ",\"ok\":\"here\",\"ports\":" ++ counted → counted ≡ decimal ports ++ last
      → last ≡ codes "}" ++ rest → codes "{\"board\":" ++ at ≡ line (Here ports came board) ++ rest
  here_line ports came labelled ended counted last rest from by ok many closed =
      let here = codes ",\"ok\":\"here\",\"ports\":" in
      let end = decimal ports ++ codes "}" in
      ap (λ t. codes "{\"board\":" ++ t) (text ∙ ap (λ t. quoted_text board ++ t) (from
      ∙ ap (λ t. codes ",\"from\":" ++ t) (by ∙ ap (λ t. label came ++ t) (ok ∙ ap (λ t. here ++ t) (many
      ∙ ap (λ t. decimal ports ++ t) closed ∙ sym (append_assoc (decimal ports) (codes "}") rest)))
      ∙ sym (append_assoc (label came) (here ++ end) rest)))
      ∙ sym (append_assoc (quoted_text board) (codes ",\"from\":" ++ (label came ++ (here ++ end))) rest))

-- ---- the words of refusals

this_or : (text name : List ℕ) (this found : Why) (others : Option Why) (b : Bool) → name ≡ word this
    → (others ≡ Some found → text ≡ word found) → bytes_eq text name ≡ b → cond b (Some this) others ≡ Some found
    → text ≡ word found
this_or text name this found others true named later same is =
    (bytes_eq-Decides text name).0 same ∙ named
    ∙ ap (λ (why : Option Why). word (unwrap_or {T = Why} why this)) is
this_or text name this found others false named later same is = later is

pub word_by : (text : List ℕ) (found : Why) → why_by text ≡ Some found → text ≡ word found
word_by text found =
    or (codes "agent") Agent refl (or (codes "outside") Outside refl (or (codes "twice") Twice refl
    (or (codes "ended") Ended refl (or (codes "spent") Spent refl (or (codes "away") Away refl
    (or (codes "line") Line refl (or (codes "port") Port refl (or (codes "long") Long refl (λ none. absurd (cc))))))))))
  where
    or : (name : List ℕ) (this : Why) {others : Option Why} → name ≡ word this
        → (others ≡ Some found → text ≡ word found) → cond (bytes_eq text name) (Some this) others ≡ Some found
        → text ≡ word found
    or name this {others} named later is = this_or text name this found others (bytes_eq text name) named later refl is

quoted_word : (why : Why) (rest : List ℕ) → codes "{\"no\":" ++ (quoted_text (word why) ++ (codes "}" ++ rest))
    ≡ line (No why) ++ rest
unfolding serde_json_on_literals
quoted_word Agent rest = refl
quoted_word Outside rest = refl
quoted_word Twice rest = refl
quoted_word Ended rest = refl
quoted_word Spent rest = refl
quoted_word Away rest = refl
quoted_word Line rest = refl
quoted_word Port rest = refl
quoted_word Long rest = refl

pub refusal_line : (why : Why) (text at behind rest : List ℕ) → why_by text ≡ Some why
    → at ≡ quoted_text text ++ behind → behind ≡ codes "}" ++ rest → codes "{\"no\":" ++ at ≡ line (No why) ++ rest
refusal_line why text at behind rest is named closed =
    ap (λ t. codes "{\"no\":" ++ t) (named ∙ ap (λ t. quoted_text text ++ t) closed
    ∙ ap (λ w. quoted_text w ++ (codes "}" ++ rest)) (word_by text why is))
    ∙ quoted_word why rest
