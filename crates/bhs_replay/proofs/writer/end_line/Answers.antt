use Rattle.std.proofs.Common.{ℕ, List, [], ◌∷◌, ◌++◌, ◌≡◌, codes, decimal, ap, ◌∙◌}
use Rattle.json.specs.Print.{print}
use Rattle.json.specs.Token.{Token}
use Rattle.serde_json.specs.Data.{Data, number, unsigned, object, no_members, member}
use Rattle.serde_json.proofs.OnLiterals.{serde_json_on_literals}
use Rattle.serde_json.proofs.Texts.{print-outline}
use Rattle.bhs_replay.specs.Replay.{end_line}
use Rattle.bhs_replay.proofs.writer.end_line.Goals as goal

ending : ℕ → Data
ending count = object (member (codes "end") (number (unsigned count)) no_members)

abbrev all_tokens : ℕ → List Token
all_tokens count = Token.begin_object ∷ Token.key (codes "end") ∷ Token.number (decimal count) ∷ Token.end_object ∷ []

printed : (count : ℕ) → print (all_tokens count) ≡ end_line count
unfolding serde_json_on_literals ending
printed count = print-outline (ending count)

gathered : (count : ℕ) {a b c d e : List Token} → a ≡ [] → b ≡ a ++ Token.begin_object ∷ []
    → c ≡ b ++ Token.key (codes "end") ∷ [] → d ≡ c ++ Token.number (decimal count) ∷ []
    → e ≡ d ++ Token.end_object ∷ []
    → e ≡ all_tokens count
gathered count none begun named counted ended =
    ended ∙ ap (λ t. t ++ Token.end_object ∷ [])
    (counted ∙ ap (λ t. t ++ Token.number (decimal count) ∷ [])
    (named ∙ ap (λ t. t ++ Token.key (codes "end") ∷ []) (begun ∙ ap (λ t. t ++ Token.begin_object ∷ []) none)))

pub returns : goal.returns
returns c =
    let count : ℕ = c.args.count in
    let all = gathered count c.new-out.ensures.tokens c.in_ok-begin_object.ensures.ok c.in_ok-key.ensures.ok
    c.in_ok-u64.ensures.ok c.in_ok-end_object.ensures.ok in
    let before = c.end_object.ensures.room.0 ∙ (c.u64.ensures.room.0
    ∙ (c.key.ensures.room.0 ∙ (c.begin_object.ensures.room.0
    ∙ (c.new-out.ensures.before ∙ c.new.ensures.items)))) in
    let text = c.into_inner.ensures.items ∙ (ap (λ b. b ++ print c.end_object.new.self.tokens) before
    ∙ (ap print all ∙ printed count)) in
    ap (λ v. v.items) (rw c.unwrap.ensures at c.from_utf8.ensures.ok) ∙ text
