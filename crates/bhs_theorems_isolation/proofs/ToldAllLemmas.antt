-- Sessions that were told all that their agents met, however they ended.
use Rattle.std.proofs.Common.{◌≡◌, ◌∙◌, ℕ, inl, inr, true, List, [], ◌++◌, map, sym, ap, ap₂, subst}
use Rattle.std.proofs.Common.{arith, append-nil, append_assoc}
use Rattle.std.proofs.lemmas.List.{map-append}
use Rattle.bhs_model.specs.declared.commands.Command.{Command}
use Rattle.bhs_model.specs.declared.commands.Command.TheVariants as commands
use Rattle.bhs_model.specs.declared.replies.Reply.TheVariants.{Over}
use Rattle.bhs_model.specs.Views.{View, Start, Arrived, Standing, Away, standing, standing_after, ports}
use Rattle.bhs_match.specs.Matches.{state_of}
use Rattle.bhs_shared_match.specs.Passes.{kind_of}
use Rattle.bhs_session.specs.declared.endings.Ended.{Ended}
use Rattle.bhs_session.specs.declared.endings.Ended.TheVariants as endings
use Rattle.bhs_session.specs.Texts.{text_of}
use Rattle.bhs_session.specs.Answering.{MayLack}
use Rattle.bhs_theorems_isolation.specs.Met.{view_of, bytes, takes_commands, AreDue}
use Rattle.bhs_theorems_isolation.specs.ContestMet.{Attended, fed, TookPart, IsLeftAway, IsLastOf, IsSentAsMet}
use Rattle.bhs_theorems_isolation.specs.ContestMet.{is_whole}
use Rattle.bhs_theorems_isolation.specs.ContestMet.{EqualPastsAreSentEqualBytes}
use Rattle.bhs_theorems_isolation.proofs.PastLemmas.{kinds}
use Rattle.bhs_theorems_isolation.proofs.ContestMetLemmas.{sent_as_met_lemma}
use Rattle.bhs_theorems_isolation.proofs.ContestSameLemmas.{kinds_said, same_met, same_bytes, equal_bytes_if_whole}

-- ---- on links

never_by_leave : (stands : Standing) (count : ℕ) → standing_after stands count commands.Leave ≡ Away → ⊥
never_by_leave stands count away = grind arith

-- a past that ends on a link is what was met
met_all : (view past : View) → standing past ≡ Away → IsLeftAway view past → past ≡ view
met_all view past away (inl (inl same)) = same
met_all view past away (inl (inr left)) =
    absurd (never_by_leave (standing view) (ports view) (sym (ap standing left) ∙ away))
met_all view past away (inr there) = elim there.1.1 [
  | inl came ↦ absurd (let no = sym (ap standing came) ∙ away in cc)
  | inr left ↦ absurd (never_by_leave (standing (Arrived view there.1.0)) (ports (Arrived view there.1.0))
      (sym (ap standing left) ∙ away))
]

all_sent : (one : Attended) (is : IsSentAsMet one) → one.ended ≡ endings.Over
    → one.written ≡ bytes one.play.setup.board is.met ++ text_of Over
all_sent one is over =
    let none : is.unwritten ≡ [] = subst (λ (ended : Ended). MayLack ended is.unwritten) over is.is_unwritten in
    let last : is.last ≡ text_of Over = subst (λ (ended : Ended). IsLastOf ended is.last) over is.is_last in
    sym (append-nil one.written) ∙ ap (λ (rest : List ℕ). one.written ++ rest) (sym none) ∙ is.sent
    ∙ ap (λ (rest : List ℕ). bytes one.play.setup.board is.met ++ rest) last

all_fed : (one : Attended) (is : IsSentAsMet one)
    → kinds kind_of is.met ++ map kind_of (is.left ++ one.more) ≡ map kind_of (fed one)
all_fed one is =
    ap (λ (first : List Command). first ++ map kind_of (is.left ++ one.more))
    (kinds_said one.play.setup.board Start is.met is.heard is.are_said)
    ∙ sym (map-append kind_of is.heard (is.left ++ one.more))
    ∙ ap (map kind_of) (sym (append_assoc is.heard is.left one.more)
    ∙ ap (λ (said : List Command). said ++ one.more) (sym is.said))

takes_none : (view : View) (more : List Command) → standing view ≡ Away → takes_commands (standing view) ≡ true →
    more ≡ []
takes_none view more away takes = absurd (let never = ap takes_commands away in cc)

equal_bytes_on_links : (one two : Attended) → TookPart one → TookPart two → one.ended ≡ endings.Over →
    two.ended ≡ endings.Over → standing ((state_of one.play).past one.pass.agent) ≡ Away →
    one.play.setup.quota ≡ two.play.setup.quota → one.play.setup.board ≡ two.play.setup.board →
    (state_of one.play).past one.pass.agent ≡ (state_of two.play).past two.pass.agent →
    fed one ≡ fed two → one.written ≡ two.written
equal_bytes_on_links one two part part2 over over2 away quotas boards pasts said =
    let first = sent_as_met_lemma one part in
    let second = sent_as_met_lemma two part2 in
    let past = (state_of one.play).past one.pass.agent in
    let past2 = (state_of two.play).past two.pass.agent in
    let away2 : standing past2 ≡ Away = sym (ap standing pasts) ∙ away in
    let here : past ≡ view_of first.met = met_all (view_of first.met) past away first.lived in
    let there : past2 ≡ view_of second.met = met_all (view_of second.met) past2 away2 second.lived in
    let same = same_met one.play.setup.quota first.met second.met (map kind_of (first.left ++ one.more))
    (map kind_of (second.left ++ two.more)) first.due
    (subst (λ (quota : ℕ). AreDue quota Start second.met) (sym quotas) second.due)
    (sym here ∙ pasts ∙ there)
    (all_fed one first ∙ ap (map kind_of) said ∙ sym (all_fed two second))
    (takes_none (view_of first.met) _ (sym (ap standing here) ∙ away))
    (takes_none (view_of second.met) _ (sym (ap standing there) ∙ away2)) in
    all_sent one first over
    ∙ ap₂ (λ (board : ℕ) (all : List ℕ). all ++ text_of Over) boards
    (same_bytes one.play.setup.board first.met second.met same ∙ ap (λ (board : ℕ). bytes board second.met) boards)
    ∙ sym (all_sent two second over2)

-- ---- both kinds of endings

-- a session that ended whole has an agent that is on no link
whole_is_here : (one : Attended) → TookPart one → is_whole one.ended ≡ true →
    standing ((state_of one.play).past one.pass.agent) ≡ Away → ⊥
whole_is_here one part whole away =
    let is = sent_as_met_lemma one part in
    let none = is.whole whole in
    elim none.3 [
      | inl same ↦ none.5 (sym (ap standing same) ∙ away)
      | inr left ↦ never_by_leave (standing (view_of is.met)) (ports (view_of is.met)) (sym (ap standing left) ∙ away)
    ]

pub equal_bytes_lemma : EqualPastsAreSentEqualBytes
equal_bytes_lemma one two part part2 (inl whole) (inl whole2) quotas boards pasts said =
    equal_bytes_if_whole one two part part2 whole whole2 quotas boards pasts said
equal_bytes_lemma one two part part2 (inr over) (inr over2) quotas boards pasts said =
    equal_bytes_on_links one two part part2 over.0 over2.0 over.1 quotas boards pasts said
equal_bytes_lemma one two part part2 (inl whole) (inr over2) quotas boards pasts said =
    absurd (whole_is_here one part whole (ap standing pasts ∙ over2.1))
equal_bytes_lemma one two part part2 (inr over) (inl whole2) quotas boards pasts said =
    absurd (whole_is_here two part2 whole2 (sym (ap standing pasts) ∙ over.1))
