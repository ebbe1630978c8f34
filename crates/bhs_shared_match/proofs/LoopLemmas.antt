-- Loop invariants of the pass over the log and over the receipt books.
use Rattle.std.proofs.Common.{◌≡◌, ◌≢◌, ℕ, zero, suc, ◌+◌, ◌<◌, ◌≤◌, Bool, true, false, inl, inr, Option}
use Rattle.std.proofs.Common.{Some, None, List, [], ◌∷◌, length, take, refl, sym, ap, ◌∙◌, subst}
use Rattle.std.proofs.Common.{arith, get_or, length-take, nat_lt, slice_set}
use Rattle.std.proofs.Common.{if◌then◌else◌}
use Rattle.std.specs.Prelude.{slice_get, IsTrue}
use Rattle.std.proofs.lemmas.Bool.{cond-true, cond-false}
use Rattle.std.proofs.lemmas.Option.{slice_get_read}
use Rattle.bhs_model.specs.declared.commands.Command.{Command}
use Rattle.bhs_model.specs.declared.events.Event.{Event}
use Rattle.bhs_model.specs.declared.events.Event.TheVariants.{Tell, Deliver, Close}
use Rattle.bhs_model.specs.declared.marks.Kept.{Kept}
use Rattle.bhs_world.proofs.ListLemmas.{lt_tells}
use Rattle.bhs_match.specs.Matches.{Play, world_in}
use Rattle.bhs_world.specs.Faults.{IsWithinLimits}
use Rattle.bhs_model.specs.declared.marks.Mark.{Mark}
use Rattle.bhs_model.specs.Kept.{kept}
use Rattle.bhs_model.specs.Marks.{events_of}
use Rattle.bhs_shared_match.proofs.KeptLemmas.{agent_within}
use Rattle.bhs_shared_match.specs.Passes.{Passed}
use Rattle.bhs_shared_match.specs.declared.model.Receipt.{Receipt}
use Rattle.bhs_shared_match.specs.Comparing.{entry_in, HeardEntry, command_by, entry_of, entry_first, heard_from}
use Rattle.bhs_shared_match.specs.Comparing.{receipted}
use Rattle.bhs_shared_match.specs.Saying.{AnyOther, IsSaid}
use Rattle.bhs_shared_match.specs.Settling.{lesser}
use Rattle.bhs_shared_match.proofs.CompareLemmas.{receipted_at}
use Rattle.bhs_shared_match.proofs.OnePassLemmas.{IsSoFar, counts_on}
use Rattle.bhs_shared_match.proofs.PastLogLemmas.{IsEnding, ending_more}

-- the same in the words of the loop
pub other_at : (passes : List Passed) (place : ℕ) (pass : Passed) (agent index : ℕ) (entry : HeardEntry)
    → place < length passes → pass ≡ get_or passes place pass → pass.agent ≡ agent →
    slice_get (receipted pass.receipts pass.commands) index ≢ Some entry → AnyOther agent index entry passes
other_at [] place pass agent index entry inside is its apart = absurd (omega (arith, inside))
other_at (first ∷ passes) zero pass agent index entry inside is its apart =
    inl (
      ap (λ (p : Passed). p.agent) (sym is)
          ∙ its,
      subst (λ (p : Passed). slice_get (receipted p.receipts p.commands) index ≢ Some entry) is apart,
    )
other_at (first ∷ passes) (suc place) pass agent index entry inside is its apart =
    inr (other_at passes place pass agent index entry (omega (arith, inside)) is its apart)

first_some : (whole : List Kept) (place : ℕ) (command : Option Command) (mark : Option Mark) (others : List HeardEntry)
    → length (entry_first whole place command mark others) ≤ length others + 1
first_some whole place (Some command) mark others = omega arith
first_some whole place None mark others = omega arith

heard_short : (whole : List Kept) (agent place : ℕ) (log : List Kept)
    → length (heard_from whole agent place log) ≤ length log
heard_short whole agent place [] = omega arith
heard_short whole agent place (one ∷ others) =
    omega (
      arith,
      first_some whole place (command_by agent one.event) one.mark
          (heard_from whole agent (place + 1) others),
      heard_short whole agent (place + 1) others,
    )

pub index_short : (play : Play) (passes : List Passed) (log : List Kept) (heard : List ℕ) (place agent : ℕ)
    (best : Option (ℕ × ℕ)) → IsSoFar play passes log heard place best → place < length log
    → get_or heard agent 0 < length log
index_short play passes log heard place agent best so_far inside =
    let most : length (take place log) ≡ place = simp length-take (omega (arith, inside)) in
    omega (arith, so_far.counts agent, heard_short log agent 0 (take place log), most, inside)

pub step_on : (play : Play) (passes : List Passed) (log : List Kept) (heard : List ℕ) (place : ℕ)
    (best now : Option (ℕ × ℕ)) (one : Kept) (agent from again : ℕ) (command : Command) (said answer : Bool)
    → IsSoFar play passes log heard place best →
    log ≡ play.log → place < length log → one ≡ get_or log place one → one.event ≡ Tell agent command → (agent < 64)
    × (agent < play.setup.agents) → from ≡ agent → again ≡ agent →
    said ≡ answer → IsSaid said passes agent (get_or heard from 0) (entry_of log place command one.mark)
    → now ≡ (if answer then best else lesser best agent (Some (get_or heard from 0))) →
    IsSoFar play passes log (slice_set heard again (get_or heard from 0 + 1)) (place + 1) now
step_on play passes log heard place best now one agent from again command said answer so_far same inside is told few
    from_is again_is was says made =
    let index : ℕ = get_or heard from 0 in
    subst (λ (a : ℕ). IsSoFar play passes log (slice_set heard a (index + 1)) (place + 1) now) (sym again_is)
    (counts_on play passes log heard place best now one agent index command answer so_far same inside is told few.0
    few.1 (ap (λ (a : ℕ). get_or heard a 0) from_is)
    (subst (λ (b : Bool). IsSaid b passes agent index (entry_of log place command one.mark)) was says) made)

pub few_agents : (play : Play) (log : List Kept) (place : ℕ) (one : Kept) (agent : ℕ) (command : Command)
    → kept (world_in play) (events_of play.log) ≡ events_of play.log → log ≡ play.log →
    IsWithinLimits play.net play.setup → place < length log → one ≡ get_or log place one
    → one.event ≡ Tell agent command → (agent < 64) × (agent < play.setup.agents)
few_agents play log place one agent command legal same limits inside is told =
    let within : agent < play.setup.agents = agent_within (world_in play) log place one agent command
    (ap (λ (log : List Kept). kept (world_in play) (events_of log)) same ∙ legal ∙ ap events_of (sym same))
    inside is told in
    (omega (arith, within, limits.agents), within)

lt_is : (a b : ℕ) → a < b → nat_lt a b ≡ true
lt_is a b below = elim (lt_tells a b) [ inl h ↦ h.0 | inr h ↦ absurd (omega (arith, below, h.1)) ]

lt_not : (a b : ℕ) → b ≤ a → nat_lt a b ≡ false
lt_not a b above = elim (lt_tells a b) [ inl h ↦ absurd (omega (arith, above, h.1)) | inr h ↦ h.0 ]

pub ending_past : (play : Play) (passes : List Passed) (heard : List ℕ) (place : ℕ) (best now : Option (ℕ × ℕ))
    (pass : Passed) (agent count most : ℕ) → IsEnding play passes heard place best →
    place < length passes → pass ≡ get_or passes place pass → agent ≡ pass.agent → count ≡ get_or heard pass.agent 0
    → most ≡ length (receipted pass.receipts pass.commands) →
    count < most → now ≡ lesser best agent (Some count) → IsEnding play passes heard (place + 1) now
ending_past play passes heard place best now pass agent count most so_far inside is its at long below made =
    ending_more play passes heard place best now pass agent count most so_far inside is its at long
    (made ∙ sym (cond-true (nat_lt count most) _ _ (lt_is count most below)))

pub ending_within : (play : Play) (passes : List Passed) (heard : List ℕ) (place : ℕ) (best now : Option (ℕ × ℕ))
    (pass : Passed) (agent count most : ℕ) → IsEnding play passes heard place best →
    place < length passes → pass ≡ get_or passes place pass → agent ≡ pass.agent → count ≡ get_or heard pass.agent 0
    → most ≡ length (receipted pass.receipts pass.commands) →
    most ≤ count → now ≡ best → IsEnding play passes heard (place + 1) now
ending_within play passes heard place best now pass agent count most so_far inside is its at long above made =
    ending_more play passes heard place best now pass agent count most so_far inside is its at long
    (made ∙ sym (cond-false (nat_lt count most) _ _ (lt_not count most above)))

pub untold : (event : Event) → ((agent : ℕ) (command : Command) → event ≡ Tell agent command → ⊥) → (agent : ℕ)
    → command_by agent event ≡ None
untold (Tell other command) none agent = absurd (none other command refl)
untold (Deliver other) none agent = refl
untold Close none agent = refl

-- what a pass says at an index
pub says_at : (given : Passed) (receipts : List Receipt) (commands : List Command) (index : ℕ) (receipt : Receipt)
    (kept : Command) (entry : HeardEntry) (r : Bool) → receipts ≡ given.receipts → commands ≡ given.commands →
    index < length receipts → receipt ≡ get_or receipts index receipt → index < length commands
    → kept ≡ get_or commands index kept → (IsTrue r → entry ≡ entry_in receipt kept)
    × (entry ≡ entry_in receipt kept → IsTrue r) →
    (IsTrue r → slice_get (receipted given.receipts given.commands) index ≡ Some entry)
    × (slice_get (receipted given.receipts given.commands) index ≡ Some entry → IsTrue r)
says_at given receipts commands index receipt kept entry r same_receipts same_commands in_receipts receipt_is
    in_commands kept_is is =
    let there : slice_get (receipted given.receipts given.commands) index ≡ Some (entry_in receipt kept) =
    receipted_at given.receipts given.commands index receipt kept
    (ap (λ (xs : List Receipt). slice_get xs index) (sym same_receipts) ∙ slice_get_read receipts (length receipts)
    index receipt refl in_receipts receipt_is)
    (ap (λ (xs : List Command). slice_get xs index) (sym same_commands) ∙ slice_get_read commands (length commands)
    index kept refl in_commands kept_is) in
    (λ yes. there ∙ sym (ap (λ (e : HeardEntry). Some e) (is.0 yes)), λ same. is.1 (some_same (sym same ∙ there)))
  where
    some_same : {x y : HeardEntry} → Some x ≡ Some y → x ≡ y
    some_same e = cc

receipted_past : (receipts : List Receipt) (commands : List Command) (index : ℕ) → length receipts ≤ index
    → slice_get (receipted receipts commands) index ≡ None
receipted_past [] commands index past = refl
receipted_past (receipt ∷ receipts) [] index past = refl
receipted_past (receipt ∷ receipts) (command ∷ commands) zero past = absurd (omega (arith, past))
receipted_past (receipt ∷ receipts) (command ∷ commands) (suc index) past =
    receipted_past receipts commands index (omega (arith, past))

-- past its receipts it says nothing
pub says_none : (given : Passed) (receipts : List Receipt) (index : ℕ) (entry : HeardEntry) → receipts ≡ given.receipts
    → length receipts ≤ index →
    (IsTrue false → slice_get (receipted given.receipts given.commands) index ≡ Some entry)
    × (slice_get (receipted given.receipts given.commands) index ≡ Some entry → IsTrue false)
says_none given receipts index entry same past = (
  λ no. absurd (not_both no),
  λ is. absurd
      (not_some (sym (receipted_past given.receipts given.commands index
      (subst (λ (xs : List Receipt). length xs ≤ index) same past)) ∙ is)),
)
  where
    not_both : IsTrue false → ⊥
    not_both e = cc

    not_some : None ≡ Some entry → ⊥
    not_some e = cc
