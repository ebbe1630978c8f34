-- What was written of a match is read as that match.
use Rattle.std.proofs.Common.{◌≡◌, ℕ, ◌+◌, ◌<◌, ◌≤◌, inl, inr, Bool, true, false, if◌then◌else◌, List, length, get_or}
use Rattle.std.proofs.Common.{Result, Ok, Err, IfOk, IsOk, OnOk, refl, subst, ap, ◌∙◌, arith}
use Rattle.std.proofs.lemmas.Bool.{cases_lt}
use Rattle.std.proofs.lemmas.List.{get_or_default}
use Rattle.bhs_net.specs.Network.{Network, IsNetwork}
use Rattle.bhs_model.specs.declared.marks.Kept.{Kept}
use Rattle.bhs_model.specs.Setups.{IsNormal}
use Rattle.bhs_model.specs.Kept.{kept}
use Rattle.bhs_model.specs.Marks.{events_of}
use Rattle.bhs_world.specs.Faults.{IsWithinLimits}
use Rattle.bhs_match.specs.Matches.{Play, world_in, state_of}
use Rattle.bhs_model.specs.declared.setups.Setup.{Setup}
use Rattle.bhs_model.specs.Small.{is_small}
use Rattle.bhs_replay.specs.declared.heads.Version.TheVariants.{Two, Three}
use Rattle.bhs_replay.specs.Head.{CanSay, version_of}
use Rattle.bhs_replay.specs.Played.{IsTyped}
use Rattle.bhs_replay.specs.Replay.{replay_of}
use Rattle.bhs_replay.specs.Stages.{Ends, Comes}
use Rattle.bhs_replay.proofs.EveryReplay.{every_replay}
use Rattle.bhs_replay.proofs.HeadReads.{AllOf}
use Rattle.bhs_replay.proofs.ListLemmas.{by_places, all_mapped, all_at}

-- ---- the first events of a log

abbrev HasTyped : Kept → Type 0
HasTyped one = IsTyped one.event

abbrev pub AreTypedUpTo : List Kept → ℕ → Type 0
AreTypedUpTo log i = (k : ℕ) (other : Kept) → k < i → k < length log → HasTyped (get_or log k other)

pub none_typed : (log : List Kept) → AreTypedUpTo log 0
none_typed log k other less within = absurd (omega arith)

pub one_more : (log : List Kept) (i : ℕ) (one : Kept) → i < length log → one ≡ get_or log i one → AreTypedUpTo log i
    → IsTyped one.event → AreTypedUpTo log (i + 1)
one_more log i one long is before here k other less within = elim (cases_lt k i) [
  | inl earlier ↦ before k other earlier within
  | inr later ↦ let same : i ≡ k = omega arith in
      subst HasTyped (is ∙ ap (λ n. get_or log n one) same ∙ get_or_default log k one other within) here
]

pub all_typed : (log : List Kept) (i : ℕ) → length log ≤ i → AreTypedUpTo log i → AreTypedUpTo log (length log)
all_typed log i past before k other less within = before k other (omega arith) within

-- ---- results

-- what holds where a value was made, and one was made
pub was_made : {T E : Type 0} (made : Result T E) (fact : Type 0) → IsOk made → IfOk made (λ value. fact) → fact
was_made (Ok value) fact is holds = holds
was_made (Err error) fact is holds = absurd (cc)

pub on_ok : {T E : Type 0} (result : Result T E) (fact : Type 0) → fact → OnOk result fact
on_ok (Ok value) fact holds = holds
on_ok (Err error) fact holds = tt

-- ---- the match

-- the version that is written can say the match
is_said : (net : Network) (setup : Setup) (small : Bool) → is_small net setup ≡ small
    → CanSay (if small then Two else Three) net setup
is_said net setup true is = is
is_said net setup false is = tt

pub read_as : (play : Play) → IsNetwork play.net → IsWithinLimits play.net play.setup → IsNormal play.net play.setup
    → (state_of play).closed ≡ true → kept (world_in play) (events_of play.log) ≡ events_of play.log
    → AreTypedUpTo play.log (length play.log) → Comes (replay_of play) (Ends play.net play.setup (events_of play.log))
read_as play network within in_order closed all_kept typed =
    let each : AllOf HasTyped play.log =
    by_places HasTyped play.log (λ k other less. typed k other less less) in
    let events : AllOf IsTyped (events_of play.log) =
    all_mapped IsTyped (λ (one : Kept). one.event) play.log each in
    every_replay (version_of play.net play.setup) play.net play.setup (events_of play.log)
    (is_said play.net play.setup _ refl) (record {
      network = network;
      within = within;
      in_order = in_order;
      typed = λ place other less. all_at IsTyped (events_of play.log) place other less events;
      all_kept = all_kept;
      closed = closed;
    })
