-- A list of matches that are settled grows at its end, and dealers settle as they do at their starts.
use Rattle.std.proofs.Common.{ℕ, suc, ◌≡◌, subst, List, Option, Some, None, [], ◌∷◌, ◌++◌}
use Rattle.std.proofs.Common.{refl, Result, Ok, Err, drop, length, map}
use Rattle.std.specs.Prelude.{slice_get, option_map}
use Rattle.rand_chacha.specs.ChaCha.{ChaCha}
use Rattle.bhs_time.specs.declared.kinds.ScheduleKind.{ScheduleKind}
use Rattle.bhs_time.specs.declared.kinds.ScheduleKind.TheVariants.{Adaptive, Oblivious}
use Rattle.bhs_match.specs.Matches.{Play}
use Rattle.bhs_shared_match.specs.SharedMatches.{Given}
use Rattle.bhs_shared_match.specs.declared.settlement.Settlement.{Settlement}
use Rattle.bhs_server.specs.declared.settlement.Refused.{Refused}
use Rattle.bhs_server.specs.declared.settlement.Refused.TheVariants.{Unsettled, Untimely}
use Rattle.bhs_deliveries.specs.declared.timeliness.Untimely.{Untimely as Why}
use Rattle.bhs_server.specs.Settling.{HaveFared, HasFared, IsTimely, IsAstray, at_start}

abbrev Fared : Type 0
Fared = Result Settlement Refused

-- ---- a dealer at its start has the same schedule

timely_later : (schedule : ScheduleKind) (dealer : Option ChaCha) (held : List (ℕ × ℕ)) (play : Play)
    (turns : List ℕ) →
    IsTimely schedule (option_map at_start dealer) held play turns → IsTimely schedule dealer held play turns
timely_later Adaptive dealer held play turns is = tt
timely_later (Oblivious law) None held play turns is = tt
timely_later (Oblivious law) (Some dealer) held play turns is = is

astray_later : (schedule : ScheduleKind) (dealer : Option ChaCha) (held : List (ℕ × ℕ)) (play : Play) (turns : List ℕ)
    (place : ℕ) (why : Why) → IsAstray schedule (option_map at_start dealer) held play turns place why →
    IsAstray schedule dealer held play turns place why
astray_later Adaptive dealer held play turns place why is = is
astray_later (Oblivious law) None held play turns place why is = is
astray_later (Oblivious law) (Some dealer) held play turns place why is = is

pub fared_later : (given : Given) (dealer : Option ChaCha) (one : Fared) →
    HasFared given (option_map at_start dealer) one → HasFared given dealer one
fared_later given dealer (Ok settlement) is =
    (is.0, timely_later given.schedule dealer given.held settlement.sealed settlement.turns.items is.1)
fared_later given dealer (Err (Untimely settlement place why)) is =
    (is.0, astray_later given.schedule dealer given.held settlement.sealed settlement.turns.items place why is.1)
fared_later given dealer (Err (Unsettled unsettled)) is = is

first_copy : (dealers : List ChaCha) → slice_get (map at_start dealers) 0 ≡ option_map at_start (slice_get dealers 0)
first_copy [] = refl
first_copy (dealer ∷ dealers) = refl

other_copies : (dealers : List ChaCha) → drop 1 (map at_start dealers) ≡ map at_start (drop 1 dealers)
other_copies [] = refl
other_copies (dealer ∷ dealers) = refl

-- what came of matches by copies of dealers came of them by these dealers
pub all_later : (shared_matches : List Given) (dealers : List ChaCha) (settled : List Fared) →
    HaveFared shared_matches (map at_start dealers) settled → HaveFared shared_matches dealers settled
all_later [] dealers [] all = tt
all_later (given ∷ shared_matches) dealers (one ∷ settled) all = (
  fared_later given (slice_get dealers 0) one
      (subst (λ (dealer : Option ChaCha). HasFared given dealer one) (first_copy dealers) all.0),
  all_later shared_matches (drop 1 dealers) settled
      (subst (λ (left : List ChaCha). HaveFared shared_matches left settled) (other_copies dealers) all.1),
)
all_later [] dealers (one ∷ settled) all = absurd all
all_later (given ∷ shared_matches) dealers [] all = absurd all

-- ---- one more match

get_later : (dealers : List ChaCha) (n : ℕ) → slice_get dealers (suc n) ≡ slice_get (drop 1 dealers) n
get_later [] n = refl
get_later (dealer ∷ dealers) n = refl

-- one more match that is settled, by the dealer of its number
pub HaveFared-snoc : (shared_matches : List Given) (dealers : List ChaCha) (settled : List Fared) (given : Given)
    (one : Fared) →
    HaveFared shared_matches dealers settled → HasFared given (slice_get dealers (length settled)) one →
    HaveFared (shared_matches ++ given ∷ []) dealers (settled ++ one ∷ [])
HaveFared-snoc [] dealers [] given one all is = (is, tt)
HaveFared-snoc (first ∷ shared_matches) dealers (before ∷ settled) given one all is = (
  all.0,
  HaveFared-snoc shared_matches (drop 1 dealers) settled given one all.1
      (subst (λ (dealer : Option ChaCha). HasFared given dealer one) (get_later dealers (length settled)) is),
)
HaveFared-snoc [] dealers (before ∷ settled) given one all is = absurd all
HaveFared-snoc (first ∷ shared_matches) dealers [] given one all is = absurd all
