-- The news of an arrival is the agent's position.
use Rattle.std.proofs.Common.{◌≡◌, ℕ, zero, suc, Bool, true, false, not, Option, Some, None, List, [], ◌∷◌, ◌++◌, refl}
use Rattle.std.proofs.Common.{sym, ap, ◌∙◌, subst}
use Rattle.std.specs.Prelude.{slice_get, option_map, option_and_then, map, length}
use Rattle.std.proofs.lemmas.Option.{slice_get-map}
use Rattle.std.proofs.lemmas.Bool.{and_parts}
use Rattle.bhs_model.specs.declared.events.Event.{Event}
use Rattle.bhs_model.specs.declared.events.Event.TheVariants.{Tell, Deliver, Close}
use Rattle.bhs_model.specs.declared.marks.Mark.{Mark}
use Rattle.bhs_model.specs.declared.marks.Kept.{Kept}
use Rattle.bhs_model.specs.declared.replies.Reply.{Reply}
use Rattle.bhs_model.specs.declared.replies.Reply.TheVariants.{Here, Written, Changed, Gone, Noted, Bye, Over, No}
use Rattle.bhs_model.specs.Marks.{events_of, read, read_if}
use Rattle.bhs_model.specs.Views.{Arrived}
use Rattle.bhs_model.specs.Replying.{rep}
use Rattle.bhs_model.specs.Worlds.{World}
use Rattle.bhs_model.specs.Runs.{Position, Before, At, Bound, After, State, initial, next, delivered, arrives, is_bound}
use Rattle.bhs_model.specs.Runs.{sight_at, reply}
use Rattle.bhs_model.specs.InOrder.{replies, replies_from}
use Rattle.bhs_world.proofs.ListLemmas.{changed_same}
use Rattle.bhs_match.specs.Matches.{Play, world_in}
use Rattle.bhs_shared_match.specs.declared.model.Receipt.{Receipt}
use Rattle.bhs_shared_match.specs.Passes.{Passed}
use Rattle.bhs_shared_match.specs.declared.model.Tally.{Tally}
use Rattle.bhs_shared_match.specs.Tallies.{IsLegalHistory}
use Rattle.bhs_shared_match.specs.SharedMatches.{Given, GainsArrival, IsNews}
use Rattle.bhs_shared_match.specs.Arrivals.{arrival_mark, arrival_of, receipt_at, is_here, IsGivenIf, IsGiven}

-- The answer, if any, describes the agent's position.
abbrev IsHereIf : Option Reply → Type 0
IsHereIf None = Unit {0}
IsHereIf (Some reply) = is_here reply ≡ true

arrived_here : (world : World) (state : State) (agent : ℕ) (position : Position) → is_bound position ≡ true
    → IsHereIf (rep world.board ((delivered world state agent position).past agent))
arrived_here world state agent Before bound = absurd cc
arrived_here world state agent (At node came) bound = absurd cc
arrived_here world state agent After bound = absurd cc
arrived_here world state agent (Bound node port) bound =
    rw (changed_same state.past agent (Arrived (state.past agent)
    (sight_at world state (world.net.far node port).0 (Some (world.net.far node port).1)))) refl

deliver_here : (world : World) (state : State) (agent : ℕ) → IsHereIf (reply world state (Deliver agent))
deliver_here world state agent = by_arrival (arrives world state agent) refl
  where
    by_arrival : (b : Bool) → arrives world state agent ≡ b → IsHereIf (reply world state (Deliver agent))
    by_arrival true arrival =
        let bound = (and_parts (is_bound (state.position agent)) _ (and_parts (not state.closed) _ arrival).1).0 in
        rw arrival (arrived_here world state agent (state.position agent) bound)
    by_arrival false none = rw none tt

-- in a list of events
here_from : (world : World) (state : State) (events : List Event) (place agent : ℕ) (said : Option Reply) →
    slice_get events place ≡ Some (Deliver agent) → slice_get (replies_from world state events) place ≡ Some
    said → IsHereIf said
here_from world state [] place agent said there is = absurd cc
here_from world state (event ∷ events) zero agent said there is =
    let same : event ≡ Deliver agent = cc in
    let answered : reply world state event ≡ said = cc in
    rw (← answered) (rw same (deliver_here world state agent))
here_from world state (event ∷ events) (suc place) agent said there is =
    here_from world (next world state event) events place agent said there is

pub receipt_here : (play : Play) (place : ℕ) (receipt : Receipt) → map (λ one. read_if play.log one.mark)
    play.log ≡ replies (world_in play) (events_of play.log) →
    receipt_at play.log place ≡ Some receipt → is_here receipt.reply ≡ true
receipt_here play place receipt replied is = at_place (slice_get play.log place) refl
  where
    log : List Kept
    log = play.log

    by_event : (one : Kept) (event : Event) (mark : Option Mark) → slice_get play.log place ≡ Some one
        → one.event ≡ event → one.mark ≡ mark →
        option_map (λ mark. let r : Receipt = record { place = place; reply = read play.log mark } in r)
        (arrival_mark event mark) ≡ Some receipt → is_here receipt.reply ≡ true
    by_event one (Tell agent command) mark there same marked is = absurd cc
    by_event one Close mark there same marked is = absurd cc
    by_event one (Deliver agent) None there same marked is = absurd cc
    by_event one (Deliver agent) (Some mark) there same marked is =
        let event_there : slice_get (events_of play.log) place ≡ Some (Deliver agent) =
        slice_get-map (λ (one : Kept). one.event) play.log place ∙ ap (option_map (λ (one : Kept). one.event)) there
        ∙ ap (λ (e : Event). Some e) same in
        let reply_there : slice_get (replies (world_in play) (events_of play.log)) place ≡ Some
        (Some (read play.log mark)) =
        sym (ap (λ (xs : List (Option Reply)). slice_get xs place) replied)
        ∙ slice_get-map (λ (one : Kept). read_if play.log one.mark) play.log place
        ∙ ap (option_map (λ (one : Kept). read_if play.log one.mark)) there
        ∙ ap (λ (m : Option Mark). Some (read_if play.log m)) marked in
        let told : receipt ≡ record { place = place; reply = read play.log mark } = cc in
        ap (λ (receipt : Receipt). is_here receipt.reply) told ∙ here_from (world_in play) initial (events_of play.log)
        place agent (Some (read play.log mark)) event_there reply_there

    at_place : (o : Option Kept) → slice_get play.log place ≡ o → is_here receipt.reply ≡ true
    at_place None there = absurd (none_there (sym
        (ap (λ (o : Option Kept). option_map (λ mark. let r : Receipt = record
        { place = place; reply = read play.log mark } in r)
        (option_and_then (λ one. arrival_mark one.event one.mark) o)) there) ∙ is))
      where
        none_there : None ≡ Some receipt → ⊥
        none_there h = cc
    at_place (Some one) there =
        by_event one one.event one.mark there refl refl
        (sym (ap (λ (o : Option Kept). option_map
        (λ mark. let r : Receipt = record { place = place; reply = read play.log mark } in r)
        (option_and_then (λ one. arrival_mark one.event one.mark) o)) there) ∙ is)

pub next_here : (play : Play) (place : Option ℕ) (receipt : Receipt) → map (λ one. read_if play.log one.mark)
    play.log ≡ replies (world_in play) (events_of play.log) →
    Some receipt ≡ option_and_then (receipt_at play.log) place → is_here receipt.reply ≡ true
next_here play None receipt replied is = absurd cc
next_here play (Some place) receipt replied is = receipt_here play place receipt replied (sym is)

-- what was found, with its mark read, says so
pub news_found : (play : Play) (log : List Kept) (found : Option (ℕ × Mark)) (at : Option ℕ) (place : ℕ) (mark : Mark)
    (said : Reply) → log ≡ play.log →
    option_map (λ found. let r : Receipt = record { place = found.0; reply = read log found.1 } in r)
    found ≡ option_and_then (receipt_at log) at → found ≡ Some (place, mark) → said ≡ read play.log mark →
    map (λ one. read_if play.log one.mark) play.log ≡ replies (world_in play) (events_of play.log) → is_here said ≡ true
news_found play log found at place mark said same are is reads replied =
    let receipt : Receipt = record { place = place; reply = read play.log mark } in
    let P : List Kept → Type 0 = λ log. option_map
    (λ found. let r : Receipt = record { place = found.0; reply = read log found.1 } in r) found ≡ option_and_then
    (receipt_at log) at in
    let here : Some receipt ≡ option_and_then (receipt_at play.log) at =
    sym (ap (option_map (λ found. let r : Receipt = record { place = found.0; reply = read play.log found.1 } in r)) is)
    ∙ subst P same are in
    rw reads (next_here play at receipt replied here)

-- an arrival that is given is news
pub given_is_news : (given : Given) (play : Play) (tallies : List Tally) (pass pass' : Passed) (said : Reply)
    → IsLegalHistory play tallies → is_here said ≡ true → IsGiven play pass (Some said) pass' →
    IsNews given pass said pass'
given_is_news given play tallies pass pass' said legal here is =
    by_next (arrival_of play pass.agent (length pass.arrivals)) refl is
  where
    by_reply : (said : Reply) → is_here said ≡ true → GainsArrival pass said pass' → IsNews given pass said pass'
    by_reply (Here ports came board) here gains = gains
    by_reply Written here gains = absurd cc
    by_reply (Changed board) here gains = absurd cc
    by_reply Gone here gains = absurd cc
    by_reply Noted here gains = absurd cc
    by_reply Bye here gains = absurd cc
    by_reply Over here gains = absurd cc
    by_reply (No why) here gains = absurd cc

    by_next : (next : Option Receipt) → arrival_of play pass.agent (length pass.arrivals) ≡ next
        → IsGivenIf next pass (Some said) pass' → IsNews given pass said pass'
    by_next None is given = absurd cc
    by_next (Some receipt) is given =
        let same : receipt ≡ record { place = receipt.place; reply = said } = let e : said ≡ receipt.reply = cc in
        rw e refl in
        by_reply said here (record {
          place = receipt.place;
          gains = given.1 ∙ ap (λ (receipt : Receipt). let p : Passed = record pass
              { arrivals = pass.arrivals ++ receipt ∷ [] } in p) same;
          play = play;
          tallies = tallies;
          legal = legal;
          next = is ∙ ap (λ (receipt : Receipt). Some receipt) same;
        })
