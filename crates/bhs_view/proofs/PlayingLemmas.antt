-- Playing the chosen events of a log in a match where nothing happened.
use Rattle.std.proofs.Common.{ℕ, zero, suc, ◌+◌, ◌<◌, ◌≤◌, ◌≡◌, Bool, true, false, List, [], ◌∷◌, ◌++◌, Option, Ok, Err}
use Rattle.std.proofs.Common.{length, take, get_or, if◌then◌else◌, append-nil, refl, sym, ap, ap₂, ◌∙◌, subst, arith}
use Rattle.std.specs.Prelude.{Result}
use Rattle.std.proofs.lemmas.Bool.{cond-true}
use Rattle.std.proofs.lemmas.List.{take_all, length-map, get_or-map, get_or_default}
use Rattle.bhs_model.specs.declared.events.Event.{Event}
use Rattle.bhs_model.specs.declared.events.Event.TheVariants.{Close}
use Rattle.bhs_model.specs.declared.marks.Mark.{Mark}
use Rattle.bhs_model.specs.declared.marks.Kept.{Kept}
use Rattle.bhs_model.specs.Worlds.{World}
use Rattle.bhs_model.specs.Setups.{world_of}
use Rattle.bhs_model.specs.Runs.{State, initial, run}
use Rattle.bhs_model.specs.Cuts.{at_places}
use Rattle.bhs_model.specs.Kept.{nobody}
use Rattle.bhs_model.specs.Marks.{events_of}
use Rattle.bhs_model.proofs.KeptLemmas.{run-kept}
use Rattle.bhs_world.specs.Tables.{log_after}
use Rattle.bhs_world.proofs.GrowthLemmas.{run_from_more}
use Rattle.bhs_match.specs.Matches.{Play, world_in, state_of}
use Rattle.bhs_match.specs.Laws.{IsLogOf}
use Rattle.bhs_match.proofs.LawLemmas.{logs_grow_lemma}

-- A match that began as `start` and in which these events happened.
pub record HasPlayed (start : Play) (events : List Event) (game : Play) : Type 0 where
  pub log : IsLogOf (world_in start) events game.log
  pub net : game.net ≡ start.net
  pub setup : game.setup ≡ start.setup

same_world : (start game : Play) → game.net ≡ start.net → game.setup ≡ start.setup → world_in game ≡ world_in start
same_world start game net setup = ap₂ world_of net setup

pub plays_on : (start old new : Play) (events : List Event) (event : Event) (mark : Option Mark)
    → HasPlayed start events old →
    new.log ≡ log_after (world_in old) old.log event mark → (new.net ≡ old.net) × (new.setup ≡ old.setup)
    → HasPlayed start (events ++ event ∷ []) new
plays_on start old new events event mark played grown same = record {
  log = (logs_grow_lemma (world_in start) events old.log event mark played.log).grown
      ∙ ap events_of (sym (grown ∙ ap (λ (world : World). log_after world old.log event mark)
      (same_world start old played.net played.setup)));
  net = same.0 ∙ played.net;
  setup = same.1 ∙ played.setup;
}

-- the chosen ones of one place more
chosen_more : (events : List Event) (set : List Bool) (place : ℕ) (event : Event) → place < length events
    → place < length set → get_or events place event ≡ event →
    at_places (take (suc place) events) set ≡ at_places (take place events) set
    ++ (if get_or set place false then event ∷ [] else [])
chosen_more [] set place event within there is = absurd (omega arith)
chosen_more (first ∷ events) [] place event within there is = absurd (omega arith)
chosen_more (first ∷ events) (true ∷ set) zero event within there is = ap (λ (one : Event). one ∷ []) is
chosen_more (first ∷ events) (false ∷ set) zero event within there is = refl
chosen_more (first ∷ events) (true ∷ set) (suc place) event within there is =
    ap (λ (rest : List Event). first ∷ rest) (chosen_more events set place event (omega arith) (omega arith) is)
chosen_more (first ∷ events) (false ∷ set) (suc place) event within there is =
    chosen_more events set place event (omega arith) (omega arith) is

next_is : (place : ℕ) → place + 1 ≡ suc place
next_is place = omega arith

more_of : (log : List Kept) (set : List Bool) (place : ℕ) (one : Kept) → place < length log → length set ≡ length log
    → one ≡ get_or log place one →
    at_places (take (place + 1) (events_of log)) set ≡ at_places (take place (events_of log)) set
    ++ (if get_or set place false then one.event ∷ [] else [])
more_of log set place one within same is =
    let count : length (events_of log) ≡ length log = length-map log (λ (kept : Kept). kept.event) in
    ap (λ (n : ℕ). at_places (take n (events_of log)) set) (next_is place)
    ∙ chosen_more (events_of log) set place one.event (omega arith) (omega arith)
    (get_or-map (λ (kept : Kept). kept.event) log place one one.event within
    ∙ ap (λ (kept : Kept). kept.event) (sym is))

pub plays_chosen : (start old new : Play) (log : List Kept) (set : List Bool) (place : ℕ) (one : Kept) (event : Event)
    (mark : Option Mark) → place < length log → length set ≡ length log → one ≡ get_or log place one →
    get_or set place false ≡ true → event ≡ one.event
    → HasPlayed start (at_places (take place (events_of log)) set) old →
    new.log ≡ log_after (world_in old) old.log event mark → (new.net ≡ old.net) × (new.setup ≡ old.setup)
    → HasPlayed start (at_places (take (place + 1) (events_of log)) set) new
plays_chosen start old new log set place one event mark within same is chosen is_event played grown kept_same =
    let before = at_places (take place (events_of log)) set in
    let more : before ++ event ∷ [] ≡ at_places (take (place + 1) (events_of log)) set =
    ap (λ (event : Event). before ++ event ∷ []) is_event
    ∙ sym (more_of log set place one within same is
    ∙ ap (λ (b : Bool). before ++ (if b then one.event ∷ [] else [])) chosen) in
    subst (λ (events : List Event). HasPlayed start events new) more
    (plays_on start old new before event mark played grown kept_same)

pub plays_omitted : (start old : Play) (log : List Kept) (set : List Bool) (place : ℕ) → place < length log
    → length set ≡ length log →
    get_or set place false ≡ false → HasPlayed start (at_places (take place (events_of log)) set) old
    → HasPlayed start (at_places (take (place + 1) (events_of log)) set) old
plays_omitted start old log set place within same omitted played =
    let count : length (events_of log) ≡ length log = length-map log (λ (kept : Kept). kept.event) in
    let before = at_places (take place (events_of log)) set in
    let event = get_or (events_of log) place Close in
    let more : at_places (take (place + 1) (events_of log)) set ≡ before
    ++ (if get_or set place false then event ∷ [] else []) =
    ap (λ (n : ℕ). at_places (take n (events_of log)) set) (next_is place)
    ∙ chosen_more (events_of log) set place event (omega arith) (omega arith)
    (get_or_default (events_of log) place event Close (omega arith)) in
    subst (λ (events : List Event). HasPlayed start events old)
    (sym (more ∙ ap (λ (b : Bool). before ++ (if b then event ∷ [] else [])) omitted ∙ append-nil before)) played

pub plays_all : (start game : Play) (log : List Kept) (set : List Bool) (place : ℕ) → length log ≤ place
    → HasPlayed start (at_places (take place (events_of log)) set) game
    → HasPlayed start (at_places (events_of log) set) game
plays_all start game log set place past played =
    let count : length (events_of log) ≡ length log = length-map log (λ (kept : Kept). kept.event) in
    subst (λ (events : List Event). HasPlayed start (at_places events set) game)
    (take_all place (events_of log) (omega arith)) played

pub ends : (start game : Play) (events : List Event) → HasPlayed start (events ++ Close ∷ []) game
    → (state_of game).closed ≡ true
ends start game events played =
    let world : World = world_in start in
    ap (λ (world : World). (run world (events_of game.log)).closed) (same_world start game played.net played.setup)
    ∙ ap (λ (log : List Event). (run world log).closed) (sym played.log)
    ∙ ap (λ (state : State). state.closed) (run-kept world initial nobody (events ++ Close ∷ []))
    ∙ ap (λ (state : State). state.closed) (run_from_more world initial events Close)

pub is_open_none : (b : Bool) (play got : Play) (answer : Result Play Play) (P : Type 0)
    → answer ≡ (if b then Ok play else Err play) → b ≡ true → answer ≡ Err got → P
is_open_none b play got answer P is ended err =
    let chosen : Result Play Play = if b then Ok play else Err play in
    let sealed : Result Play Play = Ok play in
    let e : chosen ≡ sealed = cond-true b _ _ ended in
    cc

pub is_sealed : (b : Bool) (play got : Play) (answer : Result Play Play) → answer ≡ (if b then Ok play else Err play)
    → b ≡ true → answer ≡ Ok got → got ≡ play
is_sealed b play got answer is ended ok =
    let chosen : Result Play Play = if b then Ok play else Err play in
    let sealed : Result Play Play = Ok play in
    let e : chosen ≡ sealed = cond-true b _ _ ended in
    cc
