-- The log of each match stays what is kept of the match's own events.
use Rattle.std.proofs.Common.{◌≡◌, ℕ, ◌<◌, Bool, true, false, List, [], ◌∷◌, ◌++◌, length, length-set}
use Rattle.std.proofs.Common.{get_or-set_same, append-nil, refl, sym, ap, ◌∙◌, subst, arith, ◌==◌}
use Rattle.std.proofs.Common.{if◌then◌else◌}
use Rattle.std.specs.Prelude.{slice_set, slice_index_or}
use Rattle.std.proofs.lemmas.Bool.{eq-eqb}
use Rattle.std.proofs.lemmas.List.{get_or_read}
use Rattle.bhs_net.specs.Network.{Network}
use Rattle.bhs_model.specs.declared.events.Event.{Event}
use Rattle.bhs_model.specs.declared.marks.Kept.{Kept}
use Rattle.bhs_model.specs.Worlds.{World}
use Rattle.bhs_model.specs.Arenas.{Happening, events_of}
use Rattle.bhs_model.specs.Setups.{world_of}
use Rattle.bhs_world.specs.Tables.{log_after}
use Rattle.bhs_world.proofs.ListLemmas.{each_set}
use Rattle.bhs_match.specs.declared.answers.Answer.{Answer}
use Rattle.bhs_match.specs.Matches.{Play, world_in}
use Rattle.bhs_match.specs.Laws.{IsLogOf}
use Rattle.bhs_match.specs.Games.{play_at, IsPlayed, IsPlayedIn, AreLogsOf, GoesOn}
use Rattle.bhs_match.proofs.LawLemmas.{logs_grow_lemma}

-- the event, if it belongs to this match
abbrev if_there : Bool → Event → List Event
if_there same event = if same then event ∷ [] else []

events_more : (game : ℕ) (happenings : List Happening) (one : Happening)
    → events_of game (happenings ++ one ∷ []) ≡ events_of game happenings ++ if_there (game == one.game) one.event
events_more game [] one = refl
events_more game (first ∷ happenings) one = by_game (game == first.game) first.event _ _ _
    (events_more game happenings one)
  where
    by_game : (same : Bool) (event : Event) (all before last : List Event) → all ≡ before ++ last
        → (if same then event ∷ all else all) ≡ (if same then event ∷ before else before) ++ last
    by_game true event all before last is = ap (λ (others : List Event). event ∷ others) is
    by_game false event all before last is = is

played_world : (old new : Play) → new.net ≡ old.net → new.setup ≡ old.setup → world_in new ≡ world_in old
played_world old new net setup = ap (λ (net : Network). world_of net new.setup) net ∙ ap (world_of old.net) setup

-- the match that was played
played_log : (old new : Play) (events : List Event) (event : Event) (answer : Answer) → IsPlayed old event answer new
    → IsLogOf (world_in old) events old.log → IsLogOf (world_in new) (events ++ event ∷ []) new.log
played_log old new events event answer played is =
    let grown : IsLogOf (world_in old) (events ++ event ∷ []) (log_after (world_in old) old.log event answer.mark) =
    (logs_grow_lemma (world_in old) events old.log event answer.mark is).grown in
    subst (λ (world : World). IsLogOf world (events ++ event ∷ []) new.log)
    (sym (played_world old new played.net played.setup))
    (subst (λ (log : List Kept). IsLogOf (world_in old) (events ++ event ∷ []) log) (sym played.log) grown)

pub goes_on : (old new : List Play) (happenings : List Happening) (game : ℕ) (event : Event) (answer : Answer)
    → IsPlayedIn old game event answer new → AreLogsOf old happenings → GoesOn old new happenings game event answer.mark
goes_on old new happenings game event answer is_played are =
    let one : Happening = record { game = game; event = event } in
    let before = play_at old game in
    let after = play_at new game in
    let grows = logs_grow_lemma (world_in before) (events_of game happenings) before.log event answer.mark
    (are game is_played.within) in
    let here : IsLogOf (world_in after) (events_of game (happenings ++ one ∷ [])) after.log =
    subst (λ (events : List Event). IsLogOf (world_in after) events after.log)
    (sym (events_more game happenings one ∙ ap (λ (same : Bool). events_of game happenings ++ if_there same event)
    (eq-eqb game game refl)))
    (played_log before after (events_of game happenings) event answer is_played.played (are game is_played.within)) in
    let all : AreLogsOf (slice_set old game after) (happenings ++ one ∷ []) = λ k lt.
    each_set (λ k play. k < length old → IsLogOf (world_in play) (events_of k (happenings ++ one ∷ [])) play.log) old
    game after _ is_played.within
    (λ _. here)
    (λ k apart below. subst (λ (events : List Event). IsLogOf (world_in (play_at old k)) events (play_at old k).log)
    (sym (events_more k happenings one ∙ ap (λ (same : Bool). events_of k happenings ++ if_there same event) apart
    ∙ append-nil (events_of k happenings))) (are k below))
    k (omega (arith, length-set old game after)) in
    record {
      reply = is_played.played.reply ∙ grows.answer;
      logs = subst (λ (plays : List Play). AreLogsOf plays (happenings ++ one ∷ [])) (sym is_played.others) all;
    }

-- one match of a list is played
pub played_in : (old plays : List Play) (game : ℕ) (event : Event) (answer : Answer) (before after : Play) → plays ≡ old
    → game < length plays → before ≡ slice_index_or plays game before →
    IsPlayed before event answer after → IsPlayedIn old game event answer (slice_set plays game after)
played_in old plays game event answer before after same within read played =
    subst (λ (old : List Play). IsPlayedIn old game event answer (slice_set plays game after)) same (record {
      within = within;
      played = rw (get_or-set_same plays game after _ within)
          (subst (λ (old : Play). IsPlayed old event answer after)
          (get_or_read plays game before within read _) played);
      others = rw (get_or-set_same plays game after _ within) refl;
    })
