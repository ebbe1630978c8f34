-- Non-interference: a match of an arena behaves as it does alone.
use Rattle.std.proofs.Common.{ℕ, ◌≡◌, Bool, true, false, Option, List, [], ◌∷◌, ◌==◌, if◌then◌else◌, refl, sym, ap, ◌∙◌}
use Rattle.std.proofs.lemmas.Bool.{eqb-true}
use Rattle.bhs_model.specs.declared.replies.Reply.{Reply}
use Rattle.bhs_model.specs.Worlds.{World}
use Rattle.bhs_model.specs.Runs.{State, changed, next, run_from, reply}
use Rattle.bhs_model.specs.InOrder.{replies_from}
use Rattle.bhs_model.specs.Arenas.{Happening, events_of, arena_from, arena_replies_from, none_begun}
use Rattle.bhs_model.specs.Laws.{MatchesAreApart, AmongMatches}
use Rattle.bhs_model.specs.Replying.{reps}
use Rattle.bhs_model.proofs.PastLemmas.{replies_are_of_pasts_lemma}

module _ (worlds : ℕ → World) where
  pub arena_state : (states : ℕ → State) (happenings : List Happening) (game : ℕ) →
      arena_from worlds states happenings game ≡ run_from (worlds game) (states game) (events_of game happenings)
  arena_state states [] game = refl
  arena_state states (one ∷ others) game =
      arena_state (changed states one.game (next (worlds one.game) (states one.game) one.event)) others game
      ∙ go (game == one.game) (eqb-true game one.game)
    where
      go : (is_here : Bool) → (is_here ≡ true → game ≡ one.game) →
          run_from (worlds game) (if is_here then next (worlds one.game) (states one.game) one.event else states game)
          (events_of game others)
          ≡ run_from (worlds game) (states game)
          (if is_here then one.event ∷ events_of game others else events_of game others)
      go true here = ap (λ (there : ℕ). run_from (worlds game) (next (worlds there) (states there) one.event)
          (events_of game others)) (sym (here refl))
      go false here = refl

  pub arena_answers : (states : ℕ → State) (happenings : List Happening) (game : ℕ) →
      arena_replies_from worlds states game happenings ≡ replies_from (worlds game) (states game)
      (events_of game happenings)
  arena_answers states [] game = refl
  arena_answers states (one ∷ others) game =
      go (game == one.game) (eqb-true game one.game) _
      (arena_answers (changed states one.game (next (worlds one.game) (states one.game) one.event)) others game)
    where
      go : (is_here : Bool) → (is_here ≡ true → game ≡ one.game) → (rest : List (Option Reply)) →
          rest ≡ replies_from (worlds game) (if is_here then next (worlds one.game) (states one.game)
          one.event else states game) (events_of game others) →
          (if is_here then reply (worlds one.game) (states one.game) one.event ∷ rest else rest)
          ≡ replies_from (worlds game) (states game)
          (if is_here then one.event ∷ events_of game others else events_of game others)
      go true here rest same = ap (λ (read : List (Option Reply)). reply (worlds one.game) (states one.game)
          one.event ∷ read) same
          ∙ ap (λ (there : ℕ). reply (worlds there) (states there) one.event ∷ replies_from (worlds game)
          (next (worlds there) (states there) one.event) (events_of game others)) (sym (here refl))
      go false here rest same = same

pub matches_are_apart_lemma : MatchesAreApart
matches_are_apart_lemma worlds happenings game = record {
  state = arena_state worlds none_begun happenings game;
  answers = arena_answers worlds none_begun happenings game;
}

pub among_matches_lemma : AmongMatches
among_matches_lemma worlds happenings game agent =
    replies_are_of_pasts_lemma (worlds game) (events_of game happenings) agent
    ∙ ap (λ (end : State). reps (worlds game).board (end.past agent))
    (sym (arena_state worlds none_begun happenings game))
