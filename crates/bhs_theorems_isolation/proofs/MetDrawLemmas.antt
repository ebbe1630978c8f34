-- The invariant of a connection is preserved by a draw.
use Rattle.std.proofs.Common.{◌≡◌, ◌≢◌, ◌∙◌, ℕ, ◌<◌, inl, inr, Bool, true, false, not, Option, Some, List, [], ◌∷◌}
use Rattle.std.proofs.Common.{◌++◌, length, refl, sym, ap, ap₂, subst, append-nil}
use Rattle.std.proofs.lemmas.Bool.{and_parts, false_from_ne_true, true_from_ne_false}
use Rattle.std.proofs.lemmas.List.{get_or-set_same, get_or-set_other}
use Rattle.bhs_model.specs.declared.events.Event.TheVariants.{Deliver}
use Rattle.bhs_model.specs.declared.setups.Setup.{Setup}
use Rattle.bhs_model.specs.declared.replies.Reply.{Reply}
use Rattle.bhs_model.specs.Replying.{rep, here}
use Rattle.bhs_model.specs.Views.{View, Start, Arrived, Sight, Away, standing}
use Rattle.bhs_model.specs.Worlds.{World}
use Rattle.bhs_model.specs.Runs.{State, is_bound, arrives, is_let_through}
use Rattle.bhs_model.proofs.StepLemmas.{arrival_by_past, no_arrival_no_reply, next_arrived}
use Rattle.bhs_session.specs.Texts.{text_of}
use Rattle.bhs_rehearsal.specs.Games.{Game, world_in, state_of, played, reply_to, is_away}
use Rattle.bhs_rehearsal.specs.Connections.{Connection}
use Rattle.bhs_rehearsal.specs.Stages.{Stage, game_at, connection_at, with_game, sent_to}
use Rattle.bhs_theorems_isolation.specs.ScriptLaws.{IsSettled}
use Rattle.bhs_theorems_isolation.specs.Clients.{bytes_among, Fed}
use Rattle.bhs_theorems_isolation.proofs.CuttingLemmas.{by_same}
use Rattle.bhs_theorems_isolation.proofs.SettlingLemmas.{nobody_plays}
use Rattle.bhs_theorems_isolation.proofs.AwayLemmas.{state_of-played, Alike, alike_itself, alike-delivered}
use Rattle.bhs_theorems_isolation.proofs.AwayLemmas.{alike-no_arrival}
use Rattle.bhs_theorems_isolation.proofs.AwayLemmas.{setup-played, unanswered, arriving}
use Rattle.bhs_theorems_isolation.specs.Met.{Arrives}
use Rattle.bhs_theorems_isolation.proofs.FitLemmas.{fits_here, away_stands}
use Rattle.bhs_theorems_isolation.proofs.MeetingLemmas.{view_from-append, bytes_from-append, commands-append}
use Rattle.bhs_theorems_isolation.proofs.MeetingLemmas.{due-append}
use Rattle.bhs_theorems_isolation.proofs.KnownLemmas.{Going, GoesOn, IsKnown, IsReady, untouched_alike}
use Rattle.bhs_theorems_isolation.proofs.KnownLemmas.{FreeAreUntouched}
use Rattle.bhs_theorems_isolation.proofs.KnownLemmas.{known_alike}
use Rattle.bhs_theorems_isolation.proofs.MetMoveLemmas.{Knows, moved}
use Rattle.bhs_theorems_isolation.proofs.MetClientLemmas.{nothing_more}
use Rattle.bhs_theorems_isolation.proofs.StepCases.{IsUntold, arrival_step}
use Rattle.bhs_theorems_isolation.proofs.TurnLemmas.{placed, turn_of}

-- ---- a draw

-- an arrival, of an agent on a link
pub record Arrival (setup : Setup) (old new : View) (replied : Option Reply) : Type 0 where
  pub sight : Sight
  pub replied_is : replied ≡ Some (here setup.board sight)
  pub new_is : new ≡ Arrived old sight

pub arrival : (game : Game) (agent : ℕ) → arrives (world_in game) (state_of game) agent ≡ true →
    Arrival game.setup ((state_of game).past agent) ((state_of (played game (Deliver agent))).past agent)
    (reply_to game (Deliver agent))
arrival game agent comes =
    let world = world_in game in
    let state = state_of game in
    let at = arriving world state agent comes in
    record {
      sight = at.sight;
      replied_is = arrival_by_past world state agent comes ∙ ap (λ (view : View). rep game.setup.board view) at.past_is;
      new_is = ap (λ (after : State). after.past agent)
          (state_of-played game (Deliver agent) ∙ next_arrived world state agent comes) ∙ at.past_is;
    }

-- Arriving ends the agent's travel.
pub arrived_here : (game : Game) (agent : ℕ) → arrives (world_in game) (state_of game) agent ≡ true
    → is_away (played game (Deliver agent)) agent ≡ false
arrived_here game agent comes =
    let world = world_in game in
    let state = state_of game in
    ap (λ (after : State). is_bound (after.position agent))
    (state_of-played game (Deliver agent) ∙ next_arrived world state agent comes)
    ∙ (arriving world state agent comes).lands

-- An arriving agent is on a link in an open match.
pub away_arrives : (world : World) (state : State) (agent : ℕ) → arrives world state agent ≡ true
    → (is_bound (state.position agent) ≡ true) × (state.closed ≡ false)
away_arrives world state agent comes =
    let parts = and_parts (not state.closed) (is_let_through world (state.position agent)) comes in
    ((and_parts (is_bound (state.position agent)) _ parts.1).0, not_back state.closed parts.0) where
      not_back : (one : Bool) → not one ≡ true → one ≡ false
      not_back true is = absurd (cc)
      not_back false is = refl

going_arrives : (setup : Setup) (old new : View) (connection : Connection) (input : Fed) (sent : List ℕ) (sight : Sight)
    → standing old ≡ Away → new ≡ Arrived old sight →
    Going setup old connection input sent → Going setup new connection input (sent ++ text_of (here setup.board sight))
going_arrives setup old new connection input sent sight away is going = record {
  met = going.met ++ Arrives sight ∷ [];
  taken = going.taken;
  reads = going.reads;
  said = commands-append going.met (Arrives sight ∷ []) ∙ append-nil _ ∙ going.said;
  due = due-append setup.quota Start going.met (Arrives sight ∷ []) going.due
      (ap standing (sym going.lived) ∙ away, tt);
  lived = is ∙ ap (λ (view : View). Arrived view sight) going.lived
      ∙ sym (view_from-append Start going.met (Arrives sight ∷ []));
  heard = ap₂ (λ (one two : List ℕ). one ++ two) going.heard (sym (append-nil (text_of (here setup.board sight))))
      ∙ sym (bytes_from-append setup.board Start going.met (Arrives sight ∷ []));
  lives = λ ended. let at = ap standing is in cc;
}

module _ (stage : Stage) (game agent conn : ℕ) (input : Fed) (sent : List ℕ) (within : game < length stage.games)
    (knows : Knows stage conn input sent) where
  abbrev old_game : Game
  old_game = game_at stage game

  abbrev new_game : Game
  new_game = played old_game (Deliver agent)

  abbrev drawn_in : Stage
  drawn_in = with_game stage game new_game

  -- where the draw changes nothing for an agent of the match, it changes nothing for it
  drawn_alike : (number other : ℕ) → (number ≡ game → Alike other old_game new_game)
      → Alike other (game_at stage number) (game_at drawn_in number)
  drawn_alike number other same =
      by_same number game
      (λ is.
      subst (λ (place : ℕ). Alike other (game_at stage place) (game_at drawn_in place)) (sym is)
      (subst (λ (one : Game). Alike other old_game one)
      (sym (get_or-set_same stage.games game new_game _ within)) (same is)))
      (λ apart.
      subst (λ (one : Game). Alike other (game_at stage number) one)
      (sym (get_or-set_other stage.games game number new_game _ apart))
      (alike_itself other (game_at stage number)))

  -- it moves nobody
  draw_rests : IsSettled drawn_in → arrives (world_in old_game) (state_of old_game) agent ≡ false
      → Knows drawn_in conn input (sent ++ [])
  draw_rests settled stays = nothing_more drawn_in conn input sent (record {
    known = known_alike stage drawn_in (connection_at stage conn) input sent (connection_at stage conn).seat
        (λ number other theirs. drawn_alike number other (λ is. alike-no_arrival old_game agent other stays))
        knows.known;
    free = λ number other free. untouched_alike (game_at stage number) (game_at drawn_in number) other
        (drawn_alike number other (λ is. alike-no_arrival old_game agent other stays)) (knows.free number other free);
    settled = settled;
    there = knows.there;
  })

  -- it moves the agent of this connection
  module _ (comes : arrives (world_in old_game) (state_of old_game) agent ≡ true) (holder : ℕ)
      (there : holder < length stage.connections)
      (mine : (connection_at stage holder).seat ≡ Some (game, agent)) where
    abbrev a : Arrival old_game.setup ((state_of old_game).past agent) ((state_of new_game).past agent)
        (reply_to old_game (Deliver agent))
    a = arrival old_game agent comes

    apart_seats : (number other : ℕ) → (number ≡ game → other ≢ agent)
        → Alike other (game_at stage number) (game_at drawn_in number)
    apart_seats number other apart = drawn_alike number other (λ is. alike-delivered old_game agent other (apart is))

    drawn_free : FreeAreUntouched drawn_in
    drawn_free number other free =
        untouched_alike (game_at stage number) (game_at drawn_in number) other
        (apart_seats number other (λ is same. free holder
        (mine ∙ ap₂ (λ (one two : ℕ). Some (one, two)) (sym is) (sym same)))) (knows.free number other free)

    drawn_other : conn ≢ holder → IsKnown drawn_in (connection_at stage conn) input sent (connection_at stage conn).seat
    drawn_other apart =
        known_alike stage drawn_in (connection_at stage conn) input sent (connection_at stage conn).seat
        (λ number other theirs. apart_seats number other
        (λ is same. apart (knows.settled.one_each conn holder (game, agent)
        (theirs ∙ ap₂ (λ (one two : ℕ). Some (one, two)) is same) mine))) knows.known

    drawn_own : conn ≡ holder → IsReady drawn_in (connection_at stage holder) input
        (sent ++ text_of (here old_game.setup.board a.sight)) (connection_at stage holder).seat
    drawn_own is =
        let old = connection_at stage holder in
        let found : game_at drawn_in game ≡ new_game = get_or-set_same stage.games game new_game _ within in
        let known : IsKnown stage old input sent (Some (game, agent)) =
        subst (λ (own : Option (ℕ × ℕ)). IsKnown stage old input sent own) mine
        (subst (λ (one : ℕ). IsKnown stage (connection_at stage one) input sent (connection_at stage one).seat)
        is knows.known) in
        let bound = away_arrives (world_in old_game) (state_of old_game) agent comes in
        subst (λ (own : Option (ℕ × ℕ)). IsReady drawn_in old input
        (sent ++ text_of (here old_game.setup.board a.sight)) own) (sym mine)
        (subst (λ (one : Game). agent < one.setup.agents → GoesOn one.setup ((state_of one).past agent)
        (state_of one).closed (is_away one agent) old input
        (sent ++ text_of (here old_game.setup.board a.sight))) (sym found)
        (λ inside.
        let setup_is = setup-played old_game (Deliver agent) in (
          subst (λ (setup : Setup). Going setup ((state_of new_game).past agent) old input
              (sent ++ text_of (here old_game.setup.board a.sight))) (sym setup_is)
              (elim (known (subst (λ (setup : Setup). agent < setup.agents) setup_is inside)) [
                | inl (going, open_yet) ↦ going_arrives old_game.setup ((state_of old_game).past agent)
                    ((state_of new_game).past agent)
                    old input sent a.sight (away_stands (world_in old_game) ((state_of old_game).past agent)
                    ((state_of old_game).position agent) (fits_here old_game agent) bound.0) a.new_is going
                | inr done ↦ absurd (elim done.quiet
                    [ inl closed ↦ (let open_match = bound.1 in cc) | inr here ↦ (let away = bound.0 in cc) ])
              ]),
          inr (arrived_here old_game agent comes),
        )))

    draw_moves : let turn = turn_of drawn_in holder (connection_at stage holder) in
        IsSettled (placed drawn_in holder turn).stage →
        Knows (placed drawn_in holder turn).stage conn input
        (sent ++ bytes_among conn (sent_to holder (text_of (here old_game.setup.board a.sight) ++ turn.text)))
    draw_moves settled =
        moved drawn_in holder (connection_at stage holder) there refl drawn_free settled conn
        (text_of (here old_game.setup.board a.sight)) input sent knows.there drawn_other drawn_own

  pub draw_untold : IsUntold stage game agent → IsSettled drawn_in → Knows drawn_in conn input (sent ++ [])
  draw_untold untold settled =
      draw_rests settled (elim untold [
        | inl none ↦ unanswered (world_in old_game) (state_of old_game) agent none
        | inr nobody ↦ false_from_ne_true (arrives (world_in old_game) (state_of old_game) agent) (λ comes.
            let here = (knows.free game agent (nobody_plays stage.connections (game, agent) nobody)).at in
            let away = (away_arrives (world_in old_game) (state_of old_game) agent comes).0 in
            cc)
      ])

  pub draw_told : (holder : ℕ) (reply : Reply) → reply_to old_game (Deliver agent) ≡ Some reply
      → holder < length stage.connections → (connection_at stage holder).seat ≡ Some (game, agent) →
      IsSettled (arrival_step drawn_in holder reply).stage →
      Knows (arrival_step drawn_in holder reply).stage conn input
      (sent ++ bytes_among conn (arrival_step drawn_in holder reply).outs)
  draw_told holder reply answered there mine settled =
      let comes = true_from_ne_false (arrives (world_in old_game) (state_of old_game) agent) (λ stays.
      let none = no_arrival_no_reply (world_in old_game) (state_of old_game) agent stays in cc) in
      let same : here old_game.setup.board (arrival old_game agent comes).sight ≡ reply =
      let some = (arrival old_game agent comes).replied_is in cc in
      subst (λ (told : Reply). Knows (arrival_step drawn_in holder told).stage conn input
      (sent ++ bytes_among conn (arrival_step drawn_in holder told).outs)) same
      (draw_moves comes holder there mine settled)
