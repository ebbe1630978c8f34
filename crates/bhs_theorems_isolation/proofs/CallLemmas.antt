-- The calls of a rehearsal are the script of their instructions.
use Rattle.std.proofs.Common.{◌≡◌, ◌∙◌, ℕ, Some, List, [], ◌∷◌, ◌++◌, refl, sym, ap, ap₂, subst}
use Rattle.bhs_rehearsal.specs.Games.{state_of}
use Rattle.bhs_rehearsal.specs.Stages.{Stage, Instruction, step, stands_after, sends, connection_at, game_at}
use Rattle.bhs_theorems_isolation.specs.Clients.{bytes_to}
use Rattle.bhs_rehearsal.specs.Rehearsing.{Rehearsing, games_of}
use Rattle.bhs_theorems_isolation.specs.ScriptLaws.{Grows}
use Rattle.bhs_theorems_isolation.specs.ScriptHeadline.{Rehearsed, Plays}
use Rattle.bhs_theorems_isolation.specs.Calls.{WasCalled, not_yet, obeyed, refused, Called, StillPlays}
use Rattle.bhs_theorems_isolation.specs.Calls.{EqualPastsAreAnsweredAlike}
use Rattle.bhs_theorems_isolation.proofs.ScriptLemmas.{grows}
use Rattle.bhs_theorems_isolation.proofs.SameLemmas.{bytes_lemma}

-- the rehearsal stands as the script leaves it, and sent what the script sends
pub record IsScripted (start : Stage) (script : List Instruction) (sent : List (List (ℕ × List ℕ)))
    (now : Stage) : Type 0 where
  pub stands : now ≡ stands_after start script
  pub sends : sent ≡ sends start script

scripted : (start : Rehearsing) (script : List Instruction) (sent : List (List (ℕ × List ℕ))) (now : Rehearsing)
    → WasCalled start script sent now → IsScripted start.stage script sent now.stage
scripted start script sent now not_yet = record { stands = refl; sends = refl }
scripted start script sent now (obeyed earlier before old new instruction outs calls obeys) =
    let so_far = scripted start earlier before old calls in
    let more : Grows start.stage earlier instruction = grows start.stage earlier instruction in
    record {
      stands = ap (λ (one : Rehearsing). one.stage) obeys.stands
          ∙ ap (λ (stage : Stage). (step stage instruction).stage) so_far.stands ∙ sym more.stands;
      sends = ap₂ (λ (first : List (List (ℕ × List ℕ))) (last : List (ℕ × List ℕ)). first ++ last ∷ []) so_far.sends
          (obeys.outs ∙ ap (λ (stage : Stage). (step stage instruction).outs) so_far.stands) ∙ sym more.sends;
    }
scripted start script sent now (refused earlier before old new instruction fault calls refuses) =
    subst (λ (one : Rehearsing). IsScripted start.stage script sent one.stage) (sym refuses.same)
    (scripted start script sent old calls)

-- the same rehearsal, as the definitions play it
abbrev rehearsed : Called → Rehearsed
rehearsed one = record {
  games = games_of one.lineup;
  keys = one.lineup.keys;
  connections = one.connections;
  script = one.script;
}

plays_so : (one : Called) (conn : ℕ) (seat : ℕ × ℕ) → StillPlays one conn seat → Plays (rehearsed one) conn seat
plays_so one conn seat plays =
    let is = scripted _ one.script one.sent one.now one.calls in
    record {
      begins = plays.begins;
      sits = subst (λ (stage : Stage). (connection_at stage conn).seat ≡ Some seat) is.stands plays.sits;
      within = rw is.stands at plays.within;
      still_open = rw is.stands at plays.still_open;
      goes_on = plays.goes_on;
    }

pub called_lemma : EqualPastsAreAnsweredAlike
called_lemma one two conn conn2 seat seat2 plays plays2 quotas boards pasts said =
    let first = scripted _ one.script one.sent one.now one.calls in
    let second = scripted _ two.script two.sent two.now two.calls in
    ap (bytes_to conn) first.sends
    ∙ bytes_lemma (rehearsed one) (rehearsed two) conn conn2 seat seat2 (plays_so one conn seat plays)
    (plays_so two conn2 seat2 plays2)
    (ap (λ (stage : Stage). (game_at stage seat.0).setup.quota) (sym first.stands) ∙ quotas
    ∙ ap (λ (stage : Stage). (game_at stage seat2.0).setup.quota) second.stands)
    (ap (λ (stage : Stage). (game_at stage seat.0).setup.board) (sym first.stands) ∙ boards
    ∙ ap (λ (stage : Stage). (game_at stage seat2.0).setup.board) second.stands)
    (ap (λ (stage : Stage). (state_of (game_at stage seat.0)).past seat.1) (sym first.stands) ∙ pasts
    ∙ ap (λ (stage : Stage). (state_of (game_at stage seat2.0)).past seat2.1) second.stands)
    said
    ∙ ap (bytes_to conn2) (sym second.sends)
