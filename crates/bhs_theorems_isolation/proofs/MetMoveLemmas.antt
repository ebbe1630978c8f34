-- What is known of a connection, where the instruction moves another or itself.
use Rattle.std.proofs.Common.{◌≡◌, ◌≢◌, ◌∙◌, ℕ, ◌<◌, Option, Some, None, List, ◌++◌, length, refl, sym, ap, subst}
use Rattle.std.proofs.Common.{append_assoc, append-nil}
use Rattle.std.proofs.lemmas.Bool.{cond-true, eq-eqb}
use Rattle.std.proofs.lemmas.List.{get_or-set_same, get_or-set_other, length-set}
use Rattle.bhs_rehearsal.specs.Connections.{Connection, unfed, taken}
use Rattle.bhs_rehearsal.specs.Stages.{Stage, game_at, connection_at, sent_to}
use Rattle.bhs_theorems_isolation.specs.ScriptLaws.{IsSettled}
use Rattle.bhs_theorems_isolation.specs.Clients.{bytes_among, Fed}
use Rattle.bhs_theorems_isolation.proofs.CuttingLemmas.{by_same}
use Rattle.bhs_theorems_isolation.proofs.TurnLemmas.{Turn, placed, turn_in, turn_of, seat_after}
use Rattle.bhs_theorems_isolation.proofs.FeedLemmas.{bytes_among-sent_to}
use Rattle.bhs_theorems_isolation.proofs.ApartLemmas.{sent_elsewhere}
use Rattle.bhs_theorems_isolation.proofs.KnownLemmas.{IsKnown, IsReady, Untouched, untouched_alike, IsFree}
use Rattle.bhs_theorems_isolation.proofs.KnownLemmas.{FreeAreUntouched}
use Rattle.bhs_theorems_isolation.proofs.KnownLemmas.{known_alike, others_turn, own_turn}

pub record Knows (stage : Stage) (conn : ℕ) (input : Fed) (sent : List ℕ) : Type 0 where
  pub known : IsKnown stage (connection_at stage conn) input sent (connection_at stage conn).seat
  pub free : FreeAreUntouched stage
  pub settled : IsSettled stage
  pub there : conn < length stage.connections

pub same_bytes : (stage : Stage) (conn : ℕ) (input input2 : Fed) (sent sent2 : List ℕ) → input ≡ input2 → sent ≡ sent2
    → Knows stage conn input sent → Knows stage conn input2 sent2
same_bytes stage conn input input2 sent sent2 one two knows =
    subst (λ (fed : Fed). Knows stage conn fed sent2) one
    (subst (λ (out : List ℕ). Knows stage conn input out) two knows)

-- ---- a move

module _ (stage : Stage) (mover : ℕ) (connection : Connection) (within : mover < length stage.connections)
    (as_before : connection.seat ≡ (connection_at stage mover).seat)
    (free : FreeAreUntouched stage)
    (settled : IsSettled (placed stage mover (turn_of stage mover connection)).stage) where
  abbrev turn : Turn
  turn = turn_of stage mover connection

  abbrev pub new : Stage
  new = (placed stage mover turn).stage

  at_mover : connection_at new mover ≡ turn.connection
  at_mover = get_or-set_same stage.connections mover turn.connection unfed within

  at_other : (other : ℕ) → other ≢ mover → connection_at new other ≡ connection_at stage other
  at_other other apart = get_or-set_other stage.connections mover other turn.connection unfed apart

  keeps_seat : (seat : ℕ × ℕ) → connection.seat ≡ Some seat → turn.connection.seat ≡ Some seat
  keeps_seat seat seated =
      subst (λ (own : Option (ℕ × ℕ)). (turn_in stage mover connection own).connection.seat ≡ Some seat) (sym seated)
      (seat_after connection seat (taken (game_at stage seat.0) seat.1 connection.queue))

  free_before : (game agent : ℕ) → IsFree new game agent → IsFree stage game agent
  free_before game agent free_after other theirs =
      by_same other mover
      (λ is.
      let mine : connection.seat ≡ Some (game, agent) =
      as_before ∙ ap (λ (number : ℕ). (connection_at stage number).seat) (sym is) ∙ theirs in
      free_after mover (ap (λ (one : Connection). one.seat) at_mover ∙ keeps_seat (game, agent) mine))
      (λ apart. free_after other (ap (λ (one : Connection). one.seat) (at_other other apart) ∙ theirs))

  moved_free : FreeAreUntouched new
  moved_free game agent free_after =
      untouched_alike (game_at stage game) (game_at new game) agent
      (others_turn stage mover connection connection.seat game agent
      (λ seated. free_after mover (ap (λ (one : Connection). one.seat) at_mover ∙ seated)))
      (free game agent (free_before game agent free_after))

  moved_other : (conn : ℕ) → conn ≢ mover → (input : Fed) (sent : List ℕ) →
      IsKnown stage (connection_at stage conn) input sent (connection_at stage conn).seat →
      IsKnown new (connection_at new conn) input sent (connection_at new conn).seat
  moved_other conn apart input sent known =
      let at = at_other conn apart in
      subst (λ (one : Connection). IsKnown new one input sent one.seat) (sym at)
      (known_alike stage new (connection_at stage conn) input sent (connection_at stage conn).seat
      (λ game agent theirs. others_turn stage mover connection connection.seat game agent
      (λ seated. apart (settled.one_each conn mover (game, agent) (ap (λ (one : Connection). one.seat) at ∙ theirs)
      (ap (λ (one : Connection). one.seat) at_mover ∙ seated))))
      known)

  -- nobody played what the mover now plays for the first time
  new_seat : (seat : ℕ × ℕ) → connection.seat ≡ None → turn.connection.seat ≡ Some seat
      → Untouched (game_at stage seat.0) seat.1
  new_seat seat outside seated = free seat.0 seat.1 (λ other theirs.
      by_same other mover
      (λ is.
      let never : ◌≡◌ {A = Option (ℕ × ℕ)} None (Some (seat.0, seat.1)) = sym outside ∙ as_before
      ∙ ap (λ (number : ℕ). (connection_at stage number).seat) (sym is) ∙ theirs in
      cc)
      (λ apart.
      apart (settled.one_each other mover seat (ap (λ (one : Connection). one.seat) (at_other other apart) ∙ theirs)
      (ap (λ (one : Connection). one.seat) at_mover ∙ seated))))

  moved_own : (input : Fed) (sent : List ℕ) → IsReady stage connection input sent connection.seat →
      IsKnown new (connection_at new mover) input (sent ++ turn.text) (connection_at new mover).seat
  moved_own input sent ready =
      subst (λ (one : Connection). IsKnown new one input (sent ++ turn.text) one.seat) (sym at_mover)
      (own_turn stage mover connection input sent connection.seat refl
      (λ seat outside seated. new_seat seat outside seated) ready)

  there_still : (conn : ℕ) → conn < length stage.connections → conn < length new.connections
  there_still conn below = subst (λ (count : ℕ). conn < count)
      (sym (length-set stage.connections mover turn.connection)) below

  -- The invariant after a move, for the moving connection and for all others, given the earlier output.
  pub moved : (conn : ℕ) (text : List ℕ) (input : Fed) (sent : List ℕ) → conn < length stage.connections →
      (conn ≢ mover → IsKnown stage (connection_at stage conn) input sent (connection_at stage conn).seat) →
      (conn ≡ mover → IsReady stage connection input (sent ++ text) connection.seat) →
      Knows new conn input (sent ++ bytes_among conn (sent_to mover (text ++ turn.text)))
  moved conn text input sent below other_known own_ready =
      by_same mover conn
      (λ is.
      let heard : bytes_among conn (sent_to mover (text ++ turn.text)) ≡ text ++ turn.text =
      bytes_among-sent_to conn mover (text ++ turn.text) ∙ cond-true _ _ _ (eq-eqb mover conn is) in
      same_bytes new conn input input ((sent ++ text) ++ turn.text)
      (sent ++ bytes_among conn (sent_to mover (text ++ turn.text))) refl
      (append_assoc sent text turn.text ∙ ap (λ (more : List ℕ). sent ++ more) (sym heard))
      (record {
        known = subst (λ (one : ℕ). IsKnown new (connection_at new one) input ((sent ++ text) ++ turn.text)
            (connection_at new one).seat) is
            (moved_own input (sent ++ text) (own_ready (sym is)));
        free = moved_free;
        settled = settled;
        there = there_still conn below;
      }))
      (λ differs.
      let apart : conn ≢ mover = λ same. differs (sym same) in
      same_bytes new conn input input sent (sent ++ bytes_among conn (sent_to mover (text ++ turn.text))) refl
      (sym (append-nil sent) ∙ ap (λ (more : List ℕ). sent ++ more)
      (sym (sent_elsewhere conn mover (text ++ turn.text) apart)))
      (record {
        known = moved_other conn apart input sent (other_known apart);
        free = moved_free;
        settled = settled;
        there = there_still conn below;
      }))
