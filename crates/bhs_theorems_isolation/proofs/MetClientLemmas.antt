-- What is known of a connection, where a client is fed or ends.
use Rattle.std.proofs.Common.{◌≡◌, ◌≢◌, ◌∙◌, ℕ, inl, inr, Bool, true, false, Option, Some, None, List, [], ◌++◌, refl}
use Rattle.std.proofs.Common.{sym, subst, append-nil, arith, subst₂, ◌==◌, cond}
use Rattle.std.proofs.lemmas.Bool.{cond-true, cond-false, eq-eqb, ne_eqb}
use Rattle.bhs_rehearsal.specs.Games.{state_of}
use Rattle.bhs_rehearsal.specs.Connections.{Connection}
use Rattle.bhs_rehearsal.specs.Stages.{Stage, game_at, connection_at, Stepped}
use Rattle.bhs_theorems_isolation.specs.ScriptLaws.{IsSettled}
use Rattle.bhs_theorems_isolation.specs.Clients.{bytes_among, Fed, at_end}
use Rattle.bhs_theorems_isolation.proofs.CuttingLemmas.{by_same}
use Rattle.bhs_theorems_isolation.proofs.TurnLemmas.{grown, ending}
use Rattle.bhs_theorems_isolation.proofs.KnownLemmas.{Going, going_fed, going_ends, met_unread, met_unended, fed_if}
use Rattle.bhs_theorems_isolation.proofs.KnownLemmas.{Unseated}
use Rattle.bhs_theorems_isolation.proofs.KnownLemmas.{unseated_fed, unseated_ends, IsKnown, IsReady}
use Rattle.bhs_theorems_isolation.proofs.MetMoveLemmas.{Knows, moved, same_bytes}
use Rattle.bhs_theorems_isolation.proofs.StepCases.{client_step, by_client}

-- ---- a client

pub nothing_more : (stage : Stage) (conn : ℕ) (input : Fed) (sent : List ℕ) → Knows stage conn input sent
    → Knows stage conn input (sent ++ [])
nothing_more stage conn input sent knows = same_bytes stage conn input input sent (sent ++ []) refl
    (sym (append-nil sent)) knows

-- before a client's connection moves, it stands so; and its input is this then
pub client : (stage : Stage) (mover conn : ℕ) (connection : Connection) (more input : Fed) (sent : List ℕ) →
    let old = connection_at stage mover in
    connection.seat ≡ old.seat → Knows stage conn input sent →
    (old.ended ≡ true → IsKnown stage old input sent old.seat → IsKnown stage old more sent old.seat) →
    (old.ended ≡ false → IsKnown stage old input sent old.seat → IsReady stage connection more sent connection.seat) →
    let after = client_step stage mover connection old.ended in
    IsSettled after.stage → Knows after.stage conn (cond (mover == conn) more input)
    (sent ++ bytes_among conn after.outs)
client stage mover conn connection more input sent as_before knows unread ready =
    let old = connection_at stage mover in
    let now : Fed = cond (mover == conn) more input in
    let own : conn ≡ mover → more ≡ now = λ is. sym (cond-true _ _ _ (eq-eqb mover conn (sym is))) in
    let others : conn ≢ mover → input ≡ now =
    λ apart. sym (cond-false _ _ _ (ne_eqb mover conn (λ same. apart (sym same)))) in
    let mine : conn ≡ mover → IsKnown stage old input sent old.seat =
    λ is. subst (λ (one : ℕ). IsKnown stage (connection_at stage one) input sent (connection_at stage one).seat)
    is knows.known in
    by_client (λ (after : Stepped). IsSettled after.stage
    → Knows after.stage conn now (sent ++ bytes_among conn after.outs)) stage mover connection old.ended
    (λ idle settled. by_same conn mover
    (λ is. same_bytes stage conn more now (sent ++ []) (sent ++ []) (own is) refl
    (nothing_more stage conn more sent (record {
      known = subst (λ (one : ℕ). IsKnown stage (connection_at stage one) more sent (connection_at stage one).seat)
          (sym is) (unread (elim idle [
            | inl past ↦ absurd (let there = knows.there in omega (arith, past, there, is))
            | inr has_ended ↦ has_ended
          ]) (mine is));
      free = knows.free;
      settled = knows.settled;
      there = knows.there;
    })))
    (λ apart. same_bytes stage conn input now (sent ++ []) (sent ++ []) (others apart) refl
    (nothing_more stage conn input sent knows)))
    (λ within goes_on settled. moved stage mover connection within as_before knows.free settled conn [] now sent
    knows.there
    (λ apart. subst (λ (from : Fed). IsKnown stage (connection_at stage conn) from sent (connection_at stage conn).seat)
    (others apart) knows.known)
    (λ is. subst₂ (λ (from : Fed) (out : List ℕ). IsReady stage connection from out connection.seat) (own is)
    (sym (append-nil sent)) (ready goes_on (mine is))))

-- an ended connection, fed more, or ended again
pub unread_known : (stage : Stage) (connection : Connection) (input : Fed) (sent fed : List ℕ) (own : Option (ℕ × ℕ))
    → connection.ended ≡ true →
    IsKnown stage connection input sent own → IsKnown stage connection (fed_if input fed) sent own
unread_known stage connection input sent fed None ended (inl known) =
    subst (λ (new : Fed). IsKnown stage connection new sent None)
    (sym (cond-true _ _ _ (sym known.reads.ends ∙ ended))) (inl known)
unread_known stage connection input sent fed None ended (inr known) = inr known
unread_known stage connection input sent fed (Some seat) ended known =
    λ within. met_unread _ _ _ _ connection input sent fed ended (known within)

pub unended_known : (stage : Stage) (connection : Connection) (input : Fed) (sent : List ℕ) (own : Option (ℕ × ℕ))
    → connection.ended ≡ true →
    IsKnown stage connection input sent own → IsKnown stage connection (at_end input) sent own
unended_known stage connection input sent None ended (inl known) =
    subst (λ (has : Bool). IsKnown stage connection (record input { has_ended = has }) sent None)
    (sym known.reads.ends ∙ ended) (inl known)
unended_known stage connection input sent None ended (inr known) = inr known
unended_known stage connection input sent (Some seat) ended known =
    λ within. met_unended _ _ _ _ connection input sent ended (known within)

-- one that goes on, fed more, and at its end
pub fed_ready : (stage : Stage) (connection : Connection) (input : Fed) (sent fed : List ℕ) (own : Option (ℕ × ℕ))
    → connection.ended ≡ false →
    IsKnown stage connection input sent own → IsReady stage (grown connection fed) (fed_if input fed) sent own
fed_ready stage connection input sent fed None still (inl known) =
    subst (λ (new : Fed). Unseated (grown connection fed) new sent)
    (sym (cond-false _ _ _ (sym known.reads.ends ∙ still)))
    (unseated_fed connection input sent fed still known)
fed_ready stage connection input sent fed None still (inr known) = absurd (let ended = known.0 in cc)
fed_ready stage connection input sent fed (Some seat) still known =
    λ within. elim (known within) [
      | inl (going, open_yet) ↦ (
        subst (λ (new : Fed). Going (game_at stage seat.0).setup
            ((state_of (game_at stage seat.0)).past seat.1) (grown connection fed) new sent)
            (sym (cond-false _ _ _ (sym going.reads.ends ∙ still)))
            (going_fed _ _ connection input sent fed still going),
        open_yet,
      )
      | inr done ↦ absurd (let ended = done.ended in cc)
    ]

pub end_ready : (stage : Stage) (connection : Connection) (input : Fed) (sent : List ℕ) (own : Option (ℕ × ℕ))
    → connection.ended ≡ false →
    IsKnown stage connection input sent own → IsReady stage (ending connection) (at_end input) sent own
end_ready stage connection input sent None still (inl known) = unseated_ends connection input sent still known
end_ready stage connection input sent None still (inr known) = absurd (let ended = known.0 in cc)
end_ready stage connection input sent (Some seat) still known =
    λ within. elim (known within) [
      | inl (going, open_yet) ↦ (going_ends _ _ connection input sent still going, open_yet)
      | inr done ↦ absurd (let ended = done.ended in cc)
    ]
