-- Scripts that do alike, and bytes that are cut otherwise.
use Rattle.std.proofs.Common.{◌≡◌, ◌∙◌, ℕ, ◌<◌, Bool, true, false, cond, nat_lt, ◌==◌, Option, List, [], ◌∷◌, ◌++◌}
use Rattle.std.proofs.Common.{length, map, refl, sym, ap, ap₂, subst, append_assoc, append-nil, subst₂}
use Rattle.std.proofs.lemmas.Bool.{cond-true, cond-false, ltb-true, lt-ltb, cond_both}
use Rattle.std.proofs.lemmas.List.{set-set, get_or-set_same, length-set, map-append}
use Rattle.bhs_wire.specs.Lines.{Line, found_in, left_by}
use Rattle.bhs_wire.proofs.StreamLaws.{found_in-append, left_by-append}
use Rattle.bhs_rehearsal.specs.Connections.{Item, Says, Connection}
use Rattle.bhs_rehearsal.specs.Stages.{Stage, connection_at, with_connection, Instruction, Feeds, moves, Stepped}
use Rattle.bhs_rehearsal.specs.Stages.{sent_to, stepped, nothing, feeds, step, stands_after, sends}
use Rattle.bhs_theorems_isolation.specs.ScriptLaws.{DoAlike, joined, fed, TwoPiecesDoAlike, CutsDoAlike}
use Rattle.bhs_theorems_isolation.specs.Clients.{bytes_among, bytes_to}
use Rattle.bhs_theorems_isolation.proofs.TurnLemmas.{Turn, placed, turn_of, moves-placed, grown, turn_of-grown}
use Rattle.bhs_theorems_isolation.proofs.TurnLemmas.{then_fed}
use Rattle.bhs_theorems_isolation.proofs.CuttingLemmas.{cond_alike}

-- ---- what is sent

chosen_more : (is : Bool) (text more : List ℕ) → cond is (text ++ more) [] ≡ cond is text [] ++ cond is more []
chosen_more true text more = refl
chosen_more false text more = refl

chosen_nothing : (is : Bool) → cond {A = List ℕ} is [] [] ≡ []
chosen_nothing true = refl
chosen_nothing false = refl

pub bytes_among-sent_to : (other conn : ℕ) (text : List ℕ) → bytes_among other (sent_to conn text) ≡ cond
    (conn == other) text []
bytes_among-sent_to other conn [] = sym (chosen_nothing (conn == other))
bytes_among-sent_to other conn (byte ∷ text) = append-nil (cond (conn == other) (byte ∷ text) [])

bytes_among-sent_more : (other conn : ℕ) (text more : List ℕ) →
    bytes_among other (sent_to conn (text ++ more)) ≡ bytes_among other (sent_to conn text) ++ bytes_among other
    (sent_to conn more)
bytes_among-sent_more other conn text more =
    bytes_among-sent_to other conn (text ++ more) ∙ chosen_more (conn == other) text more
    ∙ ap₂ (λ (one two : List ℕ). one ++ two) (sym (bytes_among-sent_to other conn text))
    (sym (bytes_among-sent_to other conn more))

-- ---- scripts, one after the other

pub stands_after-append : (stage : Stage) (script more : List Instruction)
    → stands_after stage (script ++ more) ≡ stands_after (stands_after stage script) more
stands_after-append stage [] more = refl
stands_after-append stage (instruction ∷ script) more = stands_after-append (step stage instruction).stage script more

pub sends-append : (stage : Stage) (script more : List Instruction) → sends stage (script ++ more) ≡ sends stage script
    ++ sends (stands_after stage script) more
sends-append stage [] more = refl
sends-append stage (instruction ∷ script) more =
    ap (λ (rest : List (List (ℕ × List ℕ))). (step stage instruction).outs ∷ rest)
    (sends-append (step stage instruction).stage script more)

pub bytes_to-append : (conn : ℕ) (one two : List (List (ℕ × List ℕ))) → bytes_to conn (one ++ two) ≡ bytes_to conn one
    ++ bytes_to conn two
bytes_to-append conn [] two = refl
bytes_to-append conn (outs ∷ one) two =
    ap (λ (rest : List ℕ). bytes_among conn outs ++ rest) (bytes_to-append conn one two)
    ∙ sym (append_assoc (bytes_among conn outs) (bytes_to conn one) (bytes_to conn two))

sent_in_both : (conn : ℕ) (stage : Stage) (script more : List Instruction) →
    bytes_to conn (sends stage (script ++ more)) ≡ bytes_to conn (sends stage script)
    ++ bytes_to conn (sends (stands_after stage script) more)
sent_in_both conn stage script more =
    ap (bytes_to conn) (sends-append stage script more) ∙ bytes_to-append conn (sends stage script)
    (sends (stands_after stage script) more)

alike_itself : (stage : Stage) (script : List Instruction) → DoAlike stage script script
alike_itself stage script = record { stands = refl; sends = λ conn. refl }

alike_back : (stage : Stage) (one two : List Instruction) → DoAlike stage one two → DoAlike stage two one
alike_back stage one two alike = record { stands = sym alike.stands; sends = λ conn. sym (alike.sends conn) }

alike_through : (stage : Stage) (one two three : List Instruction) → DoAlike stage one two → DoAlike stage two three
    → DoAlike stage one three
alike_through stage one two three first second = record {
  stands = first.stands ∙ second.stands;
  sends = λ conn. first.sends conn ∙ second.sends conn;
}

alike_before : (stage : Stage) (one two later : List Instruction) → DoAlike stage one two
    → DoAlike stage (one ++ later) (two ++ later)
alike_before stage one two later alike = record {
  stands = stands_after-append stage one later ∙ ap (λ (between : Stage). stands_after between later) alike.stands
      ∙ sym (stands_after-append stage two later);
  sends = λ conn.
      sent_in_both conn stage one later
      ∙ ap₂ (λ (sent : List ℕ) (between : Stage). sent ++ bytes_to conn (sends between later))
      (alike.sends conn) alike.stands
      ∙ sym (sent_in_both conn stage two later);
}

alike_behind : (stage : Stage) (earlier one two : List Instruction) → DoAlike (stands_after stage earlier) one two
    → DoAlike stage (earlier ++ one) (earlier ++ two)
alike_behind stage earlier one two alike = record {
  stands = stands_after-append stage earlier one ∙ alike.stands ∙ sym (stands_after-append stage earlier two);
  sends = λ conn.
      sent_in_both conn stage earlier one
      ∙ ap (λ (sent : List ℕ). bytes_to conn (sends stage earlier) ++ sent) (alike.sends conn)
      ∙ sym (sent_in_both conn stage earlier two);
}

-- ---- one step in place of two

-- one step comes to what another does with more bytes fed behind it
record ComesToBoth (conn : ℕ) (more : List ℕ) (whole first : Stepped) : Type 0 where
  stands : whole.stage ≡ (step first.stage (Feeds conn more)).stage
  sends : (other : ℕ) → bytes_among other whole.outs
      ≡ bytes_among other first.outs ++ bytes_among other (step first.stage (Feeds conn more)).outs

nothing_both : (stage : Stage) (conn : ℕ) (more : List ℕ) → step stage (Feeds conn more) ≡ nothing stage
    → ComesToBoth conn more (nothing stage) (nothing stage)
nothing_both stage conn more none = record {
  stands = sym (ap (λ (done : Stepped). done.stage) none);
  sends = λ other. sym (ap (λ (done : Stepped). bytes_among other done.outs) none);
}

-- ---- a feed

grown-append : (connection : Connection) (bytes more : List ℕ) → grown connection (bytes ++ more) ≡ grown
    (grown connection bytes) more
grown-append connection bytes more =
    let left = left_by connection.unfinished bytes in
    ap₂ (λ (unfinished : Option (List ℕ)) (queue : List Item). record connection
    { unfinished = unfinished; queue = queue })
    (left_by-append connection.unfinished bytes more)
    (ap (λ (found : List Line). connection.queue ++ map Says found) (found_in-append connection.unfinished bytes more)
    ∙ ap (λ (items : List Item). connection.queue ++ items)
    (map-append Says (found_in connection.unfinished bytes) (found_in left more))
    ∙ sym (append_assoc connection.queue (map Says (found_in connection.unfinished bytes))
    (map Says (found_in left more))))

feed_nobody : (stage : Stage) (conn : ℕ) (bytes : List ℕ) → nat_lt conn (length stage.connections) ≡ false
    → step stage (Feeds conn bytes) ≡ nothing stage
feed_nobody stage conn bytes past = cond-false (nat_lt conn (length stage.connections)) (feeds stage conn bytes)
    (nothing stage) past

feed_ended : (stage : Stage) (conn : ℕ) (bytes : List ℕ) → conn < length stage.connections
    → (connection_at stage conn).ended ≡ true →
    step stage (Feeds conn bytes) ≡ nothing stage
feed_ended stage conn bytes within ended =
    cond-true (nat_lt conn (length stage.connections)) (feeds stage conn bytes) (nothing stage)
    (lt-ltb conn (length stage.connections) within)
    ∙ cond-true (connection_at stage conn).ended (nothing stage)
    (stepped conn (moves (with_connection stage conn (grown (connection_at stage conn) bytes)) conn)) ended

feed_open : (stage : Stage) (conn : ℕ) (bytes : List ℕ) → conn < length stage.connections
    → (connection_at stage conn).ended ≡ false →
    step stage (Feeds conn bytes) ≡ stepped conn
    (placed stage conn (turn_of stage conn (grown (connection_at stage conn) bytes)))
feed_open stage conn bytes within still =
    cond-true (nat_lt conn (length stage.connections)) (feeds stage conn bytes) (nothing stage)
    (lt-ltb conn (length stage.connections) within)
    ∙ cond-false (connection_at stage conn).ended (nothing stage)
    (stepped conn (moves (with_connection stage conn (grown (connection_at stage conn) bytes)) conn)) still
    ∙ ap (stepped conn) (moves-placed stage conn (grown (connection_at stage conn) bytes) within)

-- ---- two pieces

-- the second piece, behind a turn that was made with the first
module _ (stage : Stage) (conn : ℕ) (turn : Turn) (more : List ℕ) (within : conn < length stage.connections) where
  abbrev between : Stage
  between = (placed stage conn turn).stage

  abbrev second_turn : Turn
  second_turn = turn_of (placed stage conn turn).stage conn (grown turn.connection more)

  found_there : connection_at between conn ≡ turn.connection
  found_there = get_or-set_same stage.connections conn turn.connection _ within

  within_still : conn < length between.connections
  within_still = subst (λ (count : ℕ). conn < count) (sym (length-set stage.connections conn turn.connection)) within

  second_ended : turn.connection.ended ≡ true → step between (Feeds conn more) ≡ nothing between
  second_ended ended = feed_ended between conn more within_still
      (ap (λ (connection : Connection). connection.ended) found_there ∙ ended)

  second_open : turn.connection.ended ≡ false → step between (Feeds conn more) ≡ stepped conn
      (placed between conn second_turn)
  second_open still =
      feed_open between conn more within_still (ap (λ (connection : Connection). connection.ended) found_there ∙ still)
      ∙ ap (λ (connection : Connection). stepped conn
      (placed between conn (turn_of between conn (grown connection more)))) found_there

  second_piece : ComesToBoth conn more (stepped conn (placed stage conn (then_fed stage conn turn more)))
      (stepped conn (placed stage conn turn))
  second_piece =
      let behind : (other : ℕ) → Stepped → List ℕ = λ (other : ℕ) (done : Stepped).
      bytes_among other (sent_to conn turn.text) ++ bytes_among other done.outs in
      cond_both turn.connection.ended _ _ (λ (whole : Turn). ComesToBoth conn more
      (stepped conn (placed stage conn whole)) (stepped conn (placed stage conn turn)))
      (λ ended. record {
        stands = sym (ap (λ (done : Stepped). done.stage) (second_ended ended));
        sends = λ other. sym (append-nil (bytes_among other (sent_to conn turn.text)))
            ∙ ap (behind other) (sym (second_ended ended));
      })
      (λ still. record {
        stands = ap (λ (connections : List Connection). record stage
            { games = second_turn.games; connections = connections })
            (sym (set-set stage.connections conn turn.connection second_turn.connection))
            ∙ sym (ap (λ (done : Stepped). done.stage) (second_open still));
        sends = λ other. bytes_among-sent_more other conn turn.text second_turn.text
            ∙ ap (behind other) (sym (second_open still));
      })

two_pieces : (stage : Stage) (conn : ℕ) (bytes more : List ℕ)
    → ComesToBoth conn more (step stage (Feeds conn (bytes ++ more))) (step stage (Feeds conn bytes))
two_pieces stage conn bytes more =
    let below = nat_lt conn (length stage.connections) in
    let old = connection_at stage conn in
    cond_alike (ComesToBoth conn more) below below _ _ _ _ refl
    (λ is.
    let within = ltb-true conn (length stage.connections) is in
    cond_alike (ComesToBoth conn more) old.ended old.ended _ _ _ _ refl
    (λ ended. nothing_both stage conn more (feed_ended stage conn more within ended))
    (λ still. subst₂ (ComesToBoth conn more)
    (ap (stepped conn) (sym (moves-placed stage conn (grown old (bytes ++ more)) within
    ∙ ap (λ (connection : Connection). placed stage conn (turn_of stage conn connection)) (grown-append old bytes more)
    ∙ ap (placed stage conn) (turn_of-grown stage conn (grown old bytes) more still))))
    (ap (stepped conn) (sym (moves-placed stage conn (grown old bytes) within)))
    (second_piece stage conn (turn_of stage conn (grown old bytes)) more within)))
    (λ past. nothing_both stage conn more (feed_nobody stage conn more past))

pub two_pieces_lemma : TwoPiecesDoAlike
two_pieces_lemma stage conn bytes more =
    let comes = two_pieces stage conn bytes more in
    record {
      stands = comes.stands;
      sends = λ other.
          append-nil (bytes_among other (step stage (Feeds conn (bytes ++ more))).outs) ∙ comes.sends other
          ∙ ap (λ (sent : List ℕ). bytes_among other (step stage (Feeds conn bytes)).outs ++ sent)
          (sym (append-nil
          (bytes_among other (step (step stage (Feeds conn bytes)).stage (Feeds conn more)).outs)));
    }

-- ---- many pieces

joined_at_once : (stage : Stage) (conn : ℕ) (piece : List ℕ) (pieces : List (List ℕ)) →
    DoAlike stage (Feeds conn (joined (piece ∷ pieces)) ∷ []) (fed conn (piece ∷ pieces))
joined_at_once stage conn piece [] =
    subst (λ (bytes : List ℕ). DoAlike stage (Feeds conn bytes ∷ []) (Feeds conn piece ∷ [])) (sym (append-nil piece))
    (alike_itself stage (Feeds conn piece ∷ []))
joined_at_once stage conn piece (next ∷ pieces) =
    let rest = joined (next ∷ pieces) in
    alike_through stage (Feeds conn (piece ++ rest) ∷ []) (Feeds conn piece ∷ Feeds conn rest ∷ [])
    (Feeds conn piece ∷ fed conn (next ∷ pieces))
    (two_pieces_lemma stage conn piece rest)
    (alike_behind stage (Feeds conn piece ∷ []) (Feeds conn rest ∷ []) (fed conn (next ∷ pieces))
    (joined_at_once (step stage (Feeds conn piece)).stage conn next pieces))

cuts_alike : (stage : Stage) (conn : ℕ) (piece other : List ℕ) (pieces others : List (List ℕ))
    → joined (piece ∷ pieces) ≡ joined (other ∷ others) →
    DoAlike stage (fed conn (piece ∷ pieces)) (fed conn (other ∷ others))
cuts_alike stage conn piece other pieces others same =
    alike_through stage (fed conn (piece ∷ pieces)) (Feeds conn (joined (other ∷ others)) ∷ [])
    (fed conn (other ∷ others))
    (alike_back stage (Feeds conn (joined (other ∷ others)) ∷ []) (fed conn (piece ∷ pieces))
    (subst (λ (bytes : List ℕ). DoAlike stage (Feeds conn bytes ∷ []) (fed conn (piece ∷ pieces))) same
    (joined_at_once stage conn piece pieces)))
    (joined_at_once stage conn other others)

pub cuts_lemma : CutsDoAlike
cuts_lemma stage conn earlier later piece other pieces others same =
    alike_behind stage earlier (fed conn (piece ∷ pieces) ++ later) (fed conn (other ∷ others) ++ later)
    (alike_before (stands_after stage earlier) (fed conn (piece ∷ pieces)) (fed conn (other ∷ others)) later
    (cuts_alike (stands_after stage earlier) conn piece other pieces others same))
