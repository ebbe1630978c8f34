-- Two agents that explore by ways: turns of an agent at a node.
use Rattle.std.proofs.Common.{ℕ, ◌+◌, ◌-◌, ◌*◌, ◌<◌, ◌≤◌, ◌≡◌, ◌⊎◌, Bool, true, false, ◌&&◌, ◌==◌, Option, Some, None}
use Rattle.std.proofs.Common.{List, ◌∷◌, length, refl, sym, ap, ◌∙◌, subst, inl, inr, arith}
use Rattle.std.specs.Prelude.{◌≢◌, bytes_eq}
use Rattle.std.proofs.lemmas.Bool.{true≢false, eq-eqb, cond-true, cond-false, eqb-true, and_parts}
use Rattle.std.proofs.lemmas.Bool.Decides.{eqb_tells}
use Rattle.bhs_model.specs.declared.commands.Command.TheVariants.{Write}
use Rattle.bhs_model.specs.declared.replies.Reply.TheVariants.{Here, Written, Changed, Gone, Noted}
use Rattle.bhs_model.specs.Runs.{Position, At, Bound, After, changed}
use Rattle.bhs_model.proofs.StepLemmas.{by_cases, changed_same}
use Rattle.bhs_schedules.specs.declared.answers.Step.TheVariants.{Says}
use Rattle.bhs_schedules.specs.Strategies.{Observation, Heard, History}
use Rattle.bhs_schedules.specs.Schedules.{Trial}
use Rattle.bhs_protocols.specs.Configurations.{turn_in}
use Rattle.bhs_protocols.specs.declared.shuttle.Memory.{Memory}
use Rattle.bhs_protocols.specs.declared.shuttle.Phase.{Phase}
use Rattle.bhs_protocols.specs.declared.shuttle.Phase.TheVariants.{Begins, GoesOut, Leaves, ComesBack, Returns, Writes}
use Rattle.bhs_protocols.specs.declared.shuttle.Phase.TheVariants.{Ends}
use Rattle.bhs_protocols.specs.Shuttle.{other_in, text_by, is_one_left}
use Rattle.bhs_protocols.proofs.SearchLemmas.{agents_two, bytes_other, bytes_same, distance, read_other, sum_is}
use Rattle.bhs_protocols.proofs.SearchLemmas.{text_fits, within_n}
use Rattle.bhs_protocols.proofs.TurnLemmas.{Becomes, enters, departs, accuses as accuses_link, writes, writes_not}
use Rattle.bhs_protocols.proofs.ExplorerSteps.{Way, IsWay, IsAbout, does_by, ended, paces, trip}
use Rattle.bhs_protocols.proofs.ExplorerState.{Game, IsPlaced, Onward, Turn, all as all_of, along as along_of}
use Rattle.bhs_protocols.proofs.ExplorerState.{assembled, below_last, below_next, both_safe, come, cost, has_room, mem}
use Rattle.bhs_protocols.proofs.ExplorerState.{most_moves, placed_as, trial as trial_of, trips, way as way_from, way_is}

-- a way to another node than the home base has a step
pub has_steps : (game : Game) (s k : ℕ) → s < 2 → k < game.n → 0 < k → 0 < (game.way_to s k).steps
has_steps game s k below within some =
    let is : IsWay game.world.net (game.node s) k (game.way_to s k) =
    game.ways s k below within in
    by_count (game.way_to s k).steps (game.way_to s k).place is.first is.last
  where
    by_count : (steps : ℕ) (place : ℕ → ℕ) → place 0 ≡ 0 → place steps ≡ k → 0 < steps
    by_count steps place first last = elim (eqb_tells steps 0) [
      | inl h ↦
          let same : place steps ≡ place 0 = ap place h.1 in
          absurd (omega (arith, same, first, last, some))
      | inr h ↦ omega (arith, h.1)
    ]

pub some_steps : (game : Game) (s : ℕ) (m : Memory) → s < 2 → m.mine < distance game.search s → 0 < all_of game s m
some_steps game s m below safe =
    let within : distance game.search s < game.n = within_n game.search s below in
    has_steps game s (m.mine + 1) below (omega (arith, safe, within)) (omega arith)

-- each way begins at the home base
pub at_home : (game : Game) (s : ℕ) (m : Memory) → s < 2 → m.mine < distance game.search s
    → along_of game s m 0 ≡ game.world.home
at_home game s m below safe =
    ap (game.node s) (way_is game s m below safe).first ∙ game.search.home s

module _ {game : Game} (on : Turn game) where
  open game use {world, n, holds, node, way_to, explorers, room}
  open on use {s, o, configuration, pair, inv}

  abbrev trial : Trial
  trial = trial_of game

  abbrev pub M : Memory
  M = mem game configuration s

  abbrev pub O : Memory
  O = mem game configuration o

  abbrev all : ℕ
  all = all_of game s M

  abbrev along : (step : ℕ) → ℕ
  along = along_of game s M

  abbrev way : Way
  way = way_from game s M

  -- it goes the way of its side
  own_way : way_to M.side (M.mine + 1) ≡ way
  own_way i = way_to (inv.own.side i) (M.mine + 1)

  abbrev past : History
  past = configuration.history s

  pub says_by : trial.strategies s past ≡ does_by n way M M.phase
  says_by = explorers.does s past ∙ (λ i. does_by n (own_way i) M M.phase)

  pub about : (phase : Phase) → M.phase ≡ phase → IsAbout n trial.strategies holds way_to s past phase
  about phase is =
      let safe : M.mine < distance game.search s = inv.own.safe in
      let within : distance game.search s < n = within_n game.search s pair.own in
      record { below = pair.own; side = inv.own.side; within = omega (arith, safe, within); is = is }

  pub is_way : IsWay world.net (node s) (M.mine + 1) way
  is_way = way_is game s M pair.own inv.own.safe

  -- it reads on the home base's whiteboard what the other one has explored
  pub read : other_in M.side (configuration.shown world.home) ≡ O.mine
  read = (λ i. other_in (inv.own.side i) (inv.board i)) ∙ read_other s M.mine O.mine pair.own

  -- The agent changes its phase and knows as much as before, or also its partner's news. Its new node was reached
  -- earlier or is reached now.
  pub paced : (was now : Phase) (theirs : ℕ) (place : Position) (news : Observation) (costs moved : ℕ)
      (accused : Option (ℕ × ℕ)) (reached : ℕ → Bool) → M.phase ≡ was
      → Becomes configuration
      (turn_in trial configuration s) s place news costs moved accused configuration.shown reached
      → holds s (news ∷ past) ≡ record M { phase = now; theirs = theirs }
      → IsPlaced game s (record M { phase = now; theirs = theirs }) now place accused
      → (theirs ≡ M.theirs) ⊎ (theirs ≡ O.mine) → ((k : ℕ) → configuration.reached k ≡ true → reached k ≡ true)
      → ((k : ℕ) → k ≤ come game M.mine now → (k ≤ come game M.mine was) ⊎ (reached (node s k) ≡ true))
      → costs + M.theirs + ended was ≤ moved + theirs + ended now → trip all now ≡ trip all was + moved
      → paces all was + M.theirs + 1 ≤ paces all now + theirs
      → Onward game s o configuration (turn_in trial configuration s)
  paced was now theirs place news costs moved accused reached is becomes after placed learns grows come_to fair spends
      more =
      let t : trip all M.phase ≡ trip all was = ap (trip all) is in
      let e : ended M.phase ≡ ended was = ap ended is in
      let p : paces all M.phase ≡ paces all was = ap (paces all) is in
      let c : come game M.mine M.phase ≡ come game M.mine was = ap (come game M.mine) is in
      let used : configuration.used s ≤ cost game s M = inv.own.used in
      let known : M.theirs ≤ O.mine = inv.known in
      assembled game s o configuration (turn_in trial configuration s) (record M {
        phase = now;
        theirs =
            theirs;
      }) place news costs
      moved accused configuration.shown reached pair inv becomes after
      (record {
        fit = record {
          side = inv.own.side;
          placed = placed;
          safe = inv.own.safe;
          used = omega (arith, used, t, e, fair, spends);
          reached = λ k some far. elim (come_to k far) [
            | inl h ↦ grows (node s k) (inv.own.reached k some (omega (arith, h, c)))
            | inr h ↦ h
          ];
        };
        grows = grows;
        known = elim learns [ inl h ↦ omega (arith, h, known) | inr h ↦ omega (arith, h) ];
        known_too = inv.known_too;
        fresh = elim learns [
          | inl h ↦ subst (λ (k : ℕ). (k ≡ O.mine) ⊎ (O.theirs ≡ M.mine)) (sym h) inv.fresh
          | inr h ↦ inl h
        ];
        board = inv.board;
        spends = omega (arith, t, spends);
        more = omega (arith, p, more);
      })

  pub begin_turn : M.phase ≡ Begins → Onward game s o configuration (turn_in trial configuration s)
  begin_turn is =
      let placed = placed_as game s configuration Begins is inv.own in
      let known : M.theirs ≤ O.mine = inv.known in
      paced Begins (GoesOut 0 (way.ahead 0)) O.mine (At world.home None)
      (Heard (Here (world.net.degree world.home) None (configuration.shown world.home))) 0 0 (configuration.accused s)
      configuration.reached is
      (enters trial configuration s (agents_two game.search s pair.own) placed.0 (says_by ∙ ap (does_by n way M) is))
      (explorers.enters s past (world.net.degree world.home) None (configuration.shown world.home) (about Begins is)
      ∙ (λ i. record M { theirs = read i; phase = GoesOut 0 (way.ahead 0) })) (
        some_steps game s M pair.own inv.own.safe,
        refl,
        record { came = None; at = ap (λ (k : ℕ). At k None) (sym (at_home game s M pair.own inv.own.safe)) },
        placed.1,
      )
      (inr refl) (λ k was. was) (λ k far. inl far) (omega (arith, known)) (omega arith) (omega (arith, known))

  pub out_turn : (step port : ℕ) → M.phase ≡ GoesOut step port
      → Onward game s o configuration (turn_in trial configuration s)
  out_turn step port is =
      let placed = placed_as game s configuration (GoesOut step port) is inv.own in
      let before : step < all = placed.0 in
      let ahead : port ≡ way.ahead step = placed.1 in
      let safe : M.mine < distance game.search s = inv.own.safe in
      let there : port < world.net.degree (along step) =
      subst (λ (k : ℕ). k < world.net.degree (along step)) (sym ahead) (is_way.ahead step before) in
      let rt : trips game s M.mine + all ≤ most_moves game s = below_last game s M.mine safe in
      let room : configuration.used s < world.quota =
      has_room game s o configuration (GoesOut step port) pair inv is (omega (arith, rt, before)) in
      let two : M.mine + M.theirs + 2 ≤ n = both_safe game s o configuration pair inv in
      by_cases (step + 1 == all && is_one_left n M) (Onward game s o configuration (turn_in trial configuration s))
      (λ yes.
      let tests = and_parts (step + 1 == all) (is_one_left n M) yes in
      let last : step + 1 ≡ all = eqb-true (step + 1) all tests.0 in
      let left_one : M.mine + M.theirs + 2 ≡ n = eqb-true (M.mine + M.theirs + 2) n tests.1 in
      let sum : distance game.search s + distance game.search o ≡ n = sum_is game.search s o pair in
      let safe_too : O.mine < distance game.search o = inv.other.safe in
      let known : M.theirs ≤ O.mine = inv.known in
      let edge : M.mine + 1 ≡ distance game.search s = omega (arith, sum, safe, safe_too, known, left_one) in
      paced (GoesOut step port) Ends M.theirs After (Heard Noted) 1 0 (Some (along step, port)) configuration.reached is
      (accuses_link trial configuration s (agents_two game.search s pair.own)
      (along step) port placed.2.came placed.2.at
      (says_by ∙ ap (does_by n way M) is ∙ cond-true _ _ _ yes) room there)
      (explorers.ends s past step port (about (GoesOut step port) is)) (
        refl,
        edge,
        record { step = step; last = last; link = ap (λ (k : ℕ). Some (along step, k)) ahead },
        left_one,
      )
      (inl refl) (λ k was. was) (λ k far. inl far) (omega arith) (omega (arith, last)) (omega (arith, last)))
      (λ none.
      paced (GoesOut step port) (Leaves step) M.theirs (Bound (along step) port) (Heard Gone) 1 1
      (configuration.accused s)
      configuration.reached is
      (departs trial configuration s (agents_two game.search s pair.own) (along step) port placed.2.came placed.2.at
      (says_by ∙ ap (does_by n way M) is ∙ cond-false _ _ _ none) room there)
      (explorers.goes s past step port (about (GoesOut step port) is)) (
        before,
        (λ last. more_left M.mine M.theirs (step + 1) all last none two),
        ap (λ (k : ℕ). Bound (along step) k) ahead,
        placed.3,
      )
      (inl refl) (λ k was. was) (λ k far. inl far) (omega arith) (omega arith) (omega arith))
    where
      more_left : (mine theirs one other : ℕ) → one ≡ other → (one == other && (mine + theirs + 2 == n)) ≡ false
          → mine + theirs + 2 ≤ n → mine + theirs + 3 ≤ n
      more_left mine theirs one other last none two = elim (eqb_tells (mine + theirs + 2) n) [
        | inl it ↦ absurd (true≢false (sym (λ i. eq-eqb one other last i && it.0 i) ∙ none))
        | inr it ↦ omega (arith, two, it.1)
      ]

  pub back_turn : (step port : ℕ) → M.phase ≡ ComesBack step port
      → Onward game s o configuration (turn_in trial configuration s)
  back_turn step port is =
      let placed = placed_as game s configuration (ComesBack step port) is inv.own in
      let some : 0 < step = placed.0 in
      let within : step ≤ all = placed.1 in
      let behind : port ≡ way.behind step = placed.3 in
      let index : step - 1 + 1 ≡ step = omega (arith, some) in
      let there : port < world.net.degree (along step) =
      subst (λ (k : ℕ). k < world.net.degree (along step)) (sym behind)
      (subst (λ (k : ℕ). way.behind k < world.net.degree (along k)) index
      (is_way.behind (step - 1) (omega (arith, some, within)))) in
      let rt : trips game s M.mine + 2 * all ≤ trips game s (distance game.search s - 1) =
      below_next game s M.mine placed.2 in
      paced (ComesBack step port) (Returns step) M.theirs (Bound (along step) port) (Heard Gone) 1 1
      (configuration.accused s) configuration.reached is
      (departs trial configuration s (agents_two game.search s pair.own) (along step) port placed.4.came placed.4.at
      (says_by ∙ ap (does_by n way M) is)
      (has_room game s o configuration (ComesBack step port) pair inv is (omega (arith, rt))) there)
      (explorers.turns s past step port (about (ComesBack step port) is))
      (some, within, placed.2, ap (λ (k : ℕ). Bound (along step) k) behind, placed.5)
      (inl refl) (λ k was. was) (λ k far. inl far) (omega arith) (omega (arith, within)) (omega (arith, within))

  pub write_turn : M.phase ≡ Writes → Onward game s o configuration (turn_in trial configuration s)
  write_turn is =
      let placed = placed_as game s configuration Writes is inv.own in
      let next : M.mine + 1 < distance game.search s = placed.0 in
      let came : Option ℕ = placed.1.came in
      let on : configuration.position s ≡ At world.home came = placed.1.at in
      let t : trip all M.phase ≡ 2 * all = ap (trip all) is in
      let e : ended M.phase ≡ 0 = ap ended is in
      let p : paces all M.phase ≡ 1 + 4 * all = ap (paces all) is in
      let c : come game M.mine M.phase ≡ M.mine + 1 = ap (come game M.mine) is in
      let used : configuration.used s ≤ cost game s M = inv.own.used in
      let known : M.theirs ≤ O.mine = inv.known in
      let known_too : O.theirs ≤ M.mine = inv.known_too in
      let rt : trips game s M.mine + 2 * all ≤ trips game s (distance game.search s - 1) =
      below_next game s M.mine next in
      let more : trips game s (M.mine + 1) ≡ trips game s M.mine + 2 * all = game.more_trips s M.mine in
      let room_left : configuration.used s < world.quota =
      has_room game s o configuration Writes pair inv is (omega (arith, rt)) in
      let expect : List ℕ = text_by s M.mine M.theirs in
      let put : List ℕ = text_by s (M.mine + 1) M.theirs in
      let says : trial.strategies s past ≡ Says (Write expect put) =
      says_by ∙ ap (does_by n way M) is
      ∙ (λ i. Says (Write (text_by (inv.own.side i) M.mine M.theirs)
      (text_by (inv.own.side i) (M.mine + 1) M.theirs))) in
      let length_of : length put ≤ 4 = text_fits s (M.mine + 1) M.theirs pair.own in
      let fits : length put ≤ world.board = omega (arith, length_of, room) in
      let port : ℕ = (way_to s (M.mine + 1 + 1)).ahead 0 in
      let after : Memory = record M { mine = M.mine + 1; phase = GoesOut 0 port } in
      elim (eqb_tells M.theirs O.mine) [
        | inl h ↦
            let same : bytes_eq (configuration.shown world.home) expect ≡ true =
            (λ i. bytes_eq (inv.board i) (text_by s M.mine (h.1 i))) ∙ bytes_same (text_by s M.mine O.mine) in
            assembled game s o configuration (turn_in trial configuration s) after
            (At world.home came) (Heard Written) 1 0 (configuration.accused s)
            (changed configuration.shown world.home put) configuration.reached pair inv
            (writes trial configuration s
            (agents_two game.search s pair.own) world.home came expect put on says room_left
            fits same)
            (explorers.wrote s past (about Writes is))
            (record {
              fit = record {
                side = inv.own.side;
                placed = (
                  some_steps game s after pair.own next,
                  refl,
                  record {
                    came = came;
                    at = ap (λ (k : ℕ). At k came) (sym (at_home game s after pair.own next));
                  },
                  placed.2,
                );
                safe = next;
                used = omega (arith, used, t, e, more);
                reached = λ k some far. inv.own.reached k some (omega (arith, far, c));
              };
              grows = λ k was. was;
              known = inv.known;
              known_too = omega (arith, known_too);
              fresh = inl h.1;
              board = changed_same configuration.shown world.home put ∙ ap (λ (k : ℕ). text_by s (M.mine + 1) k) h.1;
              spends = omega (arith, t, more);
              more = omega (arith, p, more);
            })
        | inr h ↦
            let different : O.mine ≢ M.theirs = λ back. h.1 (sym back) in
            let unlike : bytes_eq (configuration.shown world.home) expect ≡ false =
            ap (λ (xs : List ℕ). bytes_eq xs expect) inv.board
            ∙ bytes_other s M.mine O.mine M.theirs pair.own different in
            let fewer : M.theirs < O.mine = omega (arith, known, h.1) in
            paced Writes Writes O.mine (At world.home came) (Heard (Changed (configuration.shown world.home))) 1 0
            (configuration.accused s) configuration.reached is
            (writes_not trial configuration s
            (agents_two game.search s pair.own) world.home came expect put on says room_left
            fits unlike)
            (explorers.reads s past (configuration.shown world.home) (about Writes is)
            ∙ (λ i. record M { theirs = read i; phase = is i }))
            (next, record { came = came; at = refl }, placed.2)
            (inr refl) (λ k was. was) (λ k far. inl far) (omega (arith, fewer)) (omega arith) (omega (arith, fewer))
      ]
