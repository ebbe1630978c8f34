-- The search by halves: an agent writes that the next node is safe.
use Rattle.std.proofs.Common.{ℕ, zero, suc, ◌+◌, ◌-◌, ◌*◌, ◌<◌, ◌≤◌, ◌≡◌, Bool, true, false, Option, List, length, refl}
use Rattle.std.proofs.Common.{sym, ap, ◌∙◌, subst, if◌then◌else◌, nat_lt, inl, inr, arith}
use Rattle.std.specs.Prelude.{◌≢◌, bytes_eq}
use Rattle.std.proofs.lemmas.Bool.{lt-ltb, ltb-true, true≢false, ne_eqb}
use Rattle.std.proofs.lemmas.Bool.Decides.{eqb_tells}
use Rattle.std.proofs.lemmas.Slice.Eq.{bytes_eq-Decides}
use Rattle.bhs_model.specs.declared.commands.Command.TheVariants.{Write}
use Rattle.bhs_model.specs.declared.replies.Reply.TheVariants.{Written, Changed}
use Rattle.bhs_model.specs.Runs.{At, changed}
use Rattle.bhs_model.proofs.StepLemmas.{by_cases, changed_same, changed_other}
use Rattle.bhs_schedules.specs.declared.answers.Step.TheVariants.{Says}
use Rattle.bhs_schedules.specs.Strategies.{Heard}
use Rattle.bhs_schedules.specs.Schedules.{Trial}
use Rattle.bhs_protocols.specs.Configurations.{turn_in}
use Rattle.bhs_protocols.specs.declared.halves.Memory.{Memory}
use Rattle.bhs_protocols.specs.declared.halves.Phase.{Phase}
use Rattle.bhs_protocols.specs.declared.halves.Phase.TheVariants.{GoesOut, Writes, Follows, Passes, Tells, ComesHome}
use Rattle.bhs_protocols.specs.declared.halves.Phase.TheVariants.{NearsBack, Ends}
use Rattle.bhs_protocols.specs.Shuttle.{other_in, text_by}
use Rattle.bhs_protocols.specs.Halving.{rounds, walks_at}
use Rattle.bhs_protocols.specs.Halves.{own_in, does_in, after_in}
use Rattle.bhs_protocols.proofs.HalvesDues.{owing, paces, tasks, miss, mark_at, beside, come, last, part, told}
use Rattle.bhs_protocols.proofs.SearchLemmas.{agents_two, both, opposite, read_other, sides, text_fits, text_other}
use Rattle.bhs_protocols.proofs.TurnLemmas.{writes, writes_not}
use Rattle.bhs_protocols.proofs.HalvesMarks.{mark_after, mark_before, mark_here, read_own}
use Rattle.bhs_protocols.proofs.HalvesState.{Game, IsPlaced, Onward, Turn, assembled, distance, mem, nodes_due, rest_of}
use Rattle.bhs_protocols.proofs.HalvesState.{stale, trial as trial_of}
use Rattle.bhs_protocols.proofs.HalvesTurns.{distances, far_safe, has_room, other_fit, own_fit, placed_as}
use Rattle.bhs_protocols.proofs.HalvesArrivals.{learns, marked_here}

module _ {game : Game} (on : Turn game) where
  open game use {world, n, right, left, ways, search, room}
  open on use {s, o, v, w, configuration, pair, inv}

  abbrev trial : Trial
  trial = trial_of game

  abbrev M : Memory
  M = mem game configuration s

  abbrev O : Memory
  O = mem game configuration o

  abbrev B : ℕ
  B = nodes_due game s M v

  abbrev W : ℕ
  W = walks_at n (rest_of game s M v)

  -- ---- nodes are apart

  -- of side 0 and of side 1
  apart_cross : (j k : ℕ) → j < right → k < left → 0 < j + k → ways.node 0 j ≢ ways.node 1 k
  apart_cross j zero before before_too some = λ same.
      let sum : right + left ≡ n = search.sum in
      let is : j ≡ 0 = search.ring.apart j 0 (omega (arith, before, sum)) (omega (arith, before, sum))
      (same ∙ search.ring.home 1 ∙ sym (search.ring.home 0)) in
      omega (arith, is, some)
  apart_cross j (suc k) before before_too some = λ same.
      let sum : right + left ≡ n = search.sum in
      let is : j ≡ n - suc k = search.ring.apart j (n - suc k) (omega (arith, before, sum))
      (omega (arith, before, sum, before_too)) (same
      ∙ search.ring.around (suc k) (n - suc k) (omega (arith, before_too, sum)) (omega arith)
      (omega (arith, before_too, sum))) in
      omega (arith, is, before, before_too, sum)

  apart_left : (j k : ℕ) → j < left → k < left → ways.node 1 j ≡ ways.node 1 k → j ≡ k
  apart_left zero zero before before_too same = refl
  apart_left (suc j) zero before before_too same =
      let first : 0 < right = search.not_home in
      absurd (apart_cross 0 (suc j) first before (omega arith)
      (search.ring.home 0 ∙ sym (search.ring.home 1) ∙ sym same))
  apart_left zero (suc k) before before_too same =
      let first : 0 < right = search.not_home in
      absurd (apart_cross 0 (suc k) first before_too (omega arith)
      (search.ring.home 0 ∙ sym (search.ring.home 1) ∙ same))
  apart_left (suc j) (suc k) before before_too same =
      let sum : right + left ≡ n = search.sum in
      let is : n - suc j ≡ n - suc k = search.ring.apart (n - suc j) (n - suc k) (omega (arith, before, sum))
      (omega (arith, before_too, sum))
      (sym (search.ring.around (suc j) (n - suc j) (omega (arith, before, sum)) (omega arith)
      (omega (arith, before, sum)))
      ∙ same ∙ search.ring.around (suc k) (n - suc k) (omega (arith, before_too, sum)) (omega arith)
      (omega (arith, before_too, sum))) in
      omega (arith, is, before, before_too, sum)

  apart_right : (j k : ℕ) → j < right → k < right → ways.node 0 j ≡ ways.node 0 k → j ≡ k
  apart_right j k before before_too same =
      let sum : right + left ≡ n = search.sum in
      search.ring.apart j k (omega (arith, before, sum)) (omega (arith, before_too, sum)) same

  abbrev pub AreApart : ℕ → Type 0
  AreApart side = (j k : ℕ) → j < distance game side → k < distance game side → ways.node side j ≡ ways.node side k
      → j ≡ k

  apart_on : (side : ℕ) → side < 2 → AreApart side
  apart_on side below = both AreApart apart_right apart_left side below

  abbrev pub AreCrossed : ℕ → Type 0
  AreCrossed side = (j k : ℕ) → j < distance game side → k < distance game (opposite side) → 0 < j + k
      → ways.node side j ≢ ways.node (opposite side) k

  crossed_on : (side : ℕ) → side < 2 → AreCrossed side
  crossed_on side below = both AreCrossed apart_cross
      (λ j k before before_too some same. apart_cross k j before_too before (omega (arith, some)) (sym same)) side below

  -- what stays shown where another node's whiteboard is written
  pub shown_there : (side j k : ℕ) (put : List ℕ) → side < 2 → j < distance game side → k < distance game side → k ≢ j
      → changed configuration.shown (ways.node side j) put (ways.node side k) ≡ configuration.shown (ways.node side k)
  shown_there side j k put below before before_too other =
      changed_other configuration.shown (ways.node side j) (ways.node side k) put
      (ne_eqb (ways.node side k) (ways.node side j)
      (λ same. other (apart_on side below k j before_too before same)))

  pub shown_across : (side j k : ℕ) (put : List ℕ) → side < 2 → j < distance game side
      → k < distance game (opposite side)
      → 0 < j + k → changed configuration.shown (ways.node side j) put (ways.node (opposite side) k)
      ≡ configuration.shown (ways.node (opposite side) k)
  shown_across side j k put below before before_too some =
      changed_other configuration.shown (ways.node side j) (ways.node (opposite side) k) put
      (ne_eqb (ways.node (opposite side) k) (ways.node side j)
      (λ same. crossed_on side below j k before before_too some (sym same)))

  pub same_bytes : (xs ys : List ℕ) → bytes_eq xs ys ≡ true → xs ≡ ys
  same_bytes xs ys h = (bytes_eq-Decides xs ys).0 h

  miss_small : (b : Bool) → miss b ≤ 1
  miss_small true = omega arith
  miss_small false = omega arith

  pub stale_small : (phase : Phase) (shown : ℕ → List ℕ) → stale game o O phase shown ≤ 1
  stale_small (Writes port) shown =
      miss_small (bytes_eq (shown (ways.node o O.mine)) (text_by o O.own O.other))
  stale_small (Tells steps port) shown =
      miss_small (bytes_eq (shown (ways.node (opposite o) steps)) (text_by o O.own O.other))
  stale_small phase shown = omega arith

  -- ---- it writes that the next node is safe

  -- The partner keeps its position, with one more known node.
  far_more : M.mine + 1 < distance game s → (phase : Phase)
      → IsPlaced game o O M.mine w phase (configuration.position o) (configuration.accused o)
      → IsPlaced game o O (M.mine + 1) w phase (configuration.position o) (configuration.accused o)
  far_more next (Follows steps port) placed =
      let few : steps < M.mine = placed.1 in (placed.0, omega (arith, few), placed.2, placed.3, placed.4)
  far_more next (Passes steps) placed =
      let few : steps < M.mine = placed.1 in (placed.0, omega (arith, few), placed.2, placed.3)
  far_more next (Tells steps port) placed =
      let few : steps ≤ M.mine = placed.1 in
      (placed.0, omega (arith, few), placed.2, placed.3, placed.4, placed.5)
  far_more next (ComesHome steps port) placed =
      let few : steps ≤ M.mine = placed.2 in
      (placed.0, placed.1, omega (arith, few), placed.3, placed.4, placed.5)
  far_more next (NearsBack steps) placed =
      let few : steps ≤ M.mine = placed.2 in (placed.0, placed.1, omega (arith, few), placed.3, placed.4)
  far_more next Ends placed =
      let all : O.mine + M.mine + 2 ≡ n = placed.1 in
      let safe_too : O.mine < distance game o = far_safe on in
      let sum : distance game s + distance game o ≡ n = distances on in
      absurd (omega (arith, all, safe_too, sum, next))
  far_more next phase placed = placed

  mark_more : (mark k : ℕ) → k ≢ M.mine → mark_at (M.mine + 1) 0 k ≡ mark_at M.mine mark k
  mark_more mark k other = by_cases (nat_lt k M.mine) (mark_at (M.mine + 1) 0 k ≡ mark_at M.mine mark k)
      (λ yes.
      let less : k < M.mine = ltb-true k M.mine yes in
      mark_before (M.mine + 1) 0 k (omega (arith, less)) ∙ sym (mark_before M.mine mark k less))
      (λ none.
      let not_less : (k < M.mine) → ⊥ = λ h. true≢false (sym (lt-ltb k M.mine h) ∙ none) in
      let above : M.mine < k = omega (arith, not_less, other) in
      elim (eqb_tells k (M.mine + 1)) [
        | inl h ↦ mark_here (M.mine + 1) 0 k h.1 ∙ sym (mark_after M.mine mark k above)
        | inr h ↦ mark_after (M.mine + 1) 0 k (omega (arith, above, h.1)) ∙ sym (mark_after M.mine mark k above)
      ])

  mark_first : (mark : ℕ) → 0 < M.mine → mark_at (M.mine + 1) 0 0 ≡ mark_at M.mine mark 0
  mark_first mark some = mark_more mark 0 (omega (arith, some))

  beside_more : (k : ℕ) → 0 < M.mine + k → beside (M.mine + 1) 0 k ≡ beside M.mine v k
  beside_more zero some = mark_first v (omega (arith, some))
  beside_more (suc k) some = refl

  pub write_turn : (port : ℕ) → M.phase ≡ Writes port
      → Onward game s o v w configuration (turn_in trial configuration s)
  write_turn port is =
      let placed = placed_as on (Writes port) is in
      let more : M.mine < M.target = placed.0 in
      let next : M.mine + 1 < distance game s = placed.1 in
      let safe : M.mine < distance game s = (own_fit on).safe in
      let came : Option ℕ = placed.3.came in
      let q : owing B W M.mine M.phase ≡ (B - 2) + 0 + W = ap (owing B W M.mine) is in
      let p : paces M.phase ≡ 1 = ap paces is in
      let t : tasks M.phase ≡ 1 = ap tasks is in
      let c : come M.mine M.phase ≡ M.mine + 1 = ap (come M.mine) is in
      let node : ℕ = ways.node s M.mine in
      let expect : List ℕ = text_by s M.own M.other in
      let put : List ℕ = text_by s 1 M.other in
      let says : trial.strategies s (configuration.history s) ≡ Says (Write expect put) =
      ap (does_in n M) is ∙ (λ i. Says (Write (text_by ((own_fit on).side i) M.own M.other)
      (text_by ((own_fit on).side i) 1 M.other))) in
      let length_of : length put ≤ 4 = text_fits s 1 M.other pair.own in
      let fits : length put ≤ world.board = omega (arith, length_of, room) in
      let st : stale game s M M.phase configuration.shown ≡ miss (bytes_eq (configuration.shown node) expect) =
      ap (λ (ph : Phase). stale game s M ph configuration.shown) is in
      by_cases (bytes_eq (configuration.shown node) expect) (Onward game s o v w configuration
      (turn_in trial configuration s))
      (λ yes.
      let same : text_by s v (beside O.mine w M.mine) ≡ expect =
      sym (marked_here on) ∙ same_bytes (configuration.shown node) expect yes in
      let own_is : M.own ≡ v =
      sym (read_own s M.own M.other pair.own) ∙ ap (own_in s) (sym same)
      ∙ read_own s v (beside O.mine w M.mine) pair.own in
      let other_is : M.other ≡ beside O.mine w M.mine =
      sym (read_other s M.own M.other pair.own) ∙ ap (other_in s) (sym same)
      ∙ read_other s v (beside O.mine w M.mine) pair.own in
      let part_is : part n M v ≡ M.target = ap (part n M) (sym own_is) ∙ placed.4 in
      let told_is : told M v ≡ M.theirs = ap (told M) (sym own_is) ∙ placed.5 in
      let after : Memory = record M { mine = M.mine + 1; phase = GoesOut M.mine port } in
      let shown : ℕ → List ℕ = changed configuration.shown node put in
      let two : part n M v + told M v + 2 ≤ n = (own_fit on).two in
      let half : n ≤ 2 * part n M v + 2 * told M v + 2 = (own_fit on).half in
      let known : M.theirs ≤ O.mine = (own_fit on).known in
      let known_too : O.theirs ≤ M.mine = (other_fit on).known in
      let told_too : told O w ≤ M.mine = (other_fit on).known_too in
      let sum : part n M v + part n O w + 1 ≡ n = inv.state.sum in
      let rests : rest_of game s after 0 ≡ rest_of game s M v =
      λ i. if nat_lt (sym part_is i) (distance game s) then n - 1 - sym part_is i - sym told_is i else 1 in
      let lasts : last (part n after 0) (distance game s) ≡ last (part n M v) (distance game s) =
      λ i. last (sym part_is i) (distance game s) in
      let walks_are : walks_at n (rest_of game s after 0) ≡ W = ap (walks_at n) rests in
      let rounds_are : rounds (rest_of game s after 0) ≡ rounds (rest_of game s M v) = ap rounds rests in
      let small : stale game o O O.phase shown ≤ 1 = stale_small O.phase shown in
      let st_is : stale game s M M.phase configuration.shown ≡ 0 = st ∙ ap miss yes in
      assembled game s o v w configuration (turn_in trial configuration s) after (At node came) (Heard Written) 1 0
      (configuration.accused s) 0 w shown configuration.reached pair inv
      (writes trial configuration s (agents_two (sides search) s pair.own) node came expect put placed.3.at says
      (has_room on (omega (arith, p))) fits yes)
      (ap (λ (ph : Phase). after_in n M ph (Heard Written)) is)
      (record {
        state = record {
          own = record {
            side = (own_fit on).side;
            placed = (omega arith, placed.2, (λ h. refl), record { came = came; at = refl }, placed.6);
            safe = next;
            within = omega (arith, more);
            reachable = omega (arith, more);
            plain = λ h. omega (arith, h);
            known = known;
            known_too = known;
            two = omega (arith, two, part_is, told_is);
            half = omega (arith, half, part_is, told_is);
            reached = λ k some far. (own_fit on).reached k some (omega (arith, far, c));
          };
          other = record {
            side = (other_fit on).side;
            placed = far_more next O.phase (other_fit on).placed;
            safe = (other_fit on).safe;
            within = (other_fit on).within;
            reachable = (other_fit on).reachable;
            plain = (other_fit on).plain;
            known = omega (arith, known_too);
            known_too = omega (arith, told_too);
            two = (other_fit on).two;
            half = (other_fit on).half;
            reached = (other_fit on).reached;
          };
          sum = omega (arith, sum, part_is);
          marked = λ k before. elim (eqb_tells k M.mine) [
            | inl h ↦
                ap (λ (j : ℕ). shown (ways.node s j)) h.1 ∙ changed_same configuration.shown node put
                ∙ (λ i. text_by s (sym (mark_before (M.mine + 1) 0 k (omega (arith, h.1))) i) (other_is i))
                ∙ ap (λ (j : ℕ). text_by s (mark_at (M.mine + 1) 0 k) (beside O.mine w j)) (sym h.1)
            | inr h ↦
                shown_there s M.mine k put pair.own safe before h.1 ∙ inv.state.marked k before
                ∙ ap (λ (j : ℕ). text_by s j (beside O.mine w k)) (sym (mark_more v k h.1))
          ];
          marked_too = λ k before. by_cases (nat_lt 0 (M.mine + k))
              (shown (ways.node o k) ≡ text_by o (mark_at O.mine w k) (beside (M.mine + 1) 0 k))
              (λ some.
              subst (λ (side : ℕ). shown (ways.node side k) ≡ configuration.shown (ways.node side k)) (sym pair.is)
              (shown_across s M.mine k put pair.own safe (subst (λ (side : ℕ). k < distance game side) pair.is before)
              (ltb-true 0 (M.mine + k) some))
              ∙ inv.state.marked_too k before
              ∙ ap (text_by o (mark_at O.mine w k)) (sym (beside_more k (ltb-true 0 (M.mine + k) some))))
              (λ none.
              let nothing : M.mine + k ≤ 0 = not_above 0 (M.mine + k) none in
              let mine_none : M.mine ≡ 0 = omega (arith, nothing) in
              let k_none : k ≡ 0 = omega (arith, nothing) in
              let there : ways.node o k ≡ node =
              ap (ways.node o) k_none ∙ search.ring.home o ∙ sym (search.ring.home s)
              ∙ ap (ways.node s) (sym mine_none) in
              let first : mark_at (M.mine + 1) 0 0 ≡ 1 = mark_before (M.mine + 1) 0 0 (omega arith) in
              ap shown there ∙ changed_same configuration.shown node put
              ∙ (λ i. text_by s (sym first i) ((other_is ∙ ap (beside O.mine w) mine_none) i))
              ∙ sym (text_other s o (mark_at (M.mine + 1) 0 0) (mark_at O.mine w 0) pair)
              ∙ ap (λ (j : ℕ). text_by o (mark_at O.mine w j) (beside (M.mine + 1) 0 j)) (sym k_none));
        };
        spends = omega (arith, q, t, lasts, walks_are, rounds_are, next, small, st_is);
        dues = omega (arith, q, lasts, walks_are, next);
        progress = inl (record {
          exactly = omega (arith, q, lasts, walks_are, next);
          part_is = sym part_is;
          told_is = sym told_is;
          still = refl;
        });
        fewer = omega (arith, q, p, lasts, walks_are, rounds_are, next, small, st_is);
      }))
      (λ none.
      let st_is : stale game s M M.phase configuration.shown ≡ 1 = st ∙ ap miss none in
      learns on (At node came) (Heard (Changed (configuration.shown node))) 1 port came configuration.reached
      (writes_not trial configuration s (agents_two (sides search) s pair.own) node came expect put placed.3.at says
      (has_room on (omega (arith, p))) fits none)
      (ap (λ (ph : Phase). after_in n M ph (Heard (Changed (configuration.shown node)))) is) refl more next placed.2
      placed.6 (λ k was. was) (λ k some far. (own_fit on).reached k some (omega (arith, far, c)))
      (omega (arith, t, st_is)) (omega (arith, q)) (omega (arith, p, st_is)))
    where
      not_above : (a b : ℕ) → nat_lt a b ≡ false → b ≤ a
      not_above a b none =
          let not_below : (a < b) → ⊥ = λ h. true≢false (sym (lt-ltb a b h) ∙ none) in
          omega (arith, not_below)
