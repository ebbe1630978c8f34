-- What the first steps of a list explore, and lists that lead around, begun elsewhere and with one crossing first.
use Rattle.std.proofs.Common.{ℕ, zero, suc, ◌+◌, ◌<◌, ◌≡◌, ◌⊎◌, Bool, true, false, not, ◌||◌, ◌&&◌, ◌==◌, List, [], ◌∷◌}
use Rattle.std.proofs.Common.{◌++◌}
use Rattle.std.proofs.Common.{length, refl, sym, ap, ◌∙◌, subst, inl, inr, arith}
use Rattle.std.proofs.lemmas.Bool.{true≢false, cond-true, cond-false, eq-eqb}
use Rattle.bhs_model.proofs.StepLemmas.{by_cases}
use Rattle.bhs_net.specs.Network.{Network, degree_of, far_of}
use Rattle.bhs_protocols_mapped.proofs.Members.{is_in, in_head, in_tail, in_split, not_in, or_true, AreApart}
use Rattle.bhs_protocols_divided.specs.Plans.{one_of, news}
use Rattle.bhs_protocols_divided.proofs.Tours.{Act, IsAct, IsChain, IsFresh, next, news_in, stops, has}
use Rattle.bhs_protocols_divided.proofs.Tours.{detour, chain_append, detour_chain, fresh_detour}
use Rattle.bhs_protocols_divided.proofs.Grown.{walks_in, IsTour}
use Rattle.bhs_protocols_divided.proofs.ListedItineraries.{act_at, itinerary_of, news_shift}
use Rattle.bhs_protocols_divided.proofs.ListedNews.{IsNewAt, new_at, new_where, new_unseen}
use Rattle.bhs_protocols_divided.proofs.Prefixes.{explored_by}
use Rattle.bhs_protocols_divided.proofs.Rotated.{IsSafe, safe_append, safe_fresh, safe_news, stripped, stripped_chain}
use Rattle.bhs_protocols_divided.proofs.Rotated.{stripped_has, stripped_walks, stripped_safe, until, beyond, rotated}
use Rattle.bhs_protocols_divided.proofs.Rotated.{rotated_chain, rotated_has, rotated_walks}

-- ---- what the first steps explore

pub lengths_in : (acts : List Act) → length acts ≡ length (news_in acts) + walks_in acts
lengths_in [] = refl
lengths_in (a ∷ acts) =
    let rest : length acts ≡ length (news_in acts) + walks_in acts = lengths_in acts in
    by_cases a.is_new (length (a ∷ acts) ≡ length (news_in (a ∷ acts)) + walks_in (a ∷ acts))
    (λ new.
    let one : length (news_in (a ∷ acts)) ≡ length (a.target ∷ news_in acts) = ap length (cond-true _ _ _ new) in
    let walks : walks_in (a ∷ acts) ≡ walks_in acts = cond-true _ _ _ new in
    omega (arith, rest, one, walks))
    (λ old.
    let one : length (news_in (a ∷ acts)) ≡ length (news_in acts) = ap length (cond-false _ _ _ old) in
    let walks : walks_in (a ∷ acts) ≡ suc (walks_in acts) = cond-false _ _ _ old in
    omega (arith, rest, one, walks))

pub explored_long : (root k : ℕ) (acts : List Act)
    → news (itinerary_of root acts) k ≡ length (explored_by k acts)
explored_long root zero acts = refl
explored_long root (suc k) [] =
    let rest : news (itinerary_of root []) k ≡ length (explored_by k []) = explored_long root k [] in
    none k rest
  where
    none : (k : ℕ) → news (itinerary_of root []) k ≡ length (explored_by k [])
        → news (itinerary_of root []) (suc k) ≡ length (explored_by (suc k) [])
    none zero rest = refl
    none (suc k) rest = let it : news (itinerary_of root []) (suc k) ≡ 0 = rest in omega (arith, it)
explored_long root (suc k) (a ∷ acts) =
    let rest : news (itinerary_of root acts) k ≡ length (explored_by k acts) = explored_long root k acts in
    let shift : news (itinerary_of root (a ∷ acts)) (suc k) ≡ one_of a.is_new + news (itinerary_of root acts) k =
    news_shift root a acts k in
    by_cases a.is_new (news (itinerary_of root (a ∷ acts)) (suc k) ≡ length (explored_by (suc k) (a ∷ acts)))
    (λ new.
    let one : one_of a.is_new ≡ 1 = ap one_of new in
    let long : length (explored_by (suc k) (a ∷ acts)) ≡ length (a.target ∷ explored_by k acts) =
    ap length (cond-true _ _ _ new) in
    omega (arith, rest, shift, one, long))
    (λ old.
    let one : one_of a.is_new ≡ 0 = ap one_of old in
    let long : length (explored_by (suc k) (a ∷ acts)) ≡ length (explored_by k acts) =
    ap length (cond-false _ _ _ old) in
    omega (arith, rest, shift, one, long))

pub explored_all : (acts : List Act) → explored_by (length acts) acts ≡ news_in acts
explored_all [] = refl
explored_all (a ∷ acts) =
    by_cases a.is_new (explored_by (suc (length acts)) (a ∷ acts) ≡ news_in (a ∷ acts))
    (λ new. cond-true _ _ _ new ∙ ap (λ (l : List ℕ). a.target ∷ l) (explored_all acts) ∙ sym (cond-true _ _ _ new))
    (λ old. cond-false _ _ _ old ∙ explored_all acts ∙ sym (cond-false _ _ _ old))

pub explored_at : (k : ℕ) (acts : List Act) (was node : ℕ) → IsNewAt acts was node → was < k
    → is_in node (explored_by k acts) ≡ true
explored_at zero acts was node it below = absurd (omega (arith, below))
explored_at (suc k) [] was node it below = absurd (omega (arith, it.within))
explored_at (suc k) (a ∷ acts) zero node it below =
    subst (λ (j : ℕ). is_in j (explored_by (suc k) (a ∷ acts)) ≡ true) it.is
    (ap (is_in a.target) (cond-true _ _ _ it.is_new) ∙ in_head a.target (explored_by k acts))
explored_at (suc k) (a ∷ acts) (suc was) node it below =
    let rest : is_in node (explored_by k acts) ≡ true = explored_at k acts was node
    (record { within = omega (arith, it.within); is_new = it.is_new; is = it.is }) (omega (arith, below)) in
    by_cases a.is_new (is_in node (explored_by (suc k) (a ∷ acts)) ≡ true)
    (λ new. ap (is_in node) (cond-true _ _ _ new) ∙ in_tail node a.target (explored_by k acts) rest)
    (λ old. ap (is_in node) (cond-false _ _ _ old) ∙ rest)

pub record WasNew (k : ℕ) (acts : List Act) (node : ℕ) : Type 0 where
  pub was : ℕ
  pub below : was < k
  pub new : IsNewAt acts was node

pub explored_where : (k : ℕ) (acts : List Act) (node : ℕ) → is_in node (explored_by k acts) ≡ true
    → WasNew k acts node
explored_where zero acts node any = absurd (true≢false (sym any))
explored_where (suc k) [] node any = absurd (true≢false (sym any))
explored_where (suc k) (a ∷ acts) node any = by_cases a.is_new (WasNew (suc k) (a ∷ acts) node)
    (λ new. elim (in_split node a.target (explored_by k acts) (sym (ap (is_in node) (cond-true _ _ _ new)) ∙ any)) [
      | inl h ↦ record {
        was = 0;
        below = omega arith;
        new = record { within = omega arith; is_new = new; is = sym h };
      }
      | inr h ↦ later (explored_where k acts node h)
    ])
    (λ old. later (explored_where k acts node (sym (ap (is_in node) (cond-false _ _ _ old)) ∙ any)))
  where
    later : WasNew k acts node → WasNew (suc k) (a ∷ acts) node
    later it =
        let below : it.was < k = it.below in
        let within : it.was < length acts = it.new.within in
        record {
          was = suc it.was;
          below = omega (arith, below);
          new = record { within = omega (arith, within); is_new = it.new.is_new; is = it.new.is };
        }

pub explored_news : (k : ℕ) (acts : List Act) (node : ℕ) → is_in node (explored_by k acts) ≡ true
    → is_in node (news_in acts) ≡ true
explored_news k acts node any =
    let it : WasNew k acts node = explored_where k acts node any in
    new_at acts it.was node it.new

pub news_unseen : (seen : List ℕ) (acts : List Act) (q : ℕ) → IsFresh seen acts → is_in q (news_in acts) ≡ true
    → is_in q seen ≡ true → ⊥
news_unseen seen acts q fresh any = let it = new_where acts q any in new_unseen seen acts it.0 q fresh it.1

pub explored_apart : (k : ℕ) (seen : List ℕ) (acts : List Act) → IsFresh seen acts → AreApart (explored_by k acts)
explored_apart zero seen acts fresh = tt
explored_apart (suc k) seen [] fresh = tt
explored_apart (suc k) seen (a ∷ acts) fresh =
    let rest : AreApart (explored_by k acts) = explored_apart k (a.target ∷ seen) acts fresh.1 in
    by_cases a.is_new (AreApart (explored_by (suc k) (a ∷ acts)))
    (λ new. subst AreApart (sym (cond-true _ _ _ new)) (
      not_in a.target (explored_by k acts) (λ h.
          news_unseen (a.target ∷ seen) acts a.target fresh.1 (explored_news k acts a.target h)
          (in_head a.target seen)),
      rest,
    ))
    (λ old. subst AreApart (sym (cond-false _ _ _ old)) rest)

pub news_apart : (seen : List ℕ) (acts : List Act) → IsFresh seen acts → AreApart (news_in acts)
news_apart seen acts fresh = subst AreApart (explored_all acts) (explored_apart (length acts) seen acts fresh)

-- ---- a list that leads around

module _ (net : Network) where
  -- the node of a step was seen, or was explored before
  pub node_known : (step here end : ℕ) (seen known : List ℕ) (acts : List Act) → IsChain net here end acts
      → IsFresh seen acts → step < length acts → is_in here known ≡ true
      → ((q : ℕ) → is_in q seen ≡ true → is_in q known ≡ true)
      → ((q : ℕ) → is_in q (explored_by step acts) ≡ true → is_in q known ≡ true)
      → is_in (act_at acts step).node known ≡ true
  node_known step here end seen known [] chain fresh below at up news = absurd (omega (arith, below))
  node_known zero here end seen known (a ∷ acts) chain fresh below at up news =
      subst (λ (k : ℕ). is_in k known ≡ true) (sym chain.0.from) at
  node_known (suc step) here end seen known (a ∷ acts) chain fresh below at up news =
      by_cases a.is_new (is_in (act_at acts step).node known ≡ true)
      (λ new. node_known step (next here a) end (a.target ∷ seen) known acts chain.1 fresh.1 (omega (arith, below))
      (subst (λ (k : ℕ). is_in k known ≡ true) (sym (cond-true _ _ _ new)) at)
      (more (news a.target (ap (is_in a.target) (cond-true _ _ _ new) ∙ in_head a.target (explored_by step acts))))
      (λ q any. news q (ap (is_in q) (cond-true _ _ _ new) ∙ in_tail q a.target (explored_by step acts) any)))
      (λ old.
      let there : is_in a.target known ≡ true = up a.target (fresh.0 ∙ ap not old) in
      node_known step (next here a) end (a.target ∷ seen) known acts chain.1 fresh.1 (omega (arith, below))
      (subst (λ (k : ℕ). is_in k known ≡ true) (sym (cond-false _ _ _ old)) there) (more there)
      (λ q any. news q (ap (is_in q) (cond-false _ _ _ old) ∙ any)))
    where
      more : is_in a.target known ≡ true → (q : ℕ) → is_in q (a.target ∷ seen) ≡ true → is_in q known ≡ true
      more there q any = elim (in_split q a.target seen any) [
        | inl e ↦ subst (λ (k : ℕ). is_in k known ≡ true) (sym e) there
        | inr e ↦ up q e
      ]

  ends : (here end : ℕ) (safe : List ℕ) (a : Act) (acts : List Act) → IsChain net here end (a ∷ acts)
      → IsSafe safe (a ∷ acts) → has end (a ∷ acts) ≡ true
  ends here end safe a [] chain is = ap (λ (b : Bool). b || false)
      (ap (λ (b : Bool). not b && (a.target == end)) is.0 ∙ eq-eqb a.target end (sym (cond-false _ _ _ is.0) ∙ chain.1))
  ends here end safe a (b ∷ acts) chain is =
      ap (λ (c : Bool). stops end a || c) (ends (next here a) end safe b acts chain.1 is.2) ∙ or_true (stops end a)

  ends_there : (p here end : ℕ) (safe : List ℕ) (acts : List Act) → has p acts ≡ true → IsChain net here end acts
      → IsSafe safe acts → has end acts ≡ true
  ends_there p here end safe [] any chain is = absurd (true≢false (sym any))
  ends_there p here end safe (a ∷ acts) any chain is = ends here end safe a acts chain is

safe_parts : (safe : List ℕ) (p : ℕ) (acts : List Act) → IsSafe safe acts
    → IsSafe safe (beyond p acts) × IsSafe safe (until p acts)
safe_parts safe p [] is = (tt, tt)
safe_parts safe p (a ∷ acts) is = by_cases (stops p a)
    (IsSafe safe (beyond p (a ∷ acts)) × IsSafe safe (until p (a ∷ acts)))
    (λ stop. (
      subst (IsSafe safe) (sym (cond-true _ _ _ stop)) is.2,
      subst (IsSafe safe) (sym (cond-true _ _ _ stop)) (is.0, is.1, tt),
    ))
    (λ none.
    let rest = safe_parts safe p acts is.2 in (
      subst (IsSafe safe) (sym (cond-false _ _ _ none)) rest.0,
      subst (IsSafe safe) (sym (cond-false _ _ _ none)) (is.0, is.1, rest.1),
    ))

-- the action that explores the target of another action
abbrev pub crossing : Act → Act
crossing a = record { node = a.node; ahead = a.ahead; target = a.target; behind = a.behind; is_new = true }

abbrev pub crossed : Act → List Act
crossed a = detour a.node a.ahead a.target a.behind

module _ (net : Network) (labelled : (u port : ℕ) → port < degree_of net u
    → ((far_of net u port).1 < degree_of net (far_of net u port).0)
    × (far_of net (far_of net u port).0 (far_of net u port).1 ≡ (u, port))) where
  abbrev Around : ℕ → List ℕ → List Act → Type 0
  Around = IsTour net labelled

  -- a closed walk over safe nodes, with this many links
  pub record Walks (root : ℕ) (safe : List ℕ) (count : ℕ) : Type 0 where
    pub list : List Act
    pub tour : Around root safe list
    pub is : IsSafe safe list
    pub walks : walks_in list ≡ count

  -- once all is explored
  pub stripped_tour : (root : ℕ) (safe all : List ℕ) (acts : List Act) → Around root safe acts
      → ((q : ℕ) → is_in q safe ≡ true → is_in q all ≡ true)
      → ((q : ℕ) → is_in q (news_in acts) ≡ true → is_in q all ≡ true)
      → ((q : ℕ) → is_in q all ≡ true → (is_in q safe ≡ true) ⊎ (is_in q (news_in acts) ≡ true))
      → Walks root all (walks_in acts)
  stripped_tour root safe all acts tour up news down =
      let is_safe : IsSafe all (stripped acts) = stripped_safe safe all acts up news tour.fresh in
      record {
        list = stripped acts;
        tour = record {
          chain = stripped_chain net root root acts tour.chain;
          fresh = safe_fresh all (stripped acts) is_safe;
          root_in = up root tour.root_in;
          visits = λ q any. elim any [
            | inl h ↦ elim (tour.visits q (down q h)) [
              | inl e ↦ inl (stripped_has q acts e)
              | inr e ↦ inr e
            ]
            | inr h ↦ absurd (true≢false (sym h ∙ ap (is_in q) (safe_news all (stripped acts) is_safe)))
          ];
        };
        is = is_safe;
        walks = stripped_walks acts;
      }

  -- begun at another node
  pub rotated_tour : (p root count : ℕ) (safe : List ℕ) → Walks root safe count → is_in p safe ≡ true
      → Walks p safe count
  rotated_tour p root count safe it there = elim (it.tour.visits p (inl there)) [
    | inl h ↦
        let parts = safe_parts safe p it.list it.is in
        let is_safe : IsSafe safe (rotated p it.list) =
        safe_append safe (beyond p it.list) (until p it.list) parts.0 parts.1 in
        record {
          list = rotated p it.list;
          tour = record {
            chain = rotated_chain net p root it.list h it.tour.chain;
            fresh = safe_fresh safe (rotated p it.list) is_safe;
            root_in = there;
            visits = λ q any. elim any [
              | inl e ↦ elim (it.tour.visits q (inl e)) [
                | inl x ↦ inl (rotated_has p q it.list x)
                | inr x ↦ inl (rotated_has p q it.list (subst (λ (k : ℕ). has k it.list ≡ true) (sym x)
                    (ends_there net p root root safe it.list h it.tour.chain it.is)))
              ]
              | inr e ↦ absurd (true≢false (sym e ∙ ap (is_in q) (safe_news safe (rotated p it.list) is_safe)))
            ];
          };
          is = is_safe;
          walks = rotated_walks p it.list ∙ it.walks;
        }
    | inr h ↦ subst (λ (k : ℕ). Walks k safe count) (sym h) it
  ]

  -- with a crossing to a new node first
  pub begun : (a : Act) (safe : List ℕ) (acts : List Act) → Around a.node safe acts → IsAct net a.node a
      → is_in a.target safe ≡ false → (is_in a.target (news_in acts) ≡ true → ⊥)
      → Around a.node safe (crossed a ++ acts)
  begun a safe acts tour act new other =
      let loop : IsChain net a.node a.node (crossed a) =
      detour_chain net a.node a.ahead a.target a.behind act.ahead act.behind act.out act.back in
      record {
        chain = chain_append net a.node a.node a.node (crossed a) acts loop tour.chain;
        fresh = fresh_detour a.node a.ahead a.target a.behind safe acts tour.root_in new other tour.fresh;
        root_in = tour.root_in;
        visits = λ q any. elim any [
          | inl h ↦ past q (tour.visits q (inl h))
          | inr h ↦ elim (in_split q a.target (news_in acts) h) [
            | inl e ↦ inl (ap (λ (b : Bool). b || ((a.node == q) || has q acts)) (eq-eqb a.target q (sym e)))
            | inr e ↦ past q (tour.visits q (inr e))
          ]
        ];
      }
    where
      past : (q : ℕ) → (has q acts ≡ true) ⊎ (q ≡ a.node)
          → ((((a.target == q) || ((a.node == q) || has q acts))) ≡ true) ⊎ (q ≡ a.node)
      past q any = elim any [
        | inl h ↦ inl (ap (λ (b : Bool). (a.target == q) || ((a.node == q) || b)) h
            ∙ ap (λ (b : Bool). (a.target == q) || b) (or_true (a.node == q)) ∙ or_true (a.target == q))
        | inr h ↦ inr h
      ]
