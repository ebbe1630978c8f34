-- Tours: closed walks over safe nodes with excursions to new nodes. A tour is extended by one new node at a time, so a
-- sequence in which each node has a known neighbour has a tour with two links for each node.
use Rattle.std.proofs.Common.{ℕ, ◌<◌, ◌≡◌, ◌⊎◌, Bool, true, false, not, ◌&&◌, ◌||◌, ◌==◌}
use Rattle.std.proofs.Common.{List, [], ◌∷◌, ◌++◌, refl, sym, ap, ◌∙◌, subst, if◌then◌else◌, inl, inr}
use Rattle.std.specs.Prelude.{◌≢◌}
use Rattle.std.proofs.lemmas.Bool.{true≢false, cond-true, cond-false, eqb-true}
use Rattle.bhs_model.proofs.StepLemmas.{by_cases}
use Rattle.bhs_net.specs.Network.{Network, degree_of, far_of}
use Rattle.bhs_protocols_mapped.proofs.Members.{is_in, in_head, in_tail, in_split, not_in}

pub record Act : Type 0 where
  pub node : ℕ
  pub ahead : ℕ
  pub target : ℕ
  pub behind : ℕ
  pub is_new : Bool

-- where one is after it
abbrev pub next : ℕ → Act → ℕ
next here a = if a.is_new then here else a.target

-- the new nodes
abbrev pub news_in : List Act → List ℕ
news_in [] = []
news_in (a ∷ acts) = if a.is_new then a.target ∷ news_in acts else news_in acts

-- each new node is new, and every other one was seen
abbrev pub IsFresh : List ℕ → List Act → Type 0
IsFresh seen [] = Unit
IsFresh seen (a ∷ acts) = (is_in a.target seen ≡ not a.is_new) × IsFresh (a.target ∷ seen) acts

-- it goes on for good to this node
abbrev pub stops : ℕ → Act → Bool
stops u a = not a.is_new && (a.target == u)

abbrev pub has : ℕ → List Act → Bool
has u [] = false
has u (a ∷ acts) = stops u a || has u acts

-- right after it first comes there
abbrev pub put : ℕ → List Act → List Act → List Act
put u more [] = []
put u more (a ∷ acts) = if stops u a then a ∷ (more ++ acts) else a ∷ put u more acts

-- across to a new node, there for good, and back
abbrev pub detour : (u port v label : ℕ) → List Act
detour u port v label =
    record { node = u; ahead = port; target = v; behind = label; is_new = true }
    ∷ record { node = u; ahead = port; target = v; behind = label; is_new = false }
    ∷ record { node = v; ahead = label; target = u; behind = port; is_new = false } ∷ []

pub stops_parts : (u : ℕ) (a : Act) → stops u a ≡ true → (a.is_new ≡ false) × (a.target ≡ u)
stops_parts u a h = by_bool a.is_new (a.target == u) h (λ old same. (old, eqb-true a.target u same))
  where
    by_bool : {P : Type 0} (b c : Bool) → (not b && c) ≡ true → (b ≡ false → c ≡ true → P) → P
    by_bool true c h f = absurd (true≢false (sym h))
    by_bool false c h f = f refl h

pub or_split : (b c : Bool) → (b || c) ≡ true → (b ≡ true) ⊎ (c ≡ true)
or_split true c h = inl refl
or_split false c h = inr h

-- ---- along links

module _ (net : Network) where
  pub record IsAct (here : ℕ) (a : Act) : Type 0 where
    pub from : a.node ≡ here
    pub ahead : a.ahead < degree_of net a.node
    pub behind : a.behind < degree_of net a.target
    pub out : far_of net a.node a.ahead ≡ (a.target, a.behind)
    pub back : far_of net a.target a.behind ≡ (a.node, a.ahead)

  abbrev pub IsChain : (here end : ℕ) → List Act → Type 0
  IsChain here end [] = here ≡ end
  IsChain here end (a ∷ acts) = IsAct here a × IsChain (next here a) end acts

  pub chain_append : (here mid end : ℕ) (one two : List Act) → IsChain here mid one → IsChain mid end two
      → IsChain here end (one ++ two)
  chain_append here mid end [] two first second = subst (λ (k : ℕ). IsChain k end two) (sym first) second
  chain_append here mid end (a ∷ acts) two first second =
      (first.0, chain_append (next here a) mid end acts two first.1 second)

  pub chain_put : (u here end : ℕ) (more acts : List Act) → has u acts ≡ true → IsChain u u more → IsChain here end acts
      → IsChain here end (put u more acts)
  chain_put u here end more [] any loop chain = absurd (true≢false (sym any))
  chain_put u here end more (a ∷ acts) any loop chain = by_cases (stops u a) (IsChain here end (put u more (a ∷ acts)))
      (λ stop.
      let parts = stops_parts u a stop in
      let there : next here a ≡ u = cond-false _ _ _ parts.0 ∙ parts.1 in
      subst (λ (l : List Act). IsChain here end l) (sym (cond-true _ _ _ stop)) (
        chain.0,
        subst (λ (k : ℕ). IsChain k end (more ++ acts)) (sym there)
            (chain_append u u end more acts loop (subst (λ (k : ℕ). IsChain k end acts) there chain.1)),
      ))
      (λ none.
      let later : has u acts ≡ true = elim (or_split (stops u a) (has u acts) any) [
        | inl h ↦ absurd (true≢false (sym h ∙ none))
        | inr h ↦ h
      ] in
      subst (λ (l : List Act). IsChain here end l) (sym (cond-false _ _ _ none))
      (chain.0, chain_put u (next here a) end more acts later loop chain.1))

  pub detour_chain : (u port v label : ℕ) → port < degree_of net u → label < degree_of net v
      → far_of net u port ≡ (v, label) → far_of net v label ≡ (u, port) → IsChain u u (detour u port v label)
  detour_chain u port v label fits fits_too out back = (
    record { from = refl; ahead = fits; behind = fits_too; out = out; back = back },
    (
      record { from = refl; ahead = fits; behind = fits_too; out = out; back = back },
      (record { from = refl; ahead = fits_too; behind = fits; out = back; back = out }, refl),
    ),
  )

-- ---- new nodes are new

pub in_news : (q : ℕ) (a : Act) (acts : List Act) → is_in q (news_in acts) ≡ true → is_in q (news_in (a ∷ acts)) ≡ true
in_news q a acts any = by_cases a.is_new (is_in q (news_in (a ∷ acts)) ≡ true)
    (λ new. ap (is_in q) (cond-true _ _ _ new) ∙ in_tail q a.target (news_in acts) any)
    (λ old. ap (is_in q) (cond-false _ _ _ old) ∙ any)

pub own_news : (a : Act) (acts : List Act) → a.is_new ≡ true → is_in a.target (news_in (a ∷ acts)) ≡ true
own_news a acts new = ap (is_in a.target) (cond-true _ _ _ new) ∙ in_head a.target (news_in acts)

-- what was seen may be another list, if that makes no new node a known one
pub fresh_change : (S T : List ℕ) (acts : List Act) → ((q : ℕ) → is_in q S ≡ true → is_in q T ≡ true)
    → ((q : ℕ) → is_in q T ≡ true → (is_in q S ≡ true) ⊎ (is_in q (news_in acts) ≡ true → ⊥)) → IsFresh S acts
    → IsFresh T acts
fresh_change S T [] up down fresh = tt
fresh_change S T (a ∷ acts) up down fresh = (
  by_cases a.is_new (is_in a.target T ≡ not a.is_new)
      (λ new.
      let hidden : is_in a.target S ≡ false = fresh.0 ∙ ap not new in
      not_in a.target T (λ any. elim (down a.target any) [
        | inl h ↦ true≢false (sym h ∙ hidden)
        | inr h ↦ h (own_news a acts new)
      ]) ∙ ap not (sym new))
      (λ old. up a.target (fresh.0 ∙ ap not old) ∙ ap not (sym old)),
  fresh_change (a.target ∷ S) (a.target ∷ T) acts
      (λ q any. elim (in_split q a.target S any) [
        | inl h ↦ subst (λ (k : ℕ). is_in k (a.target ∷ T) ≡ true) (sym h) (in_head a.target T)
        | inr h ↦ in_tail q a.target T (up q h)
      ])
      (λ q any. elim (in_split q a.target T any) [
        | inl h ↦ inl (subst (λ (k : ℕ). is_in k (a.target ∷ S) ≡ true) (sym h) (in_head a.target S))
        | inr h ↦ elim (down q h) [
          | inl e ↦ inl (in_tail q a.target S e)
          | inr e ↦ inr (λ news. e (in_news q a acts news))
        ]
      ]) fresh.1,
)

-- across to a new node and back, from a node that was seen
pub fresh_detour : (u port v label : ℕ) (seen : List ℕ) (acts : List Act) → is_in u seen ≡ true → is_in v seen ≡ false
    → (is_in v (news_in acts) ≡ true → ⊥) → IsFresh seen acts → IsFresh seen (detour u port v label ++ acts)
fresh_detour u port v label seen acts known new other fresh = (
  new,
  (
    in_head v seen,
    (
      in_tail u v (v ∷ seen) (in_tail u v seen known),
      fresh_change seen (u ∷ v ∷ v ∷ seen) acts
          (λ q any. in_tail q u (v ∷ v ∷ seen) (in_tail q v (v ∷ seen) (in_tail q v seen any)))
          (λ q any. elim (in_split q u (v ∷ v ∷ seen) any) [
            | inl h ↦ inl (subst (λ (k : ℕ). is_in k seen ≡ true) (sym h) known)
            | inr h ↦ elim (in_split q v (v ∷ seen) h) [
              | inl e ↦ inr (subst (λ (k : ℕ). is_in k (news_in acts) ≡ true → ⊥) (sym e) other)
              | inr e ↦ elim (in_split q v seen e) [
                | inl x ↦ inr (subst (λ (k : ℕ). is_in k (news_in acts) ≡ true → ⊥) (sym x) other)
                | inr x ↦ inl x
              ]
            ]
          ]) fresh,
    ),
  ),
)

apart_in : (v w : ℕ) (seen : List ℕ) → v ≢ w → is_in v seen ≡ false → is_in v (w ∷ seen) ≡ false
apart_in v w seen differ new = not_in v (w ∷ seen) (λ any. elim (in_split v w seen any) [
  | inl h ↦ differ h
  | inr h ↦ true≢false (sym h ∙ new)
])

pub fresh_put : (u port v label : ℕ) (seen : List ℕ) (acts : List Act) → has u acts ≡ true → is_in v seen ≡ false
    → (is_in v (news_in acts) ≡ true → ⊥) → IsFresh seen acts → IsFresh seen (put u (detour u port v label) acts)
fresh_put u port v label seen [] any new other fresh = absurd (true≢false (sym any))
fresh_put u port v label seen (a ∷ acts) any new other fresh =
    let differ : v ≢ a.target = λ h. by_cases a.is_new ⊥
    (λ is_new. other (subst (λ (k : ℕ). is_in k (news_in (a ∷ acts)) ≡ true) (sym h) (own_news a acts is_new)))
    (λ old. true≢false (sym (fresh.0 ∙ ap not old) ∙ sym (ap (λ (k : ℕ). is_in k seen) h) ∙ new)) in
    let new_too : is_in v (a.target ∷ seen) ≡ false = apart_in v a.target seen differ new in
    let other_too : is_in v (news_in acts) ≡ true → ⊥ = λ h. other (in_news v a acts h) in
    by_cases (stops u a) (IsFresh seen (put u (detour u port v label) (a ∷ acts)))
    (λ stop.
    let parts = stops_parts u a stop in
    subst (λ (l : List Act). IsFresh seen l) (sym (cond-true _ _ _ stop)) (
      fresh.0,
      fresh_detour u port v label (a.target ∷ seen) acts
          (subst (λ (k : ℕ). is_in k (a.target ∷ seen) ≡ true) parts.1 (in_head a.target seen)) new_too other_too
          fresh.1,
    ))
    (λ none.
    let later : has u acts ≡ true = elim (or_split (stops u a) (has u acts) any) [
      | inl h ↦ absurd (true≢false (sym h ∙ none))
      | inr h ↦ h
    ] in
    subst (λ (l : List Act). IsFresh seen l) (sym (cond-false _ _ _ none))
    (fresh.0, fresh_put u port v label (a.target ∷ seen) acts later new_too other_too fresh.1))
