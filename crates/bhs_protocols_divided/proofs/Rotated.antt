-- A list that leads around, without its crossings, and begun at another node: how one goes around in the next stage.
use Rattle.std.proofs.Common.{ℕ, suc, ◌+◌, ◌≡◌, ◌⊎◌, Bool, true, false, not, ◌||◌, List, [], ◌∷◌, ◌++◌}
use Rattle.std.proofs.Common.{refl, sym, ap, ◌∙◌, subst, if◌then◌else◌, inl, inr, arith}
use Rattle.std.proofs.lemmas.Bool.{true≢false, cond-true, cond-false}
use Rattle.bhs_model.proofs.StepLemmas.{by_cases}
use Rattle.bhs_net.specs.Network.{Network}
use Rattle.bhs_protocols_mapped.proofs.Members.{is_in, in_tail, in_split, or_true}
use Rattle.bhs_protocols_divided.proofs.Tours.{Act, IsChain, IsFresh, next, news_in, in_news, stops, has, or_split}
use Rattle.bhs_protocols_divided.proofs.Tours.{chain_append, stops_parts, own_news}
use Rattle.bhs_protocols_divided.proofs.Grown.{walks_in}

-- ---- lists that go to these nodes alone, for good

abbrev pub IsSafe : List ℕ → List Act → Type 0
IsSafe safe [] = Unit
IsSafe safe (a ∷ acts) = (a.is_new ≡ false) × (is_in a.target safe ≡ true) × IsSafe safe acts

pub safe_append : (safe : List ℕ) (one two : List Act) → IsSafe safe one → IsSafe safe two → IsSafe safe (one ++ two)
safe_append safe [] two first second = second
safe_append safe (a ∷ acts) two first second = (first.0, first.1, safe_append safe acts two first.2 second)

pub safe_more : (safe more : List ℕ) (acts : List Act) → ((q : ℕ) → is_in q safe ≡ true → is_in q more ≡ true)
    → IsSafe safe acts → IsSafe more acts
safe_more safe more [] up is = tt
safe_more safe more (a ∷ acts) up is = (is.0, up a.target is.1, safe_more safe more acts up is.2)

pub safe_fresh : (safe : List ℕ) (acts : List Act) → IsSafe safe acts → IsFresh safe acts
safe_fresh safe [] is = tt
safe_fresh safe (a ∷ acts) is = (
  is.1 ∙ ap not (sym is.0),
  safe_fresh (a.target ∷ safe) acts
      (safe_more safe (a.target ∷ safe) acts (λ q any. in_tail q a.target safe any) is.2),
)

pub safe_news : (safe : List ℕ) (acts : List Act) → IsSafe safe acts → news_in acts ≡ []
safe_news safe [] is = refl
safe_news safe (a ∷ acts) is = cond-false _ _ _ is.0 ∙ safe_news safe acts is.2

pub has_append : (q : ℕ) (one two : List Act) → (has q one ≡ true) ⊎ (has q two ≡ true) → has q (one ++ two) ≡ true
has_append q [] two any = elim any [
  | inl h ↦ absurd (true≢false (sym h))
  | inr h ↦ h
]
has_append q (a ∷ acts) two any = elim any [
  | inl h ↦ elim (or_split (stops q a) (has q acts) h) [
    | inl e ↦ ap (λ (b : Bool). b || has q (acts ++ two)) e
    | inr e ↦ ap (λ (b : Bool). stops q a || b) (has_append q acts two (inl e)) ∙ or_true (stops q a)
  ]
  | inr h ↦ ap (λ (b : Bool). stops q a || b) (has_append q acts two (inr h)) ∙ or_true (stops q a)
]

pub walks_append : (one two : List Act) → walks_in (one ++ two) ≡ walks_in one + walks_in two
walks_append [] two = omega arith
walks_append (a ∷ acts) two =
    let rest : walks_in (acts ++ two) ≡ walks_in acts + walks_in two = walks_append acts two in
    by_cases a.is_new (walks_in (a ∷ (acts ++ two)) ≡ walks_in (a ∷ acts) + walks_in two)
    (λ new.
    let all : walks_in (a ∷ (acts ++ two)) ≡ walks_in (acts ++ two) = cond-true _ _ _ new in
    let own : walks_in (a ∷ acts) ≡ walks_in acts = cond-true _ _ _ new in
    omega (arith, rest, all, own))
    (λ old.
    let all : walks_in (a ∷ (acts ++ two)) ≡ suc (walks_in (acts ++ two)) = cond-false _ _ _ old in
    let own : walks_in (a ∷ acts) ≡ suc (walks_in acts) = cond-false _ _ _ old in
    omega (arith, rest, all, own))

-- ---- without its crossings

abbrev pub stripped : List Act → List Act
stripped [] = []
stripped (a ∷ acts) = if a.is_new then stripped acts else a ∷ stripped acts

pub stripped_chain : (net : Network) (here end : ℕ) (acts : List Act) → IsChain net here end acts
    → IsChain net here end (stripped acts)
stripped_chain net here end [] chain = chain
stripped_chain net here end (a ∷ acts) chain = by_cases a.is_new (IsChain net here end (stripped (a ∷ acts)))
    (λ new.
    let same : next here a ≡ here = cond-true _ _ _ new in
    subst (IsChain net here end) (sym (cond-true _ _ _ new))
    (subst (λ (k : ℕ). IsChain net k end (stripped acts)) same (stripped_chain net (next here a) end acts chain.1)))
    (λ old. subst (IsChain net here end) (sym (cond-false _ _ _ old))
    (chain.0, stripped_chain net (next here a) end acts chain.1))

pub stripped_has : (q : ℕ) (acts : List Act) → has q acts ≡ true → has q (stripped acts) ≡ true
stripped_has q [] any = any
stripped_has q (a ∷ acts) any = by_cases a.is_new (has q (stripped (a ∷ acts)) ≡ true)
    (λ new. ap (has q) (cond-true _ _ _ new) ∙ stripped_has q acts (elim (or_split (stops q a) (has q acts) any) [
      | inl h ↦ absurd (true≢false (sym new ∙ (stops_parts q a h).0))
      | inr h ↦ h
    ]))
    (λ old. ap (has q) (cond-false _ _ _ old) ∙ elim (or_split (stops q a) (has q acts) any) [
      | inl h ↦ ap (λ (b : Bool). b || has q (stripped acts)) h
      | inr h ↦ ap (λ (b : Bool). stops q a || b) (stripped_has q acts h) ∙ or_true (stops q a)
    ])

pub stripped_walks : (acts : List Act) → walks_in (stripped acts) ≡ walks_in acts
stripped_walks [] = refl
stripped_walks (a ∷ acts) = by_cases a.is_new (walks_in (stripped (a ∷ acts)) ≡ walks_in (a ∷ acts))
    (λ new. ap walks_in (cond-true _ _ _ new) ∙ stripped_walks acts ∙ sym (cond-true _ _ _ new))
    (λ old. ap walks_in (cond-false _ _ _ old) ∙ cond-false _ _ _ old ∙ ap suc (stripped_walks acts)
    ∙ sym (cond-false _ _ _ old))

-- without its crossings a list visits only seen and explored nodes
pub stripped_safe : (seen safe : List ℕ) (acts : List Act) → ((q : ℕ) → is_in q seen ≡ true → is_in q safe ≡ true)
    → ((q : ℕ) → is_in q (news_in acts) ≡ true → is_in q safe ≡ true) → IsFresh seen acts → IsSafe safe (stripped acts)
stripped_safe seen safe [] up news fresh = tt
stripped_safe seen safe (a ∷ acts) up news fresh = by_cases a.is_new (IsSafe safe (stripped (a ∷ acts)))
    (λ new. subst (IsSafe safe) (sym (cond-true _ _ _ new)) (stripped_safe (a.target ∷ seen) safe acts
    (more (news a.target (own_news a acts new))) (λ q any. news q (in_news q a acts any)) fresh.1))
    (λ old. subst (IsSafe safe) (sym (cond-false _ _ _ old)) (
      old,
      up a.target (fresh.0 ∙ ap not old),
      stripped_safe (a.target ∷ seen) safe acts (more (up a.target (fresh.0 ∙ ap not old)))
          (λ q any. news q (in_news q a acts any)) fresh.1,
    ))
  where
    more : is_in a.target safe ≡ true → (q : ℕ) → is_in q (a.target ∷ seen) ≡ true → is_in q safe ≡ true
    more known q any = elim (in_split q a.target seen any) [
      | inl e ↦ subst (λ (k : ℕ). is_in k safe ≡ true) (sym e) known
      | inr e ↦ up q e
    ]

-- ---- begun where it first comes to this node

abbrev pub until : ℕ → List Act → List Act
until p [] = []
until p (a ∷ acts) = if stops p a then a ∷ [] else a ∷ until p acts

abbrev pub beyond : ℕ → List Act → List Act
beyond p [] = []
beyond p (a ∷ acts) = if stops p a then acts else beyond p acts

abbrev pub rotated : ℕ → List Act → List Act
rotated p acts = beyond p acts ++ until p acts

parts_chain : (net : Network) (p here end : ℕ) (acts : List Act) → has p acts ≡ true → IsChain net here end acts
    → IsChain net here p (until p acts) × IsChain net p end (beyond p acts)
parts_chain net p here end [] any chain = absurd (true≢false (sym any))
parts_chain net p here end (a ∷ acts) any chain = by_cases (stops p a)
    (IsChain net here p (until p (a ∷ acts)) × IsChain net p end (beyond p (a ∷ acts)))
    (λ stop.
    let parts = stops_parts p a stop in
    let there : next here a ≡ p = cond-false _ _ _ parts.0 ∙ parts.1 in (
      subst (IsChain net here p) (sym (cond-true _ _ _ stop)) (chain.0, there),
      subst (IsChain net p end) (sym (cond-true _ _ _ stop)) (subst (λ (k : ℕ). IsChain net k end acts) there chain.1),
    ))
    (λ none.
    let later : has p acts ≡ true = elim (or_split (stops p a) (has p acts) any) [
      | inl h ↦ absurd (true≢false (sym h ∙ none))
      | inr h ↦ h
    ] in
    let rest = parts_chain net p (next here a) end acts later chain.1 in (
      subst (IsChain net here p) (sym (cond-false _ _ _ none)) (chain.0, rest.0),
      subst (IsChain net p end) (sym (cond-false _ _ _ none)) rest.1,
    ))

pub rotated_chain : (net : Network) (p root : ℕ) (acts : List Act) → has p acts ≡ true → IsChain net root root acts
    → IsChain net p p (rotated p acts)
rotated_chain net p root acts any chain =
    let parts = parts_chain net p root root acts any chain in
    chain_append net p root p (beyond p acts) (until p acts) parts.1 parts.0

pub rotated_has : (p q : ℕ) (acts : List Act) → has q acts ≡ true → has q (rotated p acts) ≡ true
rotated_has p q acts any = has_append q (beyond p acts) (until p acts) (either acts any)
  where
    either : (list : List Act) → has q list ≡ true → (has q (beyond p list) ≡ true) ⊎ (has q (until p list) ≡ true)
    either [] h = absurd (true≢false (sym h))
    either (a ∷ list) h = by_cases (stops p a)
        ((has q (beyond p (a ∷ list)) ≡ true) ⊎ (has q (until p (a ∷ list)) ≡ true))
        (λ stop. elim (or_split (stops q a) (has q list) h) [
          | inl e ↦ inr (ap (has q) (cond-true _ _ _ stop) ∙ ap (λ (b : Bool). b || false) e)
          | inr e ↦ inl (ap (has q) (cond-true _ _ _ stop) ∙ e)
        ])
        (λ none. elim (or_split (stops q a) (has q list) h) [
          | inl e ↦ inr (ap (has q) (cond-false _ _ _ none) ∙ ap (λ (b : Bool). b || has q (until p list)) e)
          | inr e ↦ elim (either list e) [
            | inl x ↦ inl (ap (has q) (cond-false _ _ _ none) ∙ x)
            | inr x ↦ inr (ap (has q) (cond-false _ _ _ none)
                ∙ ap (λ (b : Bool). stops q a || b) x ∙ or_true (stops q a))
          ]
        ])

pub rotated_walks : (p : ℕ) (acts : List Act) → walks_in (rotated p acts) ≡ walks_in acts
rotated_walks p acts =
    let both : walks_in (rotated p acts) ≡ walks_in (beyond p acts) + walks_in (until p acts) =
    walks_append (beyond p acts) (until p acts) in
    let all : walks_in (until p acts) + walks_in (beyond p acts) ≡ walks_in acts = split acts in
    omega (arith, both, all)
  where
    split : (list : List Act) → walks_in (until p list) + walks_in (beyond p list) ≡ walks_in list
    split [] = refl
    split (a ∷ list) = by_cases (stops p a)
        (walks_in (until p (a ∷ list)) + walks_in (beyond p (a ∷ list)) ≡ walks_in (a ∷ list))
        (λ stop.
        let old : a.is_new ≡ false = (stops_parts p a stop).0 in
        let one : walks_in (until p (a ∷ list)) ≡ 1 = ap walks_in (cond-true _ _ _ stop) ∙ cond-false _ _ _ old in
        let two : walks_in (beyond p (a ∷ list)) ≡ walks_in list = ap walks_in (cond-true _ _ _ stop) in
        let all : walks_in (a ∷ list) ≡ suc (walks_in list) = cond-false _ _ _ old in
        omega (arith, one, two, all))
        (λ none.
        let one : walks_in (until p (a ∷ list)) ≡ walks_in (a ∷ until p list) = ap walks_in (cond-false _ _ _ none) in
        let two : walks_in (beyond p (a ∷ list)) ≡ walks_in (beyond p list) = ap walks_in (cond-false _ _ _ none) in
        let rest : walks_in (until p list) + walks_in (beyond p list) ≡ walks_in list = split list in
        by_cases a.is_new (walks_in (until p (a ∷ list)) + walks_in (beyond p (a ∷ list)) ≡ walks_in (a ∷ list))
        (λ new.
        let own : walks_in (a ∷ until p list) ≡ walks_in (until p list) = cond-true _ _ _ new in
        let all : walks_in (a ∷ list) ≡ walks_in list = cond-true _ _ _ new in
        omega (arith, one, two, rest, own, all))
        (λ old.
        let own : walks_in (a ∷ until p list) ≡ suc (walks_in (until p list)) = cond-false _ _ _ old in
        let all : walks_in (a ∷ list) ≡ suc (walks_in list) = cond-false _ _ _ old in
        omega (arith, one, two, rest, own, all)))
