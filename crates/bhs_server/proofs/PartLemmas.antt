-- The passes of sessions, match by match.
use Rattle.std.proofs.Common.{ℕ, suc, ◌≡◌, ◌≢◌, ◌+◌, ◌≤◌, ◌∙◌, sym, ap, subst, refl, arith, inl, inr, append_assoc}
use Rattle.std.proofs.Common.{Bool, true, false, List, [], ◌∷◌, ◌++◌, Result, length, ◌==◌, if◌then◌else◌}
use Rattle.std.specs.Prelude.{slice_get, option_map}
use Rattle.std.proofs.lemmas.Bool.{cond-true, cond-false, eq-eqb}
use Rattle.std.proofs.lemmas.Bool.Decides.{eqb_tells}
use Rattle.std.proofs.lemmas.List.{append-nil, length_push}
use Rattle.rand_chacha.specs.ChaCha.{ChaCha}
use Rattle.bhs_shared_match.specs.SharedMatches.{Given}
use Rattle.bhs_shared_match.specs.Passes.{Passed}
use Rattle.bhs_shared_match.specs.declared.settlement.Settlement.{Settlement}
use Rattle.bhs_server.specs.declared.sessions.Session.{Session}
use Rattle.bhs_server.specs.declared.settlement.Refused.{Refused}
use Rattle.bhs_server.specs.Settling.{AreSettledBy, HasFared, HaveFared, IsSettledBy, at_start, others_than, passes_in}
use Rattle.bhs_server.proofs.SealLemmas.{HaveFared-snoc, fared_later}

-- ---- a session more

first_or_not : {A : Type 0} (b : Bool) (x : A) (longer shorter more : List A) → longer ≡ shorter ++ more →
    (if b then x ∷ longer else longer) ≡ (if b then x ∷ shorter else shorter) ++ more
first_or_not true x longer shorter more is = ap (λ (xs : List _). x ∷ xs) is
first_or_not false x longer shorter more is = is

not_or_first : {A : Type 0} (b : Bool) (x : A) (longer shorter more : List A) → longer ≡ shorter ++ more →
    (if b then longer else x ∷ longer) ≡ (if b then shorter else x ∷ shorter) ++ more
not_or_first true x longer shorter more is = is
not_or_first false x longer shorter more is = ap (λ (xs : List _). x ∷ xs) is

passes_append : (game : ℕ) (sessions more : List Session) →
    passes_in game (sessions ++ more) ≡ passes_in game sessions ++ passes_in game more
passes_append game [] more = refl
passes_append game (session ∷ sessions) more =
    first_or_not (session.played.game == game) session.played.pass _ _ _ (passes_append game sessions more)

others_append : (game : ℕ) (sessions more : List Session) →
    others_than game (sessions ++ more) ≡ others_than game sessions ++ others_than game more
others_append game [] more = refl
others_append game (session ∷ sessions) more =
    not_or_first (session.played.game == game) session _ _ _ (others_append game sessions more)

not_same : (a b : ℕ) → a ≢ b → (a == b) ≡ false
not_same a b differ = elim (eqb_tells a b) [ inl h ↦ absurd (differ h.1) | inr h ↦ h.0 ]

-- what is parted once these sessions are done
abbrev pub IsParted : (game : ℕ) (all rest : List Session) (own : List Passed) (others : List Session) → Type 0
IsParted game all rest own others = (done : List Session) × (all ≡ done ++ rest) × (own ≡ passes_in game done)
    × (others ≡ others_than game done)

pub own_more : (game : ℕ) (all rest rest' : List Session) (session : Session) (own own' : List Passed)
    (others : List Session) → rest ≡ session ∷ rest' → session.played.game ≡ game
    → own' ≡ own ++ session.played.pass ∷ [] → IsParted game all rest own others → IsParted game all rest' own' others
own_more game all rest rest' session own own' others next here more is =
    let its : (session.played.game == game) ≡ true = eq-eqb session.played.game game here in
    let done : List Session = is.0 in (
      done ++ session ∷ [],
      is.1 ∙ ap (λ (xs : List Session). done ++ xs) next ∙ sym (append_assoc done (session ∷ []) rest'),
      more ∙ ap (λ (xs : List Passed). xs ++ session.played.pass ∷ []) is.2
          ∙ ap (λ (xs : List Passed). passes_in game done ++ xs) (sym (cond-true _ _ _ its))
          ∙ sym (passes_append game done (session ∷ [])),
      is.3 ∙ sym (append-nil (others_than game done))
          ∙ ap (λ (xs : List Session). others_than game done ++ xs) (sym (cond-true _ _ _ its))
          ∙ sym (others_append game done (session ∷ [])),
    )

pub others_more : (game : ℕ) (all rest rest' : List Session) (session : Session) (own : List Passed)
    (others others' : List Session) → rest ≡ session ∷ rest' → session.played.game ≢ game
    → others' ≡ others ++ session ∷ [] → IsParted game all rest own others → IsParted game all rest' own others'
others_more game all rest rest' session own others others' next there more is =
    let none : (session.played.game == game) ≡ false = not_same session.played.game game there in
    let done : List Session = is.0 in (
      done ++ session ∷ [],
      is.1 ∙ ap (λ (xs : List Session). done ++ xs) next ∙ sym (append_assoc done (session ∷ []) rest'),
      is.2 ∙ sym (append-nil (passes_in game done))
          ∙ ap (λ (xs : List Passed). passes_in game done ++ xs) (sym (cond-false _ _ _ none))
          ∙ sym (passes_append game done (session ∷ [])),
      more ∙ ap (λ (xs : List Session). xs ++ session ∷ []) is.3
          ∙ ap (λ (xs : List Session). others_than game done ++ xs) (sym (cond-false _ _ _ none))
          ∙ sym (others_append game done (session ∷ [])),
    )

-- ---- the sessions of the matches that are left

apart : (a game other : ℕ) → game ≢ other → (a == other) ≡ true → (a == game) ≡ false
apart a game other differ is = elim (eqb_tells a game) [
  | inl h ↦ elim (eqb_tells a other) [
    | inl g ↦ absurd (differ (sym h.1 ∙ g.1))
    | inr g ↦ absurd (not_both (sym is ∙ g.0))
  ]
  | inr h ↦ h.0
]
  where
    not_both : true ≡ false → ⊥
    not_both h = cc

same_first : (b : Bool) (pass : Passed) (xs ys : List Passed) → xs ≡ ys →
    (if b then pass ∷ xs else xs) ≡ (if b then pass ∷ ys else ys)
same_first true pass xs ys is = ap (λ (xs : List Passed). pass ∷ xs) is
same_first false pass xs ys is = is

others_first : (game other : ℕ) (session : Session) (sessions : List Session) → game ≢ other →
    passes_in game (others_than other sessions) ≡ passes_in game sessions → (b : Bool) →
    (session.played.game == other) ≡ b →
    passes_in game (others_than other (session ∷ sessions)) ≡ passes_in game (session ∷ sessions)
others_first game other session sessions differ rest true is = ap (passes_in game) (cond-true _ _ _ is) ∙ rest
    ∙ sym (cond-false _ _ _ (apart session.played.game game other differ is))
others_first game other session sessions differ rest false is = ap (passes_in game) (cond-false _ _ _ is)
    ∙ same_first (session.played.game == game) session.played.pass _ _ rest

-- a match has the same passes among the sessions on others than another match
passes_of_others : (game other : ℕ) (sessions : List Session) → game ≢ other →
    passes_in game (others_than other sessions) ≡ passes_in game sessions
passes_of_others game other [] differ = refl
passes_of_others game other (session ∷ sessions) differ =
    others_first game other session sessions differ (passes_of_others game other sessions differ)
    (session.played.game == other) refl

-- ---- a match more

settled_more : (game : ℕ) (shared_matches : List Given) (sessions : List Session)
    (settled : List (Result Settlement Refused))
    (given : Given) (one : Result Settlement Refused) → AreSettledBy game shared_matches sessions settled →
    IsSettledBy given (passes_in (game + length settled) sessions) one →
    AreSettledBy game (shared_matches ++ given ∷ []) sessions (settled ++ one ∷ [])
settled_more game [] sessions [] given one all is =
    let same : game + 0 ≡ game = omega arith in
    (subst (λ (n : ℕ). IsSettledBy given (passes_in n sessions) one) same is, tt)
settled_more game (first ∷ shared_matches) sessions (before ∷ settled) given one all is =
    let same : game + length (before ∷ settled) ≡ suc game + length settled = omega arith in (
      all.0,
      settled_more (suc game) shared_matches sessions settled given one all.1
          (subst (λ (n : ℕ). IsSettledBy given (passes_in n sessions) one) same is),
    )
settled_more game [] sessions (before ∷ settled) given one all is = absurd all
settled_more game (first ∷ shared_matches) sessions [] given one all is = absurd all

-- what is left of sessions whose matches have these results: those of later matches have all their passes
abbrev pub AreLeft : (all left : List Session) → List (Result Settlement Refused) → Type 0
AreLeft all left settled = (game : ℕ) → length settled ≤ game → passes_in game left ≡ passes_in game all

left_behind : (all left others : List Session) (number : ℕ) (settled : List (Result Settlement Refused))
    (one : Result Settlement Refused) → number ≡ length settled → others ≡ others_than number left →
    AreLeft all left settled → AreLeft all others (settled ++ one ∷ [])
left_behind all left others number settled one place is same game behind =
    let longer : length (settled ++ one ∷ []) ≡ length settled + 1 = length_push settled one in
    let differ : game ≢ number = λ e. absurd (omega (arith, e, place, longer, behind)) in
    ap (passes_in game) is ∙ passes_of_others game number left differ ∙ same game (omega (arith, longer, behind))

-- The results of the matches settled so far, each with the dealer of its number and with the passes of its sessions.
abbrev pub AreDone : (shared_matches rest : List Given) → List ChaCha → (all left : List Session)
    → List (Result Settlement Refused) → Type 0
AreDone shared_matches rest dealers all left settled = (done : List Given) × (shared_matches ≡ done ++ rest)
    × HaveFared done dealers settled × AreSettledBy 0 done all settled × AreLeft all left settled

-- Settling the next of the remaining shared matches preserves the invariant.
pub next_settled : (shared_matches rest others : List Given) (dealers : List ChaCha) (given : Given)
    (settled : List (Result Settlement Refused)) (one : Result Settlement Refused) (all left behind : List Session)
    (own : List Passed) (number : ℕ) → rest ≡ given ∷ others → AreDone shared_matches rest dealers all left settled →
    HasFared given (option_map at_start (slice_get dealers (length settled))) one → number ≡ length settled →
    own ≡ passes_in number left → behind ≡ others_than number left → IsSettledBy given own one →
    AreDone shared_matches others dealers all behind (settled ++ one ∷ [])
next_settled shared_matches rest others dealers given settled one all left behind own number next before is place parts
    rests
    by =
    let done : List Given = before.0 in
    let none : length settled ≡ 0 + length settled = omega arith in
    let at : own ≡ passes_in (0 + length settled) all = parts
    ∙ ap (λ (n : ℕ). passes_in n left) place ∙ before.4 (length settled) (omega arith)
    ∙ ap (λ (n : ℕ). passes_in n all) none in (
      done ++ given ∷ [],
      before.1 ∙ ap (λ (xs : List Given). done ++ xs) next ∙ sym (append_assoc done (given ∷ []) others),
      HaveFared-snoc done dealers settled given one before.2
          (fared_later given (slice_get dealers (length settled)) one is),
      settled_more 0 done all settled given one before.3
          (subst (λ (passes : List Passed). IsSettledBy given passes one) at by),
      left_behind all left behind number settled one place rests before.4,
    )
