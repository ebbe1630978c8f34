-- A list of actions that leads around is an itinerary.
use Rattle.std.proofs.Common.{ℕ, zero, suc, ◌+◌, ◌-◌, ◌*◌, ◌<◌, ◌≤◌, ◌≡◌, false, List, []}
use Rattle.std.proofs.Common.{◌∷◌, length, refl, sym, ap, ◌∙◌, subst, if◌then◌else◌, nat_lt, inl, inr, arith}
use Rattle.std.proofs.lemmas.Bool.{cond-true, cond-false, lt-ltb, le-ltb}
use Rattle.std.proofs.lemmas.Bool.Decides.{eqb_tells}
use Rattle.bhs_model.proofs.StepLemmas.{by_cases}
use Rattle.bhs_net.specs.Network as networks
use Rattle.bhs_model.specs.Setups.{network_of}
use Rattle.bhs_protocols_divided.specs.Plans.{Itinerary, IsItinerary, one_of, news}
use Rattle.bhs_protocols_divided.proofs.Tours.{Act, IsAct, IsChain, next}
use Rattle.bhs_protocols_divided.proofs.Grown.{walks_in}

abbrev pub act_at : List Act → (step : ℕ) → Act
act_at [] step = record { node = 0; ahead = 0; target = 0; behind = 0; is_new = false }
act_at (a ∷ acts) zero = a
act_at (a ∷ acts) (suc step) = act_at acts step

abbrev pub itinerary_of : (root : ℕ) → List Act → Itinerary
itinerary_of root acts = record {
  steps = length acts;
  node = λ step. if nat_lt step (length acts) then (act_at acts step).node else root;
  ahead = λ step. (act_at acts step).ahead;
  target = λ step. (act_at acts step).target;
  behind = λ step. (act_at acts step).behind;
  is_new = λ step. (act_at acts step).is_new;
}

-- ---- how many new nodes it has

module _ (root : ℕ) where
  pub news_shift : (a : Act) (acts : List Act) (k : ℕ)
      → news (itinerary_of root (a ∷ acts)) (suc k) ≡ one_of a.is_new + news (itinerary_of root acts) k
  news_shift a acts zero = omega arith
  news_shift a acts (suc k) =
      let rest : news (itinerary_of root (a ∷ acts)) (suc k) ≡ one_of a.is_new + news (itinerary_of root acts) k =
      news_shift a acts k in
      omega (arith, rest)

  pub news_and_walks : (acts : List Act)
      → length acts ≡ news (itinerary_of root acts) (length acts) + walks_in acts
  news_and_walks [] = refl
  news_and_walks (a ∷ acts) =
      let rest : length acts ≡ news (itinerary_of root acts) (length acts) + walks_in acts = news_and_walks acts in
      let shift : news (itinerary_of root (a ∷ acts)) (suc (length acts))
      ≡ one_of a.is_new + news (itinerary_of root acts) (length acts) = news_shift a acts (length acts) in
      let index : length (a ∷ acts) ≡ suc (length acts) = omega arith in
      let long : news (itinerary_of root (a ∷ acts)) (length (a ∷ acts))
      ≡ news (itinerary_of root (a ∷ acts)) (suc (length acts)) =
      ap (news (itinerary_of root (a ∷ acts))) index in
      by_cases a.is_new (length (a ∷ acts)
      ≡ news (itinerary_of root (a ∷ acts)) (length (a ∷ acts)) + walks_in (a ∷ acts))
      (λ new.
      let one : one_of a.is_new ≡ 1 = ap one_of new in
      let walks : walks_in (a ∷ acts) ≡ walks_in acts = cond-true _ _ _ new in
      omega (arith, rest, shift, long, one, walks))
      (λ old.
      let one : one_of a.is_new ≡ 0 = ap one_of old in
      let walks : walks_in (a ∷ acts) ≡ suc (walks_in acts) = cond-false _ _ _ old in
      omega (arith, rest, shift, long, one, walks))

-- ---- it leads around

module _ (net : networks.Network) where
  -- what holds of an action, and where the next one begins
  pub record Links (acts : List Act) (end step : ℕ) : Type 0 where
    pub act : IsAct net (act_at acts step).node (act_at acts step)
    pub next_is : step + 1 < length acts
        → (act_at acts (step + 1)).node ≡ next (act_at acts step).node (act_at acts step)
    pub end_is : step + 1 ≡ length acts → end ≡ next (act_at acts step).node (act_at acts step)

  pub links_at : (here end : ℕ) (acts : List Act) (step : ℕ) → IsChain net here end acts → step < length acts
      → Links acts end step
  links_at here end [] step chain below = absurd (omega (arith, below))
  links_at here end (a ∷ []) zero chain below = record {
    act = subst (λ (k : ℕ). IsAct net k a) (sym chain.0.from) chain.0;
    next_is = λ h. absurd (omega (arith, h));
    end_is = λ h. sym (ap (λ (k : ℕ). next k a) chain.0.from ∙ chain.1);
  }
  links_at here end (a ∷ b ∷ acts) zero chain below = record {
    act = subst (λ (k : ℕ). IsAct net k a) (sym chain.0.from) chain.0;
    next_is = λ h. chain.1.0.from ∙ sym (ap (λ (k : ℕ). next k a) chain.0.from);
    end_is = λ h. absurd (omega (arith, h));
  }
  links_at here end (a ∷ acts) (suc step) chain below =
      let rest : Links acts end step = links_at (next here a) end acts step chain.1 (omega (arith, below)) in
      let index : suc step + 1 ≡ suc (step + 1) = omega arith in
      let same : act_at (a ∷ acts) (suc step + 1) ≡ act_at acts (step + 1) = ap (act_at (a ∷ acts)) index in
      record {
        act = rest.act;
        next_is = λ h. ap (λ (it : Act). it.node) same ∙ rest.next_is (omega (arith, h));
        end_is = λ h. rest.end_is (omega (arith, h));
      }

  module _ (n root : ℕ) (acts : List Act) (chain : IsChain net root root acts) (few : walks_in acts ≤ 2 * (n - 2)) where
    abbrev it : Itinerary
    it = itinerary_of root acts

    pub node_at : (step : ℕ) → step < length acts → it.node step ≡ (act_at acts step).node
    node_at step below = cond-true _ _ _ (lt-ltb step (length acts) below)

    pub node_end : (step : ℕ) → step ≡ length acts → it.node step ≡ root
    node_end step same = cond-false _ _ _ (le-ltb step (length acts) (omega (arith, same)))

    node_next : (step : ℕ) → step < length acts
        → it.node (step + 1) ≡ next (act_at acts step).node (act_at acts step)
    node_next step below =
        let links : Links acts root step = links_at root root acts step chain below in
        elim (eqb_tells (step + 1) (length acts)) [
          | inl h ↦ node_end (step + 1) h.1 ∙ links.end_is h.1
          | inr h ↦ let less : step + 1 < length acts = omega (arith, below, h.1) in
              node_at (step + 1) less ∙ links.next_is less
        ]

    pub root_first : it.node 0 ≡ root
    root_first = from_root acts chain
      where
        from_root : (list : List Act) → IsChain net root root list → (itinerary_of root list).node 0 ≡ root
        from_root [] led = refl
        from_root (a ∷ list) led = cond-true _ _ _ (lt-ltb 0 (length (a ∷ list)) (omega arith)) ∙ led.0.from

    pub is_itinerary : IsItinerary (network_of net) n it
    is_itinerary = record {
      ahead = λ step below. subst (λ (k : ℕ). (act_at acts step).ahead < networks.degree_of net k)
          (sym (node_at step below)) (links_at root root acts step chain below).act.ahead;
      behind = λ step below. (links_at root root acts step chain below).act.behind;
      out = λ step below. ap (λ (k : ℕ). networks.far_of net k (act_at acts step).ahead) (node_at step below)
          ∙ (links_at root root acts step chain below).act.out;
      back = λ step below. (links_at root root acts step chain below).act.back
          ∙ (λ i. (sym (node_at step below) i, (act_at acts step).ahead));
      stays = λ step below new. node_next step below ∙ cond-true _ _ _ new ∙ sym (node_at step below);
      goes = λ step below old. node_next step below ∙ cond-false _ _ _ old;
      round = node_end (length acts) refl ∙ sym root_first;
      few = let all : length acts ≡ news it (length acts) + walks_in acts = news_and_walks root acts in
          omega (arith, all, few);
    }
