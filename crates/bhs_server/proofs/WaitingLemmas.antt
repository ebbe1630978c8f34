-- Loop invariant: ageing the waiting clients in order, and cutting off one client.
use Rattle.std.proofs.Common.{arith, ℕ, zero, suc, ◌≡◌, ◌<◌, Some, List, [], ◌∷◌, length}
use Rattle.std.proofs.Common.{take, drop, get_or, map, refl, ap, ap₂, slice_set}
use Rattle.bhs_server.specs.declared.queue.Known.{Known}
use Rattle.bhs_server.specs.declared.queue.Stand.TheVariants.{IsCut}
use Rattle.bhs_server.specs.Waiting.{older, cut_at}

-- the first of these clients have grown older
pub record HaveGrown (old now : List Known) (place : ℕ) : Type 0 where
  pub done : take place now ≡ map older (take place old)
  pub left : drop place now ≡ drop place old

-- one more
pub one_grown : (old now : List Known) (place : ℕ) (d : Known) → place < length now → length now ≡ length old →
    HaveGrown old now place → HaveGrown old (slice_set now place (older (get_or now place d))) (suc place)
one_grown [] [] place d within same grown = absurd (omega (arith, within))
one_grown (first ∷ old) [] place d within same grown = absurd (omega (arith, within))
one_grown [] (one ∷ now) place d within same grown = absurd (omega (arith, same))
one_grown (first ∷ old) (one ∷ now) zero d within same grown =
    let head : one ≡ first = heads grown.left in
    let rest : now ≡ old = tails grown.left in
    record { done = ap (λ (some : Known). older some ∷ []) head; left = rest }
  where
    heads : one ∷ now ≡ first ∷ old → one ≡ first
    heads e = cc

    tails : one ∷ now ≡ first ∷ old → now ≡ old
    tails e = cc
one_grown (first ∷ old) (one ∷ now) (suc place) d within same grown =
    let before = one_grown old now place d (omega (arith, within)) (omega (arith, same))
    (record { done = tails grown.done; left = grown.left }) in
    record {
      done = ap₂ (λ (some : Known) (others : List Known). some ∷ others) (heads grown.done) before.done;
      left = before.left;
    }
  where
    heads : one ∷ take place now ≡ older first ∷ map older (take place old) → one ≡ older first
    heads e = cc

    tails : one ∷ take place now ≡ older first ∷ map older (take place old) →
        take place now ≡ map older (take place old)
    tails e = cc

-- cutting off the client at a place
pub cut_there : (clients : List Known) (place : ℕ) (d : Known) → place < length clients →
    slice_set clients place (record (get_or clients place d) { stand = IsCut }) ≡ cut_at clients (Some place)
cut_there [] place d within = absurd (omega (arith, within))
cut_there (client ∷ clients) zero d within = refl
cut_there (client ∷ clients) (suc place) d within =
    ap (λ (others : List Known). client ∷ others) (cut_there clients place d (omega (arith, within)))
