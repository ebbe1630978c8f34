-- The short match on the triangle has ended.
use Rattle.std.proofs.Common.{◌≡◌, ◌≢◌, ℕ, zero, suc, ◌<◌, ◌^◌, ◌⊎◌, inl, inr, ◌==◌, true, [], refl, arith, lit<}
use Rattle.std.proofs.Common.{codes}
use Rattle.std.proofs.lemmas.Bool.{eqb-true, or_cases}
use Rattle.std.proofs.lemmas.Str.{IsUtf8-nil}
use Rattle.json.proofs.Printed.Utf8.{IsUtf8-are_ascii}
use Rattle.bhs_net.specs.Network.{degree_of, far_of, HasPort, Leads, IsPortLabelled, IsNetwork}
use Rattle.bhs_model.specs.declared.commands.Command.TheVariants.{Enter, Write}
use Rattle.bhs_model.specs.declared.events.Event.TheVariants.{Tell}
use Rattle.bhs_model.specs.Worlds.{is_hole}
use Rattle.bhs_world.specs.Faults.{IsWithinLimits}
use Rattle.bhs_replay.specs.Example.{triangle, short_setup, short_match}
use Rattle.bhs_replay.specs.Played.{IsTyped, HasEnded}
use Rattle.bhs_replay.proofs.HeadReads.{AllOf}
use Rattle.bhs_replay.proofs.ListLemmas.{all_at}

-- ---- the triangle is a network

one_of_two : (P : ℕ → Type 0) → P 0 → P 1 → (port : ℕ) → port < 2 → P port
one_of_two P first second zero within = first
one_of_two P first second (suc zero) within = second
one_of_two P first second (suc (suc more)) within = absurd (omega arith)

each_port : (P : ℕ → ℕ → Type 0) → P 0 0 → P 0 1 → P 1 0 → P 1 1 → P 2 0 → P 2 1 → (node port : ℕ)
    → port < degree_of triangle node → P node port
each_port P a b c d e f zero port has = one_of_two (P 0) a b port has
each_port P a b c d e f (suc zero) port has = one_of_two (P 1) c d port has
each_port P a b c d e f (suc (suc zero)) port has = one_of_two (P 2) e f port has
each_port P a b c d e f (suc (suc (suc more))) port has = absurd (omega arith)

abbrev IsSimpleAt : ℕ → ℕ → Type 0
IsSimpleAt node port = (other : ℕ) → other < degree_of triangle node
    → (far_of triangle node port).0 ≡ (far_of triangle node other).0 → port ≡ other

labelled : IsPortLabelled triangle
labelled = record {
  few = omega arith;
  many = omega arith;
  within = each_port (λ node port. HasPort triangle (far_of triangle node port)) (lit< tt) (lit< tt) (lit< tt) (lit< tt)
      (lit< tt) (lit< tt);
  back = each_port (λ node port. far_of triangle (far_of triangle node port).0 (far_of triangle node port).1
      ≡ (node, port)) refl refl refl refl refl refl;
  no_loop = each_port (λ node port. (far_of triangle node port).0 ≢ node) (λ e. omega arith) (λ e. omega arith)
      (λ e. omega arith) (λ e. omega arith) (λ e. omega arith) (λ e. omega arith);
  simple = λ node port other has others same. each_port IsSimpleAt
      (one_of_two (λ other. (far_of triangle 0 0).0 ≡ (far_of triangle 0 other).0 → 0 ≡ other) (λ e. refl)
      (λ e. absurd (omega arith)))
      (one_of_two (λ other. (far_of triangle 0 1).0 ≡ (far_of triangle 0 other).0 → 1 ≡ other)
      (λ e. absurd (omega arith)) (λ e. refl))
      (one_of_two (λ other. (far_of triangle 1 0).0 ≡ (far_of triangle 1 other).0 → 0 ≡ other) (λ e. refl)
      (λ e. absurd (omega arith)))
      (one_of_two (λ other. (far_of triangle 1 1).0 ≡ (far_of triangle 1 other).0 → 1 ≡ other)
      (λ e. absurd (omega arith)) (λ e. refl))
      (one_of_two (λ other. (far_of triangle 2 0).0 ≡ (far_of triangle 2 other).0 → 0 ≡ other) (λ e. refl)
      (λ e. absurd (omega arith)))
      (one_of_two (λ other. (far_of triangle 2 1).0 ≡ (far_of triangle 2 other).0 → 1 ≡ other)
      (λ e. absurd (omega arith)) (λ e. refl)) node port has other others same;
}

-- a link joins each two nodes
same_or_next : (node other : ℕ) → node < 3 → other < 3 → (node ≡ other) ⊎ Leads triangle node other
same_or_next zero zero n o = inl refl
same_or_next zero (suc zero) n o = inr (0, lit< tt, refl)
same_or_next zero (suc (suc zero)) n o = inr (1, lit< tt, refl)
same_or_next (suc zero) zero n o = inr (0, lit< tt, refl)
same_or_next (suc zero) (suc zero) n o = inl refl
same_or_next (suc zero) (suc (suc zero)) n o = inr (1, lit< tt, refl)
same_or_next (suc (suc zero)) zero n o = inr (1, lit< tt, refl)
same_or_next (suc (suc zero)) (suc zero) n o = inr (0, lit< tt, refl)
same_or_next (suc (suc zero)) (suc (suc zero)) n o = inl refl
same_or_next node (suc (suc (suc more))) n o = absurd (omega arith)
same_or_next (suc (suc (suc more))) other n o = absurd (omega arith)

is_network : IsNetwork triangle
is_network = record {
  labelled = labelled;
  connected = λ node other n o. elim (same_or_next node other n o) [
    | inl same ↦ (0, same)
    | inr next ↦ (1, (node, refl, next))
  ];
  biconnected = λ cut is node other n o apart others_apart. elim (same_or_next node other n o) [
    | inl same ↦ (0, same)
    | inr next ↦ (1, (node, refl, (next, apart, others_apart)))
  ];
}

-- ---- the match on it

the_hole : (node : ℕ) → is_hole short_setup.holes node ≡ true → 2 ≡ node
the_hole node is = elim (or_cases (2 == node) _ is) [
  | inl same ↦ eqb-true 2 node same
  | inr none ↦ absurd (cc)
]

is_within : IsWithinLimits triangle short_setup
is_within = record {
  home = lit< tt;
  holes = λ node is. let hole = the_hole node is in (omega arith, λ home. omega arith);
  some_agents = omega arith;
  agents = omega arith;
  some_quota = omega arith;
  quota = omega arith;
  board = omega arith;
  dark = λ node port is. absurd (cc);
}

are_typed : AllOf IsTyped short_match
are_typed =
    let number : 0 < 2 ^ 16 = lit< tt in
    let plain : IsTyped (Tell 0 Enter) = ((number, tt), tt) in
    let write : IsTyped (Tell 0 (Write [] (codes "safe"))) =
    ((number, tt), (IsUtf8-nil, IsUtf8-are_ascii (codes "safe") refl)) in
    (plain, (write, (((number, number), tt), ((number, tt), (plain, ((tt, tt), tt))))))

pub short_ended : HasEnded triangle short_setup short_match
short_ended = record {
  network = is_network;
  within = is_within;
  in_order = record { same = refl };
  typed = λ place other within. all_at IsTyped short_match place other within are_typed;
  all_kept = refl;
  closed = refl;
}
