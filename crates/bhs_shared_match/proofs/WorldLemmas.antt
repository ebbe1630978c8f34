-- When `==` says that two setups are the same.
use Rattle.std.proofs.Common.{◌≡◌, ℕ, Bool, true, ◌&&◌, List, refl, sym, ap, ◌∙◌, Decides}
use Rattle.std.specs.Prelude.{nat_eq}
use Rattle.std.specs.Cmp.Lexicographic.{pointwise}
use Rattle.std.proofs.lemmas.Bool.Decides.{Decides-eqb, Decides-and}
use Rattle.std.proofs.lemmas.Slice.Eq.{slice_eq-Decides}
use Rattle.bhs_net.specs.Network.{Network}
use Rattle.bhs_model.specs.declared.setups.Setup.{Setup}
use Rattle.bhs_model.specs.Ends.{is_same_end}
use Rattle.bhs_match.specs.Matches.{Play}
use Rattle.bhs_shared_match.specs.Settling.{IsOfWorld}

end_tells : (one other : ℕ × ℕ) → Decides (is_same_end one other) (one ≡ other)
end_tells one other =
    let both = Decides-and (nat_eq one.0 other.0) (nat_eq one.1 other.1) (Decides-eqb one.0 other.0)
    (Decides-eqb one.1 other.1) in (
      λ is. let parts = both.0 is in ap (λ (node : ℕ). let end : ℕ × ℕ = (node, one.1) in end) parts.0
          ∙ ap (λ (port : ℕ). let end : ℕ × ℕ = (other.0, port) in end) parts.1,
      λ same. both.1 (ap (λ (end : ℕ × ℕ). end.0) same, ap (λ (end : ℕ × ℕ). end.1) same),
    )

-- what `==` of two setups compares
abbrev pub same_setups : Setup → Setup → Bool
same_setups one two =
    nat_eq one.home two.home && (pointwise nat_eq one.holes two.holes && (pointwise is_same_end one.dark two.dark
    && (nat_eq one.agents two.agents && (nat_eq one.quota two.quota && nat_eq one.board two.board))))

setup_tells : (one two : Setup) → Decides (same_setups one two) (one ≡ two)
setup_tells one two =
    let home = Decides-eqb one.home two.home in
    let holes = slice_eq-Decides Decides-eqb one.holes two.holes (pointwise nat_eq one.holes two.holes) refl in
    let dark = slice_eq-Decides end_tells one.dark two.dark (pointwise is_same_end one.dark two.dark) refl in
    let last = Decides-and _ _ (Decides-eqb one.agents two.agents)
    (Decides-and _ _ (Decides-eqb one.quota two.quota) (Decides-eqb one.board two.board)) in
    let all = Decides-and _ _ home (Decides-and _ _ holes (Decides-and _ _ dark last)) in (
      λ is.
          let parts = all.0 is in
          ap (λ (n : ℕ). let s : Setup = record one { home = n } in s) parts.0
          ∙ ap (λ (ns : List ℕ). let s : Setup = record one { home = two.home; holes = ns } in s) parts.1.0
          ∙ ap (λ (es : List (ℕ × ℕ)). let s : Setup = record one { home = two.home; holes = two.holes; dark = es } in
          s) parts.1.1.0
          ∙ ap (λ (n : ℕ). let s : Setup = record two { agents = n; quota = one.quota; board = one.board } in
          s) parts.1.1.1.0
          ∙ ap (λ (n : ℕ). let s : Setup = record two { quota = n; board = one.board } in s) parts.1.1.1.1.0
          ∙ ap (λ (n : ℕ). let s : Setup = record two { board = n } in s) parts.1.1.1.1.1,
      λ same. all.1 (
        ap (λ (s : Setup). s.home) same,
        (
          ap (λ (s : Setup). s.holes) same,
          (
            ap (λ (s : Setup). s.dark) same,
            (ap (λ (s : Setup). s.agents) same, (ap (λ (s : Setup). s.quota) same, ap (λ (s : Setup). s.board) same)),
          ),
        ),
      ),
    )

-- whether a match has the given network and setup, by comparing the parts
pub world_tells : (play : Play) (net own : Network) (setup its : Setup) (b r : Bool) → own ≡ play.net → its ≡ play.setup
    → b ≡ true → Decides b (own ≡ net) → r ≡ same_setups its setup →
    Decides r (IsOfWorld net setup play)
world_tells play net own setup its b r is_own is_its same nets is =
    let setups = setup_tells its setup in (
      λ yes. record { same_net = sym is_own ∙ nets.0 same; same_setup = sym is_its ∙ setups.0 (sym is ∙ yes) },
      λ of. is ∙ setups.1 (is_its ∙ of.same_setup),
    )
