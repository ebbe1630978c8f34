-- The links into the black hole can be held.
use Rattle.std.proofs.Common.{◌≡◌, ◌∙◌, ℕ, zero, suc, ◌<◌, Bool, true, ◌&&◌, ◌||◌, cond, ◌==◌, List, []}
use Rattle.std.proofs.Common.{◌∷◌, ◌++◌, length, inl, inr, refl, sym, ap, ap₂, arith}
use Rattle.std.proofs.lemmas.Bool.{eqb-true, eq-eqb, and_parts, or_cases, or_left, or_right, cases_lt, cond_both}
use Rattle.std.proofs.lemmas.List.{get_or_past}
use Rattle.std.proofs.lemmas.List.Folds.{list_any-append}
use Rattle.bhs_net.specs.Network.{degree_of}
use Rattle.bhs_model.specs.Worlds.{World, doomed}
use Rattle.bhs_deliveries.specs.Links.{names, held_in}
use Rattle.bhs_rehearsal.specs.Games.{Game, world_in}
use Rattle.bhs_theorems_isolation.specs.ScriptLaws.{LinksCanBeHeld}
use Rattle.bhs_theorems_isolation.proofs.CuttingLemmas.{by_same}
use Rattle.bhs_model.proofs.SameDoomLemmas.{iff_same}
use Rattle.bhs_model.proofs.LegalLemmas.{either}

-- the ports of a node below a number, and the nodes below a number, whose links destroy
abbrev doomed_ports : World → (node count : ℕ) → List (ℕ × ℕ)
doomed_ports world node zero = []
doomed_ports world node (suc port) = cond (doomed world node port) ((node, port) ∷ doomed_ports world node port)
    (doomed_ports world node port)

abbrev doomed_links : World → (count : ℕ) → List (ℕ × ℕ)
doomed_links world zero = []
doomed_links world (suc node) = doomed_ports world node (world.net.degree node) ++ doomed_links world node

module _ (world : World) (at_node at_port : ℕ) where
  -- what is held so destroys
  ports_doomed : (node count : ℕ) → held_in (doomed_ports world node count) at_node at_port ≡ true
      → doomed world at_node at_port ≡ true
  ports_doomed node zero held = absurd (cc)
  ports_doomed node (suc port) held =
      cond_both (doomed world node port) _ _
      (λ (links : List (ℕ × ℕ)). held_in links at_node at_port ≡ true → doomed world at_node at_port ≡ true)
      (λ is some. elim (or_cases (names at_node at_port (node, port))
      (held_in (doomed_ports world node port) at_node at_port) some) [
        | inl here ↦ let parts = and_parts (node == at_node) (port == at_port) here in
            sym (ap₂ (λ (a b : ℕ). doomed world a b) (eqb-true node at_node parts.0) (eqb-true port at_port parts.1))
            ∙ is
        | inr later ↦ ports_doomed node port later
      ])
      (λ is some. ports_doomed node port some) held

  links_doomed : (count : ℕ) → held_in (doomed_links world count) at_node at_port ≡ true
      → doomed world at_node at_port ≡ true
  links_doomed zero held = absurd (cc)
  links_doomed (suc node) held =
      let ports = doomed_ports world node (world.net.degree node) in
      let split : (held_in ports at_node at_port || held_in (doomed_links world node) at_node at_port) ≡ true =
      sym (list_any-append (names at_node at_port) ports (doomed_links world node)) ∙ held in
      elim (or_cases (held_in ports at_node at_port) (held_in (doomed_links world node) at_node at_port) split) [
        | inl here ↦ ports_doomed node (world.net.degree node) here
        | inr later ↦ links_doomed node later
      ]

  -- and what destroys is held
  ports_held : (count : ℕ) → at_port < count → doomed world at_node at_port ≡ true
      → held_in (doomed_ports world at_node count) at_node at_port ≡ true
  ports_held zero below is = absurd (omega arith)
  ports_held (suc port) below is =
      let rest = doomed_ports world at_node port in
      by_same port at_port
      (λ same.
      let named : names at_node at_port (at_node, port) ≡ true =
      ap₂ (λ (a b : Bool). a && b) (eq-eqb at_node at_node refl) (eq-eqb port at_port same) in
      ap (λ (d : Bool). held_in (cond d ((at_node, port) ∷ rest) rest) at_node at_port)
      (ap (doomed world at_node) same ∙ is)
      ∙ or_left (names at_node at_port (at_node, port)) (held_in rest at_node at_port) named)
      (λ apart.
      let later : held_in rest at_node at_port ≡ true = ports_held port (omega (arith, apart)) is in
      either (λ (links : List (ℕ × ℕ)). held_in links at_node at_port ≡ true) (doomed world at_node port) _ rest
      (or_right (names at_node at_port (at_node, port)) (held_in rest at_node at_port) later) later)

  links_held : (count : ℕ) → at_node < count → at_port < world.net.degree at_node → doomed world at_node at_port ≡ true
      → held_in (doomed_links world count) at_node at_port ≡ true
  links_held zero below on is = absurd (omega arith)
  links_held (suc node) below on is =
      let ports = doomed_ports world node (world.net.degree node) in
      list_any-append (names at_node at_port) ports (doomed_links world node)
      ∙ by_same node at_node
      (λ same.
      let here : held_in ports at_node at_port ≡ true =
      ap (λ (one : ℕ). held_in (doomed_ports world one (world.net.degree one)) at_node at_port)
      same ∙ ports_held (world.net.degree at_node) on is in
      or_left (held_in ports at_node at_port) (held_in (doomed_links world node) at_node at_port) here)
      (λ apart.
      or_right (held_in ports at_node at_port) (held_in (doomed_links world node) at_node at_port)
      (links_held node (omega (arith, apart)) on is))

-- Only nodes have ports.
node_within : (game : Game) (node port : ℕ) → port < degree_of game.net node → node < length game.net
node_within game node port on = elim (cases_lt node (length game.net)) [
  | inl below ↦ below
  | inr past ↦ let none : degree_of game.net node ≡ 0 = ap length (get_or_past game.net node [] past) in
      absurd (omega (arith, none, on))
]

pub held_lemma : LinksCanBeHeld
held_lemma game =
    let world = world_in game in
    let more = doomed_links world (length game.net) in (
      game.held ++ more,
      λ node port on.
          list_any-append (names node port) game.held more
          ∙ ap (λ (is : Bool). held_in game.held node port || is)
          (iff_same (held_in more node port) (doomed world node port) (links_doomed world node port (length game.net))
          (links_held world node port (length game.net) (node_within game node port on) on)),
    )
