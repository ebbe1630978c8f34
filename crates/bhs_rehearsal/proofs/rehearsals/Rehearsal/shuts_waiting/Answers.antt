use Rattle.std.proofs.Common.{◌≡◌, List, length, sym, ap, ◌∙◌, subst}
use Rattle.std.specs.Vec.{with_items}
use Rattle.bhs_rehearsal.specs.Games.{Game}
use Rattle.bhs_rehearsal.specs.Connections.{Connection}
use Rattle.bhs_rehearsal.specs.Stages.{game_at, shut_in}
use Rattle.bhs_rehearsal.specs.Rehearsing.{Rehearsing, game_of, on_stage}
use Rattle.bhs_rehearsal.specs.Holders.{AreHeld}
use Rattle.bhs_rehearsal.proofs.HolderLemmas.{held-shut}
use Rattle.bhs_rehearsal.proofs.StageLemmas.{rehearsing, game_within, game_read, all_shut, still_seated}
use Rattle.bhs_rehearsal.proofs.rehearsals.Rehearsal.shuts_waiting.Goals as goal

pub invariant_of-self : goal.invariant_of-self
invariant_of-self c =
    let inside = c.self.inside in
    let game = c.args.game in
    let ready = c.index-ready.result.now in
    let new = c.shut_waiting.new.connections in
    let shut : new ≡ shut_in game (game_of ready) inside.connections.items = c.shut_waiting.ensures
    ∙ ap (λ (all : List Connection). shut_in game (game_of ready) all) c.deref_mut.ensures.value in
    let len : length inside.connections.items ≡ inside.connections.len =
    ap (λ (all : List Connection). length all) (sym c.deref_mut.ensures.value) ∙ c.deref_mut.ensures.len in
    let all = all_shut inside.connections new game (game_of ready) shut len in
    let seated = still_seated (length inside.ready.items) game (game_of ready) inside.connections.items
    (with_items inside.connections new).items all (c.self.invariant.0, c.self.invariant.1) in (
      seated.0,
      seated.1,
      c.self.invariant.2,
      subst (λ (connections : List Connection). AreHeld inside.holders connections) (sym all)
          (held-shut inside.holders game (game_of ready) inside.connections.items c.self.invariant.3),
    )

pub returns : goal.returns
returns c =
    let inside = c.self.inside in
    let game = c.args.game in
    let ready = c.index-ready.result.now in
    let new = c.shut_waiting.new.connections in
    let shut : new ≡ shut_in game (game_of ready) inside.connections.items = c.shut_waiting.ensures
    ∙ ap (λ (all : List Connection). shut_in game (game_of ready) all) c.deref_mut.ensures.value in
    let len : length inside.connections.items ≡ inside.connections.len =
    ap (λ (all : List Connection). length all) (sym c.deref_mut.ensures.value) ∙ c.deref_mut.ensures.len in
    let read = game_read inside.ready.items inside.keys inside.connections.items game ready
    (game_within inside.ready.items inside.keys inside.connections.items inside.has_failed c.args.self.now game
    c.self.view_is c.requires) c.index-ready.ensures in
    subst (λ (old : Rehearsing). rehearsing inside.ready.items inside.keys (with_items inside.connections new).items
    inside.has_failed
    ≡ on_stage old (record old.stage { connections = shut_in game (game_at old.stage game) old.stage.connections }))
    c.self.view_is
    (ap (λ (all : List Connection). rehearsing inside.ready.items inside.keys all inside.has_failed)
    (all_shut inside.connections new game (game_of ready) shut len
    ∙ ap (λ (one : Game). shut_in game one inside.connections.items) (sym read)))
