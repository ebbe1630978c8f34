use Rattle.std.proofs.Common.{◌≡◌, None, length, refl, sym, ap, ◌∙◌, subst, rules}
use Rattle.std.proofs.lemmas.List.{length-map}
use Rattle.bhs_rehearsal.specs.Stages.{Sits, connection_at, entry}
use Rattle.bhs_rehearsal.specs.Rehearsing.{Rehearsing, game_of, stage_of}
use Rattle.bhs_rehearsal.specs.Takings.{seen_entry}
use Rattle.bhs_rehearsal.proofs.EntryLemmas.{sits_free, sits_within}
use Rattle.bhs_rehearsal.proofs.rehearsals.Rehearsal.enters.Goals as goal

pub sits-requires-clause-game : goal.sits-requires-clause-game
sits-requires-clause-game c =
    let inside = c.self.inside in
    let stage = stage_of inside.ready.items inside.keys inside.connections.items in
    let count : length inside.ready.items ≡ c.len.result = search rules in
    let found : entry stage (connection_at stage c.from.result).queue ≡ Sits c.in-Sits.seat =
    sym (c.in_ok-entry.ensures stage (length-map inside.ready.items game_of ∙ count) refl
    (sym c.deref.ensures.value)) ∙ ap seen_entry c.in-Sits.is in
    sits_within stage (connection_at stage c.from.result).queue c.in-Sits.seat found

pub sits-requires-clause-free : goal.sits-requires-clause-free
sits-requires-clause-free c =
    let inside = c.self.inside in
    let stage = stage_of inside.ready.items inside.keys inside.connections.items in
    let count : length inside.ready.items ≡ c.len.result = search rules in
    let found : entry stage (connection_at stage c.from.result).queue ≡ Sits c.in-Sits.seat =
    sym (c.in_ok-entry.ensures stage (length-map inside.ready.items game_of ∙ count) refl
    (sym c.deref.ensures.value)) ∙ ap seen_entry c.in-Sits.is in
    sits_free stage (connection_at stage c.from.result).queue c.in-Sits.seat found

pub sits-requires-clause-outside : goal.sits-requires-clause-outside
sits-requires-clause-outside c =
    subst (λ (one : Rehearsing). (connection_at one.stage c.args.conn).seat ≡ None) (sym c.self.view_is)
    c.requires.outside
