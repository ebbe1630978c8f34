use Rattle.std.proofs.Common.{rules, ◌≡◌, ◌<◌, ◌≤◌, Some, List, length, ap, sym, ◌∙◌, slice_set}
use Rattle.bhs_server.specs.declared.queue.Known.{Known}
use Rattle.bhs_server.specs.declared.queue.Stand.TheVariants.{IsCut}
use Rattle.bhs_server.specs.Waiting.{cut_at}
use Rattle.bhs_server.specs.Crowds.{first_cut}
use Rattle.bhs_server.proofs.CrowdLemmas.{cut_behind}
use Rattle.bhs_server.proofs.WaitingLemmas.{cut_there}
use Rattle.bhs_server.proofs.clients.Clients.make_room.Goals as goal

pub returns-then-place-len : goal.returns-then-place-len
returns-then-place-len c =
    let clients : List Known = c.args.self.now.known.items in
    let found : first_cut clients ≡ Some c.in-Some.place = search rules in
    let past : length clients ≤ c.in-Some.place = search rules in
    cut_behind clients c.in-Some.place past ∙ ap (cut_at clients) (sym found)

pub returns : goal.returns
returns c =
    let clients : List Known = c.args.self.now.known.items in
    let found : first_cut clients ≡ Some c.in-Some.place = search rules in
    let within : c.in-Some.place < length clients = search rules in
    let one : Known = c.index_mut.result.now in
    ap (λ (known : Known). slice_set clients c.in-Some.place (record known { stand = IsCut })) c.index_mut.ensures.value
    ∙ cut_there clients c.in-Some.place one within ∙ ap (cut_at clients) (sym found)
