-- A match stays in order: what it keeps follows from its log, and there is room for the next event.
use Rattle.std.proofs.Common.{◌≡◌, ℕ, suc, ◌+◌, ◌*◌, ◌<◌, ◌≤◌, ◌^◌, append-nil, Bool, true, false, not, ◌&&◌, ◌||◌}
use Rattle.std.proofs.Common.{Option, Some, None, List, [], ◌∷◌, ◌++◌, length, map, IsSome, refl, sym, ap, ap₂, ◌∙◌}
use Rattle.std.proofs.Common.{subst}
use Rattle.std.proofs.Common.{inl, inr, arith, nat_lt, if◌then◌else◌, length-append, length-set}
use Rattle.std.specs.Prelude.{is_some, IfSome}
use Rattle.std.proofs.lemmas.List.Elements.{All-nil, All-cons, All-append}
use Rattle.std.proofs.lemmas.List.{get_or_past}
use Rattle.std.proofs.lemmas.Bool.{cond-true, cond-false, eq-eqb, and_parts, false_from_ne_true}
use Rattle.std.proofs.Math.Nat.{mul-le-mul}
use Rattle.bhs_net.specs.Network.{Network, nodes_of}
use Rattle.bhs_model.specs.declared.events.Event.{Event}
use Rattle.bhs_model.specs.declared.events.Event.TheVariants.{Tell, Deliver, Close}
use Rattle.bhs_model.specs.declared.marks.Mark.{Mark}
use Rattle.bhs_model.specs.declared.marks.Kept.{Kept}
use Rattle.bhs_model.specs.declared.setups.Setup.{Setup}
use Rattle.bhs_model.specs.Replying.{text}
use Rattle.bhs_model.specs.Worlds.{World}
use Rattle.bhs_model.specs.Runs.{Position, Before, At, Bound as OnLink, After, State, initial, is_bound, is_doomed}
use Rattle.bhs_model.specs.Runs.{next, run}
use Rattle.bhs_model.specs.InOrder.{replies}
use Rattle.bhs_model.specs.Kept.{keeps, kept_first, kept, lost, nobody}
use Rattle.bhs_model.specs.Setups.{world_of}
use Rattle.bhs_model.specs.Marks.{events_of, read_if, text_at}
use Rattle.bhs_model.specs.Cuts.{node_reached}
use Rattle.bhs_model.specs.Sites.{node_said, site, sites}
use Rattle.bhs_model.proofs.AddLemmas.{kept-append}
use Rattle.bhs_model.proofs.SiteLemmas.{length_sites, sites_more}
use Rattle.bhs_state.specs.Agents.{link_of}
use Rattle.bhs_world.specs.Faults.{IsWithinLimits}
use Rattle.bhs_world.specs.Tables.{Table, agent_at, board_at, world_in, StandsFor, keeps_next, log_after}
use Rattle.bhs_world.proofs.ListLemmas.{each_set, lt_tells}
use Rattle.bhs_world.proofs.GrowthLemmas.{run_from_more, events_more, text_shown}
use Rattle.bhs_match.specs.declared.pools.Bound.{Bound}
use Rattle.bhs_match.specs.Matches.{Play, most_kept, is_arrival, arrivals, bounds, shown_at}
use Rattle.bhs_match.specs.Keeping.{Shelf, news_at, node_seen, node_seen_at, link_at, link_by, settled, settled_by}
use Rattle.bhs_match.specs.Keeping.{noted_at, noted, site_by, IsInOrder, AreSites, HasRoom, CanNote}
use Rattle.bhs_match.proofs.MoveLemmas.{IsGone}
use Rattle.bhs_match.proofs.FairLemmas.{IsFair, fair_run}
use Rattle.bhs_match.proofs.CountLemmas.{kept_bound}
use Rattle.bhs_match.proofs.PoolLemmas.{link_in, next_pool, pool_bound}
use Rattle.bhs_match.proofs.NewsLemmas.{arrivals_more, news_bound, unknown_news}

-- Appending an event that is kept keeps the log equal to the kept events.
kept_grows : (world : World) (log : List Kept) (one : Kept) → kept world (events_of log) ≡ events_of log
    → keeps_next world log one.event ≡ true →
    kept world (events_of (log ++ one ∷ [])) ≡ events_of (log ++ one ∷ [])
kept_grows world log one alone is_kept =
    ap (kept world) (events_more log one)
    ∙ kept-append world initial nobody (events_of log) (one.event ∷ [])
    ∙ ap (λ (others : List Event). others ++ kept_first (keeps_next world log one.event) one.event []) alone
    ∙ ap (λ (is_kept : Bool). events_of log ++ kept_first is_kept one.event []) is_kept
    ∙ sym (events_more log one)

length_events : (log : List Kept) → length (events_of log) ≡ length log
length_events [] = refl
length_events (one ∷ log) = ap suc (length_events log)

-- no log is longer
pub log_bound : (world : World) (log : List Kept) → kept world (events_of log) ≡ events_of log
    → length log ≤ most_kept world.agents world.quota
log_bound world log alone =
    let most = kept_bound world (events_of log) in
    let same : length (kept world (events_of log)) ≡ length log = ap length alone ∙ length_events log in
    omega arith

pub most_is_small : (net : Network) (setup : Setup) → IsWithinLimits net setup
    → most_kept setup.agents setup.quota < 2 ^ 32
most_is_small net setup within =
    let agents = within.agents in
    let quota = within.quota in
    let few : 2 * setup.quota + 2 ≤ 131072 = omega arith in
    let product : setup.agents * (2 * setup.quota + 2) ≤ 64 * 131072 = mul-le-mul agents few in
    omega arith

-- the link that a world tells is that of the definitions
link_at_same : (table : Table) (log : List Kept) (agent : ℕ) → StandsFor table log
    → link_at table agent ≡ link_of ((run (world_in table) (events_of log)).position agent)
link_at_same table log agent stands = elim (lt_tells agent table.setup.agents) [
  | inl h ↦ rw h.0 (ap link_of (sym (stands.state.agents agent).position))
  | inr h ↦ rw h.0 (sym (ap link_of ((fair_run (world_in table) (events_of log)).strange agent h.1)))
]

pub link_same : (table : Table) (log : List Kept) (event : Event) → StandsFor table log
    → link_by table event ≡ link_in (run (world_in table) (events_of log)) event
link_same table log (Tell agent command) stands = link_at_same table log agent stands
link_same table log (Deliver agent) stands = link_at_same table log agent stands
link_same table log Close stands = refl

settled_longer : (agent : ℕ) (was now : Option (ℕ × ℕ)) (pool : List Bound) → was ≡ None → IsSome now
    → length (settled agent was now pool) ≡ length pool + 1
settled_longer agent None (Some link) pool outside inside = length-append pool _
settled_longer agent None None pool outside inside = cc
settled_longer agent (Some link) now pool outside inside = cc

settled_room : (table new : Table) (event : Event) (pool : List Bound) (most : ℕ)
    → length (settled_by event (link_by table event) (link_by new event) pool) ≤ most →
    link_by table event ≡ None → IsSome (link_by new event) → length pool < most
settled_room table new (Tell agent command) pool most bound outside inside =
    let longer = settled_longer agent (link_at table agent) (link_at new agent) pool outside inside in omega arith
settled_room table new (Deliver agent) pool most bound outside inside =
    let longer = settled_longer agent (link_at table agent) (link_at new agent) pool outside inside in omega arith
settled_room table new Close pool most bound outside inside = cc

-- Only an agent on a link is delivered.
unkept_before : (closed is_lost : Bool) → ((not closed && false) || ((not closed && false) && not is_lost)) ≡ false
unkept_before true is_lost = refl
unkept_before false is_lost = refl

pub delivered_within : (world : World) (state : State) (lost : ℕ → Bool) (agent : ℕ) → IsFair world state lost
    → keeps world state lost (Deliver agent) ≡ true → agent < world.agents
delivered_within world state lost agent fair is_kept = elim (lt_tells agent world.agents) [
  | inl h ↦ h.1
  | inr h ↦ absurd (never (sym (ap (λ (position : Position).
      (not state.closed && (is_bound position && not (is_doomed world position))) ||
      ((not state.closed && is_doomed world position) && not (lost agent))) (fair.strange agent h.1)
      ∙ unkept_before state.closed (lost agent)) ∙ is_kept))
]
  where
    never : false ≡ true → ⊥
    never h = cc

-- The site of an event that is kept agrees with the model's.
site_same : (table : Table) (log : List Kept) (event : Event) → StandsFor table log
    → keeps_next (world_in table) log event ≡ true →
    site_by table event ≡ site (world_in table) (run (world_in table) (events_of log)) event
site_same table log (Tell agent command) stands is_kept =
    cond-true _ _ _ (and_parts (nat_lt agent table.setup.agents) _ is_kept).0
    ∙ ap (λ (position : Position). node_said (world_in table) position command)
    (sym (stands.state.agents agent).position) ∙ sym (cond-true _ _ _ is_kept)
site_same table log (Deliver agent) stands is_kept = elim (lt_tells agent table.setup.agents) [
  | inl h ↦ rw h.0 (ap (node_reached (world_in table)) (sym (stands.state.agents agent).position))
  | inr h ↦ rw h.0 (sym (ap (node_reached (world_in table))
      ((fair_run (world_in table) (events_of log)).strange agent h.1)))
]
site_same table log Close stands is_kept = refl

-- An agent's news, extended by the place of an arrival.
noted_news : (news : List Shelf) (log : List Kept) (agents agent : ℕ) (mark : Mark) → agent < length news
    → ((k : ℕ) → k < agents → (news_at news k).places ≡ arrivals k log) →
    (k : ℕ) → k < agents → (news_at (noted_at news agent (length log)) k).places ≡ arrivals k
    (log ++ record { event = Deliver agent; mark = Some mark } ∷ [])
noted_news news log agents agent mark within arrived =
    let one : Kept = record { event = Deliver agent; mark = Some mark } in
    let nought : length log ≡ 0 + length log = omega arith in
    each_set (λ k shelf. k < agents → shelf.places ≡ arrivals k (log ++ one ∷ [])) news agent _ _ within
    (λ below. ap (λ (places : List ℕ). places ++ length log ∷ []) (arrived agent below)
    ∙ ap (λ (place : ℕ). arrivals agent log ++ place ∷ []) nought
    ∙ sym (arrivals_more agent 0 log one ∙ ap (λ (same : Bool). arrivals agent log
    ++ (if same then ((0 + length log) ∷ []) else [])) (eq-eqb agent agent refl)))
    (λ k apart below. arrived k below ∙ sym (arrivals_more k 0 log one
    ∙ ap (λ (same : Bool). arrivals k log ++ (if same then ((0 + length log) ∷ []) else [])) apart
    ∙ append-nil (arrivals k log)))

no_news : (news : List Shelf) (log : List Kept) (agents : ℕ) (one : Kept)
    → ((k : ℕ) → is_arrival k one.event one.mark ≡ false)
    → ((k : ℕ) → k < agents → (news_at news k).places ≡ arrivals k log) →
    (k : ℕ) → k < agents → (news_at news k).places ≡ arrivals k (log ++ one ∷ [])
no_news news log agents one silent arrived k below =
    arrived k below ∙ sym (arrivals_more k 0 log one
    ∙ ap (λ (same : Bool). arrivals k log ++ (if same then ((0 + length log) ∷ []) else [])) (silent k)
    ∙ append-nil (arrivals k log))

news_more : (news : List Shelf) (log : List Kept) (agents : ℕ) (event : Event) (mark : Option Mark)
    → CanNote news event mark → ((k : ℕ) → k < agents → (news_at news k).places ≡ arrivals k log) →
    (k : ℕ) → k < agents → (news_at (noted news event mark (length log)) k).places ≡ arrivals k
    (log ++ record { event = event; mark = mark } ∷ [])
news_more news log agents (Tell agent command) mark can arrived = no_news news log agents _ (λ k. refl) arrived
news_more news log agents (Deliver agent) None can arrived = no_news news log agents _ (λ k. refl) arrived
news_more news log agents (Deliver agent) (Some mark) can arrived =
    noted_news news log agents agent mark can.within arrived
news_more news log agents Close mark can arrived = no_news news log agents _ (λ k. refl) arrived

-- no room is lost
record KeepsRoom (old new : List Shelf) : Type 0 where
  pub agents : length new ≡ length old
  pub room : (k : ℕ) → (news_at new k).room ≡ (news_at old k).room

room_more : (news : List Shelf) (event : Event) (mark : Option Mark) (place : ℕ) → CanNote news event mark
    → KeepsRoom news (noted news event mark place)
room_more news (Tell agent command) mark place can = record { agents = refl; room = λ k. refl }
room_more news (Deliver agent) None place can = record { agents = refl; room = λ k. refl }
room_more news (Deliver agent) (Some mark) place can = record {
  agents = length-set news agent _;
  room = each_set (λ k shelf. shelf.room ≡ (news_at news k).room) news agent _ _ can.within refl (λ k apart. refl);
}
room_more news Close mark place can = record { agents = refl; room = λ k. refl }

-- Every event that is kept finds room among the news.
can_note : (table : Table) (log : List Kept) (pool : List Bound) (news : List Shelf) (event : Event)
    (mark : Option Mark) → IsInOrder table log pool news → keeps_next (world_in table) log event ≡ true →
    map (λ one. read_if (log ++ record { event = event; mark = mark } ∷ []) one.mark)
    (log ++ record { event = event; mark = mark } ∷ []) ≡ replies (world_in table)
    (events_of (log ++ record { event = event; mark = mark } ∷ [])) →
    CanNote news event mark
can_note table log pool news (Tell agent command) mark order is_kept replied = tt
can_note table log pool news (Deliver agent) None order is_kept replied = tt
can_note table log pool news Close mark order is_kept replied = tt
can_note table log pool news (Deliver agent) (Some mark) order is_kept replied =
    let world : World = world_in table in
    let one : Kept = record { event = Deliver agent; mark = Some mark } in
    let within : agent < table.setup.agents =
    delivered_within world (run world (events_of log)) (lost world (events_of log)) agent
    (fair_run world (events_of log)) is_kept in
    let most : length (arrivals agent (log ++ one ∷ [])) ≤ table.setup.quota =
    news_bound world agent (log ++ one ∷ []) replied in
    let more : arrivals agent (log ++ one ∷ []) ≡ arrivals agent log ++ (0 + length log) ∷ [] =
    arrivals_more agent 0 log one ∙ ap (λ (same : Bool). arrivals agent log
    ++ (if same then ((0 + length log) ∷ []) else [])) (eq-eqb agent agent refl) in
    let longer : length (arrivals agent (log ++ one ∷ [])) ≡ length (arrivals agent log) + 1 =
    ap length more ∙ length-append (arrivals agent log) _ in
    let here : length (news_at news agent).places ≡ length (arrivals agent log) =
    ap length (order.arrived agent within) in
    let room : table.setup.quota ≤ (news_at news agent).room = order.room agent within in
    record { within = omega (arith, order.agents); room = omega arith }

-- The match has room before an event that is kept, and satisfies the invariant afterwards.
pub record IsReady (table new : Table) (log : List Kept) (pool : List Bound) (news : List Shelf) (event : Event)
    (mark : Option Mark) : Type 0 where
  pub log_room : length log < most_kept table.setup.agents table.setup.quota
  pub sited : site_by table event ≡ site (world_in table) (run (world_in table) (events_of log)) event
  pub same_world : world_in new ≡ world_in table
  pub pool_room : link_by table event ≡ None → IsSome (link_by new event) → length pool < table.setup.agents
  pub news_room : CanNote news event mark
  pub after : IsInOrder new (log ++ record { event = event; mark = mark } ∷ [])
      (settled_by event (link_by table event) (link_by new event) pool) (noted news event mark (length log))

ready_same : (table new : Table) (log : List Kept) (pool : List Bound) (news : List Shelf) (event : Event)
    (mark : Option Mark) → IsInOrder table log pool news →
    keeps_next (world_in table) log event ≡ true → world_in new ≡ world_in table → new.setup ≡ table.setup
    → IsWithinLimits new.net new.setup →
    StandsFor new (log ++ record { event = event; mark = mark } ∷ []) → IsReady table new log pool news event mark
ready_same table new log pool news event mark order is_kept same_world same_setup within stands =
    let world : World = world_in table in
    let one : Kept = record { event = event; mark = mark } in
    let grown : List Kept = log ++ one ∷ [] in
    let state : State = run world (events_of log) in
    let alone : kept world (events_of grown) ≡ events_of grown = kept_grows world log one order.kept_alone is_kept in
    let longer : length grown ≡ length log + 1 = length-append log _ in
    let most : length grown ≤ most_kept table.setup.agents table.setup.quota = log_bound world grown alone in
    let later : run world (events_of grown) ≡ next world state event = ap (run world) (events_more log one)
    ∙ run_from_more world initial (events_of log) event in
    let replied : map (λ one. read_if grown one.mark) grown ≡ replies world (events_of grown) =
    stands.replies ∙ ap (λ (world : World). replies world (events_of grown)) same_world in
    let can : CanNote news event mark = can_note table log pool news event mark order is_kept replied in
    let was : link_by table event ≡ link_in state event = link_same table log event order.stands in
    let now : link_by new event ≡ link_in (next world state event) event =
    link_same new grown event stands ∙ ap (λ (world : World). link_in (run world (events_of grown)) event) same_world
    ∙ ap (λ (state : State). link_in state event) later in
    let pooled : settled_by event (link_by table event) (link_by new event) pool ≡ bounds
    (run world (events_of grown)) =
    ap (λ (was : Option (ℕ × ℕ)). settled_by event was (link_by new event) pool) was
    ∙ ap (λ (now : Option (ℕ × ℕ)). settled_by event (link_in state event) now pool) now
    ∙ ap (settled_by event (link_in state event) (link_in (next world state event) event)) order.pooled
    ∙ sym (ap bounds later ∙ next_pool world state (lost world (events_of log)) event
    (fair_run world (events_of log))) in
    let few : length (settled_by event (link_by table event) (link_by new event) pool) ≤ table.setup.agents =
    rw pooled (pool_bound world (run world (events_of grown)) (lost world (events_of grown))
    (fair_run world (events_of grown))) in
    let shelves = room_more news event mark (length log) can in
    record {
      log_room = omega arith;
      sited = site_same table log event order.stands is_kept;
      same_world = same_world;
      pool_room = settled_room table new event pool table.setup.agents few;
      news_room = can;
      after = record {
        within = within;
        stands = stands;
        kept_alone = rw same_world alone;
        pooled = rw same_world pooled;
        agents = shelves.agents ∙ order.agents ∙ ap (λ (setup : Setup). setup.agents) (sym same_setup);
        arrived = rw same_setup (news_more news log table.setup.agents event mark can order.arrived);
        room = rw same_setup (λ k below. rw (shelves.room k) (order.room k below));
      };
    }

-- the same, by what the calls of `apply` ensure
pub ready : (table new : Table) (log given : List Kept) (pool : List Bound) (news : List Shelf) (event : Event)
    (mark : Option Mark) (is_kept : Bool) → IsInOrder table log pool news → given ≡ log →
    StandsFor new (log_after (world_in table) given event mark) → (new.net ≡ table.net) × (new.setup ≡ table.setup) →
    ((log : List Kept) → StandsFor table log → is_kept ≡ keeps_next (world_in table) log event) → is_kept ≡ true
    → IsReady table new log pool news event mark
ready table new log given pool news event mark is_kept order same_log stands same keeps kept_true =
    let world : World = world_in table in
    let one : Kept = record { event = event; mark = mark } in
    let is_next : keeps_next world log event ≡ true = sym (keeps log order.stands) ∙ kept_true in
    let same_world : world_in new ≡ world = ap (λ (net : Network). world_of net new.setup) same.0
    ∙ ap (world_of table.net) same.1 in
    let grown : log_after world given event mark ≡ log ++ one ∷ [] =
    ap (λ (log : List Kept). log_after world log event mark) same_log ∙ cond-true (keeps_next world log event)
    (log ++ one ∷ []) log is_next in
    let within : IsWithinLimits new.net new.setup = rw (same.0, same.1) order.within in
    ready_same table new log pool news event mark order is_next same_world same.1 within
    (subst (StandsFor new) grown stands)

pub log_few : (table : Table) (log : List Kept) (pool : List Bound) (news : List Shelf) → IsInOrder table log pool news
    → length log ≤ most_kept table.setup.agents table.setup.quota
log_few table log pool news order = log_bound (world_in table) log order.kept_alone

pub log_small : (table : Table) (log : List Kept) (pool : List Bound) (news : List Shelf)
    → IsInOrder table log pool news → length log < 2 ^ 32
log_small table log pool news order =
    let most = log_bound (world_in table) log order.kept_alone in
    let small = most_is_small table.net table.setup order.within in
    omega arith

pub in_order_after : (table new : Table) (log log' : List Kept) (pool pool' : List Bound) (news news' : List Shelf)
    (event : Event) (mark : Option Mark) (was now : Option (ℕ × ℕ)) (place : ℕ) →
    IsReady table new log pool news event mark → was ≡ link_by table event → now ≡ link_by new event
    → place ≡ length log →
    log' ≡ log ++ record { event = event; mark = mark } ∷ [] → pool' ≡ settled_by event was now pool
    → news' ≡ noted news event mark place → IsInOrder new log' pool' news'
in_order_after table new log log' pool pool' news news' event mark was now place is_ready is_was is_now is_place is_log
    is_pool is_news =
    rw (is_log, is_pool, is_news, is_was, is_now, is_place) is_ready.after

pub sites_after : (table new : Table) (log log' : List Kept) (pool : List Bound) (news : List Shelf)
    (found found' : List (Option ℕ)) (event : Event) (mark : Option Mark) (site : Option ℕ) →
    IsReady table new log pool news event mark → AreSites table log found → new.net ≡ table.net
    → site ≡ site_by table event → IfSome site (λ node. node < nodes_of table.net) →
    log' ≡ log ++ record { event = event; mark = mark } ∷ [] → found' ≡ found ++ site ∷ [] → AreSites new log' found'
sites_after table new log log' pool news found found' event mark site is_ready are same_net is_site range is_log
    is_found =
    let one : Kept = record { event = event; mark = mark } in
    let IsIn : Option ℕ → Type 0 = λ site. IfSome site (λ node. node < nodes_of table.net) in
    rw (is_log, is_found) (record {
      same = ap₂ (λ (found : List (Option ℕ)) (site : Option ℕ). found ++ site ∷ []) are.same (is_site ∙ is_ready.sited)
          ∙ sym (sites_more (world_in table) initial (events_of log) event)
          ∙ ap (sites (world_in table)) (sym (events_more log one))
          ∙ ap (λ (world : World). sites world (events_of (log ++ one ∷ []))) (sym is_ready.same_world);
      range = rw same_net (All-append IsIn found (site ∷ []) are.range (All-cons IsIn site [] range (All-nil IsIn)));
    })

pub count_sites : (table : Table) (log : List Kept) (found : List (Option ℕ)) → AreSites table log found
    → length found ≡ length log
count_sites table log found are =
    ap length are.same ∙ length_sites (world_in table) initial (events_of log) ∙ length_events log

pub has_room_after : (setup setup' : Setup) (for_log for_log' for_sites for_sites' for_pool for_pool' : ℕ)
    → setup' ≡ setup → for_log' ≡ for_log → for_sites' ≡ for_sites → for_pool' ≡ for_pool
    → HasRoom setup for_log for_sites for_pool → HasRoom setup' for_log' for_sites' for_pool'
has_room_after setup setup' for_log for_log' for_sites for_sites' for_pool for_pool' same_setup same_log same_sites
    same_pool room = rw (same_setup, same_log, same_sites, same_pool) room

-- what is shown at the node that an agent sees is the text of the definitions
shown_there : (table : Table) (log : List Kept) (state : State) (node : ℕ) (position : Position)
    → node_seen_at table position ≡ Some node → text table.setup.board (state.last_write node) ≡ shown_at
    (world_in table) state position
shown_there table log state node Before is = cc
shown_there table log state node (At there came) is = cc
shown_there table log state node (OnLink there port) is = cc
shown_there table log state node After is = cc

pub shown_same : (table : Table) (log : List Kept) (agent node : ℕ) → StandsFor table log
    → node_seen table agent ≡ Some node →
    text_at log (board_at table.boards node).last ≡ shown_at (world_in table) (run (world_in table) (events_of log))
    ((run (world_in table) (events_of log)).position agent)
shown_same table log agent node stands is =
    let state : State = run (world_in table) (events_of log) in
    text_shown log _ _ (stands.state.boards node) ∙ elim (lt_tells agent table.setup.agents) [
      | inl h ↦
          let here : node_seen_at table (agent_at table.agents agent).position ≡ Some node =
          sym (cond-true (nat_lt agent table.setup.agents)
          (node_seen_at table (agent_at table.agents agent).position) (Some table.setup.home) h.0) ∙ is in
          shown_there table log state node (state.position agent)
          (ap (node_seen_at table) (stands.state.agents agent).position ∙ here)
      | inr h ↦
          let home : Some table.setup.home ≡ Some node =
          sym (cond-false (nat_lt agent table.setup.agents)
          (node_seen_at table (agent_at table.agents agent).position) (Some table.setup.home) h.0) ∙ is in
          shown_there table log state node (state.position agent)
          (ap (node_seen_at table) ((fair_run (world_in table) (events_of log)).strange agent h.1) ∙ home)
    ]

-- An agent's state records whether it travels on a link.
is_link : (position : Position) → is_some (link_of position) ≡ is_bound position
is_link Before = refl
is_link (At node came) = refl
is_link (OnLink node port) = refl
is_link After = refl

pub away_same : (table : Table) (log : List Kept) (agent : ℕ) → StandsFor table log →
    is_some (link_at table agent) ≡ is_bound ((run (world_in table) (events_of log)).position agent)
away_same table log agent stands =
    elim (lt_tells agent table.setup.agents) [
      | inl h ↦
          ap (λ (link : Option (ℕ × ℕ)). is_some link)
          (cond-true (nat_lt agent table.setup.agents) (link_of (agent_at table.agents agent).position) None h.0)
          ∙ is_link (agent_at table.agents agent).position ∙ ap is_bound (sym (stands.state.agents agent).position)
      | inr h ↦
          ap (λ (link : Option (ℕ × ℕ)). is_some link)
          (cond-false (nat_lt agent table.setup.agents) (link_of (agent_at table.agents agent).position) None h.0)
          ∙ ap is_bound (sym ((fair_run (world_in table) (events_of log)).strange agent h.1))
    ]

-- The stored news of an agent agree with the model's news.
pub record IsNews (play : Play) (places : List ℕ) (agent : ℕ) : Type 0 where
  pub same : places ≡ arrivals agent play.log
  pub bound : length places ≤ play.setup.quota
  pub stranger : play.setup.agents ≤ agent → places ≡ []

pub news_same : (table : Table) (log : List Kept) (pool : List Bound) (news : List Shelf) (agent : ℕ)
    → IsInOrder table log pool news → IsNews (record { net = table.net; setup = table.setup; log = log })
    (news_at news agent).places agent
news_same table log pool news agent order =
    let few : length (arrivals agent log) ≤ table.setup.quota =
    news_bound (world_in table) agent log order.stands.replies in
    let known : (places : List ℕ) → places ≡ arrivals agent log → (table.setup.agents ≤ agent → places ≡ [])
    → IsNews (record { net = table.net; setup = table.setup; log = log }) places agent =
    λ places same stranger. record { same = same; bound = rw same few; stranger = stranger } in
    elim (lt_tells agent table.setup.agents) [
      | inl h ↦ known _ (order.arrived agent h.1) (λ past. absurd (omega (arith, h.1, past)))
      | inr h ↦
          let none : (news_at news agent).places ≡ [] =
          ap (λ (shelf : Shelf). shelf.places) (get_or_past news agent _ (omega (arith, h.1, order.agents))) in
          known _ (none ∙ sym (unknown_news (world_in table) agent log h.1 order.stands.replies)) (λ past. none)
    ]

pub news_given : (table : Table) (log : List Kept) (pool : List Bound) (news given : List Shelf) (play : Play)
    (places : List ℕ) (agent : ℕ) → IsInOrder table log pool news → given ≡ news
    → places ≡ (news_at given agent).places →
    record { net = table.net; setup = table.setup; log = log } ≡ play → IsNews play places agent
news_given table log pool news given play places agent order same is view =
    subst (λ (play : Play). IsNews play places agent) view
    (subst (λ (places : List ℕ). IsNews (record { net = table.net; setup = table.setup; log = log }) places agent)
    (sym (is ∙ ap (λ (news : List Shelf). (news_at news agent).places) same))
    (news_same table log pool news agent order))

-- Numbers beyond the match's agents never enter and never get lost.
pub strange_outside : (table : Table) (log : List Kept) (agent : ℕ) → table.setup.agents ≤ agent
    → Before ≡ (run (world_in table) (events_of log)).position agent
strange_outside table log agent strange = sym ((fair_run (world_in table) (events_of log)).strange agent strange)

pub strange_spared : (table : Table) (log : List Kept) (agent : ℕ) → table.setup.agents ≤ agent
    → false ≡ lost (world_in table) (events_of log) agent
strange_spared table log agent strange =
    let fair = fair_run (world_in table) (events_of log) in
    sym (false_from_ne_true _ (λ gone. subst (IsGone (world_in table)) (fair.strange agent strange)
    (fair.gone agent gone)))
