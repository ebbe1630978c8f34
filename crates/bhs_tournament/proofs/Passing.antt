-- Going over the matches of a tournament, as loops do, up to the first fault.
use Rattle.std.proofs.Common.{◌≡◌, ◌⊎◌, ℕ, ◌+◌, ◌<◌, List, [], ◌∷◌, ◌++◌, length, map, drop, get_or, Option, Some, None}
use Rattle.std.proofs.Common.{Result, Ok, Err, inl, inr, refl, sym, ap, ap₂, ◌∙◌, append_assoc, arith}
use Rattle.std.specs.List.{zip}
use Rattle.std.specs.Option.{option_or}
use Rattle.std.proofs.lemmas.List.{append-nil, drop_more}
use Rattle.bhs_net.specs.Network.{Network}
use Rattle.bhs_match.specs.Matches.{Play}
use Rattle.bhs_files.specs.declared.faults.FileFault.{FileFault}
use Rattle.bhs_files.specs.declared.fixtures.Fixture.{Fixture}
use Rattle.bhs_setups.specs.declared.lineups.Ready.{Ready}
use Rattle.bhs_files.specs.Names.{first_seen}
use Rattle.bhs_setups.specs.KeyTable.{Seat}
use Rattle.bhs_setups.specs.Lineups.{Contest}
use Rattle.bhs_time.specs.declared.kinds.ScheduleKind.{ScheduleKind}
use Rattle.bhs_tournament.specs.KeyTable.{key_table}
use Rattle.bhs_files.specs.Reading.{◌>>=◌, Fails}
use Rattle.bhs_files.specs.Tournaments.{Plan, Planned, planned}
use Rattle.bhs_tournament.specs.Lineups.{all_ready, contest_in, network_named, names_of, start_of, ready_of}
use Rattle.bhs_tournament.specs.Lineups.{setup_fault}
use Rattle.bhs_tournament.specs.Lineups.{held_fault, first_of, unless}
use Rattle.bhs_tournament.specs.Passes.{each_in, begun, readied}
use Rattle.bhs_files.proofs.Failing.{fails_with}

-- the results so far, followed by the result for the remaining items
abbrev pub then : {A : Type 0} → List A → Result (List A) FileFault → Result (List A) FileFault
then done rest = rest >>= λ others. Ok (done ++ others)

module _ {A : Type 0} where
  regroup : (done : List A) (a : A) (rest : Result (List A) FileFault)
      → then done (rest >>= λ others. Ok (a ∷ others)) ≡ then (done ++ a ∷ []) rest
  regroup done a (Ok others) = ap (λ (all : List A). Ok all) (sym (append_assoc done (a ∷ []) others))
  regroup done a (Err fault) = refl

module _ {P A : Type 0} (make : ℕ → P → Result A FileFault) (i : ℕ) (done : List A)
    (total : Result (List A) FileFault) where
  pub goes_on : (x : P) (xs : List P) (a : A) → make i x ≡ Ok a → then done (each_in make i (x ∷ xs)) ≡ total
      → then (done ++ a ∷ []) (each_in make (i + 1) xs) ≡ total
  goes_on x xs a made so_far =
      let e : then done (each_in make i (x ∷ xs)) ≡ then (done ++ a ∷ []) (each_in make (i + 1) xs) =
      rw made (regroup done a (each_in make (i + 1) xs)) in
      sym e ∙ so_far

  pub stops : (x : P) (xs : List P) (fault : FileFault) → Fails fault (make i x)
      → then done (each_in make i (x ∷ xs)) ≡ total → Fails fault total
  stops x xs fault failed so_far =
      fails_with fault (make i x) total (λ (h : make i x ≡ Err fault).
      let e : then done (each_in make i (x ∷ xs)) ≡ Err fault = rw h refl in
      sym so_far ∙ e) failed

  pub ends : then done (each_in make i []) ≡ total → total ≡ Ok done
  ends so_far = sym so_far ∙ ap (λ (all : List A). Ok all) (append-nil done)

-- held links that are ports of nodes, and what is made with them
pub made_with : {A B : Type 0} (fault : Option FileFault) (make : A → B) (given held : A)
    → unless fault (Ok given) ≡ Ok held → unless fault (Ok (make given)) ≡ Ok (make held)
made_with None make given held is = let same : given ≡ held = cc in ap (λ a. Ok (make a)) same
made_with (Some found) make given held is = absurd cc

pub not_made : {A B : Type 0} (fault : Option FileFault) (given : A) (made : B) (found : FileFault)
    → Fails found (unless fault (Ok given)) → Fails found (unless fault (Ok made))
not_made fault given made found = fails_with found (unless fault (Ok given)) (unless fault (Ok made)) (fails fault)
  where
    fails : (f : Option FileFault) → unless f (Ok given) ≡ Err found → unless f (Ok made) ≡ Err found
    fails None is = absurd cc
    fails (Some other) is = let same : other ≡ found = cc in ap (λ e. Err e) same

-- the matches of a slice
pub goes_over : {A : Type 0} (make : ℕ → Planned → Result A FileFault) (fs : List Fixture) (i : ℕ) (done : List A)
    (total : Result (List A) FileFault) (x : Fixture) (a : A) (all : List A) → i < length fs → x ≡ get_or fs i x
    → make i (planned x) ≡ Ok a → all ≡ done ++ a ∷ [] → then done (each_in make i (map planned (drop i fs))) ≡ total
    → then all (each_in make (i + 1) (map planned (drop (i + 1) fs))) ≡ total
goes_over make fs i done total x a all lt is made grown so_far =
    let rest = map planned (drop (i + 1) fs) in
    let e : map planned (drop i fs) ≡ planned x ∷ rest = ap (map planned) (drop_more fs i x lt)
    ∙ ap (λ y. planned y ∷ rest) (sym is) in
    rw grown (goes_on make i done total (planned x) rest a made
    (ap (λ ps. then done (each_in make i ps)) (sym e) ∙ so_far))

pub stops_over : {A : Type 0} (make : ℕ → Planned → Result A FileFault) (fs : List Fixture) (i : ℕ) (done : List A)
    (total : Result (List A) FileFault) (x : Fixture) (fault : FileFault) → i < length fs → x ≡ get_or fs i x
    → Fails fault (make i (planned x)) → then done (each_in make i (map planned (drop i fs))) ≡ total
    → Fails fault total
stops_over make fs i done total x fault lt is failed so_far =
    let rest = map planned (drop (i + 1) fs) in
    let e : map planned (drop i fs) ≡ planned x ∷ rest = ap (map planned) (drop_more fs i x lt)
    ∙ ap (λ y. planned y ∷ rest) (sym is) in
    stops make i done total (planned x) rest fault failed (ap (λ ps. then done (each_in make i ps)) (sym e) ∙ so_far)

-- two lists side by side
module _ (i : ℕ) (done : List Ready) (total : Result (List Ready) FileFault) (fs rest : List Fixture)
    (games others : List Play) (f : Fixture) (g : Play) (first : fs ≡ f ∷ rest) (second : games ≡ g ∷ others)
    (so_far : then done (each_in readied i (zip fs games)) ≡ total) where
  here : then done (each_in readied i ((f, g) ∷ zip rest others)) ≡ total
  here = sym (ap₂ (λ (xs : List Fixture) (ys : List Play). then done (each_in readied i (zip xs ys))) first second)
      ∙ so_far

  pub goes_beside : (a : Ready) (all : List Ready) → readied i (f, g) ≡ Ok a → all ≡ done ++ a ∷ []
      → then all (each_in readied (i + 1) (zip rest others)) ≡ total
  goes_beside a all made is = rw is (goes_on readied i done total (f, g) (zip rest others) a made here)

  pub stops_beside : (fault : FileFault) → Fails fault (readied i (f, g)) → Fails fault total
  stops_beside fault failed = stops readied i done total (f, g) (zip rest others) fault failed here

-- one of two lists side by side has come to its end
pub ends_beside : (fs : List Fixture) (games : List Play) (i : ℕ) (done : List Ready)
    (total : Result (List Ready) FileFault) → (length fs ≡ 0) ⊎ (length games ≡ 0)
    → then done (each_in readied i (zip fs games)) ≡ total → total ≡ Ok done
ends_beside [] games i done total none so_far = ends readied i done total so_far
ends_beside (f ∷ fs) [] i done total none so_far = ends readied i done total so_far
ends_beside (f ∷ fs) (g ∷ games) i done total (inl none) so_far = absurd (omega (arith, none))
ends_beside (f ∷ fs) (g ∷ games) i done total (inr none) so_far = absurd (omega (arith, none))

-- ---- the passes, and the first fault

module _ {A : Type 0} where
  more : (fault rest : Option FileFault) (a : A) (made : Result (List A) FileFault) (all : List A)
      → made ≡ unless rest (Ok all)
      → (unless fault (Ok a) >>= λ one. made >>= λ others. Ok (one ∷ others)) ≡ unless
      (option_or fault rest) (Ok (a ∷ all))
  more (Some fault) rest a made all e = refl
  more None None a made all e = rw e refl
  more None (Some fault) a made all e = rw e refl

module _ (network : Planned → Network) where
  begun_all : (game : ℕ) (ps : List Planned) → each_in (begun network) game ps ≡ unless
      (first_of (λ game planned. setup_fault (network planned) game planned) game ps)
      (Ok (map (λ planned. start_of (network planned) planned) ps))
  begun_all game [] = refl
  begun_all game (p ∷ ps) = more (setup_fault (network p) game p) _ (start_of (network p) p) _ _
      (begun_all (game + 1) ps)

  readied_all : (game : ℕ) (fs : List Fixture)
      → each_in readied game (zip fs (map (λ planned. start_of (network planned) planned) (map planned fs)))
      ≡ unless (first_of (λ game planned. held_fault (network planned) game planned) game (map planned fs))
      (Ok (map (λ planned. ready_of (network planned) planned) (map planned fs)))
  readied_all game [] = refl
  readied_all game (f ∷ fs) = more (held_fault (network (planned f)) game (planned f)) _
      (ready_of (network (planned f)) (planned f)) _ _ (readied_all (game + 1) fs)

combine : {A : Type 0} (first last : Option FileFault) (begun : A) (keys : Result (List Seat) FileFault)
    (ready : List Ready) (make : A → Result (List Ready) FileFault) (out : List Seat → List Ready → Contest)
    → make begun ≡ unless last (Ok ready)
    → unless first (keys >>= λ seats. unless last (Ok (out seats ready))) ≡ (unless first (Ok begun) >>= λ games. keys
    >>= λ seats. make games >>= λ made. Ok (out seats made))
combine (Some fault) last begun keys ready make out e = refl
combine None last begun (Err fault) ready make out e = refl
combine None last begun (Ok seats) ready make out e = rw e (go last)
  where
    go : (last : Option FileFault) → unless last
        (Ok (out seats ready)) ≡ (unless last (Ok ready) >>= λ made. Ok (out seats made))
    go None = refl
    go (Some fault) = refl

module _ {A B C : Type 0} (f : B → C) (g : A → B) where
  map-map : (xs : List A) → map f (map g xs) ≡ map (λ x. f (g x)) xs
  map-map [] = refl
  map-map (x ∷ xs) = ap (λ (ys : List C). f (g x) ∷ ys) (map-map xs)

abbrev key_list : Fixture → List (List ℕ)
key_list fixture = fixture.keys.items

abbrev name_of : Fixture → List ℕ
name_of fixture = fixture.network

abbrev pub network_in : List (List ℕ) → List Network → Planned → Network
network_in names networks planned = network_named names networks planned.network

-- what is made of the tournament, as its code makes it
module _ (seed : List ℕ) (schedule : ScheduleKind) (fs : List Fixture) (names : List (List ℕ))
    (networks : List Network) where
  abbrev made_of : List Planned → Result Contest FileFault
  made_of ps = each_in (begun (network_in names networks)) 0 ps >>= λ games. key_table (map key_list fs) >>=
      λ seats. each_in readied 0 (zip fs games) >>= λ made. Ok
      (record { seed = seed; schedule = schedule; matches = made; keys = seats })

  contest_is : names ≡ names_of (map planned fs) → contest_in
      (record { seed = seed; schedule = schedule; matches = map planned fs })
      networks ≡ made_of (map planned fs)
  contest_is is =
      let network = network_in names networks in
      let ps = map planned fs in
      rw (← is, begun_all network 0 ps, ← map-map (λ (p : Planned). p.keys) planned fs)
      (combine _ _ (map (λ p. start_of (network p) p) ps) (key_table (map (λ (p : Planned). p.keys) ps)) _
      (λ games. each_in readied 0 (zip fs games))
      (λ seats made. record { seed = seed; schedule = schedule; matches = made; keys = seats })
      (readied_all network 0 fs))

  module _ (is : names ≡ first_seen (map name_of fs)) where
    contest_here : contest_in (record { seed = seed; schedule = schedule; matches = map planned fs }) networks
        ≡ made_of (map planned fs)
    contest_here = contest_is (is ∙ sym (ap first_seen (map-map (λ (p : Planned). p.network) planned fs)))

    pub no_game : (fault : FileFault) → Fails fault (each_in (begun (network_in names networks)) 0 (map planned fs))
        → Fails fault (contest_in (record { seed = seed; schedule = schedule; matches = map planned fs }) networks)
    no_game fault = fails_with fault (each_in (begun (network_in names networks)) 0 (map planned fs)) _
        (λ h. contest_here ∙ rw h refl)

    pub no_keys : (games : List Play) (fault : FileFault) → each_in (begun (network_in names networks)) 0
        (map planned fs) ≡ Ok games → Fails fault (key_table (map key_list fs))
        → Fails fault (contest_in (record { seed = seed; schedule = schedule; matches = map planned fs }) networks)
    no_keys games fault played = fails_with fault (key_table (map key_list fs)) _
        (λ h. contest_here ∙ rw (played, h) refl)

    pub not_ready : (games : List Play) (seats : List Seat) (fault : FileFault)
        → each_in (begun (network_in names networks)) 0 (map planned fs) ≡ Ok games
        → key_table (map key_list fs) ≡ Ok seats
        → Fails fault (each_in readied 0 (zip fs games))
        → Fails fault (contest_in (record { seed = seed; schedule = schedule; matches = map planned fs }) networks)
    not_ready games seats fault played keyed =
        fails_with fault (each_in readied 0 (zip fs games)) _ (λ h. contest_here ∙ rw (played, keyed, h) refl)

    pub all_made : (games : List Play) (seats : List Seat) (made : List Ready)
        → each_in (begun (network_in names networks)) 0 (map planned fs) ≡ Ok games
        → key_table (map key_list fs) ≡ Ok seats
        → each_in readied 0 (zip fs games) ≡ Ok made → contest_in
        (record { seed = seed; schedule = schedule; matches = map planned fs })
        networks ≡ Ok (record { seed = seed; schedule = schedule; matches = made; keys = seats })
    all_made games seats made played keyed readied = contest_here ∙ rw (played, keyed, readied) refl

-- the matches of a contest that is made
pub ready_are : (plan : Plan) (networks : List Network) (made : Contest) → contest_in plan networks ≡ Ok made
    → made.matches ≡ all_ready plan networks
ready_are plan networks made is = go _ (key_table (map (λ (p : Planned). p.keys) plan.matches)) _ is
  where
    out : List Seat → Contest
    out keys = record { seed = plan.seed; schedule = plan.schedule; matches = all_ready plan networks; keys = keys }

    go : (first : Option FileFault) (keys : Result (List Seat) FileFault) (last : Option FileFault)
        → unless first (keys >>= λ seats. unless last (Ok (out seats))) ≡ Ok made
        → made.matches ≡ all_ready plan networks
    go (Some fault) keys last e = absurd cc
    go None (Err fault) last e = absurd cc
    go None (Ok seats) (Some fault) e = absurd cc
    go None (Ok seats) None e =
        let same : out seats ≡ made = cc in
        sym (ap (λ (c : Contest). c.matches) same)
