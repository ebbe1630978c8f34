-- A head line is read as what it says; it is flat, and UTF-8.
use Rattle.std.proofs.Common.{◌≡◌, ℕ, suc, ◌<◌, ◌≤◌, ◌^◌, nat_lt, true, IsUtf8, List, [], ◌∷◌, codes, length}
use Rattle.std.proofs.Common.{Option, Some, refl, sym, subst, ap₂, ◌∙◌, arith}
use Rattle.std.specs.Prelude.{map, ⊤}
use Rattle.std.proofs.lemmas.Bool.{lt-ltb}
use Rattle.serde_json.specs.Data.{Data, Members, no_members, member}
use Rattle.serde_json.specs.View.{items_of}
use Rattle.serde_json.specs.Read.{read}
use Rattle.bhs_net.specs.declared.links.Link.{Link}
use Rattle.bhs_net.specs.Network.{Network, nodes_of}
use Rattle.bhs_model.specs.declared.setups.Setup.{Setup}
use Rattle.bhs_replay.specs.declared.heads.Version.{Version}
use Rattle.bhs_replay.specs.declared.heads.Version.TheVariants.{One, Two, Three}
use Rattle.bhs_replay.specs.Head.{links_of, whole, listed, link_data, end_data, hole_data, listing_data, head_data}
use Rattle.bhs_replay.specs.Head.{head_line, CanSay}
use Rattle.bhs_replay.specs.HeadReading.{HeadFields, each, number_in, pair_in, link_in, says_in}
use Rattle.bhs_replay.proofs.Flat.{IsFlat}
use Rattle.bhs_replay.proofs.LineData.{IsOfLine, AreOfLine, HaveOfLine, wide, read-line, line_flat, line_utf8}

module _ {A : Type 0} (P : A → Type 0) where
  abbrev pub AllOf : List A → Type 0
  AllOf [] = ⊤
  AllOf (x ∷ xs) = P x × AllOf xs

abbrev pub IsSmall : ℕ → Type 0
IsSmall n = n < 2 ^ 16

abbrev pub IsSmallEnd : ℕ × ℕ → Type 0
IsSmallEnd end = IsSmall end.0 × IsSmall end.1

abbrev pub IsSmallLink : Link → Type 0
IsSmallLink link = IsSmall link.v × (IsSmall link.p × (IsSmall link.w × IsSmall link.q))

-- each number of a head has 16 bits
pub record HeadFits (net : Network) (setup : Setup) : Type 0 where
  pub agents : IsSmall setup.agents
  pub board : IsSmall setup.board
  pub home : IsSmall setup.home
  pub quota : IsSmall setup.quota
  pub nodes : IsSmall (nodes_of net)
  pub holes : AllOf IsSmall setup.holes
  pub dark : AllOf IsSmallEnd setup.dark
  pub links : AllOf IsSmallLink (links_of net)

-- ---- a head is data of a line

-- a head's members, starting at the links
abbrev last_members : ℕ → Network → Setup → Members
last_members n net setup =
    member (codes "links") (listed (map link_data (links_of net)))
    (member (codes "nodes") (whole (nodes_of net))
    (member (codes "quota") (whole setup.quota) (member (codes "replay") (whole n) no_members)))

module _ (valid : Type 0) where
  module _ {A : Type 0} (made : A → Data) (Fits : A → Type 0) (deep : ℕ)
      (one : (x : A) → Fits x → IsOfLine valid (made x) deep) where
    each_of_line : (xs : List A) → AllOf Fits xs → AreOfLine valid (items_of (map made xs)) deep
    each_of_line [] all = tt
    each_of_line (x ∷ xs) all = (one x all.0, each_of_line xs all.1)

  end_of_line : (end : ℕ × ℕ) → IsSmallEnd end → IsOfLine valid (end_data end) 1
  end_of_line end small = (wide end.0 small.0, (wide end.1 small.1, tt))

  link_of_line : (link : Link) → IsSmallLink link → IsOfLine valid (link_data link) 1
  link_of_line link small = (
    wide link.v small.0,
    (wide link.p small.1.0, (wide link.w small.1.1.0, (wide link.q small.1.1.1, tt))),
  )

  hole_of_line : (holes : List ℕ) → AllOf IsSmall holes → IsOfLine valid (hole_data holes) 2
  hole_of_line [] all = tt
  hole_of_line (hole ∷ holes) all = wide hole all.0

  module _ (net : Network) (setup : Setup) (fits : HeadFits net setup) where
    last_of_line : (n : ℕ) → IsSmall n → HaveOfLine valid (last_members n net setup) 2
    last_of_line n few = (
      each_of_line link_data IsSmallLink 1 link_of_line (links_of net) fits.links,
      (wide (nodes_of net) fits.nodes, (wide setup.quota fits.quota, (wide n few, tt))),
    )

    listing_of_line : (n : ℕ) → IsSmall n → IsOfLine valid (listing_data n net setup) 3
    listing_of_line n few =
        let dark = each_of_line end_data IsSmallEnd 1 end_of_line setup.dark fits.dark in
        let holes = each_of_line whole IsSmall 1 wide setup.holes fits.holes in
        let home = wide setup.home fits.home in
        let last = last_of_line n few in
        (refl, refl, (wide setup.agents fits.agents, (wide setup.board fits.board, (dark, (holes, (home, last))))))

    head_of_line : (version : Version) → IsOfLine valid (head_data version net setup) 3
    head_of_line One =
        let hole = hole_of_line setup.holes fits.holes in
        let home = wide setup.home fits.home in
        let last = last_of_line 1 (omega arith) in
        (refl, refl, (wide setup.agents fits.agents, (wide setup.board fits.board, (hole, (home, last)))))
    head_of_line Two = listing_of_line 2 (omega arith)
    head_of_line Three = listing_of_line 3 (omega arith)

module _ (net : Network) (setup : Setup) (fits : HeadFits net setup) (version : Version) where
  pub read-head_line : read (head_line version net setup) ≡ Some (head_data version net setup)
  read-head_line = read-line (head_data version net setup) 3 (omega arith) (head_of_line ⊥ net setup fits version)

  pub head_flat : IsFlat (head_line version net setup)
  head_flat = line_flat ⊥ (head_data version net setup) 3 (head_of_line ⊥ net setup fits version)

  pub head_utf8 : IsUtf8 (head_line version net setup)
  head_utf8 = line_utf8 (head_data version net setup) 3 (head_of_line ⊤ net setup fits version)

-- ---- reading the data gives the parts that they were made from

small : (n : ℕ) → IsSmall n → nat_lt n (2 ^ 16) ≡ true
small n fits = lt-ltb n (2 ^ 16) fits

module _ {A : Type 0} (made : A → Data) (shape : Data → Option A) (Fits : A → Type 0)
    (back : (x : A) → Fits x → shape (made x) ≡ Some x) where
  each_back : (xs : List A) → AllOf Fits xs → each shape (items_of (map made xs)) ≡ Some xs
  each_back [] all = refl
  each_back (x ∷ xs) all = rw (back x all.0, each_back xs all.1) refl

number_back : (n : ℕ) → IsSmall n → number_in (whole n) ≡ Some n
number_back n fits = rw (small n fits) refl

pair_back : (end : ℕ × ℕ) → IsSmallEnd end → pair_in (end_data end) ≡ Some end
pair_back end fits = rw (small end.0 fits.0, small end.1 fits.1) refl

link_back : (link : Link) → IsSmallLink link → link_in (link_data link) ≡ Some link
link_back link fits = rw (small link.v fits.0, small link.p fits.1.0, small link.w fits.1.1.0, small link.q fits.1.1.1)
    refl

abbrev pub said : Version → Network → Setup → HeadFields
said version net setup = record { version = version; nodes = nodes_of net; links = links_of net; setup = setup }

-- ---- version 1

one_more_is_two : (n : ℕ) → suc (suc n) ≤ 1 → ⊥
one_more_is_two n few = omega arith

abbrev told_with : Network → Setup → List ℕ → List (ℕ × ℕ) → HeadFields
told_with net setup holes dark = said One net (record setup { holes = holes; dark = dark })

says_none : (net : Network) (setup : Setup) → HeadFits net setup → setup.holes ≡ []
    → says_in (head_data One net setup) ≡ Some (told_with net setup [] [])
says_none net setup fits is =
    rw (
      is,
      each_back link_data link_in IsSmallLink link_back (links_of net) fits.links,
      small setup.home fits.home,
      small setup.agents fits.agents,
      small setup.quota fits.quota,
      small setup.board fits.board,
      small (nodes_of net) fits.nodes,
    ) refl

says_hole : (net : Network) (setup : Setup) (hole : ℕ) → HeadFits net setup → IsSmall hole → setup.holes ≡ hole ∷ []
    → says_in (head_data One net setup) ≡ Some (told_with net setup (hole ∷ []) [])
says_hole net setup hole fits hole_fits is =
    rw (
      is,
      each_back link_data link_in IsSmallLink link_back (links_of net) fits.links,
      small hole hole_fits,
      small setup.home fits.home,
      small setup.agents fits.agents,
      small setup.quota fits.quota,
      small setup.board fits.board,
      small (nodes_of net) fits.nodes,
    ) refl

told_whole : (net : Network) (setup : Setup) (holes : List ℕ) → setup.holes ≡ holes → setup.dark ≡ []
    → Some (told_with net setup holes []) ≡ Some (said One net setup)
told_whole net setup holes is no_dark = ap₂ (λ (hs : List ℕ) (ds : List (ℕ × ℕ)). Some (told_with net setup hs ds))
    (sym is) (sym no_dark)

says_one : (net : Network) (setup : Setup) → HeadFits net setup → setup.dark ≡ [] → (holes : List ℕ)
    → setup.holes ≡ holes → length setup.holes ≤ 1
    → says_in (head_data One net setup) ≡ Some (said One net setup)
says_one net setup fits no_dark [] is few = says_none net setup fits is ∙ told_whole net setup [] is no_dark
says_one net setup fits no_dark (hole ∷ []) is few =
    says_hole net setup hole fits (subst (λ (hs : List ℕ). AllOf IsSmall hs) is fits.holes).0 is
    ∙ told_whole net setup (hole ∷ []) is no_dark
says_one net setup fits no_dark (hole ∷ other ∷ holes) is few =
    absurd (one_more_is_two (length holes) (subst (λ (hs : List ℕ). length hs ≤ 1) is few))

pub says_in-head : (version : Version) (net : Network) (setup : Setup) → HeadFits net setup → CanSay version net setup
    → says_in (head_data version net setup) ≡ Some (said version net setup)
says_in-head One net setup fits can = says_one net setup fits can.1.1 setup.holes refl can.1.0
says_in-head Two net setup fits can =
    rw (
      each_back link_data link_in IsSmallLink link_back (links_of net) fits.links,
      each_back whole number_in IsSmall number_back setup.holes fits.holes,
      each_back end_data pair_in IsSmallEnd pair_back setup.dark fits.dark,
      small setup.home fits.home,
      small setup.agents fits.agents,
      small setup.quota fits.quota,
      small setup.board fits.board,
      small (nodes_of net) fits.nodes,
    ) refl
says_in-head Three net setup fits can =
    rw (
      each_back link_data link_in IsSmallLink link_back (links_of net) fits.links,
      each_back whole number_in IsSmall number_back setup.holes fits.holes,
      each_back end_data pair_in IsSmallEnd pair_back setup.dark fits.dark,
      small setup.home fits.home,
      small setup.agents fits.agents,
      small setup.quota fits.quota,
      small setup.board fits.board,
      small (nodes_of net) fits.nodes,
    ) refl
