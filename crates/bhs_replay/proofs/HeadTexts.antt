-- The tokens of a head as a concatenation of its parts.
use Rattle.std.proofs.Common.{◌≡◌, ℕ, List, [], ◌∷◌, ◌++◌, codes, decimal, refl, ap, ◌∙◌, append_assoc}
use Rattle.std.specs.Prelude.{map}
use Rattle.json.specs.Token.{Token}
use Rattle.bhs_net.specs.Network.{Network, nodes_of}
use Rattle.bhs_model.specs.declared.setups.Setup.{Setup}
use Rattle.bhs_replay.specs.declared.heads.Version.{Version}
use Rattle.bhs_replay.specs.declared.heads.Version.TheVariants.{One, Two, Three}
use Rattle.bhs_replay.specs.Head.{links_of, listed, link_data, whole, end_data, listing_data, head_data}
use Rattle.bhs_replay.specs.HeadTokens.{data_tokens, listing_tokens, doom_tokens, version_number}

-- the concatenation of two parts
joined : (start mid end p q : List Token) → mid ≡ start ++ p → end ≡ mid ++ q → end ≡ start ++ (p ++ q)
joined start mid end p q first second = second ∙ ap (λ t. t ++ q) first ∙ append_assoc start p q

abbrev pub member_tokens : List ℕ → ℕ → List Token
member_tokens name n = Token.key name ∷ Token.number (decimal n) ∷ []

abbrev pub links_tokens : Network → List Token
links_tokens net = Token.key (codes "links") ∷ data_tokens (listed (map link_data (links_of net)))

-- the parts before and after the black holes and dark links
abbrev front : Setup → List Token → List Token
front setup rest = Token.begin_object ∷ (member_tokens (codes "agents") setup.agents
    ++ (member_tokens (codes "board") setup.board ++ rest))

abbrev pub back : Version → Network → Setup → List Token
back version net setup =
    member_tokens (codes "home") setup.home ++ (links_tokens net ++ (member_tokens (codes "nodes") (nodes_of net)
    ++ (member_tokens (codes "quota") setup.quota
    ++ (member_tokens (codes "replay") (version_number version) ++ Token.end_object ∷ []))))

listing_same : (version : Version) (net : Network) (setup : Setup)
    → front setup (listing_tokens setup ++ back version net setup)
    ≡ data_tokens (listing_data (version_number version) net setup)
listing_same version net setup =
    ap (λ rest. front setup (Token.key (codes "dark") ∷ rest))
    (append_assoc (data_tokens (listed (map end_data setup.dark)))
    (Token.key (codes "holes") ∷ data_tokens (listed (map whole setup.holes))) (back version net setup))

head_tokens : (version : Version) (net : Network) (setup : Setup)
    → front setup (doom_tokens version setup ++ back version net setup) ≡ data_tokens (head_data version net setup)
head_tokens One net setup = refl
head_tokens Two net setup = listing_same Two net setup
head_tokens Three net setup = listing_same Three net setup

-- the tokens of all parts
pub gathered : (version : Version) (net : Network) (setup : Setup) (a : List Token) {b c d e f g h i j k : List Token}
    → b ≡ a ++ Token.begin_object ∷ [] → c ≡ b ++ member_tokens (codes "agents") setup.agents
    → d ≡ c ++ member_tokens (codes "board") setup.board
    → e ≡ d ++ doom_tokens version setup → f ≡ e ++ member_tokens (codes "home") setup.home → g ≡ f ++ links_tokens net
    → h ≡ g ++ member_tokens (codes "nodes") (nodes_of net)
    → i ≡ h ++ member_tokens (codes "quota") setup.quota → j ≡ i ++ member_tokens (codes "replay")
    (version_number version) → k ≡ j ++ Token.end_object ∷ []
    → k ≡ a ++ data_tokens (head_data version net setup)
gathered version net setup a {b} {c} {d} {e} {f} {g} {h} {i} {j} {k} begun agents board destroyers home links nodes
    quota replay ended =
    let rest_1 = joined i j k _ _ replay ended in
    let rest_2 = joined h i k _ _ quota rest_1 in
    let rest_3 = joined g h k _ _ nodes rest_2 in
    let rest_4 = joined f g k _ _ links rest_3 in
    let rest_5 = joined e f k _ _ home rest_4 in
    let rest_6 = joined d e k _ _ destroyers rest_5 in
    let rest_7 = joined c d k _ _ board rest_6 in
    let rest_8 = joined b c k _ _ agents rest_7 in
    let all = joined a b k _ _ begun rest_8 in
    all ∙ ap (λ t. a ++ t) (head_tokens version net setup)
