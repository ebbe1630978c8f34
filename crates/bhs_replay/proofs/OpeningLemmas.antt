-- Which lines open a match.
use Rattle.std.proofs.Common.{◌≡◌, ◌≢◌, ◌⊎◌, inl, inr, ℕ, Bool, true, false, cond, not, if◌then◌else◌, ◌≤◌, nat_le}
use Rattle.std.proofs.Common.{List, [], bytes_eq, Option, Some, None, option_and_then, unwrap_or, refl, sym, subst, ap}
use Rattle.std.proofs.Common.{◌∙◌}
use Rattle.std.specs.Str.{IsUtf8, is_utf8}
use Rattle.std.proofs.lemmas.Str.{is_utf8-from_IsUtf8, IsUtf8-from_is_utf8}
use Rattle.std.proofs.lemmas.Slice.Eq.{bytes_eq-Decides}
use Rattle.std.proofs.lemmas.Bool.{and_parts, ltb-true, leb-true, false≢true}
use Rattle.serde_json.specs.Data.{Data}
use Rattle.serde_json.specs.Read.{read}
use Rattle.bhs_net.specs.declared.faults.NetFault.{NetFault}
use Rattle.bhs_net.specs.declared.faults.NetFault.TheVariants as net_faults
use Rattle.bhs_net.specs.Network.{Network, nodes_of, Makes, IsPortLabelled}
use Rattle.bhs_net.specs.Faults.{Refuses, IsFirstFault}
use Rattle.bhs_net.proofs.Made.{no_fault, same_network}
use Rattle.bhs_net.specs.declared.links.Link.{Link}
use Rattle.bhs_model.specs.declared.limits.TheConstants.{MAX_AGENTS, MAX_QUOTA, MAX_BOARD}
use Rattle.bhs_model.specs.declared.setups.Setup.{Setup}
use Rattle.bhs_model.specs.Setups.{normal, IsNormal}
use Rattle.bhs_world.specs.declared.faults.SetupFault.{SetupFault}
use Rattle.bhs_world.specs.declared.faults.SetupFault.TheVariants as setup_faults
use Rattle.bhs_world.specs.Faults.{first_fault, is_within, IsWithinLimits}
use Rattle.bhs_world.proofs.JudgeLemmas.{all_fit}
use Rattle.bhs_match.specs.Matches.{Play}
use Rattle.bhs_replay.specs.declared.heads.Version.{Version}
use Rattle.bhs_replay.specs.Head.{links_of, head_data, head_line, CanSay}
use Rattle.bhs_replay.specs.HeadReading.{HeadFields, says_in, head_says}
use Rattle.bhs_replay.specs.Opening.{IsHead, OpensAs, Starts}
use Rattle.bhs_replay.proofs.HeadReads.{HeadFits, read-head_line, head_utf8, said, says_in-head}
use Rattle.bhs_replay.proofs.FitLemmas.{head_fits}

-- ---- what a line says

pub says-read : (line : List ℕ) (value : Data) → IsUtf8 line → read line ≡ Some value → says_in value ≡ head_says line
says-read line value valid found =
    sym (ap (λ b. option_and_then says_in (cond b (read line) None)) (is_utf8-from_IsUtf8 line valid)
    ∙ ap (option_and_then says_in) found)

unread : (b : Bool) (r : Option Data) → (b ≡ true → r ≡ None) → option_and_then says_in (cond b r None) ≡ None
unread true r none = ap (option_and_then says_in) (none refl)
unread false r none = refl

pub says-unread : (line : List ℕ) → (IsUtf8 line → read line ≡ None) → None ≡ head_says line
says-unread line none = sym (unread (is_utf8 line) (read line) (λ h. none (IsUtf8-from_is_utf8 line h)))

-- a head line says what it was made of
pub says-head : (line : List ℕ) (version : Version) (net : Network) (setup : Setup) → HeadFits net setup
    → CanSay version net setup → line ≡ head_line version net setup
    → head_says line ≡ Some (said version net setup)
says-head line version net setup fits can is =
    sym (says-read line (head_data version net setup) (subst IsUtf8 (sym is) (head_utf8 net setup fits version))
    (ap read is ∙ read-head_line net setup fits version)) ∙ says_in-head version net setup fits can

pub same_says : (says other : HeadFields) → Some says ≡ Some other → says ≡ other
same_says says other is = ap (λ o. unwrap_or o says) is

-- ---- the match that was started

pub no_net : (nodes : ℕ) (links links' : List Link) (setup : Setup) (fault : NetFault) → links' ≡ links
    → fault ≢ net_faults.Memory → Refuses nodes links' fault
    → (net : Network) → Makes nodes links net → first_fault net setup ≢ None
no_net nodes links links' setup fault same not_memory refused net makes fit = elim refused [
  | inl memory ↦ not_memory memory
  | inr first ↦ no_fault nodes links net makes fault (subst (λ ls. IsFirstFault nodes ls fault) same first).holds
]

pub no_setup : (nodes : ℕ) (links links' : List Link) (setup : Setup) (net : Network) (fault : SetupFault)
    → links' ≡ links → Makes nodes links' net → fault ≢ setup_faults.Memory
    → (fault ≡ setup_faults.Memory) ⊎ (first_fault net setup ≡ Some fault) → (other : Network) → Makes nodes links other
    → first_fault other setup ≢ None
no_setup nodes links links' setup net fault same makes not_memory refused other made fit = elim refused [
  | inl memory ↦ not_memory memory
  | inr first ↦
      let is : net ≡ other = same_network nodes links net other (subst (λ ls. Makes nodes ls net) same makes) made in
      let found : Some fault ≡ None = sym first ∙ (ap (λ n. first_fault n setup) is ∙ fit) in
      absurd (cc)
]

pub started_so : (nodes : ℕ) (links links' : List Link) (setup : Setup) (net : Network) (play : Play) → links' ≡ links
    → Makes nodes links' net → first_fault net setup ≡ None
    → play ≡ record { net = net; setup = normal net setup; log = [] }
    → Makes nodes links play.net × (first_fault play.net setup ≡ None)
    × (play ≡ record { net = play.net; setup = normal play.net setup; log = [] })
started_so nodes links links' setup net play same makes fits is =
    let net_is : net ≡ play.net = sym (ap (λ p. p.net) is) in (
      subst (λ n. Makes nodes links n) net_is (subst (λ ls. Makes nodes ls net) same makes),
      subst (λ n. first_fault n setup ≡ None) net_is fits,
      is ∙ ap (λ n. record { net = n; setup = normal n setup; log = [] }) net_is,
    )

-- ---- a setup without a fault satisfies the limits

all_true : (home holes agents quota board dark : Bool)
    → (if not home then Some setup_faults.Home
    else (if not holes then Some setup_faults.Hole else (if not agents then Some setup_faults.Agents
    else (if not quota then Some setup_faults.Quota
    else (if not board then Some setup_faults.Board
    else (if not dark then Some setup_faults.Dark else None)))))) ≡ None
    → (home ≡ true) × ((holes ≡ true) × ((agents ≡ true) × ((quota ≡ true) × ((board ≡ true) × (dark ≡ true)))))
all_true true true true true true true none = (refl, (refl, (refl, (refl, (refl, refl)))))
all_true true true true true true false none = absurd (cc)
all_true true true true true false dark none = absurd (cc)
all_true true true true false board dark none = absurd (cc)
all_true true true false quota board dark none = absurd (cc)
all_true true false agents quota board dark none = absurd (cc)
all_true false holes agents quota board dark none = absurd (cc)

within_parts : (least most n : ℕ) → is_within least most n ≡ true → (least ≤ n) × (n ≤ most)
within_parts least most n is = let parts = and_parts (nat_le least n) (nat_le n most) is in
    (leb-true least n parts.0, leb-true n most parts.1)

pub fit_within : (net : Network) (setup : Setup) → IsPortLabelled net → first_fault net setup ≡ None
    → IsWithinLimits net setup
fit_within net setup labelled none =
    let all = all_true _ _ _ _ _ _ none in
    let agents = within_parts 1 MAX_AGENTS setup.agents all.1.1.0 in
    let quota = within_parts 1 MAX_QUOTA setup.quota all.1.1.1.0 in
    all_fit net setup labelled (ltb-true setup.home (nodes_of net) all.0) all.1.0 agents.0 agents.1 quota.0 quota.1
    (leb-true setup.board MAX_BOARD all.1.1.1.1.0) all.1.1.1.1.1

-- ---- case analysis: the line is a head, or is not

pub no_says : (line : List ℕ) → None ≡ head_says line → (net : Network) (setup : Setup) → ¬ IsHead line net setup
no_says line none net setup head =
    let fits = head_fits net head.made.network setup (fit_within net setup head.made.network.labelled head.fits) in
    let both : None ≡ Some (said head.version net setup) =
    none ∙ says-head line head.version net setup fits head.can_say head.spelled in
    absurd (cc)

module _ (line : List ℕ) (says : HeadFields) (is : Some says ≡ head_says line) where
  -- the fields of a head's line
  says_of : (net : Network) (setup : Setup) (head : IsHead line net setup) → says ≡ said head.version net setup
  says_of net setup head =
      same_says says (said head.version net setup)
      (is ∙ says-head line head.version net setup
      (head_fits net head.made.network setup (fit_within net setup head.made.network.labelled head.fits))
      head.can_say head.spelled)

  pub not_started : Starts says None → (net : Network) (setup : Setup) → ¬ IsHead line net setup
  not_started starts net setup head =
      let same : Starts (said head.version net setup) None =
      subst (λ s. Starts s None) (says_of net setup head) starts in
      same net head.made head.fits

  -- The match that the reader starts is the head's match.
  started_is : (play : Play) → Starts says (Some play) → (net : Network) (setup : Setup) (head : IsHead line net setup)
      → play ≡ record { net = net; setup = setup; log = [] }
  started_is play starts net setup head =
      let same : Starts (said head.version net setup) (Some play) =
      subst (λ s. Starts s (Some play)) (says_of net setup head) starts in
      let net_is : play.net ≡ net = same_network (nodes_of net) (links_of net) play.net net same.0 head.made in
      same.2 ∙ ap (λ n. record { net = n; setup = normal n setup; log = [] }) net_is
      ∙ ap (λ s. record { net = net; setup = s; log = [] }) head.normal.same

  pub cannot_say : (play : Play) → Starts says (Some play) → ¬ CanSay says.version play.net play.setup
      → (net : Network) (setup : Setup) → ¬ IsHead line net setup
  cannot_say play starts cannot net setup head =
      let version : says.version ≡ head.version = ap (λ s. s.version) (says_of net setup head) in
      cannot (subst (λ v. CanSay v play.net play.setup) (sym version)
      (subst (λ (p : Play). CanSay head.version p.net p.setup) (sym (started_is play starts net setup head))
      head.can_say))

  pub spelled_otherwise : (play : Play) → Starts says (Some play)
      → bytes_eq line (head_line says.version play.net play.setup) ≡ false → (net : Network) (setup : Setup)
      → ¬ IsHead line net setup
  spelled_otherwise play starts differs net setup head =
      let version : says.version ≡ head.version = ap (λ s. s.version) (says_of net setup head) in
      let play_is = started_is play starts net setup head in
      let same : line ≡ head_line says.version play.net play.setup =
      head.spelled ∙ sym (ap (λ v. head_line v play.net play.setup) version
      ∙ ap (λ (p : Play). head_line head.version p.net p.setup) play_is)
      in
      false≢true (sym differs ∙ (bytes_eq-Decides line (head_line says.version play.net play.setup)).1 same)

  pub is_head : (play : Play) → Starts says (Some play) → IsWithinLimits play.net play.setup
      → IsNormal play.net play.setup → CanSay says.version play.net play.setup
      → bytes_eq line (head_line says.version play.net play.setup) ≡ true → IsHead line play.net play.setup
  is_head play starts within normal_too can same =
      let spelled : line ≡ head_line says.version play.net play.setup =
      (bytes_eq-Decides line (head_line says.version play.net play.setup)).0 same in
      let all : says ≡ said says.version play.net play.setup =
      same_says says (said says.version play.net play.setup)
      (is ∙ says-head line says.version play.net play.setup
      (head_fits play.net starts.0.network play.setup within) can spelled)
      in
      let starts_so : Starts (said says.version play.net play.setup) (Some play) =
      subst (λ s. Starts s (Some play)) all starts in
      record {
        version = says.version;
        can_say = can;
        spelled = spelled;
        made = starts_so.0;
        fits = starts_so.1;
        normal = normal_too;
      }

  -- A line with these fields is judged by comparing it with the canonical spelling.
  pub opens_if : (play : Play) → Starts says (Some play) → IsWithinLimits play.net play.setup
      → IsNormal play.net play.setup → (version : Version) → version ≡ says.version → CanSay version play.net play.setup
      → (same : Bool) → same ≡ bytes_eq line (head_line version play.net play.setup)
      → OpensAs line (if same then Some play else None)
  opens_if play starts within normal_too version told can true same = (
    is_head play starts within normal_too (subst (λ v. CanSay v play.net play.setup) told can)
        (sym (same ∙ ap (λ v. bytes_eq line (head_line v play.net play.setup)) told)),
    ap (λ (p : Play). p.log) starts.2,
  )
  opens_if play starts within normal_too version told can false same =
      spelled_otherwise play starts (sym (same ∙ ap (λ v. bytes_eq line (head_line v play.net play.setup)) told))
