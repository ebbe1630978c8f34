-- A text comes to one stage.
use Rattle.std.proofs.Common.{◌≡◌, ℕ, List, [], ◌∷◌, ◌++◌, length, Some, refl, sym, subst, ap, ap₂, ◌∙◌, arith}
use Rattle.std.proofs.lemmas.List.{same_from_push, length_push}
use Rattle.bhs_net.specs.declared.links.Link.{Link}
use Rattle.bhs_net.specs.Network.{Network, nodes_of, Makes}
use Rattle.bhs_net.proofs.Made.{same_network}
use Rattle.bhs_model.specs.declared.setups.Setup.{Setup}
use Rattle.bhs_model.specs.declared.events.Event.{Event}
use Rattle.bhs_wire.specs.Lines.{rest}
use Rattle.bhs_replay.specs.declared.faults.ReplayFault.{ReplayFault}
use Rattle.bhs_replay.specs.declared.faults.ReplayFault.TheVariants as fault
use Rattle.bhs_replay.specs.Head.{links_of}
use Rattle.bhs_replay.specs.HeadReading.{HeadFields, head_says}
use Rattle.bhs_replay.specs.Opening.{IsHead}
use Rattle.bhs_replay.specs.Stages.{ReadState, Opens, Goes, Ends, Wrong, after_line, Follows, opens, no_head, goes}
use Rattle.bhs_replay.specs.Stages.{goes_past, stays, Leads, begins, follows, with_rest, Comes, ended}
use Rattle.bhs_replay.proofs.HeadReads.{said}
use Rattle.bhs_replay.proofs.FitLemmas.{head_fits}
use Rattle.bhs_replay.proofs.OpeningLemmas.{says-head, same_says, fit_within}

-- ---- a line is the head of one match

says_of : (line : List ℕ) (net : Network) (setup : Setup) (head : IsHead line net setup)
    → head_says line ≡ Some (said head.version net setup)
says_of line net setup head = says-head line head.version net setup
    (head_fits net head.made.network setup (fit_within net setup head.made.network.labelled head.fits))
    head.can_say head.spelled

module _ (line : List ℕ) (net other : Network) (setup too : Setup) (head : IsHead line net setup)
    (again : IsHead line other too) where
  same_said : said head.version net setup ≡ said again.version other too
  same_said = same_says (said head.version net setup) (said again.version other too)
      (sym (says_of line net setup head) ∙ says_of line other too again)

  one_setup : setup ≡ too
  one_setup = ap (λ (s : HeadFields). s.setup) same_said

  one_network : net ≡ other
  one_network =
      same_network (nodes_of net) (links_of net) net other head.made
      (subst (λ (n : ℕ). Makes n (links_of net) other) (sym (ap (λ (s : HeadFields). s.nodes) same_said))
      (subst (λ (links : List Link). Makes (nodes_of other) links other)
      (sym (ap (λ (s : HeadFields). s.links) same_said)) again.made))

-- ---- a line leads to one stage

abbrev Next : ReadState → List ℕ → ReadState → Type 0
Next Opens line (Goes net setup events) = IsHead line net setup × (events ≡ [])
Next Opens line (Wrong found) = (found ≡ fault.Head) × ((net : Network) (setup : Setup) → ¬ IsHead line net setup)
Next Opens line Opens = ⊥
Next Opens line (Ends net setup events) = ⊥
Next (Goes net setup events) line to = to ≡ after_line net setup events line
Next (Ends net setup events) line to = to ≡ Wrong fault.End
Next (Wrong found) line to = to ≡ Wrong found

next_of : (from to : ReadState) (line : List ℕ) → Follows from line to → Next from line to
next_of from to line (opens same net setup head) = (head, refl)
next_of from to line (no_head same none) = (refl, none)
next_of from to line (goes same net setup events next is) = is
next_of from to line (goes_past same net setup events) = refl
next_of from to line (stays same found) = refl

one_opening : (line : List ℕ) (to other : ReadState) → Next Opens line to → Next Opens line other → to ≡ other
one_opening line Opens other is too = absurd is
one_opening line (Ends net setup events) other is too = absurd is
one_opening line (Goes net setup events) Opens is too = absurd too
one_opening line (Goes net setup events) (Ends n s e) is too = absurd too
one_opening line (Goes net setup events) (Wrong found) is too = absurd (too.1 net setup is.0)
one_opening line (Goes net setup events) (Goes n s e) is too =
    let nets : net ≡ n = one_network line net n setup s is.0 too.0 in
    let setups : setup ≡ s = one_setup line net n setup s is.0 too.0 in
    let all : events ≡ e = is.1 ∙ sym too.1 in
    ap₂ (λ (x : Network) (y : Setup). Goes x y events) nets setups ∙ ap (λ (es : List Event). Goes n s es) all
one_opening line (Wrong found) Opens is too = absurd too
one_opening line (Wrong found) (Ends n s e) is too = absurd too
one_opening line (Wrong found) (Goes n s e) is too = absurd (is.1 n s too.0)
one_opening line (Wrong found) (Wrong again) is too = ap (λ (f : ReplayFault). Wrong f) (is.0 ∙ sym too.0)

one_next : (from : ReadState) (line : List ℕ) (to other : ReadState) → Next from line to → Next from line other
    → to ≡ other
one_next Opens line to other is too = one_opening line to other is too
one_next (Goes net setup events) line to other is too = is ∙ sym too
one_next (Ends net setup events) line to other is too = is ∙ sym too
one_next (Wrong found) line to other is too = is ∙ sym too

-- ---- and so do lines

no_push : (before : List (List ℕ)) (line : List ℕ) → [] ≡ before ++ line ∷ [] → ⊥
no_push before line is = let long = length_push before line in
    let none : 0 ≡ length (before ++ line ∷ []) = ap length is in omega arith

one_stage : (lines : List (List ℕ)) (one : ReadState) → Leads lines one → (others : List (List ℕ)) (other : ReadState)
    → Leads others other → lines ≡ others → one ≡ other
one_stage lines one begins others other begins same = refl
one_stage lines one begins others other (follows before line from to leads next) same =
    absurd (no_push before line same)
one_stage lines one (follows before line from to leads next) others other begins same =
    absurd (no_push before line (sym same))
one_stage lines one (follows before line from to leads next) others other (follows early last start end led step) same =
    let parts = same_from_push before early line last same in
    let start_is : from ≡ start = one_stage before from leads early start led parts.0 in
    one_next from line to end (next_of from to line next)
    (subst (λ (s : ReadState). Next s line end) (sym start_is)
    (subst (λ (l : List ℕ). Next start l end) (sym parts.1) (next_of start end last step)))

pub one_reading : (text : List ℕ) (one other : ReadState) → Comes text one → Comes text other → one ≡ other
one_reading text one other comes too =
    comes.same ∙ ap (with_rest (rest text)) (one_stage (ended text) comes.lines comes.leads (ended text) too.lines
    too.leads refl) ∙ sym too.same
