use Rattle.std.proofs.Common.{◌≡◌, ℕ, ◌+◌, ◌<◌, inr, ⊎_elim, cond, eqb, refl, sym, ap, ◌∙◌, arith, List, subst}
use Rattle.bhs_net.specs.declared.faults.NetFault.{NetFault}
use Rattle.bhs_net.specs.declared.faults.NetFault.TheVariants.{Nodes, Node, Loop, Double, PortTwice, PortGap, Apart}
use Rattle.bhs_net.specs.declared.faults.NetFault.TheVariants.{CutNode, Memory}
use Rattle.bhs_net.specs.declared.links.Link.{Link}
use Rattle.bhs_net.specs.Faults.{Holds, number_of, place_of, IsFirstFault, Refuses}
use Rattle.bhs_net.specs.Listing.{TellsLeast}
use Rattle.bhs_net.proofs.Places.{below_or_at}

-- the fault of a number, at a link or a node
abbrev pub fault_at : ℕ → ℕ → NetFault
fault_at number place =
    cond (eqb number 1) Nodes (cond (eqb number 2) (Node place)
    (cond (eqb number 3) (Loop place) (cond (eqb number 4) (Double place)
    (cond (eqb number 5) (PortTwice place)
    (cond (eqb number 6) (PortGap place) (cond (eqb number 7) Apart
    (cond (eqb number 8) (CutNode place) Memory)))))))

fault_at-same : (fault : NetFault) → fault_at (number_of fault) (place_of fault) ≡ fault
fault_at-same Nodes = refl
fault_at-same (Node link) = refl
fault_at-same (Loop link) = refl
fault_at-same (Double link) = refl
fault_at-same (PortTwice link) = refl
fault_at-same (PortGap node) = refl
fault_at-same Apart = refl
fault_at-same (CutNode node) = refl
fault_at-same Memory = refl

number_of-positive : (fault : NetFault) → 0 < number_of fault
number_of-positive Nodes = omega arith
number_of-positive (Node link) = omega arith
number_of-positive (Loop link) = omega arith
number_of-positive (Double link) = omega arith
number_of-positive (PortTwice link) = omega arith
number_of-positive (PortGap node) = omega arith
number_of-positive Apart = omega arith
number_of-positive (CutNode node) = omega arith
number_of-positive Memory = omega arith

-- no fault of a lower number holds
abbrev pub NoneBelow : ℕ → List Link → ℕ → Type 0
NoneBelow nodes links number = (fault : NetFault) → number_of fault < number → ¬ Holds nodes links fault

pub NoneBelow-one : (nodes : ℕ) (links : List Link) → NoneBelow nodes links 1
NoneBelow-one nodes links fault h = absurd (let p = number_of-positive fault in omega arith)

pub NoneBelow-more : (nodes : ℕ) (links : List Link) (number : ℕ) → NoneBelow nodes links number
    → ((place : ℕ) → ¬ Holds nodes links (fault_at number place)) → NoneBelow nodes links (number + 1)
NoneBelow-more nodes links number none here fault h = ⊎_elim
    (λ below. none fault below)
    (λ at. λ holds. here (place_of fault) (subst (λ (f : NetFault). Holds nodes links f)
    (sym (fault_at-same fault) ∙ ap (λ n. fault_at n (place_of fault)) at) holds))
    (below_or_at (number_of fault) number h)

-- the least of its number, with none of a lower number
pub IsFirstFault-from : (nodes : ℕ) (links : List Link) (number place : ℕ) → number_of (fault_at number place) ≡ number
    → place_of (fault_at number place) ≡ place → NoneBelow nodes links number
    → Holds nodes links (fault_at number place)
    → ((early : ℕ) → early < place → ¬ Holds nodes links (fault_at number early))
    → IsFirstFault nodes links (fault_at number place)
IsFirstFault-from nodes links number place is_number is_place none holds least = record {
  holds = holds;
  none_before = λ early before. ⊎_elim
      (λ lower. none early (let e = is_number in omega arith))
      (λ same. λ it. least (place_of early) (let e = is_place in
      let lt : place_of early < place_of (fault_at number place) = same.1 in omega arith)
      (subst (λ (f : NetFault). Holds nodes links f)
      (sym (fault_at-same early) ∙ ap (λ n. fault_at n (place_of early)) (same.0 ∙ is_number)) it))
      before;
}

pub Refuses-from_first : (nodes : ℕ) (links : List Link) (number place : ℕ) (fault : NetFault)
    → fault ≡ fault_at number place → number_of (fault_at number place) ≡ number
    → place_of (fault_at number place) ≡ place → NoneBelow nodes links number
    → Holds nodes links (fault_at number place)
    → ((early : ℕ) → early < place → ¬ Holds nodes links (fault_at number early)) → Refuses nodes links fault
Refuses-from_first nodes links number place fault is is_number is_place none holds least =
    inr (subst (λ (f : NetFault). IsFirstFault nodes links f) (sym is)
    (IsFirstFault-from nodes links number place is_number is_place none holds least))

-- the least place of a fault is the first fault, where none of a lower number holds
pub Refuses-from_least : (nodes : ℕ) (links : List Link) (number : ℕ) (fault : NetFault)
    → ((place : ℕ) → number_of (fault_at number place) ≡ number)
    → ((place : ℕ) → place_of (fault_at number place) ≡ place) → NoneBelow nodes links number
    → TellsLeast (fault_at number) (λ place. Holds nodes links (fault_at number place)) fault
    → Refuses nodes links fault
Refuses-from_least nodes links number fault is_number is_place none least =
    Refuses-from_first nodes links number least.0 fault least.1 (is_number least.0) (is_place least.0) none
    least.2.0 least.2.1
