-- A past and the commands say what was met.
use Rattle.std.proofs.Common.{◌≡◌, ◌∙◌, ℕ, inl, inr, Bool, true, false, List, [], ◌∷◌, ◌++◌, map, refl}
use Rattle.std.proofs.Common.{sym, ap, ap₂, subst, append-nil}
use Rattle.std.proofs.lemmas.List.{map-append}
use Rattle.bhs_model.specs.declared.commands.Command.{Command}
use Rattle.bhs_model.specs.declared.setups.Setup.{Setup}
use Rattle.bhs_model.specs.Views.{View, Start, standing}
use Rattle.bhs_model.specs.Replying.{hears}
use Rattle.bhs_wire.specs.Lines.{lines}
use Rattle.bhs_session.specs.Texts.{command_of}
use Rattle.bhs_theorems_isolation.specs.Met.{Meeting, Hears, Refuses, Arrives, view_of, commands, bytes, takes_commands}
use Rattle.bhs_theorems_isolation.specs.Met.{AreDue}
use Rattle.bhs_theorems_isolation.proofs.PastLemmas.{kinds, kinded, met_alike}
use Rattle.bhs_theorems_isolation.specs.Clients.{Fed, nothing_fed, fed_to}
use Rattle.bhs_theorems_isolation.specs.ScriptHeadline.{Rehearsed, sent_in, match_of, past_of, Plays}
use Rattle.bhs_theorems_isolation.specs.ScriptHeadline.{EqualPastsAreSentEqualBytes}
use Rattle.bhs_theorems_isolation.specs.SentAsMet.{IsPastOf, IsSentAsMet, PastsAndCommandsSayWhatWasMet}
use Rattle.bhs_theorems_isolation.proofs.MetLemmas.{sent_as_met_lemma}

kinds_all : (met : List Meeting) → kinds (λ (command : Command). command) met ≡ commands met
kinds_all [] = refl
kinds_all (Hears command glance ∷ met) = ap (λ (rest : List Command). command ∷ rest) (kinds_all met)
kinds_all (Refuses command ∷ met) = ap (λ (rest : List Command). command ∷ rest) (kinds_all met)
kinds_all (Arrives sight ∷ met) = kinds_all met

kinded_all : (met : List Meeting) → map (kinded (λ (command : Command). command)) met ≡ met
kinded_all [] = refl
kinded_all (Hears command glance ∷ met) = ap (λ (rest : List Meeting). Hears command glance ∷ rest) (kinded_all met)
kinded_all (Refuses command ∷ met) = ap (λ (rest : List Meeting). Refuses command ∷ rest) (kinded_all met)
kinded_all (Arrives sight ∷ met) = ap (λ (rest : List Meeting). Arrives sight ∷ rest) (kinded_all met)

-- each command is of its own kind
same_met : (quota : ℕ) (met other : List Meeting) (over more : List Command) → AreDue quota Start met
    → AreDue quota Start other → view_of met ≡ view_of other → commands met ++ over ≡ commands other ++ more →
    (takes_commands (standing (view_of met)) ≡ true → over ≡ [])
    → (takes_commands (standing (view_of other)) ≡ true → more ≡ []) → met ≡ other
same_met quota met other over more due other_due same said rest rest2 =
    sym (kinded_all met)
    ∙ met_alike (λ (command : Command). command) quota (λ view one two is. ap (hears quota view) is) Start met other
    over more due other_due same
    (ap (λ (all : List Command). all ++ over) (kinds_all met) ∙ said
    ∙ sym (ap (λ (all : List Command). all ++ more) (kinds_all other))) rest rest2
    ∙ kinded_all other

pub met_lemma : PastsAndCommandsSayWhatWasMet
met_lemma quota met other due other_due same said =
    same_met quota met other [] [] due other_due same (ap (λ (all : List Command). all ++ []) said)
    (λ takes. refl) (λ takes. refl)

lived_alone : (has_ended : Bool) (view past : View) → has_ended ≡ false → IsPastOf has_ended view past → past ≡ view
lived_alone has_ended view past still (inl e) = e
lived_alone has_ended view past still (inr p) = absurd (let never = p.1 in cc)

-- All commands of the input: those that were met, followed by the remaining ones.
said_first : (setup : Setup) (past : View) (closed : Bool) (fed : Fed) (sent : List ℕ)
    (is : IsSentAsMet setup past closed fed sent) →
    commands is.met ++ map command_of is.untaken ≡ map command_of (lines fed.bytes)
said_first setup past closed fed sent is =
    ap (λ (first : List Command). first ++ map command_of is.untaken) is.said
    ∙ sym (map-append command_of is.taken is.untaken) ∙ ap (map command_of) (sym is.split)

sent_alike : (setup setup2 : Setup) (past past2 : View) (fed fed2 : Fed) (sent sent2 : List ℕ) →
    (first : IsSentAsMet setup past false fed sent) (second : IsSentAsMet setup2 past2 false fed2 sent2) →
    setup.quota ≡ setup2.quota → setup.board ≡ setup2.board → fed.has_ended ≡ false → fed2.has_ended ≡ false →
    past ≡ past2 → map command_of (lines fed.bytes) ≡ map command_of (lines fed2.bytes) → sent ≡ sent2
sent_alike setup setup2 past past2 fed fed2 sent sent2 first second quotas boards still still2 pasts said =
    let mets : first.met ≡ second.met =
    same_met setup.quota first.met second.met (map command_of first.untaken) (map command_of second.untaken)
    first.due (subst (λ (quota : ℕ). AreDue quota Start second.met) (sym quotas) second.due)
    (sym (lived_alone fed.has_ended (view_of first.met) past still first.lived) ∙ pasts
    ∙ lived_alone fed2.has_ended (view_of second.met) past2 still2 second.lived)
    (said_first setup past false fed sent first ∙ said ∙ sym (said_first setup2 past2 false fed2 sent2 second))
    (λ takes. ap (map command_of) (first.all_taken refl still takes))
    (λ takes. ap (map command_of) (second.all_taken refl still2 takes)) in
    first.sends ∙ append-nil (bytes setup.board first.met) ∙ ap₂ bytes boards mets
    ∙ sym (second.sends ∙ append-nil (bytes setup2.board second.met))

met_of : (one : Rehearsed) (conn : ℕ) (seat : ℕ × ℕ) → Plays one conn seat →
    IsSentAsMet (match_of one seat).setup (past_of one seat) false (fed_to conn nothing_fed one.script)
    (sent_in one conn)
met_of one conn seat plays =
    subst (λ (closed : Bool). IsSentAsMet (match_of one seat).setup (past_of one seat) closed
    (fed_to conn nothing_fed one.script) (sent_in one conn)) plays.still_open
    (sent_as_met_lemma one conn seat plays.begins plays.sits plays.within)

pub bytes_lemma : EqualPastsAreSentEqualBytes
bytes_lemma one two conn conn2 seat seat2 plays plays2 quotas boards pasts said =
    sent_alike (match_of one seat).setup (match_of two seat2).setup (past_of one seat) (past_of two seat2)
    (fed_to conn nothing_fed one.script) (fed_to conn2 nothing_fed two.script) (sent_in one conn) (sent_in two conn2)
    (met_of one conn seat plays) (met_of two conn2 seat2 plays2) quotas boards plays.goes_on plays2.goes_on pasts said
