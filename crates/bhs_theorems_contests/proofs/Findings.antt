-- The findings of a list of events are those of its kept events.
use Rattle.std.proofs.Common.{ℕ, ◌≡◌, ◌∙◌, Bool, false, not, Option, List, [], ◌∷◌, refl, sym, ap, ap₂}
use Rattle.std.proofs.Common.{nat_lt}
use Rattle.std.proofs.lemmas.Bool.{true≢false, cond_both, or_parts, and_from}
use Rattle.bhs_model.specs.declared.commands.Command.{Command}
use Rattle.bhs_model.specs.declared.events.Event.{Event}
use Rattle.bhs_model.specs.declared.events.Event.TheVariants.{Tell, Deliver, Close}
use Rattle.bhs_model.specs.declared.replies.Reply.{Reply}
use Rattle.bhs_model.specs.Replying.{hears}
use Rattle.bhs_model.specs.Worlds.{World}
use Rattle.bhs_model.specs.Runs.{State, Position, initial, heard, arrives, next, reply}
use Rattle.bhs_model.specs.Kept.{lost_after, keeps, kept_from, nobody, kept}
use Rattle.bhs_model.proofs.StepLemmas.{no_arrival_no_reply}
use Rattle.bhs_model.proofs.KeptLemmas.{unkept_state}
use Rattle.bhs_referee.specs.Findings.{Findings, nothing_found, accused_by, moves_by}
use Rattle.bhs_referee.specs.Findings.{reached_by, found_after, found_from}
use Rattle.bhs_referee.specs.Findings.{findings}
use Rattle.bhs_schedules.proofs.Turns.{changed_itself, unreached}

-- a reply by which nothing is found
abbrev IsVain : Option Reply → Type 0
IsVain said = (command : Command) (position : Position) (accused : Option (ℕ × ℕ)) (moves : ℕ)
    → (accused_by said command position accused ≡ accused) × (moves_by said moves ≡ moves)

vain_refusal : (world : World) (state : State) (agent : ℕ) (command : Command)
    → heard world state agent command ≡ false → IsVain (reply world state (Tell agent command))
vain_refusal world state agent command unheard =
    cond_both (nat_lt agent world.agents) _ _ IsVain
    (λ within. cond_both state.closed _ _ IsVain (λ over said position accused moves. (refl, refl))
    (λ open_match. cond_both (hears world.quota (state.past agent) command) _ _ IsVain
    (λ hearing. absurd (true≢false (sym (and_from _ _ within (and_from _ _ (ap not open_match) hearing)) ∙ unheard)))
    (λ refused said position accused moves. (refl, refl))))
    (λ beyond said position accused moves. (refl, refl))

unkept_found : (world : World) (state : State) (lost : ℕ → Bool) (found : Findings) (event : Event)
    → keeps world state lost event ≡ false → found_after world state found event ≡ found
unkept_found world state lost found (Tell agent command) unkept =
    let vain = vain_refusal world state agent command unkept command (state.position agent) (found.accused agent)
    found.moves in
    ap₂ (λ (accused : ℕ → Option (ℕ × ℕ)) (moves : ℕ).
    let after : Findings = record { accused = accused; reached = found.reached; moves = moves } in after)
    (λ i other. changed_itself found.accused agent _ other vain.0 i) vain.1
unkept_found world state lost found (Deliver agent) unkept =
    ap (λ (reached : ℕ → Bool).
    let after : Findings = record { accused = found.accused; reached = reached; moves = found.moves } in after)
    (ap (λ (said : Option Reply). reached_by world said (state.position agent) found.reached)
    (no_arrival_no_reply world state agent (or_parts (arrives world state agent) _ unkept).0)
    ∙ unreached world (state.position agent) found.reached)
unkept_found world state lost found Close unkept = refl

found-kept : (world : World) (state : State) (lost : ℕ → Bool) (found : Findings) (events : List Event)
    → found_from world state found (kept_from world state lost events) ≡ found_from world state found events
found-kept world state lost found [] = refl
found-kept world state lost found (event ∷ events) =
    let after : State = next world state event in
    let marks : ℕ → Bool = lost_after world state lost event in
    let known : Findings = found_after world state found event in
    let rest : List Event = kept_from world after marks events in
    let same : found_from world after known rest ≡ found_from world after known events =
    found-kept world after marks known events in
    cond_both (keeps world state lost event) (event ∷ rest) rest
    (λ (chosen : List Event). found_from world state found chosen ≡ found_from world after known events)
    (λ is_kept. same)
    (λ unkept. ap₂ (λ (start : State) (base : Findings). found_from world start base rest)
    (sym (unkept_state world state lost event unkept)) (sym (unkept_found world state lost found event unkept)) ∙ same)

pub findings_kept : (world : World) (events : List Event) → findings world (kept world events) ≡ findings world events
findings_kept world events = found-kept world initial nobody nothing_found events
