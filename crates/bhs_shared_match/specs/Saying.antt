-- What passes say of one command of the log. This carries proofs; a reader of contracts needs none of it.
use Rattle.std.specs.Prelude.{ℕ, ◌≡◌, ◌≢◌, ◌⊎◌, Bool, true, false, Some, List, [], ◌∷◌, slice_get}
use Rattle.std.specs.List.{AllByRecursion}
use Rattle.bhs_shared_match.specs.Passes.{Passed}
use Rattle.bhs_shared_match.specs.Comparing.{HeardEntry, receipted}
use Rattle.bhs_shared_match.specs.Settling.{has_pass}

-- each pass of the agent has this command at this index
abbrev pub AllSay : (agent index : ℕ) → HeardEntry → List Passed → Type 0
AllSay agent index entry passes = AllByRecursion (λ pass. pass.agent ≡ agent
    → slice_get (receipted pass.receipts pass.commands) index ≡ Some entry) passes

-- Some pass of the agent lacks the entry.
abbrev pub AnyOther : (agent index : ℕ) → HeardEntry → List Passed → Type 0
AnyOther agent index entry [] = ⊥
AnyOther agent index entry (pass ∷ passes) =
    ((pass.agent ≡ agent) × (slice_get (receipted pass.receipts pass.commands) index ≢ Some entry))
    ⊎ AnyOther agent index entry passes

-- whether the agent has a pass, and all passes of the agent record this command at this index
abbrev pub IsSaid : Bool → List Passed → (agent index : ℕ) → HeardEntry → Type 0
IsSaid true passes agent index entry = (has_pass passes agent ≡ true) × AllSay agent index entry passes
IsSaid false passes agent index entry = (has_pass passes agent ≡ false) ⊎ AnyOther agent index entry passes
