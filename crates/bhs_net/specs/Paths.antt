use Rattle.std.specs.Prelude.{◌≡◌, ◌≢◌, ℕ, zero, suc}

-- a path of this number of steps leads from the one node to the other; `Step` says which node a step leads to from
-- which; a path may pass a node more than once
abbrev pub Path : (ℕ → ℕ → Type 0) → ℕ → ℕ → ℕ → Type 0
Path Step node other zero = node ≡ other
Path Step node other (suc steps) = (before : ℕ) × Path Step node before steps × Step before other

-- Some path leads from the first node to the second.
abbrev pub IsPath : (ℕ → ℕ → Type 0) → ℕ → ℕ → Type 0
IsPath Step node other = (steps : ℕ) × Path Step node other steps

-- the steps that keep off a node
abbrev pub Without : ℕ → (ℕ → ℕ → Type 0) → ℕ → ℕ → Type 0
Without removed Step node other = Step node other × (node ≢ removed) × (other ≢ removed)
