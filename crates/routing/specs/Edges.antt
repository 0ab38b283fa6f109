-- 128 rows of 128 cells: for each channel whether it leads to each.
use Rattle.std.specs.Prelude.{◌≡◌, ℕ, ◌<◌, Bool, true, false, List, ◌+◌, ◌*◌, ◌&&◌, nat_lt, slice_index_or, ◌≢◌, refl}

-- Channel b leads to channel c.
abbrev pub edge_at : List Bool → ℕ → ℕ → Bool
edge_at cells b c = nat_lt b 128 && nat_lt c 128 && slice_index_or cells (b * 128 + c) false

-- Only channels below n lead anywhere, and to others below n.
abbrev pub Among : ℕ → List Bool → Type 0
Among n cells = (b c : ℕ) → edge_at cells b c ≡ true → (b < n) × (c < n) × (b ≢ c)

-- no channel leads to itself
pub loopless : (n : ℕ) (cells : List Bool) → Among n cells → (c : ℕ) → edge_at cells c c ≡ false
loopless n cells a c = by (edge_at cells c c) refl
  where
    by : (x : Bool) → edge_at cells c c ≡ x → edge_at cells c c ≡ false
    by false e = e
    by true e = absurd ((a c c e).2 refl)
