-- Which switch counts and lists of link ends make a fabric, and how the others are refused.
use Rattle.std.specs.Prelude.{◌≡◌, ℕ, ◌+◌, ◌*◌, ◌/◌, ◌%◌, ◌<◌, ◌≤◌, cond, ◌||◌, ◌⊎◌, List, [], ◌∷◌, length, Some, None, Option, MatchOption, ◌==◌, nat_le, nat_lt, slice_index, ◌≢◌}
use Rattle.model.specs.Refusals.{Refusal, fabric_layer, refuse}

-- The refusals of the cabling.
abbrev pub bad_switch_count : Refusal
bad_switch_count = refuse fabric_layer 1 []

abbrev pub bad_end_list : Refusal
bad_end_list = refuse fabric_layer 2 []

abbrev pub missing_end : ℕ → Refusal
missing_end link = refuse fabric_layer 3 (link ∷ [])

abbrev pub equal_ends : ℕ → Refusal
equal_ends link = refuse fabric_layer 4 (link ∷ [])

-- Refusal 3 or 4 of the first link that has one, of a list of ends whose first link is number i.
abbrev pub link_refusal : ℕ → ℕ → List ℕ → Option Refusal
link_refusal n i [] = None
link_refusal n i (a ∷ []) = None
link_refusal n i (a ∷ (b ∷ ends)) =
    cond (nat_le n a || nat_le n b) (Some (missing_end i)) (cond (a == b) (Some (equal_ends i)) (link_refusal n (i + 1) ends))

-- The refusal of n switches with these link ends, by the order of tests; none where they make a fabric.
abbrev pub cabling_refusal : ℕ → List ℕ → Option Refusal
cabling_refusal n ends =
    cond (nat_lt n 2 || nat_lt 32 n) (Some bad_switch_count)
    (cond (length ends % 2 == 1 || (length ends == 0 || nat_lt 128 (length ends))) (Some bad_end_list)
    (link_refusal n 0 ends))

-- The same by relations. Link i joins two different switches below n.
pub record Joins (n : ℕ) (ends : List ℕ) (i : ℕ) : Type 0 where
  pub from : slice_index ends (2 * i) < n
  pub to : slice_index ends (2 * i + 1) < n
  pub apart : slice_index ends (2 * i) ≢ slice_index ends (2 * i + 1)

-- The counts are right: 2 to 32 switches, 1 to 64 links of two ends each.
pub record Counted (n : ℕ) (ends : List ℕ) : Type 0 where
  pub enough : 2 ≤ n
  pub few : n ≤ 32
  pub paired : length ends % 2 ≡ 0
  pub some : 1 ≤ length ends
  pub short : length ends ≤ 128

-- They make a fabric.
pub record Cabled (n : ℕ) (ends : List ℕ) : Type 0 where
  pub counted : Counted n ends
  pub joined : (i : ℕ) → i < length ends / 2 → Joins n ends i

-- Link i is the first that does not join two different switches.
pub record FirstAtFault (n : ℕ) (ends : List ℕ) (i : ℕ) : Type 0 where
  pub counted : Counted n ends
  pub there : i < length ends / 2
  pub before : (j : ℕ) → j < i → Joins n ends j

-- They are refused so.
pub data Refused (n : ℕ) (ends : List ℕ) : Refusal → Type 0 where
  switches : (n < 2) ⊎ (32 < n) → Refused n ends bad_switch_count
  list : 2 ≤ n → n ≤ 32 → (Counted n ends → ⊥) → Refused n ends bad_end_list
  missing : (i : ℕ) → FirstAtFault n ends i → (n ≤ slice_index ends (2 * i)) ⊎ (n ≤ slice_index ends (2 * i + 1)) → Refused n ends (missing_end i)
  equal : (i : ℕ) → FirstAtFault n ends i → slice_index ends (2 * i) < n → slice_index ends (2 * i) ≡ slice_index ends (2 * i + 1) → Refused n ends (equal_ends i)

-- The order of tests refuses nothing exactly where the relations say that a fabric is made, and each refusal is the one that they give.
abbrev pub CablingExact : Type 0
CablingExact = (n : ℕ) (ends : List ℕ) → MatchOption (cabling_refusal n ends) (Cabled n ends) (Refused n ends)
