-- Route rules: the stored table's, and the grid's.
use Rattle.std.specs.Prelude.{ℕ, ◌+◌, ◌-◌, ◌*◌, ◌/◌, ◌%◌, cond, List, [], ◌∷◌, ◌++◌, Some, None, Option, nat_lt, slice_index_or}
use Rattle.model.specs.Lists.{below, joined}
use Rattle.model.specs.Net.{Net, net_of, is_pair}

-- A route rule is two maps: the channel for a switch and a destination, or none; and the lane for a source and a destination.
pub record Rule : Type 0 where
  pub next : ℕ → ℕ → Option ℕ
  pub lane : ℕ → ℕ → ℕ

-- What a check judges and a run is opened on: a fabric, a lane count and a rule.
pub record Setup : Type 0 where
  pub net : Net
  pub lanes : ℕ
  pub rule : Rule

-- What a channel byte means: 255 is none.
abbrev pub channel_byte : ℕ → Option ℕ
channel_byte b = cond (nat_lt b 255) (Some b) None

-- The stored table of n switches, two lists of n × n bytes by row: channels by switch and destination, lanes by source and
-- destination. Equal or missing switches get none and 255.
abbrev pub table_rule : ℕ → List ℕ → List ℕ → Rule
table_rule n hops lanes =
    record {
      next = λ u d. cond (is_pair n u d) (channel_byte (slice_index_or hops (u * n + d) 255)) None;
      lane = λ s d. cond (is_pair n s d) (slice_index_or lanes (s * n + d) 255) 255;
    }

-- The grid of width w and height h: switch (x, y) has number y × w + x. Link y × (w − 1) + x joins (x, y) to (x + 1, y), and link
-- h × (w − 1) + y × w + x joins (x, y) to (x, y + 1).
abbrev pub grid_ends : ℕ → ℕ → List ℕ
grid_ends w h =
    joined (λ y. joined (λ x. (y * w + x) ∷ ((y * w + x + 1) ∷ [])) (below (w - 1))) (below h)
    ++ joined (λ y. joined (λ x. (y * w + x) ∷ ((y * w + x + w) ∷ [])) (below w)) (below (h - 1))

abbrev pub grid_net : ℕ → ℕ → Net
grid_net w h = net_of (w * h) (grid_ends w h)

-- The channel at (x, y) for (dx, dy): along the row first, then along the column.
abbrev pub grid_hop : ℕ → ℕ → ℕ → ℕ → ℕ → ℕ → ℕ
grid_hop w h x y dx dy =
    cond (nat_lt x dx) (2 * (y * (w - 1) + x))
    (cond (nat_lt dx x) (2 * (y * (w - 1) + (x - 1)) + 1)
    (cond (nat_lt y dy) (2 * (h * (w - 1) + (y * w + x)))
    (2 * (h * (w - 1) + ((y - 1) * w + x)) + 1)))

-- The grid's rule; the lane is 0. Equal or missing switches get none and 255.
abbrev pub grid_rule : ℕ → ℕ → Rule
grid_rule w h =
    record {
      next = λ u d. cond (is_pair (w * h) u d) (Some (grid_hop w h (u % w) (u / w) (d % w) (d / w))) None;
      lane = λ s d. cond (is_pair (w * h) s d) 0 255;
    }
