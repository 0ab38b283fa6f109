-- The links of a grid, by their ends.
use Rattle.std.specs.Prelude.{ℕ, ◌+◌, ◌-◌, ◌*◌, List, [], ◌∷◌}
use Rattle.model.specs.Lists.{up_from, joined}

-- Each joins a switch from `first` on, up to `end`, to the one `step` further on.
unfoldable pub links : ℕ → ℕ → ℕ → List ℕ
links first end step = joined (λ s. s ∷ ((s + step) ∷ [])) (up_from (end - first) first)

-- Those along the rows of a grid, from row y on.
unfoldable pub row_links : ℕ → ℕ → ℕ → List ℕ
row_links w h y = joined (λ y. links (y * w) (y * w + w - 1) 1) (up_from (h - y) y)
