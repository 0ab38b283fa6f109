-- Rows and columns of a grid of width w and height h.
use Rattle.std.proofs.Common.{◌≡◌, ℕ, ◌+◌, ◌-◌, ◌*◌, ◌/◌, ◌%◌, ◌<◌, ◌≤◌, sym, ap, ◌∙◌, add-mul, arith}
use Rattle.std.proofs.lemmas.Nat.{mul-le, mul-add-lt, div-add-mod', div_below, mod_below}
use Rattle.fabric.specs.Grids.{IsGrid}

-- the sides are short
pub short_sides : (w h : ℕ) → IsGrid w h → (w ≤ 32) × (h ≤ 32)
short_sides w h (a, b, c, d) = (omega (arith, mul-le w 1 w h (omega arith) b), omega (arith, mul-le 1 h w h a (omega arith)))

-- how far the links go: those of row y up to column x, those of all rows, and those of the columns down to (x, y)
pub row_links : (w h x y : ℕ) → IsGrid w h → x < w → y < h → y * (w - 1) + x < 32
row_links w h x y g a b = omega (arith, g.3, mul-le y (w - 1) y w (omega arith) (omega arith), mul-add-lt y w x h b a)

pub all_rows : (w h : ℕ) → IsGrid w h → h * (w - 1) ≤ 32
all_rows w h g = omega (arith, g.3, mul-le h (w - 1) h w (omega arith) (omega arith))

pub column_links : (w h x y : ℕ) → IsGrid w h → x < w → y < h → y * w + x < 32
column_links w h x y g a b = omega (arith, g.3, mul-add-lt y w x h b a)

-- where a switch stands
pub column_of : (w h u : ℕ) → IsGrid w h → u % w < w
column_of w h u (a, b, c, d) = mod_below u w (omega arith)

pub row_of : (w h u : ℕ) → IsGrid w h → u < w * h → u / w < h
row_of w h u (a, b, c, d) l = div_below u w h (omega arith) (omega arith)

-- and that no other stands there
pub same_spot : (w u d : ℕ) → u % w ≡ d % w → u / w ≡ d / w → u ≡ d
same_spot w u d p q = sym (div-add-mod' u w) ∙ ap (λ (k : ℕ). k * w + u % w) q ∙ ap (λ (k : ℕ). d / w * w + k) p ∙ div-add-mod' d w

-- a row ends before the next begins
pub next_row : (w h y : ℕ) → y < h → y * w + w ≤ h * w
next_row w h y l = omega (arith, mul-le (y + 1) w h w (omega arith) (omega arith), add-mul y 1 w)
