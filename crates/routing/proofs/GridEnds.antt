-- The ends of the links of a grid, one after the other.
use Rattle.std.proofs.Common.{◌≡◌, ℕ, zero, suc, ◌+◌, ◌-◌, ◌*◌, ◌<◌, ◌≤◌, List, [], ◌∷◌, ◌++◌, refl, ap, append_assoc, add-zero, zero-add, arith}
use mathlib.Core.Path.{fun_ext}
use Rattle.std.proofs.Math.Nat.{mul-sub}
use Rattle.model.specs.Lists.{up_from, below, joined}
use Rattle.model.specs.Rules.{grid_ends}
use Rattle.routing.specs.Links.{links, row_links}

-- one link more
pub link_more : (first end step : ℕ) → first < end → links first end step ≡ first ∷ ((first + step) ∷ links (first + 1) end step)
unfolding links
link_more first end step h =
    let s : end - first ≡ suc (end - (first + 1)) = omega arith in
    let t : suc first ≡ first + 1 = omega arith in rw s (cc)

pub link_none : (first end step : ℕ) → end ≤ first → links first end step ≡ []
unfolding links
link_none first end step h = let z : end - first ≡ 0 = omega arith in rw z

pub ruleset links_are = (link_more, link_none)

-- one row more
pub row_more : (w h y : ℕ) → y < h → row_links w h y ≡ links (y * w) (y * w + w - 1) 1 ++ row_links w h (y + 1)
unfolding row_links
row_more w h y l =
    let s : h - y ≡ suc (h - (y + 1)) = omega arith in
    let t : suc y ≡ y + 1 = omega arith in rw s (cc)

pub row_none : (w h y : ℕ) → h ≤ y → row_links w h y ≡ []
unfolding row_links
row_none w h y l = let z : h - y ≡ 0 = omega arith in rw z

-- what is joined from a + i on, counted from i on
shifted : (f : ℕ → List ℕ) (a k i : ℕ) → joined f (up_from k (a + i)) ≡ joined (λ x. f (a + x)) (up_from k i)
shifted f a zero i = refl
shifted f a (suc k) i =
    let e : suc (a + i) ≡ a + suc i = omega arith in
    let more = shifted f a k (suc i) in cc

-- and cut after the first k
cut_at : (f : ℕ → List ℕ) (k m i : ℕ) → joined f (up_from (k + m) i) ≡ joined f (up_from k i) ++ joined f (up_from m (i + k))
cut_at f zero m i = rw (zero-add, add-zero)
cut_at f (suc k) m i =
    let e : suc k + m ≡ suc (k + m) = omega arith in
    let q : suc i + k ≡ i + suc k = omega arith in
    let more = cut_at f k m (suc i) in
    rw (e, append_assoc) (cc)

-- row by row of w
by_rows : (f : ℕ → List ℕ) (w k i : ℕ) → joined f (up_from (k * w) (i * w)) ≡ joined (λ y. joined (λ x. f (y * w + x)) (below w)) (up_from k i)
by_rows f w zero i = let z : 0 * w ≡ 0 = omega arith in rw z
by_rows f w (suc k) i =
    let e : suc k * w ≡ w + k * w = omega arith in
    let q : i * w + w ≡ suc i * w = omega arith in
    let z : i * w ≡ i * w + 0 = omega arith in
    let cut = cut_at f w (k * w) (i * w) in
    let here = shifted f (i * w) w 0 in
    let more = by_rows f w k (suc i) in
    cc

row_is : (w y : ℕ) → links (y * w) (y * w + w - 1) 1 ≡ joined (λ x. (y * w + x) ∷ ((y * w + x + 1) ∷ [])) (below (w - 1))
unfolding links
row_is w y =
    let e : y * w + w - 1 - y * w ≡ w - 1 = omega arith in
    let here = shifted (λ s. s ∷ ((s + 1) ∷ [])) (y * w) (w - 1) 0 in
    rw (e, ← here) (cc (add-zero (y * w)))

-- those along the rows, and those along the columns
along_rows : (w h : ℕ) → row_links w h 0 ≡ joined (λ y. joined (λ x. (y * w + x) ∷ ((y * w + x + 1) ∷ [])) (below (w - 1))) (below h)
unfolding row_links
along_rows w h =
    let z : h - 0 ≡ h = omega arith in rw z (ap (λ (f : ℕ → List ℕ). joined f (below h)) (fun_ext (row_is w)))

along_columns : (w h : ℕ) → links 0 (w * h - w) w ≡ joined (λ y. joined (λ x. (y * w + x) ∷ ((y * w + x + w) ∷ [])) (below w)) (below (h - 1))
unfolding links
along_columns w h =
    let e : w * h - w - 0 ≡ (h - 1) * w = grind (arith, mul-sub w h 1) in
    let z : 0 ≡ 0 * w = omega arith in
    let all = by_rows (λ s. s ∷ ((s + w) ∷ [])) w (h - 1) 0 in
    cc

pub all_links : (w h : ℕ) → row_links w h 0 ++ links 0 (w * h - w) w ≡ grid_ends w h
all_links w h = rw (along_rows, along_columns)

pub ruleset grid_ends_are = (row_more, row_none, all_links)
