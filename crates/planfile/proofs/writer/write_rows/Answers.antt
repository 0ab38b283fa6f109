use Rattle.std.proofs.Common.{◌≡◌, ◌≢◌, ℕ, ◌+◌, ◌*◌, ◌/◌, ◌%◌, ◌<◌, List, length, get_or, sym, ◌∙◌, subst, arith}
use Rattle.std.proofs.lemmas.Nat.{mul-add-lt, div-mul-add, mod-mul-add}
use Rattle.planfile.specs.Writes.{Filled}
use Rattle.planfile.proofs.writer.write_rows.Goals as goal

-- what was written byte by byte, by row and column
by_row : (n : ℕ) (Fits : ℕ → ℕ → ℕ → Type 0) (xs : List ℕ) → length xs ≡ n * n
    → ((k : ℕ) → k < n * n → k / n ≡ k % n → get_or xs k 0 ≡ 255)
    → ((k : ℕ) → k < n * n → k / n ≢ k % n → Fits (k / n) (k % n) (get_or xs k 0)) → Filled n Fits xs
by_row n Fits xs l same other =
    record {
      long = l;
      diagonal = λ i h. same (i * n + i) (mul-add-lt i n i n h h) (div-mul-add i n i h ∙ sym (mod-mul-add i n i h));
      others =
          λ u d hu hd ne.
          let row = div-mul-add u n d hd in
          let column = mod-mul-add u n d hd in
          let byte : ℕ = get_or xs (u * n + d) 0 in
          subst (λ (z : ℕ). Fits u z byte) column
          (subst (λ (z : ℕ). Fits z ((u * n + d) % n) byte) row (other (u * n + d) (mul-add-lt u n d n hu hd) (λ e. ne (sym row ∙ e ∙ column))));
    }

pub returns : goal.returns
returns g c =
    by_row c.args.switches _ c.loop-k.out (omega arith) (λ k h e. c.loop-k.invariant.diagonal k (omega arith) e)
    (λ k h e. c.loop-k.invariant.others k (omega arith) e)
