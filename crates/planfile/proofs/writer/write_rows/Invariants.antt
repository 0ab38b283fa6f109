use Rattle.std.proofs.Common.{◌≡◌, ◌≢◌, ℕ, ◌/◌, ◌%◌, ◌<◌, get_or}
use Rattle.planfile.proofs.writer.write_rows.Given as goal

abbrev pub invariant-loop-k : goal.invariant-loop-k
invariant-loop-k g l =
    record {
      callable : goal.F-IsAlwaysCallable g l.byte_of;
      diagonal : (j : ℕ) → j < l.k → j / l.switches ≡ j % l.switches → get_or l.out j 0 ≡ 255;
      others : (j : ℕ) → j < l.k → j / l.switches ≢ j % l.switches → goal.F-post g l.byte_of (j / l.switches) (j % l.switches) (get_or l.out j 0);
    }
