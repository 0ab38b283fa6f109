-- What writing a file answers and leaves.
use Rattle.std.specs.Prelude.{◌≡◌, ℕ, ◌+◌, ◌*◌, ◌<◌, slice_index, if◌then◌else◌, ◌||◌, List, [], ◌++◌, length, drop, IfSome, Some, None, Ok, Err, Option, Result, ◌≢◌, nat_lt}
use Rattle.fabric.specs.Faults.{call_refusal}
use Rattle.fabric.specs.declared.fault.CallFault.{CallFault}
use Rattle.model.specs.Net.{Net}
use Rattle.model.specs.Refusals.{Refusal, refuse, call_layer}
use Rattle.model.specs.Rules.{Rule}
use Rattle.planfile.specs.File.{file_bytes}
use Rattle.planfile.specs.Refused.{Plain}

-- The refusal of writing a file of this length over a list: 14 where the lane count is not 1 to 8, then 13 where the list is shorter.
abbrev pub write_refusal : ℕ → ℕ → ℕ → Option Refusal
write_refusal lanes file list =
    if nat_lt lanes 1 || nat_lt 8 lanes then Some (refuse call_layer 14 []) else (if nat_lt list file then Some (refuse call_layer 13 []) else None)

-- Every channel that a rule answers for two different switches below n is below 255.
abbrev pub Named : ℕ → Rule → Type 0
Named n rule = (u d : ℕ) → u < n → d < n → (u ≢ d) → IfSome (rule.next u d) (λ c. c < 255)

-- n × n bytes by row: 255 on the diagonal, and for two different switches a byte that fits them.
pub record Filled (n : ℕ) (Fits : ℕ → ℕ → ℕ → Type 0) (xs : List ℕ) : Type 0 where
  pub long : length xs ≡ n * n
  pub diagonal : Plain n xs n
  pub others : (u d : ℕ) → u < n → d < n → (u ≢ d) → Fits u d (slice_index xs (u * n + d))

-- The front of the list is the file, whose length is answered, and what follows it stays. A refusal changes nothing.
abbrev pub Writes : Net → ℕ → Rule → List ℕ → List ℕ → Result ℕ CallFault → Type 0
Writes net lanes rule old new (Ok k) =
    (write_refusal lanes (length (file_bytes net lanes rule)) (length old) ≡ None) × (k ≡ length (file_bytes net lanes rule))
    × (new ≡ file_bytes net lanes rule ++ drop k old) × Named net.switches rule
Writes net lanes rule old new (Err f) = (call_refusal f ≡ write_refusal lanes (length (file_bytes net lanes rule)) (length old)) × (new ≡ old)
