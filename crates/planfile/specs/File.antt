-- The bytes of a plan file.
use Rattle.std.specs.Prelude.{ℕ, ◌+◌, ◌*◌, ◌/◌, ◌%◌, if◌then◌else◌, List, [], ◌∷◌, ◌++◌, map, length, unwrap_or, ◌==◌}
use Rattle.std.specs.List.{range_with_len}
use Rattle.fabric.specs.Channels.{starts}
use Rattle.model.specs.Net.{Net}
use Rattle.model.specs.Rules.{Rule}
use Rattle.planfile.specs.Refused.{tag_of}

-- What stands for two switches: 255 on the diagonal.
abbrev pub cell : (ℕ → ℕ → ℕ) → ℕ → ℕ → ℕ
cell f u d = if u == d then 255 else f u d

-- n × n bytes by row.
abbrev pub rows : ℕ → (ℕ → ℕ → ℕ) → List ℕ
rows n f = map (λ (k : ℕ). cell f (k / n) (k % n)) (range_with_len 0 (n * n))

-- The channel that a rule answers for two switches; 255 for none.
abbrev pub hop_byte : Rule → ℕ → ℕ → ℕ
hop_byte rule u d = unwrap_or (rule.next u d) 255

-- An entry: a tag, then offset and length, high byte first.
abbrev pub entry_bytes : List ℕ → ℕ → ℕ → List ℕ
entry_bytes tag from long = tag ++ from / 256 ∷ from % 256 ∷ long / 256 ∷ long % 256 ∷ []

-- Byte 0 and the three entries, for bodies of these lengths that follow one another.
abbrev pub head_bytes : ℕ → ℕ → ℕ → List ℕ
head_bytes a b c = 3 ∷ (entry_bytes (tag_of 0) 25 a ++ (entry_bytes (tag_of 1) (25 + a) b ++ entry_bytes (tag_of 2) (25 + a + b) c))

-- A file of three bodies.
abbrev pub file_of : List ℕ → List ℕ → List ℕ → List ℕ
file_of link hops lane = head_bytes (length link) (length hops) (length lane) ++ (link ++ (hops ++ lane))

-- LINK: the switch count and the link ends, which are the starts of the channels.
abbrev pub link_body : Net → List ℕ
link_body net = net.switches ∷ starts net.channels

-- HOPS: the channels by row of the switch.
abbrev pub hops_body : Net → Rule → List ℕ
hops_body net rule = rows net.switches (hop_byte rule)

-- LANE: the lane count, and the lanes by row of the source.
abbrev pub lane_body : Net → ℕ → Rule → List ℕ
lane_body net lanes rule = lanes ∷ rows net.switches rule.lane

-- The file of a fabric, a lane count and a rule.
abbrev pub file_bytes : Net → ℕ → Rule → List ℕ
file_bytes net lanes rule = file_of (link_body net) (hops_body net rule) (lane_body net lanes rule)
