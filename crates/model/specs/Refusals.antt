-- Refusals: what a fault says to whoever gets it.
use Rattle.std.specs.Prelude.{ℕ, List, Option}
use Rattle.std.specs.Option.{option_map}

-- Whose fault it is, lowest first: the caller's, the cabling's, the route rule's, the topology's (the cabling is sound, but
-- allows no such route or lane), the plan file's, or that of a line of commands.
pub data Layer : Type 0 where
  call_layer : Layer
  fabric_layer : Layer
  rule_layer : Layer
  topology_layer : Layer
  file_layer : Layer
  line_layer : Layer

-- A refusal: its number, the place that is at fault (empty where there is none), and its layer.
pub record Refusal : Type 0 where
  pub number : ℕ
  pub place : List ℕ
  pub layer : Layer

abbrev pub refuse : Layer → ℕ → List ℕ → Refusal
refuse l n place = record { number = n; place = place; layer = l }

-- The number of a refusal, if there is one: want of memory is a fault that refuses nothing, and has none.
abbrev pub number_of : Option Refusal → Option ℕ
number_of r = option_map (λ (x : Refusal). x.number) r
