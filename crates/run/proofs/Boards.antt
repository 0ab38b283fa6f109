-- What a board shows at the opening and after a change of one slot.
use Rattle.std.proofs.Common.{◌≡◌, ℕ, Bool, true, false, cond, ◌&&◌, eqb, replicate, None, refl, arith}
use Rattle.std.specs.Option.{option_map}
use Rattle.std.proofs.lemmas.List.{get_or-replicate, get_or_past, length-replicate}
use Rattle.model.specs.State.{put, empty}
use Rattle.run.specs.Words.{packet_of}
use Rattle.run.specs.View.{cell, empty_slot, view}

-- A table that holds the same everywhere.
pub cell_same : {X : Type 0} (n m i j : ℕ) (d : X) → cell (replicate n (record { items = replicate m d })) i j d ≡ d
cell_same n m i j d = grind (arith, get_or-replicate, get_or_past, length-replicate)

-- What is read off a changed table is what was read off it, changed in that one place.
read_put : {X Y : Type 0} (f : X → Y) (g : ℕ → ℕ → X) (a b : ℕ) (v : X) (i j : ℕ)
    → f (put g a b v i j) ≡ put (λ k l. f (g k l)) a b (f v) i j
read_put f g a b v i j = go (eqb i a && eqb j b)
  where
    go : (t : Bool) → f (cond t v (g i j)) ≡ cond t (f v) (f (g i j))
    go true = refl
    go false = refl

-- A value put where it stands.
put_same_at : {X : Type 0} (f : ℕ → ℕ → X) (a b i j : ℕ) → put f a b (f a b) i j ≡ f i j
put_same_at f a b i j = grind arith

pub put_same : {X : Type 0} (f : ℕ → ℕ → X) (a b : ℕ) → put f a b (f a b) ≡ f
put_same f a b = λ k i j. put_same_at f a b i j k

pub view_new : view (record { slots = replicate 128 (record { items = replicate 8 empty_slot }); senders = replicate 32 (record { items = replicate 8 None }) }) ≡ empty
view_new =
    λ k.
    record {
      slot = λ c ℓ. option_map packet_of (cell_same 128 8 c ℓ empty_slot k).held;
      mark = λ c ℓ. (cell_same 128 8 c ℓ empty_slot k).mark;
      sender = λ u ℓ. option_map packet_of (cell_same 32 8 u ℓ None k);
    }
