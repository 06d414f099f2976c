-- Descriptors that are written one after the other, as many as there is room for.
use Rattle.std.proofs.Common.{◌≡◌, ℕ, suc, ◌+◌, ◌-◌, ◌<◌, ◌≤◌, ◌∙◌, List, ◌∷◌, ◌++◌, length, take, append_assoc, arith}
use Rattle.std.specs.List.{flat_map}
use Rattle.nvme_wire.specs.declared.descriptor.Descriptor.{Descriptor}
use Rattle.nvme_wire.specs.Descriptor.{descriptor_bytes}

-- after the front, the descriptors written so far and those of the rest are the whole's
pub record Continues (front : List ℕ) (room : ℕ) (whole : List Descriptor) (named : ℕ) (bytes : List ℕ) (rest : List Descriptor) : Type 0 where
  pub count : named + length rest ≡ length whole
  pub encoded : bytes ++ flat_map descriptor_bytes (take (room - named) rest) ≡ front ++ flat_map descriptor_bytes (take room whole)

-- a further one is written where there is room for it
pub Continues-written :
    (front : List ℕ) (room : ℕ) (whole : List Descriptor) (named : ℕ) (bytes : List ℕ) (d : Descriptor) (rest : List Descriptor) →
    named < room → Continues front room whole named bytes (d ∷ rest) →
    Continues front room whole (named + 1) (bytes ++ descriptor_bytes d) rest
Continues-written front room whole named bytes d rest lt so_far =
    let more : room - named ≡ suc (room - (named + 1)) = omega arith in
    record {
      count = omega (arith, so_far.count);
      encoded = append_assoc bytes (descriptor_bytes d) (flat_map descriptor_bytes (take (room - (named + 1)) rest)) ∙ rw more at so_far.encoded;
    }

-- and counted if there is none
pub Continues-counted :
    (front : List ℕ) (room : ℕ) (whole : List Descriptor) (named : ℕ) (bytes : List ℕ) (d : Descriptor) (rest : List Descriptor) →
    room ≤ named → Continues front room whole named bytes (d ∷ rest) →
    Continues front room whole (named + 1) bytes rest
Continues-counted front room whole named bytes d rest le so_far =
    let none : room - named ≡ 0 = omega arith in
    let still : room - (named + 1) ≡ 0 = omega arith in
    record {
      count = omega (arith, so_far.count);
      encoded = rw still (rw none at so_far.encoded);
    }
