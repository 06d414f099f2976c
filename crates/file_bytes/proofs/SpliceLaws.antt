-- Bytes of which a part is replaced by as many others.
use Rattle.std.proofs.Common.{◌≡◌, ℕ, ◌+◌, ◌-◌, ◌<◌, ◌≤◌, ◌++◌, List, length, slice_index, refl, ap, ◌∙◌, arith}
use Rattle.std.proofs.Math.ListN.{take, drop}
use Rattle.std.specs.List.{splice}
use Rattle.std.proofs.lemmas.List.{get_or-take, get_or-drop, get_or_append_left, get_or-append_right, length-append, length-take-le, length-drop}
use Rattle.file_bytes.specs.Changes.{SameBeside}

module _ (file part : List ℕ) (at : ℕ) (fits : at + length part ≤ length file) where
  abbrev pub new : List ℕ
  new = splice file at (at + length part) part

  front : length (take at file) ≡ at
  front = length-take-le at file (omega (arith, fits))

  pub length-spliced : length new ≡ length file
  length-spliced =
      let end = length-append part (drop (at + length part) file) in
      let rest = length-drop (at + length part) file in
      let all = length-append (take at file) (part ++ drop (at + length part) file) in
      omega (arith, front, end, rest, all, fits)

  pub spliced-below : (i : ℕ) → i < at → slice_index new i ≡ slice_index file i
  spliced-below i low =
      get_or_append_left (take at file) (part ++ drop (at + length part) file) 0 i (omega (arith, front, low))
      ∙ get_or-take at file i 0 low

  pub spliced-within : (i : ℕ) → i < length part → slice_index new (at + i) ≡ slice_index part i
  spliced-within i low =
      get_or-append_right (take at file) (part ++ drop (at + length part) file) at (at + i) 0 front (omega arith)
      ∙ ap (slice_index (part ++ drop (at + length part) file)) (omega arith)
      ∙ get_or_append_left part (drop (at + length part) file) 0 i low

  pub spliced-above : (i : ℕ) → at + length part ≤ i → slice_index new i ≡ slice_index file i
  spliced-above i high =
      get_or-append_right (take at file) (part ++ drop (at + length part) file) at i 0 front (omega (arith, high))
      ∙ get_or-append_right part (drop (at + length part) file) (length part) (i - at) 0 refl (omega (arith, high))
      ∙ get_or-drop (at + length part) file (i - at - length part) 0
      ∙ ap (slice_index file) (omega (arith, high))

  pub beside-spliced : SameBeside at (length part) file new
  beside-spliced = record {
    long = length-spliced;
    below = λ i low. spliced-below i low;
    above = λ i high. spliced-above i high;
  }
