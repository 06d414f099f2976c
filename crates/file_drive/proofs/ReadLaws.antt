-- What a read of a zone leaves.
use Rattle.std.proofs.Common.{◌≡◌, ℕ, ◌+◌, ◌-◌, ◌≤◌, ◌++◌, List, length, take, drop, replicate, min, refl, sym, ap, ◌∙◌, inl, inr, arith}
use Rattle.std.proofs.Math.Seq.{drop-append_seam, take-append_seam}
use Rattle.std.proofs.Math.ListN.{drop_of_length-le}
use Rattle.std.proofs.lemmas.Bool.{cases_lt}
use Rattle.std.proofs.lemmas.List.{drop-drop, drop-replicate, drop-take, length-append, length-replicate, length-take, take-take, take_all}
use Rattle.zone_drive.specs.Stored.{with_zeros}
use Rattle.file_drive.specs.Layout.{part}

-- Behind some bytes there are zeros, and a part from their front on is filled.
pub room-filled : (bytes resized room : List ℕ) (total held was count len : ℕ) → held ≡ length bytes → held ≡ was → total ≡ held + len → count ≤ len → length room ≡ count
    → resized ≡ take total bytes ++ replicate (total - was) 0
    → let filled = take held resized ++ (room ++ drop (held + count - held) (drop held resized)) in
    take total (filled ++ drop (length filled) resized) ≡ bytes ++ with_zeros len room
room-filled bytes resized room total held was count len is same all few long items =
    let zeros : List ℕ = replicate len 0 in
    let there : resized ≡ bytes ++ zeros = items ∙ rw (take_all total bytes (omega (arith, is, all))) (ap (λ (n : ℕ). bytes ++ replicate n 0) (omega (arith, all, same))) in
    let front : take held resized ≡ bytes = rw (there, is) (take-append_seam bytes zeros) in
    let back : drop held resized ≡ zeros = rw (there, is) (drop-append_seam bytes zeros) in
    let rest : drop (held + count - held) (drop held resized) ≡ replicate (len - length room) 0 =
    rw back (drop-replicate (held + count - held) len 0 ∙ ap (λ (n : ℕ). replicate n 0) (omega (arith, long))) in
    let filled : List ℕ = bytes ++ (room ++ replicate (len - length room) 0) in
    let whole : total ≡ length filled = omega (arith, all, is, few, long, length-append bytes (room ++ replicate (len - length room) 0), length-append room (replicate (len - length room) 0), length-replicate {A = ℕ} (len - length room) 0) in
    rw (front, rest) (ap (λ (n : ℕ). take n (filled ++ drop (length filled) resized)) whole ∙ take-append_seam filled (drop (length filled) resized)
    ∙ ap (λ (xs : List ℕ). bytes ++ (xs ++ replicate (len - length room) 0)) (sym (take_all len room (omega (arith, long, few)))))

-- a room that is the whole is filled
pub room-whole : (room rest : List ℕ) (total : ℕ) → total ≡ length room → take total (room ++ rest) ≡ room
room-whole room rest total is = ap (λ (n : ℕ). take n (room ++ rest)) is ∙ take-append_seam room rest

-- ---- a part of a part

zeros-taken : (len : ℕ) (bytes : List ℕ) → with_zeros len (take len bytes) ≡ with_zeros len bytes
zeros-taken len bytes =
    let fewer : len - length (take len bytes) ≡ len - length bytes = omega (arith, length-take len bytes) in
    rw (take-take len len bytes (omega arith), fewer) refl

-- the first bytes of a part
part-taken : (file : List ℕ) (at len k : ℕ) → part file at (min len k) ≡ take len (part file at k)
part-taken file at len k = elim (cases_lt k len) [
  | inl less ↦
      let few : min len k ≡ k = omega (arith, less) in
      rw few (sym (take_all len (part file at k) (omega (arith, less, length-take k (drop at file)))))
  | inr more ↦
      let few : min len k ≡ len = omega (arith, more) in
      rw few (sym (take-take len k (drop at file) (omega (arith, more))))
]

-- the bytes of a part from an offset on
part-dropped : (file : List ℕ) (at n from : ℕ) → part file (at + min from n) (n - min from n) ≡ drop from (part file at n)
part-dropped file at n from = elim (cases_lt n from) [
  | inl less ↦
      let none : n - min from n ≡ 0 = omega (arith, less) in
      rw none (sym (drop_of_length-le (part file at n) (omega (arith, less, length-take n (drop at file)))))
  | inr more ↦
      let is : min from n ≡ from = omega (arith, more) in
      let all : n ≡ from + (n - from) = omega (arith, more) in
      rw is (ap (take (n - from)) (sym (drop-drop from at file ∙ ap (λ (m : ℕ). drop m file) (omega arith))) ∙ sym (drop-take from (n - from) (drop at file)) ∙ ap (λ (m : ℕ). drop from (take m (drop at file))) (sym all))
]

pub part-read : (file : List ℕ) (at n from len : ℕ) → with_zeros len (part file (at + min from n) (min len (n - min from n))) ≡ with_zeros len (drop from (part file at n))
part-read file at n from len =
    ap (with_zeros len) (part-taken file (at + min from n) len (n - min from n)) ∙ zeros-taken len (part file (at + min from n) (n - min from n))
    ∙ ap (with_zeros len) (part-dropped file at n from)
