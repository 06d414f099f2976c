-- Digits are decoded 64 at a time.
use Rattle.std.proofs.Common.{◌≡◌, ℕ, zero, suc, ◌+◌, ◌-◌, ◌*◌, ◌%◌, ◌<◌, ◌≤◌, ◌^◌, Bool, true, false, cond, ltb, ◌&&◌, ◌==◌, Fits, List, [], ◌∷◌, ◌++◌, length, map, get_or, drop, take, take-add, append-nil, ◌⊎◌, replicate, bit_or, Option, Some, None, inl, inr, refl, sym, ap, ◌∙◌, arith, w8}
use Rattle.std.specs.Option.{unwrap_or}
use Rattle.std.specs.List.{range_with_len}
use Rattle.std.specs.Simd.Lanes.{Each1, all_below, chunk, mask_l, put_chunk, sel_l, top, zip2}
use Rattle.std.proofs.lemmas.Bool.{cases_eq, cases_lt, eqb-true, and_parts}
use Rattle.std.proofs.lemmas.Bool.Decides.{nat_tests}
use Rattle.std.proofs.lemmas.List.{drop_more, drop_all, get_or_append_left, length-map, length-take, length-drop, take-append-drop}
use Rattle.std.proofs.lemmas.Simd.{chunk-drop, length-chunk, mask_l-mod, take_more_put_chunk, splat_is_map, tops_compared, zip2_of_maps, zip2_splat, zip2_splat_left}
use Rattle.hex.specs.Hex.{hex_digit_value}
use Rattle.disk_files.specs.Words.{byte_of, hex_bytes, capped, joined, value_or_none, ◌>>=◌}

-- ---- vectors that were computed lane by lane

sel_map : {X Y : Type 0} (p : X → Bool) (f g : X → Y) (xs : List X) → sel_l (map p xs) (map f xs) (map g xs) ≡ map (λ x. cond (p x) (f x) (g x)) xs
sel_map p f g [] = refl
sel_map p f g (x ∷ xs) = ap (λ l. cond (p x) (f x) (g x) ∷ l) (sel_map p f g xs)

-- one of two vectors, lane by lane, as two others compare
chosen : (t : ℕ → ℕ → Bool) (f g h k : ℕ → ℕ) (xs : List ℕ) {a b c d : List ℕ} → a ≡ map f xs → b ≡ map g xs → c ≡ map h xs → d ≡ map k xs
    → sel_l (map (top 7) (zip2 (λ x y. cond (t x y) 255 0) a b)) c d ≡ map (λ x. cond (t (f x) (g x)) (h x) (k x)) xs
chosen t f g h k xs {a} {b} {c} {d} ea eb ec ed =
    let marks = tops_compared w8 t a b ∙ zip2_of_maps t f g xs ea eb in
    rw (marks, ec, ed) (sel_map (λ x. t (f x) (g x)) h k xs)

-- ---- values

abbrev less : ℕ → ℕ → ℕ
less a b = (a + (256 - b)) % 256

abbrev more : ℕ → ℕ → ℕ
more a b = (a + b) % 256

-- the digits 0 to 9 become the greatest ten numbers
abbrev last_ten : ℕ → ℕ
last_ten x = less x 58

abbrev last_or_six : ℕ → ℕ
last_or_six x = cond (ltb (last_ten x) 6) 6 (last_ten x)

abbrev number : ℕ → ℕ
number x = more (less (last_or_six x) 6) 16

abbrev letter : ℕ → ℕ
letter x = less (bit_or x 32) 97

abbrev letter_below : ℕ → ℕ
letter_below x = cond (ltb (letter x) 245) (letter x) 245

abbrev value : ℕ → ℕ
value x = cond (ltb (number x) (more (letter_below x) 10)) (number x) (more (letter_below x) 10)

-- whether p holds of the first n numbers
abbrev every : (ℕ → Bool) → ℕ → Bool
every p zero = true
every p (suc n) = p n && every p n

every-at : (p : ℕ → Bool) (n i : ℕ) → every p n ≡ true → i < n → p i ≡ true
every-at p zero i h lt = absurd (omega arith)
every-at p (suc n) i h lt = elim (cases_eq i n) [
  | inl same ↦ rw same (and_parts (p n) (every p n) h).0
  | inr other ↦ every-at p n i (and_parts (p n) (every p n) h).1 (omega arith)
]

value-is : (x : ℕ) → x < 256 → capped (value x) ≡ value_or_none x
value-is x fits = eqb-true (capped (value x)) (value_or_none x) (every-at (λ y. capped (value y) == value_or_none y) 256 x refl fits)

-- the values of 64 digits, as a processor finds them
map-value : (xs : List ℕ) → Each1 (Fits w8) xs → map capped (map value xs) ≡ map value_or_none xs
map-value [] fits = refl
map-value (x ∷ xs) fits = rw (value-is x fits.0.fits, map-value xs fits.1) refl

-- the greater and the lesser of two vectors, lane by lane
abbrev greater : List ℕ → List ℕ → List ℕ
greater xs ys = sel_l (map (top 7) (zip2 (λ x y. cond (ltb x y) 255 0) xs ys)) ys xs

abbrev lesser : List ℕ → List ℕ → List ℕ
lesser xs ys = sel_l (map (top 7) (zip2 (λ x y. cond (ltb x y) 255 0) xs ys)) xs ys

-- one operator or comparison of each after the other
pub values-are : (xs : List ℕ) → length xs ≡ 64 → Each1 (Fits w8) xs
    → (tens bounded numbers letters small : List ℕ) → tens ≡ zip2 less xs (replicate 64 58) → bounded ≡ zip2 less (greater tens (replicate 64 6)) (replicate 64 6)
    → numbers ≡ zip2 more bounded (replicate 64 16) → letters ≡ zip2 less (zip2 bit_or xs (replicate 64 32)) (replicate 64 97)
    → small ≡ zip2 more (lesser letters (replicate 64 245)) (replicate 64 10)
    → map capped (lesser numbers small) ≡ map value_or_none xs
values-are xs long fits tens bounded numbers letters small et eb en el es =
    let six : replicate 64 6 ≡ map (λ _. 6) xs = splat_is_map xs 64 6 long in
    let highest : replicate 64 245 ≡ map (λ _. 245) xs = splat_is_map xs 64 245 long in
    let ten : replicate 64 10 ≡ map (λ _. 10) xs = splat_is_map xs 64 10 long in
    let sixteen : replicate 64 16 ≡ map (λ _. 16) xs = splat_is_map xs 64 16 long in
    let first : replicate 64 97 ≡ map (λ _. 97) xs = splat_is_map xs 64 97 long in
    let t : tens ≡ map last_ten xs = et ∙ zip2_splat less xs 64 58 long in
    let b : bounded ≡ map (λ x. less (last_or_six x) 6) xs = eb ∙ zip2_of_maps less _ _ xs (chosen ltb _ _ _ _ xs t six six t) six in
    let n : numbers ≡ map number xs = en ∙ zip2_of_maps more _ _ xs b sixteen in
    let l : letters ≡ map letter xs = el ∙ zip2_of_maps less _ _ xs (zip2_splat bit_or xs 64 32 long) first in
    let s : small ≡ map (λ x. more (letter_below x) 10) xs = es ∙ zip2_of_maps more _ _ xs (chosen ltb _ _ _ _ xs l highest l highest) ten in
    rw (chosen ltb _ _ _ _ xs n s n s) (map-value xs fits)

-- ---- whether all are values of digits

-- values that are capped pass the same test
pub all_below-capped : (vs : List ℕ) → all_below 16 (map capped vs) ≡ all_below 16 vs
all_below-capped [] = refl
all_below-capped (v ∷ vs) = elim (cases_lt v 16) [
  | inl below ↦ grind (arith, nat_tests, all_below-capped vs)
  | inr above ↦ grind (arith, nat_tests, all_below-capped vs)
]

-- and are the same where they pass it
pub capped-below : (vs : List ℕ) → all_below 16 vs ≡ true → map capped vs ≡ vs
capped-below [] good = refl
capped-below (v ∷ vs) good =
    let each = and_parts (ltb v 16) (all_below 16 vs) good in
    rw (each.0, capped-below vs each.1) refl

all_below-bits : (vs : List ℕ) → (mask_l (map (λ v. ltb 15 v) vs) == 0) ≡ all_below 16 vs
all_below-bits [] = refl
all_below-bits (v ∷ vs) = elim (cases_lt v 16) [
  | inl below ↦ grind (arith, nat_tests, all_below-bits vs)
  | inr above ↦ grind (arith, nat_tests, all_below-bits vs)
]

-- the test of 64 values at once
pub are_digits-is : (vs : List ℕ) → length vs ≡ 64 → (mask_l (map (top 7) (zip2 (λ x y. cond (ltb x y) 255 0) (replicate 64 15) vs)) % 2 ^ 64 == 0) ≡ all_below 16 vs
are_digits-is vs long =
    let marks = map (λ v. ltb 15 v) vs in
    rw (tops_compared w8 ltb (replicate 64 15) vs, zip2_splat_left ltb 15 64 vs long, mask_l-mod marks 64 (omega (arith, length-map vs (λ v. ltb 15 v), long))) (all_below-bits vs)

-- ---- pairs

below-at : (vs : List ℕ) (i : ℕ) → all_below 16 vs ≡ true → i < length vs → get_or vs i 0 < 16
below-at [] i h lt = absurd (omega arith)
below-at (v ∷ vs) zero h lt = let first = (and_parts (ltb v 16) (all_below 16 vs) h).0 in grind (arith, nat_tests)
below-at (v ∷ vs) (suc i) h lt = below-at vs i (and_parts (ltb v 16) (all_below 16 vs) h).1 (omega arith)

-- the bytes of the pairs from the i-th on, as a processor finds them
pub joined-from : (n i : ℕ) (vs others : List ℕ) → length vs ≡ 2 * (i + n) → all_below 16 vs ≡ true
    → map (λ k. (get_or (vs ++ others) (2 * k) 0 * 16 % 256 + get_or (vs ++ others) (2 * k + 1) 0) % 256) (range_with_len i n) ≡ joined (drop (2 * i) vs)
joined-from zero i vs others long small = sym (ap joined (drop_all (2 * i) vs (omega (arith, long))))
joined-from (suc n) i vs others long small =
    let high = below-at vs (2 * i) small (omega (arith, long)) in
    let low = below-at vs (2 * i + 1) small (omega (arith, long)) in
    let next : 2 * i + 1 + 1 ≡ 2 * (i + 1) = omega arith in
    let byte : (get_or vs (2 * i) 0 * 16 % 256 + get_or vs (2 * i + 1) 0) % 256 ≡ get_or vs (2 * i) 0 * 16 + get_or vs (2 * i + 1) 0 = omega (arith, high, low) in
    let rest : drop (2 * i) vs ≡ get_or vs (2 * i) 0 ∷ get_or vs (2 * i + 1) 0 ∷ drop (2 * (i + 1)) vs =
    rw (← next) (drop_more vs (2 * i) 0 (omega (arith, long)) ∙ ap (λ l. get_or vs (2 * i) 0 ∷ l) (drop_more vs (2 * i + 1) 0 (omega (arith, long)))) in
    rw (get_or_append_left vs others 0 (2 * i) (omega (arith, long)), get_or_append_left vs others 0 (2 * i + 1) (omega (arith, long)), byte, rest)
    (ap (λ l. (get_or vs (2 * i) 0 * 16 + get_or vs (2 * i + 1) 0) ∷ l) (joined-from n (i + 1) vs others (omega (arith, long)) small))

-- ---- what values say of their digits

-- two digits, and the bytes after them
pair-joined : (h l : Option ℕ) (bytes : Option (List ℕ)) (rest : List ℕ) → (ltb (unwrap_or h 16) 16 && (ltb (unwrap_or l 16) 16 && all_below 16 rest)) ≡ true
    → (all_below 16 rest ≡ true → bytes ≡ Some (joined rest))
    → ((h >>= (λ (x : ℕ). l >>= (λ (y : ℕ). Some (x * 16 + y)))) >>= (λ (b : ℕ). bytes >>= (λ (bs : List ℕ). Some (b ∷ bs)))) ≡ Some ((unwrap_or h 16 * 16 + unwrap_or l 16) ∷ joined rest)
pair-joined None l bytes rest good then = absurd cc
pair-joined (Some x) None bytes rest good then = absurd (let second = (and_parts true _ good) in grind (arith, nat_tests))
pair-joined (Some x) (Some y) bytes rest good then =
    let behind = (and_parts (ltb y 16) (all_below 16 rest) (and_parts (ltb x 16) (ltb y 16 && all_below 16 rest) good).1).1 in
    rw (then behind) refl

-- digits that all have values stand for bytes
values-joined : (n : ℕ) (xs : List ℕ) → length xs ≡ 2 * n → all_below 16 (map value_or_none xs) ≡ true → hex_bytes xs ≡ Some (joined (map value_or_none xs))
values-joined n [] even good = refl
values-joined n (a ∷ []) even good = absurd (omega arith)
values-joined zero (a ∷ b ∷ rest) even good = absurd (omega arith)
values-joined (suc n) (a ∷ b ∷ rest) even good =
    pair-joined (hex_digit_value a) (hex_digit_value b) (hex_bytes rest) (map value_or_none rest) good (values-joined n rest (omega arith))

is-none : (digit : ℕ) → ltb (value_or_none digit) 16 ≡ false → hex_digit_value digit ≡ None
is-none digit large = grind (arith, nat_tests)

pair-none : (h l : Option ℕ) (bytes : Option (List ℕ)) → (h ≡ None) ⊎ (l ≡ None) ⊎ (bytes ≡ None) → ((h >>= (λ (x : ℕ). l >>= (λ (y : ℕ). Some (x * 16 + y)))) >>= (λ (b : ℕ). bytes >>= (λ (bs : List ℕ). Some (b ∷ bs)))) ≡ None
pair-none None l bytes e = refl
pair-none (Some x) None bytes e = refl
pair-none (Some x) (Some y) None e = refl
pair-none (Some x) (Some y) (Some bs) (inl e) = absurd cc
pair-none (Some x) (Some y) (Some bs) (inr (inl e)) = absurd cc
pair-none (Some x) (Some y) (Some bs) (inr (inr e)) = absurd cc

some-none : (a b : ℕ) (rest : List ℕ) (p q r : Bool) → p ≡ ltb (value_or_none a) 16 → q ≡ ltb (value_or_none b) 16 → (r ≡ false → hex_bytes rest ≡ None) → (p && (q && r)) ≡ false
    → (hex_digit_value a ≡ None) ⊎ (hex_digit_value b ≡ None) ⊎ (hex_bytes rest ≡ None)
some-none a b rest false q r p-is q-is behind bad = inl (is-none a (sym p-is))
some-none a b rest true false r p-is q-is behind bad = inr (inl (is-none b (sym q-is)))
some-none a b rest true true r p-is q-is behind bad = inr (inr (behind bad))

-- and others for none
pub values-none : (xs : List ℕ) → all_below 16 (map value_or_none xs) ≡ false → hex_bytes xs ≡ None
values-none [] bad = absurd cc
values-none (a ∷ []) bad = refl
values-none (a ∷ b ∷ rest) bad =
    pair-none (hex_digit_value a) (hex_digit_value b) (hex_bytes rest) (some-none a b rest _ _ (all_below 16 (map value_or_none rest)) refl refl (values-none rest) bad)

-- ---- digits after others

abbrev joined-both : Option (List ℕ) → Option (List ℕ) → Option (List ℕ)
joined-both before after = before >>= (λ (xs : List ℕ). after >>= (λ (ys : List ℕ). Some (xs ++ ys)))

both-after : (byte : Option ℕ) (before after : Option (List ℕ))
    → (byte >>= (λ (b : ℕ). joined-both before after >>= (λ (bs : List ℕ). Some (b ∷ bs)))) ≡ joined-both (byte >>= (λ (b : ℕ). before >>= (λ (bs : List ℕ). Some (b ∷ bs)))) after
both-after None before after = refl
both-after (Some b) None after = refl
both-after (Some b) (Some xs) None = refl
both-after (Some b) (Some xs) (Some ys) = refl

joined-alone : (after : Option (List ℕ)) → after ≡ joined-both (Some []) after
joined-alone None = refl
joined-alone (Some ys) = refl

bytes_of-append : (n : ℕ) (xs ys : List ℕ) → length xs ≡ 2 * n → hex_bytes (xs ++ ys) ≡ joined-both (hex_bytes xs) (hex_bytes ys)
bytes_of-append n [] ys even = joined-alone (hex_bytes ys)
bytes_of-append n (a ∷ []) ys even = absurd (omega arith)
bytes_of-append zero (a ∷ b ∷ rest) ys even = absurd (omega arith)
bytes_of-append (suc n) (a ∷ b ∷ rest) ys even =
    ap (λ (bytes : Option (List ℕ)). byte_of (a ∷ b ∷ []) >>= (λ (c : ℕ). bytes >>= (λ (bs : List ℕ). Some (c ∷ bs)))) (bytes_of-append n rest ys (omega arith))
    ∙ both-after (byte_of (a ∷ b ∷ [])) (hex_bytes rest) (hex_bytes ys)

length-joined : (n : ℕ) (vs : List ℕ) → length vs ≡ 2 * n → length (joined vs) ≡ n
length-joined n [] even = omega arith
length-joined n (a ∷ []) even = absurd (omega arith)
length-joined zero (a ∷ b ∷ rest) even = absurd (omega arith)
length-joined (suc n) (a ∷ b ∷ rest) even = ap suc (length-joined n rest (omega arith))

module _ (digits bytes : List ℕ) (done : ℕ) (inside : 2 * done ≤ length digits) where
  front : length (take (2 * done) digits) ≡ 2 * done
  front = omega (arith, length-take (2 * done) digits, inside)

  -- 64 digits more
  pub decoded-more : length digits ≡ 2 * length bytes → done + 32 ≤ length bytes → hex_bytes (take (2 * done) digits) ≡ Some (take done bytes) → all_below 16 (map value_or_none (chunk (2 * done) 64 digits)) ≡ true
      → hex_bytes (take (2 * (done + 32)) digits) ≡ Some (take (done + 32) (put_chunk done bytes (joined (map value_or_none (chunk (2 * done) 64 digits)))))
  decoded-more long room was good =
      let part = chunk (2 * done) 64 digits in
      let size : length part ≡ 64 = length-chunk (2 * done) 64 digits (omega (arith, long, room)) in
      let wide : 2 * (done + 32) ≡ 2 * done + 64 = omega arith in
      let made : length (joined (map value_or_none part)) ≡ 32 = length-joined 32 (map value_or_none part) (omega (arith, size, length-map part value_or_none)) in
      rw (wide, take-add (2 * done) 64 digits, bytes_of-append done (take (2 * done) digits) part front, was, values-joined 32 part (omega (arith, size)) good)
      (ap (λ (xs : List ℕ). Some xs) (sym (take_more_put_chunk done bytes (joined (map value_or_none part)) (done + 32) (omega (arith, made)) room)))

  -- a byte that is no digit is among the next 64
  pub decoded-none : hex_bytes (take (2 * done) digits) ≡ Some (take done bytes) → hex_bytes (drop (2 * done) digits) ≡ None → hex_bytes digits ≡ None
  decoded-none was none = ap hex_bytes (sym (take-append-drop (2 * done) digits)) ∙ bytes_of-append done (take (2 * done) digits) (drop (2 * done) digits) front ∙ rw (was, none) refl

  -- the rest
  pub decoded-rest : (rest : List ℕ) → hex_bytes (take (2 * done) digits) ≡ Some (take done bytes) → hex_bytes (drop (2 * done) digits) ≡ Some rest → hex_bytes digits ≡ Some (take done bytes ++ rest)
  decoded-rest rest was is = ap hex_bytes (sym (take-append-drop (2 * done) digits)) ∙ bytes_of-append done (take (2 * done) digits) (drop (2 * done) digits) front ∙ rw (was, is) refl

-- a part that is no digits makes the whole none
pub part-none : (digits : List ℕ) (at : ℕ) → at + 64 ≤ length digits → all_below 16 (map value_or_none (chunk at 64 digits)) ≡ false → hex_bytes (drop at digits) ≡ None
part-none digits at room bad =
    let part = chunk at 64 digits in
    let rest = drop (at + 64) digits in
    ap hex_bytes (chunk-drop at 64 digits) ∙ bytes_of-append 32 part rest (length-chunk at 64 digits room) ∙ rw (values-none part bad) refl

-- a part to the end of a slice is put back
pub put_end : (bytes out : List ℕ) (at : ℕ) → take at bytes ++ (out ++ drop (length bytes - at) (drop at bytes)) ≡ take at bytes ++ out
put_end bytes out at = rw (drop_all (length bytes - at) (drop at bytes) (omega (arith, length-drop at bytes)), append-nil out) refl
