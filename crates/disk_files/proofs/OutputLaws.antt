-- Texts that are written part by part.
use Rattle.std.proofs.Common.{◌≡◌, ℕ, ◌+◌, ◌==◌, ◌<◌, false, Ok, Err, List, [], ◌∷◌, ◌++◌, length, take, drop, Option, refl, sym, ap, ◌∙◌, append_assoc, arith}
use Rattle.std.specs.Prelude.{OnErr, Result}
use Rattle.std.specs.Io.KnownBytes.{Appends}
use Rattle.std.proofs.KnownBytes.{Appends-nil, Appends-trans}
use Rattle.std.proofs.Math.Seq.{take-add, take-append-add}
use Rattle.std.proofs.lemmas.List.{length-append, take-append-drop, take-append-le}
use Rattle.hex.specs.Hex.{encode_lower, encode_with}
use Rattle.disk_files.specs.Output.{AppendsFront}
use Rattle.disk_files.specs.RawLine.{raw_reply_text}

take_first : (n : ℕ) (xs ys : List ℕ) → n < length xs → take n (xs ++ ys) ≡ take n xs
take_first n xs ys short = take-append-le n xs ys (omega (arith, short))

take_past : (n : ℕ) (xs ys : List ℕ) → take (length xs + n) (xs ++ ys) ≡ xs ++ take n ys
take_past n xs ys = take-append-add xs ys n

-- the writer fails in the first part
pub front_first : (old new : Option (List ℕ)) (xs ys : List ℕ) → AppendsFront old new xs → AppendsFront old new (xs ++ ys)
front_first old new xs ys front = record {
  count = front.count;
  short = omega (arith, front.short, length-append xs ys);
  appends = rw (take_first front.count xs ys front.short) front.appends;
}

-- the first part is written, and the writer fails in the second
pub front_second : (old middle new : Option (List ℕ)) (xs ys : List ℕ) → Appends old middle xs → AppendsFront middle new ys → AppendsFront old new (xs ++ ys)
front_second old middle new xs ys first front = record {
  count = length xs + front.count;
  short = omega (arith, front.short, length-append xs ys);
  appends = rw (take_past front.count xs ys) (Appends-trans old middle new xs (take front.count ys) first front.appends);
}

-- ---- digits

encode_lower-append : (xs ys : List ℕ) → encode_lower (xs ++ ys) ≡ encode_lower xs ++ encode_lower ys
unfolding encode_with
encode_lower-append [] ys = refl
encode_lower-append (x ∷ xs) ys = rw (encode_lower-append xs ys) refl

-- no bytes have no digits
pub digits-none : (a : Option (List ℕ)) → Appends a a (encode_lower [])
unfolding encode_with
digits-none a = Appends-nil a

-- a piece more
pub digits-more : (old middle new : Option (List ℕ)) (at n : ℕ) (bytes : List ℕ) → Appends old middle (encode_lower (take at bytes)) → Appends middle new (encode_lower (take n (drop at bytes)))
    → Appends old new (encode_lower (take (at + n) bytes))
digits-more old middle new at n bytes first second =
    rw (take-add at n bytes, encode_lower-append (take at bytes) (take n (drop at bytes))) (Appends-trans old middle new (encode_lower (take at bytes)) (encode_lower (take n (drop at bytes))) first second)

-- the writer fails within a piece
pub digits-front : (old middle new : Option (List ℕ)) (at n : ℕ) (bytes : List ℕ) → Appends old middle (encode_lower (take at bytes)) → AppendsFront middle new (encode_lower (take n (drop at bytes)))
    → AppendsFront old new (encode_lower bytes)
digits-front old middle new at n bytes first front =
    let piece = encode_lower (take n (drop at bytes)) in
    let rest = encode_lower (drop n (drop at bytes)) in
    let whole : encode_lower bytes ≡ encode_lower (take at bytes) ++ (piece ++ rest) =
    ap encode_lower (sym (take-append-drop at bytes)) ∙ encode_lower-append (take at bytes) (drop at bytes)
    ∙ ap (λ (xs : List ℕ). encode_lower (take at bytes) ++ xs) (ap encode_lower (sym (take-append-drop n (drop at bytes))) ∙ encode_lower-append (take n (drop at bytes)) (drop n (drop at bytes))) in
    rw whole (front_second old middle new (encode_lower (take at bytes)) (piece ++ rest) first (front_first middle new piece rest front))

-- ---- a reply with data

raw_parts : (completion bytes : List ℕ) → (length bytes == 0) ≡ false → raw_reply_text completion bytes ≡ (encode_lower completion ++ 32 ∷ []) ++ (encode_lower bytes ++ 10 ∷ [])
raw_parts completion [] some = absurd (cc)
raw_parts completion (b ∷ bs) some =
    let digits = encode_lower completion in
    let bytes = encode_lower (b ∷ bs) in
    append_assoc digits (32 ∷ bytes) (10 ∷ []) ∙ sym (append_assoc digits (32 ∷ []) (bytes ++ 10 ∷ []))

-- the digits of a completion, and a front of its data's
pub reply-digits : (old middle new : Option (List ℕ)) (completion bytes : List ℕ) → (length bytes == 0) ≡ false → Appends old middle (encode_lower completion ++ 32 ∷ []) → AppendsFront middle new (encode_lower bytes)
    → AppendsFront old new (raw_reply_text completion bytes)
reply-digits old middle new completion bytes some first front =
    rw (raw_parts completion bytes some) (front_second old middle new (encode_lower completion ++ 32 ∷ []) (encode_lower bytes ++ 10 ∷ []) first (front_first middle new (encode_lower bytes) (10 ∷ []) front))

-- and then the end of the line
pub reply-end : (old middle last new : Option (List ℕ)) (completion bytes : List ℕ) → (length bytes == 0) ≡ false → Appends old middle (encode_lower completion ++ 32 ∷ []) → Appends middle last (encode_lower bytes) → AppendsFront last new (10 ∷ [])
    → AppendsFront old new (raw_reply_text completion bytes)
reply-end old middle last new completion bytes some first second front =
    rw (raw_parts completion bytes some) (front_second old middle new (encode_lower completion ++ 32 ∷ []) (encode_lower bytes ++ 10 ∷ []) first (front_second middle last new (encode_lower bytes) (10 ∷ []) second front))

-- ---- results

-- what always holds holds after a fault
pub on_err : {T E : Type 0} (r : Result T E) (P : Type 0) → P → OnErr r P
on_err (Ok x) P p = tt
on_err (Err e) P p = p

-- and so does what follows
pub err-so : {T E : Type 0} (r : Result T E) (P Q : Type 0) → (P → Q) → OnErr r P → OnErr r Q
err-so (Ok x) P Q f p = tt
err-so (Err e) P Q f p = f p
