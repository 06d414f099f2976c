-- Ranges grow by a block.
use Rattle.std.proofs.Common.{◌≡◌, ℕ, zero, suc, ◌+◌, ◌-◌, ◌<◌, List, [], ◌∷◌, ◌++◌, refl, sym, ap, ◌∙◌, arith, append_assoc, append-nil}
use Rattle.std.specs.List.{range_with_len}
use Rattle.drive_rescue.specs.declared.ranges.BlockRange.{BlockRange}
use Rattle.drive_rescue.specs.Ranges.{blocks_in}

-- a range with one more
pub range-more : (a n m : ℕ) → m ≡ a + n → range_with_len a (n + 1) ≡ range_with_len a n ++ m ∷ []
range-more a zero m e = let same : m ≡ a = omega arith in rw same refl
range-more a (suc n) m e =
    let next : suc n + 1 ≡ suc (n + 1) = omega arith in
    rw next (ap (λ (xs : List ℕ). a ∷ xs) (range-more (a + 1) n m (omega arith)))

-- of two lists of ranges
pub blocks-append : (xs ys : List BlockRange) → blocks_in (xs ++ ys) ≡ blocks_in xs ++ blocks_in ys
blocks-append [] ys = refl
blocks-append (x ∷ xs) ys =
    ap (λ (bs : List ℕ). range_with_len x.first x.count ++ bs) (blocks-append xs ys) ∙ sym (append_assoc (range_with_len x.first x.count) (blocks_in xs) (blocks_in ys))

one-range : (r : BlockRange) → blocks_in (r ∷ []) ≡ range_with_len r.first r.count
one-range r = append-nil (range_with_len r.first r.count)

-- the last range has one block more
pub longer-range : (all rest : List BlockRange) (last more : BlockRange) (block : ℕ) → all ≡ rest ++ last ∷ [] → last.first < block → last.count ≡ block - last.first
    → more.first ≡ last.first → more.count ≡ last.count + 1 → blocks_in (rest ++ more ∷ []) ≡ blocks_in all ++ block ∷ []
longer-range all rest last more block is lt count first long =
    let grown : range_with_len more.first more.count ≡ range_with_len last.first last.count ++ block ∷ [] =
    rw (first, long) (range-more last.first last.count block (omega (arith, lt, count))) in
    blocks-append rest (more ∷ []) ∙ ap (λ (bs : List ℕ). blocks_in rest ++ bs) (one-range more ∙ grown ∙ ap (λ (bs : List ℕ). bs ++ block ∷ []) (sym (one-range last)))
    ∙ sym (append_assoc (blocks_in rest) (blocks_in (last ∷ [])) (block ∷ [])) ∙ ap (λ (bs : List ℕ). bs ++ block ∷ []) (sym (blocks-append rest (last ∷ [])) ∙ ap blocks_in (sym is))
