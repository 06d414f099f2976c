-- The replies to a read.
use Rattle.std.proofs.Common.{◌≡◌, ℕ, ◌*◌, ◌==◌, Bool, true, false, ◌&&◌, if◌then◌else◌, List, [], ◌∷◌, length, take, Some, None, refl, ap, ◌∙◌, arith}
use Rattle.std.specs.Cmp.Lexicographic.{pointwise}
use Rattle.std.specs.Prelude.{eqb}
use Rattle.std.proofs.lemmas.Bool.Decides.{nat_tests}
use Rattle.std.proofs.lemmas.List.{drop_at, length-append, take_at}
use Rattle.std.specs.List.{AllByRecursion, concat, list_all}
use Rattle.disk_files.specs.Reply.{as_blocks, same_byte}

-- ---- a block whose bytes are all the same

where_true : (t p q : Bool) → (t ≡ true → p ≡ q) → (t && p) ≡ (t && q)
where_true true p q f = f refl
where_true false p q f = refl

-- each byte is the one before it where all are the first
same-shifted : (b : ℕ) (bs : List ℕ) → pointwise eqb bs (take (length bs) (b ∷ bs)) ≡ list_all (λ x. x == b) bs
same-shifted b [] = refl
same-shifted b (c ∷ cs) =
    ap (λ (t : Bool). (c == b) && t) (same-shifted c cs)
    ∙ where_true (c == b) (list_all (λ x. x == c) cs) (list_all (λ x. x == b) cs) (λ e. let same : c ≡ b = grind (arith, nat_tests) in rw same refl)

-- all bytes of a block are the same where each is as the one after it
pub same_byte-shifted : (block : List ℕ) (b : ℕ) (bs : List ℕ) (same : Bool) → block ≡ b ∷ bs → same ≡ pointwise eqb bs (take (length bs) block) → (if same then Some b else None) ≡ same_byte block
same_byte-shifted block b bs same e p = rw (e, p ∙ ap (λ (xs : List ℕ). pointwise eqb bs (take (length bs) xs)) e ∙ same-shifted b bs) refl

-- ---- blocks that are joined

-- equal blocks, one after the other
pub length-concat : (size : ℕ) (blocks : List (List ℕ)) → AllByRecursion (λ block. length block ≡ size) blocks → length (concat blocks) ≡ length blocks * size
length-concat size [] each = omega arith
length-concat size (block ∷ blocks) each = omega (arith, each.0, length-concat size blocks each.1, length-append block (concat blocks))

-- and cut again
pub blocks_in-concat : (size : ℕ) (blocks : List (List ℕ)) → AllByRecursion (λ block. length block ≡ size) blocks → as_blocks size (length blocks) (concat blocks) ≡ blocks
blocks_in-concat size [] each = refl
blocks_in-concat size (block ∷ blocks) each = rw (take_at block (concat blocks) size each.0, drop_at block (concat blocks) size each.0, blocks_in-concat size blocks each.1) refl
