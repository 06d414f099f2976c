-- The blocks of a write are kept, one after the other.
use Rattle.std.proofs.Common.{◌≡◌, ◌∙◌, ℕ, zero, suc, ◌+◌, ◌*◌, ◌-◌, ◌<◌, ◌≤◌, List, [], ◌∷◌, ◌++◌, length, take, drop, replicate, refl, sym, ap, arith, Ok, Err, append-nil, append_assoc, length-append, length-drop, length-take, drop-drop, take-take, take_all}
use Rattle.std.proofs.Math.Nat.{add-mul}
use Rattle.std.specs.Prelude.{OnErr, Result}
use Rattle.std.proofs.lemmas.List.{length-replicate}
use Rattle.std.proofs.lemmas.Nat.{mul-le}
use Rattle.zone_states.specs.Zone.{cut_blocks}
use Rattle.nbd_session.specs.Pending.{Pending, pieces}
use Rattle.nbd_session.specs.Store.{StoreView}
use Rattle.volatile_cache.specs.Cache.{Cache, HasRoom, Keeps}
use Rattle.volatile_cache.specs.Queue.{all_pending}
use Rattle.volatile_cache.specs.declared.kept.Kept.{Kept}
use Rattle.volatile_cache.proofs.CacheLaws.{length_pieces}

pub pieces_more : (first : ℕ) (xs ys : List (List ℕ)) → pieces first (xs ++ ys) ≡ pieces first xs ++ pieces (first + length xs) ys
pieces_more first [] ys = ap (λ (place : ℕ). pieces place ys) (omega arith)
pieces_more first (x ∷ xs) ys =
    ap (λ (ps : List Pending). record { place = first; block = x } ∷ ps) (pieces_more (suc first) xs ys ∙ ap (λ (place : ℕ). pieces (suc first) xs ++ pieces place ys) (omega arith))

-- one block more of those that are cut
pub cut_more : (size n k : ℕ) (bytes : List ℕ) → k < n → take (k + 1) (cut_blocks size n bytes) ≡ take k (cut_blocks size n bytes) ++ take size (drop (k * size) bytes) ∷ []
cut_more size zero k bytes less = absurd (omega (arith, less))
cut_more size (suc n) zero bytes less = let none : 0 * size ≡ 0 = omega arith in rw none refl
cut_more size (suc n) (suc k) bytes less =
    let far : size + k * size ≡ suc k * size = omega (arith, add-mul 1 k size) in
    let next : suc k + 1 ≡ suc (k + 1) = omega arith in
    rw next (ap (λ (bs : List (List ℕ)). take size bytes ∷ bs)
    (cut_more size n k (drop size bytes) (omega (arith, less))
    ∙ ap (λ (b : List ℕ). take k (cut_blocks size n (drop size bytes)) ++ take size b ∷ []) (drop-drop (k * size) size bytes ∙ ap (λ (m : ℕ). drop m bytes) far)))

pub all_cut : (size n : ℕ) (bytes : List ℕ) → take n (cut_blocks size n bytes) ≡ cut_blocks size n bytes
all_cut size zero bytes = refl
all_cut size (suc n) bytes = ap (λ (bs : List (List ℕ)). take size bytes ∷ bs) (all_cut size n (drop size bytes))

pub cut_long : (size n k : ℕ) (bytes : List ℕ) → k ≤ n → length (take k (cut_blocks size n bytes)) ≡ k
cut_long size n zero bytes less = refl
cut_long size zero (suc k) bytes less = absurd (omega (arith, less))
cut_long size (suc n) (suc k) bytes less = ap suc (cut_long size n k (drop size bytes) (omega (arith, less)))

pub replicate_more : {X : Type 0} (n : ℕ) (x : X) → replicate (n + 1) x ≡ replicate n x ++ x ∷ []
replicate_more zero x = refl
replicate_more {X = X} (suc n) x =
    let next : suc n + 1 ≡ suc (n + 1) = omega arith in
    rw next (ap (λ (xs : List X). x ∷ xs) (replicate_more n x))

take-front : (xs ys : List Kept) → take (length xs) (xs ++ ys) ≡ xs
take-front [] ys = take-none ys
  where
    take-none : (zs : List Kept) → take 0 zs ≡ []
    take-none [] = refl
    take-none (z ∷ zs) = refl
take-front (x ∷ xs) ys = ap (λ (zs : List Kept). x ∷ zs) (take-front xs ys)

-- nothing is kept yet
pub keeps_none : {S : Type 0} (cache : Cache S) → Keeps cache [] cache
keeps_none cache = record { store = refl; most = refl; kept = sym (append-nil (all_pending cache.kept)); front = take_all (length cache.kept) cache.kept (omega arith) }

pub length_map : (ks : List Kept) → length (all_pending ks) ≡ length ks
length_map [] = refl
length_map (k ∷ ks) = ap suc (length_map ks)

-- so many are pending then
pub keeps_count : {S : Type 0} (old new : Cache S) (blocks : List Pending) → Keeps old blocks new → length new.kept ≡ length old.kept + length blocks
keeps_count old new blocks k = sym (length_map new.kept) ∙ (ap length k.kept ∙ (length-append (all_pending old.kept) blocks ∙ ap (λ (n : ℕ). n + length blocks) (length_map old.kept)))

-- and more after them
pub keeps_more : {S : Type 0} (a b c : Cache S) (xs ys : List Pending) → Keeps a xs b → Keeps b ys c → Keeps a (xs ++ ys) c
keeps_more a b c xs ys x y = record {
  store = y.store ∙ x.store;
  most = y.most ∙ x.most;
  kept = y.kept ∙ (ap (λ (ps : List Pending). ps ++ ys) x.kept ∙ append_assoc (all_pending a.kept) xs ys);
  front = sym (take-take (length a.kept) (length b.kept) c.kept (omega (arith, keeps_count a b xs x))) ∙ (ap (λ (ks : List Kept). take (length a.kept) ks) y.front ∙ x.front);
}

-- ---- one block more

slice-is : (size k : ℕ) (bytes : List ℕ) → take ((k + 1) * size - k * size) (drop (k * size) bytes) ≡ take size (drop (k * size) bytes)
slice-is size k bytes = ap (λ (n : ℕ). take n (drop (k * size) bytes)) (omega (arith, add-mul k 1 size))

pub slice_long : (size count k : ℕ) (bytes : List ℕ) → length bytes ≡ count * size → k < count → length (take ((k + 1) * size - k * size) (drop (k * size) bytes)) ≡ size
slice_long size count k bytes long less =
    omega (arith, long, length-take ((k + 1) * size - k * size) (drop (k * size) bytes), length-drop (k * size) bytes, add-mul k 1 size, mul-le (k + 1) size count size (omega (arith, less)) (omega arith))

pub room_next : {S : Type 0} (view : S → StoreView) (old now : Cache S) (first count k : ℕ) (blocks : List (List ℕ)) → HasRoom view old first count → Keeps old (pieces first blocks) now → length blocks ≡ k → k < count
    → HasRoom view now (first + k) 1
room_next view old now first count k blocks room kept long less = record {
  room = omega (arith, room.room, kept.most, keeps_count old now (pieces first blocks) kept, length_pieces first blocks, long, less);
  within = rw kept.store (omega (arith, room.within, less));
}

pub cut_next : {S : Type 0} (old now new : Cache S) (first size count k : ℕ) (bytes : List ℕ) → Keeps old (pieces first (take k (cut_blocks size count bytes))) now → k < count
    → Keeps now (pieces (first + k) (take ((k + 1) * size - k * size) (drop (k * size) bytes) ∷ [])) new → Keeps old (pieces first (take (k + 1) (cut_blocks size count bytes))) new
cut_next old now new first size count k bytes x less y =
    let blocks = take k (cut_blocks size count bytes) in
    let one = take size (drop (k * size) bytes) in
    let all : pieces first (take (k + 1) (cut_blocks size count bytes)) ≡ pieces first blocks ++ pieces (first + k) (one ∷ []) =
    ap (λ (bs : List (List ℕ)). pieces first bs) (cut_more size count k bytes less)
    ∙ (pieces_more first blocks (one ∷ []) ∙ ap (λ (n : ℕ). pieces first blocks ++ pieces (first + n) (one ∷ [])) (cut_long size count k bytes (omega (arith, less)))) in
    rw all (keeps_more old now new (pieces first blocks) (pieces (first + k) (one ∷ [])) x (rw (slice-is size k bytes) at y))

pub zeros_next : {S : Type 0} (old now new : Cache S) (first k : ℕ) (block : List ℕ) → Keeps old (pieces first (replicate k block)) now → Keeps now (pieces (first + k) (block ∷ [])) new → Keeps old (pieces first (replicate (k + 1) block)) new
zeros_next old now new first k block x y =
    let all : pieces first (replicate (k + 1) block) ≡ pieces first (replicate k block) ++ pieces (first + k) (block ∷ []) =
    ap (λ (bs : List (List ℕ)). pieces first bs) (replicate_more k block)
    ∙ (pieces_more first (replicate k block) (block ∷ []) ∙ ap (λ (n : ℕ). pieces first (replicate k block) ++ pieces (first + n) (block ∷ [])) (length-replicate k block)) in
    rw all (keeps_more old now new (pieces first (replicate k block)) (pieces (first + k) (block ∷ [])) x y)

-- what holds anyway holds after an error
pub on_err : {A E : Type 0} (result : Result A E) (Holds : Type 0) → Holds → OnErr result Holds
on_err (Ok done) Holds holds = tt
on_err (Err fault) Holds holds = holds
