-- Entries that name no block twice, tested one after the other.
use Rattle.std.proofs.Common.{◌≡◌, ◌↔◌, ℕ, ◌+◌, ◌-◌, ◌<◌, ◌≤◌, Bool, true, false, ◌||◌, eqb, List, [], ◌∷◌, map, length, take, drop, get_or, refl}
use Rattle.std.specs.List.{AllByRecursion, IsDistinct, list_any}
use Rattle.std.proofs.lemmas.List.{drop_more, drop_all, take_rest}
use Rattle.batch_log.specs.declared.header.Entry.{Entry}

-- the entries name no block twice
abbrev AreDistinct : List Entry → Type 0
AreDistinct es = IsDistinct eqb (map (λ (e : Entry). e.block) es)

abbrev Differ : ℕ → List Entry → Type 0
Differ block es = AllByRecursion (λ (y : ℕ). eqb block y ≡ false) (map (λ (e : Entry). e.block) es)

differ : (block : ℕ) (es : List Entry) → list_any (λ (e : Entry). eqb block e.block) es ≡ false → Differ block es
differ block [] none = tt
differ block (e ∷ es) none = split (eqb block e.block) refl none (λ rest. differ block es rest)
  where
    split : (b : Bool) → eqb block e.block ≡ b → (b || list_any (λ (e : Entry). eqb block e.block) es) ≡ false → (list_any (λ (e : Entry). eqb block e.block) es ≡ false → Differ block es) → Differ block (e ∷ es)
    split true is h others = absurd (cc)
    split false is h others = (is, others h)

named : (block : ℕ) (es : List Entry) → list_any (λ (e : Entry). eqb block e.block) es ≡ true → Differ block es → ⊥
named block [] some d = absurd (cc)
named block (e ∷ es) some d = named block es (rw d.0 at some) d.1

-- what `&entries[i..]` holds
abbrev behind : ℕ → List Entry → List Entry
behind i es = take (length es - i) (drop i es)

-- no entries are distinct
pub distinct_end : (es : List Entry) (i : ℕ) → length es ≤ i → AreDistinct (drop i es)
unfolding IsDistinct
distinct_end es i le = rw (drop_all i es le) tt

-- an entry that no later one names again is distinct
pub distinct_more : (es : List Entry) (i : ℕ) (d : Entry) → i < length es → list_any (λ (e : Entry). eqb (get_or es i d).block e.block) (behind (i + 1) es) ≡ false
    → AreDistinct (drop i es) ↔ AreDistinct (drop (i + 1) es)
unfolding IsDistinct
distinct_more es i d lt none =
    let rest = take_rest es (i + 1) in
    let apart = differ (get_or es i d).block (drop (i + 1) es) (rw rest at none) in
    rw (drop_more es i d lt) (λ h. h.1, λ h. (apart, h))

-- and one that is named again is not
pub distinct_not : (es : List Entry) (i : ℕ) (d : Entry) → i < length es → list_any (λ (e : Entry). eqb (get_or es i d).block e.block) (behind (i + 1) es) ≡ true
    → AreDistinct (drop i es) → ⊥
unfolding IsDistinct
distinct_not es i d lt some h =
    let rest = take_rest es (i + 1) in
    let now = rw (drop_more es i d lt) at h in
    named (get_or es i d).block (drop (i + 1) es) (rw rest at some) now.0
