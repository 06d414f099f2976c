-- Extents that are told one after the other.
use Rattle.std.specs.Prelude.{◌≡◌, ℕ, ◌+◌, ◌-◌, ◌<◌, ◌≤◌, List, [], ◌∷◌, ◌++◌, Bool, true, false, IsTrue, not, slice_index_or}
use Rattle.std.proofs.Common.{arith, refl, sym, ap, ◌∙◌, inl, inr}
use Rattle.std.specs.Bool.{beq}
use Rattle.std.proofs.lemmas.Bool.{cases_lt}
use Rattle.logical_map.specs.declared.place.Place.{Place}
use Rattle.logical_map.specs.declared.place.Place.TheVariants as places
use Rattle.disk_calls.specs.declared.call.Extent.{Extent}
use Rattle.zone_translator.specs.View.{DiskView, disk_places}
use Rattle.zone_translator.specs.declared.status.DiskStatus.TheVariants.{Serving}
use Rattle.disk_calls.specs.Serves.{AreExtents, IsExtent, TellsExtents, blocks_told, has_data, is_data}
use Rattle.disk_calls.specs.Talk.{Becomes, IsFresh, OnlyPasses, Talk, nothing, told_extent}

pub told-more : (xs : List Extent) (x : Extent) → blocks_told (xs ++ x ∷ []) ≡ blocks_told xs + x.blocks
told-more [] x = omega (arith)
told-more (y ∷ ys) x = let more : blocks_told (ys ++ x ∷ []) ≡ blocks_told ys + x.blocks = told-more ys x in omega (arith, more)

pub are-more : (all : List Place) (first : ℕ) (xs : List Extent) (x : Extent) → AreExtents all first xs
    → IsExtent all (first + blocks_told xs) x → AreExtents all first (xs ++ x ∷ [])
are-more all first [] x are is = (rw (let same : first + 0 ≡ first = omega (arith) in same) at is, tt)
are-more all first (y ∷ ys) x are is =
    let same : first + (y.blocks + blocks_told ys) ≡ first + y.blocks + blocks_told ys = omega (arith) in
    (are.0, are-more all (first + y.blocks) ys x are.1 (rw same at is))

-- the blocks from `first` to before `at` were told, and more are wanted
pub record ToldTo (disk : DiskView) (first end at : ℕ) (was is : Talk) : Type 0 where
  pub extents : List Extent
  pub talk : Becomes was (record was { passed = record nothing { extents = extents } }) is
  pub are : IsTrue disk.drive.clean → disk.status ≡ Serving → AreExtents (disk_places disk) first extents
  pub told : first + blocks_told extents ≡ at
  pub within : at ≤ end

pub told-none : (disk : DiskView) (first end : ℕ) (was : Talk) → first ≤ end → IsFresh was → ToldTo disk first end first was was
told-none disk first end was within fresh = record {
  extents = [];
  talk = λ known. (known, rw (fresh known) refl);
  are = λ clean serving. tt;
  told = omega (arith);
  within = within;
}

-- one extent more was told, and what was said is known
next-talk : (was is after : Talk) (xs : List Extent) (x : Extent) (enough : Bool) → Becomes was (record was { passed = record nothing { extents = xs } }) is
    → Becomes is (told_extent is x enough) after
    → Becomes was (record was { passed = record nothing { extents = xs ++ x ∷ []; enough = enough } }) after
next-talk was is after xs x enough before then known =
    let now = then known in
    let earlier = before now.0 in
    (earlier.0, rw earlier.1 at now.1)

pub told-next : (disk : DiskView) (first end at : ℕ) (was is after : Talk) (x : Extent) → ToldTo disk first end at was is
    → (IsTrue disk.drive.clean → disk.status ≡ Serving → IsExtent (disk_places disk) at x) → at + x.blocks ≤ end
    → Becomes is (told_extent is x false) after → ToldTo disk first end (at + x.blocks) was after
told-next disk first end at was is after x t each within e = record {
  extents = t.extents ++ x ∷ [];
  talk = next-talk was is after t.extents x false t.talk e;
  are = λ clean serving. are-more (disk_places disk) first t.extents x (t.are clean serving) (rw (sym t.told) at (each clean serving));
  told = let more : blocks_told (t.extents ++ x ∷ []) ≡ blocks_told t.extents + x.blocks = told-more t.extents x in omega (arith, more, t.told);
  within = within;
}

-- all were told
pub told-whole : (disk : DiskView) (first end : ℕ) (was is : Talk) → ToldTo disk first end end was is
    → IsTrue disk.drive.clean → IsTrue is.known → disk.status ≡ Serving → TellsExtents (disk_places disk) first (end - first) is.passed
told-whole disk first end was is t clean known serving = rw (t.talk known).1 (record {
  are = t.are clean serving;
  within = omega (arith, t.told);
  whole = λ more. omega (arith, t.told);
  only = refl;
})

pub told-talk : (disk : DiskView) (first end at : ℕ) (was is : Talk) → ToldTo disk first end at was is → OnlyPasses was is
told-talk disk first end at was is t known = ((t.talk known).0, rw (t.talk known).1 refl)

-- no more are wanted
pub told-enough : (disk : DiskView) (first end at : ℕ) (was is after : Talk) (x : Extent) → ToldTo disk first end at was is
    → (IsTrue disk.drive.clean → disk.status ≡ Serving → IsExtent (disk_places disk) at x) → at + x.blocks ≤ end
    → Becomes is (told_extent is x true) after → IsTrue disk.drive.clean → IsTrue after.known → disk.status ≡ Serving
    → TellsExtents (disk_places disk) first (end - first) after.passed
told-enough disk first end at was is after x t each within e clean known serving =
    let more : blocks_told (t.extents ++ x ∷ []) ≡ blocks_told t.extents + x.blocks = told-more t.extents x in
    rw (next-talk was is after t.extents x true t.talk e known).1 (record {
      are = are-more (disk_places disk) first t.extents x (t.are clean serving) (rw (sym t.told) at (each clean serving));
      within = omega (arith, more, t.told, within);
      whole = λ none. absurd (cc none);
      only = refl;
    })

pub enough-talk : (disk : DiskView) (first end at : ℕ) (was is after : Talk) (x : Extent) → ToldTo disk first end at was is
    → Becomes is (told_extent is x true) after → OnlyPasses was after
enough-talk disk first end at was is after x t e known =
    let now = next-talk was is after t.extents x true t.talk e known in (now.0, rw now.1 refl)

-- ---- blocks that are alike

pub alike-run : (all : List Place) (first block : ℕ) (has : Bool) → first < block
    → ((b : ℕ) → first ≤ b → b < block → has_data all b ≡ has) → IsExtent all first (record { blocks = block - first; has_data = has })
alike-run all first block has lt alike = record {
  some = omega (arith, lt);
  alike = λ b from to. alike b from (omega (arith, lt, to));
}

-- one block more is alike
pub alike-more : (all : List Place) (first block : ℕ) (has next : Bool) (p : Place)
    → ((b : ℕ) → first ≤ b → b < block → has_data all b ≡ has) → p ≡ slice_index_or all block places.None → next ≡ is_data p → next ≡ has
    → (b : ℕ) → first ≤ b → b < block + 1 → has_data all b ≡ has
alike-more all first block has next p alike at is same b from to = elim (cases_lt b block) as (λ _. has_data all b ≡ has) [
  | inl lt ↦ alike b from lt
  | inr past ↦ (let last : b ≡ block = omega (arith, past, to) in rw last (ap is_data (sym at) ∙ sym is ∙ same))
]

-- two that do not differ are the same
pub same-bools : (a b : Bool) → not (beq a b) ≡ false → a ≡ b
same-bools true true e = refl
same-bools false false e = refl
same-bools true false e = absurd (cc e)
same-bools false true e = absurd (cc e)
