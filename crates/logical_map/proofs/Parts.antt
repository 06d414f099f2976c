-- A first record, as a block and its place.
use Rattle.std.proofs.Common.{◌≡◌, ℕ, Option, Some, None, refl, sym, ap, ◌∙◌}
use Rattle.std.specs.Option.{option_map}
use Rattle.logical_map.specs.declared.place.Place.{Place}
use Rattle.logical_map.specs.declared.place.Place.TheVariants as places

-- a first record is a first block, and its place
pub first-parts : (f : ℕ → Place) (o : Option ℕ) (block : ℕ) (place : Place) → option_map {U = ℕ × Place} (λ b. (b, f b)) o ≡ Some (block, place) → (o ≡ Some block) × (place ≡ f block)
first-parts f None block place e = absurd (cc)
first-parts f (Some b) block place e =
    let same : b ≡ block = ap (λ (p : Option (ℕ × Place)). number p) e in
    let there : f b ≡ place = ap (λ (p : Option (ℕ × Place)). spot p) e in
    (ap (λ (n : ℕ). Some n) same, sym there ∙ ap f same)
  where
    number : Option (ℕ × Place) → ℕ
    number None = 0
    number (Some p) = p.0

    spot : Option (ℕ × Place) → Place
    spot None = places.None
    spot (Some p) = p.1

-- without one there is no first block
pub first-none : (f : ℕ → Place) (o : Option ℕ) → option_map {U = ℕ × Place} (λ b. (b, f b)) o ≡ None → o ≡ None
first-none f None e = refl
first-none f (Some b) e = absurd (cc)
