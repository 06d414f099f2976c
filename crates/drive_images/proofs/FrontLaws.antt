-- An image that bytes begin with: they begin with no other.
use Rattle.std.proofs.Common.{◌≡◌, ℕ, ◌+◌, ◌-◌, ◌≤◌, leb, Bool, true, false, List, [], ◌∷◌, ◌++◌, length, take, inr, refl, sym, ap, ◌∙◌, append_assoc, arith}
use Rattle.std.specs.Prelude.{nat_lt}
use Rattle.std.proofs.Math.Seq.{take-append-add}
use Rattle.std.proofs.lemmas.Bool.{leb-false, leb-true}
use Rattle.std.proofs.lemmas.Bool.Decides.{nat_tests}
use Rattle.std.proofs.lemmas.List.{append-nil, append_cancel_left, take_at}
use Rattle.drive_port.specs.Drive.{DriveState}
use Rattle.drive_images.specs.Image.{IsImage, head_bytes, zones_bytes}
use Rattle.drive_images.specs.Reading.{IsImageFault}
use Rattle.drive_images.specs.declared.fault.ImageFault.TheVariants.{Long}
use Rattle.drive_images.proofs.MeaningLaws.{no-fault}

-- an image with bytes behind it is too long
pub followed : (image rest : List ℕ) (byte : ℕ) (drive : DriveState) → IsImage image drive → IsImageFault (image ++ byte ∷ rest) Long
followed image rest byte drive is =
    let none_more : nat_lt (length drive.zones) drive.geometry.zones ≡ false = grind (arith, nat_tests, is.count) in
    inr (record {
      geometry = drive.geometry;
      rest = zones_bytes drive.zones ++ byte ∷ rest;
      text = ap (λ (l : List ℕ). l ++ byte ∷ rest) is.text ∙ append_assoc (head_bytes drive.geometry) (zones_bytes drive.zones) (byte ∷ rest);
      in_range = is.geometry;
      fails = record { before = drive.zones; rest = byte ∷ rest; text = refl; zones = is.zones; count = omega (arith, is.count); told = rw none_more refl };
    })

-- so no image is the front of another
no_more : (image more : List ℕ) (a b : DriveState) → IsImage image a → IsImage (image ++ more) b → more ≡ []
no_more image [] a b is other = refl
no_more image (byte ∷ more) a b is other = absurd (cc (no-fault (image ++ byte ∷ more) b Long other (followed image more byte a is)))

shorter : (first second x y : List ℕ) (a b : DriveState) → IsImage first a → IsImage second b → length first ≤ length second → first ++ x ≡ second ++ y → first ≡ second
shorter first second x y a b is_first is_second short same =
    let more = take (length second - length first) x in
    let splits : length second ≡ length first + (length second - length first) = omega (arith, short) in
    let longer : second ≡ first ++ more =
    sym (take_at second y (length second) refl) ∙ ap (λ (l : List ℕ). take (length second) l) (sym same)
    ∙ ap (λ (n : ℕ). take n (first ++ x)) splits ∙ take-append-add first x (length second - length first) in
    let none = no_more first more a b is_first (rw longer at is_second) in
    sym (longer ∙ ap (λ (l : List ℕ). first ++ l) none ∙ append-nil first)

-- bytes begin with one image at most
pub one-image : (first second x y : List ℕ) (a b : DriveState) → IsImage first a → IsImage second b → first ++ x ≡ second ++ y → (first ≡ second) × (x ≡ y)
one-image first second x y a b is_first is_second same = by (leb (length first) (length second)) refl
  where
    whole : first ≡ second → (first ≡ second) × (x ≡ y)
    whole e = (e, append_cancel_left second x y (ap (λ (l : List ℕ). l ++ x) (sym e) ∙ same))

    by : (below : Bool) → leb (length first) (length second) ≡ below → (first ≡ second) × (x ≡ y)
    by true e = whole (shorter first second x y a b is_first is_second (leb-true _ _ e) same)
    by false e = let more = leb-false _ _ e in whole (sym (shorter second first y x b a is_second is_first (omega (arith, more)) (sym same)))
