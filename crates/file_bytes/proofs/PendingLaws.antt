-- What a loss of power may leave after one more write.
use Rattle.std.proofs.Common.{◌≡◌, ℕ, ◌+◌, ◌-◌, ◌<◌, ◌≤◌, ◌⊎◌, Bool, true, false, ◌++◌, [], ◌∷◌, List, length, slice_index, refl, sym, ap, ◌∙◌, inl, inr, arith}
use Rattle.std.proofs.Math.ListN.{take, drop}
use Rattle.std.specs.List.{AllByRecursion, splice}
use Rattle.std.proofs.lemmas.Bool.{cases_lt}
use Rattle.std.proofs.lemmas.List.{length-take-le, length-drop, get_or-take, get_or-drop}
use Rattle.file_bytes.specs.Changes.{SameBeside}
use Rattle.file_bytes.specs.Pending.{AreLeft, FileState, IsOutside, IsUntold, MayLeave, MayShow}
use Rattle.sqlite_disk.specs.Disk.{Holds}
use Rattle.file_bytes.specs.declared.memory.Range.{Range}
use Rattle.file_bytes.proofs.SpliceLaws.{length-spliced, spliced-above, spliced-below, spliced-within, beside-spliced}

-- what holds of the elements and of one more
all-snoc : {X : Type 0} (P : X → Type 0) (xs : List X) (x : X) → AllByRecursion P (xs ++ x ∷ []) → AllByRecursion P xs × P x
all-snoc P [] x all = (tt, all.0)
all-snoc P (y ∷ ys) x all =
    let rest = all-snoc P ys x all.1 in
    ((all.0, rest.0), rest.1)

pub all-joined : {X : Type 0} (P : X → Type 0) (xs : List X) (x : X) → AllByRecursion P xs → P x → AllByRecursion P (xs ++ x ∷ [])
all-joined P [] x all p = (p, tt)
all-joined P (y ∷ ys) x all p = (all.0, all-joined P ys x all.1 p)

module _ (ranges : List Range) (range : Range) (synced : List ℕ) (fits : range.start + range.length ≤ length synced) where
  -- what was left before, or is read, with the range written
  pub left-written : (bytes part : List ℕ) → length part ≡ range.length → AreLeft ranges synced bytes
      → AreLeft (ranges ++ range ∷ []) synced (splice bytes range.start (range.start + length part) part)
  left-written bytes part long left =
      let within : range.start + length part ≤ length bytes = omega (arith, fits, long, left.length_is) in
      record {
        length_is = length-spliced bytes part range.start within ∙ left.length_is;
        others = λ i low outside.
            let parts = all-snoc (IsOutside i) ranges range outside in
            elim parts.1 [
              | inl before ↦ spliced-below bytes part range.start within i before ∙ left.others i low parts.0
              | inr after ↦ spliced-above bytes part range.start within i (omega (arith, after, long)) ∙ left.others i low parts.0
            ];
      }

  -- what is left after it is what was left before, torn in the range
  pub left-before : (bytes : List ℕ) → AreLeft (ranges ++ range ∷ []) synced bytes
      → (before : List ℕ) × AreLeft ranges synced before × SameBeside range.start range.length before bytes
  left-before bytes left =
      let old : List ℕ = take range.length (drop range.start synced) in
      let long : length old ≡ range.length = length-take-le range.length (drop range.start synced) (omega (arith, fits, length-drop range.start synced)) in
      let within : range.start + length old ≤ length bytes = omega (arith, fits, long, left.length_is) in
      let before : List ℕ = splice bytes range.start (range.start + length old) old in
      let same : length before ≡ length bytes = length-spliced bytes old range.start within in (
        before,
        record {
          length_is = same ∙ left.length_is;
          others = λ i low outside. elim (cases_lt i range.start) [
            | inl below ↦ spliced-below bytes old range.start within i below ∙ left.others i low (all-joined (IsOutside i) ranges range outside (inl below))
            | inr from ↦ elim (cases_lt i (range.start + range.length)) [
              | inl inside ↦
                  let k : ℕ = i - range.start in
                  let at : range.start + k ≡ i = omega (arith, from) in
                  ap (slice_index before) (sym at)
                  ∙ spliced-within bytes old range.start within k (omega (arith, inside, from, long))
                  ∙ get_or-take range.length (drop range.start synced) k 0 (omega (arith, inside, from))
                  ∙ get_or-drop range.start synced k 0
                  ∙ ap (slice_index synced) at
              | inr above ↦ spliced-above bytes old range.start within i (omega (arith, above, long)) ∙ left.others i low (all-joined (IsOutside i) ranges range outside (inr above))
            ]
          ];
        },
        record {
          long = sym same;
          below = λ i low. sym (spliced-below bytes old range.start within i low);
          above = λ i high. sym (spliced-above bytes old range.start within i (omega (arith, high, long)));
        },
      )

-- whatever is left after a write is what was left before, torn in the range
pub leaves-written : (old new : FileState) (range : Range) (part : List ℕ) → range.start + range.length ≤ length old.bytes → length part ≡ range.length → length old.bytes ≡ length old.synced
    → new.bytes ≡ splice old.bytes range.start (range.start + length part) part → new.changed ≡ old.changed ++ range ∷ [] → new.synced ≡ old.synced
    → (bytes : List ℕ) → MayLeave new bytes → (before : List ℕ) × MayLeave old before × SameBeside range.start range.length before bytes
leaves-written old new range part fits long same bytes_are changed_are synced_are bytes may = elim may [
  | inl seen ↦ (old.bytes, inl refl, rw (seen, bytes_are, ← long) (beside-spliced old.bytes part range.start (omega (arith, fits, long))))
  | inr left ↦
      let before = left-before old.changed range old.synced (omega (arith, fits, same)) bytes (rw (changed_are, synced_are) at left) in
      (before.0, inr before.1, before.2)
]

-- ---- after a sync that failed

-- the bytes in a range are taken from other bytes
module _ (old c : List ℕ) (at n : ℕ) (long : length c ≡ length old) (fits : at + n ≤ length old) where
  abbrev pub part : List ℕ
  part = take n (drop at old)

  part-long : length part ≡ n
  part-long = length-take-le n (drop at old) (omega (arith, fits, length-drop at old))

  abbrev pub patched : List ℕ
  patched = splice c at (at + length part) part

  part-fits : at + length part ≤ length c
  part-fits = omega (arith, part-long, fits, long)

  pub patched-long : length patched ≡ length c
  patched-long = length-spliced c part at part-fits

  pub patched-within : (i : ℕ) → at ≤ i → i < at + n → slice_index patched i ≡ slice_index old i
  patched-within i from to =
      let k : ℕ = i - at in
      let is : at + k ≡ i = omega (arith, from) in
      ap (slice_index patched) (sym is)
      ∙ spliced-within c part at part-fits k (omega (arith, from, to, part-long))
      ∙ get_or-take n (drop at old) k 0 (omega (arith, from, to))
      ∙ get_or-drop at old k 0
      ∙ ap (slice_index old) is

  pub patched-below : (i : ℕ) → i < at → slice_index patched i ≡ slice_index c i
  patched-below i low = spliced-below c part at part-fits i low

  pub patched-above : (i : ℕ) → at + n ≤ i → slice_index patched i ≡ slice_index c i
  patched-above i high = spliced-above c part at part-fits i (omega (arith, high, part-long))

module _ (old new : FileState) (range : Range) (part : List ℕ) (fits : range.start + range.length ≤ length old.bytes) (long : length part ≡ range.length)
    (left : AreLeft old.changed old.synced old.bytes) (bytes_are : new.bytes ≡ splice old.bytes range.start (range.start + length part) part)
    (changed_are : new.changed ≡ old.changed ++ range ∷ []) (synced_are : new.synced ≡ old.synced) (usable_is : new.usable ≡ old.usable) where
  within : range.start + length part ≤ length old.bytes
  within = omega (arith, fits, long)

  new-long : length new.bytes ≡ length old.bytes
  new-long = ap length bytes_are ∙ length-spliced old.bytes part range.start within

  new-below : (i : ℕ) → i < range.start → slice_index new.bytes i ≡ slice_index old.bytes i
  new-below i low = ap (λ (xs : List ℕ). slice_index xs i) bytes_are ∙ spliced-below old.bytes part range.start within i low

  new-above : (i : ℕ) → range.start + range.length ≤ i → slice_index new.bytes i ≡ slice_index old.bytes i
  new-above i high = ap (λ (xs : List ℕ). slice_index xs i) bytes_are ∙ spliced-above old.bytes part range.start within i (omega (arith, high, long))

  new-within : (i : ℕ) → i < length part → slice_index new.bytes (range.start + i) ≡ slice_index part i
  new-within i low = ap (λ (xs : List ℕ). slice_index xs (range.start + i)) bytes_are ∙ spliced-within old.bytes part range.start within i low

  shown-long : (bytes : List ℕ) → MayShow new bytes → length bytes ≡ length old.bytes
  shown-long bytes may = elim may.left [
    | inl seen ↦ ap length seen ∙ new-long
    | inr rest ↦ rest.length_is ∙ ap length synced_are ∙ sym left.length_is
  ]

  -- beside the range there is what was left before
  left-beside : (bytes : List ℕ) → MayShow new bytes → (i : ℕ) → i < length old.synced → AllByRecursion (IsOutside i) old.changed
      → IsOutside i range → slice_index bytes i ≡ slice_index old.synced i
  left-beside bytes may i low outside beside = elim may.left [
    | inl seen ↦ ap (λ (xs : List ℕ). slice_index xs i) seen ∙ elim beside [ inl below ↦ new-below i below | inr above ↦ new-above i above ] ∙ left.others i low outside
    | inr rest ↦ (rw (changed_are, synced_are) at rest.others) i low (all-joined (IsOutside i) old.changed range outside beside)
  ]

  told-beside : (bytes : List ℕ) → MayShow new bytes → (i : ℕ) → i < length old.bytes → IsOutside i range
      → AllByRecursion (IsUntold i) old.changed ⊎ (slice_index bytes i ≡ slice_index old.bytes i)
  told-beside bytes may i low beside = elim ((rw changed_are at may.told) i (omega (arith, low, new-long))) [
    | inl all ↦ inl (all-snoc (IsUntold i) old.changed range all).0
    | inr same ↦ inr (same ∙ elim beside [ inl below ↦ new-below i below | inr above ↦ new-above i above ])
  ]

  unusable-before : (bytes : List ℕ) → old.usable ≡ false → MayShow new bytes → (before : List ℕ) × MayShow old before × SameBeside range.start range.length before bytes
  unusable-before bytes e may =
      let size = shown-long bytes may in
      let before : List ℕ = patched old.bytes bytes range.start range.length size fits in
      let same : length before ≡ length bytes = patched-long old.bytes bytes range.start range.length size fits in
      let low_is = patched-below old.bytes bytes range.start range.length size fits in
      let mid_is = patched-within old.bytes bytes range.start range.length size fits in
      let high_is = patched-above old.bytes bytes range.start range.length size fits in (
        before,
        record {
          seen = λ usable. absurd (cc (usable, e));
          left = inr (record {
            length_is = same ∙ size ∙ left.length_is;
            others = λ i low outside. elim (cases_lt i range.start) [
              | inl below ↦ low_is i below ∙ left-beside bytes may i low outside (inl below)
              | inr from ↦ elim (cases_lt i (range.start + range.length)) [
                | inl inside ↦ mid_is i from inside ∙ left.others i low outside
                | inr above ↦ high_is i above ∙ left-beside bytes may i low outside (inr above)
              ]
            ];
          });
          told = λ i low. elim (cases_lt i range.start) [
            | inl below ↦ elim (told-beside bytes may i low (inl below)) [ inl all ↦ inl all | inr is ↦ inr (low_is i below ∙ is) ]
            | inr from ↦ elim (cases_lt i (range.start + range.length)) [
              | inl inside ↦ inr (mid_is i from inside)
              | inr above ↦ elim (told-beside bytes may i low (inr above)) [ inl all ↦ inl all | inr is ↦ inr (high_is i above ∙ is) ]
            ]
          ];
        },
        record {
          long = sym same;
          below = λ i below. sym (low_is i below);
          above = λ i above. sym (high_is i above);
        },
      )

  before-by : (b : Bool) → old.usable ≡ b → (bytes : List ℕ) → MayShow new bytes → (before : List ℕ) × MayShow old before × SameBeside range.start range.length before bytes
  before-by true e bytes may =
      let is : bytes ≡ new.bytes = may.seen (usable_is ∙ e) in (
        old.bytes,
        record { seen = λ usable. refl; left = inl refl; told = λ i low. inr refl },
        rw (is, bytes_are, ← long) (beside-spliced old.bytes part range.start within),
      )
  before-by false e bytes may = unusable-before bytes e may

  -- whatever is shown after a write is what might be shown before, torn in the range
  pub shows-written : (bytes : List ℕ) → MayShow new bytes → (before : List ℕ) × MayShow old before × SameBeside range.start range.length before bytes
  shows-written bytes may = before-by old.usable refl bytes may

  told-by : (b : Bool) → old.usable ≡ b → (old.usable ≡ false → range.told ≡ true) → (bytes : List ℕ) → MayShow new bytes
      → (i : ℕ) → i < length part → slice_index bytes (range.start + i) ≡ slice_index new.bytes (range.start + i)
  told-by true e told bytes may i low = ap (λ (xs : List ℕ). slice_index xs (range.start + i)) (may.seen (usable_is ∙ e))
  told-by false e told bytes may i low = elim ((rw changed_are at may.told) (range.start + i) (omega (arith, low, new-long, within))) [
    | inl all ↦ elim (all-snoc (IsUntold (range.start + i)) old.changed range all).1 [
      | inl untold ↦ absurd (cc (untold, told e))
      | inr outside ↦ elim outside [ inl below ↦ absurd (omega (arith, below)) | inr above ↦ absurd (omega (arith, above, low, long)) ]
    ]
    | inr same ↦ same
  ]

  -- a word that was written after a sync had failed is shown
  pub shown-written : (old.usable ≡ false → range.told ≡ true) → (bytes : List ℕ) → MayShow new bytes → Holds bytes range.start part
  shown-written told bytes may = record {
    within = omega (arith, within, shown-long bytes may);
    each = λ i low. told-by old.usable refl told bytes may i low ∙ new-within i low;
  }

-- what may be left is as it was read, or as the last sync left it beside what was written since
pub left-of : (file : FileState) (bytes : List ℕ) → AreLeft file.changed file.synced file.bytes → MayLeave file bytes → AreLeft file.changed file.synced bytes
left-of file bytes left may = elim may [ inl seen ↦ rw seen left | inr rest ↦ rest ]
