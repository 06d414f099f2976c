-- A listing read from its front, a descriptor at a time.
use Rattle.std.proofs.Common.{◌≡◌, ℕ, zero, suc, ◌<◌, ◌∙◌, List, [], ◌∷◌, ◌++◌, length, take, drop, replicate, get_or, refl, sym, ap, append_assoc, arith, length-take}
use Rattle.std.proofs.lemmas.List.{append-nil, take-append-drop, length-replicate}
use Rattle.std.specs.List.{flat_map}
use Rattle.nvme_wire.specs.declared.descriptor.Descriptor.{Descriptor}
use Rattle.nvme_wire.specs.declared.report_head.ReportHead.{ReportHead}
use Rattle.nvme_wire.specs.Descriptor.{IsDescriptor, descriptor_bytes}
use Rattle.zone_report.specs.ReportText.{IsListing, IsReport, ListsText, descriptor_line}

-- no descriptor is at the front
abbrev pub BeginsOtherwise : List ℕ → Type 0
BeginsOtherwise bytes = (d : Descriptor) → IsDescriptor d → take 64 bytes ≡ descriptor_bytes d → ⊥

-- what is left of a listing after its first descriptor
pub record Left (bytes : List ℕ) (d : Descriptor) (descriptors : List Descriptor) : Type 0 where
  pub others : List Descriptor
  pub is : descriptors ≡ d ∷ others
  pub lists : IsListing (drop 64 bytes) others

-- a listing with a descriptor before it
IsListing-more :
    (bytes : List ℕ) (d : Descriptor) (ds : List Descriptor) →
    IsDescriptor d → take 64 bytes ≡ descriptor_bytes d → IsListing (drop 64 bytes) ds → IsListing bytes (d ∷ ds)
IsListing-more bytes d ds fits front lists = record {
  each = (fits, lists.each);
  rest = lists.rest;
  encoded = sym (take-append-drop 64 bytes) ∙ rw (front, lists.encoded) refl;
}

-- zeros are no descriptor
zeros-otherwise : (n : ℕ) (d : Descriptor) → take 64 (replicate n 0) ≡ descriptor_bytes d → ⊥
zeros-otherwise zero d e = let one = ap (λ bytes. get_or bytes 0 0) e in omega (arith, one)
zeros-otherwise (suc n) d e = let one = ap (λ bytes. get_or bytes 0 0) e in omega (arith, one)

-- the first descriptor of a listing is the one that is at its front
IsListing-left :
    (bytes : List ℕ) (d : Descriptor) (ds : List Descriptor) →
    take 64 bytes ≡ descriptor_bytes d → ((e : Descriptor) → IsDescriptor e → take 64 bytes ≡ descriptor_bytes e → d ≡ e) →
    IsListing bytes ds → Left bytes d ds
IsListing-left bytes d [] front only lists = elim (zeros-otherwise lists.rest d (ap (take 64) (sym lists.encoded) ∙ front)) [ ]
IsListing-left bytes d (e ∷ ds) front only lists =
    let same : d ≡ e = only e lists.each.0 (ap (take 64) lists.encoded) in
    record {
      others = ds;
      is = rw same refl;
      lists = record { each = lists.each.1; rest = lists.rest; encoded = ap (drop 64) lists.encoded };
    }

-- if no descriptor is at the front, a listing is only zeros
IsListing-ends :
    (bytes : List ℕ) (ds : List Descriptor) → BeginsOtherwise bytes → IsListing bytes ds → (ds ≡ []) × (bytes ≡ replicate (length bytes) 0)
IsListing-ends bytes [] other lists = (refl, lists.encoded ∙ ap (λ n. replicate n 0) (sym (ap length lists.encoded ∙ length-replicate {A = ℕ} lists.rest 0)))
IsListing-ends bytes (e ∷ ds) other lists = elim (other e lists.each.0 (ap (take 64) lists.encoded)) [ ]

-- too few bytes for a descriptor
pub short-otherwise : (bytes : List ℕ) → length bytes < 64 → BeginsOtherwise bytes
short-otherwise bytes short d fits front =
    let len : length (take 64 bytes) ≡ 64 = ap length front in
    omega (arith, len, length-take 64 bytes)

-- only zeros
IsListing-zeros : (bytes : List ℕ) → bytes ≡ replicate (length bytes) 0 → IsListing bytes []
IsListing-zeros bytes zeros = record { each = tt; rest = length bytes; encoded = zeros }

-- ---- the lines written so far

-- what is left of the bytes gives the rest of what they give as a whole
pub record Reads (bytes before rest text : List ℕ) : Type 0 where
  pub back : (ds : List Descriptor) → IsListing rest ds → ListsText bytes before (text ++ flat_map descriptor_line ds)
  pub forth : (ds : List Descriptor) → IsListing bytes ds → ListsText rest text (before ++ flat_map descriptor_line ds)

-- one descriptor more is read
pub Reads-more :
    (bytes before rest text : List ℕ) (d : Descriptor) →
    IsDescriptor d → take 64 rest ≡ descriptor_bytes d → ((e : Descriptor) → IsDescriptor e → take 64 rest ≡ descriptor_bytes e → d ≡ e) →
    Reads bytes before rest text → Reads bytes before (drop 64 rest) (text ++ descriptor_line d)
Reads-more bytes before rest text d fits front only reads = record {
  back = λ ds lists. rw (append_assoc text (descriptor_line d) (flat_map descriptor_line ds)) (reads.back (d ∷ ds) (IsListing-more rest d ds fits front lists));
  forth = λ ds lists.
      let so_far = reads.forth ds lists in
      let left = IsListing-left rest d so_far.descriptors front only so_far.lists in
      record {
        descriptors = left.others;
        lists = left.lists;
        lines = so_far.lines ∙ ap (λ more. text ++ flat_map descriptor_line more) left.is ∙ sym (append_assoc text (descriptor_line d) (flat_map descriptor_line left.others));
      };
}

-- at the end
pub Reads-whole : (bytes before rest text : List ℕ) → Reads bytes before rest text → rest ≡ replicate (length rest) 0 → ListsText bytes before text
Reads-whole bytes before rest text reads zeros =
    let whole = reads.back [] (IsListing-zeros rest zeros) in
    record { descriptors = whole.descriptors; lists = whole.lists; lines = sym (append-nil text) ∙ whole.lines }

-- once nothing is left, the text has the lines of the report
pub Reads-lines :
    (bytes before rest text : List ℕ) → Reads bytes before rest text → BeginsOtherwise rest → (ds : List Descriptor) → IsListing bytes ds →
    (rest ≡ replicate (length rest) 0) × (text ≡ before ++ flat_map descriptor_line ds)
Reads-lines bytes before rest text reads other ds lists =
    let so_far = reads.forth ds lists in
    let ends = IsListing-ends rest so_far.descriptors other so_far.lists in
    (ends.1, sym (so_far.lines ∙ ap (λ more. text ++ flat_map descriptor_line more) ends.0 ∙ append-nil text))

-- a report has a head
pub short-no_report : (bytes : List ℕ) (head : ReportHead) (ds : List Descriptor) → length bytes < 64 → IsReport bytes head ds → ⊥
short-no_report bytes head ds short report =
    let len : length (take 64 bytes) ≡ 64 = ap length report.begins in
    omega (arith, len, length-take 64 bytes)
