-- A report in the order in which it is written: room for the head, the descriptors, zeros, and the head at last.
use Rattle.std.proofs.Common.{◌≡◌, ℕ, ◌+◌, ◌-◌, ◌*◌, ◌/◌, ◌≤◌, ◌∙◌, Bool, true, false, if◌then◌else◌, min, List, [], ◌∷◌, ◌++◌, length, take, drop, replicate, refl, sym, ap, arith, append_assoc, length-append, length-drop, length-take}
use Rattle.std.proofs.lemmas.List.{length-replicate, take_all, drop_all, drop-append-le, append-nil}
use Rattle.std.specs.List.{flat_map}
use Rattle.nvme_wire.specs.declared.command.ReportingOptions.{ReportingOptions}
use Rattle.nvme_wire.specs.declared.descriptor.Descriptor.{Descriptor}
use Rattle.nvme_wire.specs.Descriptor.{descriptor_bytes, report_head_bytes}
use Rattle.zone_states.specs.declared.geometry.Geometry.{Geometry}
use Rattle.zone_states.specs.Zone.{Zone}
use Rattle.zone_report.specs.Report.{matching, descriptor_room, report}

-- the zeros after what is there, and the head over its first bytes
pub written_over :
    (old : List ℕ) (size : ℕ) (resized head written : List ℕ) (len : ℕ) →
    64 ≤ length old → length old ≤ size → length head ≡ 64 →
    resized ≡ take size old ++ replicate (size - length old) 0 → written ≡ head ++ drop 64 resized → len ≡ length resized →
    take len (written ++ drop (length written) resized) ≡ head ++ drop 64 old ++ replicate (size - length old) 0
written_over old size resized head written len long short head_length resized_is written_is len_is =
    let grown : resized ≡ old ++ replicate (size - length old) 0 = resized_is ∙ rw (take_all size old short) refl in
    let size_is : length resized ≡ size = ap length grown ∙ length-append old (replicate (size - length old) 0) ∙ rw (length-replicate {A = ℕ} (size - length old) 0) (omega arith) in
    let same : length written ≡ length resized = ap length written_is ∙ length-append head (drop 64 resized) ∙ rw (head_length, length-drop 64 resized) (omega arith) in
    let none : drop (length written) resized ≡ [] = drop_all (length written) resized (omega arith) in
    let whole : take len (written ++ []) ≡ written = rw (append-nil written) (take_all len written (omega arith)) in
    let behind : drop 64 resized ≡ drop 64 old ++ replicate (size - length old) 0 = rw grown (drop-append-le 64 old (replicate (size - length old) 0) long) in
    rw none (whole ∙ written_is ∙ rw behind (sym (append_assoc head (drop 64 old) (replicate (size - length old) 0))))

-- a descriptor has 64 bytes
pub length-descriptors : (ds : List Descriptor) → length (flat_map descriptor_bytes ds) ≡ 64 * length ds
length-descriptors [] = refl
length-descriptors (d ∷ ds) = length-append (descriptor_bytes d) (flat_map descriptor_bytes ds) ∙ omega (arith, length-descriptors ds)

-- how long the part is that is written before the zeros
pub length-listed :
    (room : ℕ) (whole : List Descriptor) → length (replicate 64 0 ++ flat_map descriptor_bytes (take room whole)) ≡ 64 + 64 * min room (length whole)
length-listed room whole = omega (arith, length-descriptors (take room whole), length-take room whole)

-- the number in its head
number_is : (partial : Bool) (room named counted : ℕ) (whole : List Descriptor) →
    named ≡ length whole → counted ≡ (if partial then min room named else named) →
    counted ≡ (if partial then length (take room whole) else length whole)
number_is true room named counted whole named_is counted_is = counted_is ∙ rw named_is (sym (length-take room whole))
number_is false room named counted whole named_is counted_is = counted_is ∙ named_is

-- head, descriptors and zeros, each known
joined : (head head' middle middle' : List ℕ) (n n' : ℕ) → head ≡ head' → middle ≡ middle' → n ≡ n' →
    head ++ middle ++ replicate n 0 ≡ head' ++ middle' ++ replicate n' 0
joined head head' middle middle' n n' e f h = rw (e, f, h) refl

-- it is the report
pub report-written :
    (geometry : Geometry) (zones : List Zone) (address : ℕ) (options : ReportingOptions) (partial : Bool) (dwords size room named counted : ℕ) (listed bytes : List ℕ) →
    size ≡ 4 * dwords → room ≡ descriptor_room dwords →
    named ≡ length (matching geometry options (address / geometry.size) (drop (address / geometry.size) zones)) →
    listed ≡ replicate 64 0 ++ flat_map descriptor_bytes (take room (matching geometry options (address / geometry.size) (drop (address / geometry.size) zones))) →
    counted ≡ (if partial then min room named else named) →
    bytes ≡ report_head_bytes (record { zones = counted }) ++ drop 64 listed ++ replicate (size - length listed) 0 →
    bytes ≡ report geometry zones address options partial dwords
report-written geometry zones address options partial dwords size room named counted listed bytes size_is room_is named_is listed_is counted_is bytes_is =
    let whole = matching geometry options (address / geometry.size) (drop (address / geometry.size) zones) in
    let long : length listed ≡ 64 + 64 * length (take room whole) = ap length listed_is ∙ length-listed room whole ∙ omega (arith, length-take room whole) in
    let head = ap (λ n. report_head_bytes (record { zones = n })) (number_is partial room named counted whole named_is counted_is) in
    let zeros : size - length listed ≡ 4 * dwords - 64 - 64 * length (take room whole) = omega arith in
    bytes_is ∙ joined _ _ _ _ _ _ head (ap (drop 64) listed_is) zeros ∙ rw room_is refl
