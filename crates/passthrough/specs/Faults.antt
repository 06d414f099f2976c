-- Why a disk does not work on a namespace: the tests, in the order in which they are made, each with its fault.
use Rattle.std.specs.Prelude.{ℕ, ◌*◌, ◌/◌, ◌%◌, ◌^◌, ◌==◌, ◌&&◌, not, nat_lt, Bool, List, [], ◌∷◌, ◌++◌}
use Rattle.zone_states.specs.Geometry.{is_outside}
use Rattle.passthrough.specs.declared.pages.Pages.{Pages}
use Rattle.passthrough.specs.declared.identify_fault.IdentifyFault.{IdentifyFault}
use Rattle.passthrough.specs.declared.identify_fault.IdentifyFault.TheVariants as faults
use Rattle.passthrough.specs.Fields.{metadata_size, protection_type, block_exponent, unwritten_reads, namespace_size}
use Rattle.passthrough.specs.Fields.{zone_size, extension_units, has_variable_capacity, has_active_excursions}
use Rattle.passthrough.specs.Fields.{active_field, is_write_protected}
use Rattle.passthrough.specs.Shape.{zone_limit}

abbrev pub block_checks : Pages → List (Bool × IdentifyFault)
block_checks pages =
    (not pages.is_zoned, faults.NotZoned)
    ∷ (not (metadata_size pages == 0), faults.Metadata (metadata_size pages))
    ∷ (not (protection_type pages == 0), faults.Protection (protection_type pages))
    ∷ (not (block_exponent pages == 9) && not (block_exponent pages == 12), faults.BlockSize (block_exponent pages))
    ∷ (not (unwritten_reads pages == 1), faults.Unwritten (unwritten_reads pages))
    ∷ []

-- how many zones the blocks are, if they are whole zones
abbrev pub zone_count : Pages → ℕ
zone_count pages = namespace_size pages / zone_size pages

abbrev pub layout_checks : Pages → List (Bool × IdentifyFault)
layout_checks pages =
    (is_outside 1 (2 ^ 20) (zone_size pages), faults.ZoneSize (zone_size pages))
    ∷ (not (namespace_size pages % zone_size pages == 0), faults.Remainder (namespace_size pages) (zone_size pages))
    ∷ (is_outside 3 65536 (zone_count pages), faults.Zones (zone_count pages))
    ∷ []

abbrev pub capacity_checks : Pages → ℕ → List (Bool × IdentifyFault)
capacity_checks pages capacity =
    (has_variable_capacity pages, faults.VariableCapacity)
    ∷ (has_active_excursions pages, faults.ActiveExcursions)
    ∷ (not (extension_units pages == 0), faults.Extension (64 * extension_units pages))
    ∷ (is_outside 4 (zone_size pages) capacity, faults.Capacity capacity (zone_size pages))
    ∷ []

-- how many blocks the caller's limit allows
abbrev pub allowed_blocks : Pages → ℕ → ℕ
allowed_blocks pages limit = limit / 2 ^ block_exponent pages

-- Only the caller's limit can be too small: MDTS and ZASL allow two memory pages, where they are limits.
abbrev pub transfer_checks : Pages → ℕ → List (Bool × IdentifyFault)
transfer_checks pages limit = (nat_lt (allowed_blocks pages limit) 2, faults.Transfer (allowed_blocks pages limit)) ∷ []

-- Only the limit on active zones can be too small: one zone may be open, whatever MOR says.
abbrev pub active_checks : Pages → List (Bool × IdentifyFault)
active_checks pages = (nat_lt (zone_limit (active_field pages)) 2, faults.Active (zone_limit (active_field pages))) ∷ []

abbrev pub identify_checks : Pages → ℕ → ℕ → List (Bool × IdentifyFault)
identify_checks pages capacity limit =
    block_checks pages ++ layout_checks pages ++ capacity_checks pages capacity ++ transfer_checks pages limit
    ++ active_checks pages

-- Only a disk that is to be changed has this test.
abbrev pub writing_checks : Pages → List (Bool × IdentifyFault)
writing_checks pages = (is_write_protected pages, faults.WriteProtected) ∷ []
