-- The fields of Identify that say what a zoned namespace is, each by its bytes and bits.
use Rattle.std.specs.Prelude.{ℕ, ◌+◌, ◌*◌, ◌/◌, ◌%◌, ◌==◌, Bool, List, take, drop, slice_index}
use Rattle.byteorder.specs.Endian.{little_from}
use Rattle.passthrough.specs.declared.pages.Pages.{Pages}

-- ---- Identify Controller, CNS 01h (Base Specification 2.0, section 5.17.2.1)

-- SN, Serial Number: bytes 4 to 23
abbrev pub serial_number : Pages → List ℕ
serial_number pages = take 20 (drop 4 pages.controller)

-- MN, Model Number: bytes 24 to 63
abbrev pub model_number : Pages → List ℕ
model_number pages = take 40 (drop 24 pages.controller)

-- MDTS, Maximum Data Transfer Size: a power of two of memory pages; 0 is no limit
abbrev pub transfer_field : Pages → ℕ
transfer_field pages = slice_index pages.controller 77

-- ONCS, Optional NVM Command Support: bit 4 says whether features can be saved, and selected by Get Features
abbrev pub can_save_features : Pages → Bool
can_save_features pages = slice_index pages.controller 520 / 16 % 2 == 1

-- VWC, Volatile Write Cache: bit 0 says whether there is one
abbrev pub has_write_cache : Pages → Bool
has_write_cache pages = slice_index pages.controller 525 % 2 == 1

-- ---- Identify Namespace, CNS 00h (NVM Command Set 1.0, section 4.1.5.1)

-- NSZE, Namespace Size: in blocks
abbrev pub namespace_size : Pages → ℕ
namespace_size pages = little_from 0 8 pages.namespace

-- FLBAS, Formatted LBA Size: the number of the LBA format, whose upper two bits are 6:5, and whose lower four are 3:0
abbrev pub format_index : Pages → ℕ
format_index pages = slice_index pages.namespace 26 % 16 + 16 * (slice_index pages.namespace 26 / 32 % 4)

-- DPS, End-to-end Data Protection Type Settings: bits 2:0 are the type of the protection information; 0 is none
abbrev pub protection_type : Pages → ℕ
protection_type pages = slice_index pages.namespace 29 % 8

-- DLFEAT, Deallocate Logical Block Features: bits 2:0 say what a block reads as that is not written; 1 is zeros
abbrev pub unwritten_reads : Pages → ℕ
unwritten_reads pages = slice_index pages.namespace 33 % 8

-- NSATTR, Namespace Attributes: bit 0 says whether the namespace is write protected
abbrev pub is_write_protected : Pages → Bool
is_write_protected pages = slice_index pages.namespace 99 % 2 == 1

-- MS, Metadata Size, in the four bytes of the LBA format: in bytes
abbrev pub metadata_size : Pages → ℕ
metadata_size pages = little_from (128 + 4 * format_index pages) 2 pages.namespace

-- LBADS, LBA Data Size, in the third of those bytes: a power of two of bytes
abbrev pub block_exponent : Pages → ℕ
block_exponent pages = slice_index pages.namespace (130 + 4 * format_index pages)

-- ---- Identify Namespace of the Zoned Namespace Command Set, CNS 05h, CSI 02h (ZNS 1.1, section 4.1.5.1)

-- ZOC, Zone Operation Characteristics: bit 0 is Variable Zone Capacity
abbrev pub has_variable_capacity : Pages → Bool
has_variable_capacity pages = slice_index pages.zoned_namespace 0 % 2 == 1

-- and bit 1 is Zone Active Excursions
abbrev pub has_active_excursions : Pages → Bool
has_active_excursions pages = slice_index pages.zoned_namespace 0 / 2 % 2 == 1

-- MAR, Maximum Active Resources: one less than the zones that may be active; FFFFFFFFh is no limit
abbrev pub active_field : Pages → ℕ
active_field pages = little_from 4 4 pages.zoned_namespace

-- MOR, Maximum Open Resources: one less than the zones that may be open; FFFFFFFFh is no limit
abbrev pub open_field : Pages → ℕ
open_field pages = little_from 8 4 pages.zoned_namespace

-- ZSZE, Zone Size, in the 16 bytes of the LBA format's extension: in blocks
abbrev pub zone_size : Pages → ℕ
zone_size pages = little_from (2816 + 16 * format_index pages) 8 pages.zoned_namespace

-- ZDES, Zone Descriptor Extension Size, in the ninth of those bytes: in 64 bytes
abbrev pub extension_units : Pages → ℕ
extension_units pages = slice_index pages.zoned_namespace (2824 + 16 * format_index pages)

-- ---- Identify Controller of the Zoned Namespace Command Set, CNS 06h, CSI 02h (ZNS 1.1, section 4.1.5.2)

-- ZASL, Zone Append Size Limit: a power of two of memory pages; 0 adds no limit to MDTS
abbrev pub append_field : Pages → ℕ
append_field pages = slice_index pages.zoned_controller 0
