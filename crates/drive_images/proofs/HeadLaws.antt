-- The heads of an image and of its zones have a fixed length, and bytes that begin with all of them are they.
use Rattle.std.proofs.Common.{◌≡◌, ℕ, true, List, length, take, refl, sym, ◌∙◌, arith}
use Rattle.std.specs.Cmp.Lexicographic.{same_text}
use Rattle.std.proofs.lemmas.List.{take_all}
use Rattle.nvme_wire.specs.declared.zone_state.ZoneState.{ZoneState}
use Rattle.zone_states.specs.declared.geometry.Geometry.{Geometry}
use Rattle.drive_images.specs.Image.{head_bytes, zone_head_bytes}
use Rattle.drive_images.specs.Reading.{begins_with}

-- the head has 64 bytes
pub length-head : (geometry : Geometry) → length (head_bytes geometry) ≡ 64
unfolding head_bytes
length-head geometry = refl

-- and that of a zone 8
pub length-zone_head : (state : ZoneState) (written : ℕ) → length (zone_head_bytes state written) ≡ 8
unfolding zone_head_bytes
length-zone_head state written = refl

-- bytes that begin with as many are these
pub begins_whole : (bytes front : List ℕ) → begins_with bytes front ≡ true → length bytes ≡ length front → bytes ≡ front
unfolding begins_with
begins_whole bytes front begins long = sym (same_text front (take (length front) bytes) (sym begins) ∙ take_all (length front) bytes (omega arith))
