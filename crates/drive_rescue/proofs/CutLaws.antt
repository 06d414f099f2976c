-- A zone up to a block.
use Rattle.std.proofs.Common.{◌≡◌, ℕ, ◌<◌, Bool, true, false, cond, not, [], length, take, get_or, refl, sym, ◌∙◌, arith}
use Rattle.std.proofs.lemmas.List.{get_or-take, length-take, length-take-le}
use Rattle.drive_rescue.specs.declared.search.SoughtZone.{SoughtZone}
use Rattle.drive_rescue.specs.Holding.{IsSought, IsSoughtIn}
use Rattle.drive_rescue.specs.Rescue.{KeepsSource, SourceView}
use Rattle.drive_rescue.specs.Searching.{Ends, EndsAt}
use Rattle.drive_rescue.specs.Zones.{ReadZone, cut, read_zones, zone_with}
use Rattle.drive_rescue.proofs.DamageLaws.{ends-lasts}
use Rattle.drive_rescue.proofs.KeepLaws.{zones-kept}

-- the blocks of a part of a zone are the zone's
pub record Within (part zone : ReadZone) : Type 0 where
  pub each : (k : ℕ) → k < length part.blocks → (k < length zone.blocks) × (get_or part.blocks k [] ≡ get_or zone.blocks k [])

pub cut-within : (zone : ReadZone) (end : ℕ) → Within (cut zone end) zone
cut-within zone end = at zone.open_ended
  where
    at : (b : Bool) → Within (cond b (record { offline = zone.offline; padded = false; open_ended = true; blocks = take end zone.blocks }) zone) zone
    at false = record { each = λ k lt. (lt, refl) }
    at true = record { each = λ k lt. let long = length-take end zone.blocks in (omega (arith, lt, long), get_or-take end zone.blocks k [] (omega (arith, lt, long))) }

-- only an open-ended zone is cut
pub cut-same : (zone : ReadZone) (end : ℕ) → zone.open_ended ≡ false → cut zone end ≡ zone
cut-same zone end closed = rw closed refl

-- a zone that is sought as it is
pub sought-whole : (source : SourceView) (sought : SoughtZone) → IsSought sought (zone_with (read_zones source.drive) sought.number) → sought.open_ended ≡ false → IsSoughtIn source sought
sought-whole source sought is closed =
    let zone = zone_with (read_zones source.drive) sought.number in
    let shut : zone.open_ended ≡ false = sym is.open_ended ∙ closed in
    record {
      end = 0;
      ends = λ open_one. absurd (let bad : true ≡ false = sym open_one ∙ shut in cc);
      is = rw (cut-same zone 0 shut) is;
    }

-- and one that is sought up to where it ends
pub sought-cut : (source : SourceView) (sought : SoughtZone) (end : ℕ) → IsSought sought (zone_with (read_zones source.drive) sought.number) → sought.open_ended ≡ true
    → EndsAt source.damaged (zone_with (read_zones source.drive) sought.number) sought.number end
    → IsSoughtIn source (record { number = sought.number; offline = sought.offline; padded = false; open_ended = true; blocks = end })
sought-cut source sought end is open_one ends =
    let zone = zone_with (read_zones source.drive) sought.number in
    let part : cut zone end ≡ record { offline = zone.offline; padded = false; open_ended = true; blocks = take end zone.blocks } = rw (sym is.open_ended ∙ open_one) refl in
    record {
      end = end;
      ends = λ told. ends;
      is = rw part (record { offline = is.offline; padded = refl; open_ended = refl; blocks = sym (length-take-le end zone.blocks ends.within) });
    }

pub sought-in-kept : (a b : SourceView) (sought : SoughtZone) → KeepsSource a b → IsSoughtIn a sought → IsSoughtIn b sought
sought-in-kept a b sought k is =
    let zone = zone_with (read_zones a.drive) sought.number in
    let ends : Ends b.damaged zone sought.number is.end = ends-lasts a.damaged b.damaged zone sought.number is.end k.damaged is.ends in
    record { end = is.end; ends = rw (zones-kept a b k) ends; is = rw (zones-kept a b k) is.is }

-- a block of a zone that is sought can be read
pub sought-there : (source : SourceView) (sought : SoughtZone) (offset : ℕ) → IsSoughtIn source sought → offset < sought.blocks → offset < length (zone_with (read_zones source.drive) sought.number).blocks
sought-there source sought offset is lt = ((cut-within (zone_with (read_zones source.drive) sought.number) is.end).each offset (omega (arith, lt, is.is.blocks))).0

pub not-open : (b : Bool) → not b ≡ true → b ≡ false
not-open true e = cc
not-open false e = refl

pub not-closed : (b : Bool) → not b ≡ false → b ≡ true
not-closed true e = refl
not-closed false e = cc
