-- An image that is written part by part.
use Rattle.std.proofs.Common.{◌≡◌, ℕ, ◌+◌, ◌<◌, List, [], ◌++◌, length, take, drop, get_or, Option, Result, Ok, Err, sym, ap, ◌∙◌, append_assoc, subst}
use Rattle.std.specs.Prelude.{OnOk}
use Rattle.std.specs.Io.KnownBytes.{Appends}
use Rattle.std.proofs.KnownBytes.{Appends-trans}
use Rattle.std.proofs.lemmas.Grind.{flat_map-append}
use Rattle.std.proofs.lemmas.List.{get_or-map}
use Rattle.zone_drive.specs.Stored.{zones_of}
use Rattle.std.proofs.lemmas.List.{length-map, append-nil, flat_map_more, take-append-drop, take_more}
use Rattle.disk_files.specs.Output.{AppendsFront}
use Rattle.disk_files.proofs.OutputLaws.{front_first, front_second}
use Rattle.zone_states.specs.Stored.{AreWholeBlocks, StoredZone, zone_stored}
use Rattle.zone_states.specs.Zone.{Zone}
use Rattle.zone_states.specs.declared.geometry.Geometry.{Geometry}
use Rattle.zone_states.proofs.Cutting.{concat-cut}
use Rattle.drive_images.specs.Image.{head_bytes, image_bytes, zone_bytes, zone_head_bytes, zones_bytes}

-- what follows after success
pub ok_so : {T E : Type 0} (r : Result T E) (P Q : Type 0) → (P → Q) → OnOk r P → OnOk r Q
ok_so (Ok x) P Q f p = f p
ok_so (Err e) P Q f p = tt

-- a zone's bytes are its head and its blocks
pub zone_text : (block : ℕ) (zone : StoredZone) → AreWholeBlocks block zone.bytes → zone_bytes (zone_stored block zone) ≡ zone_head_bytes zone.state (length (zone_stored block zone).blocks) ++ zone.bytes
zone_text block zone whole = ap (λ xs. zone_head_bytes zone.state (length (zone_stored block zone).blocks) ++ xs) (concat-cut block _ zone.bytes whole)

module _ (geometry : Geometry) (zones : List Zone) (old mid new : Option (List ℕ)) where
  -- the head, and no zone yet
  pub head_written : Appends old mid (head_bytes geometry) → Appends old mid (head_bytes geometry ++ zones_bytes (take 0 zones))
  head_written written = rw (append-nil (head_bytes geometry)) written

  -- if the writer fails in the head, a beginning of the image is written
  head_fails : AppendsFront old new (head_bytes geometry) → AppendsFront old new (image_bytes geometry zones)
  head_fails front = front_first old new (head_bytes geometry) (zones_bytes zones) front

  module _ (i : ℕ) (d : Zone) (more : i < length zones) (written : Appends old mid (head_bytes geometry ++ zones_bytes (take i zones))) where
    with_zone : zones_bytes (take i zones) ++ zone_bytes (get_or zones i d) ≡ zones_bytes (take (i + 1) zones)
    with_zone = flat_map_more zone_bytes [] (take i zones) (get_or zones i d) ∙ ap zones_bytes (sym (take_more zones i d more))

    joined : (head_bytes geometry ++ zones_bytes (take i zones)) ++ zone_bytes (get_or zones i d) ≡ head_bytes geometry ++ zones_bytes (take (i + 1) zones)
    joined = append_assoc (head_bytes geometry) (zones_bytes (take i zones)) (zone_bytes (get_or zones i d)) ∙ ap (λ xs. head_bytes geometry ++ xs) with_zone

    all : (head_bytes geometry ++ zones_bytes (take (i + 1) zones)) ++ zones_bytes (drop (i + 1) zones) ≡ image_bytes geometry zones
    all =
        append_assoc (head_bytes geometry) (zones_bytes (take (i + 1) zones)) (zones_bytes (drop (i + 1) zones))
        ∙ ap (λ xs. head_bytes geometry ++ xs) (sym (flat_map-append zone_bytes (take (i + 1) zones) (drop (i + 1) zones)) ∙ ap zones_bytes (take-append-drop (i + 1) zones))

    -- one zone more is written after the head and the zones before it
    pub zone_written : Appends mid new (zone_bytes (get_or zones i d)) → Appends old new (head_bytes geometry ++ zones_bytes (take (i + 1) zones))
    zone_written next = subst (Appends old new) joined (Appends-trans old mid new _ _ written next)

    -- if the writer fails in a zone, a beginning of the image is written
    pub zone_fails : AppendsFront mid new (zone_bytes (get_or zones i d)) → AppendsFront old new (image_bytes geometry zones)
    zone_fails front = subst (AppendsFront old new) all (front_first old new _ _ (subst (AppendsFront old new) joined (front_second old mid new _ _ written front)))

-- the zone at a place, as it is stored
pub zone_here : (block : ℕ) (stored : List StoredZone) (zones : List Zone) (i : ℕ) (zone : StoredZone) → zones_of block stored ≡ zones → zone ≡ get_or stored i zone → i < length stored → zone_stored block zone ≡ get_or zones i (zone_stored block zone)
zone_here block stored zones i zone same is lt = ap (zone_stored block) is ∙ sym (get_or-map (zone_stored block) stored i zone (zone_stored block zone) lt) ∙ ap (λ zs. get_or zs i (zone_stored block zone)) same

-- a zone that is stored is one of the zones
pub stored-less : (block : ℕ) (stored : List StoredZone) (zones : List Zone) (i : ℕ) → zones_of block stored ≡ zones → i < length stored → i < length zones
stored-less block stored zones i same lt = rw (← same, length-map stored (zone_stored block)) lt
