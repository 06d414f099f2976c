-- What stays as a source is read.
use Rattle.std.proofs.Common.{◌≡◌, ◌⊎◌, inl, inr, ℕ, ◌<◌, List, [], ◌∷◌, map, length, Result, Ok, Err, refl, sym, ap, ◌∙◌}
use Rattle.nvme_wire.specs.declared.zone_state.ZoneState.{ZoneState}
use Rattle.nvme_wire.specs.declared.zone_state.ZoneState.TheVariants as states
use Rattle.zone_states.specs.declared.geometry.Geometry.{Geometry}
use Rattle.zone_states.specs.Geometry.{IsInRange}
use Rattle.zone_states.specs.Zone.{Zone}
use Rattle.drive_port.specs.Drive.{ClosesOne, DriveState, IsClosing, IsLawful}
use Rattle.drive_port.specs.declared.device.Halt.{Halt}
use Rattle.drive_port.proofs.ClosingLaws.{length-closing}
use Rattle.drive_survey.specs.Reported.{KeepsZones}
use Rattle.drive_survey.proofs.ReadLaws.{keeps-both, keeps-none}
use Rattle.drive_rescue.specs.declared.source.Reading.{Reading}
use Rattle.drive_rescue.specs.declared.source.Reading.TheVariants.{Held, Unreadable}
use Rattle.drive_rescue.specs.Rescue.{KeepsSource, ReadSays, SourceView}
use Rattle.drive_rescue.specs.Zones.{ReadZone, block_with, is_offline, is_open_ended, is_padded, read_blocks, read_zone, read_zones, zone_with}
use Rattle.drive_rescue.proofs.DamageLaws.{lasts-both, lasts-same}

-- ---- zones

made : Geometry → ZoneState → List (List ℕ) → ReadZone
made g state blocks = record { offline = is_offline state; padded = is_padded state; open_ended = is_open_ended state; blocks = read_blocks g state blocks }

-- a zone that the controller closed is read as before
closes-read : (g : Geometry) (z y : Zone) → ClosesOne z y → read_zone g y ≡ read_zone g z
unfolding made
closes-read g z y k = at k.state
  where
    blocks : made g z.state y.blocks ≡ made g z.state z.blocks
    blocks = ap (λ (b : List (List ℕ)). made g z.state b) k.blocks

    at : (y.state ≡ z.state) ⊎ ((z.state ≡ states.ImplicitlyOpened) × (y.state ≡ states.Closed)) → made g y.state y.blocks ≡ made g z.state z.blocks
    at (inl same) = ap (λ (s : ZoneState). made g s y.blocks) same ∙ blocks
    at (inr closed) =
        let from : made g y.state y.blocks ≡ made g states.ImplicitlyOpened y.blocks = ap (λ (s : ZoneState). made g s y.blocks) closed.1 in
        from ∙ sym (ap (λ (s : ZoneState). made g s y.blocks) closed.0) ∙ blocks

pub closing-read : (g : Geometry) (olds news : List Zone) → IsClosing olds news → map (read_zone g) news ≡ map (read_zone g) olds
closing-read g [] [] k = refl
closing-read g [] (n ∷ ns) k = absurd k
closing-read g (o ∷ os) [] k = absurd k
closing-read g (o ∷ os) (n ∷ ns) k = rw (closes-read g o n k.0, closing-read g os ns k.1) refl

-- all zones are read as before
pub drive-read : (a b : DriveState) → KeepsZones a b → read_zones b ≡ read_zones a
drive-read a b k = rw k.geometry (closing-read a.geometry a.zones b.zones k.closing)

pub zones-kept : (a b : SourceView) → KeepsSource a b → read_zones b.drive ≡ read_zones a.drive
zones-kept a b k = drive-read a.drive b.drive k.zones

pub count-kept : (a b : SourceView) → KeepsSource a b → length b.drive.zones ≡ length a.drive.zones
count-kept a b k = length-closing a.drive.zones b.drive.zones k.zones.closing

-- ---- sources

-- without a command a source stays
pub keeps-source_none : (a : SourceView) → IsLawful a.drive → KeepsSource a a
keeps-source_none a lawful = record { zones = keeps-none a.drive lawful; damaged = lasts-same a.damaged }

pub keeps-source_both : (a b c : SourceView) → KeepsSource a b → KeepsSource b c → KeepsSource a c
keeps-source_both a b c k l = record { zones = keeps-both a.drive b.drive c.drive k.zones l.zones; damaged = lasts-both a.damaged b.damaged c.damaged k.damaged l.damaged }

pub range-kept : (a b : SourceView) → KeepsSource a b → IsInRange a.drive.geometry → IsInRange b.drive.geometry
range-kept a b k range = rw k.zones.geometry range

-- a block that is there stays there
pub there-kept : (a b : SourceView) (number offset : ℕ) → KeepsSource a b → offset < length (zone_with (read_zones a.drive) number).blocks → offset < length (zone_with (read_zones b.drive) number).blocks
there-kept a b number offset k lt = rw (zones-kept a b k) lt

-- what a Read says of a source, it says of the source that is read on
pub says-kept : (a b : SourceView) (number offset : ℕ) (result : Result Reading Halt) (bytes : List ℕ) → KeepsSource a b → ReadSays a number offset result bytes → ReadSays b number offset result bytes
says-kept a b number offset (Ok Held) bytes k says =
    (says.0 ∙ ap (λ (zones : List ReadZone). block_with zones number offset) (sym (zones-kept a b k)), says.1 ∙ ap (λ (g : Geometry). g.block) (sym k.zones.geometry))
says-kept a b number offset (Ok Unreadable) bytes k says = k.damaged number offset says
says-kept a b number offset (Err halt) bytes k says = tt
