-- Calls that go through to the store below.
use Rattle.std.proofs.Common.{◌≡◌, ℕ, ◌<◌, List, [], ◌∷◌, length, ap, ◌∙◌, true, false, Ok, Err, arith}
use Rattle.std.specs.Prelude.{◌/◌, ◌&&◌, not, Bool, Result}
use Rattle.std.proofs.Math.Nat.{div_self}
use Rattle.std.proofs.lemmas.List.{take_all}
use Rattle.zone_translator.specs.Flat.{with_nothing}
use Rattle.zone_translator.specs.declared.fault.DiskFault.{DiskFault}
use Rattle.volatile_cache.specs.declared.kept.Content.{Content}
use Rattle.volatile_cache.specs.Cache.{Puts, PutsOrFails}
use Rattle.volatile_cache.specs.Queue.{bytes_of, is_trim}
use Rattle.drive_port.specs.Calls.{block_count, data_blocks}
use Rattle.zone_states.specs.declared.geometry.Geometry.{Geometry}
use Rattle.nbd_session.specs.Pending.{Pending}
use Rattle.nbd_session.specs.Store.{OrFails, Rests, RestsBy, Spares, StoreView, WritesBytes}
use Rattle.nbd_session.specs.declared.fault.StoreFault.{StoreFault}
use Rattle.nbd_session.specs.declared.fault.StoreFault.TheVariants.{Disk, Medium}
use Rattle.volatile_cache.specs.Outcomes.{cached}
use Rattle.volatile_cache.proofs.CacheLaws.{turn_through}

rests-by : (turn : Bool) (below below' : StoreView) (mine : List Pending) → RestsBy turn below below' → RestsBy turn (cached below mine) (cached below' mine)
rests-by true below below' mine r = turn_through below below' mine r
rests-by false below below' mine r = ap (λ (b : StoreView). cached b mine) r

pub rests-through : (below below' : StoreView) (mine : List Pending) → Rests below below' → Rests (cached below mine) (cached below' mine)
rests-through below below' mine r = rests-by (below.cleans && not below.read_only) below below' mine r

-- ---- one block

one-count : (g : Geometry) (bytes : List ℕ) → 0 < g.block → length bytes ≡ g.block → block_count g bytes ≡ 1
one-count g bytes some long = ap (λ (n : ℕ). n / g.block) long ∙ div_self some

one-cut : (g : Geometry) (bytes : List ℕ) → 0 < g.block → length bytes ≡ g.block → data_blocks g bytes ≡ bytes ∷ []
one-cut g bytes some long = rw (one-count g bytes some long) (ap (λ (b : List ℕ). b ∷ []) (take_all g.block bytes (omega (arith, long))))

-- a write of the bytes of one block
puts-bytes : (below below' : StoreView) (place : ℕ) (content : Content) (bytes : List ℕ) (result : Result (Unit {0}) DiskFault) → is_trim content ≡ false → bytes_of content ≡ bytes
    → 0 < below.disk.drive.geometry.block → length bytes ≡ below.disk.drive.geometry.block → WritesBytes below place bytes (with_nothing result) below'
    → Puts (is_trim content) below (record { place = place; block = bytes_of content }) result below'
puts-bytes below below' place content bytes result plain is some long wrote =
    rw (plain, is) (rw (one-cut below.disk.drive.geometry bytes some long, one-count below.disk.drive.geometry bytes some long) at wrote)

-- done or refused, or the medium failed in it
pub bytes_put : (below below' : StoreView) (place : ℕ) (content : Content) (bytes : List ℕ) (result : Result (Unit {0}) StoreFault) → is_trim content ≡ false → bytes_of content ≡ bytes
    → 0 < below.disk.drive.geometry.block → length bytes ≡ below.disk.drive.geometry.block
    → OrFails (λ answer. WritesBytes below place bytes (with_nothing answer) below') (Spares below place (block_count below.disk.drive.geometry bytes) below') result
    → PutsOrFails (is_trim content) below (record { place = place; block = bytes_of content }) result below'
bytes_put below below' place content bytes (Ok done) plain is some long o = puts-bytes below below' place content bytes (Ok tt) plain is some long o
bytes_put below below' place content bytes (Err (Disk fault)) plain is some long o = puts-bytes below below' place content bytes (Err fault) plain is some long o
bytes_put below below' place content bytes (Err Medium) plain is some long o = rw (one-count below.disk.drive.geometry bytes some long) at o
