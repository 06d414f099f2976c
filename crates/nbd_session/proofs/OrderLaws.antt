-- A group that is done, and its blocks one by one.
use Rattle.std.proofs.Common.{map}
use Rattle.std.specs.Prelude.{nat_eq}
use Rattle.std.specs.List.{IsDistinct}
use Rattle.std.proofs.lemmas.List.Sorted.{IsPermutation-refl}
use Rattle.zone_states.specs.Zone.{cut_blocks}
use Rattle.batch_log.specs.Log.{data_count}
use Rattle.zone_translator.proofs.ListedLaws.{blocks-put}
use Rattle.zone_translator.proofs.OrderLaws.{list-is-its-writes}
use Rattle.zone_translator.specs.Flat.{Put}
use Rattle.zone_translator.specs.Listed.{list_puts}
use Rattle.nbd_session.specs.Groups.{data_of, entries_of}
use Rattle.nbd_session.specs.Laws.{GroupIsItsWrites}
use Rattle.nbd_session.specs.Store.{store_flat}

pub group-is-its-writes : GroupIsItsWrites
group-is-its-writes passes old message reply new last served done steps =
    let block = old.disk.drive.geometry.block in
    let entries = entries_of served.askings in
    let puts = list_puts old.disk entries (data_of served.askings) in
    let distinct : IsDistinct nat_eq (map (λ (p : Put). p.block) puts) = rw (blocks-put block entries (cut_blocks block (data_count entries) (data_of served.askings))) served.group.apart in
    list-is-its-writes (store_flat old) (store_flat served.answered) last puts puts distinct (IsPermutation-refl puts) (rw done at served.writes.calls.flat) steps
