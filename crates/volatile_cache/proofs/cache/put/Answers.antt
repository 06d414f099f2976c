use Rattle.std.proofs.Common.{◌≡◌, ◌<◌, false, length, rules}
use Rattle.volatile_cache.proofs.PassLaws.{bytes_put}
use Rattle.volatile_cache.specs.Queue.{bytes_of, is_trim}
use Rattle.volatile_cache.proofs.cache.put.Goals as goal

pub returns-in-Bytes-clause-puts : goal.returns-in-Bytes-clause-puts
returns-in-Bytes-clause-puts g c = λ clean.
    let plain : is_trim c.args.kept.now.content ≡ false = search rules in
    let is : bytes_of c.args.kept.now.content ≡ c.in-Bytes.bytes.items = search rules in
    let some : 0 < (g.S.Store.view c.args.store.now).disk.drive.geometry.block = search rules in
    let long : length c.in-Bytes.bytes.items ≡ (g.S.Store.view c.args.store.now).disk.drive.geometry.block = search rules in
    bytes_put (g.S.Store.view c.args.store.now) (g.S.Store.view c.write.new.self) c.args.kept.now.place c.args.kept.now.content c.in-Bytes.bytes.items c.write.result plain is some long (rw c.deref.ensures.value at (c.write.ensures.writes clean))
