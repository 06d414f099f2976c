use Rattle.std.proofs.Common.{◌≡◌, true, false, rules}
use Rattle.nbd_session.proofs.ServedLaws.{disk_calls, turn_taken}
use Rattle.nbd_session.proofs.served_disk.ServedDiskStore.rest.Goals as goal

pub returns-then-not-self : goal.returns-then-not-self
returns-then-not-self g c =
    let writes : c.self.inside.read_only ≡ false = search rules in
    let cleans : c.self.inside.cleans ≡ true = search rules in
    let syncs = g.M.Medium.syncs c.self.inside.medium in
    let flushes = g.M.Medium.flushes c.self.inside.medium in
    rw (← c.self.view_is, writes, cleans) (record {
      rests = λ clean. turn_taken c.self.inside.disk c.idle.new.self syncs flushes c.idle.result (c.idle.ensures.answers clean) (c.idle.ensures.turn clean) c.idle.ensures.completed;
      stays = disk_calls c.self.inside.disk c.idle.new.self syncs false true flushes c.idle.ensures.alike;
      still = λ off. absurd (cc off);
    })
