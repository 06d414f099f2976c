use Rattle.std.proofs.Common.{◌≡◌, ◌≤◌, ◌+◌, ◌-◌, ap, refl, length, take, drop, List, ℕ, arith}
use Rattle.std.proofs.lemmas.List.{length-drop, length-take}
use Rattle.nbd_session.proofs.GroupLaws.{gathered_more, rest_is}
use Rattle.nbd_session.proofs.group.Group.take_next.Goals as goal

pub returns : goal.returns
returns g c = λ front was.
    let bytes = c.args.bytes.now in
    let count = c.data_length-count.result in
    let whole : 28 + count ≤ length bytes = omega (arith, c.data_length-count.ensures, c.in-Some.ensures.whole) in
    let rest : take (length bytes - 28) (drop 28 bytes) ≡ drop 28 bytes = rest_is 28 bytes in (
      whole,
      gathered_more (g.S.Store.view c.args.store.now) front bytes _ c.args.self.now c.add.new.self c.in-Some.request c.in-Some-joining.wanted c.in-Some-joining.span count was
          c.in-Some.ensures c.in-Some-joining.ensures.joins ((rw c.most_listed.ensures at c.if-not-admits.ensures) refl) c.data_length-count.ensures
          (ap (λ (xs : List ℕ). take count xs) rest) (omega (arith, whole, length-take count (take (length bytes - 28) (drop 28 bytes)), ap length rest, length-drop 28 bytes))
          c.in_ok-add.ensures.members c.in_ok-add.ensures.entries c.in_ok-add.ensures.bytes,
    )
