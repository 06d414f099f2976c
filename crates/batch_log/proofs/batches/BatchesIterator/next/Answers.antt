use Rattle.std.proofs.Common.{◌≢◌, ◌≤◌, ◌+◌, ◌*◌, [], length, refl, ap, arith}
use Rattle.batch_log.proofs.LentLaws.{data-few, ends_within, few_bytes, goes_on, left_after, lent}
use Rattle.batch_log.proofs.batches.BatchesIterator.next.Goals as goal

pub overflow_mul-count : goal.overflow_mul-count
overflow_mul-count c =
    let room = c.in-Ok.ensures.ok.says.room in
    let few = data-few c.in-Ok.header.entries in
    let small = few_bytes c.data_blocks-count.result c.args.self.now.block_bytes (omega (arith, room, few, c.data_blocks-count.ensures, c.split_at.ensures.front_len)) (omega arith) in
    omega (arith, small)

pub overflow_add-self-2 : goal.overflow_add-self-2
overflow_add-self-2 c =
    let s = c.args.self.now in
    let within = ends_within s.block_bytes (length s.rest.now) s.offset s.end c.data_blocks-count.result (omega (arith, s.room)) s.whole (omega (arith, c.if-others-count.false, c.split_at.ensures.back_len)) in
    omega (arith, within)

pub invariant_of-self : goal.invariant_of-self
invariant_of-self c =
    let s = c.args.self.now in
    let fits : s.block_bytes + c.data_blocks-count.result * s.block_bytes ≤ length s.rest.now = omega (arith, c.if-others-count.false, c.split_at.ensures.back_len) in
    record {
      room = s.room;
      in_range = ends_within s.block_bytes (length s.rest.now) s.offset s.end c.data_blocks-count.result (omega (arith, s.room)) s.whole fits;
      whole = left_after s.block_bytes (length s.rest.now) s.offset s.end c.data_blocks-count.result _ s.whole fits (omega (arith, c.split_at.ensures.back_len, c.split_at-2.ensures.back_len));
    }

pub returns-clause-steps : goal.returns-clause-steps
returns-clause-steps c =
    let s = c.args.self.now in
    let some : s.rest.now ≢ [] = λ e. absurd (omega (arith, ap length e, c.split_at.ensures.front_len, s.room)) in
    let read = lent s.block_bytes s.is_full s.offset s.rest.now _ _ _ _ c.in-Ok.header c.data_blocks-count.result _ (omega (arith, s.room)) some c.split_at.ensures.front c.split_at.ensures.back c.in-Ok.ensures.read.0 c.in-Ok.ensures.read.1
    c.data_blocks-count.ensures c.if-others-count.false c.split_at-2.ensures.front c.split_at-2.ensures.back refl in
    let e = goes_on _ _ _ s.torn read in
    (e.0, e.1, tt)

pub returns-clause-goes : goal.returns-clause-goes
returns-clause-goes c =
    let s = c.args.self.now in
    let some : s.rest.now ≢ [] = λ e. absurd (omega (arith, ap length e, c.split_at.ensures.front_len, s.room)) in
    let read = lent s.block_bytes s.is_full s.offset s.rest.now _ _ _ _ c.in-Ok.header c.data_blocks-count.result _ (omega (arith, s.room)) some c.split_at.ensures.front c.split_at.ensures.back c.in-Ok.ensures.read.0 c.in-Ok.ensures.read.1
    c.data_blocks-count.ensures c.if-others-count.false c.split_at-2.ensures.front c.split_at-2.ensures.back refl in
    let e = goes_on _ _ _ s.torn read in
    record { on = λ finite. (tt, finite, omega (arith, ap length e.0)); keeps = tt; rests = λ finite. tt }
