use Rattle.std.proofs.Common.{◌≡◌, ◌+◌, ◌-◌, ◌*◌, ◌≤◌, Some, None, drop, length, map, sym, ◌∙◌, arith}
use Rattle.std.specs.Simd.Lanes.{chunk}
use Rattle.std.proofs.lemmas.List.{length-drop, take_all}
use Rattle.std.proofs.lemmas.Simd.{length-put_chunk}
use Rattle.disk_files.specs.Words.{hex_bytes, value_or_none}
use Rattle.disk_files.proofs.DigitLaws.{all_below-capped, capped-below, decoded-more, decoded-none, decoded-rest, part-none, put_end}
use Rattle.disk_files.proofs.digits.decode_pairs.Goals as goal

pub loop-bytes-preserved : goal.loop-bytes-preserved
loop-bytes-preserved c =
    let at = c.loop-bytes in
    let digits = c.args.digits.now in
    let long : length digits ≡ 2 * length at.bytes = omega (arith, c.requires, at.invariant.0) in
    let inside : 2 * at.done ≤ length digits = omega (arith, long, at.invariant.1) in
    let room : at.done + 32 ≤ length at.bytes = omega (arith, c.loop-bytes-test.true, at.invariant.1) in
    let same = length-put_chunk at.done at.bytes c.joined.result in
    let below = sym c.are_digits.ensures ∙ c.if-not-are_digits.false in
    let values : c.values-values.result ≡ map value_or_none (chunk (2 * at.done) 64 digits) = sym (capped-below c.values-values.result below) ∙ c.values-values.ensures in (
      same ∙ at.invariant.0,
      omega (arith, same, room),
      rw (c.joined.ensures, values) (decoded-more digits at.bytes at.done inside long room at.invariant.2 (rw values at below)),
    )

pub returns-then-not-are_digits-clause-none : goal.returns-then-not-are_digits-clause-none
returns-then-not-are_digits-clause-none c = λ _.
    let at = c.loop-bytes in
    let digits = c.args.digits.now in
    let inside : 2 * at.done ≤ length digits = omega (arith, c.requires, at.invariant.0, at.invariant.1) in
    let room : 2 * at.done + 64 ≤ length digits = omega (arith, c.requires, at.invariant.0, c.loop-bytes-test.true) in
    decoded-none digits at.bytes at.done inside at.invariant.2 (part-none digits (2 * at.done) room (rw c.values-values.ensures at (all_below-capped c.values-values.result ∙ sym c.are_digits.ensures ∙ c.if-not-are_digits.true)))

pub returns-clause-decoded : goal.returns-clause-decoded
returns-clause-decoded c = λ yes.
    let at = c.loop-bytes in
    let digits = c.args.digits.now in
    let out = c.decode_few.new.bytes in
    let inside : 2 * at.done ≤ length digits = omega (arith, c.requires, at.invariant.0, at.invariant.1) in
    let short : length (drop (2 * at.done) digits) ≤ length digits - 2 * at.done = omega (arith, length-drop (2 * at.done) digits) in
    let rest : hex_bytes (drop (2 * at.done) digits) ≡ Some out = rw (take_all _ (drop (2 * at.done) digits) short) at (c.decode_few.ensures.decoded yes) in
    rw (put_end at.bytes out at.done) (decoded-rest digits at.bytes at.done inside out at.invariant.2 rest)

pub returns-clause-none : goal.returns-clause-none
returns-clause-none c = λ no.
    let at = c.loop-bytes in
    let digits = c.args.digits.now in
    let inside : 2 * at.done ≤ length digits = omega (arith, c.requires, at.invariant.0, at.invariant.1) in
    let short : length (drop (2 * at.done) digits) ≤ length digits - 2 * at.done = omega (arith, length-drop (2 * at.done) digits) in
    let rest : hex_bytes (drop (2 * at.done) digits) ≡ None = rw (take_all _ (drop (2 * at.done) digits) short) at (c.decode_few.ensures.none no) in
    decoded-none digits at.bytes at.done inside at.invariant.2 rest
