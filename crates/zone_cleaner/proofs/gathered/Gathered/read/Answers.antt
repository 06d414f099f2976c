use Rattle.std.proofs.Common.{◌≡◌, ◌+◌, ap, arith, length, ◌∙◌, Some}
use Rattle.std.proofs.lemmas.List.{length-append}
use Rattle.zone_cleaner.specs.Reading.{data_record}
use Rattle.zone_cleaner.proofs.EntryLaws.{adds-data, on-ok}
use Rattle.zone_cleaner.proofs.FetchLaws.{gather-refused}
use Rattle.zone_cleaner.proofs.gathered.Gathered.read.Goals as goal

pub invariant_of-self-2 : goal.invariant_of-self-2
invariant_of-self-2 g c =
    let s = c.self.inside in
    let same = ap (λ v. v.records) c.self.view_is ∙ c.in_ok-make_room.ensures.records in
    let size = ap (λ v. v.block_bytes) c.self.view_is ∙ c.in_ok-make_room.ensures.room ∙ ap (λ v. v.block) c.geometry-block_bytes.ensures in
    let entries = rw c.reserve.ensures.entries at (on-ok c.insert.result (c.insert.ensures.succeeds (omega (arith, c.in_ok-reserve.ensures.ok))) c.insert.ensures.entries) in
    let at = ap length c.bytes-position.ensures in
    let more = c.in_ok-fetch.ensures.adds in
    let longer : length c.fetch.new.batch.bytes ≡ length s.batch.bytes + s.block_bytes = omega (arith, ap length more.1, length-append s.batch.bytes more.0, more.2, size) in
    let a = adds-data s.block_bytes c.args.block (length c.bytes-position.result.now) s.records.entries c.insert.new.self.entries s.batch.bytes more.0 c.fetch.new.batch.bytes c.self.invariant.0 c.self.invariant.1 (rw (← same) at c.requires.above) at entries more.1 longer in
    (omega (arith, longer, c.self.invariant.0), a.within, λ none. a.order (c.self.invariant.2 none))

pub returns : goal.returns
returns g c =
    let s = c.self.inside in
    let same = ap (λ v. v.records) c.self.view_is ∙ c.in_ok-make_room.ensures.records in
    let size = ap (λ v. v.block_bytes) c.self.view_is ∙ c.in_ok-make_room.ensures.room ∙ ap (λ v. v.block) c.geometry-block_bytes.ensures in
    let entries = rw c.reserve.ensures.entries at (on-ok c.insert.result (c.insert.ensures.succeeds (omega (arith, c.in_ok-reserve.ensures.ok))) c.insert.ensures.entries) in
    let at = ap length c.bytes-position.ensures in
    let above = rw (← same) at c.requires.above in
    let more = c.in_ok-fetch.ensures.adds in
    let longer : length c.fetch.new.batch.bytes ≡ length s.batch.bytes + s.block_bytes = omega (arith, ap length more.1, length-append s.batch.bytes more.0, more.2, size) in
    record {
      asks = c.fetch.ensures.asks;
      adds = (Some more.0, rw (← same) (adds-data s.block_bytes c.args.block (length c.bytes-position.result.now) s.records.entries c.insert.new.self.entries s.batch.bytes more.0 c.fetch.new.batch.bytes c.self.invariant.0 c.self.invariant.1 above at entries more.1 longer).shows);
      failed = tt;
      fails = λ failed. absurd (let e = failed in cc);
      reads = c.fetch.ensures.reads;
      ok = λ clean. rw (← same) (adds-data s.block_bytes c.args.block (length c.bytes-position.result.now) s.records.entries c.insert.new.self.entries s.batch.bytes _ c.fetch.new.batch.bytes c.self.invariant.0 c.self.invariant.1 above at entries (c.in_ok-fetch.ensures.ok clean) longer).shows;
      err = λ clean. tt;
    }

pub returns-in_err-make_room : goal.returns-in_err-make_room
returns-in_err-make_room g c = gather-refused c.args.disk.now c.args.self.now.records c.make_room.new.self.records (data_record c.args.disk.now c.args.block) c.from_residual.result c.in_err-make_room.field-0.0 c.from_residual.ensures.1 c.in_err-make_room.ensures.read c.in_err-make_room.ensures.records
    (λ clean. (c.requires.stored clean).agrees) (λ clean. c.in_err-make_room.ensures.err (rw c.geometry-block_bytes.ensures (c.requires.whole clean)))
