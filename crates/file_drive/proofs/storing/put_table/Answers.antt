use Rattle.std.proofs.Common.{◌≡◌, ◌+◌, ◌*◌, ◌/◌, ◌∙◌, ap, arith, length, map, refl, slice_index, sym}
use Rattle.std.proofs.lemmas.List.{length-map}
use Rattle.zone_states.specs.Stored.{StoredZone}
use Rattle.file_drive.specs.Layout.{word_in}
use Rattle.file_drive.specs.Storing.{stored_entries, stored_entry}
use Rattle.file_drive.specs.Tables.{word_of}
use Rattle.file_drive.proofs.PartLaws.{beside-both, beside-refl, beside-wider}
use Rattle.file_drive.proofs.ServedLaws.{small-capacity}
use Rattle.file_drive.proofs.StoringLaws.{few-at, first-next, others-all, others-next, table-put, unnamed-beside, wanted-at, zone-read}
use Rattle.file_drive.proofs.storing.put_table.Goals as goal

pub loop-index-init : goal.loop-index-init
loop-index-init g c =
    let file = g.F.FileBytes.seen c.args.file.now in
    record {
      put = λ k low. absurd {A = word_in file (c.at_table-start.result + 8 * k) ≡ slice_index (map word_of (stored_entries c.args.geometry.now c.args.zones.now)) k} (omega (arith, low));
      others = others-all file c.at_table-start.result c.args.geometry.now.zones (rw c.at_table-start.ensures c.requires.zeros);
      beside = beside-refl c.at_table-start.result (8 * c.args.geometry.now.zones) file;
      unnamed = λ unnamed. unnamed;
      usable = refl;
    }

pub stored_entry-requires : goal.stored_entry-requires
stored_entry-requires g c =
    let geometry = c.args.geometry.now in
    let zones = c.args.zones.now in
    let zone = zone-read zones c.loop-index.index c.index-zones-index.result c.loop-index-test.true c.index-zones-index.is in
    omega (arith, ap (λ (z : StoredZone). length z.bytes / geometry.block) zone, few-at geometry zones c.requires.zones c.loop-index.index c.loop-index-test.true, small-capacity geometry c.requires.in_range)

pub returns-in_err-put_word-clause-unnamed : goal.returns-in_err-put_word-clause-unnamed
returns-in_err-put_word-clause-unnamed g c unnamed =
    unnamed-beside (c.at_table-start.result + 8 * c.loop-index.index) 8 (g.F.FileBytes.may_leave c.loop-index.file) (g.F.FileBytes.may_leave c.put_word.new.file) c.put_word.ensures.leaves (omega (arith, c.at_table-start.ensures)) (c.loop-index.invariant.unnamed unnamed)

pub loop-index-preserved : goal.loop-index-preserved
loop-index-preserved g c =
    let geometry = c.args.geometry.now in
    let zones = c.args.zones.now in
    let index = c.loop-index.index in
    let start = c.at_table-start.result in
    let old = g.F.FileBytes.seen c.loop-index.file in
    let new = g.F.FileBytes.seen c.put_word.new.file in
    let wanted = map word_of (stored_entries geometry zones) in
    let zone = zone-read zones index c.index-zones-index.result c.loop-index-test.true c.index-zones-index.is in
    let word : c.word-word.result ≡ slice_index wanted index = c.word-word.ensures ∙ ap word_of (c.stored_entry.ensures ∙ ap (stored_entry geometry) zone) ∙ sym (wanted-at geometry zones index c.loop-index-test.true) in
    let put : word_in new (start + 8 * index) ≡ slice_index wanted index = c.in_ok-put_word.ensures.ok ∙ word in
    let beside = c.put_word.ensures.beside in
    record {
      put = first-next old new wanted start index beside put c.loop-index.invariant.put;
      others = others-next old new start geometry.zones index beside c.loop-index.invariant.others;
      beside = beside-both start (8 * geometry.zones) (g.F.FileBytes.seen c.args.file.now) old new c.loop-index.invariant.beside
          (beside-wider (start + 8 * index) 8 start (8 * geometry.zones) old new beside (omega arith) (omega (arith, c.loop-index-test.true, c.requires.zones.count)));
      unnamed = λ unnamed. unnamed-beside (start + 8 * index) 8 (g.F.FileBytes.may_leave c.loop-index.file) (g.F.FileBytes.may_leave c.put_word.new.file) c.put_word.ensures.leaves
          (omega (arith, c.at_table-start.ensures)) (c.loop-index.invariant.unnamed unnamed);
      usable = c.put_word.ensures.usable ∙ c.loop-index.invariant.usable;
    }

pub returns-clause-ok : goal.returns-clause-ok
returns-clause-ok g c =
    let geometry = c.args.geometry.now in
    let wanted = map word_of (stored_entries geometry c.args.zones.now) in
    let last : c.loop-index.index ≡ geometry.zones = omega (arith, c.loop-index-test.false, c.loop-index.auto.index-end, c.requires.zones.count) in
    let long : length wanted ≡ geometry.zones = length-map (stored_entries geometry c.args.zones.now) word_of ∙ length-map c.args.zones.now (stored_entry geometry) ∙ c.requires.zones.count in
    rw (← c.at_table-start.ensures) (table-put (g.F.FileBytes.seen c.loop-index.file) wanted c.at_table-start.result geometry.zones long (rw last at c.loop-index.invariant.put))
