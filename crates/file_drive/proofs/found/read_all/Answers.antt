use Rattle.std.proofs.Common.{rules, ◌≡◌, ◌&&◌, ◌∙◌, false, true, length, map, refl, sym, ap, arith}
use Rattle.file_drive.specs.Found.{is_set_back}
use Rattle.file_drive.specs.Head.{is_of_boot}
use Rattle.file_drive.specs.Layout.{at_table}
use Rattle.file_drive.specs.Opening.{IsTable, proves_live}
use Rattle.file_drive.specs.Tables.{entry_of}
use Rattle.file_drive.proofs.OpenLaws.{found-flushed, found-live, head-test}
use Rattle.file_drive.proofs.PartLaws.{length-words}
use Rattle.file_drive.proofs.found.read_all.Goals as goal

pub table_entries-requires : goal.table_entries-requires
table_entries-requires g c =
    let file = g.F.FileBytes.seen c.args.file.now in
    let head = c.in_ok-head.head in
    let tables = c.in_ok-tables.tables in
    let are = rw c.read_head.ensures.seen at c.in_ok-tables.ensures.ok in
    rw c.deref.ensures.value (omega (arith, sym (ap length are.safe), length-words file (at_table head.geometry tables.flushed) head.geometry.zones, c.in_ok-head.ensures.ok.in_range.zones.1))

pub returns-then-not-is_same_boot-clause-ok : goal.returns-then-not-is_same_boot-clause-ok
returns-then-not-is_same_boot-clause-ok g c =
    let file = g.F.FileBytes.seen c.args.file.now in
    let head = c.in_ok-head.head in
    let tables = c.in_ok-tables.tables in
    let is = c.in_ok-head.ensures.ok in
    let are = rw c.read_head.ensures.seen at c.in_ok-tables.ensures.ok in
    let table : IsTable head.geometry c.deref.result.now = search rules in
    let off : c.is_same_boot.result ≡ false = search rules in
    let another = head-test c.args.boot file head tables is are c.is_same_boot.result c.is_same_boot.ensures false off in
    let not_live : (is_of_boot c.args.boot file && proves_live head.geometry file) ≡ false = rw another refl in
    let told : false ≡ is_set_back head.geometry c.args.boot file = rw another refl in
    found-flushed c.args.boot file head tables is are (rw c.deref.ensures.value at table) c.in_ok-flushed.flushed (c.in_ok-flushed.ensures.ok ∙ ap (map entry_of) c.deref.ensures.value) not_live false told

pub returns-in-Some-clause-ok : goal.returns-in-Some-clause-ok
returns-in-Some-clause-ok g c =
    let file = g.F.FileBytes.seen c.args.file.now in
    let head = c.in_ok-head.head in
    let tables = c.in_ok-tables.tables in
    let is = c.in_ok-head.ensures.ok in
    let are = rw c.read_head.ensures.seen at c.in_ok-tables.ensures.ok in
    let table : IsTable head.geometry c.deref.result.now = search rules in
    let on : c.is_same_boot.result ≡ true = search rules in
    let of_boot = head-test c.args.boot file head tables is are c.is_same_boot.result c.is_same_boot.ensures true on in
    let proves : proves_live head.geometry (g.F.FileBytes.seen c.read_tables.new.file) ≡ true = search rules in
    let say : c.in-Some.entries.items ≡ map entry_of tables.current.items = search rules in
    found-live c.args.boot file head tables is are (rw c.deref.ensures.value at table) c.in-Some.entries say of_boot (rw (c.read_tables.ensures.seen, c.read_head.ensures.seen) at proves)

pub returns-in-Some-clause-leaves : goal.returns-in-Some-clause-leaves
returns-in-Some-clause-leaves g c = λ bytes may. c.read_head.ensures.leaves bytes (c.read_tables.ensures.leaves bytes (c.live_entries.ensures.leaves bytes may))

pub returns-in-None-clause-ok : goal.returns-in-None-clause-ok
returns-in-None-clause-ok g c =
    let file = g.F.FileBytes.seen c.args.file.now in
    let head = c.in_ok-head.head in
    let tables = c.in_ok-tables.tables in
    let is = c.in_ok-head.ensures.ok in
    let are = rw c.read_head.ensures.seen at c.in_ok-tables.ensures.ok in
    let table : IsTable head.geometry c.deref.result.now = search rules in
    let on : c.is_same_boot.result ≡ true = search rules in
    let of_boot = head-test c.args.boot file head tables is are c.is_same_boot.result c.is_same_boot.ensures true on in
    let unproved : proves_live head.geometry (g.F.FileBytes.seen c.read_tables.new.file) ≡ false = search rules in
    let unproved' : proves_live head.geometry file ≡ false = rw (c.read_tables.ensures.seen, c.read_head.ensures.seen) at unproved in
    let not_live : (is_of_boot c.args.boot file && proves_live head.geometry file) ≡ false = rw (of_boot, unproved') refl in
    let told : true ≡ is_set_back head.geometry c.args.boot file = rw (of_boot, unproved') refl in
    found-flushed c.args.boot file head tables is are (rw c.deref.ensures.value at table) c.in_ok-flushed.flushed (c.in_ok-flushed.ensures.ok ∙ ap (map entry_of) c.deref.ensures.value) not_live true told

pub returns-in-None-clause-leaves : goal.returns-in-None-clause-leaves
returns-in-None-clause-leaves g c = λ bytes may. c.read_head.ensures.leaves bytes (c.read_tables.ensures.leaves bytes (c.live_entries.ensures.leaves bytes may))
