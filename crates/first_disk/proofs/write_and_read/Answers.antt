use Rattle.zone_translator.specs.View.{flat_of}
use Rattle.first_disk.proofs.Shown.{shown-again}
use Rattle.first_disk.proofs.write_and_read.Goals as goal

pub returns : goal.returns
returns g c =
    shown-again (flat_of c.args.disk.now) (flat_of c.write.new.self) (flat_of c.read.new.self) c.args.first c.args.blocks c.args.disk.now.drive.geometry.block c.args.bytes.now c.read.result c.read.new.into.items c.written_reads_back.ensures
    (rw c.requires.blocks c.requires.whole) (rw c.requires.blocks c.in_ok-write.ensures.answers.flat) c.read.ensures.answers.flat
