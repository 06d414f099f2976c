use Rattle.zone_translator.specs.View.{flat_of}
use Rattle.zone_translator.proofs.BackLaws.{written-reads-back}
use Rattle.zone_translator.proofs.laws.written_reads_back.Goals as goal

pub returns : goal.returns
returns g c = λ middle new first blocks shown. written-reads-back (flat_of c.args.disk.now) middle new first blocks shown c.blocks-2.ensures.array
