use Rattle.std.proofs.Common.{◌++◌, ◌∙◌, List, ℕ, ap, drop}
use Rattle.batch_log.specs.Header.{header_block}
use Rattle.zone_cleaner.proofs.EntryLaws.{header-long}
use Rattle.zone_cleaner.proofs.gathered.head_move.Goals as goal

pub returns-clause-kept : goal.returns-clause-kept
returns-clause-kept c =
    (header-long c.args.header.block_bytes c.name_all.new.batch.heading c.args.batch.now.bytes c.encode_before_data.new.self.bytes c.requires.block (rw (c.in_ok-name_all.ensures.heading, c.start.ensures.heading) c.requires.heading) c.requires.room
    (c.encode_before_data.ensures.bytes ∙ ap (λ (bytes : List ℕ). header_block c.args.header.block_bytes c.name_all.new.batch.heading ++ drop c.args.header.block_bytes bytes) (c.in_ok-name_all.ensures.bytes ∙ c.start.ensures.bytes))).1

pub returns-clause-length : goal.returns-clause-length
returns-clause-length c =
    (header-long c.args.header.block_bytes c.name_all.new.batch.heading c.args.batch.now.bytes c.encode_before_data.new.self.bytes c.requires.block (rw (c.in_ok-name_all.ensures.heading, c.start.ensures.heading) c.requires.heading) c.requires.room
    (c.encode_before_data.ensures.bytes ∙ ap (λ (bytes : List ℕ). header_block c.args.header.block_bytes c.name_all.new.batch.heading ++ drop c.args.header.block_bytes bytes) (c.in_ok-name_all.ensures.bytes ∙ c.start.ensures.bytes))).0
