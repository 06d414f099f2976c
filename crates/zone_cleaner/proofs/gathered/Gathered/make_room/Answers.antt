use Rattle.std.proofs.Common.{arith, sym, ◌∙◌}
use Rattle.zone_cleaner.proofs.EntryLaws.{makes-room, none-found, some-found}
use Rattle.zone_cleaner.proofs.gathered.Gathered.make_room.Goals as goal

pub returns-then-has_data-clause-err : goal.returns-then-has_data-clause-err
returns-then-has_data-clause-err c = λ whole.
    let s = c.self.inside in
    absurd (c.if-self-block_bytes.false (some-found c.args.block_bytes s.block_bytes s.batch.bytes s.records.entries c.self.invariant.1 (rw (← c.self.view_is) at whole) (sym c.has_data.ensures ∙ c.if-has_data.true)))

pub invariant_of-self-2 : goal.invariant_of-self-2
invariant_of-self-2 c =
    let s = c.self.inside in
    let a = makes-room c.args.block_bytes s.block_bytes s.records.entries s.batch.bytes c.make_room.new.self.bytes (none-found s.records.entries (sym c.has_data.ensures ∙ c.if-has_data.false)) c.in_ok-make_room.ensures.ok in
    (omega (arith, c.in_ok-make_room.ensures.ok), a.within, λ none. a.order)

pub returns-clause-records : goal.returns-clause-records
returns-clause-records c =
    let s = c.self.inside in
    rw (← c.self.view_is) (makes-room c.args.block_bytes s.block_bytes s.records.entries s.batch.bytes c.make_room.new.self.bytes (none-found s.records.entries (sym c.has_data.ensures ∙ c.if-has_data.false)) c.in_ok-make_room.ensures.ok).shows
