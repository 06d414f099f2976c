use Rattle.std.proofs.Common.{◌^◌, ◌∙◌, List, ap, sym}
use Rattle.std.specs.List.{concat}
use Rattle.zone_cleaner.specs.LiveRecords.{LiveRecord, gathered_data}
use Rattle.zone_cleaner.specs.Moving.{move_with}
use Rattle.zone_cleaner.proofs.EntryLaws.{each-shown, entries-shown, holds-move, keeps-data, whole-shown}
use Rattle.zone_cleaner.proofs.gathered.Gathered.build.Goals as goal

pub head_move-requires-clause-heading : goal.head_move-requires-clause-heading
head_move-requires-clause-heading c =
    let s = c.self.inside in
    let same = ap (λ v. v.records) c.self.view_is ∙ c.in_ok-make_room.ensures.records in
    rw (← entries-shown s.block_bytes s.batch.bytes s.records.entries, same) c.requires.heading

pub head_move-requires-clause-few : goal.head_move-requires-clause-few
head_move-requires-clause-few c =
    let s = c.self.inside in
    let same = ap (λ v. v.records) c.self.view_is ∙ c.in_ok-make_room.ensures.records in
    each-shown s.block_bytes (2 ^ 32) s.batch.bytes s.records.entries (rw (← same) at c.requires.few)

pub head_move-requires-2-clause-heading : goal.head_move-requires-2-clause-heading
head_move-requires-2-clause-heading c =
    let s = c.self.inside in
    let same = ap (λ v. v.records) c.self.view_is ∙ c.in_ok-make_room.ensures.records in
    rw (← entries-shown s.block_bytes s.batch.bytes s.records.entries, same) c.requires.heading

pub head_move-requires-2-clause-few : goal.head_move-requires-2-clause-few
head_move-requires-2-clause-few c =
    let s = c.self.inside in
    let same = ap (λ v. v.records) c.self.view_is ∙ c.in_ok-make_room.ensures.records in
    each-shown s.block_bytes (2 ^ 32) s.batch.bytes s.records.entries (rw (← same) at c.requires.few)

pub returns-then-self-clause-built : goal.returns-then-self-clause-built
returns-then-self-clause-built c =
    let s = c.self.inside in
    let same = ap (λ v. v.records) c.self.view_is ∙ c.in_ok-make_room.ensures.records in
    let size = ap (λ v. v.block_bytes) c.self.view_is ∙ c.in_ok-make_room.ensures.room in
    let heading = rw (← entries-shown s.block_bytes s.batch.bytes s.records.entries, same) at c.in_ok-head_move.ensures.heading in
    let body = (rw c.bytes-bytes.ensures at c.in_ok-pack.ensures.bytes) ∙ ap (λ (rs : List LiveRecord). concat (gathered_data rs)) (rw size at same) in
    rw c.if-self.true (holds-move c.head_move.new.batch c.args.header.block_bytes (move_with c.args.header c.args.self.now.records) _ heading c.in_ok-head_move.ensures.bytes body)

pub returns-then-self-clause-whole : goal.returns-then-self-clause-whole
returns-then-self-clause-whole c =
    let s = c.self.inside in
    let same = ap (λ v. v.records) c.self.view_is ∙ c.in_ok-make_room.ensures.records in
    let size = ap (λ v. v.block_bytes) c.self.view_is ∙ c.in_ok-make_room.ensures.room in
    rw (← same, ← size) (whole-shown s.block_bytes s.batch.bytes s.records.entries c.self.invariant.1)

pub invariant_of-self-in_err-head_move-2 : goal.invariant_of-self-in_err-head_move-2
invariant_of-self-in_err-head_move-2 c =
    let s = c.self.inside in
    let size = ap (λ v. v.block_bytes) c.self.view_is ∙ c.in_ok-make_room.ensures.room in
    let k = keeps-data s.block_bytes s.records.entries s.batch.bytes c.head_move-2.new.batch.bytes c.self.invariant.0 c.self.invariant.1 c.head_move-2.ensures.length (rw (← size) at c.head_move-2.ensures.kept) in
    (k.room, k.within, λ none. k.order (c.self.invariant.2 none))

pub returns-in_err-head_move-2-clause-records : goal.returns-in_err-head_move-2-clause-records
returns-in_err-head_move-2-clause-records c =
    let s = c.self.inside in
    let same = ap (λ v. v.records) c.self.view_is ∙ c.in_ok-make_room.ensures.records in
    let size = ap (λ v. v.block_bytes) c.self.view_is ∙ c.in_ok-make_room.ensures.room in
    (keeps-data s.block_bytes s.records.entries s.batch.bytes c.head_move-2.new.batch.bytes c.self.invariant.0 c.self.invariant.1 c.head_move-2.ensures.length (rw (← size) at c.head_move-2.ensures.kept)).shows ∙ same

pub invariant_of-self-2 : goal.invariant_of-self-2
invariant_of-self-2 c =
    let s = c.self.inside in
    let size = ap (λ v. v.block_bytes) c.self.view_is ∙ c.in_ok-make_room.ensures.room in
    let k = keeps-data s.block_bytes s.records.entries s.batch.bytes c.head_move-2.new.batch.bytes c.self.invariant.0 c.self.invariant.1 c.head_move-2.ensures.length (rw (← size) at c.head_move-2.ensures.kept) in
    (k.room, k.within, λ none. k.order (c.self.invariant.2 none))

pub returns-clause-records : goal.returns-clause-records
returns-clause-records c =
    let s = c.self.inside in
    let same = ap (λ v. v.records) c.self.view_is ∙ c.in_ok-make_room.ensures.records in
    let size = ap (λ v. v.block_bytes) c.self.view_is ∙ c.in_ok-make_room.ensures.room in
    (keeps-data s.block_bytes s.records.entries s.batch.bytes c.head_move-2.new.batch.bytes c.self.invariant.0 c.self.invariant.1 c.head_move-2.ensures.length (rw (← size) at c.head_move-2.ensures.kept)).shows ∙ same

pub returns-clause-built : goal.returns-clause-built
returns-clause-built c =
    let s = c.self.inside in
    let same = ap (λ v. v.records) c.self.view_is ∙ c.in_ok-make_room.ensures.records in
    let size = ap (λ v. v.block_bytes) c.self.view_is ∙ c.in_ok-make_room.ensures.room in
    let heading = rw (← entries-shown s.block_bytes s.batch.bytes s.records.entries, same) at c.in_ok-head_move-2.ensures.heading in
    let ordered = rw size at c.self.invariant.2 c.if-self.false in
    let body = sym ordered ∙ ap (λ (rs : List LiveRecord). concat (gathered_data rs)) (rw size at same) in
    rw c.if-self.false (holds-move c.head_move-2.new.batch c.args.header.block_bytes (move_with c.args.header c.args.self.now.records) _ heading c.in_ok-head_move-2.ensures.bytes body)

pub returns-clause-whole : goal.returns-clause-whole
returns-clause-whole c =
    let s = c.self.inside in
    let same = ap (λ v. v.records) c.self.view_is ∙ c.in_ok-make_room.ensures.records in
    let size = ap (λ v. v.block_bytes) c.self.view_is ∙ c.in_ok-make_room.ensures.room in
    rw (← same, ← size) (whole-shown s.block_bytes s.batch.bytes s.records.entries c.self.invariant.1)
