use Rattle.std.proofs.Common.{◌≡◌, false, true, take, drop, refl, sym, ap, ◌∙◌}
use Rattle.batch_log.specs.declared.fault.LogFault.TheVariants.{ForeignTail}
use Rattle.batch_log.specs.Causes.{is_zero}
use Rattle.batch_log.specs.Ending.{ended, failed, foreign_ending}
use Rattle.batch_log.proofs.LentLaws.{at_end, ends, fails, foreign}
use Rattle.batch_log.proofs.batches.Batches.foreign.Goals as goal

pub returns-then-not-is_zero : goal.returns-then-not-is_zero
returns-then-not-is_zero c =
    let s = c.args.self.now in
    let block = take s.block_bytes s.rest.now in
    let rest = is_zero (drop s.block_bytes s.rest.now) in
    let first : is_zero block ≡ false = ap is_zero (sym c.split_at.ensures.front) ∙ sym c.is_zero.ensures ∙ c.if-not-is_zero.true in
    let ending : foreign_ending s.is_full c.args.cause (is_zero block) rest ≡ failed c.args.cause = rw (c.if-not-self.false, first) refl in
    let read = foreign s.block_bytes s.is_full s.offset s.rest.now c.args.cause c.requires.some c.requires.cause ∙ ap (at_end s.offset) ending in
    let e = fails _ s.offset c.args.cause s.torn _ read c.new-then-not-is_zero.ensures in
    (e.0, e.1, tt)

pub returns-then-is_zero : goal.returns-then-is_zero
returns-then-is_zero c =
    let s = c.args.self.now in
    let block = take s.block_bytes s.rest.now in
    let others = drop s.block_bytes s.rest.now in
    let first : is_zero block ≡ true = ap is_zero (sym c.split_at.ensures.front) ∙ sym c.is_zero.ensures ∙ c.if-not-is_zero.false in
    let rest : is_zero others ≡ true = ap is_zero (sym c.split_at.ensures.back) ∙ sym c.is_zero-2.ensures ∙ c.if-is_zero.true in
    let ending : foreign_ending s.is_full c.args.cause (is_zero block) (is_zero others) ≡ ended = rw (c.if-not-self.false, first, rest) refl in
    let read = foreign s.block_bytes s.is_full s.offset s.rest.now c.args.cause c.requires.some c.requires.cause ∙ ap (at_end s.offset) ending in
    let e = ends _ s.offset s.torn read in
    ((e.0, refl), e.1, refl)

pub returns : goal.returns
returns c =
    let s = c.args.self.now in
    let block = take s.block_bytes s.rest.now in
    let others = drop s.block_bytes s.rest.now in
    let first : is_zero block ≡ true = ap is_zero (sym c.split_at.ensures.front) ∙ sym c.is_zero.ensures ∙ c.if-not-is_zero.false in
    let rest : is_zero others ≡ false = ap is_zero (sym c.split_at.ensures.back) ∙ sym c.is_zero-2.ensures ∙ c.if-is_zero.false in
    let ending : foreign_ending s.is_full c.args.cause (is_zero block) (is_zero others) ≡ failed ForeignTail = rw (c.if-not-self.false, first, rest) refl in
    let read = foreign s.block_bytes s.is_full s.offset s.rest.now c.args.cause c.requires.some c.requires.cause ∙ ap (at_end s.offset) ending in
    let e = fails _ s.offset ForeignTail s.torn _ read c.new-2.ensures in
    (e.0, e.1, tt)
