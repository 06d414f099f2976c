use Rattle.std.proofs.Common.{◌∙◌, ◌≡◌, Ok, ap, refl, rules, arith}
use Rattle.std.specs.Prelude.{IsTrue, length}
use Rattle.zone_states.specs.declared.geometry.Geometry.{Geometry}
use Rattle.zone_translator.specs.View.{disk_array}
use Rattle.zone_translator.proofs.CallLaws.{done-known, goes-begun, has-data, none-stopped, read-cause, read-done, read-known, read-refused, read-unknown, shown-more}
use Rattle.zone_translator.proofs.DiskLaws.{alike-join, alike-same, kept-refl, read-join, read-none}
use Rattle.zone_translator.proofs.ReadLaws.{more-added}
use Rattle.zone_translator.proofs.disk.AnyDisk.read.Goals as goal

-- ---- what is known before anything is done

pub returns-in_err-is_done-clause-answers : goal.returns-in_err-is_done-clause-answers
returns-in_err-is_done-clause-answers g c = λ clean. record {
  flat = read-known c.args.self.now c.args.first c.args.blocks c.from_residual.result _ (search rules) c.clear.ensures.items;
  untouched = λ known. refl;
  kept = kept-refl c.args.self.now (c.is_done.ensures.sound.mountable clean);
  durable = refl;
  cause = search rules;
  stops = λ serves stopped. none-stopped c.args.self.now c.args.first c.args.blocks c.from_residual.result (search rules) serves stopped;
}

pub returns-then-branch-clause-answers : goal.returns-then-branch-clause-answers
returns-then-branch-clause-answers g c = λ clean. record {
  flat = read-known c.args.self.now c.args.first c.args.blocks (Ok tt) _ (done-known c.args.self.now c.args.first c.args.blocks c.in_ok-is_done.field-0 c.in_ok-is_done.ensures.known c.if-branch.true) c.clear.ensures.items;
  untouched = λ known. refl;
  kept = kept-refl c.args.self.now (c.is_done.ensures.sound.mountable clean);
  durable = refl;
  cause = tt;
  stops = λ serves stopped. absurd (cc);
}

-- ---- block by block

pub loop-i-init : goal.loop-i-init
loop-i-init g c = (λ clean. read-none c.args.self.now (c.is_done.ensures.sound.mountable clean), c.in_ok-is_done.ensures.serving c.if-branch.false, λ clean. c.clear.ensures.items, omega arith, alike-same c.args.self.now, refl, omega (arith, ap length c.clear.ensures.items))

pub read_one-requires-clause-in_range : goal.read_one-requires-clause-in_range
read_one-requires-clause-in_range g c =
    let range = c.in_ok-is_done.ensures.in_range c.if-branch.false in
    omega (arith, range, c.loop-i.invariant.4.size)

pub loop-i-preserved : goal.loop-i-preserved
loop-i-preserved g c =
    let so_far = c.loop-i.invariant in
    let range = c.in_ok-is_done.ensures.in_range c.if-branch.false in
    let was : IsTrue c.read_one.new.self.drive.clean → IsTrue c.loop-i.self.drive.clean = c.read_one.ensures.alike.shape.trusted in
    let first : IsTrue c.loop-i.self.drive.clean → IsTrue c.args.self.now.drive.clean = so_far.4.shape.trusted in (
      λ clean. read-join c.args.self.now c.loop-i.self c.read_one.new.self (so_far.0 (was clean)) (c.read_one.ensures.keeps clean),
      c.in_default.ensures.serving,
      λ clean. shown-more (disk_array c.args.self.now) c.args.first c.loop-i.i _ _ _ refl (omega (arith, range, c.in_ok-is_done.ensures.long (first (was clean)) c.if-branch.false)) (so_far.2 (was clean)) (rw (so_far.0 (was clean)).array at (c.in_default.ensures.ok clean)),
      omega (arith, so_far.3, c.read_one.ensures.completed),
      alike-join c.args.self.now c.loop-i.self c.read_one.new.self so_far.4 c.read_one.ensures.alike,
      c.read_one.ensures.turns ∙ so_far.5,
      more-added _ _ c.loop-i.i 1 _ _ (ap (λ (x : Geometry). x.block) so_far.4.shape.geometry) so_far.6 c.in_default.ensures.added,
    )

pub returns-in-Err-clause-answers : goal.returns-in-Err-clause-answers
returns-in-Err-clause-answers g c = λ clean.
    let so_far = c.loop-i.invariant in
    let was = c.read_one.ensures.alike.shape.trusted clean in
    let disk = c.args.self.now in
    let new = c.read_one.new.self in
    let none = goes-begun disk c.args.first c.args.blocks c.in_ok-is_done.field-0 c.in_ok-is_done.ensures.known c.if-branch.false in
    let keeps = read-join disk c.loop-i.self new (so_far.0 was) (c.read_one.ensures.keeps clean) in
    let lost = c.in-Err.ensures.err clean in
    record {
      flat = read-refused disk new c.args.first c.args.blocks c.in-Err.fault _ none c.clear-in-Err.ensures.items keeps.array keeps.size lost.status keeps.kept.kept.geometry lost.cause;
      untouched = read-unknown disk new c.args.first c.args.blocks none;
      kept = keeps.kept.kept;
      durable = keeps.kept.durable;
      cause = read-cause new c.in-Err.fault lost.cause;
      stops = λ serves stopped. has-data disk c.loop-i.self c.args.first c.args.blocks _ c.loop-i.i c.in-Err.fault _ refl refl (omega (arith, c.loop-i-test.true)) (so_far.0 was).places lost.stops stopped;
    }

pub returns-in-Err-clause-turns : goal.returns-in-Err-clause-turns
returns-in-Err-clause-turns g c = c.read_one.ensures.turns ∙ c.loop-i.invariant.5

pub returns-in-Err-clause-completed : goal.returns-in-Err-clause-completed
returns-in-Err-clause-completed g c = omega (arith, c.loop-i.invariant.3, c.read_one.ensures.completed, c.loop-i-test.true)

pub returns-clause-answers : goal.returns-clause-answers
returns-clause-answers g c = λ clean.
    let so_far = c.loop-i.invariant in
    let disk = c.args.self.now in
    let all : c.loop-i.i ≡ c.args.blocks = omega (arith, c.loop-i-test.false, c.loop-i.auto.i-end) in
    let none = goes-begun disk c.args.first c.args.blocks c.in_ok-is_done.field-0 c.in_ok-is_done.ensures.known c.if-branch.false in
    record {
      flat = read-done disk c.loop-i.self c.args.first c.args.blocks _ none (c.in_ok-is_done.ensures.serving c.if-branch.false) (rw all at (so_far.2 clean)) (so_far.0 clean).array (so_far.0 clean).size so_far.1 (so_far.0 clean).kept.kept.geometry;
      untouched = read-unknown disk c.loop-i.self c.args.first c.args.blocks none;
      kept = (so_far.0 clean).kept.kept;
      durable = (so_far.0 clean).kept.durable;
      cause = tt;
      stops = λ serves stopped. absurd (cc);
    }

pub returns-clause-turns : goal.returns-clause-turns
returns-clause-turns g c = c.loop-i.invariant.5

pub returns-clause-completed : goal.returns-clause-completed
returns-clause-completed g c = let all : c.loop-i.i ≡ c.args.blocks = omega (arith, c.loop-i-test.false, c.loop-i.auto.i-end) in omega (arith, c.loop-i.invariant.3, all)

-- ---- whatever the Reads returned

pub returns-then-branch-clause-whole : goal.returns-then-branch-clause-whole
returns-then-branch-clause-whole g c =
    let none = c.in_ok-is_done.ensures.none c.if-branch.true in
    rw none (omega (arith, ap length c.clear.ensures.items))

pub returns-clause-whole : goal.returns-clause-whole
returns-clause-whole g c =
    let all : c.loop-i.i ≡ c.args.blocks = omega (arith, c.loop-i-test.false, c.loop-i.auto.i-end) in
    rw all at c.loop-i.invariant.6

pub returns-in_err-is_done-clause-alike : goal.returns-in_err-is_done-clause-alike
returns-in_err-is_done-clause-alike g c = alike-same c.args.self.now

pub returns-then-branch-clause-alike : goal.returns-then-branch-clause-alike
returns-then-branch-clause-alike g c = alike-same c.args.self.now

pub returns-in-Err-clause-alike : goal.returns-in-Err-clause-alike
returns-in-Err-clause-alike g c = alike-join c.args.self.now c.loop-i.self c.read_one.new.self c.loop-i.invariant.4 c.read_one.ensures.alike

pub returns-clause-alike : goal.returns-clause-alike
returns-clause-alike g c = c.loop-i.invariant.4
