use Rattle.std.proofs.Common.{◌∙◌, ◌≡◌, ◌+◌, ◌-◌, Ok, ap, refl, rules, arith}
use Rattle.std.specs.Prelude.{IsTrue, length}
use Rattle.zone_states.specs.declared.geometry.Geometry.{Geometry}
use Rattle.zone_translator.specs.Read.{IsPiece}
use Rattle.zone_translator.specs.View.{disk_array, disk_places}
use Rattle.zone_translator.proofs.CallLaws.{done-known, goes-begun, has-data, none-stopped, read-cause, read-done, read-known, read-refused, read-unknown}
use Rattle.zone_translator.proofs.DiskLaws.{alike-join, alike-same, kept-refl, read-join, read-none}
use Rattle.zone_translator.proofs.JoinedLaws.{joins-all, joins-more, joins-none, piece-shown}
use Rattle.zone_translator.proofs.ReadLaws.{more-added}
use Rattle.zone_translator.proofs.disk.AnyDisk.read_joined.Goals as goal

-- ---- what is known before anything is done

pub returns-in_err-is_done-clause-answers : goal.returns-in_err-is_done-clause-answers
returns-in_err-is_done-clause-answers g c = λ clean. record {
  flat = read-known c.args.self.now c.args.first c.args.blocks c.from_residual.result _ (search rules) c.clear.ensures.items;
  untouched = λ known. refl;
  kept = kept-refl c.args.self.now (c.is_done.ensures.sound.mountable clean);
  durable = refl;
  cause = search rules;
  stops = λ serves stopped. none-stopped c.args.self.now c.args.first c.args.blocks c.from_residual.result (search rules) serves stopped;
}

pub returns-then-branch-clause-answers : goal.returns-then-branch-clause-answers
returns-then-branch-clause-answers g c = λ clean. record {
  flat = read-known c.args.self.now c.args.first c.args.blocks (Ok tt) _ (done-known c.args.self.now c.args.first c.args.blocks c.in_ok-is_done.field-0 c.in_ok-is_done.ensures.known c.if-branch.true) c.clear.ensures.items;
  untouched = λ known. refl;
  kept = kept-refl c.args.self.now (c.is_done.ensures.sound.mountable clean);
  durable = refl;
  cause = tt;
  stops = λ serves stopped. absurd (cc);
}

pub returns-then-branch-clause-joins : goal.returns-then-branch-clause-joins
returns-then-branch-clause-joins g c = λ clean.
    let none = c.in_ok-is_done.ensures.none c.if-branch.true in
    rw none (joins-all c.args.self.now c.args.self.now c.args.first 0 (joins-none c.args.self.now c.args.first 0))

-- ---- piece by piece

pub loop-done-init : goal.loop-done-init
loop-done-init g c = (λ clean. read-none c.args.self.now (c.is_done.ensures.sound.mountable clean), c.in_ok-is_done.ensures.serving c.if-branch.false, λ clean. c.clear.ensures.items, omega arith, λ clean. joins-none c.args.self.now c.args.first c.args.blocks, alike-same c.args.self.now, refl, omega arith, omega (arith, ap length c.clear.ensures.items))

pub read_some-requires-clause-in_range : goal.read_some-requires-clause-in_range
read_some-requires-clause-in_range g c =
    let range = c.in_ok-is_done.ensures.in_range c.if-branch.false in
    omega (arith, range, c.loop-done.invariant.5.size, c.loop-done.invariant.3)

pub loop-done-preserved : goal.loop-done-preserved
loop-done-preserved g c =
    let so_far = c.loop-done.invariant in
    let disk = c.args.self.now in
    let was : IsTrue c.read_some.new.self.drive.clean → IsTrue c.loop-done.self.drive.clean = c.read_some.ensures.alike.shape.trusted in
    let piece : IsTrue c.read_some.new.self.drive.clean → IsPiece disk.drive.geometry (disk_places disk) (c.args.first + c.loop-done.done) (c.args.blocks - c.loop-done.done) c.in-Ok.count = λ clean. rw ((so_far.0 (was clean)).places, (so_far.0 (was clean)).kept.kept.geometry) at (c.in-Ok.ensures.piece clean) in (
      λ clean. read-join disk c.loop-done.self c.read_some.new.self (so_far.0 (was clean)) (c.read_some.ensures.keeps clean),
      c.in-Ok.ensures.serving,
      λ clean. piece-shown (disk_array disk) c.args.first c.loop-done.done c.in-Ok.count (c.args.first + c.loop-done.done) _ _ refl (so_far.2 (was clean)) (rw (so_far.0 (was clean)).array at (c.in-Ok.ensures.ok clean)),
      omega (arith, so_far.3, c.in-Ok.ensures.some),
      λ clean. joins-more disk c.loop-done.self c.read_some.new.self c.args.first c.args.blocks c.loop-done.done _ _ c.in-Ok.count (so_far.4 (was clean)) refl refl (piece clean) c.read_some.ensures.completed,
      alike-join disk c.loop-done.self c.read_some.new.self so_far.5 c.read_some.ensures.alike,
      c.read_some.ensures.turns ∙ so_far.6,
      omega (arith, so_far.7, c.read_some.ensures.completed, c.in-Ok.ensures.some),
      more-added _ _ c.loop-done.done c.in-Ok.count _ _ (ap (λ (x : Geometry). x.block) so_far.5.shape.geometry) so_far.8 c.in-Ok.ensures.added,
    )

pub returns-in-Err-clause-answers : goal.returns-in-Err-clause-answers
returns-in-Err-clause-answers g c = λ clean.
    let so_far = c.loop-done.invariant in
    let was = c.read_some.ensures.alike.shape.trusted clean in
    let disk = c.args.self.now in
    let new = c.read_some.new.self in
    let none = goes-begun disk c.args.first c.args.blocks c.in_ok-is_done.field-0 c.in_ok-is_done.ensures.known c.if-branch.false in
    let keeps = read-join disk c.loop-done.self new (so_far.0 was) (c.read_some.ensures.keeps clean) in
    let lost = c.in-Err.ensures.err clean in
    record {
      flat = read-refused disk new c.args.first c.args.blocks c.in-Err.fault _ none c.clear-in-Err.ensures.items keeps.array keeps.size lost.status keeps.kept.kept.geometry lost.cause;
      untouched = read-unknown disk new c.args.first c.args.blocks none;
      kept = keeps.kept.kept;
      durable = keeps.kept.durable;
      cause = read-cause new c.in-Err.fault lost.cause;
      stops = λ serves stopped. has-data disk c.loop-done.self c.args.first c.args.blocks _ c.loop-done.done c.in-Err.fault _ refl refl (omega (arith, c.loop-done-test.true)) (so_far.0 was).places lost.stops stopped;
    }

pub returns-in-Err-clause-turns : goal.returns-in-Err-clause-turns
returns-in-Err-clause-turns g c = c.read_some.ensures.turns ∙ c.loop-done.invariant.6

pub returns-in-Err-clause-completed : goal.returns-in-Err-clause-completed
returns-in-Err-clause-completed g c = omega (arith, c.loop-done.invariant.7, c.read_some.ensures.completed, c.loop-done-test.true)

pub returns-clause-answers : goal.returns-clause-answers
returns-clause-answers g c = λ clean.
    let so_far = c.loop-done.invariant in
    let disk = c.args.self.now in
    let all : c.loop-done.done ≡ c.args.blocks = omega (arith, c.loop-done-test.false, so_far.3) in
    let none = goes-begun disk c.args.first c.args.blocks c.in_ok-is_done.field-0 c.in_ok-is_done.ensures.known c.if-branch.false in
    record {
      flat = read-done disk c.loop-done.self c.args.first c.args.blocks _ none (c.in_ok-is_done.ensures.serving c.if-branch.false) (rw all at (so_far.2 clean)) (so_far.0 clean).array (so_far.0 clean).size so_far.1 (so_far.0 clean).kept.kept.geometry;
      untouched = read-unknown disk c.loop-done.self c.args.first c.args.blocks none;
      kept = (so_far.0 clean).kept.kept;
      durable = (so_far.0 clean).kept.durable;
      cause = tt;
      stops = λ serves stopped. absurd (cc);
    }

pub returns-clause-turns : goal.returns-clause-turns
returns-clause-turns g c = c.loop-done.invariant.6

pub returns-clause-joins : goal.returns-clause-joins
returns-clause-joins g c = λ clean.
    let all : c.loop-done.done ≡ c.args.blocks = omega (arith, c.loop-done-test.false, c.loop-done.invariant.3) in
    joins-all c.args.self.now c.loop-done.self c.args.first c.args.blocks (rw all at (c.loop-done.invariant.4 clean))

pub returns-clause-completed : goal.returns-clause-completed
returns-clause-completed g c =
    let all : c.loop-done.done ≡ c.args.blocks = omega (arith, c.loop-done-test.false, c.loop-done.invariant.3) in
    omega (arith, c.loop-done.invariant.7, all)

-- ---- whatever the Reads returned

pub returns-then-branch-clause-whole : goal.returns-then-branch-clause-whole
returns-then-branch-clause-whole g c =
    let none = c.in_ok-is_done.ensures.none c.if-branch.true in
    rw none (omega (arith, ap length c.clear.ensures.items))

pub returns-clause-whole : goal.returns-clause-whole
returns-clause-whole g c =
    let all : c.loop-done.done ≡ c.args.blocks = omega (arith, c.loop-done-test.false, c.loop-done.invariant.3) in
    rw all at c.loop-done.invariant.8

pub returns-in_err-is_done-clause-alike : goal.returns-in_err-is_done-clause-alike
returns-in_err-is_done-clause-alike g c = alike-same c.args.self.now

pub returns-then-branch-clause-alike : goal.returns-then-branch-clause-alike
returns-then-branch-clause-alike g c = alike-same c.args.self.now

pub returns-in-Err-clause-alike : goal.returns-in-Err-clause-alike
returns-in-Err-clause-alike g c = alike-join c.args.self.now c.loop-done.self c.read_some.new.self c.loop-done.invariant.5 c.read_some.ensures.alike

pub returns-clause-alike : goal.returns-clause-alike
returns-clause-alike g c = c.loop-done.invariant.5
