use Rattle.zone_states.specs.declared.geometry.Geometry.{Geometry}
use Rattle.std.proofs.Common.{◌+◌, ◌++◌, ap, arith, drop, length, refl}
use Rattle.std.proofs.lemmas.List.{length-append, length-drop, length-take}
use Rattle.zone_translator.proofs.DiskLaws.{alike-join, alike-same}
use Rattle.zone_translator.proofs.KeepingLaws.{keeps_again, keeps_same}
use Rattle.disk_copies.proofs.Imports.{gives-more, gives-none, imported-end, imported-more, imported-none, imported-stop, imports-none}
use Rattle.disk_copies.proofs.importing.import_blocks.Goals as goal

pub returns-in_err-piece-clause-imports : goal.returns-in_err-piece-clause-imports
returns-in_err-piece-clause-imports g c clean = imports-none c.args.disk.now c.args.first (g.R.Read.remaining c.args.reader.now) c.from_residual.result c.from_residual.ensures.1

pub loop-piece-init : goal.loop-piece-init
loop-piece-init g c = record {
  within = λ some. absurd (omega (arith, some));
  gives = gives-none c.args.disk.now.drive.geometry.block (g.R.Read.remaining c.args.reader.now);
  imported = λ clean. imported-none c.args.disk.now c.args.first (g.R.Read.remaining c.args.reader.now);
  long = rw c.block_of.ensures.size at c.in_ok-piece.ensures;
  keeps = λ clean. keeps_same c.args.disk.now;
  alike = alike-same c.args.disk.now;
}

pub returns-in_err-count-clause-imports : goal.returns-in_err-count-clause-imports
returns-in_err-count-clause-imports g c clean =
    let was = c.import_piece-imported.ensures.alike.shape.trusted clean in
    let at = c.loop-piece in
    let left = g.R.Read.remaining in
    imported-stop c.args.disk.now at.disk c.import_piece-imported.new.disk c.args.first at.taken (c.args.first + at.taken) c.import_piece-imported.new.written (c.import_piece-imported.new.written + at.taken) (left c.args.reader.now) (left at.reader) (left c.import_piece-imported.new.reader) c.in_err-count.field-0.0
    c.from_residual-in_err-count.result c.from_residual-in_err-count.ensures.1 refl (omega arith) (at.invariant.imported was) (c.in_err-count.ensures.imports clean)

pub returns-in_err-count-clause-keeps : goal.returns-in_err-count-clause-keeps
returns-in_err-count-clause-keeps g c clean =
    keeps_again c.args.disk.now c.loop-piece.disk c.import_piece-imported.new.disk (c.loop-piece.invariant.keeps (c.import_piece-imported.ensures.alike.shape.trusted clean)) (c.import_piece-imported.ensures.keeps clean)

pub returns-in_err-count-clause-alike : goal.returns-in_err-count-clause-alike
returns-in_err-count-clause-alike g c = alike-join c.args.disk.now c.loop-piece.disk c.import_piece-imported.new.disk c.loop-piece.invariant.alike c.import_piece-imported.ensures.alike

pub returns-in-0-clause-imports : goal.returns-in-0-clause-imports
returns-in-0-clause-imports g c clean =
    let was = c.import_piece-imported.ensures.alike.shape.trusted clean in
    let at = c.loop-piece in
    let left = g.R.Read.remaining in
    imported-end c.args.disk.now at.disk c.import_piece-imported.new.disk c.args.first at.taken (c.args.first + at.taken) c.import_piece-imported.new.written (c.import_piece-imported.new.written + at.taken) (left c.args.reader.now) (left at.reader) (left c.import_piece-imported.new.reader) refl (omega arith) (at.invariant.imported was)
    (rw c.in-0.is at (c.in_ok-count.ensures.imports clean))

pub returns-in-0-clause-keeps : goal.returns-in-0-clause-keeps
returns-in-0-clause-keeps g c clean =
    keeps_again c.args.disk.now c.loop-piece.disk c.import_piece-imported.new.disk (c.loop-piece.invariant.keeps (c.import_piece-imported.ensures.alike.shape.trusted clean)) (c.import_piece-imported.ensures.keeps clean)

pub returns-in-0-clause-alike : goal.returns-in-0-clause-alike
returns-in-0-clause-alike g c = alike-join c.args.disk.now c.loop-piece.disk c.import_piece-imported.new.disk c.loop-piece.invariant.alike c.import_piece-imported.ensures.alike

pub loop-piece-preserved : goal.loop-piece-preserved
loop-piece-preserved g c =
    let at = c.loop-piece in
    let left = g.R.Read.remaining in
    let new = c.import_piece-imported.new.piece in
    record {
      within = λ some. omega (arith, c.in_ok-count.ensures.within, at.invariant.within, at.invariant.alike.size, some);
      gives = gives-more c.args.disk.now.drive.geometry.block at.disk.drive.geometry.block at.taken c.in_ok-count.count _ (left c.args.reader.now) (left at.reader) (left c.import_piece-imported.new.reader) (ap (λ (h : Geometry). h.block) at.invariant.alike.shape.geometry) refl at.invariant.gives c.in_ok-count.ensures.gives.0;
      imported = λ clean. imported-more c.args.disk.now at.disk c.import_piece-imported.new.disk c.args.first at.taken _ c.in_ok-count.count _ _ (left c.args.reader.now) (left at.reader) (left c.import_piece-imported.new.reader) refl refl
          c.import_piece-imported.ensures.alike.shape.geometry (at.invariant.imported (c.import_piece-imported.ensures.alike.shape.trusted clean)) (c.in_ok-count.ensures.imports clean);
      long = omega (
        arith,
        c.import_piece-imported.ensures.length,
        length-take at.piece.len (new ++ drop (length new) at.piece.items),
        length-append new (drop (length new) at.piece.items),
        length-drop (length new) at.piece.items,
        ap length c.deref_mut.ensures.value,
        c.deref_mut.ensures.len,
        at.invariant.long,
      );
      keeps = λ clean. keeps_again c.args.disk.now at.disk c.import_piece-imported.new.disk (at.invariant.keeps (c.import_piece-imported.ensures.alike.shape.trusted clean)) (c.import_piece-imported.ensures.keeps clean);
      alike = alike-join c.args.disk.now at.disk c.import_piece-imported.new.disk at.invariant.alike c.import_piece-imported.ensures.alike;
    }

pub returns-in-0-clause-gives : goal.returns-in-0-clause-gives
returns-in-0-clause-gives g c =
    let at = c.loop-piece in
    let left = g.R.Read.remaining in
    let last = rw c.in-0.is at c.in_ok-count.ensures.gives in
    (gives-more c.args.disk.now.drive.geometry.block at.disk.drive.geometry.block at.taken 0 at.taken (left c.args.reader.now) (left at.reader) (left c.import_piece-imported.new.reader) (ap (λ (h : Geometry). h.block) at.invariant.alike.shape.geometry) (omega arith) at.invariant.gives last.0, last.1 refl)
