use Rattle.std.proofs.Common.{sym, ◌∙◌}
use Rattle.zone_translator.proofs.DiskLaws.{alike-sent, sane-sent, turns-same, holds-agrees, holds-kept, holds-read, places-on, read-keeps, read-stops, refused-status}
use Rattle.zone_translator.proofs.disk.AnyDisk.read_some.Goals as goal

pub invariant_of-self : goal.invariant_of-self
invariant_of-self g c = record {
  sane = sane-sent c.self.inside.mounted c.read_piece.new.disk c.read_piece.ensures.shape c.read_piece.ensures.tables c.self.invariant.sane;
  when = λ clean.
      let was = c.read_piece.ensures.shape.trusted clean in
      let serving = rw (← c.self.view_is) at c.requires.serving in
      rw serving (holds-kept c.self.inside.mounted c.read_piece.new.disk c.self.inside.cleaner (c.self.invariant.when was).reserve (holds-agrees c.self.inside.mounted c.self.inside.cleaner c.self.inside.status serving (c.self.invariant.when was)) (c.read_piece.ensures.kept clean));
}

pub invariant_of-self-in-Err : goal.invariant_of-self-in-Err
invariant_of-self-in-Err g c = record {
  sane = sane-sent c.self.inside.mounted c.read_piece.new.disk c.read_piece.ensures.shape c.read_piece.ensures.tables c.self.invariant.sane;
  when = λ clean.
      let was = c.read_piece.ensures.shape.trusted clean in
      let serving = rw (← c.self.view_is) at c.requires.serving in
      let serves = holds-agrees c.self.inside.mounted c.self.inside.cleaner c.self.inside.status serving (c.self.invariant.when was) in
      rw c.status_of-self-inside.ensures (holds-read c.self.inside.mounted c.read_piece.new.disk c.self.inside.cleaner c.in-Err.fault (c.self.invariant.when was).reserve serves (c.read_piece.ensures.kept clean) (c.in-Err.ensures.err clean).cause);
}

pub returns-in-Ok-clause-keeps : goal.returns-in-Ok-clause-keeps
returns-in-Ok-clause-keeps g c = λ clean.
    let was = c.read_piece.ensures.shape.trusted clean in
    let serves = holds-agrees c.self.inside.mounted c.self.inside.cleaner c.self.inside.status (rw (← c.self.view_is) at c.requires.serving) (c.self.invariant.when was) in
    rw (← c.self.view_is) (read-keeps c.self.inside.mounted c.read_piece.new.disk c.self.inside.cleaner c.self.inside.status c.self.inside.status (λ e. e) serves c.read_piece.ensures.tables (c.read_piece.ensures.kept clean))

pub returns-in-Err-clause-keeps : goal.returns-in-Err-clause-keeps
returns-in-Err-clause-keeps g c = λ clean.
    let was = c.read_piece.ensures.shape.trusted clean in
    let serves = holds-agrees c.self.inside.mounted c.self.inside.cleaner c.self.inside.status (rw (← c.self.view_is) at c.requires.serving) (c.self.invariant.when was) in
    rw (← c.self.view_is) (read-keeps c.self.inside.mounted c.read_piece.new.disk c.self.inside.cleaner c.self.inside.status c.status_of-self-inside.result (λ e. refused-status c.in-Err.fault c.self.inside.status (sym c.status_of-self-inside.ensures ∙ e)) serves c.read_piece.ensures.tables (c.read_piece.ensures.kept clean))

pub returns-in-Err-clause-err : goal.returns-in-Err-clause-err
returns-in-Err-clause-err g c = λ clean.
    let was = c.read_piece.ensures.shape.trusted clean in
    let serves = holds-agrees c.self.inside.mounted c.self.inside.cleaner c.self.inside.status (rw (← c.self.view_is) at c.requires.serving) (c.self.invariant.when was) in
    rw (← c.self.view_is) (read-stops c.self.inside.mounted c.read_piece.new.disk c.self.inside.cleaner c.self.inside.status c.status_of-self-inside.result c.args.block c.in-Err.fault c.status_of-self-inside.ensures serves c.read_piece.ensures.tables (c.in-Err.ensures.err clean))

pub returns-in-Ok-clause-piece : goal.returns-in-Ok-clause-piece
returns-in-Ok-clause-piece g c = λ clean.
    let was = c.read_piece.ensures.shape.trusted clean in
    let serves = holds-agrees c.self.inside.mounted c.self.inside.cleaner c.self.inside.status (rw (← c.self.view_is) at c.requires.serving) (c.self.invariant.when was) in
    rw (← c.self.view_is) (rw (← places-on c.self.inside.mounted c.self.inside.cleaner c.self.inside.status serves) c.in-Ok.ensures.piece)

-- ---- whatever the Read returned

pub returns-in-Ok-clause-added : goal.returns-in-Ok-clause-added
returns-in-Ok-clause-added g c = rw (← c.self.view_is) c.in-Ok.ensures.added

pub returns-in-Ok-clause-alike : goal.returns-in-Ok-clause-alike
returns-in-Ok-clause-alike g c = rw (← c.self.view_is) (alike-sent c.self.inside.mounted c.read_piece.new.disk c.self.inside.cleaner c.self.inside.status c.self.inside.status c.read_piece.ensures.shape c.read_piece.ensures.tables)

pub returns-in-Ok-clause-turns : goal.returns-in-Ok-clause-turns
returns-in-Ok-clause-turns g c = rw (← c.self.view_is) (turns-same c.self.inside.mounted c.read_piece.new.disk c.self.inside.cleaner c.self.inside.status c.self.inside.status c.read_piece.ensures.tables c.read_piece.ensures.shape.geometry)

pub returns-in-Err-clause-alike : goal.returns-in-Err-clause-alike
returns-in-Err-clause-alike g c = rw (← c.self.view_is) (alike-sent c.self.inside.mounted c.read_piece.new.disk c.self.inside.cleaner c.self.inside.status c.status_of-self-inside.result c.read_piece.ensures.shape c.read_piece.ensures.tables)

pub returns-in-Err-clause-turns : goal.returns-in-Err-clause-turns
returns-in-Err-clause-turns g c = rw (← c.self.view_is) (turns-same c.self.inside.mounted c.read_piece.new.disk c.self.inside.cleaner c.self.inside.status c.status_of-self-inside.result c.read_piece.ensures.tables c.read_piece.ensures.shape.geometry)

pub read_piece-requires-clause-sane : goal.read_piece-requires-clause-sane
read_piece-requires-clause-sane g c = c.self.invariant.sane

pub read_piece-requires-clause-agrees : goal.read_piece-requires-clause-agrees
read_piece-requires-clause-agrees g c = λ was. (holds-agrees c.self.inside.mounted c.self.inside.cleaner c.self.inside.status (rw (← c.self.view_is) at c.requires.serving) (c.self.invariant.when was)).0
