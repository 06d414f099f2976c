use Rattle.std.proofs.Common.{◌++◌, ◌∙◌, List, ℕ, ap, refl, arith}
use Rattle.zone_states.specs.declared.geometry.Geometry.{Geometry}
use Rattle.zone_choice.proofs.ChangeLaws.{keeps-refl}
use Rattle.zone_translator.proofs.ReadLaws.{alone, at-data, place_kept, row_can, row_halts, row_shown, together, zeros-added, zeros_piece}
use Rattle.zone_translator.proofs.read.read_piece.Goals as goal

-- ---- a block without data

pub returns-in_default-clause-kept : goal.returns-in_default-clause-kept
returns-in_default-clause-kept g c = λ clean. keeps-refl c.args.disk.now.drive c.args.disk.now.tables (c.requires.agrees clean)

pub returns-in_default-clause-ok : goal.returns-in_default-clause-ok
returns-in_default-clause-ok g c = λ clean.
    let agrees = rw (← c.disk.view_is) at (c.requires.agrees clean) in
    let in_range = rw (← c.disk.view_is) at c.requires.in_range in
    let geometry = rw (← c.disk.view_is) at c.geometry.ensures in
    let zeros = zeros_piece (g.D.Device.drive c.disk.inside.device) c.disk.inside.tables c.args.block c.place_of.result agrees (omega (arith, in_range, c.requires.some)) c.place_of.ensures c.in_default.not-At in
    rw (← c.disk.view_is) (c.in_ok-extend_zeros.ensures ∙ rw (ap (λ (x : Geometry). x.block) geometry) (ap (λ (bytes : List ℕ). c.args.into.now.items ++ bytes) zeros))

pub returns-in_default-clause-piece : goal.returns-in_default-clause-piece
returns-in_default-clause-piece g c =
    rw (← c.disk.view_is) (alone _ c.disk.inside.tables.map.places c.args.block c.args.left c.place_of.result c.place_of.ensures c.in_default.not-At c.requires.some)

-- ---- neighbours

pub returns-in-Err-clause-kept : goal.returns-in-Err-clause-kept
returns-in-Err-clause-kept g c = λ clean.
    let agrees = (rw (← c.disk.view_is) at c.requires.agrees) (c.in-Err.ensures.obeys.trusted clean) in
    let in_range = rw (← c.disk.view_is) at c.requires.in_range in
    let row = rw (← c.disk.view_is) at c.neighbours-count.ensures.row in
    let can = row_can (g.D.Device.drive c.disk.inside.device) c.disk.inside.tables c.args.block c.in-At.address c.neighbours-count.result agrees c.neighbours-count.ensures.some (omega (arith, in_range, c.neighbours-count.ensures.few)) row in
    rw (← c.disk.view_is)
    (row_halts (g.D.Device.drive c.disk.inside.device) _ c.disk.inside.tables c.in-At.address c.neighbours-count.result _ c.in-Err.fault agrees can c.in-Err.ensures.gives.given c.in-Err.ensures.kept.contents c.in-Err.ensures.kept.closing c.in-Err.ensures.obeys c.in-Err.ensures.taken).kept

pub returns-in-Err-clause-err : goal.returns-in-Err-clause-err
returns-in-Err-clause-err g c = λ clean.
    let agrees = (rw (← c.disk.view_is) at c.requires.agrees) (c.in-Err.ensures.obeys.trusted clean) in
    let in_range = rw (← c.disk.view_is) at c.requires.in_range in
    let row = rw (← c.disk.view_is) at c.neighbours-count.ensures.row in
    let can = row_can (g.D.Device.drive c.disk.inside.device) c.disk.inside.tables c.args.block c.in-At.address c.neighbours-count.result agrees c.neighbours-count.ensures.some (omega (arith, in_range, c.neighbours-count.ensures.few)) row in
    let halts = row_halts (g.D.Device.drive c.disk.inside.device) _ c.disk.inside.tables c.in-At.address c.neighbours-count.result _ c.in-Err.fault agrees can c.in-Err.ensures.gives.given c.in-Err.ensures.kept.contents c.in-Err.ensures.kept.closing c.in-Err.ensures.obeys c.in-Err.ensures.taken in
    record { cause = rw (c.fault_of.ensures halts.halt) halts.cause; stops = λ stopped. at-data c.disk.inside.tables c.args.block c.in-At.address c.in-At.ensures }

pub returns-clause-ok : goal.returns-clause-ok
returns-clause-ok g c = λ clean.
    let agrees = (rw (← c.disk.view_is) at c.requires.agrees) (c.read_extending.ensures.obeys.trusted clean) in
    let in_range = rw (← c.disk.view_is) at c.requires.in_range in
    let row = rw (← c.disk.view_is) at c.neighbours-count.ensures.row in
    rw (← c.disk.view_is)
    (c.in_default-read_extending.ensures.shown.bytes clean ∙ ap (λ (bytes : List ℕ). c.args.into.now.items ++ bytes) (row_shown (g.D.Device.drive c.disk.inside.device) c.disk.inside.tables c.args.block c.in-At.address c.neighbours-count.result agrees c.neighbours-count.ensures.some (omega (arith, in_range, c.neighbours-count.ensures.few)) row))

pub returns-clause-piece : goal.returns-clause-piece
returns-clause-piece g c =
    let row = rw (← c.disk.view_is) at c.neighbours-count.ensures.row in
    let ends = rw (← c.disk.view_is) at c.neighbours-count.ensures.ends in
    rw (← c.disk.view_is) (together _ c.disk.inside.tables.map.places c.args.block c.args.left c.in-At.address c.neighbours-count.result c.in-At.ensures c.neighbours-count.ensures.some c.neighbours-count.ensures.few row ends)

pub returns-clause-kept : goal.returns-clause-kept
returns-clause-kept g c = λ clean.
    let agrees = (rw (← c.disk.view_is) at c.requires.agrees) (c.read_extending.ensures.obeys.trusted clean) in
    rw (← c.disk.view_is) (place_kept _ _ c.disk.inside.tables agrees c.in_default-read_extending.ensures.kept.contents c.in_default-read_extending.ensures.kept.closing c.in_default-read_extending.ensures.obeys.lawful c.in_default-read_extending.ensures.obeys.unfailing c.in_default-read_extending.ensures.obeys.durable c.in_default-read_extending.ensures.shown.counts)

-- ---- whatever the Read returned

pub returns-in_default-clause-added : goal.returns-in_default-clause-added
returns-in_default-clause-added g c =
    let geometry = rw (← c.disk.view_is) at c.geometry.ensures in
    rw (← c.disk.view_is) (zeros-added c.args.into.now.items _ c.geometry.result.block _ c.in_ok-extend_zeros.ensures (ap (λ (x : Geometry). x.block) geometry))

pub returns-clause-added : goal.returns-clause-added
returns-clause-added g c = rw (← c.disk.view_is) c.in_default-read_extending.ensures.shown.length_is

pub returns-in_default-clause-shape : goal.returns-in_default-clause-shape
returns-in_default-clause-shape g c = record { geometry = refl; trusted = λ t. t; unfailing = λ up. up }

pub returns-in-Err-clause-shape : goal.returns-in-Err-clause-shape
returns-in-Err-clause-shape g c = rw (← c.disk.view_is) (record { geometry = c.in-Err.ensures.obeys.geometry; trusted = c.in-Err.ensures.obeys.trusted; unfailing = c.in-Err.ensures.obeys.unfailing })

pub returns-clause-shape : goal.returns-clause-shape
returns-clause-shape g c = rw (← c.disk.view_is) (record { geometry = c.read_extending.ensures.obeys.geometry; trusted = c.read_extending.ensures.obeys.trusted; unfailing = c.read_extending.ensures.obeys.unfailing })
