use Rattle.std.proofs.Common.{◌≡◌, List, length, ap, refl, sym, subst, ◌∙◌}
use Rattle.drive_array.specs.Reserve.{batch_most}
use Rattle.zone_choice.specs.Agreement.{mounted}
use Rattle.zone_cleaner.proofs.EndLaws.{destination-is}
use Rattle.zone_cleaner.proofs.RestoreLaws.{length-put_back}
use Rattle.zone_choice.specs.Roles.{clean_undone}
use Rattle.zone_cleaner.specs.Undoing.{put_back}
use Rattle.zone_cleaner.proofs.SaneLaws.{sane-undone}
use Rattle.zone_cleaner.proofs.StepLaws.{undo-due}
use Rattle.zone_cleaner.proofs.UndoneLaws.{puts-back, tables_undone, undo_done, undo_fails}
use Rattle.logical_map.specs.declared.place.Place.{Place}
use Rattle.zone_choice.specs.declared.roles.Filling.{Filling}
use Rattle.zone_choice.specs.Tables.{TablesView, with_places}
use Rattle.zone_cleaner.specs.declared.moved.Moved.{Moved}
use Rattle.zone_cleaner.specs.Clean.{CleanView, places_without}
use Rattle.zone_cleaner.proofs.clean.Clean.undo.Goals as goal

pub returns-in-Err-clause-err : goal.returns-in-Err-clause-err
returns-in-Err-clause-err g c = λ clean.
    let old = g.D.Device.drive c.disk.inside.device in
    let at = (rw (← c.disk.view_is) at c.requires.at) (c.reset.ensures.obeys.trusted clean) in
    let f = destination-is at.clean_is.destination c.in-Some.destination (sym at.clean_is.second ∙ c.in-Some.ensures.some) in
    let e = c.in-Err.ensures in
    let halts = undo_fails old _ c.disk.inside.tables c.args.self.now _ c.in-Err.fault at.agrees at.clean_is (rw (c.start_of-start.ensures, c.geometry.ensures, ← c.disk.view_is, f) refl) e.gives e.kept e.leaves e.obeys e.taken in
    rw (c.command_fault.ensures.halt halts.halt, ← c.disk.view_is) halts.fails

pub returns-clause-ok : goal.returns-clause-ok
returns-clause-ok g c = λ clean.
    let old = g.D.Device.drive c.disk.inside.device in
    let at = (rw (← c.disk.view_is) at c.requires.at) (c.reset.ensures.obeys.trusted clean) in
    let f = destination-is at.clean_is.destination c.in-Some.destination (sym at.clean_is.second ∙ c.in-Some.ensures.some) in
    let e = c.in_default-reset.ensures in
    let tables = c.disk.inside.tables in
    let back : put_back tables.map.zone_size c.in-Some.destination.zone c.self.inside.moved.items tables.map.places ≡ places_without (mounted old tables) at.clean_is.destination.zone =
    ap (λ (d : Filling). put_back tables.map.zone_size d.zone c.self.inside.moved.items tables.map.places) (sym f)
    ∙ ap (λ (v : CleanView). put_back tables.map.zone_size at.clean_is.destination.zone v.moved tables.map.places) c.self.view_is
    ∙ puts-back (mounted old tables) c.args.self.now at.agrees at.clean_is in
    let after : c.undo_clean.new.self ≡ tables_undone (mounted old tables) at.clean_is.destination.zone =
    c.undo_clean.ensures ∙ ap (λ (s : TablesView). record s { roles = clean_undone s.roles })
    (c.put_back.ensures ∙ ap (λ (ms : List Moved). with_places c.disk.inside.tables (put_back c.disk.inside.tables.map.zone_size c.in-Some.destination.zone ms c.disk.inside.tables.map.places)) c.as_slice.ensures.value)
    ∙ ap (λ (all : List Place). record tables { map = record tables.map { places = all }; roles = clean_undone tables.roles }) back in
    rw (← c.disk.view_is) (undo_done old _ c.disk.inside.tables c.undo_clean.new.self c.args.self.now _ at.agrees at.clean_is (undo-due (batch_most old.geometry) c.disk.inside.tables c.args.self.now at.due) (rw (c.start_of-start.ensures, c.geometry.ensures, ← c.disk.view_is, f) refl) e.reset e.leaves e.obeys.lawful e.obeys.unfailing e.obeys.durable after)

pub returns-clause-stays : goal.returns-clause-stays
returns-clause-stays g c =
    let all = put_back c.disk.inside.tables.map.zone_size c.in-Some.destination.zone c.self.inside.moved.items c.disk.inside.tables.map.places in
    let long : length all ≡ length c.disk.inside.tables.map.places = length-put_back c.disk.inside.tables.map.zone_size c.in-Some.destination.zone c.self.inside.moved.items c.disk.inside.tables.map.places in
    let tables : c.undo_clean.new.self ≡ record c.disk.inside.tables { map = record c.disk.inside.tables.map { places = all }; roles = clean_undone c.disk.inside.tables.roles } = c.undo_clean.ensures ∙ ap (λ (s : TablesView). record s { roles = clean_undone s.roles })
    (c.put_back.ensures ∙ ap (λ (ms : List Moved). with_places c.disk.inside.tables (put_back c.disk.inside.tables.map.zone_size c.in-Some.destination.zone ms c.disk.inside.tables.map.places)) c.as_slice.ensures.value) in
    record {
      shape = rw (← c.disk.view_is) (record { geometry = c.reset.ensures.obeys.geometry; trusted = c.reset.ensures.obeys.trusted; unfailing = c.reset.ensures.obeys.unfailing });
      sane = rw tables (sane-undone (g.D.Device.drive c.disk.inside.device) _ c.disk.inside.tables all (record { geometry = c.reset.ensures.obeys.geometry; trusted = c.reset.ensures.obeys.trusted; unfailing = c.reset.ensures.obeys.unfailing }) long (rw (← c.disk.view_is) at c.requires.sane));
      size = rw (← c.disk.view_is, tables) long;
      given = rw (← c.disk.view_is, tables) refl;
      host = rw (← c.disk.view_is, tables) (λ none. none);
    }
