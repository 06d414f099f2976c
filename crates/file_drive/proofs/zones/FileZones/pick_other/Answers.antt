use Rattle.std.proofs.Common.{rules, ◌≡◌, ◌∙◌, ℕ, ◌-◌, IsTrue, List, Vec, Global, refl, sym, subst, ap, inr, arith}
use Rattle.std.specs.List.{Contains}
use Rattle.std.specs.Int.{w64, to_le_bytes}
use Rattle.sqlite_disk.specs.Disk.{Holds}
use Rattle.zone_states.specs.Stored.{StoredZone}
use Rattle.file_drive.specs.InFile.{AllDurable, KeepsPromise, durable_zones, other_table}
use Rattle.file_drive.specs.Layout.{at_flushed}
use Rattle.file_drive.proofs.KeptLaws.{usable-owned}
use Rattle.file_drive.proofs.PartLaws.{word-held}
use Rattle.file_drive.proofs.PickLaws.{failed-all, failed-or-now, pick-places, picked, picked-all, picked-apart, picked-now, picked-only, picked-words}
use Rattle.file_drive.proofs.OutLaws.{given-up, out-durable, out-places, out-served, out-unsure, still-owned}
use Rattle.file_drive.proofs.ServedLaws.{durable-by, length-other, length-safe, promised-durable, served-promises}
use Rattle.file_drive.proofs.zones.FileZones.pick_other.Goals as goal

pub invariant_of-self : goal.invariant_of-self
invariant_of-self g c =
    let held = c.self.invariant in
    let same : g.F.FileBytes.seen c.write_word.new.self ≡ g.F.FileBytes.seen c.self.inside.file = search rules in
    let all = failed-all g.F.FileBytes g.S.System c.self.inside c.self.invariant (rw (← c.self.view_is) at c.requires) c.write_word.new.self c.write_word.ensures.others same c.write_word.ensures.leaves in
    (held.0, held.1, held.2, held.3, rw same held.4, held.5, λ e. absurd (cc e), all, held.8, λ e. absurd (cc e), usable-owned g.F.FileBytes g.S.System c.self.inside c.self.invariant _ c.if-self.false c.write_word.new.self c.write_word.ensures.usable)

pub returns-then-is_err-clause-durable : goal.returns-then-is_err-clause-durable
returns-then-is_err-clause-durable g c =
    let same : g.F.FileBytes.seen c.write_word.new.self ≡ g.F.FileBytes.seen c.self.inside.file = search rules in
    rw (← c.self.view_is) (failed-or-now g.F.FileBytes g.S.System c.self.inside c.self.invariant (rw (← c.self.view_is) at c.requires) c.write_word.new.self c.write_word.ensures.others same)

pub sync_file-requires-clause-named : goal.sync_file-requires-clause-named
sync_file-requires-clause-named g c =
    let inside = c.self.inside in
    let held = c.self.invariant in
    let put : Holds (g.F.FileBytes.seen c.write_word.new.self) at_flushed (to_le_bytes w64 (5 - inside.flushed - 2)) = search rules in
    let next = picked g.F.FileBytes g.S.System c.self.inside c.self.invariant (rw (← c.self.view_is) at c.requires) c.write_word.new.self c.write_word.ensures.others (word-held (g.F.FileBytes.seen c.write_word.new.self) at_flushed (5 - inside.flushed - 2) (omega arith) put) in
    next.boot_is

pub invariant_of-self-in-Err : goal.invariant_of-self-in-Err
invariant_of-self-in-Err g c =
    let inside = c.self.inside in
    let held = c.self.invariant in
    let put : Holds (g.F.FileBytes.seen c.write_word.new.self) at_flushed (to_le_bytes w64 (5 - inside.flushed - 2)) = search rules in
    let next = picked g.F.FileBytes g.S.System c.self.inside c.self.invariant (rw (← c.self.view_is) at c.requires) c.write_word.new.self c.write_word.ensures.others (word-held (g.F.FileBytes.seen c.write_word.new.self) at_flushed (5 - inside.flushed - 2) (omega arith) put) in
    let safe = picked-words g.F.FileBytes g.S.System c.self.inside c.self.invariant (rw (← c.self.view_is) at c.requires) c.write_word.new.self c.write_word.ensures.others in
    let same = out-unsure c.self.inside.geometry (g.F.FileBytes.seen c.write_word.new.self) (g.F.FileBytes.seen c.sync_file.new.file) c.sync_file.ensures.beside c.swap.new.x.items c.swap.new.y.items
    (rw c.swap.ensures.x_after (length-other c.self.inside.geometry (g.F.FileBytes.seen c.self.inside.file) c.self.inside.entries.items c.self.inside.live c.self.inside.flushed _ held.4)) (rw c.swap.ensures.x_after safe.within)
    (rw c.swap.ensures.y_after (length-safe c.self.inside.geometry (g.F.FileBytes.seen c.self.inside.file) c.self.inside.entries.items c.self.inside.live c.self.inside.flushed _ held.4)) (rw c.swap.ensures.y_after held.5.within) in
    let before = picked-all g.F.FileBytes g.S.System c.self.inside c.self.invariant (rw (← c.self.view_is) at c.requires) c.write_word.new.self c.write_word.ensures.others c.write_word.new.self c.swap.new.x.items c.swap.new.y.items refl (ap (λ (v : Vec ℕ Global). v.items) c.swap.ensures.x_after) (ap (λ (v : Vec ℕ Global). v.items) c.swap.ensures.y_after) c.write_word.ensures.leaves (λ bytes may. may) in
    let served = out-served inside.geometry (g.F.FileBytes.seen c.write_word.new.self) (g.F.FileBytes.seen c.sync_file.new.file) c.sync_file.ensures.beside c.sync_file.new.named inside.entries.items inside.live (other_table inside.flushed) _ c.sync_file.ensures.named next in
    let all = out-durable inside.geometry g.F.FileBytes.may_leave g.F.FileBytes.may_leave c.write_word.new.self c.sync_file.new.file _ _ same c.sync_file.ensures.leaves before in
    let owned = given-up g.F.FileBytes.may_leave g.F.FileBytes.may_show g.F.FileBytes.is_usable g.F.FileBytes.is_stuck inside.geometry g.S.System.boot c.sync_file.new.named _ c.write_word.new.self c.sync_file.new.file _ same c.in-Err.ensures.usable c.in-Err.ensures.out before in
    (held.0, held.1, held.2, held.3, rw (c.swap.ensures.x_after, c.swap.ensures.y_after) served, rw c.swap.ensures.x_after safe, λ e. absurd (cc e), all, rw c.swap.ensures.x_after (picked-apart g.F.FileBytes g.S.System c.self.inside c.self.invariant (rw (← c.self.view_is) at c.requires) c.write_word.new.self c.write_word.ensures.others), λ e. absurd (cc e), owned)

pub returns-in-Err-clause-zones : goal.returns-in-Err-clause-zones
returns-in-Err-clause-zones g c = rw (← c.self.view_is) (λ place written low few.
    out-places c.self.inside.geometry (g.F.FileBytes.seen c.write_word.new.self) (g.F.FileBytes.seen c.sync_file.new.file) c.sync_file.ensures.beside place written low few
    ∙ pick-places g.F.FileBytes g.S.System c.self.inside c.self.invariant (rw (← c.self.view_is) at c.requires) c.write_word.new.self c.write_word.ensures.others place written low few)

pub returns-in-Err-clause-durable : goal.returns-in-Err-clause-durable
returns-in-Err-clause-durable g c =
    let held = c.self.invariant in
    let safe = picked-words g.F.FileBytes g.S.System c.self.inside c.self.invariant (rw (← c.self.view_is) at c.requires) c.write_word.new.self c.write_word.ensures.others in
    let same = out-unsure c.self.inside.geometry (g.F.FileBytes.seen c.write_word.new.self) (g.F.FileBytes.seen c.sync_file.new.file) c.sync_file.ensures.beside c.swap.new.x.items c.swap.new.y.items
    (rw c.swap.ensures.x_after (length-other c.self.inside.geometry (g.F.FileBytes.seen c.self.inside.file) c.self.inside.entries.items c.self.inside.live c.self.inside.flushed _ held.4)) (rw c.swap.ensures.x_after safe.within)
    (rw c.swap.ensures.y_after (length-safe c.self.inside.geometry (g.F.FileBytes.seen c.self.inside.file) c.self.inside.entries.items c.self.inside.live c.self.inside.flushed _ held.4)) (rw c.swap.ensures.y_after held.5.within) in
    let now = picked-now g.F.FileBytes g.S.System c.self.inside c.self.invariant (rw (← c.self.view_is) at c.requires) c.write_word.new.self c.write_word.ensures.others c.write_word.new.self c.swap.new.x.items c.swap.new.y.items refl (ap (λ (v : Vec ℕ Global). v.items) c.swap.ensures.x_after) (ap (λ (v : Vec ℕ Global). v.items) c.swap.ensures.y_after) in
    rw (← c.self.view_is) (λ found left. now found (subst (λ (d : List (List StoredZone)). Contains d found) same left))

pub invariant_of-self-in-Ok : goal.invariant_of-self-in-Ok
invariant_of-self-in-Ok g c =
    let inside = c.self.inside in
    let held = c.self.invariant in
    let put : Holds (g.F.FileBytes.seen c.write_word.new.self) at_flushed (to_le_bytes w64 (5 - inside.flushed - 2)) = search rules in
    let next = picked g.F.FileBytes g.S.System c.self.inside c.self.invariant (rw (← c.self.view_is) at c.requires) c.write_word.new.self c.write_word.ensures.others (word-held (g.F.FileBytes.seen c.write_word.new.self) at_flushed (5 - inside.flushed - 2) (omega arith) put) in
    let safe = picked-words g.F.FileBytes g.S.System c.self.inside c.self.invariant (rw (← c.self.view_is) at c.requires) c.write_word.new.self c.write_word.ensures.others in
    let shown = c.in-Ok.ensures.seen in
    let promises = served-promises inside.geometry (g.F.FileBytes.seen c.write_word.new.self) inside.entries.items inside.live (other_table inside.flushed) _ next in
    let is_durable : durable_zones inside.geometry (g.F.FileBytes.seen c.sync_file.new.file) c.swap.new.x.items c.swap.new.y.items inside.unsure ≡ durable_zones inside.geometry (g.F.FileBytes.seen c.sync_file.new.file) inside.other.items inside.safe.items inside.unsure =
    durable-by inside.geometry _ _ _ _ _ _ inside.unsure refl (ap (λ (v : Vec ℕ Global). v.items) c.swap.ensures.x_after) (ap (λ (v : Vec ℕ Global). v.items) c.swap.ensures.y_after) in
    let keeps : KeepsPromise g.F.FileBytes.seen g.F.FileBytes.may_leave inside.geometry c.sync_file.new.file (other_table inside.flushed) inside.other.items =
    rw shown (λ bytes may. rw (c.in-Ok.ensures.durable bytes may) promises) in
    let usable : IsTrue (g.F.FileBytes.is_usable c.sync_file.new.file) = search rules in
    let owned = still-owned g.F.FileBytes.may_leave g.F.FileBytes.may_show g.F.FileBytes.is_usable g.F.FileBytes.is_stuck inside.geometry g.S.System.boot c.sync_file.new.named _ c.sync_file.new.file usable
    (c.in-Ok.ensures.same ∙ held.10.owned (held.6 c.if-self.false).0) in (
      held.0,
      held.1,
      held.2,
      held.3,
      rw (shown, c.in-Ok.ensures.same, c.swap.ensures.x_after, c.swap.ensures.y_after) next,
      rw c.swap.ensures.x_after safe,
      λ e. (usable, rw c.swap.ensures.x_after keeps),
      subst (λ (d : List (List StoredZone)). AllDurable g.F.FileBytes.may_leave inside.geometry c.sync_file.new.file d) (sym is_durable)
          (promised-durable inside.geometry g.F.FileBytes.seen g.F.FileBytes.may_leave c.sync_file.new.file (other_table inside.flushed) inside.other.items inside.safe.items inside.unsure safe keeps),
      rw c.swap.ensures.x_after (picked-apart g.F.FileBytes g.S.System c.self.inside c.self.invariant (rw (← c.self.view_is) at c.requires) c.write_word.new.self c.write_word.ensures.others),
      held.9,
      owned,
    )

pub returns-in-Ok-clause-zones : goal.returns-in-Ok-clause-zones
returns-in-Ok-clause-zones g c = rw (← c.self.view_is, c.in-Ok.ensures.seen) (pick-places g.F.FileBytes g.S.System c.self.inside c.self.invariant (rw (← c.self.view_is) at c.requires) c.write_word.new.self c.write_word.ensures.others)

pub returns-in-Ok-clause-just : goal.returns-in-Ok-clause-just
returns-in-Ok-clause-just g c = rw (← c.self.view_is) (picked-only g.F.FileBytes g.S.System c.self.inside c.self.invariant (rw (← c.self.view_is) at c.requires) c.write_word.new.self c.write_word.ensures.others c.sync_file.new.file c.swap.new.x.items c.swap.new.y.items c.in-Ok.ensures.seen (ap (λ (v : Vec ℕ Global). v.items) c.swap.ensures.x_after) (ap (λ (v : Vec ℕ Global). v.items) c.swap.ensures.y_after) c.if-self.false)

pub returns-in-Ok-clause-durable : goal.returns-in-Ok-clause-durable
returns-in-Ok-clause-durable g c = λ found left. inr (rw (← c.self.view_is) (picked-only g.F.FileBytes g.S.System c.self.inside c.self.invariant (rw (← c.self.view_is) at c.requires) c.write_word.new.self c.write_word.ensures.others c.sync_file.new.file c.swap.new.x.items c.swap.new.y.items c.in-Ok.ensures.seen (ap (λ (v : Vec ℕ Global). v.items) c.swap.ensures.x_after) (ap (λ (v : Vec ℕ Global). v.items) c.swap.ensures.y_after) c.if-self.false found left))
