use Rattle.std.proofs.Common.{◌≡◌, List, arith, ap, sym, subst, Option, ◌∙◌}
use Rattle.std.specs.Option.{option_map}
use Rattle.std.specs.Prelude.{Ok}
use Rattle.batch_log.specs.declared.header.Entry.{Entry}
use Rattle.zone_choice.specs.Changes.{built_for, fault_halt}
use Rattle.zone_cleaner.specs.Clean.{CleanView, forgotten}
use Rattle.zone_cleaner.specs.Host.{HostLeaves}
use Rattle.zone_cleaner.proofs.BesideLaws.{few-closes, host-halts, host-leaves}
use Rattle.zone_cleaner.proofs.cleaner.Cleaner.append_batch.Goals as goal

pub returns-in-Ok-clause-leaves : goal.returns-in-Ok-clause-leaves
returns-in-Ok-clause-leaves g c = λ clean.
    let was = c.append_batch.ensures.stays.trusted clean in
    let before = c.args.disk.now in
    let after = c.append_batch.new.disk in
    let b = built_for before c.args.batch.now in
    let is : c.forget.new.self ≡ option_map (forgotten b.heading.entries) c.args.self.now = c.forget.ensures ∙ ap (λ (es : List Entry). option_map (forgotten es) c.args.self.now) c.entries.ensures in
    subst (λ (clean : Option CleanView). HostLeaves before c.args.self.now c.args.host.zone b (Ok tt) after clean) (sym is) (host-leaves before after c.args.self.now c.args.host b (c.requires.cleaned was) c.requires.host (c.requires.can was) (c.in-Ok.ensures.leaves clean))

pub returns-in-Ok-clause-completed : goal.returns-in-Ok-clause-completed
returns-in-Ok-clause-completed g c = omega (arith, c.append_batch.ensures.completed, few-closes c.args.disk.now c.args.host.zone)

pub returns-in-Err-clause-leaves : goal.returns-in-Err-clause-leaves
returns-in-Err-clause-leaves g c = λ clean.
    let was = c.append_batch.ensures.stays.trusted clean in
    let leaves = c.in-Err.ensures.leaves clean in
    (leaves.0, host-halts c.args.disk.now c.append_batch.new.disk c.args.self.now c.args.host (built_for c.args.disk.now c.args.batch.now) (fault_halt c.in-Err.fault) (c.requires.cleaned was) c.requires.host (c.requires.can was) leaves.1)

pub returns-in-Err-clause-completed : goal.returns-in-Err-clause-completed
returns-in-Err-clause-completed g c = omega (arith, c.append_batch.ensures.completed, few-closes c.args.disk.now c.args.host.zone)
