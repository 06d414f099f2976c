use Rattle.std.proofs.Common.{rules, ◌≡◌, ◌++◌}
use Rattle.disk_files.specs.Reply.{ok_text, out_of_range_text}
use Rattle.zone_translator.specs.View.{disk_size, flat_of}
use Rattle.disk_runs.proofs.AnyLaws.{past_form, read_form}
use Rattle.disk_runs.proofs.CallLaws.{in-range, replies_past, replies_shown}
use Rattle.disk_runs.proofs.reads.read_blocks.Goals as goal

pub returns-then-is_past_end-clause-ok : goal.returns-then-is_past_end-clause-ok
returns-then-is_past_end-clause-ok g c = λ clean.
    let told : c.out_of_range_reply.new.out.items ≡ c.args.reply.now.items ++ out_of_range_text = search rules in
    replies_past (flat_of c.args.disk.now) c.blocks-2.result c.args.first c.args.blocks c.args.reply.now.items c.out_of_range_reply.new.out.items
    c.blocks-2.ensures.size c.if-is_past_end.ensures c.requires.empty told

pub returns-clause-ok : goal.returns-clause-ok
returns-clause-ok g c = λ clean.
    let shown = c.in_ok-show_blocks.ensures.ok clean in
    let told : c.ok_reply.new.out.items ≡ c.show_blocks.new.reply.items ++ ok_text = search rules in
    replies_shown (flat_of c.args.disk.now) (flat_of c.show_blocks.new.disk) c.blocks-2.result c.args.first c.args.blocks c.args.reply.now.items c.show_blocks.new.reply.items c.ok_reply.new.out.items
    c.blocks-2.ensures.size c.if-is_past_end.ensures shown.0 shown.1 c.requires.empty shown.2 told

pub show_blocks-requires-clause-in_range : goal.show_blocks-requires-clause-in_range
show_blocks-requires-clause-in_range g c =
    in-range c.blocks-2.result c.args.first c.args.blocks (disk_size c.args.disk.now) c.blocks-2.ensures.size c.if-is_past_end.ensures

pub returns-then-is_past_end-clause-form : goal.returns-then-is_past_end-clause-form
returns-then-is_past_end-clause-form g c =
    let told : c.out_of_range_reply.new.out.items ≡ c.args.reply.now.items ++ out_of_range_text = search rules in
    past_form c.args.disk.now.drive.geometry.block c.args.first c.args.blocks c.args.reply.now.items c.out_of_range_reply.new.out.items c.requires.empty told

pub returns-clause-form : goal.returns-clause-form
returns-clause-form g c =
    let told : c.ok_reply.new.out.items ≡ c.show_blocks.new.reply.items ++ ok_text = search rules in
    read_form c.args.disk.now.drive.geometry.block c.args.first c.args.blocks c.args.reply.now.items c.show_blocks.new.reply.items c.ok_reply.new.out.items c.requires.empty c.in_ok-show_blocks.ensures.form told
