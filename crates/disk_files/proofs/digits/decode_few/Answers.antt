use Rattle.std.proofs.Common.{length}
use Rattle.disk_files.proofs.DataLaws.{bytes_of-Err, bytes_of-Ok}
use Rattle.disk_files.proofs.digits.decode_few.Goals as goal

pub returns-in-Ok-clause-decoded : goal.returns-in-Ok-clause-decoded
returns-in-Ok-clause-decoded c = λ _. bytes_of-Ok c.args.digits.now (length c.args.bytes.now) c.decode_to_slice.result c.decode_to_slice.new.out c.requires c.decode_to_slice.ensures.value c.in-Ok.is

pub returns-in-Err-clause-none : goal.returns-in-Err-clause-none
returns-in-Err-clause-none c = λ _. bytes_of-Err c.args.digits.now (length c.args.bytes.now) c.decode_to_slice.result c.decode_to_slice.new.out c.requires c.decode_to_slice.ensures.value c.in-Err.field-0 c.in-Err.is
