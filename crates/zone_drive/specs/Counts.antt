-- What a drive counts.
use Rattle.std.specs.Prelude.{◌+◌, ◌^◌, nat_le, not, ◌&&◌, Result}
use Rattle.nvme_wire.specs.declared.command.Command.{Command}
use Rattle.nvme_wire.specs.declared.command.DecodeFault.{DecodeFault}
use Rattle.nvme_wire.specs.declared.status.Status.{Status}
use Rattle.drive_port.specs.Drive.{DriveState}
use Rattle.drive_port.specs.Step.{is_append, is_success, one_if}

-- a drive after one command more was completed with a status
abbrev pub counted : DriveState → Result Command DecodeFault → Status → DriveState
counted old command status = record old {
  completed = old.completed + 1;
  refused = old.refused + one_if (not (is_success status));
  appended = old.appended + one_if (is_append command && is_success status);
  stopped = nat_le (2 ^ 63) (old.completed + 1);
}
