-- What is told of a disk that was mounted.
use Rattle.zone_translator.specs.View.{DiskView, disk_size}
use Rattle.job_drives.specs.declared.disk_size.DiskSize.{DiskSize}

-- the size of a disk, and the shape of its drive
abbrev pub size_of : DiskView → DiskSize
size_of disk = record { geometry = disk.drive.geometry; blocks = disk_size disk }
