-- what was passed isn't of the name
use Rattle.std.proofs.Common.{◌≡◌, drop}
use Rattle.dsv_outside.specs.FileTables.{file_named}
use Rattle.dsv_outside.proofs.file_table.find_file.Given as goal

abbrev pub invariant-files : goal.invariant-files
invariant-files l = file_named (drop l.known-index l.files) l.name ≡ file_named l.files l.name
