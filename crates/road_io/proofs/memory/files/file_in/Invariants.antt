use Rattle.std.proofs.Common.{◌≡◌, drop}
use Rattle.road_io.specs.FileNamed.{file_of, named_files}
use Rattle.road_io.proofs.memory.files.file_in.Given as goal

-- no file so far has the name
abbrev pub invariant-loop-file : goal.invariant-loop-file
invariant-loop-file l = file_of (named_files l.files) l.name ≡ file_of (named_files (drop l.file-index l.files)) l.name
