-- What answering lines does to files and to an output.
use Rattle.std.specs.Prelude.{◌≡◌, ℕ, List, [], ◌∷◌, ◌++◌}
use Rattle.std.specs.Io.KnownBytes.{Appends}
use Rattle.road_io.specs.FailedNames.{AppendsNames}
use Rattle.road_io.specs.Faults.{FilesRose, OutputRose}
use Rattle.road_io.specs.Outside.{Outside}
use Rattle.road_io.specs.Told.{AppendsFront}
use Rattle.road_io.specs.Views.{FilesView, OutputView}
use Rattle.line_session.specs.Told.{Telling}

-- files and an output: the outside but for the input
pub record Sides : Type 0 where
  pub files : FilesView
  pub output : OutputView

abbrev pub sides : FilesView → OutputView → Sides
sides files output = record { files = files; output = output }

abbrev pub sides_of : Outside → Sides
sides_of o = sides o.files o.output

-- files were read by these names, in order, and none of the reads failed
pub record ReadsAll (before after : FilesView) (names : List (List ℕ)) : Type 0 where
  pub reads : AppendsNames before.reads after.reads names
  pub failed : AppendsNames before.failed_names after.failed_names []
  pub content : after.content ≡ before.content
  pub steady : after.faults ≡ before.faults

-- files were read by these names, in order; the file of this name, the last of them, could not be read
pub record ReadsUpTo (before after : FilesView) (names : List (List ℕ)) (name : List ℕ) : Type 0 where
  pub reads : AppendsNames before.reads after.reads names
  pub failed : AppendsNames before.failed_names after.failed_names (name ∷ [])
  pub rose : FilesRose before after

-- what is told was put, and its files were read, and nothing else; nothing failed
pub record Grows (told : Telling) (before after : Sides) : Type 0 where
  pub put : Appends before.output.written after.output.written told.text
  pub read : ReadsAll before.files after.files told.reads
  pub steady : after.output.faults ≡ before.output.faults

-- the output failed: a proper front of what is told was put, and its files were read
pub record GrowsFront (told : Telling) (before after : Sides) : Type 0 where
  pub put : AppendsFront before.output.written after.output.written told.text
  pub read : ReadsAll before.files after.files told.reads
  pub rose : OutputRose before.output after.output

-- the file of this name could not be read: what is told was put, and nothing else; its files were read, and then
-- these
pub record GrowsUnread (told : Telling) (reads : List (List ℕ)) (name : List ℕ) (before after : Sides) : Type 0 where
  pub put : Appends before.output.written after.output.written told.text
  pub read : ReadsUpTo before.files after.files (told.reads ++ reads) name
  pub steady : after.output.faults ≡ before.output.faults
