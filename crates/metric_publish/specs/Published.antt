-- What a clause reads of a desk.
use Rattle.std.specs.Prelude.{List}
use Rattle.left_right.specs.declared.Absorb.{Ghosts}
use Rattle.left_right.specs.declared.writer.Writer.{Writer}
use Rattle.metric_publish.specs.declared.desk.Desk.{Desk}
use Rattle.metric_publish.specs.declared.entry.Entry.{Entry}
use Rattle.metric_publish.specs.declared.history.Naming.{Ghosts as Named}
use Rattle.metric_publish.specs.declared.shown.Shown.{Shown}

-- the list of publications that the two copies show
abbrev pub list_of : {V J O W P A S : Type 0} {n : Named J} {g : Ghosts (Shown V J n) O S} → Writer (Shown V J n) O W P A S g → List (Entry V)
list_of w = w.desk.shown.value.front.token.log

-- the list of publications of a desk
abbrev pub published : {V J W P B S : Type 0} {n : Named J} {g : Ghosts (Shown V J n) (Shown V J n) S} → Desk (Shown V J n) W P B S g → List (Entry V)
published d = list_of d.writer
