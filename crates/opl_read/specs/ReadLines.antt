-- What reading a text in OPL comes to, in the words of its lines: the first faulty one, or the objects of
-- all. `opl_objects`, which goes through the lines from the first one, gives the same.
use Rattle.std.specs.Prelude.{◌≡◌, ℕ, ◌+◌, ◌<◌, true, List, [], ◌∷◌, ◌++◌, length, slice_index_or, ◌⊎◌, Option, Some, None, Result, Ok, Err}
use Rattle.road_base.specs.declared.osm_objects.Object.{Object}
use Rattle.opl_read.specs.LineText.{line_of}
use Rattle.opl_read.specs.Objects.{is_same}
use Rattle.opl_read.specs.declared.line_faults.FaultKind.{FaultKind}
use Rattle.opl_read.specs.declared.line_faults.FaultKind.TheVariants.{Duplicate}
use Rattle.opl_read.specs.declared.line_faults.LineFault.{LineFault}
use Rattle.opl_read.specs.declared.line_faults.ReadFault.{ReadFault}
use Rattle.opl_read.specs.declared.line_faults.ReadFault.TheVariants.{Line, Memory}

-- the object of a line that has one
abbrev pub object_on : Result (Option Object) FaultKind → List Object
object_on (Ok (Some object)) = object ∷ []
object_on (Ok None) = []
object_on (Err kind) = []

-- the objects of the lines, in their order
abbrev pub objects_on : List (List ℕ) → List Object
objects_on [] = []
objects_on (line ∷ lines) = object_on (line_of line) ++ objects_on lines

-- a line before line k has an object of this one's kind and id
abbrev pub HasEarlier : List (List ℕ) → ℕ → Object → Type 0
HasEarlier lines k object =
    (j : ℕ) × (earlier : Object) × (j < k) × (line_of (slice_index_or lines j []) ≡ Ok (Some earlier)) × (is_same earlier object ≡ true)

-- line k, counted from 0, has this fault: its own, or that its object stood on a line before
abbrev pub IsFaultAt : List (List ℕ) → ℕ → FaultKind → Type 0
IsFaultAt lines k kind =
    (line_of (slice_index_or lines k []) ≡ Err kind)
    ⊎ ((object : Object) × (kind ≡ Duplicate) × (line_of (slice_index_or lines k []) ≡ Ok (Some object)) × HasEarlier lines k object)

-- the first `count` lines have no fault
abbrev pub AreFaultless : List (List ℕ) → ℕ → Type 0
AreFaultless lines count = (k : ℕ) → k < count → (kind : FaultKind) → ¬ (IsFaultAt lines k kind)

-- no line has a fault, and these are their objects
pub record AreObjectsOf (lines : List (List ℕ)) (objects : List Object) : Type 0 where
  pub faultless : AreFaultless lines (length lines)
  pub in_order : objects ≡ objects_on lines

-- the line of this fault, counted from 1, is the first that has one
abbrev pub IsFirstFault : List (List ℕ) → LineFault → Type 0
IsFirstFault lines fault = (k : ℕ) × (k < length lines) × (fault.line ≡ k + 1) × AreFaultless lines k × IsFaultAt lines k fault.kind

-- what reading the lines gives
abbrev pub IsReadAs : List (List ℕ) → Result (List Object) LineFault → Type 0
IsReadAs lines (Ok objects) = AreObjectsOf lines objects
IsReadAs lines (Err fault) = IsFirstFault lines fault

-- why they are not read: their first fault, or want of memory
abbrev pub IsFirstFaultOf : List (List ℕ) → ReadFault → Type 0
IsFirstFaultOf lines (Line fault) = IsFirstFault lines fault
IsFirstFaultOf lines Memory = Unit {0}
