-- How the reader's faults are told, and what is made of parts that may be faulty.
use Rattle.std.specs.Prelude.{◌≡◌, List, [], ◌∷◌, Result, Ok, Err}
use Rattle.road_base.specs.declared.osm_objects.Object.{Object}
use Rattle.opl_read.specs.declared.line_faults.LineFault.{LineFault}
use Rattle.opl_read.specs.declared.line_faults.ReadFault.{ReadFault}
use Rattle.opl_read.specs.declared.line_faults.ReadFault.TheVariants.{Line, Memory}
use Rattle.opl_read.specs.declared.line_faults.FaultKind.{FaultKind}
use Rattle.opl_read.specs.declared.line_faults.LineError.{LineError}
use Rattle.opl_read.specs.declared.line_faults.LineError.TheVariants.{Fault, OutOfMemory}

-- the fault is the one that the definition gives, or want of memory
abbrev pub IsFaultOf : Result (List Object) LineFault → ReadFault → Type 0
IsFaultOf defined (Line fault) = defined ≡ Err fault
IsFaultOf defined Memory = Unit {0}

-- the same of a part of a line
abbrev pub IsLineErrorOf : {A : Type 0} → Result A FaultKind → LineError → Type 0
IsLineErrorOf defined (Fault kind) = defined ≡ Err kind
IsLineErrorOf defined OutOfMemory = Unit {0}

abbrev pub mapped : {A B : Type 0} → (A → B) → Result A FaultKind → Result B FaultKind
mapped f (Ok x) = Ok (f x)
mapped f (Err kind) = Err kind

-- what is made of two parts, or the first fault from the left
abbrev pub mapped_both : {A B C : Type 0} → (A → B → C) → Result A FaultKind → Result B FaultKind → Result C FaultKind
mapped_both f (Ok x) right = mapped (f x) right
mapped_both f (Err kind) right = Err kind

-- all the values, or the first fault from the left
abbrev pub all_of : {A : Type 0} → List (Result A FaultKind) → Result (List A) FaultKind
all_of [] = Ok []
all_of (Err kind ∷ more) = Err kind
all_of (Ok x ∷ more) = mapped (λ xs. x ∷ xs) (all_of more)
