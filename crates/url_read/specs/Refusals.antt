-- How a target is refused: a code, and a message that names the place of the fault.
use Rattle.std.specs.Prelude.{◌≡◌, ℕ, List, ◌++◌, codes, Option, Some, None, Result, Ok, Err}
use Rattle.std.specs.Fmt.{decimal}
use Rattle.url_read.specs.declared.refusals.RefusalCode.TheVariants.{InvalidUrl, InvalidService, InvalidVersion, InvalidOptions, InvalidQuery, InvalidValue, TooBig}
use Rattle.url_read.specs.declared.refusals.Refusal.{Refusal}
use Rattle.url_read.specs.declared.refusals.RequestFault.{RequestFault}
use Rattle.url_read.specs.declared.refusals.RequestFault.TheVariants.{Refused, Memory}

-- the target is not of the form of a path and a query
abbrev pub bad_path : Refusal
bad_path = record { code = InvalidUrl; message = codes "path" }

abbrev pub bad_service : List ℕ → Refusal
bad_service name = record { code = InvalidService; message = codes "service " ++ name }

abbrev pub bad_version : List ℕ → Refusal
bad_version name = record { code = InvalidVersion; message = codes "version " ++ name }

-- the option's name as it stands in the target
abbrev pub bad_option : List ℕ → Refusal
bad_option name = record { code = InvalidOptions; message = codes "option " ++ name }

-- the coordinate of this number, from 0, is not of its form
abbrev pub bad_coordinate : ℕ → Refusal
bad_coordinate number = record { code = InvalidQuery; message = codes "coordinate " ++ decimal number }

-- the polyline between the parentheses has its first fault at this byte, from 0
abbrev pub bad_polyline : ℕ → Refusal
bad_polyline offset = record { code = InvalidQuery; message = codes "polyline byte " ++ decimal offset }

-- the coordinate of this number, from 0, is not on the Earth
abbrev pub out_of_range : ℕ → Refusal
out_of_range number = record { code = InvalidValue; message = codes "coordinate " ++ decimal number }

-- so many coordinates are too few, or are not the one that there has to be
abbrev pub bad_count : ℕ → Refusal
bad_count count = record { code = InvalidQuery; message = decimal count ++ codes " coordinates" }

-- so many coordinates are too many
abbrev pub too_many : ℕ → ℕ → Refusal
too_many count most = record { code = TooBig; message = decimal count ++ (codes " coordinates, at most " ++ decimal most) }

-- so many results are too many
abbrev pub too_many_results : ℕ → ℕ → Refusal
too_many_results count most = record { code = TooBig; message = decimal count ++ (codes " results, at most " ++ decimal most) }

-- one step after another: the first refusal ends them
abbrev pub and_then : {A B : Type 0} → Result A Refusal → (A → Result B Refusal) → Result B Refusal
and_then (Ok x) next = next x
and_then (Err refusal) next = Err refusal

abbrev pub unless : {A : Type 0} → Option Refusal → Result A Refusal → Result A Refusal
unless None next = next
unless (Some refusal) next = Err refusal

-- what is there, or else a refusal
abbrev pub or_else : {A : Type 0} → Option A → Refusal → Result A Refusal
or_else (Some x) refusal = Ok x
or_else None refusal = Err refusal

-- the fault is the refusal that the definition gives, or want of memory
abbrev pub IsFaultOf : {A : Type 0} → Result A Refusal → RequestFault → Type 0
IsFaultOf defined (Refused refusal) = defined ≡ Err refusal
IsFaultOf defined Memory = Unit {0}

-- the same where the definition says whether anything is refused
abbrev pub IsRefusalIn : Option Refusal → RequestFault → Type 0
IsRefusalIn defined (Refused refusal) = defined ≡ Some refusal
IsRefusalIn defined Memory = Unit {0}
