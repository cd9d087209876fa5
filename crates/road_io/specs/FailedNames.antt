-- What is told of the names of reads, and of those that failed.
use Rattle.std.specs.Prelude.{◌≡◌, ◌⊎◌, ℕ, List, [], ◌∷◌, ◌++◌, Option, None, Some, Result, OnOk, IsErrOf, ⊤}
use Rattle.road_io.specs.declared.failures.FileFault.{FileFault}
use Rattle.road_io.specs.declared.failures.FileFault.TheVariants.{Failed, Memory}

-- told names grow by these
abbrev pub AppendsNames : Option (List (List ℕ)) → Option (List (List ℕ)) → List (List ℕ) → Type 0
AppendsNames None new names = ⊤
AppendsNames (Some told) None names = ⊥
AppendsNames (Some told) (Some now) names = now ≡ told ++ names

-- a read that failed adds its name, and no other read adds one
pub record TellsFailed {T : Type 0} (old new : Option (List (List ℕ))) (result : Result T FileFault) (name : List ℕ) : Type 0 where
  pub failed : IsErrOf result Failed → AppendsNames old new (name ∷ [])
  pub memory : IsErrOf result Memory → AppendsNames old new []
  pub read : OnOk result (AppendsNames old new [])

-- a read adds its name, whether it failed or not; for want of memory it adds its name or none
pub record TellsRead {T : Type 0} (old new : Option (List (List ℕ))) (result : Result T FileFault) (name : List ℕ) : Type 0 where
  pub failed : IsErrOf result Failed → AppendsNames old new (name ∷ [])
  pub memory : IsErrOf result Memory → AppendsNames old new (name ∷ []) ⊎ AppendsNames old new []
  pub read : OnOk result (AppendsNames old new (name ∷ []))
