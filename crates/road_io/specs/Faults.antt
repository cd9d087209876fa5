-- Counts of faults, and what a failed call says of them.
use Rattle.std.specs.Prelude.{◌≡◌, ℕ, ◌+◌, ◌-◌, ◌^◌, ◌≤◌, min, Result, OnOk, OnErr, IsErrOf}
use Rattle.road_io.specs.declared.failures.FileFault.{FileFault}
use Rattle.road_io.specs.declared.failures.FileFault.TheVariants.{Failed, Memory}
use Rattle.road_io.specs.Views.{FilesView, InputView, OutputView}

-- a count rose; at its last value, 18446744073709551615, it stands still, and a fault there counts as
-- a rise
abbrev pub Rose : ℕ → ℕ → Type 0
Rose before now = min (before + 1) (2 ^ 64 - 1) ≤ now

-- the count of the files, of the input, of the output rose
abbrev pub FilesRose : FilesView → FilesView → Type 0
FilesRose before after = Rose before.faults after.faults

abbrev pub InputRose : InputView → InputView → Type 0
InputRose before after = Rose before.faults after.faults

abbrev pub OutputRose : OutputView → OutputView → Type 0
OutputRose before after = Rose before.faults after.faults

-- the count never falls, rose where the call failed, and stayed where it did not
pub record HasCause {T E : Type 0} (before now : ℕ) (result : Result T E) : Type 0 where
  pub later : before ≤ now
  pub failed : OnErr result (Rose before now)
  pub kept : OnOk result (now ≡ before)

-- the same of the read of a file, where want of memory is no fault
pub record HasFileCause {T : Type 0} (before now : ℕ) (result : Result T FileFault) : Type 0 where
  pub later : before ≤ now
  pub failed : IsErrOf result Failed → Rose before now
  pub memory : IsErrOf result Memory → now ≡ before
  pub kept : OnOk result (now ≡ before)
