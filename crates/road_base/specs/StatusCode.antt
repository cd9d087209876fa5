-- The exit status that each end of the program has.
use Rattle.std.specs.Prelude.{ℕ}
use Rattle.road_base.specs.declared.program_status.Status.{Status}
use Rattle.road_base.specs.declared.program_status.Status.TheVariants as status

-- 0 where all was done, else a number for each cause (this project's rule)
abbrev pub code_of : Status → ℕ
code_of status.Ok = 0
code_of status.Outside = 1
code_of status.Words = 2
code_of status.Refused = 3
code_of status.Memory = 4
