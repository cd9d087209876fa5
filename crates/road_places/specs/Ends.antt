-- Lists of starts and targets.
use Rattle.std.specs.Prelude.{List, Contains}

-- the list has those of which P holds, and no others
pub record AreAll {E : Type 0} (P : E → Type 0) (list : List E) : Type 0 where
  pub each : (one : E) → Contains list one → P one
  pub every : (one : E) → P one → Contains list one
