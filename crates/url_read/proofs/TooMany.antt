-- Points of which there are too many.
use Rattle.std.proofs.Common.{◌≡◌, ℤ, List, length, Option, Result, Ok, Err, IfErr, sym, subst, ◌∙◌, ap}
use Rattle.std.specs.Result.{IsErrAnd}
use Rattle.road_base.specs.declared.coordinates.Point.{Point}
use Rattle.url_read.specs.Coordinates.{points_at}
use Rattle.url_read.specs.Refusals.{IsFaultOf, IsRefusalIn, and_then, unless}
use Rattle.url_read.specs.Request.{points_for, size_refusal}
use Rattle.url_read.specs.declared.refusals.Refusal.{Refusal}
use Rattle.url_read.specs.declared.refusals.RequestFault.{RequestFault}
use Rattle.url_read.specs.declared.refusals.RequestFault.TheVariants.{Refused, Memory}
use Rattle.url_read.specs.declared.requests.Service.{Service}

-- the points are there, and their size is refused
pub points_for-refused : (service : Service) (degrees : List (ℤ × ℤ)) (points : List Point) (fault : RequestFault) → points_at degrees ≡ Ok points → IsRefusalIn (size_refusal service (length points)) fault → IsFaultOf (points_for service degrees) fault
points_for-refused service degrees points (Refused refusal) there big =
    ap (λ (r : Result (List Point) Refusal). and_then r (λ (points : List Point). unless (size_refusal service (length points)) (Ok points))) there
    ∙ ap (λ (o : Option Refusal). unless o (Ok points)) big
points_for-refused service degrees points Memory there big = tt

-- what holds of a fault holds of the one that is handed on
pub fault_kept : {T : Type 0} (P : RequestFault → Type 0) (fault : RequestFault) (r : Result T RequestFault) → P fault → IsErrAnd r (λ given. given ≡ fault) → IfErr r P
fault_kept P fault (Ok x) holds failed = absurd failed
fault_kept P fault (Err given) holds same = subst P (sym same) holds
