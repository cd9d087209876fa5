-- What the settings say of one vehicle.
use Rattle.std.specs.Prelude.{ℕ, ◌≤◌, Bool, List, All}
use Rattle.road_base.specs.declared.directions.Modifier.{Modifier}
use Rattle.road_base.specs.declared.directions.Modifier.TheVariants.{Straight, SlightRight, Right, SharpRight, Uturn, SharpLeft, Left, SlightLeft}
use Rattle.road_base.specs.Words.{is_among}
use Rattle.way_profile.specs.declared.turn_penalties.TurnPenalties.{TurnPenalties}

-- the profile of a vehicle: its own name; the word by which `except` of a turn restriction knows it; whether
-- a road weighs its length and not its duration where traffic says nothing else; a speed in thousandths of
-- km/h for each value of `highway` that it may use; the keys of which the first that a way carries decides
-- whether it may enter, and the values by which it may not; the values of `barrier` that close a node; and in
-- deciseconds the penalty of a turn by the way it bends, of turning back onto the same segment and of a
-- signal; whether it drives on the left side; whether a way's `maxspeed` counts; a factor in thousandths for
-- each value of `surface` that slows it; the classes of ways, each with the tags of which one makes a way be
-- of it; and the sets of classes that a request may exclude
pub record ProfileView : Type 0 where
  pub name : List ℕ
  pub vehicle : List ℕ
  pub by_distance : Bool
  pub speeds : List (List ℕ × ℕ)
  pub access_keys : List (List ℕ)
  pub denied : List (List ℕ)
  pub barriers : List (List ℕ)
  pub turn_penalties : TurnPenalties
  pub u_turn_penalty : ℕ
  pub signal_penalty : ℕ
  pub left_side : Bool
  pub maxspeed : Bool
  pub surfaces : List (List ℕ × ℕ)
  pub classes : List (List ℕ × List (List ℕ × List ℕ))
  pub excludable : List (List (List ℕ))

-- the penalty for a bend
abbrev pub bend_penalty : TurnPenalties → Modifier → ℕ
bend_penalty penalties Straight = penalties.straight
bend_penalty penalties SlightRight = penalties.slight_right
bend_penalty penalties Right = penalties.right
bend_penalty penalties SharpRight = penalties.sharp_right
bend_penalty penalties Uturn = penalties.uturn
bend_penalty penalties SharpLeft = penalties.sharp_left
bend_penalty penalties Left = penalties.left
bend_penalty penalties SlightLeft = penalties.slight_left

-- the penalty of a turn that bends this way
abbrev pub penalty_of : ProfileView → Modifier → ℕ
penalty_of profile modifier = bend_penalty profile.turn_penalties modifier

-- a node with this value of `barrier` is closed
abbrev pub is_barrier : ProfileView → List ℕ → Bool
is_barrier profile value = is_among profile.barriers value

-- a speed of 1 to 1000 km/h
pub record IsSpeed (speed : ℕ) : Type 0 where
  pub least : 1000 ≤ speed
  pub greatest : speed ≤ 1000000

-- a factor of 1 to 1000 thousandths
pub record IsFactor (factor : ℕ) : Type 0 where
  pub least : 1 ≤ factor
  pub greatest : factor ≤ 1000

-- the speeds, factors and penalties are in the ranges that settings may have
pub record IsInRange (profile : ProfileView) : Type 0 where
  pub speeds : All (λ e. IsSpeed e.1) profile.speeds
  pub surfaces : All (λ e. IsFactor e.1) profile.surfaces
  pub turn_penalties : (modifier : Modifier) → penalty_of profile modifier ≤ 1000000
  pub u_turn_penalty : profile.u_turn_penalty ≤ 1000000
  pub signal_penalty : profile.signal_penalty ≤ 1000000
