-- The profile that the fields of a `Profile` stand for.
use Rattle.way_profile.specs.Vehicle.{IsInRange, ProfileView}
use Rattle.way_profile.specs.declared.vehicle_profile.Profile.TheInside.{Inside}

abbrev pub profile_seen : Inside → ProfileView
profile_seen p = record {
  name = p.name;
  vehicle = p.vehicle;
  by_distance = p.by_distance;
  speeds = p.speeds.items;
  access_keys = p.access_keys;
  denied = p.denied;
  barriers = p.barriers;
  turn_penalties = p.turn_penalties;
  u_turn_penalty = p.u_turn_penalty;
  signal_penalty = p.signal_penalty;
  left_side = p.left_side;
  maxspeed = p.maxspeed;
  surfaces = p.surfaces.items;
  classes = p.classes.items;
  excludable = p.excludable.items;
}

-- its numbers are in their ranges
abbrev pub IsSeenInRange : Inside → Type 0
IsSeenInRange p = IsInRange (profile_seen p)
