use Rattle.std.proofs.Common.{◌≡◌, ◌+◌, ◌≤◌, ◌++◌, map, reverse}
use Rattle.std.specs.Vec.{vec_len, vec_capacity}
use Rattle.door_workers.proofs.pairing.pair.Given as goal

abbrev pub invariant-loop-door : goal.invariant-loop-door
invariant-loop-door g l = record {
  doors : l.doors.items ++ reverse (map (λ p. p.door) l.posts.items) ≡ l.initial.doors.items;
  seats : l.seats.items ++ reverse (map (λ p. p.seat) l.posts.items) ≡ l.initial.seats.items;
  same : vec_len l.seats ≡ vec_len l.doors;
  room : vec_len l.doors + vec_len l.posts ≤ vec_capacity l.posts;
  count : vec_len l.doors + vec_len l.posts ≡ vec_len l.initial.doors;
  capacity : vec_capacity l.doors ≡ vec_capacity l.initial.doors;
  seats_capacity : vec_capacity l.seats ≡ vec_capacity l.initial.seats;
  few : vec_len l.doors ≤ vec_len l.initial.doors;
}

abbrev pub decreases-loop-door : goal.decreases-loop-door
decreases-loop-door g l = vec_len l.doors
