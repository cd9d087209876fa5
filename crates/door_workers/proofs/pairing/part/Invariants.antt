use Rattle.std.proofs.Common.{◌≡◌, ◌+◌, ◌≤◌, ◌++◌, map, reverse}
use Rattle.std.specs.Vec.{vec_len, vec_capacity}
use Rattle.door_workers.proofs.pairing.part.Given as goal

abbrev pub invariant-loop-post : goal.invariant-loop-post
invariant-loop-post g l = record {
  doors : l.doors.items ++ reverse (map (λ p. p.door) l.posts.items) ≡ reverse (map (λ p. p.door) l.initial.posts.items);
  seats : l.seats.items ++ reverse (map (λ p. p.seat) l.posts.items) ≡ reverse (map (λ p. p.seat) l.initial.posts.items);
  doors_room : vec_len l.posts + vec_len l.doors ≤ vec_capacity l.doors;
  seats_room : vec_len l.posts + vec_len l.seats ≤ vec_capacity l.seats;
}

abbrev pub decreases-loop-post : goal.decreases-loop-post
decreases-loop-post g l = vec_len l.posts
