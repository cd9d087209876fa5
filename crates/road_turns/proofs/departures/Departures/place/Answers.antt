use Rattle.std.proofs.Common.{◌≡◌, ℕ, List, Bool, true, false, length, arith, ap, subst, sym, rules}
use Rattle.std.specs.List.Sorted.{IsPartitionedBy, IsPartitionPoint}
use Rattle.std.specs.Ordering.{is_le, is_lt}
use Rattle.std.proofs.lemmas.Fn.{always_returns_same}
use Rattle.road_turns.specs.DepartureParts.{tail_cmp}
use Rattle.road_segments.specs.Vertex.{vertices}
use Rattle.road_turns.proofs.DepartureLemmas.{IsPlace-found, parted-below, parted-up_to}
use Rattle.road_turns.proofs.departures.Departures.place.Goals as goal

pub returns : goal.returns
returns c =
    let vs = vertices c.args.roads.now in
    let order : List ℕ = c.args.self.now.order.items in
    let first = c.partition_point-first.result in
    let end = c.partition_point-end.result in
    let p : ℕ → Bool = λ v. is_lt (tail_cmp vs c.args.node v) in
    let q : ℕ → Bool = λ v. is_le (tail_cmp vs c.args.node v) in
    let parted : IsPartitionedBy p c.deref.result.now = subst (IsPartitionedBy p) (sym c.deref.ensures.value) (parted-below vs order c.requires c.args.node) in
    let parted2 : IsPartitionedBy q c.deref-2.result.now = subst (IsPartitionedBy q) (sym c.deref-2.ensures.value) (parted-up_to vs order c.requires c.args.node) in
    let below = c.partition_point-first.ensures.partitioned p (always_returns_same _ (λ a r. r ≡ p a.0.now) _ (λ a r f k. search rules)) parted in
    let up_to = c.partition_point-end.ensures.partitioned q (always_returns_same _ (λ a r. r ≡ q a.0.now) _ (λ a r f k. search rules)) parted2 in
    IsPlace-found vs order c.requires c.args.node first end (subst (λ (l : List ℕ). IsPartitionPoint (λ v. p v ≡ true) (λ v. p v ≡ false) l first) c.deref.ensures.value below)
    (subst (λ (l : List ℕ). IsPartitionPoint (λ v. q v ≡ true) (λ v. q v ≡ false) l end) c.deref-2.ensures.value up_to)
    (omega (arith, c.partition_point-first.ensures.bound, ap length c.deref.ensures.value)) (omega (arith, c.partition_point-end.ensures.bound, ap length c.deref-2.ensures.value))
