-- What the loops and the last reads say together.
use Rattle.std.proofs.Common.{◌≡◌, ℕ, ◌-◌, ◌^◌, min, List, Option, sym, subst, arith}
use Rattle.std.specs.List.{All, AllZip}
use mathlib.Core.List.{IsPrefix}
use Rattle.road_io.specs.Views.{Transcript}
use Rattle.road_io.specs.Doorway.{DoorView}
use Rattle.road_io.specs.DoorOpening.{IsNewDoor}
use Rattle.door_workers.specs.declared.posts.Post.{Post}
use Rattle.door_workers.specs.declared.turns.End.{End}
use Rattle.door_workers.specs.declared.turns.End.TheVariants.{Stopped, UsedUp, Broken}
use Rattle.door_workers.specs.Passing.{GoneToEnd}
use Rattle.door_workers.specs.Serving.{Answered, AnsweredAt, AnsweredUnder}
use Rattle.door_workers.specs.Settling.{IsSettled}
use Rattle.door_workers.specs.Leading.{Step, TendGives}
use Rattle.door_workers.proofs.Fronts.{prefix_trans}
use Rattle.door_workers.proofs.Passings.{to_end_longer}
use Rattle.door_workers.proofs.Zips.{zip_all, zip_then, zip_with}

-- what a worker leaves, without its count
pub answered_of : (old now : DoorView) (Rule : Transcript → Type 0) (count : ℕ) → GoneToEnd old now Rule count → Answered old now Rule
answered_of old now Rule count gone = record { ts = gone.ts; ends = gone.ends; each = gone.each }

module _ {D S E : Type 0} (Rule : List E → Transcript → Type 0) (longer : (xs ys : List E) (t : Transcript) → IsPrefix xs ys → Rule xs t → Rule ys t) (view : D → DoorView) (seen : S → List E) where
  -- the last read of a seat keeps what its worker left
  pub answered_then : (p q r : Post D S) → AnsweredAt Rule (view p.door) (view q.door) (seen p.seat) (seen q.seat) q.connections → IsSettled q r seen → AnsweredAt Rule (view p.door) (view r.door) (seen p.seat) (seen r.seat) r.connections
  answered_then p q r one two =
      let gone = to_end_longer Rule longer (view p.door) (view q.door) (seen q.seat) (seen r.seat) q.connections two.later one.gone in
      let counted = subst (λ (n : ℕ). GoneToEnd (view p.door) (view q.door) (Rule (seen r.seat)) n) (sym two.connections) gone in record {
        gone = subst (λ (d : D). GoneToEnd (view p.door) (view d) (Rule (seen r.seat)) r.connections) (sym two.door) counted;
        later = prefix_trans (seen p.seat) (seen q.seat) (seen r.seat) one.later two.later;
      }

  -- a new door counts what it finished
  pub finished_count : (p q : Post D S) → IsNewDoor (view p.door) → AnsweredAt Rule (view p.door) (view q.door) (seen p.seat) (seen q.seat) q.connections → q.connections ≡ min (view q.door).finished (2 ^ 64 - 1)
  finished_count p q new one =
      let passed = one.gone.ends.passed in
      omega (arith, one.gone.count_is, passed.finished, new.finished)

  pub finished_counts : (ps qs : List (Post D S)) → All (λ p. IsNewDoor (view p.door)) ps → AllZip (λ p q. AnsweredAt Rule (view p.door) (view q.door) (seen p.seat) (seen q.seat) q.connections) ps qs → All (λ q. q.connections ≡ min (view q.door).finished (2 ^ 64 - 1)) qs
  finished_counts ps qs new zip =
      zip_all (λ p. IsNewDoor (view p.door)) (λ p q. AnsweredAt Rule (view p.door) (view q.door) (seen p.seat) (seen q.seat) q.connections) (λ q. q.connections ≡ min (view q.door).finished (2 ^ 64 - 1)) finished_count ps qs new zip

  -- where the seat has seen all, the connections are right under all
  pub answered_all : (list : List E) (p q : Post D S) → seen q.seat ≡ list → AnsweredAt Rule (view p.door) (view q.door) (seen p.seat) (seen q.seat) q.connections → GoneToEnd (view p.door) (view q.door) (Rule list) q.connections
  answered_all list p q all one = subst (λ (l : List E). GoneToEnd (view p.door) (view q.door) (Rule l) q.connections) all one.gone

  -- the connections of a door are right under what its seat has seen, which begins with all that it began with
  pub answered_under : (first : List E) (p q : Post D S) → IsPrefix first (seen p.seat) × AnsweredAt Rule (view p.door) (view q.door) (seen p.seat) (seen q.seat) q.connections → AnsweredUnder first (view p.door) (view q.door) Rule
  answered_under first p q one =
      (seen q.seat, prefix_trans first (seen p.seat) (seen q.seat) one.0 one.1.later, answered_of (view p.door) (view q.door) (Rule (seen q.seat)) q.connections one.1.gone)

  -- so it is of all posts: what the workers left stands behind the last reads
  pub all_settled : (ps qs rs : List (Post D S)) → AllZip (λ p q. AnsweredAt Rule (view p.door) (view q.door) (seen p.seat) (seen q.seat) q.connections) ps qs → AllZip (λ q r. IsSettled q r seen) qs rs → AllZip (λ p q. AnsweredAt Rule (view p.door) (view q.door) (seen p.seat) (seen q.seat) q.connections) ps rs
  all_settled ps qs rs one two = zip_then (λ p q. AnsweredAt Rule (view p.door) (view q.door) (seen p.seat) (seen q.seat) q.connections) (λ q r. IsSettled q r seen) (λ p q. AnsweredAt Rule (view p.door) (view q.door) (seen p.seat) (seen q.seat) q.connections) answered_then ps qs rs one two

  -- and where all seats have seen all, all connections are right under all
  pub all_whole : (list : List E) (ps rs : List (Post D S)) → All (λ r. seen r.seat ≡ list) rs → AllZip (λ p q. AnsweredAt Rule (view p.door) (view q.door) (seen p.seat) (seen q.seat) q.connections) ps rs → AllZip (λ p r. GoneToEnd (view p.door) (view r.door) (Rule list) r.connections) ps rs
  all_whole list ps rs all zip = zip_with (λ p q. AnsweredAt Rule (view p.door) (view q.door) (seen p.seat) (seen q.seat) q.connections) (λ r. seen r.seat ≡ list) (λ p r. GoneToEnd (view p.door) (view r.door) (Rule list) r.connections) (answered_all list) ps rs all zip

-- the control door counts what it finished
pub tend_count : {E K : Type 0} (Rule : Step E) (before after : List E) (old now : DoorView) (closer left : Option K) (count : ℕ) (end : End) → IsNewDoor old → TendGives Rule before after old now closer left count end → count ≡ min now.finished (2 ^ 64 - 1)
tend_count Rule before after old now closer left count Stopped new tended =
    let passed = tended.0.goes.passed in omega (arith, tended.0.count_is, passed.finished, new.finished)
tend_count Rule before after old now closer left count UsedUp new tended =
    let passed = tended.0.ends.passed in omega (arith, tended.0.count_is, passed.finished, new.finished)
tend_count Rule before after old now closer left count Broken new tended =
    let passed = tended.0.ends.passed in omega (arith, tended.0.count_is, passed.finished, new.finished)
