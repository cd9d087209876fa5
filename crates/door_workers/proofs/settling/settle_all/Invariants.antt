use Rattle.std.proofs.Common.{IsTrue}
use Rattle.std.specs.List.{AllZip, AllWithin}
use Rattle.left_right.specs.Sides.{view}
use mathlib.Core.List.{IsPrefix}
use Rattle.metric_publish.specs.declared.seat.Seat.{Seat}
use Rattle.door_workers.specs.declared.posts.Post.{Post}
use Rattle.door_workers.specs.Settling.{HasReadAll, IsSettled}
use Rattle.door_workers.proofs.settling.settle_all.Given as goal

-- the seats so far have learned all, and where none fell short each has read all
abbrev pub invariant-loop-i : goal.invariant-loop-i
invariant-loop-i g l =
    let P : Post g.row.D.Denot (Seat g.row.V.Denot g.row.J.Denot g.J.Naming) → Type 0 = λ q. HasReadAll l.desk.writer.desk.shown.value.front.token.log q.seat.seen.token.log (view q.seat.reader.place).reads in record {
      settled : AllZip (λ p q. IsSettled p q (λ s. s.seen.token.log)) l.initial.posts.items l.posts.items;
      learned : AllWithin (λ q. IsPrefix l.desk.writer.desk.shown.value.front.token.log q.seat.learned.token.log) l.posts.items 0 l.i;
      all : IsTrue l.all → AllWithin P l.posts.items 0 l.i;
    }
