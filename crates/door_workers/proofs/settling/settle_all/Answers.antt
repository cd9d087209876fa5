use Rattle.std.proofs.Common.{◌<◌, List, length, sym, subst, ◌∙◌, rules}
use Rattle.std.proofs.lemmas.Bool.{false≢true}
use Rattle.std.proofs.lemmas.List.Elements.{AllWithin-more_set}
use Rattle.left_right.specs.Sides.{view}
use mathlib.Core.List.{IsPrefix}
use Rattle.metric_publish.specs.declared.entry.Entry.{Entry}
use Rattle.metric_publish.specs.declared.seat.Seat.{Seat}
use Rattle.door_workers.specs.declared.posts.Post.{Post}
use Rattle.door_workers.specs.Settling.{HasReadAll, IsSettled}
use Rattle.door_workers.proofs.Zips.{zip_refl, zip_set}
use Rattle.door_workers.proofs.Settlings.{settled_self, settled_then}
use Rattle.door_workers.proofs.settling.settle_all.Goals as goal
use Rattle.door_workers.proofs.settling.settle_all.Goals.{then-all, else-all}

pub loop-i-init : goal.loop-i-init
loop-i-init g c =
    let seen : Seat g.row.V.Denot g.row.J.Denot g.J.Naming → List (Entry g.row.V.Denot) = λ s. s.seen.token.log in record {
      settled = zip_refl (λ p q. IsSettled p q seen) (settled_self seen) c.args.posts.now.items;
      learned = λ k d low below. absurd (search rules);
      all = λ yes k d low below. absurd (search rules);
    }

pub loop-i-preserved : goal.loop-i-preserved
loop-i-preserved g c =
    let seen : Seat g.row.V.Denot g.row.J.Denot g.J.Naming → List (Entry g.row.V.Denot) = λ s. s.seen.token.log in
    let R : Post g.row.D.Denot (Seat g.row.V.Denot g.row.J.Denot g.J.Naming) → Post g.row.D.Denot (Seat g.row.V.Denot g.row.J.Denot g.J.Naming) → Type 0 = λ p q. IsSettled p q seen in
    let list = c.args.desk.now.writer.desk.shown.value.front.token.log in
    let P : Post g.row.D.Denot (Seat g.row.V.Denot g.row.J.Denot g.J.Naming) → Type 0 = λ q. HasReadAll list (seen q.seat) (view q.seat.reader.place).reads in
    let L : Post g.row.D.Denot (Seat g.row.V.Denot g.row.J.Denot g.J.Naming) → Type 0 = λ q. IsPrefix list q.seat.learned.token.log in
    let items = c.loop-i.posts.items in
    let new = c.settle-is_all.new.post in
    let below : c.loop-i.i < length items = search rules in
    let step = subst (λ p. R p new) c.index_mut.ensures.value c.settle-is_all.ensures.settled in record {
      settled = zip_set R (settled_then seen) c.args.posts.now.items items c.loop-i.i c.index_mut.result.now new below c.loop-i.invariant.settled step;
      learned = AllWithin-more_set items c.loop-i.i new below L c.loop-i.invariant.learned c.settle-is_all.ensures.learned;
      all = elim c.if-all.branch [
        | then-all w ↦ λ yes. AllWithin-more_set items c.loop-i.i new below P (c.loop-i.invariant.all w.if-all.true) (c.settle-is_all.ensures.all (sym w.all-is ∙ yes))
        | else-all w ↦ λ yes. absurd (false≢true (sym w.if-all.false ∙ (sym w.all-is ∙ yes)))
      ];
    }

pub returns-clause-all : goal.returns-clause-all
returns-clause-all g c = λ yes k d below. c.loop-i.invariant.all yes k d (search rules) (search rules)
