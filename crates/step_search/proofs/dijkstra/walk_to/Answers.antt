-- Each step goes one node back, and its vertex to the walk.
use Rattle.std.proofs.Common.{◌≡◌, sym, ◌∙◌, Option, Some, List, [], ℕ, slice_get, length, append-nil, refl, subst, lt_trans}
use Rattle.std.proofs.lemmas.Option.{slice_get_read}
use Rattle.step_search.specs.Progress.{IsTrail}
use Rattle.step_search.proofs.Trails.{steps-fewer, trail-more}
use Rattle.step_search.proofs.dijkstra.walk_to.Goals as goal

pub loop-next-smaller : goal.loop-next-smaller
loop-next-smaller g c =
    rw c.place-next.ensures (steps-fewer c.args.tree.now c.loop-next.next c.in-Some.i c.index-tree-i.result c.in-Some.is (slice_get_read c.args.tree.now (length c.args.tree.now) c.in-Some.i c.index-tree-i.result refl (c.loop-next.invariant.in_range c.in-Some.i c.in-Some.is) c.index-tree-i.is) c.requires.backward)

pub loop-next-preserved : goal.loop-next-preserved
loop-next-preserved g c =
    let at : slice_get c.args.tree.now c.in-Some.i ≡ Some c.index-tree-i.result = slice_get_read c.args.tree.now (length c.args.tree.now) c.in-Some.i c.index-tree-i.result refl (c.loop-next.invariant.in_range c.in-Some.i c.in-Some.is) c.index-tree-i.is in
    record {
      in_range = λ j e. lt_trans (c.requires.backward.earlier c.in-Some.i j c.index-tree-i.result at (sym c.place-next.ensures ∙ e)) (c.loop-next.invariant.in_range c.in-Some.i c.in-Some.is);
      trail = λ rest t. trail-more c.args.tree.now c.loop-next.next c.in-Some.i c.index-tree-i.result c.in-Some.is at (Some c.args.at) c.loop-next.walk.items c.push.new.self.items c.in_ok-push.ensures.items c.loop-next.invariant.trail rest (subst (λ (o : Option ℕ). IsTrail c.args.tree.now o rest) c.place-next.ensures t);
    }

pub returns : goal.returns
returns g c =
    (c.loop-next.walk.items, subst (λ (x : List ℕ). IsTrail c.args.tree.now (Some c.args.at) x) (append-nil c.loop-next.walk.items) (c.loop-next.invariant.trail [] c.in_default.is), c.reverse.ensures.items)
