-- A place is taken where the two costs are not one.
use Rattle.std.proofs.Common.{◌≡◌, ◌≢◌, length, arith}
use Rattle.std.proofs.lemmas.Bool.{MatchBool-at_false, MatchBool-at_true}
use Rattle.cell_recustomize.proofs.ChangeLemmas.{changes-all, changes-apart, changes-none, changes-same}
use Rattle.cell_recustomize.proofs.changes.changed_vertices.Goals.{then-not-is_same_vertex+in_ok-push, else-not-is_same_vertex}
use Rattle.cell_recustomize.proofs.changes.changed_vertices.Goals as goal

pub loop-v-init : goal.loop-v-init
loop-v-init g c = rw c.new-places.ensures.items (changes-none c.args.old.now.vertex c.args.new.now.vertex)

pub loop-v-preserved : goal.loop-v-preserved
loop-v-preserved g c =
    let old = c.args.old.now.vertex in
    let new = c.args.new.now.vertex in
    let a = c.vertex.result in
    let b = c.vertex-in-loop-v.result in
    elim c.if-not-is_same_vertex.branch [
      | then-not-is_same_vertex+in_ok-push w ↦
          rw (w.places-is, w.in_ok-push.ensures.items)
          (changes-apart old new c.loop-v.places.items c.loop-v.v a b c.vertex.ensures c.vertex-in-loop-v.ensures (MatchBool-at_false (a ≡ b) (a ≢ b) w.if-not-is_same_vertex.true c.is_same_vertex.ensures) c.loop-v.invariant)
      | else-not-is_same_vertex w ↦
          rw w.places-is
          (changes-same old new c.loop-v.places.items c.loop-v.v a b c.vertex.ensures c.vertex-in-loop-v.ensures (MatchBool-at_true (a ≡ b) (a ≢ b) w.if-not-is_same_vertex.false c.is_same_vertex.ensures) c.loop-v.invariant)
    ]

pub returns : goal.returns
returns g c =
    let old = c.args.old.now.vertex in
    let new = c.args.new.now.vertex in
    let old_end : c.loop-v.v ≡ length c.args.old.now.vertex = omega (arith, c.vertices-v-end.ensures, c.requires.old.vertices) in
    let new_end : c.loop-v.v ≡ length c.args.new.now.vertex = omega (arith, c.vertices-v-end.ensures, c.requires.new.vertices) in
    rw c.of.ensures (changes-all old new c.loop-v.places.items c.loop-v.v c.loop-v.invariant old_end new_end)
