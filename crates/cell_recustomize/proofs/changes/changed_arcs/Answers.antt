-- A place is taken where the two costs are not one.
use Rattle.std.proofs.Common.{◌≡◌, ◌≢◌, length, arith}
use Rattle.std.proofs.lemmas.Bool.{MatchBool-at_false, MatchBool-at_true}
use Rattle.cell_recustomize.proofs.ChangeLemmas.{changes-all, changes-apart, changes-none, changes-same}
use Rattle.cell_recustomize.proofs.changes.changed_arcs.Goals.{then-not-is_same+in_ok-push, else-not-is_same}
use Rattle.cell_recustomize.proofs.changes.changed_arcs.Goals as goal

pub loop-i-init : goal.loop-i-init
loop-i-init g c = rw c.new-places.ensures.items (changes-none c.args.old.now.arc c.args.new.now.arc)

pub loop-i-preserved : goal.loop-i-preserved
loop-i-preserved g c =
    let old = c.args.old.now.arc in
    let new = c.args.new.now.arc in
    let a = c.arc.result in
    let b = c.arc-in-loop-i.result in
    elim c.if-not-is_same.branch [
      | then-not-is_same+in_ok-push w ↦
          rw (w.places-is, w.in_ok-push.ensures.items)
          (changes-apart old new c.loop-i.places.items c.loop-i.i a b c.arc.ensures c.arc-in-loop-i.ensures (MatchBool-at_false (a ≡ b) (a ≢ b) w.if-not-is_same.true c.is_same.ensures) c.loop-i.invariant)
      | else-not-is_same w ↦
          rw w.places-is
          (changes-same old new c.loop-i.places.items c.loop-i.i a b c.arc.ensures c.arc-in-loop-i.ensures (MatchBool-at_true (a ≡ b) (a ≢ b) w.if-not-is_same.false c.is_same.ensures) c.loop-i.invariant)
    ]

pub returns : goal.returns
returns g c =
    let old = c.args.old.now.arc in
    let new = c.args.new.now.arc in
    let old_end : c.loop-i.i ≡ length c.args.old.now.arc = omega (arith, c.arcs-i-end.ensures, c.requires.old.arcs) in
    let new_end : c.loop-i.i ≡ length c.args.new.now.arc = omega (arith, c.arcs-i-end.ensures, c.requires.new.arcs) in
    rw c.of.ensures (changes-all old new c.loop-i.places.items c.loop-i.i c.loop-i.invariant old_end new_end)
