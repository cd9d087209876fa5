use Rattle.std.proofs.Common.{◌≡◌, ℕ, ℤ, List, ◌++◌, Vec, Bool, true, false, not, take, arith, rules, sym, ap, ◌∙◌, w64, FitsSigned, to_z, of_z}
use Rattle.std.specs.Global.{Global}
use Rattle.std.proofs.lemmas.Int.{to_z-of_z}
use Rattle.std.proofs.lemmas.List.{append-nil, take_all}
use Rattle.road_turns.specs.Leaving.{leaving_at, exits_in, open_exits}
use Rattle.road_turns.specs.Restrictions.{is_forbidden_at}
use Rattle.road_turns.specs.declared.leaving.Run.{Run}
use Rattle.road_turns.proofs.LeavingLemmas.{exits_onto-more}
use Rattle.road_turns.proofs.leaving.Leaving.open_of_all.Goals.{then-not-forbid_turn+in_ok-extend_from_slice, else-not-forbid_turn}
use Rattle.road_turns.proofs.leaving.Leaving.open_of_all.Goals as goal

pub loop-run-preserved : goal.loop-run-preserved
loop-run-preserved c =
    let kept = c.args.restrictions.now.kept in
    let runs = c.of_all-run-items.result.now in
    let k = c.loop-run.run-index in
    let run = c.run-item.result in
    let test : ℤ → Bool = λ to. not (is_forbidden_at kept c.args.node c.args.from to false) in
    let fits : FitsSigned w64 c.run-item.result.way = search rules in
    let says : c.forbid_turn.result ≡ is_forbidden_at kept c.args.node c.args.from run.way false =
    c.forbid_turn.ensures
    ∙ ap (λ (z : ℤ). is_forbidden_at kept z (to_z w64 (of_z w64 c.args.from)) (to_z w64 (of_z w64 run.way)) false) (to_z-of_z w64 c.args.node c.ranges.node)
    ∙ ap (λ (z : ℤ). is_forbidden_at kept c.args.node z (to_z w64 (of_z w64 run.way)) false) (to_z-of_z w64 c.args.from c.ranges.from)
    ∙ ap (λ (z : ℤ). is_forbidden_at kept c.args.node c.args.from z false) (to_z-of_z w64 run.way fits) in
    let inv : c.loop-run.row.items ≡ open_exits kept c.args.node c.args.from (exits_in (take k runs)) = simp (to_z-of_z, c.ranges.node, c.ranges.from) at c.loop-run.invariant in
    rw (to_z-of_z w64 c.args.node c.ranges.node, to_z-of_z w64 c.args.from c.ranges.from)
    (elim c.if-not-forbid_turn.branch [
      | then-not-forbid_turn+in_ok-extend_from_slice w ↦
          exits_onto-more test runs k run true c.loop-run.row.items _ c.loop-run-test.true c.run-item.is (ap not (sym says ∙ w.if-not-forbid_turn.true)) inv
          (ap (λ (r : Vec ℕ Global). r.items) w.row-is ∙ w.in_ok-extend_from_slice.ensures.items ∙ ap (λ (l : List ℕ). c.loop-run.row.items ++ l) w.deref.ensures.value)
      | else-not-forbid_turn w ↦
          exits_onto-more test runs k run false c.loop-run.row.items _ c.loop-run-test.true c.run-item.is (ap not (sym says ∙ w.if-not-forbid_turn.false)) inv
          (ap (λ (r : Vec ℕ Global). r.items) w.row-is ∙ sym (append-nil c.loop-run.row.items))
    ])

pub returns : goal.returns
returns c =
    let kept = c.args.restrictions.now.kept in
    let runs = c.of_all-run-items.result.now in
    let inv : c.loop-run.row.items ≡ open_exits kept c.args.node c.args.from (exits_in (take c.loop-run.run-index runs)) = simp (to_z-of_z, c.ranges.node, c.ranges.from) at c.loop-run.invariant in
    let all : exits_in runs ≡ leaving_at c.args.self.now.runs c.args.node = simp (to_z-of_z, c.ranges.node) at c.of_all-run-items.ensures in
    inv
    ∙ ap (λ (l : List Run). open_exits kept c.args.node c.args.from (exits_in l)) (take_all c.loop-run.run-index runs (omega arith))
    ∙ ap (open_exits kept c.args.node c.args.from) all
