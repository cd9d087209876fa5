-- Each turn has the row of one entry more.
use Rattle.std.proofs.Common.{◌≡◌, ◌++◌, List, ℕ, [], Some, length, get_or, subst, sym, ◌∙◌, ap, arith}
use Rattle.std.specs.List.{slice_get}
use Rattle.std.proofs.lemmas.Option.{slice_get-get_or}
use Rattle.std.proofs.lemmas.List.{append_assoc, append-nil}
use Rattle.cell_customize.specs.Levels.{AreRows}
use Rattle.cell_customize.specs.Piling.{AreRows-none, AreRows-push}
use Rattle.cell_customize.proofs.rows.rows.Goals as goal

pub loop-entry-init : goal.loop-entry-init
loop-entry-init g c = record { clique = []; behind = sym (append-nil _); rows = AreRows-none g.C.Cost.ops c.args.leaping.now.steps.now.steps.now.frame.now c.args.leaping.now.steps.now.steps.now.weights.now c.args.leaping.now.steps.now.steps.now.parts.now.cell }

pub loop-entry-preserved : goal.loop-entry-preserved
loop-entry-preserved g c =
    let before = c.loop-entry.invariant in
    let i = c.loop-entry.entry-index in
    let made = c.in_ok-row.ensures in
    let at = subst (λ (xs : List ℕ). slice_get xs i ≡ Some (get_or c.args.entries.now i 0)) c.requires.entries (slice_get-get_or c.args.entries.now i 0 c.loop-entry-test.true) in
    record {
      clique = before.clique ++ made.0;
      behind = made.1 ∙ ap (λ xs. xs ++ made.0) before.behind ∙ append_assoc c.args.values.now before.clique made.0;
      rows = AreRows-push g.C.Cost.ops c.args.leaping.now.steps.now.steps.now.frame.now c.args.leaping.now.steps.now.steps.now.weights.now c.args.leaping.now.steps.now.steps.now.parts.now.cell before.clique made.0 i _ at made.2 before.rows;
    }

pub returns : goal.returns
returns g c =
    let whole = c.loop-entry.invariant in
    let all : c.loop-entry.entry-index ≡ length c.args.entries.now = omega (arith, c.loop-entry-test.false) in
    (whole.clique, whole.behind, subst (AreRows g.C.Cost.ops c.args.leaping.now.steps.now.steps.now.frame.now c.args.leaping.now.steps.now.steps.now.weights.now c.args.leaping.now.steps.now.steps.now.parts.now.cell whole.clique) (all ∙ ap length c.requires.entries) whole.rows)
