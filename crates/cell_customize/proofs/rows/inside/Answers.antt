-- The exit's label is the least cost inside the cell.
use Rattle.std.proofs.Common.{◌≡◌, ◌≢◌, ℕ, Some, length, sym, ◌∙◌, ap, subst, arith}
use Rattle.std.specs.List.{slice_get}
use Rattle.std.proofs.lemmas.Option.{same_Some, slice_get_within}
use Rattle.cell_frame.specs.Borders.{Holds}
use Rattle.cell_frame.specs.Inside.{IsInsideValue}
use Rattle.cell_customize.proofs.Searched.{found_inside, found_leapt, none_inside}
use Rattle.cell_customize.proofs.rows.inside.Goals as goal

pub returns-then-entry-exit : goal.returns-then-entry-exit
returns-then-entry-exit g c =
    let o = c.args.leaping.now.steps.now.steps.now in
    subst (λ (x : ℕ). IsInsideValue g.C.Cost.ops o.frame.now.graph o.weights.now (Holds o.frame.now.cells o.parts.now.cell) c.args.entry x c.nothing_paid.result) c.if-entry-exit.true c.nothing_paid.ensures

pub returns-in-None : goal.returns-in-None
returns-in-None g c =
    let o = c.args.leaping.now.steps.now.steps.now in
    none_inside g.met.C.Cost.laws o.frame.now o.weights.now o.cliques.now o.parts.now.cell c.requires.inner c.args.leaping.now.steps.now.local.now c.requires.filled c.args.entry c.requires.entry c.args.exit c.requires.exit c.if-entry-exit.false c.args.start c.requires.start c.in-None.ensures.none

pub get-requires : goal.get-requires
get-requires g c =
    let size : length c.args.labels.now.list ≡ length c.args.leaping.now.steps.now.local.now.numbers = c.requires.least.size in
    let below = slice_get_within c.args.leaping.now.steps.now.local.now.numbers c.in-Some.until c.args.exit c.in-Some.ensures.some in
    omega (arith, size, below)

pub returns-in-Some : goal.returns-in-Some
returns-in-Some g c =
    let o = c.args.leaping.now.steps.now.steps.now in
    let numbers = c.args.leaping.now.steps.now.local.now.numbers in
    let named : slice_get numbers c.in-Some.until ≡ Some c.args.exit = c.in-Some.ensures.some in
    let apart : c.args.start ≢ c.in-Some.until = λ same. c.if-entry-exit.false (same_Some c.args.entry c.args.exit (sym c.requires.start ∙ ap (slice_get numbers) same ∙ named)) in
    let cost = c.requires.least.each c.in-Some.until _ apart c.get.ensures in
    found_inside g.met.C.Cost.laws o.frame.now o.weights.now o.cliques.now o.parts.now.cell c.requires.inner c.args.leaping.now.steps.now.local.now c.requires.filled c.args.entry c.requires.entry c.args.exit c.requires.exit c.if-entry-exit.false c.args.start c.in-Some.until c.requires.start named _
    (found_leapt g.met.C.Cost.laws o.frame.now o.weights.now o.cliques.now o.parts.now.cell c.requires.inner c.args.leaping.now.steps.now.local.now c.requires.filled c.args.leaping.now.leaps.now c.requires.leapt c.args.entry c.args.exit c.requires.exit c.if-entry-exit.false c.args.start c.in-Some.until c.requires.start named _ cost)
