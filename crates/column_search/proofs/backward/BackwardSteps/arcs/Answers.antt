-- The names are those of the arcs, and behind them of the entries.
use Rattle.std.proofs.Common.{ℕ, ◌+◌, List, length, sym, ◌∙◌, ap, subst, arith}
use Rattle.std.specs.List.{Contains, range_with_len}
use Rattle.column_search.proofs.Counting.{list_is, arcs_few}
use Rattle.column_search.proofs.Naming.{range_names, ways_named}
use Rattle.column_search.proofs.backward.BackwardSteps.arcs.Goals as goal

pub overflow_cast-count : goal.overflow_cast-count
overflow_cast-count g c =
    let o = c.args.self.now.overlay.now in
    let h = c.requires.ready in
    let is = list_is o.frame.now.graph o.heads.now h.by_head c.args.v c.leading_to-arcs.result.now c.requires.vertex c.leading_to-arcs.ensures in
    omega (arith, ap length is, arcs_few o.frame.now.graph o.heads.now h.by_head c.args.v c.requires.vertex, h.few, h.toward.small.few, c.entries.ensures.few)

pub range-requires : goal.range-requires
range-requires g c =
    let o = c.args.self.now.overlay.now in
    let h = c.requires.ready in
    let is = list_is o.frame.now.graph o.heads.now h.by_head c.args.v c.leading_to-arcs.result.now c.requires.vertex c.leading_to-arcs.ensures in
    omega (arith, ap length is, arcs_few o.frame.now.graph o.heads.now h.by_head c.args.v c.requires.vertex, h.few, h.toward.small.few, c.entries.ensures.few)

pub returns-clause-named : goal.returns-clause-named
returns-clause-named g c = λ i h.
    let o = c.args.self.now.overlay.now in
    let s = c.args.self.now.toward.now in
    let is = list_is o.frame.now.graph o.heads.now c.requires.ready.by_head c.args.v c.leading_to-arcs.result.now c.requires.vertex c.leading_to-arcs.ensures in
    let range = c.range.ensures ∙ ap (λ (xs : List ℕ). range_with_len 0 (length xs + c.entries.result)) is in
    range_names o.frame.now s.cell s.target c.args.v g.C.Cost.ops o.weights.now o.heads.now c.entries.result c.entries.ensures.named i (subst (λ (xs : List ℕ). Contains xs i) range h)

pub returns-clause-all : goal.returns-clause-all
returns-clause-all g c = λ i u cost h.
    let o = c.args.self.now.overlay.now in
    let s = c.args.self.now.toward.now in
    let is = list_is o.frame.now.graph o.heads.now c.requires.ready.by_head c.args.v c.leading_to-arcs.result.now c.requires.vertex c.leading_to-arcs.ensures in
    let range = c.range.ensures ∙ ap (λ (xs : List ℕ). range_with_len 0 (length xs + c.entries.result)) is in
    subst (λ (xs : List ℕ). Contains xs i) (sym range) (ways_named o.frame.now s.cell s.target c.args.v g.C.Cost.ops o.weights.now o.heads.now c.entries.result c.entries.ensures.all i u cost h)
