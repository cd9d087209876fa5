-- The cheaper of the two stands there.
use Rattle.std.proofs.Common.{◌≡◌, Some, sym, ◌∙◌, ap}
use Rattle.std.specs.List.{slice_get}
use Rattle.std.specs.Ordering.{is_lt}
use Rattle.std.proofs.lemmas.Option.{slice_get_within}
use Rattle.list_lemmas.proofs.Gets.{get_is}
use Rattle.cell_customize.proofs.Bundled.{Gathers-cheaper, Gathers-dearer}
use Rattle.cell_customize.proofs.leaps.Gathering.lower.Goals as goal

pub returns-then-is_lt : goal.returns-then-is_lt
returns-then-is_lt g c =
    let hops = c.args.self.now.hops.items in
    let at : slice_get hops c.args.at ≡ Some c.index.result.now = get_is hops c.args.at c.index.result.now (slice_get_within hops c.args.at _ c.requires.here.1) (sym c.index.ensures) in
    Gathers-cheaper g.met.C.Cost.laws c.args.from g.C.Ord.cmp g.met.C.Cost.same_order hops c.args.at c.args.head c.args.cost c.index.result.now c.requires.from c.requires.here at (sym (c.is_lt.ensures ∙ ap is_lt c.cmp.ensures) ∙ c.if-is_lt.true)

pub returns-else-is_lt : goal.returns-else-is_lt
returns-else-is_lt g c =
    let hops = c.args.self.now.hops.items in
    let at : slice_get hops c.args.at ≡ Some c.index.result.now = get_is hops c.args.at c.index.result.now (slice_get_within hops c.args.at _ c.requires.here.1) (sym c.index.ensures) in
    Gathers-dearer g.met.C.Cost.laws c.args.from g.C.Ord.cmp g.met.C.Cost.same_order hops c.args.at c.args.head c.args.cost c.index.result.now c.requires.from c.requires.here at (sym (c.is_lt.ensures ∙ ap is_lt c.cmp.ensures) ∙ c.if-is_lt.false)
