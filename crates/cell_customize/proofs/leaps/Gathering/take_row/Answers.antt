-- Each turn takes what lies behind one place more.
use Rattle.std.proofs.Common.{◌≡◌, ℕ, ◌<◌, ◌≤◌, Some, List, length, get_or, ap, subst, arith}
use Rattle.std.specs.List.{slice_get}
use Rattle.std.proofs.lemmas.Option.{slice_get-get_or}
use Rattle.cell_customize.specs.Leaping.{IsGoal}
use Rattle.cell_customize.proofs.Bundled.{Gathers-none}
use Rattle.cell_customize.proofs.Taking.{ByPlaces-more, ByPlaces-all, row_head, two_fit}
use Rattle.cell_customize.proofs.leaps.Gathering.take_row.Goals as goal

pub loop-place-init : goal.loop-place-init
loop-place-init g c = record {
  within = c.requires.from;
  gathers = Gathers-none g.met.C.Cost.laws c.args.from c.args.self.now.hops.items _ (λ v d p. let lt : p.0 < 0 = p.3 in absurd (omega (arith, lt)));
}

pub take_open-requires-clause-vertex : goal.take_open-requires-clause-vertex
take_open-requires-clause-vertex g c = λ s e.
    let S = g.T.Steps.space c.args.steps.now in
    let place = c.loop-place.place in
    let x = get_or c.heads-heads.result.now place 0 in
    let at : slice_get (S.heads c.args.u) place ≡ Some x = subst (λ (xs : List ℕ). slice_get xs place ≡ Some x) c.heads-heads.ensures (slice_get-get_or c.heads-heads.result.now place 0 c.loop-place-test.true) in
    let cost = rw e at c.cost_at.ensures.some in
    row_head g.met.C.Cost.laws S c.args.from c.requires.space c.args.u place x s at (c.costs-costs.ensures.some place s cost)

pub take_open-requires-clause-fits : goal.take_open-requires-clause-fits
take_open-requires-clause-fits g c = λ s e v t arc.
    let S = g.T.Steps.space c.args.steps.now in
    let place = c.loop-place.place in
    let x = get_or c.heads-heads.result.now place 0 in
    let at : slice_get (S.heads c.args.u) place ≡ Some x = subst (λ (xs : List ℕ). slice_get xs place ≡ Some x) c.heads-heads.ensures (slice_get-get_or c.heads-heads.result.now place 0 c.loop-place-test.true) in
    let cost = rw e at c.cost_at.ensures.some in
    two_fit g.met.C.Cost.laws S c.args.from c.requires.space c.args.u place x v s t at (c.costs-costs.ensures.some place s cost) arc

pub take_open-requires-clause-from : goal.take_open-requires-clause-from
take_open-requires-clause-from g c = c.loop-place.invariant.within

pub loop-place-preserved : goal.loop-place-preserved
loop-place-preserved g c =
    let S = g.T.Steps.space c.args.steps.now in
    let before = c.loop-place.invariant in
    let place = c.loop-place.place in
    let x = get_or c.heads-heads.result.now place 0 in
    let at : slice_get (S.heads c.args.u) place ≡ Some x = subst (λ (xs : List ℕ). slice_get xs place ≡ Some x) c.heads-heads.ensures (slice_get-get_or c.heads-heads.result.now place 0 c.loop-place-test.true) in
    let within : c.args.from ≤ length c.loop-place.self.hops.items = before.within in
    let longer : length c.loop-place.self.hops.items ≤ length c.take_open.new.self.hops.items = c.in_ok-take_open.ensures.longer in
    record {
      within = omega (arith, within, longer);
      gathers = ByPlaces-more g.met.C.Cost.laws S c.args.from (IsGoal c.args.goals.now) c.args.u place x c.cost_at.result c.args.self.now.hops.items c.loop-place.self.hops.items c.take_open.new.self.hops.items at
          (λ s e. let cost = rw e at c.cost_at.ensures.some in c.costs-costs.ensures.some place s cost)
          (λ s h. c.cost_at.ensures.all s (c.costs-costs.ensures.all place s h))
          before.gathers c.in_ok-take_open.ensures;
    }

pub returns : goal.returns
returns g c =
    let S = g.T.Steps.space c.args.steps.now in
    let long : length c.heads-heads.result.now ≡ length (S.heads c.args.u) = ap length c.heads-heads.ensures in
    ByPlaces-all g.met.C.Cost.laws S c.args.from (IsGoal c.args.goals.now) c.args.u c.loop-place.place c.args.self.now.hops.items c.loop-place.self.hops.items (omega (arith, long)) c.loop-place.invariant.gathers
