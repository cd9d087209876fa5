-- What is gathered from the end on are the leaps of the vertex.
use Rattle.std.proofs.Common.{◌≡◌, ℕ, length, rules, ◌∙◌, subst}
use Rattle.cell_customize.specs.Leaping.{ArcHop, Gathers, Leap, IsGoal}
use Rattle.cell_customize.proofs.Bundled.{AreBundles-push}
use Rattle.cell_customize.proofs.Taking.{Gathers-leaps, one_fits}
use Rattle.cell_customize.proofs.leaps.Leaps.take.Goals as goal

pub take_arcs-requires-clause-fits : goal.take_arcs-requires-clause-fits
take_arcs-requires-clause-fits g c = λ v t arc. one_fits g.met.C.Cost.laws (g.T.Steps.space c.args.steps.now) 0 c.requires.space c.args.u v c.ZERO.result t (c.ZERO.ensures ∙ g.met.C.Cost.zero_is) arc

pub returns-clause-bundles : goal.returns-clause-bundles
returns-clause-bundles g c =
    let S = g.T.Steps.space c.args.steps.now in
    let ops = g.C.Cost.ops in
    let s = c.args.self.now in
    let old = s.gathering.hops.items in
    let mid = c.take_arcs.new.self.hops.items in
    let new = c.take_row.new.self.hops.items in
    let from = c.len-from.result in
    let same : c.len-from.result ≡ c.in_ok-begin.begin = search rules in
    let begins : c.in_ok-begin.begin ≡ length old = search rules in
    let ends : c.in_ok-end.end ≡ length new = search rules in
    let arcs = subst (λ z. Gathers ops old mid from (λ v d. (t : _) × ArcHop S c.args.u v t × (d ≡ ops.plus z t))) (c.ZERO.ensures ∙ g.met.C.Cost.zero_is) c.in_ok-take_arcs.ensures in
    let row = rw c.as_slice.ensures.value at c.in_ok-take_row.ensures in
    let all = Gathers-leaps g.met.C.Cost.laws S from (IsGoal s.goals.items) c.requires.space c.args.u old mid new arcs row in
    let leaps = subst (λ (n : ℕ). Gathers ops old new n (Leap ops S (IsGoal s.goals.items) c.args.u)) same all in
    rw c.in_ok-push.ensures.items (AreBundles-push ops S (IsGoal s.goals.items) old new s.bundles.items c.args.u c.in_ok-begin.begin c.in_ok-end.end (Leap ops S (IsGoal s.goals.items) c.args.u) begins ends (λ v d p. p) (λ v d p. p) leaps c.requires.bundles)
