-- What a place found stays found while labels fall.
use Rattle.std.proofs.Common.{◌≡◌, ℕ, ◌<◌, [], length, Some, refl, sym, ◌∙◌, subst, arith, below_more}
use Rattle.std.specs.List.{slice_get}
use Rattle.std.proofs.lemmas.Option.{slice_get_within, same_Some}
use Rattle.list_lemmas.proofs.Gets.{Contains_get, get_Contains, get_is}
use Rattle.search_labels.specs.Labelled.{label_of}
use Rattle.step_search.proofs.Falls.{LabelWithin-falls}
use Rattle.step_search.proofs.Offered.{OnlyGrows-refl, OnlyGrows-trans, head_by_place, hop_by_place}
use Rattle.step_search.proofs.dijkstra.Search.offer_improved.Goals as goal

pub loop-k-init : goal.loop-k-init
loop-k-init g c = record {
  at_work = c.requires.at_work;
  grows = OnlyGrows-refl g.met.C.Cost.laws (g.T.Steps.space c.args.steps.now) [] c.args.self.now;
  rows = refl;
  found = λ k lt. absurd (omega (arith, lt));
}

pub hop_at-hop-requires : goal.hop_at-hop-requires
hop_at-hop-requires g c =
    let same = c.loop-k.invariant.rows in
    let lt : c.loop-k.k < length c.args.self.now.rows.improved.items = omega (arith, c.loop-k-test.true, c.len-k-end.ensures, c.args.self.now.rows.improved.ok.0) in
    let at : slice_get c.args.self.now.rows.improved.items c.loop-k.k ≡ Some c.index-place.result.now = subst (λ x. slice_get x.improved.items c.loop-k.k ≡ Some c.index-place.result.now) same
    (get_is c.loop-k.self.rows.improved.items c.loop-k.k c.index-place.result.now (subst (λ x. c.loop-k.k < length x.improved.items) (sym same) lt) (sym c.index-place.ensures)) in
    c.requires.within c.index-place.result.now (Contains_get c.args.self.now.rows.improved.items c.loop-k.k c.index-place.result.now at)

pub go_by_row-requires-clause-at_work : goal.go_by_row-requires-clause-at_work
go_by_row-requires-clause-at_work g c = c.loop-k.invariant.at_work

pub go_by_row-requires-clause-hop : goal.go_by_row-requires-clause-hop
go_by_row-requires-clause-hop g c = hop_by_place (g.T.Steps.space c.args.steps.now) c.args.node.vertex c.index-place.result.now c.args.places.now.heads.now c.args.places.now.costs.now c.hop_at-hop.result c.requires.heads c.requires.costs c.hop_at-hop.ensures.some

pub go_by_row-requires-clause-head : goal.go_by_row-requires-clause-head
go_by_row-requires-clause-head g c = head_by_place (g.T.Steps.space c.args.steps.now) c.args.node.vertex c.index-place.result.now c.args.places.now.heads.now c.args.places.now.costs.now c.hop_at-hop.result c.requires.heads c.hop_at-hop.ensures.some

pub loop-k-preserved : goal.loop-k-preserved
loop-k-preserved g c =
    let same = c.loop-k.invariant.rows in
    let lt : c.loop-k.k < length c.args.self.now.rows.improved.items = omega (arith, c.loop-k-test.true, c.len-k-end.ensures, c.args.self.now.rows.improved.ok.0) in
    let at : slice_get c.args.self.now.rows.improved.items c.loop-k.k ≡ Some c.index-place.result.now = subst (λ x. slice_get x.improved.items c.loop-k.k ≡ Some c.index-place.result.now) same
    (get_is c.loop-k.self.rows.improved.items c.loop-k.k c.index-place.result.now (subst (λ x. c.loop-k.k < length x.improved.items) (sym same) lt) (sym c.index-place.ensures)) in
    record {
      at_work = c.in_ok-go_by_row.ensures.at_work;
      grows = OnlyGrows-trans g.met.C.Cost.laws (g.T.Steps.space c.args.steps.now) [] c.args.self.now c.loop-k.self c.go_by_row.new.self c.loop-k.invariant.grows c.in_ok-go_by_row.ensures.grows;
      rows = c.in_ok-go_by_row.ensures.rows ∙ same;
      found = below_more _ _
          (λ i less j w s e h k. LabelWithin-falls g.met.C.Cost.laws (label_of c.loop-k.self.labels) (label_of c.go_by_row.new.self.labels) w (g.C.Cost.ops.plus c.args.node.cost s) c.in_ok-go_by_row.ensures.grows.falls (c.loop-k.invariant.found i less j w s e h k))
          (λ j w s e h k.
          let is : j ≡ c.index-place.result.now = same_Some j c.index-place.result.now (sym e ∙ at) in
          c.in_ok-go_by_row.ensures.found w s (c.hop_at-hop.ensures.all w s (subst (λ (x : ℕ). slice_get c.args.places.now.heads.now x ≡ Some w) is h) (subst (λ (x : ℕ). slice_get c.args.places.now.costs.now x ≡ Some (Some s)) is k)));
    }

pub returns-clause-at_work : goal.returns-clause-at_work
returns-clause-at_work g c = c.loop-k.invariant.at_work

pub returns-clause-grows : goal.returns-clause-grows
returns-clause-grows g c = c.loop-k.invariant.grows

pub returns-clause-rows : goal.returns-clause-rows
returns-clause-rows g c = c.loop-k.invariant.rows

pub returns-clause-found : goal.returns-clause-found
returns-clause-found g c j w s b h k =
    let i = get_Contains c.args.self.now.rows.improved.items j b in
    let lt : i.0 < length c.args.self.now.rows.improved.items = slice_get_within c.args.self.now.rows.improved.items i.0 j i.1 in
    c.loop-k.invariant.found i.0 (omega (arith, lt, c.loop-k-test.false, c.len-k-end.ensures, c.args.self.now.rows.improved.ok.0)) j w s i.1 h k
