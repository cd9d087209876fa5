use Rattle.std.proofs.Common.{◌<◌, ◌≤◌, ◌∙◌, ◌++◌, ◌∷◌, [], ℕ, List, ap, arith, length, subst, sym}
use Rattle.std.proofs.lemmas.List.{length-map, take_all}
use Rattle.list_lemmas.proofs.Fronts.{take-get}
use Rattle.snap_index.specs.Index.{IsOrder}
use Rattle.snap_index.specs.declared.indexes.Spot.{Spot}
use Rattle.snap_index.proofs.IndexLemmas.{order-is, segment-at, segments_of}
use Rattle.snap_index.proofs.SlotLemmas.{read-is}
use Rattle.snap_index.proofs.indexes.order_of.Goals as goal

-- one number more
pub loop-i-preserved : goal.loop-i-preserved
loop-i-preserved c =
    let spots : List Spot = c.sort_unstable_by_key.new.self.items in
    let lt : c.loop-i.i < length spots = omega arith in
    let there = segment-at spots c.loop-i.i c.index-spot.result.now (read-is spots c.loop-i.i _ c.index-spot.result.now lt (sym c.index-spot.ensures)) in
    c.in_ok-push.ensures.items ∙ ap (λ (l : List ℕ). l ++ c.index-spot.result.now.segment ∷ []) c.loop-i.invariant ∙ sym (take-get (segments_of spots) c.loop-i.i c.index-spot.result.now.segment there)

pub returns : goal.returns
returns c =
    let spots : List Spot = c.sort_unstable_by_key.new.self.items in
    let all : length (segments_of spots) ≤ c.loop-i.i = omega (arith, length-map spots (λ (spot : Spot). spot.segment)) in
    subst (λ (l : List ℕ). IsOrder c.args.lines.now l) (sym (c.loop-i.invariant ∙ take_all c.loop-i.i (segments_of spots) all))
    (order-is c.args.lines.now c.in_ok-spots.spots.items spots c.in_ok-spots.ensures.count c.in_ok-spots.ensures.numbered c.sort_unstable_by_key.ensures.permutation)
