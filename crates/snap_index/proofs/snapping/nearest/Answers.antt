use Rattle.std.proofs.Common.{◌≡◌, ◌<◌, ◌≤◌, ◌∙◌, ℕ, List, arith, ap, length, subst, sym}
use Rattle.std.specs.Prelude.{None, Option}
use Rattle.std.specs.List.{AllByRecursion}
use Rattle.geo_integer.specs.Position.{position_of}
use Rattle.snap_index.specs.Candidates.{AreSlots, IsEmptySlot, places_found}
use Rattle.snap_index.specs.Ends.{all_ends}
use Rattle.snap_index.specs.Firsts.{AreFirsts}
use Rattle.snap_index.specs.Index.{IsJudged}
use Rattle.snap_index.specs.declared.candidates.Candidate.{Candidate}
use Rattle.snap_index.specs.declared.grids.SegmentEnds.{SegmentEnds}
use Rattle.snap_index.specs.declared.snapping.Snapped.{Snapped}
use Rattle.snap_index.proofs.FoundLemmas.{firsts-are, found-placed, if-ok}
use Rattle.snap_index.proofs.SlotLemmas.{empty-slots, given-back}
use Rattle.snap_index.proofs.snapping.nearest.Goals as goal

pub search-requires-clause-slots : goal.search-requires-clause-slots
search-requires-clause-slots c =
    empty-slots c.args.grid.now c.args.base.now.weights c.args.filter.heading (position_of c.args.from) c.deref_mut.result.now
    (subst (λ (l : List (Option Candidate)). AllByRecursion IsEmptySlot l) (sym c.deref_mut.ensures.value) c.in_ok-slots.ensures.empty)

pub returns-clause-firsts : goal.returns-clause-firsts
returns-clause-firsts c =
    let are : AreSlots (all_ends c.args.network.now.segments) c.args.base.now.weights c.args.filter.heading (position_of c.args.from) c.search.new.slots =
    subst (λ (lines : List SegmentEnds). AreSlots lines c.args.base.now.weights c.args.filter.heading (position_of c.args.from) c.search.new.slots) c.requires.grid c.search.ensures.slots in
    let judged : (s : ℕ) → IsJudged (all_ends c.args.network.now.segments) c.args.base.now.weights c.args.filter.heading (position_of c.args.from) None c.search.new.slots s =
    subst (λ (lines : List SegmentEnds). (s : ℕ) → IsJudged lines c.args.base.now.weights c.args.filter.heading (position_of c.args.from) None c.search.new.slots s) c.requires.grid c.search.ensures.judged in
    let items = ap length c.deref_mut.ensures.value in
    let whole : length c.in_ok-slots.slots.items ≡ length c.search.new.slots = omega (arith, items) in
    let all : c.in_ok-slots.slots.len ≡ length c.search.new.slots = omega (arith, items) in
    let same : c.deref.result.now ≡ c.search.new.slots = c.deref.ensures.value ∙ given-back c.in_ok-slots.slots.len c.search.new.slots c.in_ok-slots.slots.items whole all in
    let count : length c.search.new.slots ≡ c.args.number = let given = c.in_ok-slots.ensures.count in omega (arith, whole, given) in
    if-ok c.found.result _ (λ found. AreFirsts c.args.network.now.segments c.args.base.now.weights c.args.filter (position_of c.args.from) c.args.number found.items)
    (λ found e. subst (λ (l : List Snapped). AreFirsts c.args.network.now.segments c.args.base.now.weights c.args.filter (position_of c.args.from) c.args.number l) (sym (e ∙ ap (places_found c.args.filter.radius (position_of c.args.from)) same))
    (firsts-are c.args.network.now.segments c.args.base.now.weights c.args.filter (position_of c.args.from) c.args.number c.search.new.slots count are judged))
    c.found.ensures

pub returns-clause-placed : goal.returns-clause-placed
returns-clause-placed c =
    let are : AreSlots (all_ends c.args.network.now.segments) c.args.base.now.weights c.args.filter.heading (position_of c.args.from) c.search.new.slots =
    subst (λ (lines : List SegmentEnds). AreSlots lines c.args.base.now.weights c.args.filter.heading (position_of c.args.from) c.search.new.slots) c.requires.grid c.search.ensures.slots in
    let items = ap length c.deref_mut.ensures.value in
    let whole : length c.in_ok-slots.slots.items ≡ length c.search.new.slots = omega (arith, items) in
    let all : c.in_ok-slots.slots.len ≡ length c.search.new.slots = omega (arith, items) in
    let same : c.deref.result.now ≡ c.search.new.slots = c.deref.ensures.value ∙ given-back c.in_ok-slots.slots.len c.search.new.slots c.in_ok-slots.slots.items whole all in
    if-ok c.found.result _ (λ found. AllByRecursion (λ (one : Snapped). (one.place.segment < length c.args.network.now.segments) × (one.place.at ≤ 1024)) found.items)
    (λ found e. subst (λ (l : List Snapped). AllByRecursion (λ (one : Snapped). (one.place.segment < length c.args.network.now.segments) × (one.place.at ≤ 1024)) l) (sym (e ∙ ap (places_found c.args.filter.radius (position_of c.args.from)) same))
    (found-placed c.args.network.now.segments c.args.base.now.weights c.args.filter (position_of c.args.from) c.search.new.slots are))
    c.found.ensures
