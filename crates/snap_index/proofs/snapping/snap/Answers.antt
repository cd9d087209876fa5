use Rattle.std.proofs.Common.{◌≡◌, ◌<◌, ℕ, List, arith, length, subst, true, false}
use Rattle.std.specs.Prelude.{None, Some}
use Rattle.geo_integer.specs.Position.{position_of}
use Rattle.snap_index.specs.Candidates.{AreSlots}
use Rattle.snap_index.specs.Ends.{all_ends}
use Rattle.snap_index.specs.Index.{IsJudged}
use Rattle.snap_index.specs.declared.grids.SegmentEnds.{SegmentEnds}
use Rattle.snap_index.proofs.FoundLemmas.{none-kept, out_of_reach, placed-is, snapped-is}
use Rattle.snap_index.proofs.SlotLemmas.{read-is}
use Rattle.snap_index.proofs.snapping.snap.Goals as goal

-- no segment has an open direction of the heading
pub returns-in_default-clause-value : goal.returns-in_default-clause-value
returns-in_default-clause-value c =
    let judged : (s : ℕ) → IsJudged (all_ends c.args.network.now.segments) c.args.base.now.weights c.args.filter.heading (position_of c.args.from) None c.search.new.slots s =
    subst (λ (lines : List SegmentEnds). (s : ℕ) → IsJudged lines c.args.base.now.weights c.args.filter.heading (position_of c.args.from) None c.search.new.slots s) c.requires.grid c.search.ensures.judged in
    let lt : 0 < length c.search.new.slots = omega arith in
    none-kept c.args.network.now.segments c.args.base.now.weights c.args.filter (position_of c.args.from) c.search.new.slots (read-is c.search.new.slots 0 _ None lt c.in_default.is) judged

-- the first isn't in reach, so nothing is
pub returns-then-not-is_in_reach-clause-value : goal.returns-then-not-is_in_reach-clause-value
returns-then-not-is_in_reach-clause-value c =
    let are : AreSlots (all_ends c.args.network.now.segments) c.args.base.now.weights c.args.filter.heading (position_of c.args.from) c.search.new.slots =
    subst (λ (lines : List SegmentEnds). AreSlots lines c.args.base.now.weights c.args.filter.heading (position_of c.args.from) c.search.new.slots) c.requires.grid c.search.ensures.slots in
    let judged : (s : ℕ) → IsJudged (all_ends c.args.network.now.segments) c.args.base.now.weights c.args.filter.heading (position_of c.args.from) None c.search.new.slots s =
    subst (λ (lines : List SegmentEnds). (s : ℕ) → IsJudged lines c.args.base.now.weights c.args.filter.heading (position_of c.args.from) None c.search.new.slots s) c.requires.grid c.search.ensures.judged in
    let lt : 0 < length c.search.new.slots = omega arith in
    out_of_reach c.args.network.now.segments c.args.base.now.weights c.args.filter (position_of c.args.from) c.search.new.slots c.in-Some.best (read-is c.search.new.slots 0 _ (Some c.in-Some.best) lt c.in-Some.is) are judged
    (λ h. let yes : c.is_in_reach.result ≡ true = c.is_in_reach.ensures.1 h in let no : c.is_in_reach.result ≡ false = c.if-not-is_in_reach.true in cc)

-- or it is
pub returns-clause-value : goal.returns-clause-value
returns-clause-value c =
    let are : AreSlots (all_ends c.args.network.now.segments) c.args.base.now.weights c.args.filter.heading (position_of c.args.from) c.search.new.slots =
    subst (λ (lines : List SegmentEnds). AreSlots lines c.args.base.now.weights c.args.filter.heading (position_of c.args.from) c.search.new.slots) c.requires.grid c.search.ensures.slots in
    let judged : (s : ℕ) → IsJudged (all_ends c.args.network.now.segments) c.args.base.now.weights c.args.filter.heading (position_of c.args.from) None c.search.new.slots s =
    subst (λ (lines : List SegmentEnds). (s : ℕ) → IsJudged lines c.args.base.now.weights c.args.filter.heading (position_of c.args.from) None c.search.new.slots s) c.requires.grid c.search.ensures.judged in
    let lt : 0 < length c.search.new.slots = omega arith in
    snapped-is c.args.network.now.segments c.args.base.now.weights c.args.filter (position_of c.args.from) c.search.new.slots c.in-Some.best (read-is c.search.new.slots 0 _ (Some c.in-Some.best) lt c.in-Some.is) are judged (c.is_in_reach.ensures.0 c.if-not-is_in_reach.false)

pub returns-clause-placed : goal.returns-clause-placed
returns-clause-placed c =
    let are : AreSlots (all_ends c.args.network.now.segments) c.args.base.now.weights c.args.filter.heading (position_of c.args.from) c.search.new.slots =
    subst (λ (lines : List SegmentEnds). AreSlots lines c.args.base.now.weights c.args.filter.heading (position_of c.args.from) c.search.new.slots) c.requires.grid c.search.ensures.slots in
    let judged : (s : ℕ) → IsJudged (all_ends c.args.network.now.segments) c.args.base.now.weights c.args.filter.heading (position_of c.args.from) None c.search.new.slots s =
    subst (λ (lines : List SegmentEnds). (s : ℕ) → IsJudged lines c.args.base.now.weights c.args.filter.heading (position_of c.args.from) None c.search.new.slots s) c.requires.grid c.search.ensures.judged in
    let lt : 0 < length c.search.new.slots = omega arith in
    placed-is c.args.network.now.segments c.args.base.now.weights c.args.filter (position_of c.args.from) c.search.new.slots c.in-Some.best (read-is c.search.new.slots 0 _ (Some c.in-Some.best) lt c.in-Some.is) are judged
