use Rattle.std.proofs.Common.{◌≡◌, List, subst, sym, true, false}
use Rattle.std.specs.Prelude.{Option}
use Rattle.geo_integer.specs.Position.{position_of}
use Rattle.snap_index.specs.Candidates.{AreSlots, IsOpenLine, Stands}
use Rattle.snap_index.specs.declared.candidates.Candidate.{Candidate}
use Rattle.snap_index.proofs.JudgeLemmas.{candidate-of, candidate-stands, closed-judged}
use Rattle.snap_index.proofs.SlotLemmas.{put-slots, put-stands, put-stay, read-is}
use Rattle.snap_index.proofs.searching.consider.Goals as goal

-- it has none
pub returns-then-not-has_direction-clause-judged : goal.returns-then-not-has_direction-clause-judged
returns-then-not-has_direction-clause-judged c =
    let line = read-is c.args.query.now.lines.now c.args.segment _ c.index-lines-segment.result c.requires.segment (sym c.index-lines-segment.is) in
    closed-judged c.args.query.now.lines.now c.args.query.now.base.now.weights c.args.query.now.heading (position_of c.args.query.now.from) c.index-lines-segment.result c.args.segment c.args.slots.now line
    (λ h. let yes : c.has_direction.result ≡ true = c.has_direction.ensures.1 h in let no : c.has_direction.result ≡ false = c.if-not-has_direction.true in cc)

-- it has one
pub returns-clause-slots : goal.returns-clause-slots
returns-clause-slots c =
    let line = read-is c.args.query.now.lines.now c.args.segment _ c.index-lines-segment.result c.requires.segment (sym c.index-lines-segment.is) in
    let drivable : IsOpenLine c.args.query.now.base.now.weights c.args.query.now.heading c.args.segment c.index-lines-segment.result = c.has_direction.ensures.0 c.if-not-has_direction.false in
    subst (λ (slots : List (Option Candidate)). AreSlots c.args.query.now.lines.now c.args.query.now.base.now.weights c.args.query.now.heading (position_of c.args.query.now.from) slots) (sym c.put.ensures)
    (put-slots c.args.query.now.lines.now c.args.query.now.base.now.weights c.args.query.now.heading (position_of c.args.query.now.from) c.candidate_on.result c.args.slots.now c.requires.slots
    (candidate-of c.args.query.now.lines.now c.args.query.now.base.now.weights c.args.query.now.heading (position_of c.args.query.now.from) c.index-lines-segment.result c.args.segment c.candidate_on.result line drivable c.candidate_on.ensures))

pub returns-clause-stay : goal.returns-clause-stay
returns-clause-stay c = λ remote s h. subst (λ (slots : List (Option Candidate)). Stands remote s slots) (sym c.put.ensures) (put-stay remote s c.candidate_on.result c.args.slots.now h)

pub returns-clause-judged : goal.returns-clause-judged
returns-clause-judged c =
    let line = read-is c.args.query.now.lines.now c.args.segment _ c.index-lines-segment.result c.requires.segment (sym c.index-lines-segment.is) in
    candidate-stands c.args.query.now.lines.now c.args.query.now.base.now.weights c.args.query.now.heading (position_of c.args.query.now.from) c.index-lines-segment.result c.args.segment c.candidate_on.result c.put.new.slots line c.candidate_on.ensures
    (subst (λ (slots : List (Option Candidate)). Stands c.candidate_on.result.remoteness c.candidate_on.result.place.segment slots) (sym c.put.ensures) (put-stands c.candidate_on.result c.args.slots.now))
