-- All rows for the nodes are matched, where there are some.
use Rattle.std.proofs.Common.{◌≡◌, ◌+◌, ◌-◌, ◌≤◌, Option, Some, None, arith, refl, sym, subst, ap, ◌∙◌}
use Rattle.std.specs.HashMap.{get, WritesThrough}
use Rattle.std.specs.Option.{IsSome}
use Rattle.std.proofs.lemmas.Int.{to_z-of_z}
use Rattle.metric_make.specs.LastRows.{triple_eq, row_in, waiting}
use Rattle.metric_make.specs.declared.last_rows.LastRow.{LastRow}
use Rattle.metric_make.proofs.LastRowLemmas.{marked, triple_eq-itself, triple_eq-same, told-absent, told-matched, told-waits}
use Rattle.metric_make.proofs.turn_rows.matching_turn.Goals as goal

pub overflow_sub-last : goal.overflow_sub-last
overflow_sub-last c =
    let there : Some c.in-Some.entry.now ≡ get triple_eq c.args.last.now.entries (c.args.from, c.args.via, c.args.to) = simp (to_z-of_z, c.ranges.from, c.ranges.via, c.ranges.to) at c.in-Some.ensures.value in
    let its : c.in-Some.entry.now.unmatched ≡ waiting (get triple_eq c.args.last.now.entries (c.args.from, c.args.via, c.args.to)) = ap waiting there in
    let few : waiting (get triple_eq c.args.last.now.entries (c.args.from, c.args.via, c.args.to)) ≤ c.args.last.now.unmatched =
    told-waits triple_eq triple_eq-same triple_eq-itself (λ r. (r.from, r.via, r.to)) c.args.rows.now c.requires.0 c.args.last.now.entries c.args.last.now.unmatched c.requires.1 (c.args.from, c.args.via, c.args.to) in
    omega (arith, c.from.ensures, its, few)

pub returns-in-Some-clause-row : goal.returns-in-Some-clause-row
returns-in-Some-clause-row c =
    let there : Some c.in-Some.entry.now ≡ get triple_eq c.args.last.now.entries (c.args.from, c.args.via, c.args.to) = simp (to_z-of_z, c.ranges.from, c.ranges.via, c.ranges.to) at c.in-Some.ensures.value in
    c.row_at.ensures ∙ ap (row_in c.args.rows.now) there ∙ c.requires.1.last (c.args.from, c.args.via, c.args.to)

pub returns-in-Some-clause-told : goal.returns-in-Some-clause-told
returns-in-Some-clause-told c matched told =
    let there : Some c.in-Some.entry.now ≡ get triple_eq c.args.last.now.entries (c.args.from, c.args.via, c.args.to) = simp (to_z-of_z, c.ranges.from, c.ranges.via, c.ranges.to) at c.in-Some.ensures.value in
    let its : c.in-Some.entry.now.unmatched ≡ waiting (get triple_eq c.args.last.now.entries (c.args.from, c.args.via, c.args.to)) = ap waiting there in
    let writes : WritesThrough triple_eq (triple_eq (c.args.from, c.args.via, c.args.to)) c.args.last.now.entries (marked c.in-Some.entry.now) (c.get_mut.follows.lender (marked c.in-Some.entry.now)) =
    simp (to_z-of_z, c.ranges.from, c.ranges.via, c.ranges.to) at (c.get_mut.follows.holds (marked c.in-Some.entry.now)) in
    let some : IsSome (get triple_eq c.args.last.now.entries (c.args.from, c.args.via, c.args.to)) = subst (λ (o : Option LastRow). IsSome o) there refl in
    let few : waiting (get triple_eq c.args.last.now.entries (c.args.from, c.args.via, c.args.to)) ≤ c.args.last.now.unmatched =
    told-waits triple_eq triple_eq-same triple_eq-itself (λ r. (r.from, r.via, r.to)) c.args.rows.now matched c.args.last.now.entries c.args.last.now.unmatched told (c.args.from, c.args.via, c.args.to) in
    let less : (c.args.last.now.unmatched - c.from.result) + c.in-Some.entry.now.unmatched ≡ c.args.last.now.unmatched = omega (arith, c.from.ensures, its, few) in
    told-matched triple_eq triple_eq-same triple_eq-itself (λ r. (r.from, r.via, r.to)) c.args.rows.now matched c.args.last.now.entries c.args.last.now.unmatched told (c.args.from, c.args.via, c.args.to) (c.get_mut.follows.lender (marked c.in-Some.entry.now)) c.in-Some.entry.now
    (c.args.last.now.unmatched - c.from.result) (sym there) (writes.3 some).0 less

pub returns-in-None-clause-row : goal.returns-in-None-clause-row
returns-in-None-clause-row c =
    let none : None ≡ get triple_eq c.args.last.now.entries (c.args.from, c.args.via, c.args.to) = simp (to_z-of_z, c.ranges.from, c.ranges.via, c.ranges.to) at c.in-None.ensures.value in
    ap (row_in c.args.rows.now) none ∙ c.requires.1.last (c.args.from, c.args.via, c.args.to)

pub returns-in-None-clause-told : goal.returns-in-None-clause-told
returns-in-None-clause-told c matched told =
    let none : None ≡ get triple_eq c.args.last.now.entries (c.args.from, c.args.via, c.args.to) = simp (to_z-of_z, c.ranges.from, c.ranges.via, c.ranges.to) at c.in-None.ensures.value in
    rw c.get_mut.follows.holds-at-none (told-absent triple_eq triple_eq-same triple_eq-itself (λ r. (r.from, r.via, r.to)) c.args.rows.now matched c.args.last.now.entries c.args.last.now.unmatched told (c.args.from, c.args.via, c.args.to) (sym none))
