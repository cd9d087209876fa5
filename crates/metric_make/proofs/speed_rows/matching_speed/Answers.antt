-- All rows for the nodes are matched, where there are some.
use Rattle.std.proofs.Common.{◌≡◌, ◌+◌, ◌-◌, ◌≤◌, Option, Some, None, arith, refl, sym, subst, ap, ◌∙◌}
use Rattle.std.specs.HashMap.{get, WritesThrough}
use Rattle.std.specs.Option.{IsSome}
use Rattle.std.proofs.lemmas.Int.{to_z-of_z}
use Rattle.metric_make.specs.LastRows.{pair_eq, row_in, waiting}
use Rattle.metric_make.specs.declared.last_rows.LastRow.{LastRow}
use Rattle.metric_make.proofs.LastRowLemmas.{marked, pair_eq-itself, pair_eq-same, told-absent, told-matched, told-waits}
use Rattle.metric_make.proofs.speed_rows.matching_speed.Goals as goal

pub overflow_sub-last : goal.overflow_sub-last
overflow_sub-last c =
    let there : Some c.in-Some.entry.now ≡ get pair_eq c.args.last.now.entries (c.args.tail, c.args.head) = simp (to_z-of_z, c.ranges.tail, c.ranges.head) at c.in-Some.ensures.value in
    let its : c.in-Some.entry.now.unmatched ≡ waiting (get pair_eq c.args.last.now.entries (c.args.tail, c.args.head)) = ap waiting there in
    let few : waiting (get pair_eq c.args.last.now.entries (c.args.tail, c.args.head)) ≤ c.args.last.now.unmatched =
    told-waits pair_eq pair_eq-same pair_eq-itself (λ r. (r.from, r.to)) c.args.rows.now c.requires.0 c.args.last.now.entries c.args.last.now.unmatched c.requires.1 (c.args.tail, c.args.head) in
    omega (arith, c.from.ensures, its, few)

pub returns-in-Some-clause-row : goal.returns-in-Some-clause-row
returns-in-Some-clause-row c =
    let there : Some c.in-Some.entry.now ≡ get pair_eq c.args.last.now.entries (c.args.tail, c.args.head) = simp (to_z-of_z, c.ranges.tail, c.ranges.head) at c.in-Some.ensures.value in
    c.row_at.ensures ∙ ap (row_in c.args.rows.now) there ∙ c.requires.1.last (c.args.tail, c.args.head)

pub returns-in-Some-clause-told : goal.returns-in-Some-clause-told
returns-in-Some-clause-told c matched told =
    let there : Some c.in-Some.entry.now ≡ get pair_eq c.args.last.now.entries (c.args.tail, c.args.head) = simp (to_z-of_z, c.ranges.tail, c.ranges.head) at c.in-Some.ensures.value in
    let its : c.in-Some.entry.now.unmatched ≡ waiting (get pair_eq c.args.last.now.entries (c.args.tail, c.args.head)) = ap waiting there in
    let writes : WritesThrough pair_eq (pair_eq (c.args.tail, c.args.head)) c.args.last.now.entries (marked c.in-Some.entry.now) (c.get_mut.follows.lender (marked c.in-Some.entry.now)) =
    simp (to_z-of_z, c.ranges.tail, c.ranges.head) at (c.get_mut.follows.holds (marked c.in-Some.entry.now)) in
    let some : IsSome (get pair_eq c.args.last.now.entries (c.args.tail, c.args.head)) = subst (λ (o : Option LastRow). IsSome o) there refl in
    let few : waiting (get pair_eq c.args.last.now.entries (c.args.tail, c.args.head)) ≤ c.args.last.now.unmatched =
    told-waits pair_eq pair_eq-same pair_eq-itself (λ r. (r.from, r.to)) c.args.rows.now matched c.args.last.now.entries c.args.last.now.unmatched told (c.args.tail, c.args.head) in
    let less : (c.args.last.now.unmatched - c.from.result) + c.in-Some.entry.now.unmatched ≡ c.args.last.now.unmatched = omega (arith, c.from.ensures, its, few) in
    told-matched pair_eq pair_eq-same pair_eq-itself (λ r. (r.from, r.to)) c.args.rows.now matched c.args.last.now.entries c.args.last.now.unmatched told (c.args.tail, c.args.head) (c.get_mut.follows.lender (marked c.in-Some.entry.now)) c.in-Some.entry.now
    (c.args.last.now.unmatched - c.from.result) (sym there) (writes.3 some).0 less

pub returns-in-None-clause-row : goal.returns-in-None-clause-row
returns-in-None-clause-row c =
    let none : None ≡ get pair_eq c.args.last.now.entries (c.args.tail, c.args.head) = simp (to_z-of_z, c.ranges.tail, c.ranges.head) at c.in-None.ensures.value in
    ap (row_in c.args.rows.now) none ∙ c.requires.1.last (c.args.tail, c.args.head)

pub returns-in-None-clause-told : goal.returns-in-None-clause-told
returns-in-None-clause-told c matched told =
    let none : None ≡ get pair_eq c.args.last.now.entries (c.args.tail, c.args.head) = simp (to_z-of_z, c.ranges.tail, c.ranges.head) at c.in-None.ensures.value in
    rw c.get_mut.follows.holds-at-none (told-absent pair_eq pair_eq-same pair_eq-itself (λ r. (r.from, r.to)) c.args.rows.now matched c.args.last.now.entries c.args.last.now.unmatched told (c.args.tail, c.args.head) (sym none))
