-- Each turn marks the number of one vertex more.
use Rattle.std.proofs.Common.{◌≡◌, ℕ, ◌<◌, Some, length, inl, inr, sym, ◌∙◌, ap, subst, get_or, arith}
use Rattle.std.specs.List.{slice_get}
use Rattle.std.proofs.lemmas.Bool.{cases_lt}
use Rattle.std.proofs.lemmas.Option.{same_Some, slice_get-get_or, slice_get_within}
use Rattle.list_lemmas.proofs.Gets.{get_Contains}
use Rattle.cell_customize.proofs.leaps.mark_all.Goals as goal

pub loop-v-preserved : goal.loop-v-preserved
loop-v-preserved c = λ j v b lt e n.
    let i = c.loop-v.v-index in
    let x = get_or c.args.vertices.now i 0 in
    let at : slice_get c.args.vertices.now i ≡ Some x = slice_get-get_or c.args.vertices.now i 0 c.loop-v-test.true in
    elim (cases_lt j i) [
      | inl less ↦ c.mark.ensures.stays b (c.loop-v.invariant j v b less e n)
      | inr past ↦
          let same : j ≡ i = omega (arith, past, lt) in
          let is : v ≡ x = same_Some v x (sym e ∙ ap (slice_get c.args.vertices.now) same ∙ at) in
          c.mark.ensures.marked b (subst (λ (y : ℕ). slice_get c.args.numbers.now b ≡ Some y) is n)
    ]

pub returns : goal.returns
returns c = λ v b h n.
    let k = get_Contains c.args.vertices.now v h in
    let lt : k.0 < length c.args.vertices.now = slice_get_within c.args.vertices.now k.0 v k.1 in
    let few : k.0 < c.loop-v.v-index = omega (arith, lt) in
    c.loop-v.invariant k.0 v b few k.1 n
