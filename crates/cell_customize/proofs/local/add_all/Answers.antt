-- Each turn gives a number to one vertex more.
use Rattle.std.proofs.Common.{◌<◌, length, arith}
use Rattle.std.proofs.lemmas.Option.{slice_get-get_or, slice_get_within}
use Rattle.list_lemmas.proofs.Gets.{get_Contains}
use Rattle.cell_customize.proofs.Numbered.{Grows-refl, Grows-trans, Grows-adds, named_push}
use Rattle.cell_customize.proofs.local.add_all.Goals as goal

pub loop-v-init : goal.loop-v-init
loop-v-init c = record {
  named = λ k w lt e. absurd (omega (arith, lt));
  grows = λ n below. Grows-refl n c.args.numbers.now;
}

pub loop-v-preserved : goal.loop-v-preserved
loop-v-preserved c =
    let i = c.loop-v.v-index in
    let at = slice_get-get_or c.args.vertices.now i 0 c.loop-v-test.true in
    record {
      named = named_push c.args.vertices.now c.loop-v.numbers c.add.new.self i _ _ at c.in_ok-add.ensures.adds c.in_ok-add.ensures.number c.loop-v.invariant.named;
      grows = λ n below. Grows-trans n c.args.numbers.now c.loop-v.numbers c.add.new.self (c.loop-v.invariant.grows n below) (Grows-adds n c.loop-v.numbers c.add.new.self _ (below i _ at) c.in_ok-add.ensures.adds);
    }

pub returns-clause-named : goal.returns-clause-named
returns-clause-named c = λ v h.
    let g = get_Contains c.args.vertices.now v h in
    let lt : g.0 < length c.args.vertices.now = slice_get_within c.args.vertices.now g.0 v g.1 in
    c.loop-v.invariant.named g.0 v (omega (arith, lt, c.loop-v-test.false)) g.1

pub returns-clause-grows : goal.returns-clause-grows
returns-clause-grows c = c.loop-v.invariant.grows
