-- Each turn puts one number more.
use Rattle.std.proofs.Common.{◌≡◌, ◌∷◌, [], length, length-append, subst, arith}
use Rattle.std.proofs.lemmas.Option.{slice_get-get_or}
use Rattle.cell_customize.specs.Local.{AreHeads}
use Rattle.cell_customize.proofs.Numbered.{Keeps-refl, Keeps-trans, Keeps-push, Grows-refl, Grows-trans, Grows-adds}
use Rattle.cell_customize.proofs.Locals.{AreHeads-push}
use Rattle.cell_customize.proofs.local.push_heads.Goals as goal

pub loop-v-init : goal.loop-v-init
loop-v-init c = record {
  grows = λ n below. Grows-refl n c.args.numbers.now;
  keeps = Keeps-refl c.args.heads.now.items;
  size = omega arith;
  heads = record { within = omega arith; each = λ k v lt e. absurd (omega (arith, lt)) };
}

pub loop-v-preserved : goal.loop-v-preserved
loop-v-preserved c =
    let before = c.loop-v.invariant in
    let i = c.loop-v.v-index in
    let at = slice_get-get_or c.args.vertices.now i 0 c.loop-v-test.true in
    let head = c.in_ok-head.head in
    record {
      grows = λ n below. Grows-trans n c.args.numbers.now c.loop-v.numbers c.add.new.self (before.grows n below) (Grows-adds n c.loop-v.numbers c.add.new.self _ (below i _ at) c.in_ok-head.ensures.adds);
      keeps = rw c.in_ok-push.ensures.items (Keeps-trans c.args.heads.now.items c.loop-v.heads.items _ before.keeps (Keeps-push c.loop-v.heads.items head));
      size = rw c.in_ok-push.ensures.items (omega (arith, before.size, length-append c.loop-v.heads.items (head ∷ [])));
      heads = rw c.in_ok-push.ensures.items (AreHeads-push c.loop-v.numbers c.add.new.self c.loop-v.heads.items c.args.vertices.now (length c.args.heads.now.items) i _ head c.in_ok-head.ensures.adds.keeps before.size at c.in_ok-head.ensures.number before.heads);
    }

pub returns-clause-grows : goal.returns-clause-grows
returns-clause-grows c = c.loop-v.invariant.grows

pub returns-clause-keeps : goal.returns-clause-keeps
returns-clause-keeps c = c.loop-v.invariant.keeps

pub returns-clause-heads : goal.returns-clause-heads
returns-clause-heads c =
    let all : c.loop-v.v-index ≡ length c.args.vertices.now = omega (arith, c.loop-v-test.false) in
    subst (AreHeads c.loop-v.numbers c.loop-v.heads.items (length c.args.heads.now.items) c.args.vertices.now) all c.loop-v.invariant.heads
