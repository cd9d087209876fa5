-- Each turn has the rank of one hop more.
use Rattle.std.proofs.Common.{◌≡◌, ◌++◌, ◌∷◌, [], Some, length, length-append, sym, ◌∙◌, ap, subst, arith}
use Rattle.std.specs.List.{slice_get}
use Rattle.list_lemmas.proofs.Gets.{get_is}
use Rattle.cell_customize.specs.Leaping.{IsRankOf}
use Rattle.cell_customize.proofs.Ranked.{ranks_none, ranks_push}
use Rattle.cell_customize.proofs.leaps.rank_all.Goals as goal

pub loop-place-init : goal.loop-place-init
loop-place-init g c = record {
  size = ap length c.clear.ensures.items;
  each = λ i hop arc e r. ranks_none i arc (subst (λ xs. slice_get xs i ≡ Some arc) c.clear.ensures.items r);
}

pub loop-place-preserved : goal.loop-place-preserved
loop-place-preserved g c =
    let ranks = c.loop-place.ranks.items in
    let hops = c.args.hops.now in
    let before = c.loop-place.invariant in
    let n : length ranks ≡ c.loop-place.place = before.size in
    let hop = c.index-hops-place.result in
    let here : slice_get hops c.loop-place.place ≡ Some hop = get_is hops c.loop-place.place hop c.loop-place-test.true (sym c.index-hops-place.is) in
    let at : slice_get hops (length ranks) ≡ Some hop = ap (slice_get hops) n ∙ here in
    let is : IsRankOf g.C.Cost.ops g.C.Cost.ranked hop c.of.result = record { head = c.of.ensures.head; short = c.of.ensures.short; adds = c.of.ensures.adds } in
    let pushed : c.push.new.self.items ≡ ranks ++ c.of.result ∷ [] = c.in_ok-push.ensures.items in
    record {
      size = omega (arith, ap length pushed, length-append ranks (c.of.result ∷ []), n);
      each = λ i h x e r. ranks_push g.C.Cost.ops g.C.Cost.ranked hops ranks hop c.of.result at is before.each i h x e (subst (λ xs. slice_get xs i ≡ Some x) pushed r);
    }

pub returns : goal.returns
returns g c = record {
  size = let n = c.loop-place.invariant.size in omega (arith, n, c.loop-place-test.false, c.loop-place.auto.place-end);
  each = c.loop-place.invariant.each;
}
