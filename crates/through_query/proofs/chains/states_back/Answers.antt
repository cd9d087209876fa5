-- Each turn goes one leg back.
use Rattle.std.proofs.Common.{◌≡◌, ℕ, ◌-◌, ◌<◌, [], ◌∷◌, length, reverse, slice_index_or, refl, sym, subst, ap, ◌∙◌, arith}
use Rattle.std.proofs.lemmas.List.{reverse-append}
use Rattle.std.proofs.lemmas.Option.{slice_get_read}
use Rattle.through_query.specs.Layers.{GoesBack, back, befores_at}
use Rattle.through_query.proofs.Back.{back_once, goes_once}
use Rattle.through_query.proofs.Reading.{befores_read, read_or}
use Rattle.through_query.proofs.chains.states_back.Goals as goal

pub loop-number-preserved : goal.loop-number-preserved
loop-number-preserved c =
    let befores = c.args.befores.now in
    let n : ℕ = c.loop-number.number - 1 in
    let state = c.loop-number.state in
    let x = c.index-state.result.now in
    let row = c.index-befores-number.result in
    let some : 0 < c.loop-number.number = c.loop-number-test.true in
    let lt : n < length befores = omega (arith, c.loop-number.invariant.inside, some) in
    let items : befores_at befores n ≡ row.items = befores_read befores n row (slice_get_read befores (length befores) n row refl lt c.index-befores-number.is) in
    let goes = goes_once befores c.loop-number.number state some c.loop-number.invariant.goes in
    let inside : state < length row.items = subst (λ l. state < length l) items goes.0 in
    let next : slice_index_or (befores_at befores n) state 0 ≡ x = ap (λ l. slice_index_or l state 0) items ∙ read_or row.items state x 0 inside c.index-state.ensures in
    record {
      inside = omega (arith, lt);
      more = state ∷ c.loop-number.invariant.more;
      states = ap reverse c.in_ok-push-2.ensures.items ∙ reverse-append c.loop-number.states.items (x ∷ []) ∙ ap (λ l. x ∷ l) c.loop-number.invariant.states;
      same = ap (λ y. back n befores (y ∷ state ∷ c.loop-number.invariant.more)) (sym next) ∙ sym (back_once befores c.loop-number.number state c.loop-number.invariant.more some) ∙ c.loop-number.invariant.same;
      goes = subst (λ y. GoesBack n befores y) next goes.1;
    }
