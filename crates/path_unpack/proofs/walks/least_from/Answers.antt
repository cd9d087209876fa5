-- The query answers each target, and each turn unpacks one answer more.
use Rattle.std.proofs.Common.{◌≡◌, ℕ, ◌<◌, ◌++◌, ◌∷◌, [], List, Some, get_or, length, length-append, inl, inr, arith, sym, ◌∙◌, ap, subst}
use Rattle.std.specs.List.{slice_get}
use Rattle.std.proofs.lemmas.Option.{same_Some}
use Rattle.list_lemmas.proofs.Gets.{get_is, get_push}
use Rattle.plain_search.specs.Answers.{IsFound}
use Rattle.overlay_query.specs.Answers.{terminals_of}
use Rattle.path_unpack.proofs.walks.least_from.Goals as goal

-- one answer more, to the target at its place
one_more : {T F : Type 0} (P : T → F → Type 0) (targets : List T) (found : List F) (i : ℕ) (item : T) (new : F) →
    length found ≡ i → i < length targets → item ≡ get_or targets i item → P item new →
    ((k : ℕ) (t : T) (answer : F) → slice_get targets k ≡ Some t → slice_get found k ≡ Some answer → P t answer) →
    (k : ℕ) (t : T) (answer : F) → slice_get targets k ≡ Some t → slice_get (found ++ new ∷ []) k ≡ Some answer → P t answer
one_more {T} {F} P targets found i item new n lt is here before k t answer e f = elim (get_push found new k answer f) [
  | inl g ↦ before k t answer e g
  | inr g ↦
      let at : slice_get targets i ≡ Some item = get_is targets i item lt (sym is) in
      let same : item ≡ t = same_Some item t (sym at ∙ ap (slice_get targets) (sym (g.0 ∙ n)) ∙ e) in
      subst (λ (x : T). P x answer) same (subst (λ (y : F). P item y) (sym g.1) here)
]

pub unpacked-requires-clause-answer : goal.unpacked-requires-clause-answer
unpacked-requires-clause-answer g c =
    let lt : c.loop-i.i < length c.in_ok-packed.packed.items = omega (arith, c.loop-i-test.true, c.in_ok-packed.ensures.one_each) in
    let target = get_is c.args.targets.now c.loop-i.i c.index-targets-i.result c.loop-i-test.true (sym c.index-targets-i.is) in
    let answer = get_is c.in_ok-packed.packed.items c.loop-i.i c.index.result.now lt (sym c.index.ensures) in
    (terminals_of c.args.starts.now c.args.targets.now, c.in_ok-packed.ensures.least c.loop-i.i c.index-targets-i.result c.index.result.now target answer)

pub loop-i-preserved : goal.loop-i-preserved
loop-i-preserved g c =
    let n = c.loop-i.invariant.one_each in
    record {
      one_each = rw c.in_ok-push.ensures.items (omega (arith, length-append c.loop-i.found.items (c.in_ok-answer.answer ∷ []), n));
      least = rw c.in_ok-push.ensures.items (one_more (IsFound g.C.Cost.ops c.args.frame.now.graph c.args.weights.now c.args.starts.now) c.args.targets.now c.loop-i.found.items c.loop-i.i c.index-targets-i.result c.in_ok-answer.answer n c.loop-i-test.true c.index-targets-i.is c.in_ok-answer.ensures c.loop-i.invariant.least);
    }
