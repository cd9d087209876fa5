-- Each turn has the next part.
use Rattle.std.proofs.Common.{[], ◌∷◌, ◌++◌, length, take, take_all, eqb, sym, ap, ap₂, ◌∙◌, arith}
use Rattle.std.specs.List.{slice_split}
use Rattle.std.proofs.lemmas.List.{length_push, take_more}
use Rattle.std.proofs.lemmas.Iterator.Consumers.{YieldsList-turn, YieldsList-end}
use Rattle.std.proofs.lemmas.Iterator.Splits.{YieldsList-from_str_split}
use Rattle.option_values.proofs.cutting.parts_of.Goals as goal

pub loop-part-preserved : goal.loop-part-preserved
loop-part-preserved c =
    let text = c.args.text.now in
    let parts = slice_split (λ b. eqb b c.args.separator) text in
    let yielded = c.loop-part.yielded in
    let (lt, here) = YieldsList-turn (YieldsList-from_str_split c.args.separator text c.requires (cc) (cc) (cc)) yielded _ c.loop-part.yielded_by _ _ c.in-Some.part c.in-Some.is c.next.ensures.steps in
    c.in_ok-push.ensures.items
    ∙ ap₂ (λ found next. found ++ next ∷ []) c.loop-part.invariant (c.in_ok-copy_of.ensures ∙ here)
    ∙ sym (take_more parts (length yielded) c.in-Some.part.now lt)
    ∙ ap (λ count. take count parts) (sym (length_push yielded c.in-Some.part))

pub returns : goal.returns
returns c =
    let text = c.args.text.now in
    let parts = slice_split (λ b. eqb b c.args.separator) text in
    let yielded = c.loop-part.yielded in
    let (all, count) = YieldsList-end (YieldsList-from_str_split c.args.separator text c.requires (cc) (cc) (cc)) yielded _ c.loop-part.yielded_by _ _ c.in-None.is c.next.ensures.steps in
    c.loop-part.invariant ∙ take_all (length yielded) parts (omega arith)
