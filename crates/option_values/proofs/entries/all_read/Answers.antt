-- Each turn has the next entry.
use Rattle.std.proofs.Common.{◌≡◌, ℕ, List, length, get_or, Some, None, lit<, eqb, sym, ap, ◌∙◌, arith}
use Rattle.std.specs.List.{slice_split}
use Rattle.std.proofs.lemmas.List.{length_push}
use Rattle.std.proofs.lemmas.Iterator.Consumers.{YieldsList-turn, YieldsList-end}
use Rattle.std.proofs.lemmas.Iterator.Splits.{YieldsList-from_str_split}
use Rattle.option_values.proofs.AllRead.{IsFound-start, IsFound-more, IsFound-stop, IsFound-all}
use Rattle.option_values.proofs.entries.all_read.Goals as goal

abbrev parts : List ℕ → List (List ℕ)
parts text = slice_split (λ b. eqb b 59) text

pub loop-text-init : goal.loop-text-init
loop-text-init g c = IsFound-start g.E.Entry.read (parts c.args.value.now) c.new-entries.result.items c.new-entries.ensures.items

pub returns-in_default : goal.returns-in_default
returns-in_default g c =
    let text = c.args.value.now in
    let (lt, here) = YieldsList-turn (YieldsList-from_str_split 59 text (lit< tt) (cc) (cc) (cc)) c.loop-text.yielded _ c.loop-text.yielded_by _ _ c.in-Some.text c.in-Some.is c.next.ensures.steps in
    let none : g.E.Entry.read (get_or (parts text) (length c.loop-text.yielded) c.in-Some.text.now) ≡ None = ap g.E.Entry.read (sym here) ∙ sym c.of_text.ensures ∙ c.in_default.is in
    IsFound-stop g.E.Entry.read (parts text) c.loop-text.entries.items (length c.loop-text.yielded) c.in-Some.text.now c.loop-text.invariant lt none

pub loop-text-preserved : goal.loop-text-preserved
loop-text-preserved g c =
    let text = c.args.value.now in
    let (lt, here) = YieldsList-turn (YieldsList-from_str_split 59 text (lit< tt) (cc) (cc) (cc)) c.loop-text.yielded _ c.loop-text.yielded_by _ _ c.in-Some.text c.in-Some.is c.next.ensures.steps in
    let entries = c.loop-text.entries in
    let entry : g.E.Entry.read (get_or (parts text) (length c.loop-text.yielded) c.in-Some.text.now) ≡ Some c.in-Some-of_text.entry = ap g.E.Entry.read (sym here) ∙ sym c.of_text.ensures ∙ c.in-Some-of_text.is in
    let count = length_push c.loop-text.yielded c.in-Some.text in
    let more = IsFound-more g.E.Entry.read (parts text) entries.items (length c.loop-text.yielded) c.in-Some-of_text.entry c.in-Some.text.now c.loop-text.invariant lt entry in
    rw (c.in_ok-push.ensures.items, count) more

pub returns : goal.returns
returns g c =
    let text = c.args.value.now in
    let (all, count) = YieldsList-end (YieldsList-from_str_split 59 text (lit< tt) (cc) (cc) (cc)) c.loop-text.yielded _ c.loop-text.yielded_by _ _ c.in-None.is c.next.ensures.steps in
    IsFound-all g.E.Entry.read (parts text) c.loop-text.entries.items (length c.loop-text.yielded) c.loop-text.invariant (omega arith)
