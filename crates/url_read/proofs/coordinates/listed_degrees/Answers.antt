-- Each turn has the next coordinate.
use Rattle.std.proofs.Common.{◌≡◌, ℕ, List, length, get_or, Some, None, Err, lit<, eqb, sym, ap, ◌∙◌, arith}
use Rattle.std.specs.List.{slice_split}
use Rattle.std.proofs.lemmas.List.{length_push}
use Rattle.std.proofs.lemmas.Iterator.Consumers.{YieldsList-turn, YieldsList-end}
use Rattle.std.proofs.lemmas.Iterator.Splits.{YieldsList-from_str_split}
use Rattle.url_read.specs.Coordinates.{degrees_of, or_refused}
use Rattle.url_read.specs.Refusals.{bad_coordinate}
use Rattle.url_read.proofs.Numbered.{IsFound-start, IsFound-more, IsFound-stop, IsFound-all}
use Rattle.url_read.proofs.coordinates.listed_degrees.Goals as goal

abbrev parts : List ℕ → List (List ℕ)
parts text = slice_split (λ b. eqb b 59) text

pub loop-coordinate-init : goal.loop-coordinate-init
loop-coordinate-init c = IsFound-start degrees_of (parts c.args.coordinates.now) c.new-degrees.result.items c.new-degrees.ensures.items

pub returns-in_default-clause-refusal : goal.returns-in_default-clause-refusal
returns-in_default-clause-refusal c =
    let text = c.args.coordinates.now in
    let (lt, here) = YieldsList-turn (YieldsList-from_str_split 59 text (lit< tt) (cc) (cc) (cc)) c.loop-coordinate.yielded _ c.loop-coordinate.yielded_by _ _ c.in-Some.coordinate c.in-Some.is c.next.ensures.steps in
    let degrees = c.loop-coordinate.degrees in
    let none : degrees_of (get_or (parts text) (length c.loop-coordinate.yielded) c.in-Some.coordinate.now) ≡ None = ap degrees_of (sym here) ∙ sym c.degrees_of.ensures ∙ c.in_default.is in
    let count : c.len.result ≡ length degrees.items = omega (arith, degrees.ok.0) in
    ap (or_refused bad_coordinate) (IsFound-stop degrees_of (parts text) degrees.items (length c.loop-coordinate.yielded) c.in-Some.coordinate.now c.loop-coordinate.invariant lt none)
    ∙ ap (λ number. Err (bad_coordinate number)) (sym count)
    ∙ ap Err (sym c.in_ok-bad_coordinate.ensures)

pub loop-coordinate-preserved : goal.loop-coordinate-preserved
loop-coordinate-preserved c =
    let text = c.args.coordinates.now in
    let (lt, here) = YieldsList-turn (YieldsList-from_str_split 59 text (lit< tt) (cc) (cc) (cc)) c.loop-coordinate.yielded _ c.loop-coordinate.yielded_by _ _ c.in-Some.coordinate c.in-Some.is c.next.ensures.steps in
    let degrees = c.loop-coordinate.degrees in
    let pair : degrees_of (get_or (parts text) (length c.loop-coordinate.yielded) c.in-Some.coordinate.now) ≡ Some c.in-Some-degrees_of.pair = ap degrees_of (sym here) ∙ sym c.degrees_of.ensures ∙ c.in-Some-degrees_of.is in
    let count = length_push c.loop-coordinate.yielded c.in-Some.coordinate in
    let more = IsFound-more degrees_of (parts text) degrees.items (length c.loop-coordinate.yielded) c.in-Some-degrees_of.pair c.in-Some.coordinate.now c.loop-coordinate.invariant lt pair in
    rw (c.in_ok-push.ensures.items, count) more

pub returns-clause-degrees : goal.returns-clause-degrees
returns-clause-degrees c =
    let text = c.args.coordinates.now in
    let (all, count) = YieldsList-end (YieldsList-from_str_split 59 text (lit< tt) (cc) (cc) (cc)) c.loop-coordinate.yielded _ c.loop-coordinate.yielded_by _ _ c.in-None.is c.next.ensures.steps in
    ap (or_refused bad_coordinate) (IsFound-all degrees_of (parts text) c.loop-coordinate.degrees.items (length c.loop-coordinate.yielded) c.loop-coordinate.invariant (omega arith))
