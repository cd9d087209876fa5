-- Each turn has the next option.
use Rattle.std.proofs.Common.{◌≡◌, length, get_or, true, false, Some, lit<, sym, ap, ◌∙◌, arith, rules}
use Rattle.std.proofs.lemmas.List.{length_push}
use Rattle.std.proofs.lemmas.Iterator.Consumers.{YieldsList-turn, YieldsList-end}
use Rattle.std.proofs.lemmas.Iterator.Splits.{YieldsList-from_str_split}
use Rattle.url_read.specs.Judging.{is_legal, options_refusal, refused_for}
use Rattle.url_read.specs.Options.{name_of}
use Rattle.url_read.specs.Refusals.{bad_option}
use Rattle.url_read.proofs.Judged.{AreLegal-more, first_bad-here, first_bad-none}
use Rattle.url_read.proofs.LastValues.{options_of-parts, parts}
use Rattle.url_read.proofs.judging.check_options.Goals as goal

pub returns-then-not-is_legal-clause-refusal : goal.returns-then-not-is_legal-clause-refusal
returns-then-not-is_legal-clause-refusal c =
    let query = c.args.query.now in
    let count = length c.loop-option.yielded in
    let option = c.in-Some.option.now in
    let legal = is_legal c.args.service in
    let (lt, here) = YieldsList-turn (YieldsList-from_str_split 38 query (lit< tt) (cc) (cc) (cc)) c.loop-option.yielded _ c.loop-option.yielded_by _ _ c.in-Some.option c.in-Some.is c.next.ensures.steps in
    let bad : legal (get_or (parts query) count option) ≡ false = ap legal (sym here) ∙ search rules in
    ap (options_refusal c.args.service) (options_of-parts query (sym c.if-is_empty.ensures))
    ∙ ap refused_for (first_bad-here legal (parts query) count c.loop-option.invariant option lt bad)
    ∙ ap (λ o. Some (bad_option (name_of o))) (sym here)
    ∙ ap (λ name. Some (bad_option name)) (sym c.name_of.ensures)
    ∙ ap Some (sym c.in_ok-bad_option.ensures)

pub loop-option-preserved : goal.loop-option-preserved
loop-option-preserved c =
    let query = c.args.query.now in
    let count = length c.loop-option.yielded in
    let option = c.in-Some.option.now in
    let legal = is_legal c.args.service in
    let (lt, here) = YieldsList-turn (YieldsList-from_str_split 38 query (lit< tt) (cc) (cc) (cc)) c.loop-option.yielded _ c.loop-option.yielded_by _ _ c.in-Some.option c.in-Some.is c.next.ensures.steps in
    let good : legal (get_or (parts query) count option) ≡ true = ap legal (sym here) ∙ search rules in
    rw (length_push c.loop-option.yielded c.in-Some.option)
    (AreLegal-more legal (parts query) count c.loop-option.invariant option lt good)

pub returns-clause-legal : goal.returns-clause-legal
returns-clause-legal c =
    let query = c.args.query.now in
    let legal = is_legal c.args.service in
    let (all, count) = YieldsList-end (YieldsList-from_str_split 38 query (lit< tt) (cc) (cc) (cc)) c.loop-option.yielded _ c.loop-option.yielded_by _ _ c.in-None.is c.next.ensures.steps in
    ap (options_refusal c.args.service) (options_of-parts query (sym c.if-is_empty.ensures))
    ∙ ap refused_for (first_bad-none legal (parts query) (length c.loop-option.yielded) c.loop-option.invariant (omega arith))
