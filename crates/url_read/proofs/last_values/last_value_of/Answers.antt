-- Each turn has the next option.
use Rattle.std.proofs.Common.{◌≡◌, length, get_or, lit<, sym, ap, ◌∙◌, arith}
use Rattle.std.specs.Option.{option_copied, option_or}
use Rattle.std.proofs.lemmas.List.{length_push}
use Rattle.std.proofs.lemmas.Iterator.Consumers.{YieldsList-turn, YieldsList-end}
use Rattle.std.proofs.lemmas.Iterator.Splits.{YieldsList-from_str_split}
use Rattle.url_read.specs.Options.{last_value_of, value_named}
use Rattle.url_read.proofs.LastValues.{IsLast-start, IsLast-more, IsLast-all, option_copied-or, options_of-parts, parts}
use Rattle.url_read.proofs.last_values.last_value_of.Goals as goal

pub loop-option-init : goal.loop-option-init
loop-option-init c = IsLast-start c.args.name.now (parts c.args.query.now)

pub loop-option-preserved : goal.loop-option-preserved
loop-option-preserved c =
    let query = c.args.query.now in
    let name = c.args.name.now in
    let count = length c.loop-option.yielded in
    let (lt, here) = YieldsList-turn (YieldsList-from_str_split 38 query (lit< tt) (cc) (cc) (cc)) c.loop-option.yielded _ c.loop-option.yielded_by _ _ c.in-Some.option c.in-Some.is c.next.ensures.steps in
    let next : option_copied c.or-last.result ≡ option_or (value_named name (get_or (parts query) count c.in-Some.option.now)) (option_copied c.loop-option.last) =
    ap option_copied c.or-last.ensures
    ∙ option_copied-or c.value_named.result c.loop-option.last
    ∙ ap (λ o. option_or o (option_copied c.loop-option.last)) (c.value_named.ensures ∙ ap (value_named name) here) in
    rw (length_push c.loop-option.yielded c.in-Some.option)
    (IsLast-more name (parts query) (option_copied c.loop-option.last) count c.in-Some.option.now _ c.loop-option.invariant lt next)

pub returns : goal.returns
returns c =
    let query = c.args.query.now in
    let name = c.args.name.now in
    let (all, count) = YieldsList-end (YieldsList-from_str_split 38 query (lit< tt) (cc) (cc) (cc)) c.loop-option.yielded _ c.loop-option.yielded_by _ _ c.in-None.is c.next.ensures.steps in
    IsLast-all name (parts query) (option_copied c.loop-option.last) (length c.loop-option.yielded) c.loop-option.invariant (omega arith)
    ∙ sym (ap (last_value_of name) (options_of-parts query (sym c.if-is_empty.ensures)))
