-- The block stands behind all others, and has no values yet.
use Rattle.std.proofs.Common.{◌≡◌, ℕ, ◌++◌, None, length, replicate, rules, ◌∙◌, ap, sym}
use Rattle.row_labels.specs.declared.blocks.Span.{Span}
use Rattle.row_labels.proofs.Apart.{AreApart-appended, AreApart-same, kept-appended, no_shorter}
use Rattle.row_labels.proofs.rows.append_block.Goals as goal

pub returns-in_err-put-clause-apart : goal.returns-in_err-put-clause-apart
returns-in_err-put-clause-apart g c =
    AreApart-same c.args.blocks.now c.put.new.self (length c.args.words.now) (length c.extend.new.self) c.in_err-put.ensures.err
    (no_shorter c.args.words.now (replicate c.args.count None) c.extend.new.self c.in_ok-extend.ensures.extended) c.requires.apart

pub returns-clause-apart : goal.returns-clause-apart
returns-clause-apart g c =
    let span : Span = record { first = c.in-Ok.first; count = c.in-Ok-try_from.places } in
    let first : c.in-Ok.first ≡ c.len.result = search rules in
    let places : c.in-Ok-try_from.places ≡ c.args.count = search rules in
    AreApart-appended c.args.blocks.now c.put.new.self c.args.name span c.args.words.now c.extend.new.self c.in_ok-put.ensures.here c.put.ensures.others (first ∙ c.len.ensures)
    (c.in_ok-extend.ensures.extended ∙ ap (λ (n : ℕ). c.args.words.now ++ replicate n None) (sym places)) c.requires.apart

pub returns-clause-kept : goal.returns-clause-kept
returns-clause-kept g c =
    let span : Span = record { first = c.in-Ok.first; count = c.in-Ok-try_from.places } in
    let first : c.in-Ok.first ≡ c.len.result = search rules in
    let places : c.in-Ok-try_from.places ≡ c.args.count = search rules in
    kept-appended c.args.blocks.now c.put.new.self c.args.name span c.args.words.now c.extend.new.self c.in_ok-put.ensures.here c.put.ensures.others (first ∙ c.len.ensures)
    (c.in_ok-extend.ensures.extended ∙ ap (λ (n : ℕ). c.args.words.now ++ replicate n None) (sym places))
