use Rattle.std.proofs.Common.{◌≡◌, sym, ◌∙◌}
use Rattle.std.specs.Str.{IsValidUpTo, valid_up_to}
use Rattle.reply_core.proofs.RequestLemmas.{is-no_text, is-text, target-in, target-long, target-not_text}
use Rattle.reply_core.proofs.answering.target_in.Goals as goal
use Rattle.reply_core.proofs.answering.target_in.Goals.{then-line-gt-LONGEST_LINE-via-then-line-gt-LONGEST_LINE, then-line-gt-LONGEST_LINE-via-else-line-gt-LONGEST_LINE+then-is_err}

-- too long, or no text
pub returns-then-line-gt-LONGEST_LINE : goal.returns-then-line-gt-LONGEST_LINE
returns-then-line-gt-LONGEST_LINE c =
    elim c.then-line-gt-LONGEST_LINE.branch [
      | then-line-gt-LONGEST_LINE-via-then-line-gt-LONGEST_LINE w ↦ target-long c.args.line.now w.if-line-gt-LONGEST_LINE.true
      | then-line-gt-LONGEST_LINE-via-else-line-gt-LONGEST_LINE+then-is_err w ↦
          target-not_text c.args.line.now (is-no_text (λ s. s.now ≡ c.args.line.now) (λ e. IsValidUpTo c.args.line.now (valid_up_to e)) c.args.line.now w.from_utf8.result w.from_utf8.ensures.cases (sym w.is_err.ensures.value ∙ w.if-is_err.true))
    ]

pub returns : goal.returns
returns c =
    target-in c.args.line.now c.strip_prefix.result c.if-line-gt-LONGEST_LINE.false
    (is-text (λ s. s.now ≡ c.args.line.now) (λ e. IsValidUpTo c.args.line.now (valid_up_to e)) c.args.line.now c.from_utf8.result c.from_utf8.ensures.cases (sym c.is_err.ensures.value ∙ c.if-is_err.false)) c.strip_prefix.ensures.cases
