-- Bytes that are refused are not UTF-8.
use Rattle.std.proofs.Common.{◌≡◌, ◌++◌, sym, ap, subst, ◌∙◌}
use Rattle.std.specs.Str.{IsUtf8, is_utf8}
use Rattle.std.proofs.lemmas.Bool.{false_from_ne_true, false≢true}
use Rattle.std.proofs.lemmas.Str.{IsUtf8-from_is_utf8}
use Rattle.percent_encoding.specs.Iter.{decoded_bytes}
use Rattle.percent_encoding.specs.Percent.{percent_decode}
use Rattle.url_read.proofs.parting.decoded.Goals as goal

pub returns : goal.returns
returns c =
    let part = c.args.part.now in
    let bytes : c.append_to.new.out.items ≡ percent_decode part =
    c.in_ok-append_to.ensures.ok
    ∙ ap (λ xs. xs ++ decoded_bytes c.percent_decode.result) c.new-bytes.ensures.items
    ∙ c.percent_decode.ensures.bytes in
    false_from_ne_true (is_utf8 (percent_decode part)) (λ e. false≢true (c.in-Err.ensures.succeeds (subst IsUtf8 (sym bytes) (IsUtf8-from_is_utf8 (percent_decode part) e))))
