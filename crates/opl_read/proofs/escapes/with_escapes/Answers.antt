-- An escape more.
use Rattle.std.proofs.Common.{◌≡◌, ◌++◌, Some, sym, ◌∙◌, rules}
use Rattle.std.specs.Char.{encode_utf8}
use Rattle.std.specs.Prelude.{string_bytes}
use Rattle.opl_read.specs.Escapes.{character_of}
use Rattle.opl_read.proofs.Escaping.{unescaped-more}
use Rattle.opl_read.proofs.escapes.with_escapes.Goals as goal

pub loop-before-preserved : goal.loop-before-preserved
loop-before-preserved c =
    let text = string_bytes c.loop-before.text in
    let before = c.in-Some.before.now in
    let digits = c.in-Some-parted_at.digits.now in
    let behind = c.in-Some-parted_at.behind.now in
    let character = c.in-Some-character_of.character in
    let pushed : string_bytes c.push.new.self ≡ (text ++ before) ++ encode_utf8 character = search rules in
    let known : character_of digits ≡ Some character = sym c.character_of.ensures ∙ c.in-Some-character_of.is in
    (search rules, unescaped-more text _ c.loop-before.rest.now before c.in-Some.escape.now digits behind character pushed c.in-Some.ensures.parts c.in-Some-parted_at.ensures.parts known ∙ c.loop-before.invariant.1)
