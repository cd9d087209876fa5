-- The byte is the last of those that are held, or comes after as many as are held.
use Rattle.std.proofs.Common.{◌≡◌, ◌+◌, ◌<◌, ◌≤◌, [], ◌∷◌, ◌++◌, length, take, sym, ◌∙◌, arith, length-append, rules}
use Rattle.std.proofs.lemmas.List.{take_all, take-append-le}
use Rattle.line_session.proofs.asking.hold.Goals as goal

pub returns-then-len-ge-MOST_HELD : goal.returns-then-len-ge-MOST_HELD
returns-then-len-ge-MOST_HELD c =
    let held = c.args.buffer.now.held.items in
    let many : 8194 ≤ length held = omega (arith, c.args.buffer.now.held.ok.0) in
    let few : length held ≤ 8194 = c.args.buffer.now.short in
    sym (take-append-le 8194 held (c.args.byte ∷ []) many ∙ take_all 8194 held few)

pub returns : goal.returns
returns c =
    let held = c.args.buffer.now.held.items in
    let few : length held < 8194 = omega (arith, c.args.buffer.now.held.ok.0) in
    let pushed : c.push.new.self.items ≡ held ++ c.args.byte ∷ [] = search rules in
    pushed ∙ sym (take_all 8194 (held ++ c.args.byte ∷ []) (omega (arith, few, length-append held (c.args.byte ∷ []))))
