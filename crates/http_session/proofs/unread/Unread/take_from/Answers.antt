use Rattle.std.proofs.Common.{◌≡◌, ◌-◌, ◌<◌, ◌≤◌, ◌++◌, List, ℕ, length, take, ap, sym, ◌∙◌, arith, length-take, length-take-le}
use Rattle.std.proofs.lemmas.Grind.{common_steps}
use Rattle.http_session.proofs.TakeLaws.{put_behind}
use Rattle.http_session.proofs.unread.Unread.take_from.Goals as goal

pub returns : goal.returns
returns g c =
    let held = c.self.inside.held in
    let into = c.take_into.new.into in
    let count = c.in_ok-count.count in
    let took = c.in_ok-count.ensures in
    let within : held ≤ length c.self.inside.bytes = omega (arith, c.self.invariant, c.self.told) in
    let size : length c.args.self.now ≡ held = ap length (sym c.self.view_is) ∙ length-take-le held c.self.inside.bytes within in
    let room : 0 < length into = grind (arith, common_steps, c.take_into.auto.into, c.requires, size) in
    record {
      takes = record {
        got = take count into;
        size = omega (arith, length-take count into, took.bound);
        longer = put_behind c.self.inside.bytes into held (8192 - held) count within took.bound ∙ ap (λ (xs : List ℕ). xs ++ take count into) c.self.view_is;
        took = took.took;
        at_end = λ none. took.at_end none room;
        steady = took.steady;
        sink = took.sink;
      };
    }
