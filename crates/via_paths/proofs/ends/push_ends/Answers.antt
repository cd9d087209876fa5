use Rattle.std.proofs.Common.{ℕ, ◌+◌, ◌<◌, ◌==◌, List, length, get_or, take, arith}
use Rattle.std.specs.HashSet.{contains}
use Rattle.std.specs.List.{list_any}
use Rattle.std.proofs.lemmas.List.Folds.{list_any_more}
use Rattle.via_paths.specs.Tries.{pair_eq}
use Rattle.via_paths.proofs.Gathering.{end-step}
use Rattle.via_paths.proofs.ends.push_ends.Goals as goal

pub loop-i-preserved : goal.loop-i-preserved
loop-i-preserved c = λ h e.
    let ends : List ℕ = c.args.ends.now in
    let i : ℕ = c.loop-i.i in
    let lt : i < length ends = omega arith in
    let x : ℕ = get_or ends i 0 in
    end-step (contains pair_eq c.args.vertices.now (h, e)) (c.args.group == h) (list_any (λ x. x == e) (take i ends)) (x == e)
    (contains pair_eq c.loop-i.vertices (h, e)) (contains pair_eq c.insert.new.self (h, e)) (list_any (λ x. x == e) (take (i + 1) ends))
    (c.loop-i.invariant h e) (c.in_ok-insert.ensures.updates.0 (h, e)) (list_any_more (λ x. x == e) ends i 0 lt)
