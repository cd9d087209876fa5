use Rattle.std.proofs.Common.{◌-◌, ◌∷◌, ◌++◌, [], List, ap, drop, get_or, length, sym, take, ◌∙◌}
use Rattle.search_graph.specs.declared.costs.WeightDurLen.{WeightDurLen}
use Rattle.road_places.specs.Paid.{paid_along}
use Rattle.route_steps.proofs.ListLemmas.{ends-apart, none-there, one-there}
use Rattle.route_steps.proofs.WalkLemmas.{entries-pushed}
use Rattle.route_steps.proofs.paid.paid_along.Goals.{in-empty, in-len1+in_ok-push-in-len1, in-len2-up+in_ok-push-in-len2-up+in_ok-push_whole-in-len2-up+in_ok-push-in-len2-up-2}
use Rattle.route_steps.proofs.paid.paid_along.Goals as goal

-- an entry for each vertex
pub returns : goal.returns
returns c =
    let w = c.args.base.now.weights in
    let p = c.args.from in
    let q = c.args.to in
    let walk = c.args.walk.now in
    elim c.if-walk-lt1.branch [
      | in-empty b ↦ rw b.paid-is (c.in_ok-paid.ensures.items ∙ sym (ap (paid_along w p q) (none-there walk b.in-empty.len_below)))
      | in-len1+in_ok-push-in-len1 b ↦
          rw b.paid-is
          (b.in_ok-push-in-len1.ensures.items ∙ ap (λ (l : List WeightDurLen). l ++ b.paid_between.result ∷ []) c.in_ok-paid.ensures.items ∙ ap (λ (x : WeightDurLen). x ∷ []) b.paid_between.ensures
          ∙ sym (ap (paid_along w p q) (one-there walk b.in-len1.len_at_least b.in-len1.len_below)))
      | in-len2-up+in_ok-push-in-len2-up+in_ok-push_whole-in-len2-up+in_ok-push-in-len2-up-2 b ↦
          rw b.paid-is
          (entries-pushed w p q walk (get_or walk 0 0) (get_or walk (length walk - 1) 0) (take (length walk - 1 - 1) (drop 1 walk)) b.paid_behind.result b.paid_before.result
          c.in_ok-paid.paid.items b.push-in-len2-up.new.self.items b.push_whole.new.paid.items b.push-in-len2-up-2.new.self.items
          (ends-apart walk b.in-len2-up.len_at_least) b.paid_behind.ensures b.paid_before.ensures
          c.in_ok-paid.ensures.items b.in_ok-push-in-len2-up.ensures.items b.in_ok-push_whole-in-len2-up.ensures b.in_ok-push-in-len2-up-2.ensures.items)
    ]
