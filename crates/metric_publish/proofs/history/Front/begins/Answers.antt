use Rattle.std.proofs.Common.{◌≤◌, ap, subst, arith, length, List}
use Rattle.std.proofs.lemmas.Bool.Decides.{nat_tests}
use mathlib.Core.List.{IsPrefix}
use Rattle.metric_publish.specs.declared.entry.Entry.{Entry}
use Rattle.metric_publish.proofs.Fronts.{prefix_shorter}
use Rattle.metric_publish.proofs.history.Front.begins.Goals as goal

pub returns-clause-yes : goal.returns-clause-yes
returns-clause-yes g c le =
    let both = c.learn.new.self.log in
    let this : IsPrefix c.args.self.now.token.log both = subst (λ (l : List (Entry g.row.V.Denot)). IsPrefix l both) (ap (λ s. s.log) c.again-both.ensures) c.learn.ensures.2 in
    let small : c.args.self.now.len ≤ c.args.other.now.len = grind (arith, nat_tests) in
    let less : length c.args.self.now.token.log ≤ length c.args.other.now.token.log = omega (arith, c.args.self.now.sized, c.args.other.now.sized) in
    prefix_shorter c.args.self.now.token.log c.args.other.now.token.log both this c.learn.ensures.3 less

pub returns-clause-no : goal.returns-clause-no
returns-clause-no g c more =
    let both = c.learn.new.self.log in
    let this : IsPrefix c.args.self.now.token.log both = subst (λ (l : List (Entry g.row.V.Denot)). IsPrefix l both) (ap (λ s. s.log) c.again-both.ensures) c.learn.ensures.2 in
    let small : c.args.other.now.len ≤ c.args.self.now.len = grind (arith, nat_tests) in
    let less : length c.args.other.now.token.log ≤ length c.args.self.now.token.log = omega (arith, c.args.self.now.sized, c.args.other.now.sized) in
    prefix_shorter c.args.other.now.token.log c.args.self.now.token.log both c.learn.ensures.3 this less
