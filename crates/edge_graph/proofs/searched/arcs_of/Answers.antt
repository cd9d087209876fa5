use Rattle.std.proofs.Common.{◌≡◌, ℕ, List, [], Option, subst}
use Rattle.std.proofs.lemmas.Result.{IfOk-weaker}
use Rattle.via_paths.specs.declared.expansion.Copies.{Copies}
use Rattle.via_paths.specs.Made.{AreMadeOf}
use Rattle.edge_graph.specs.NetworkParts.{AreArcsOf, AreCopiesFor}
use Rattle.edge_graph.specs.declared.searched.Arcs.{Arcs}
use Rattle.edge_graph.proofs.CopyLemmas.{arcs-plain}
use Rattle.edge_graph.proofs.searched.arcs_of.Goals as goal

pub returns-in-Some-clause-are : goal.returns-in-Some-clause-are
returns-in-Some-clause-are c =
    let copies : Copies = c.in-Some.copies in
    let turns : List (ℕ × ℕ) = c.args.turns.items in
    IfOk-weaker c.arcs_with.result
    (λ (arcs : Arcs). (n : ℕ) (words : List (List ℕ)) → AreMadeOf n words copies → AreArcsOf n turns words arcs.stands_for.items arcs.list.items)
    (λ (arcs : Arcs). (n : ℕ) (words : List (List ℕ)) → AreCopiesFor n words c.args.copies → AreArcsOf n turns words arcs.stands_for.items arcs.list.items)
    (λ arcs are. λ n words made. are n words (subst (λ (o : Option Copies). AreCopiesFor n words o) c.in-Some.is made))
    c.arcs_with.ensures.are

pub returns-in-None-clause-are : goal.returns-in-None-clause-are
returns-in-None-clause-are c = λ n words none.
    let empty : words ≡ [] = subst (λ (o : Option Copies). AreCopiesFor n words o) c.in-None.is none in
    arcs-plain n c.args.turns.items words c.new-stands_for.result.items empty c.new-stands_for.ensures.items c.requires.few
