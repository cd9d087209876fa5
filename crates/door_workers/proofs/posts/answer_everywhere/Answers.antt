use Rattle.std.proofs.Common.{◌≡◌, length, get_or, rules}
use Rattle.door_workers.specs.declared.posts.Post.{Post}
use Rattle.door_workers.specs.Serving.{AnsweredAt}
use Rattle.door_workers.proofs.Zips.{zip_from_each, moved_both, zip_put_back}
use Rattle.door_workers.proofs.posts.answer_everywhere.Goals as goal

pub returns : goal.returns
returns g c =
    let R : Post g.row.D.Denot g.row.S.Denot → Post g.row.D.Denot g.row.S.Denot → Type 0 = λ p q. AnsweredAt (g.Q.Querying.rule c.args.queries.now) (g.D.Door.view p.door) (g.D.Door.view q.door) (g.S.Reading.seen p.seat) (g.S.Reading.seen q.seat) q.connections in
    let before = c.as_mut_slice.result.now in
    let after = c.for_each_mut.new.s in
    let same : length after ≡ length before = search rules in
    zip_put_back R before after c.args.posts.now.items c.args.posts.now.len c.as_mut_slice.ensures.value c.as_mut_slice.ensures.len same
    (zip_from_each R before after same (λ i d below. let at = (c.for_each_mut.ensures i d below).1 in moved_both R at.argument.now at.after_call.now (get_or before i d) (get_or after i d) at.argument_is at.left at.call))
