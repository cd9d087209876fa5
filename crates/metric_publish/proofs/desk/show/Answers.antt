use Rattle.metric_publish.proofs.Turns.{adds}
use Rattle.metric_publish.proofs.PendingLaws.{goes_on}
use Rattle.metric_publish.proofs.desk.show.Goals as goal

pub publish_as-writer-requires : goal.publish_as-writer-requires
publish_as-writer-requires g c next is =
    let now = c.append.new.self.desk.shown.value in
    adds (λ s. s.front.token.log) _ _ now next
    (goes_on (λ s. s.front.token.log) now next c.args.next _ _ c.in_default.ensures.pending (rw c.in_default.ensures.desk c.requires.more) is)
