use Rattle.metric_publish.proofs.Turns.{admits}
use Rattle.metric_publish.proofs.desk.Desk+Shown+V+J+V+Board+Book+V+J.seat.Goals as goal

pub reader-requires : goal.reader-requires
reader-requires g c = admits (λ s. s.front.token.log)
