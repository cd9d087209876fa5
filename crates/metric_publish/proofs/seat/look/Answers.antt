use Rattle.metric_publish.proofs.Turns.{sits}
use Rattle.metric_publish.proofs.seat.look.Goals as goal

pub enter_as-requires : goal.enter_as-requires
enter_as-requires g c x = sits (λ s. s.front.token.log) _ _ x
