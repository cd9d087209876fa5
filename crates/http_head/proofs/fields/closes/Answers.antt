use Rattle.std.proofs.Common.{rules, tests}
use Rattle.http_head.proofs.Lists.{list_any-map}
use Rattle.http_head.proofs.fields.closes.Goals as goal

pub returns-then-lists_option : goal.returns-then-lists_option
returns-then-lists_option c = simp list_any-map (search (rules, tests))

pub returns-then-minor-eq0 : goal.returns-then-minor-eq0
returns-then-minor-eq0 c = simp list_any-map (search (rules, tests))

pub returns-else-minor-eq0 : goal.returns-else-minor-eq0
returns-else-minor-eq0 c = simp list_any-map (search (rules, tests))
