use Rattle.std.proofs.lemmas.Bool.{le-leb, leb-true}
use Rattle.std.proofs.Common.{◌-◌}
use Rattle.snap_index.proofs.Turns.{clockwise, differ-back, differ-on, differ-within_back}
use Rattle.snap_index.proofs.keeping.differ_at_most.Goals as goal

-- clockwise it is near enough
pub returns-then-clockwise-range : goal.returns-then-clockwise-range
returns-then-clockwise-range c = (
  λ _. differ-on c.args.range c.args.a c.args.b c.requires c.if-clockwise-range.true,
  λ _. le-leb (clockwise c.args.a c.args.b) c.args.range c.if-clockwise-range.true,
)

-- or it is the other way round, or not at all
pub returns-else-clockwise-range : goal.returns-else-clockwise-range
returns-else-clockwise-range c = (
  λ h. differ-back c.args.range c.args.a c.args.b c.requires (leb-true (360 - clockwise c.args.a c.args.b) c.args.range h),
  λ h. le-leb (360 - clockwise c.args.a c.args.b) c.args.range (differ-within_back c.args.range c.args.a c.args.b c.requires c.if-clockwise-range.false h),
)
