use Rattle.std.proofs.Common.{◌≡◌, length}
use Rattle.board_core.proofs.tests.a_seat_forgets_no_number.Given as goal

-- the board keeps its one seat
abbrev pub invariant-loop-event : goal.invariant-loop-event
invariant-loop-event g l = length l.machine.known ≡ 1
