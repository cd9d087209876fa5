use Rattle.std.proofs.Common.{◌≡◌, ◌≤◌, List, ◌++◌, length, take, vec_len}
use Rattle.std.specs.Vec.{vec_capacity}
use Rattle.board_core.specs.declared.event.Event.{Event}
use Rattle.board_core.specs.History.{outcomes}
use Rattle.board_core.specs.Transcript.{IsAfter}
use Rattle.board_core.proofs.machine.Machine.run.Given as goal

-- so far: an answer for each event, and a board for the rest
abbrev pub invariant-loop-event : goal.invariant-loop-event
invariant-loop-event l = record {
  room : length l.events ≤ vec_capacity l.answers;
  count : vec_len l.answers ≡ l.event-index;
  joins : (later : List Event) → outcomes l.initial.self (take l.event-index l.events ++ later) ≡ l.answers.items ++ outcomes l.self later;
  after : IsAfter l.initial.self (take l.event-index l.events) l.self;
}
