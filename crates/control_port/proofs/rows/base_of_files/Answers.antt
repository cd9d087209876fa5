use Rattle.control_port.proofs.rows.base_of_files.Goals as goal

-- the rows that were read, and the metric that was made of them
pub returns-clause-base : goal.returns-clause-base
returns-clause-base c = record {
  rows = record {
    speeds = c.in_ok-rows.rows.speeds;
    turns = c.in_ok-rows.rows.turns;
    speeds_read = c.in_ok-rows.ensures.rows.speeds_read;
    turns_read = c.in_ok-rows.ensures.rows.turns_read;
  };
  made = c.in_ok-base.ensures.base;
}
