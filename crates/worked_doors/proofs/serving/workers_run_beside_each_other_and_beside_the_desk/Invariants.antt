use Rattle.worked_doors.proofs.serving.workers_run_beside_each_other_and_beside_the_desk.Given as goal

-- the list that was just opened
abbrev pub ghosts-assert_told : goal.ghosts-assert_told
ghosts-assert_told g a = record { book = a.history.seen.book }
