use Rattle.worked_doors.proofs.publishing.four_seats_never_go_back.Given as goal

-- the list that was just opened
abbrev pub ghosts-race : goal.ghosts-race
ghosts-race g a = record { book = a.opened.seen.book }
