use Rattle.worked_doors.proofs.publishing.numbers_end_at_4294967295.Given as goal

-- the list that was just opened
abbrev pub ghosts-publish_past_the_end : goal.ghosts-publish_past_the_end
ghosts-publish_past_the_end g a = record { book = a.opened.seen.book }
