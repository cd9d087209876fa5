use Rattle.serve_command.proofs.serving.serve_start.Given as goal

-- the list that was just opened
abbrev pub ghosts-serve_board : goal.ghosts-serve_board
ghosts-serve_board g a = record { book = a.history.seen.book }
