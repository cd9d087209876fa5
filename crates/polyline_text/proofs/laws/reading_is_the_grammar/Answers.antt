use Rattle.polyline_text.proofs.Grammar.{decoded-all, decoded-of_grammar}
use Rattle.polyline_text.proofs.laws.reading_is_the_grammar.Goals as goal

pub returns-clause-of_grammar : goal.returns-clause-of_grammar
returns-clause-of_grammar c = decoded-of_grammar

pub returns-clause-all : goal.returns-clause-all
returns-clause-all c = decoded-all
