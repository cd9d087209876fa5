-- One word is written, that of the cost.
use Rattle.row_labels.proofs.Wording.{list-set}
use Rattle.row_labels.proofs.words.Words.put.Goals as goal

pub returns-clause-put : goal.returns-clause-put
returns-clause-put g c = list-set _ _ _ _ _ c.args.i _ _ _ c.word_of.ensures.grown.1 c.word_of.ensures.few c.self.invariant.each c.self.view_is c.in_ok-word.ensures.value
