-- The offer became the value.
use Rattle.row_labels.proofs.Lowering.{put_there}
use Rattle.row_labels.proofs.rows.offer_place.Goals as goal

pub returns-then-lower_word-clause-lowers : goal.returns-then-lower_word-clause-lowers
returns-then-lower_word-clause-lowers g c =
    put_there g.C.Cost.ops c.args.first c.args.words.now c.lower_word.new.words c.args.offers.now.paid c.args.offers.now.costs.now c.args.place c.args.improved.now.items c.push.new.self.items c.if-lower_word.ensures.yes c.in_ok-push.ensures.items
