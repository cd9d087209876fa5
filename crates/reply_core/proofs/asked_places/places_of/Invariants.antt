use Rattle.std.proofs.Common.{take}
use Rattle.std.specs.List.{AllZip}
use Rattle.reply_core.specs.Asked.{asked_in}
use Rattle.reply_core.proofs.AnswerLemmas.{IsFoundFor}
use Rattle.reply_core.proofs.asked_places.places_of.Given as goal

-- the coordinates so far have these places
abbrev pub invariant-loop-number : goal.invariant-loop-number
invariant-loop-number l = AllZip (IsFoundFor l.under.road) (take l.number (asked_in l.request)) l.places.items
