use Rattle.std.proofs.Common.{sym, ◌∙◌, ap, Some, option_map, refl, to_z, of_z, w64}
use Rattle.std.proofs.lemmas.Int.{to_z-of_z}
use Rattle.std.proofs.lemmas.Option.{slice_get_read}
use Rattle.turn_rules.specs.Rules.{forbids}
use Rattle.turn_rules.proofs.rule_lists.Rules.forbids.Goals as goal

pub returns : goal.returns
returns c =
    ap (option_map (λ rule. forbids rule c.args.from c.args.to c.args.back)) (slice_get_read _ _ _ c.index.result.now refl c.requires (rw (← c.self.view_is) c.index.ensures))
    ∙ ap Some (
    ap (λ way. forbids c.index.result.now c.args.from way c.args.back) (sym (to_z-of_z w64 c.args.to c.ranges.to))
    ∙ ap (λ way. forbids c.index.result.now way (to_z w64 (of_z w64 c.args.to)) c.args.back) (sym (to_z-of_z w64 c.args.from c.ranges.from))
    ∙ sym c.forbids.ensures)
