use Rattle.std.proofs.Common.{◌∙◌, codes}
use Rattle.clap.specs.Words.{found_of}
use Rattle.clap.proofs.WalkLemmas.{first_value-rows}
use Rattle.command_words.proofs.Reading.{serving-as}
use Rattle.command_words.proofs.words.serving_in.Goals as goal

pub returns : goal.returns
returns c =
    let found = found_of c.args.values.now in
    c.serving_of.ensures
    ∙ serving-as _ _ _ _ _ _ _ _ _ _ _ _ _ _
    (c.get_str.ensures ∙ first_value-rows found (codes "opl"))
    (c.get_str-2.ensures ∙ first_value-rows found (codes "settings"))
    (c.get_str-3.ensures ∙ first_value-rows found (codes "listen"))
    (c.get_str-4.ensures ∙ first_value-rows found (codes "control"))
    c.number_in.ensures
    (c.get_str-5.ensures ∙ first_value-rows found (codes "segment-speed-file"))
    (c.get_str-6.ensures ∙ first_value-rows found (codes "turn-penalty-file"))
