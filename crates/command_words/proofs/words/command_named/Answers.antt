use Rattle.std.proofs.Common.{◌∙◌, codes, rules}
use Rattle.clap.specs.Words.{found_of}
use Rattle.clap.proofs.WalkLemmas.{first_value-rows}
use Rattle.command_words.proofs.Reading.{over-files}
use Rattle.command_words.proofs.words.command_named.Goals as goal

pub returns-else-eq-3 : goal.returns-else-eq-3
returns-else-eq-3 c =
    let found = found_of c.args.values.now in
    c.command_over.ensures
    ∙ over-files c.args.name.now _ _ _ _ _ _ _ (c.get_str.ensures ∙ first_value-rows found (codes "opl")) (c.get_str-else-eq-3.ensures ∙ first_value-rows found (codes "settings")) (search rules) (search rules)
    (search rules)
