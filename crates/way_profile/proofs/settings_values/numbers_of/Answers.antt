-- The loop goes over the entries of the table's map.
use Rattle.std.proofs.Common.{◌≡◌, ◌++◌, [], map, not, find, sym, ap, ◌∙◌, rules, append-nil}
use Rattle.std.specs.Map.Iter.{deref_pair}
use Rattle.std.proofs.lemmas.Map.Iter.{rest_all}
use Rattle.toml.specs.View.{view}
use Rattle.vehicle_settings.specs.SettingsData.{is_between}
use Rattle.way_profile.proofs.Entries.{Entry, scaled_entry, scaled_numbers-entries, no_bad_entry}
use Rattle.way_profile.proofs.settings_values.numbers_of.Goals as goal

pub loop-word-init : goal.loop-word-init
loop-word-init c =
    let all : c.into_iter-word-iterator.result ≡ c.args.members.now.entries = search rules in
    record {
      made = ap (λ made. made ++ map (scaled_entry c.args.scale) c.into_iter-word-iterator.result) c.new-list.ensures.items ∙ ap (map (scaled_entry c.args.scale)) all;
      good = ap (λ es. find (λ (e : Entry). not (is_between 1 1000 (view e.1))) es) all ∙ no_bad_entry (is_between 1 1000) c.args.members.now.entries c.requires.numbers;
    }

pub returns : goal.returns
returns c =
    let none : c.loop-word.word-iterator ≡ [] = rest_all deref_pair _ _ _ c.in-None.is c.next.ensures.steps in
    sym (append-nil c.loop-word.list.items)
    ∙ ap (λ es. c.loop-word.list.items ++ map (scaled_entry c.args.scale) es) (sym none)
    ∙ c.loop-word.invariant.made ∙ scaled_numbers-entries c.args.scale c.args.members.now.entries
