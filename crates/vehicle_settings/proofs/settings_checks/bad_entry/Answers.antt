-- The first bad entry of the map is the first bad member.
use Rattle.std.proofs.Common.{◌≡◌, Bool, [], Some, None, not, false, find, option_map, string_bytes, sym, ap, ◌∙◌, rules}
use Rattle.std.specs.Map.Iter.{deref_pair}
use Rattle.std.proofs.lemmas.Map.Iter.{rest_all, rest_more}
use Rattle.toml.specs.Data.{Data}
use Rattle.toml.specs.View.{view}
use Rattle.vehicle_settings.specs.SettingsData.{is_between}
use Rattle.vehicle_settings.proofs.Entries.{Entry, bad_member-entries, first_fails}
use Rattle.vehicle_settings.proofs.settings_checks.bad_entry.Goals as goal

pub returns-then-not-is_number_between : goal.returns-then-not-is_number_between
returns-then-not-is_number_between c =
    let test : Data → Bool = is_between c.args.least c.args.greatest in
    let bad : test (view c.in-Some.value.now) ≡ false = search rules in
    let more = rest_more deref_pair _ _ _ _ c.in-Some.is c.next.ensures.steps in
    let found : find (λ (e : Entry). not (test (view e.1))) c.args.members.now.entries ≡ Some (c.in-Some.key.now, c.in-Some.value.now) =
    sym c.loop-key.invariant ∙ first_fails (λ (e : Entry). test (view e.1)) _ _ _ more bad
    in
    ap Some c.as_str.ensures.value ∙ ap (option_map (λ (e : Entry). string_bytes e.0)) (sym found) ∙ bad_member-entries (λ _ value. test value) c.args.members.now.entries

pub returns : goal.returns
returns c =
    let test : Data → Bool = is_between c.args.least c.args.greatest in
    let none : c.loop-key.key-iterator ≡ [] = rest_all deref_pair _ _ _ c.in-None.is c.next.ensures.steps in
    let found : find (λ (e : Entry). not (test (view e.1))) c.args.members.now.entries ≡ None =
    sym c.loop-key.invariant ∙ ap (find (λ (e : Entry). not (test (view e.1)))) none
    in
    ap (option_map (λ (e : Entry). string_bytes e.0)) (sym found) ∙ bad_member-entries (λ _ value. test value) c.args.members.now.entries
