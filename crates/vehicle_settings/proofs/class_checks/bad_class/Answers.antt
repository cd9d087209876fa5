-- The first bad entry of the map is the first bad class.
use Rattle.std.proofs.Common.{◌≡◌, Bool, [], Some, None, not, false, find, option_map, string_bytes, sym, ap, ◌∙◌, rules}
use Rattle.std.specs.Map.Iter.{deref_pair}
use Rattle.std.proofs.lemmas.Map.Iter.{rest_all, rest_more}
use Rattle.toml.specs.View.{view}
use Rattle.vehicle_settings.specs.ClassSettings.{is_class}
use Rattle.vehicle_settings.proofs.Entries.{Entry, bad_member-entries, first_fails}
use Rattle.vehicle_settings.proofs.class_checks.bad_class.Goals as goal

pub returns-then-not-is_class : goal.returns-then-not-is_class
returns-then-not-is_class c =
    let test : Entry → Bool = λ e. is_class (string_bytes e.0) (view e.1) in
    let bad : is_class (string_bytes c.in-Some.name.now) (view c.in-Some.value.now) ≡ false = search rules in
    let more = rest_more deref_pair _ _ _ _ c.in-Some.is c.next.ensures.steps in
    let found : find (λ (e : Entry). not (test e)) c.args.classes.now.entries ≡ Some (c.in-Some.name.now, c.in-Some.value.now) =
    sym c.loop-name.invariant ∙ first_fails test _ _ _ more bad
    in
    ap Some c.as_str-then-not-is_class.ensures.value ∙ ap (option_map (λ (e : Entry). string_bytes e.0)) (sym found) ∙ bad_member-entries is_class c.args.classes.now.entries

pub returns : goal.returns
returns c =
    let none : c.loop-name.name-iterator ≡ [] = rest_all deref_pair _ _ _ c.in-None.is c.next.ensures.steps in
    let found : find (λ (e : Entry). not (is_class (string_bytes e.0) (view e.1))) c.args.classes.now.entries ≡ None =
    sym c.loop-name.invariant ∙ ap (find (λ (e : Entry). not (is_class (string_bytes e.0) (view e.1)))) none
    in
    ap (option_map (λ (e : Entry). string_bytes e.0)) (sym found) ∙ bad_member-entries is_class c.args.classes.now.entries
