-- The first bad value, group by group, as the code looks for it.
use Rattle.std.proofs.Common.{◌≡◌, ℕ, List, [], ◌∷◌, ◌++◌, Option, None, codes, ◌∙◌}
use Rattle.std.specs.List.{AllByRecursion}
use Rattle.toml.specs.Data.{Members, get_member}
use Rattle.vehicle_settings.specs.ClassSettings.{bad_classes, is_excludable}
use Rattle.vehicle_settings.specs.Settings.{AreNumbersGood, bad_common, bad_second, bad_value, is_factor, is_penalty, is_side, is_speed, is_weight_name}
use Rattle.vehicle_settings.specs.SettingsData.{bad_at, bad_inside, first_of, is_between, is_name, is_text_list, is_truth, members_at}
use Rattle.vehicle_settings.proofs.Firsts.{or_else, first_of-next, first_of-one, first_of-then, none_of}

abbrev pub bad_names : Members → List (Option (List ℕ))
bad_names m =
    bad_at (is_between 1 2) (codes "version") m ∷ bad_at is_name (codes "name") m ∷ bad_at is_name (codes "vehicle") m ∷ bad_at is_weight_name (codes "weight_name") m ∷ []

abbrev pub bad_lists : Members → List (Option (List ℕ))
bad_lists m = bad_at is_text_list (codes "access_keys") m ∷ bad_at is_text_list (codes "denied") m ∷ bad_at is_text_list (codes "barriers") m ∷ []

abbrev pub bad_others : Members → List (Option (List ℕ))
bad_others m = bad_at is_penalty (codes "u_turn_penalty") m ∷ bad_at is_penalty (codes "signal_penalty") m ∷ bad_at is_side (codes "driving_side") m ∷ []

pub bad_common-by_group : (m : Members) (name speed text turn other : Option (List ℕ)) → name ≡ first_of (bad_names m) → speed ≡ bad_inside is_speed (codes "speeds") m
    → text ≡ first_of (bad_lists m) → turn ≡ bad_inside is_penalty (codes "turn_penalty") m → other ≡ first_of (bad_others m)
    → or_else name (or_else speed (or_else text (or_else turn other))) ≡ bad_common m
bad_common-by_group m name speed text turn other a b c d e =
    first_of-next (bad_names m) _ name _ a
    (first_of-then (bad_inside is_speed (codes "speeds") m) _ speed _ b
    (first_of-next (bad_lists m) _ text _ c (first_of-then (bad_inside is_penalty (codes "turn_penalty") m) (bad_others m) turn other d e)))

-- the first bad value of all, by those of each version's keys
pub bad_value-then : (m : Members) (common second : Option (List ℕ)) → common ≡ bad_common m → second ≡ bad_second m → or_else common second ≡ bad_value m
bad_value-then m common second a b = first_of-then (bad_common m) (bad_second m ∷ []) common second a (b ∙ first_of-one (bad_second m))

abbrev commons : Members → List (Option (List ℕ))
commons m = bad_names m ++ bad_inside is_speed (codes "speeds") m ∷ (bad_lists m ++ bad_inside is_penalty (codes "turn_penalty") m ∷ bad_others m)

abbrev seconds : Members → List (Option (List ℕ))
seconds m =
    bad_at is_truth (codes "maxspeed") m
    ∷ bad_inside is_factor (codes "surfaces") m
    ∷ bad_classes (get_member (codes "classes") m)
    ∷ bad_at (is_excludable (members_at (codes "classes") m)) (codes "excludable") m
    ∷ []

-- where no value is bad, the numbers are good
pub AreNumbersGood-of : (m : Members) → bad_value m ≡ None → AreNumbersGood m
AreNumbersGood-of m h =
    let both : AllByRecursion (λ x. x ≡ None) (bad_common m ∷ bad_second m ∷ []) = none_of (bad_common m ∷ bad_second m ∷ []) h in
    let common : AllByRecursion (λ x. x ≡ None) (commons m) = none_of (commons m) both.0 in
    let second : AllByRecursion (λ x. x ≡ None) (seconds m) = none_of (seconds m) both.1.0 in
    record {
      speeds = common.1.1.1.1.0;
      turn_penalty = common.1.1.1.1.1.1.1.1.0;
      u_turn_penalty = common.1.1.1.1.1.1.1.1.1.0;
      signal_penalty = common.1.1.1.1.1.1.1.1.1.1.0;
      surfaces = second.1.0;
    }
