-- Values and their lists and tables beside the data that they stand for.
use Rattle.std.proofs.Common.{◌≡◌, ℕ, Bool, true, false, not, cond, ◌&&◌, ◌==◌, nat_le, List, [], ◌∷◌, length, suc, Option, Some, None, option_map, codes, refl, ap, sym, ◌∙◌}
use Rattle.std.specs.List.{list_all}
use Rattle.std.specs.Option.{option_and_then}
use Rattle.toml.specs.Data.{Data, string, integer, float, boolean, datetime, array, table, Members, as_array, as_table}
use Rattle.toml.specs.View.{view, items_view}
use Rattle.toml.specs.declared.value.Value.{Value}
use Rattle.road_base.specs.Words.{is_among}
use Rattle.vehicle_settings.specs.ClassSettings.{bad_classes, is_class, is_class_of, is_excludable, is_set}
use Rattle.vehicle_settings.specs.Settings.{key_beside, turn_keys, unknown_turn}
use Rattle.vehicle_settings.specs.SettingsData.{bad_member, entries_of, inner_key, is_list_of, item_count, members_in, values_of}

-- a test of each item, of the values or of their data
all_items : (test : Data → Bool) (vs : List Value) → list_all (λ v. test (view v)) vs ≡ list_all test (values_of (items_view vs))
all_items test [] = refl
all_items test (v ∷ vs) = ap (λ b. test (view v) && b) (all_items test vs)

length-items : (vs : List Value) → length vs ≡ length (values_of (items_view vs))
length-items [] = refl
length-items (v ∷ vs) = ap suc (length-items vs)

inner : {A : Type 0} {x y : A} → Some x ≡ Some y → x ≡ y
inner h = cc

-- what a list of values says as one value
pub is_list_of-array : (test : Data → Bool) (d : Data) (vs : List Value) → Some (items_view vs) ≡ as_array d → list_all (λ v. test (view v)) vs ≡ is_list_of test d
is_list_of-array test (array ds) vs h = all_items test vs ∙ ap (λ ds. list_all test (values_of ds)) (inner h)
is_list_of-array test (string s) vs h = cc
is_list_of-array test (integer n) vs h = cc
is_list_of-array test (float x) vs h = cc
is_list_of-array test (boolean b) vs h = cc
is_list_of-array test (datetime t) vs h = cc
is_list_of-array test (table ms) vs h = cc

pub item_count-array : (d : Data) (vs : List Value) → Some (items_view vs) ≡ as_array d → length vs ≡ item_count d
item_count-array (array ds) vs h = length-items vs ∙ ap (λ ds. length (values_of ds)) (inner h)
item_count-array (string s) vs h = cc
item_count-array (integer n) vs h = cc
item_count-array (float x) vs h = cc
item_count-array (boolean b) vs h = cc
item_count-array (datetime t) vs h = cc
item_count-array (table ms) vs h = cc

-- a table that is there has these members
pub members_in-table : (o : Option Data) (ms : Members) → Some ms ≡ option_and_then as_table o → ms ≡ members_in o
members_in-table None ms h = cc
members_in-table (Some (table ns)) ms h = inner h
members_in-table (Some (string s)) ms h = cc
members_in-table (Some (integer n)) ms h = cc
members_in-table (Some (float x)) ms h = cc
members_in-table (Some (boolean b)) ms h = cc
members_in-table (Some (datetime t)) ms h = cc
members_in-table (Some (array ds)) ms h = cc

-- the first unknown key of the table of penalties
pub unknown_turn-table : (o : Option Data) (ms : Members) (key : List ℕ) → Some ms ≡ option_and_then as_table o → Some key ≡ key_beside (is_among turn_keys) ms
    → Some (inner_key (codes "turn_penalty") key) ≡ unknown_turn o
unknown_turn-table (Some (table ns)) ms key h first = ap (option_map (λ key. inner_key (codes "turn_penalty") key)) (first ∙ ap (key_beside (is_among turn_keys)) (inner h))
unknown_turn-table None ms key h first = cc
unknown_turn-table (Some (string s)) ms key h first = cc
unknown_turn-table (Some (integer n)) ms key h first = cc
unknown_turn-table (Some (float x)) ms key h first = cc
unknown_turn-table (Some (boolean b)) ms key h first = cc
unknown_turn-table (Some (datetime t)) ms key h first = cc
unknown_turn-table (Some (array ds)) ms key h first = cc

and_true : (a b : Bool) → a ≡ true → b ≡ (a && b)
and_true true b h = refl
and_true false b h = cc

and_false : (a b : Bool) → a ≡ false → a ≡ (a && b)
and_false false b h = refl
and_false true b h = cc

-- a set of names by the values of its list
pub is_set-array : (classes : Members) (d : Data) (vs : List Value) → Some (items_view vs) ≡ as_array d → not (length vs == 0) ≡ true
    → list_all (λ v. is_class_of classes (view v)) vs ≡ is_set classes d
is_set-array classes d vs h some =
    is_list_of-array (is_class_of classes) d vs h
    ∙ and_true (not (item_count d == 0)) (is_list_of (is_class_of classes) d) (ap (λ n. not (n == 0)) (sym (item_count-array d vs h)) ∙ some)

-- sets by the values of their list, where they are not too many and where they are
pub is_excludable-few : (classes : Members) (d : Data) (vs : List Value) → Some (items_view vs) ≡ as_array d → nat_le (length vs) 7 ≡ true
    → list_all (λ v. is_set classes (view v)) vs ≡ is_excludable classes d
is_excludable-few classes d vs h few =
    is_list_of-array (is_set classes) d vs h
    ∙ and_true (nat_le (item_count d) 7) (is_list_of (is_set classes) d) (ap (λ n. nat_le n 7) (sym (item_count-array d vs h)) ∙ few)

pub is_excludable-many : (classes : Members) (d : Data) (vs : List Value) → Some (items_view vs) ≡ as_array d → nat_le (length vs) 7 ≡ false
    → nat_le (length vs) 7 ≡ is_excludable classes d
is_excludable-many classes d vs h many =
    let same = ap (λ n. nat_le n 7) (item_count-array d vs h) in
    same ∙ and_false (nat_le (item_count d) 7) (is_list_of (is_set classes) d) (sym same ∙ many)

-- what is told of the table of classes
pub bad_classes-table : (d : Data) (ms : Members) → Some ms ≡ as_table d → bad_classes (Some (table ms)) ≡ bad_classes (Some d)
bad_classes-table (table ns) ms h = ap (λ ms. bad_classes (Some (table ms))) (inner h)
bad_classes-table (string s) ms h = cc
bad_classes-table (integer n) ms h = cc
bad_classes-table (float x) ms h = cc
bad_classes-table (boolean b) ms h = cc
bad_classes-table (datetime t) ms h = cc
bad_classes-table (array ds) ms h = cc

-- by how many it has
pub bad_classes-many : (ms : Members) → nat_le (length (entries_of ms)) 8 ≡ false → Some (codes "classes") ≡ bad_classes (Some (table ms))
bad_classes-many ms h = ap (λ (b : Bool). cond b (option_map (λ name. inner_key (codes "classes") name) (bad_member is_class ms)) (Some (codes "classes"))) (sym h)

pub bad_classes-few : (ms : Members) (found : Option (List ℕ)) → nat_le (length (entries_of ms)) 8 ≡ true → found ≡ bad_member is_class ms
    → option_map (λ name. inner_key (codes "classes") name) found ≡ bad_classes (Some (table ms))
bad_classes-few ms found h e =
    ap (option_map (λ name. inner_key (codes "classes") name)) e
    ∙ ap (λ (b : Bool). cond b (option_map (λ name. inner_key (codes "classes") name) (bad_member is_class ms)) (Some (codes "classes"))) (sym h)
