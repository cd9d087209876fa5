-- Values and their lists and tables beside the data that they stand for.
use Rattle.std.proofs.Common.{◌≡◌, List, [], ◌∷◌, map, Option, Some, None, refl, ap, ◌∙◌}
use Rattle.std.specs.Option.{option_and_then}
use Rattle.toml.specs.Data.{Data, string, integer, float, boolean, datetime, array, table, Members, as_array, as_table}
use Rattle.toml.specs.View.{view, items_view}
use Rattle.toml.specs.declared.value.Value.{Value}
use Rattle.vehicle_settings.specs.SettingsData.{members_in, values_of}
use Rattle.way_profile.specs.SettingsValues.{sets_in, text_in, texts_in}

each_item : {A : Type 0} (of : Data → A) (vs : List Value) → map (λ v. of (view v)) vs ≡ map of (values_of (items_view vs))
each_item of [] = refl
each_item of (v ∷ vs) = ap (λ more. of (view v) ∷ more) (each_item of vs)

inner : {A : Type 0} {x y : A} → Some x ≡ Some y → x ≡ y
inner h = cc

-- what a list of values says as one value
pub texts_in-array : (d : Data) (vs : List Value) → Some (items_view vs) ≡ as_array d → map (λ v. text_in (view v)) vs ≡ texts_in d
texts_in-array (array ds) vs h = each_item text_in vs ∙ ap (λ ds. map text_in (values_of ds)) (inner h)
texts_in-array (string s) vs h = cc
texts_in-array (integer n) vs h = cc
texts_in-array (float x) vs h = cc
texts_in-array (boolean b) vs h = cc
texts_in-array (datetime t) vs h = cc
texts_in-array (table ms) vs h = cc

pub sets_in-array : (d : Data) (vs : List Value) → Some (items_view vs) ≡ as_array d → map (λ v. texts_in (view v)) vs ≡ sets_in d
sets_in-array (array ds) vs h = each_item texts_in vs ∙ ap (λ ds. map texts_in (values_of ds)) (inner h)
sets_in-array (string s) vs h = cc
sets_in-array (integer n) vs h = cc
sets_in-array (float x) vs h = cc
sets_in-array (boolean b) vs h = cc
sets_in-array (datetime t) vs h = cc
sets_in-array (table ms) vs h = cc

-- a table that is there has these members
pub members_in-table : (o : Option Data) (ms : Members) → Some ms ≡ option_and_then as_table o → ms ≡ members_in o
members_in-table None ms h = cc
members_in-table (Some (table ns)) ms h = inner h
members_in-table (Some (string s)) ms h = cc
members_in-table (Some (integer n)) ms h = cc
members_in-table (Some (float x)) ms h = cc
members_in-table (Some (boolean b)) ms h = cc
members_in-table (Some (datetime t)) ms h = cc
members_in-table (Some (array ds)) ms h = cc
