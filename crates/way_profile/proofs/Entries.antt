-- The entries of a table's map beside the members that it stands for.
use Rattle.std.proofs.Common.{◌≡◌, ℕ, Bool, true, false, not, cond, List, [], ◌∷◌, map, Option, Some, None, Result, Ok, Err, option_map, String, Global, string_bytes, refl, ap, ◌*◌, ◌&&◌, nat_le, pos, negsuc, arith, All, Ordering, Less, Equal, Greater, nat_cmp}
use Rattle.std.proofs.lemmas.Bool.Decides.{nat_tests}
use Rattle.std.proofs.lemmas.List.Elements.{All-nil, All-cons}
use Rattle.std.specs.Cmp.Lexicographic.{slice_cmp}
use Rattle.std.specs.Option.{option_map_or}
use Rattle.std.specs.Ordering.{match_ordering}
use Rattle.std.specs.Prelude.{find, IfOk}
use Rattle.toml.specs.declared.value.Value.{Value}
use Rattle.toml.specs.Data.{Data, string, integer, float, boolean, datetime, array, table, Members, no_members, member, get_member}
use Rattle.toml.specs.View.{view, members_view}
use Rattle.vehicle_settings.specs.Settings.{is_factor, is_speed}
use Rattle.vehicle_settings.specs.SettingsData.{bad_at, bad_entry, entries_of, is_between}
use Rattle.way_profile.specs.SettingsValues.{classes_of_table, number_in, scaled_numbers, tag_of, texts_in}
use Rattle.way_profile.specs.Vehicle.{IsFactor, IsSpeed}

abbrev pub Entry : Type 0
Entry = String Global × Value

none_from : {A B : Type 0} (f : A → B) (o : Option A) → option_map f o ≡ None → o ≡ None
none_from f None h = refl
none_from f (Some x) h = cc

first_good : {A : Type 0} (b : Bool) (e : A) (rest : Option A) → cond (not b) (Some e) rest ≡ None → (b ≡ true) × (rest ≡ None)
first_good true e rest h = (refl, h)
first_good false e rest h = cc

still_none : {A : Type 0} (b : Bool) (e : A) (rest : Option A) → b ≡ true → rest ≡ None → cond (not b) (Some e) rest ≡ None
still_none true e rest here there = there
still_none false e rest here there = cc

-- where no member fails a test, no entry does
each_good : (test : Data → Bool) (es : List Entry) → find (λ e. not (test e.1)) (entries_of (members_view es)) ≡ None → find (λ e. not (test (view e.1))) es ≡ None
each_good test [] h = refl
each_good test (e ∷ es) h =
    let (here, more) = first_good (test (view e.1)) (string_bytes e.0, view e.1) _ h in
    still_none (test (view e.1)) e _ here (each_good test es more)

pub no_bad_entry : (test : Data → Bool) (es : List Entry) → bad_entry test (members_view es) ≡ None → find (λ e. not (test (view e.1))) es ≡ None
no_bad_entry test es h = each_good test es (none_from (λ e. e.0) _ h)

-- the first entry is good, and so are the others
pub good_entries : (test : Data → Bool) (e : Entry) (es : List Entry) → find (λ e. not (test (view e.1))) (e ∷ es) ≡ None → (test (view e.1) ≡ true) × (find (λ e. not (test (view e.1))) es ≡ None)
good_entries test e es h = first_good (test (view e.1)) e _ h

-- an entry with so many times its number
abbrev pub scaled_entry : ℕ → Entry → List ℕ × ℕ
scaled_entry scale e = (string_bytes e.0, number_in (view e.1) * scale)

pub scaled_numbers-entries : (scale : ℕ) (es : List Entry) → map (scaled_entry scale) es ≡ scaled_numbers scale (members_view es)
scaled_numbers-entries scale [] = refl
scaled_numbers-entries scale (e ∷ es) = ap (λ more. scaled_entry scale e ∷ more) (scaled_numbers-entries scale es)

-- a class as the profile keeps it
abbrev pub class_entry : Entry → List ℕ × List (List ℕ × List ℕ)
class_entry e = (string_bytes e.0, map tag_of (texts_in (view e.1)))

pub classes_of_table-entries : (es : List Entry) → map class_entry es ≡ classes_of_table (members_view es)
classes_of_table-entries [] = refl
classes_of_table-entries (e ∷ es) = ap (λ more. class_entry e ∷ more) (classes_of_table-entries es)

found_good : (o : Ordering) (test : Data → Bool) (d : Data) (more : Option Data) → test d ≡ true → option_map_or test more true ≡ true → option_map_or test (match_ordering o more (Some d) more) true ≡ true
found_good Less test d more here there = there
found_good Equal test d more here there = here
found_good Greater test d more here there = there

good_member : (test : Data → Bool) (key : List ℕ) (ms : Members) → find (λ e. not (test e.1)) (entries_of ms) ≡ None → option_map_or test (get_member key ms) true ≡ true
good_member test key no_members h = refl
good_member test key (member k d ms) h =
    let (here, more) = first_good (test d) (k, d) _ h in
    found_good (slice_cmp nat_cmp key k) test d (get_member key ms) here (good_member test key ms more)

-- where no member of a table fails a test, no value that is found in it does
pub no_bad_member : (test : Data → Bool) (key : List ℕ) (ms : Members) → bad_entry test ms ≡ None → bad_at test key ms ≡ None
no_bad_member test key ms h = ap (λ (b : Bool). cond b None (Some key)) (good_member test key ms (none_from (λ e. e.0) _ h))

within : (n : ℕ) → nat_le 1 n && nat_le n 1000 ≡ true → nat_le 0 n && nat_le n 1000000 ≡ true
within n h = grind (arith, nat_tests)

-- a number up to a thousand is one up to a million
pub thousand_in_million : (d : Data) → is_between 1 1000 d ≡ true → is_between 0 1000000 d ≡ true
thousand_in_million (integer (pos n)) h = within n h
thousand_in_million (integer (negsuc n)) h = h
thousand_in_million (string s) h = h
thousand_in_million (float x) h = h
thousand_in_million (boolean b) h = h
thousand_in_million (datetime t) h = h
thousand_in_million (array ds) h = h
thousand_in_million (table ms) h = h

-- what holds of each scaled number of the range holds of those of a table with no bad entry
module _ (scale : ℕ) (P : ℕ → Type 0) (each : (n : ℕ) → nat_le 1 n && nat_le n 1000 ≡ true → P (n * scale)) where
  one : (d : Data) → is_between 1 1000 d ≡ true → P (number_in d * scale)
  one (integer (pos n)) h = each n h
  one (integer (negsuc n)) h = cc
  one (string s) h = cc
  one (float x) h = cc
  one (boolean b) h = cc
  one (datetime t) h = cc
  one (array ds) h = cc
  one (table ms) h = cc

  all : (ms : Members) → find (λ e. not (is_between 1 1000 e.1)) (entries_of ms) ≡ None → All (λ e. P e.1) (scaled_numbers scale ms)
  all no_members h = All-nil (λ e. P e.1)
  all (member key d ms) h =
      let (here, more) = first_good (is_between 1 1000 d) (key, d) _ h in
      All-cons (λ e. P e.1) (key, number_in d * scale) (scaled_numbers scale ms) (one d here) (all ms more)

speed_of_km : (n : ℕ) → nat_le 1 n && nat_le n 1000 ≡ true → IsSpeed (n * 1000)
speed_of_km n h = record { least = grind (arith, nat_tests); greatest = grind (arith, nat_tests) }

factor_of_thousandths : (n : ℕ) → nat_le 1 n && nat_le n 1000 ≡ true → IsFactor (n * 1)
factor_of_thousandths n h = record { least = grind (arith, nat_tests); greatest = grind (arith, nat_tests) }

-- where no member is bad, the speeds and the factors are in range
pub speeds_in_range : (ms : Members) → bad_entry is_speed ms ≡ None → All (λ e. IsSpeed e.1) (scaled_numbers 1000 ms)
speeds_in_range ms h = all 1000 IsSpeed speed_of_km ms (none_from (λ e. e.0) _ h)

pub factors_in_range : (ms : Members) → bad_entry is_factor ms ≡ None → All (λ e. IsFactor e.1) (scaled_numbers 1 ms)
factors_in_range ms h = all 1 IsFactor factor_of_thousandths ms (none_from (λ e. e.0) _ h)

-- what follows of each good value follows of the value of a result
pub IfOk-weaker : {T E : Type 0} (r : Result T E) (P Q : T → Type 0) → ((x : T) → P x → Q x) → IfOk r P → IfOk r Q
IfOk-weaker (Ok x) P Q f h = f x h
IfOk-weaker (Err e) P Q f h = tt
