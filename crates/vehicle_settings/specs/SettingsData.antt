-- Values in a tree of settings, and tests that they must pass (TOML's data, toml.io; the tests are this
-- project's rule).
use Rattle.std.specs.Prelude.{ℕ, pos, Bool, true, false, not, ◌&&◌, ◌==◌, nat_le, List, [], ◌∷◌, ◌++◌, length, codes, Option, Some, None, is_some, option_map, find, if◌then◌else◌}
use Rattle.std.specs.List.{list_all}
use Rattle.std.specs.Option.{option_map_or}
use Rattle.toml.specs.Data.{Data, string, integer, array, table, Items, no_items, item, Members, no_members, member, get_member, as_str, as_bool}
use Rattle.road_base.specs.Words.{is_among}

-- the keys and values of a table
abbrev pub entries_of : Members → List (List ℕ × Data)
entries_of no_members = []
entries_of (member key value rest) = (key, value) ∷ entries_of rest

-- the values of a list
abbrev pub values_of : Items → List Data
values_of no_items = []
values_of (item value rest) = value ∷ values_of rest

-- how a fault names a key inside the table at another key
abbrev pub inner_key : List ℕ → List ℕ → List ℕ
inner_key outer inner = outer ++ (codes "." ++ inner)

-- the first that is there
abbrev pub first_of : List (Option (List ℕ)) → Option (List ℕ)
first_of [] = None
first_of (None ∷ more) = first_of more
first_of (Some key ∷ more) = Some key

-- a whole number in this range
abbrev pub is_between : ℕ → ℕ → Data → Bool
is_between least greatest (integer (pos n)) = nat_le least n && nat_le n greatest
is_between least greatest _ = false

abbrev pub is_text : Data → Bool
is_text value = is_some (as_str value)

-- a text that is not empty
abbrev pub is_name : Data → Bool
is_name (string text) = not (length text == 0)
is_name _ = false

-- a text that is one of these
abbrev pub is_one_of : List (List ℕ) → Data → Bool
is_one_of words (string text) = is_among words text
is_one_of words _ = false

-- `true` or `false`
abbrev pub is_truth : Data → Bool
is_truth value = is_some (as_bool value)

-- a list whose values all pass the test
abbrev pub is_list_of : (Data → Bool) → Data → Bool
is_list_of test (array items) = list_all test (values_of items)
is_list_of test _ = false

abbrev pub is_text_list : Data → Bool
is_text_list = is_list_of is_text

-- how many values a list has
abbrev pub item_count : Data → ℕ
item_count (array items) = length (values_of items)
item_count _ = 0

-- the key, if it is there with a value that fails the test
abbrev pub bad_at : (Data → Bool) → List ℕ → Members → Option (List ℕ)
bad_at test key settings = if option_map_or test (get_member key settings) true then None else Some key

-- the first key of a table that fails the test together with its value
abbrev pub bad_member : (List ℕ → Data → Bool) → Members → Option (List ℕ)
bad_member test members = option_map (λ e. e.0) (find (λ e. not (test e.0 e.1)) (entries_of members))

-- the first key of a table whose value fails the test
abbrev pub bad_entry : (Data → Bool) → Members → Option (List ℕ)
bad_entry test = bad_member (λ _ value. test value)

-- of a value that is there: the key itself if it is no table, else the first key inside it whose value fails
-- the test
abbrev pub bad_table : (Data → Bool) → List ℕ → Option Data → Option (List ℕ)
bad_table test key None = None
bad_table test key (Some (table members)) = option_map (λ inner. inner_key key inner) (bad_entry test members)
bad_table test key (Some _) = Some key

abbrev pub bad_inside : (Data → Bool) → List ℕ → Members → Option (List ℕ)
bad_inside test key settings = bad_table test key (get_member key settings)

-- the members of a table; an absent one has none
abbrev pub members_in : Option Data → Members
members_in (Some (table members)) = members
members_in _ = no_members

abbrev pub members_at : List ℕ → Members → Members
members_at key settings = members_in (get_member key settings)
