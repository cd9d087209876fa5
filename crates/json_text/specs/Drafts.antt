-- A text under construction: what stands so far, and what may come next. This project's rule.
use Rattle.std.specs.Prelude.{◌≡◌, ℕ, Bool, true, false, not, List, [], ◌∷◌, ◌++◌, IsTrue}
use Rattle.json.specs.Print.{quoted}
use Rattle.json_text.specs.declared.draft.Container.{Container}
use Rattle.json_text.specs.declared.draft.Container.TheVariants as container
use Rattle.json_text.specs.declared.draft.Last.{Last}
use Rattle.json_text.specs.declared.draft.Last.TheVariants as last
use Rattle.json_text.specs.Values.{JsonValue, compact_text}

-- the bytes so far, the containers that are open, the innermost first, and what stands last in the
-- innermost one
pub record Draft : Type 0 where
  pub bytes : List ℕ
  pub containers : List Container
  pub latest : Last

-- nothing stands yet
abbrev pub empty_draft : Draft
empty_draft = record { bytes = []; containers = []; latest = last.Opening }

abbrev pub is_key : Last → Bool
is_key last.Opening = false
is_key last.Key = true
is_key last.Value = false

abbrev pub is_opening : Last → Bool
is_opening last.Opening = true
is_opening last.Key = false
is_opening last.Value = false

-- a value may come: first of all, in an array, or behind a key
abbrev pub value_may_come : List Container → Last → Bool
value_may_come [] l = is_opening l
value_may_come (container.Array ∷ outer) l = not (is_key l)
value_may_come (container.Object ∷ outer) l = is_key l

-- a key may come: in an object, and not behind another key
abbrev pub key_may_come : List Container → Last → Bool
key_may_come [] l = false
key_may_come (container.Array ∷ outer) l = false
key_may_come (container.Object ∷ outer) l = not (is_key l)

-- the end of such a container may come: where it is the innermost one, and not behind a key
abbrev pub end_may_come : Container → List Container → Last → Bool
end_may_come container.Object containers l = key_may_come containers l
end_may_come container.Array [] l = false
end_may_come container.Array (container.Array ∷ outer) l = true
end_may_come container.Array (container.Object ∷ outer) l = false

abbrev pub TakesValue : Draft → Type 0
TakesValue d = IsTrue (value_may_come d.containers d.latest)

abbrev pub TakesKey : Draft → Type 0
TakesKey d = IsTrue (key_may_come d.containers d.latest)

abbrev pub TakesEnd : Container → Draft → Type 0
TakesEnd c d = IsTrue (end_may_come c d.containers d.latest)

-- one value stands whole, and nothing is open
abbrev pub IsFinished : Draft → Type 0
IsFinished d = (d.containers ≡ []) × (d.latest ≡ last.Value)

-- a comma behind a value, where another item or member follows
abbrev pub comma_text : Last → List ℕ
comma_text last.Opening = []
comma_text last.Key = []
comma_text last.Value = 44 ∷ []

-- `{` or `[`
abbrev pub opening_bracket : Container → List ℕ
opening_bracket container.Object = 123 ∷ []
opening_bracket container.Array = 91 ∷ []

-- `}` or `]`
abbrev pub closing_bracket : Container → List ℕ
closing_bracket container.Object = 125 ∷ []
closing_bracket container.Array = 93 ∷ []

-- such a container begins
abbrev pub begun : Container → Draft → Draft
begun c d = record {
  bytes = d.bytes ++ comma_text d.latest ++ opening_bracket c;
  containers = c ∷ d.containers;
  latest = last.Opening;
}

-- the containers round the innermost one
abbrev pub outer_of : List Container → List Container
outer_of [] = []
outer_of (c ∷ outer) = outer

-- the innermost container, which is such a one, ends, and is a value of the one round it
abbrev pub ended : Container → Draft → Draft
ended c d = record {
  bytes = d.bytes ++ closing_bracket c;
  containers = outer_of d.containers;
  latest = last.Value;
}

-- a key and its colon
abbrev pub with_key : List ℕ → Draft → Draft
with_key name d = record {
  bytes = d.bytes ++ comma_text d.latest ++ quoted name ++ 58 ∷ [];
  containers = d.containers;
  latest = last.Key;
}

-- a whole value with this text
abbrev pub with_text : List ℕ → Draft → Draft
with_text value d = record {
  bytes = d.bytes ++ comma_text d.latest ++ value;
  containers = d.containers;
  latest = last.Value;
}

-- this value
abbrev pub with_value : JsonValue → Draft → Draft
with_value v d = with_text (compact_text v) d
