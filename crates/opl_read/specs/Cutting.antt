-- How a line of OPL is cut into fields, and a field into entries (osmcode.org/opl-file-format).
use Rattle.std.specs.Prelude.{◌≡◌, ◌<◌, ℕ, Bool, ◌||◌, ◌==◌, not, List, [], ◌∷◌, length, filter, if◌then◌else◌}
use Rattle.std.specs.List.{list_any, slice_split}
use Rattle.std.specs.Str.{byte}

-- the byte stands in the text
abbrev pub has : ℕ → List ℕ → Bool
has wanted text = list_any (λ b. b == wanted) text

-- a blank or a tab
abbrev pub is_blank : ℕ → Bool
is_blank b = b == 32 || b == 9

-- the fields of a line: what stands between blanks
abbrev pub fields_of : List ℕ → List (List ℕ)
fields_of text = filter (λ field. not (length field == 0)) (slice_split is_blank text)

-- the entries of a field's content, which are parted by commas; no content has none
abbrev pub entries_of : List ℕ → List (List ℕ)
entries_of content = if length content == 0 then [] else slice_split (λ b. b == byte ",") content

-- the first field of a text, and what stands behind it
pub record IsFirstField (text first behind : List ℕ) : Type 0 where
  pub fields : fields_of text ≡ first ∷ fields_of behind
  pub some : 0 < length first
  pub shorter : length behind < length text
