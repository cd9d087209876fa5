-- How `Tags` keeps its texts: in one list of bytes. It serves this crate's own functions alone, since
-- contracts see the keys and values.
use Rattle.std.specs.Prelude.{◌≡◌, ℕ, zero, suc, Bool, List, [], ◌∷◌, ◌++◌, ◌==◌, All, length, take, drop, nat_lt, if◌then◌else◌}
use Rattle.std.specs.List.{before_first, after_first}
use Rattle.std.specs.Str.{IsUtf8}

-- what stands behind a long text: no text in UTF-8 has it
abbrev pub is_end : ℕ → Bool
is_end b = b == 255

-- a text with its length before it, or with a 255 before and behind it where it is longer than 254 bytes
abbrev pub text_bytes : List ℕ → List ℕ
text_bytes text = if nat_lt (length text) 255 then length text ∷ text else 255 ∷ (text ++ 255 ∷ [])

-- the texts in these bytes, at most so many
abbrev pub texts_within : ℕ → List ℕ → List (List ℕ)
texts_within zero bytes = []
texts_within (suc most) [] = []
texts_within (suc most) (size ∷ bytes) =
    if size == 255 then before_first is_end bytes ∷ texts_within most (after_first is_end bytes)
    else take size bytes ∷ texts_within most (drop size bytes)

-- all of them: each takes a byte at least
abbrev pub texts_in : List ℕ → List (List ℕ)
texts_in bytes = texts_within (length bytes) bytes

-- keys and values in turn
abbrev pub in_pairs : List (List ℕ) → List (List ℕ × List ℕ)
in_pairs [] = []
in_pairs (last ∷ []) = []
in_pairs (key ∷ value ∷ more) = (key, value) ∷ in_pairs more

-- the tags in these bytes
abbrev pub tags_in : List ℕ → List (List ℕ × List ℕ)
tags_in bytes = in_pairs (texts_in bytes)

-- the bytes that have these tags
abbrev pub bytes_of : List (List ℕ × List ℕ) → List ℕ
bytes_of [] = []
bytes_of (tag ∷ tags) = text_bytes tag.0 ++ (text_bytes tag.1 ++ bytes_of tags)

-- the key and the value are texts
pub record IsTag (tag : List ℕ × List ℕ) : Type 0 where
  pub key : IsUtf8 tag.0
  pub value : IsUtf8 tag.1

-- the bytes are those of tags
pub record AreTagBytes (bytes : List ℕ) : Type 0 where
  pub whole : bytes_of (tags_in bytes) ≡ bytes
  pub texts : All IsTag (tags_in bytes)
