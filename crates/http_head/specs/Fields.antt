-- What the fields of a request head ask of its connection, over their names and values.
-- Source: RFC 9110 (sections 5.1, 5.6.1 and 7.6.1) and RFC 9112 (sections 6 and 9.3); which of
-- them count is this project's rule.
use Rattle.std.specs.Prelude.{ℕ, Bool, not, ◌&&◌, ◌||◌, ◌==◌, List, map, codes}
use Rattle.std.specs.List.{list_all, list_any, slice_split}
use Rattle.std.specs.Str.{str_eq_ignore_ascii_case}
use Rattle.httparse.specs.Grammar.{trim_ows, RequestHead}
use Rattle.httparse.specs.Spans.{name_and_value}

-- a field's name, and its value without the blanks round it
abbrev pub NameValue : Type 0
NameValue = List ℕ × List ℕ

-- the fields of a head
abbrev pub fields_of : RequestHead → List NameValue
fields_of h = map name_and_value h.fields

-- the field has this name, compared without case
abbrev pub is_named : List ℕ → NameValue → Bool
is_named name field = str_eq_ignore_ascii_case field.0 name

-- the piece of a list, without the blanks round it, is this option, compared without case
abbrev pub is_option : List ℕ → List ℕ → Bool
is_option option piece = str_eq_ignore_ascii_case (trim_ows piece) option

-- one of the pieces between the value's commas is this option
abbrev pub has_option : List ℕ → List ℕ → Bool
has_option option value = list_any (is_option option) (slice_split (λ b. b == 44) value)

-- the field is a `Connection` field that lists this option
abbrev pub is_connection_option : List ℕ → NameValue → Bool
is_connection_option option field =
    is_named (codes "connection") field && has_option option field.1

-- some field is one
abbrev pub lists_option : List ℕ → List NameValue → Bool
lists_option option fields = list_any (is_connection_option option) fields

-- the connection closes after the reply: `close` is listed, or the version is 1.0 and
-- `keep-alive` isn't
abbrev pub closes : ℕ → List NameValue → Bool
closes minor fields =
    lists_option (codes "close") fields
    || (minor == 0 && not (lists_option (codes "keep-alive") fields))

-- the value has no byte but the digit 0, so that it announces no body; the empty value too
abbrev pub is_all_zeros : List ℕ → Bool
is_all_zeros value = list_all (λ b. b == 48) value

-- the field announces a body
abbrev pub announces_body : NameValue → Bool
announces_body field =
    is_named (codes "transfer-encoding") field
    || (is_named (codes "content-length") field && not (is_all_zeros field.1))
