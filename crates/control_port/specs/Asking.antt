-- What the head of a request asks of a control connection, and which body stands behind it (RFC 9112, sections 3 and 6,
-- in the grammar of `httparse`; which targets there are and how long a body may be is this project's rule).
use Rattle.std.specs.Prelude.{◌≡◌, ℕ, ◌≤◌, ◌&&◌, ◌==◌, List, [], ◌∷◌, length, filter, drop, codes, bytes_eq, nat_eq, nat_le, Option, Some, None, if◌then◌else◌}
use Rattle.std.specs.List.{list_any, starts_with}
use Rattle.std.specs.Str.Parse.{digits_value}
use Rattle.decimal_text.specs.Numeral.{is_numeral}
use Rattle.httparse.specs.Grammar.{RequestHead}
use Rattle.http_head.specs.Fields.{NameValue, fields_of, is_named}
use Rattle.control_port.specs.declared.asking.Announced.{Announced}
use Rattle.control_port.specs.declared.asking.Announced.TheVariants as announced
use Rattle.control_port.specs.declared.asking.ControlHead.{ControlHead}
use Rattle.control_port.specs.declared.asking.ControlHead.TheVariants as asked

-- the number that 1 to 18 decimal digits write, and nothing else; leading zeros are digits as others
abbrev pub number_of : List ℕ → Option ℕ
number_of text = if is_numeral text && nat_le (length text) 18 then Some (digits_value 10 text) else None

abbrev pub length_of : Option ℕ → Announced
length_of None = announced.Other
length_of (Some length) = announced.Length length

-- what these `Content-Length` fields announce: one of them the length that it writes, more of them none that is taken
abbrev pub by_lengths : List NameValue → Announced
by_lengths [] = announced.Nothing
by_lengths (field ∷ []) = length_of (number_of field.1)
by_lengths (field ∷ other ∷ more) = announced.Other

-- what is announced where one `Content-Length` more is
abbrev pub with_length : Announced → Option ℕ → Announced
with_length announced.Nothing length = length_of length
with_length before length = announced.Other

-- what is announced where one field more stands there
abbrev pub with_field : Announced → NameValue → Announced
with_field before field = if is_named (codes "content-length") field then with_length before (number_of field.1) else before

-- which body these fields announce: one in a transfer coding is none that is taken
abbrev pub announced_by : List NameValue → Announced
announced_by fields =
    if list_any (is_named (codes "transfer-encoding")) fields then announced.Other
    else by_lengths (filter (is_named (codes "content-length")) fields)

-- the most bytes that a body may have
abbrev pub most_bytes : ℕ
most_bytes = 67108864

-- a stop has no body, or one of length 0
abbrev pub stop_by : Announced → ControlHead
stop_by announced.Nothing = asked.Stop
stop_by (announced.Length length) = if length == 0 then asked.Stop else asked.Bad
stop_by announced.Other = asked.Bad

-- a metric has a body, of which the first bytes are the speeds file
abbrev pub metric_by : Option ℕ → Announced → ControlHead
metric_by (Some speeds) (announced.Length length) =
    if nat_le speeds length && nat_le length most_bytes then asked.Metric speeds length else asked.Bad
metric_by speeds announced = asked.Bad

abbrev pub stop_target : List ℕ
stop_target = codes "/control/v1/stop"

-- a metric's target up to the number of bytes of its speeds file
abbrev pub metric_target : List ℕ
metric_target = codes "/control/v1/metric?speeds="

-- what a target asks for, of such a body; targets are compared byte by byte
abbrev pub target_asks : List ℕ → Announced → ControlHead
target_asks target body =
    if bytes_eq target stop_target then stop_by body
    else (if starts_with nat_eq target metric_target then metric_by (number_of (drop (length metric_target) target)) body
    else asked.Bad)

-- what a head asks for
abbrev pub asked_of : RequestHead → ControlHead
asked_of h = if bytes_eq h.method (codes "POST") then target_asks h.target (announced_by (fields_of h)) else asked.Bad

-- how many bytes of a body are read behind the head: what is no request that is served has none that is read
abbrev pub body_length : ControlHead → ℕ
body_length (asked.Metric speeds length) = length
body_length asked.Stop = 0
body_length asked.Bad = 0

-- the speeds file is within the body
abbrev pub HasSpeeds : ControlHead → Type 0
HasSpeeds (asked.Metric speeds length) = speeds ≤ length
HasSpeeds asked.Stop = Unit {0}
HasSpeeds asked.Bad = Unit {0}

-- the body that stands behind the head
pub record IsBodyOf (request : ControlHead) (body : List ℕ) : Type 0 where
  pub size : length body ≡ body_length request
  pub speeds : HasSpeeds request
