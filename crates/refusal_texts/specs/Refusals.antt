-- Replies without a result: refusals, and what a request lacks under a metric (OSRM's HTTP API, version 1; the
-- messages are this project's rule). The bytes of a reply are the compact text of its value.
use Rattle.std.specs.Prelude.{ℕ, List, [], ◌∷◌, codes}
use Rattle.std.specs.Fmt.{decimal}
use Rattle.json_text.specs.Values.{JsonValue, text}
use Rattle.json_text.specs.Wholes.{object_of}
use Rattle.refusal_texts.specs.Codes.{code_text, lack_code, lack_message}
use Rattle.refusal_texts.specs.declared.reply_codes.Code.{Code}
use Rattle.refusal_texts.specs.declared.reply_codes.Code.TheVariants as code
use Rattle.refusal_texts.specs.declared.lacks.Lack.{Lack}

-- what became of the request
abbrev pub code_member : Code → List ℕ × JsonValue
code_member kind = (codes "code", text (code_text kind))

-- the number of the metric that a reply is made under, as a text
abbrev pub version_member : ℕ → List ℕ × JsonValue
version_member number = (codes "data_version", text (decimal number))

abbrev pub message_member : List ℕ → List ℕ × JsonValue
message_member message = (codes "message", text message)

-- what a request lacks, under a metric of this number
unfoldable pub lack_value : ℕ → Lack → JsonValue
lack_value number what = object_of (code_member (lack_code what) ∷ version_member number ∷ message_member (lack_message what) ∷ [])

-- a refusal that no metric has part in
unfoldable pub refusal_value : Code → List ℕ → JsonValue
refusal_value kind message = object_of (code_member kind ∷ message_member message ∷ [])

-- the line is of no form
abbrev pub bad_request_value : JsonValue
bad_request_value = object_of (code_member code.BadRequest ∷ [])

-- there was no memory for a reply
abbrev pub busy_value : JsonValue
busy_value = object_of ((codes "code", text (codes "Busy")) ∷ [])

-- the texts of these two, byte by byte
abbrev pub bad_request_text : List ℕ
bad_request_text = codes "{\"code\":\"BadRequest\"}"

abbrev pub busy_text : List ℕ
busy_text = codes "{\"code\":\"Busy\"}"
