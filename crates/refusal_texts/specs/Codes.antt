-- The words of replies: what became of a request (OSRM's HTTP API, version 1; `AheadOfData` and `BadRequest`
-- are this project's), and what it lacks.
use Rattle.std.specs.Prelude.{ℕ, List, ◌++◌, codes}
use Rattle.std.specs.Fmt.{decimal}
use Rattle.refusal_texts.specs.declared.reply_codes.Code.{Code}
use Rattle.refusal_texts.specs.declared.reply_codes.Code.TheVariants as code
use Rattle.refusal_texts.specs.declared.lacks.Lack.{Lack}
use Rattle.refusal_texts.specs.declared.lacks.Lack.TheVariants as lack

-- a code as replies write it
abbrev pub code_text : Code → List ℕ
code_text code.Ok = codes "Ok"
code_text code.InvalidUrl = codes "InvalidUrl"
code_text code.InvalidService = codes "InvalidService"
code_text code.InvalidVersion = codes "InvalidVersion"
code_text code.InvalidOptions = codes "InvalidOptions"
code_text code.InvalidQuery = codes "InvalidQuery"
code_text code.InvalidValue = codes "InvalidValue"
code_text code.TooBig = codes "TooBig"
code_text code.AheadOfData = codes "AheadOfData"
code_text code.NoSegment = codes "NoSegment"
code_text code.NoRoute = codes "NoRoute"
code_text code.NoTrips = codes "NoTrips"
code_text code.BadRequest = codes "BadRequest"

-- the code of the reply to a request that lacks this
abbrev pub lack_code : Lack → Code
lack_code (lack.Ahead since) = code.AheadOfData
lack_code (lack.Segment coordinate) = code.NoSegment
lack_code (lack.Route leg) = code.NoRoute
lack_code lack.Trips = code.NoTrips

-- what it is, and its number
abbrev pub lack_message : Lack → List ℕ
lack_message (lack.Ahead since) = codes "since " ++ decimal since
lack_message (lack.Segment coordinate) = codes "coordinate " ++ decimal coordinate
lack_message (lack.Route leg) = codes "leg " ++ decimal leg
lack_message lack.Trips = codes "trip"
