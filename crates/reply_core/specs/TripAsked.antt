-- What a request asks of a trip: which orders of its coordinates are admitted.
use Rattle.option_values.specs.declared.option_types.Destination.{Destination}
use Rattle.option_values.specs.declared.option_types.Destination.TheVariants as end
use Rattle.option_values.specs.declared.option_types.Source.{Source}
use Rattle.option_values.specs.declared.option_types.Source.TheVariants as begin
use Rattle.trip_query.specs.declared.rules.Destination as rule_end
use Rattle.trip_query.specs.declared.rules.Destination.TheVariants as ends
use Rattle.trip_query.specs.declared.rules.Rule.{Rule}
use Rattle.trip_query.specs.declared.rules.Source as rule_begin
use Rattle.trip_query.specs.declared.rules.Source.TheVariants as begins
use Rattle.url_read.specs.declared.requests.TripOptions.{TripOptions}

-- where a trip may begin
abbrev pub source_of : Source → rule_begin.Source
source_of begin.Any = begins.Any
source_of begin.First = begins.First

-- and where it may end
abbrev pub destination_of : Destination → rule_end.Destination
destination_of end.Any = ends.Any
destination_of end.Last = ends.Last

-- whether it returns too
abbrev pub rule_of : TripOptions → Rule
rule_of own = record { roundtrip = own.roundtrip; source = source_of own.source; destination = destination_of own.destination }
