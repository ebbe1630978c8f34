-- What a head says, without where it lies in memory.
use Rattle.bhs_replay.specs.declared.head_parts.HeadFields.{HeadFields as Kept}
use Rattle.bhs_replay.specs.HeadReading.{HeadFields}

abbrev pub seen : Kept → HeadFields
seen says = record { version = says.version; nodes = says.nodes; links = says.links.items; setup = says.setup }
