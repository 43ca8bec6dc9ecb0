-- `trips::read_then_write`: a text of edition 3 is its own form. Assumes nothing.
use Rattle.trips.proofs.TripCalls.{bytes-trip}
use Rattle.trips.proofs.read_then_write.Goals as goal

pub returns : goal.returns
returns c =
    bytes-trip _ _ _ _ c.listing_then_write.ensures
