-- `cases::rooms::room_of` is safe and ends: what read counts is in the slices. Assumes nothing but what libc and os do.
use Rattle.checks.specs.Model.{lent}
use Rattle.texts.proofs.ReadLeft.{read-room}
use Rattle.cases.proofs.rooms.room_of.Goals as goal

pub room_in-requires : goal.room_in-requires
room_in-requires c =
    let left = lent c.read.new.width c.read.new.lock c.read.new.mask c.read.new.value c.read.new.words in
    let room = read-room _ _ c.read.result {new = left} c.read.ensures _ c.in-Ok.is in
    (room.widths_hold, room.locks_hold, room.masks_hold, room.values_hold, room.words_hold)
