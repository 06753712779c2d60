-- What the code keeps of a reply, as what the caller gets.
use Rattle.wt_rooms.specs.declared.reply.Reply.{Reply}
use Rattle.wt_rooms.specs.Rooms.{Told}

abbrev pub told_of : Reply → Told
told_of reply = record { status = reply.status; out = reply.out; line = reply.line; missing = reply.missing }
