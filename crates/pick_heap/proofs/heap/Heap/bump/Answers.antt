use Rattle.pick_heap.proofs.heap.Heap.bump.Goals as goal

pub add_one-requires-clause-room : goal.add_one-requires-clause-room
add_one-requires-clause-room c = c.make_room.ensures.room
