use Rattle.std.proofs.Common.{◌≡◌, None, take}
use Rattle.tool_io.specs.Memory.{file_in}
use Rattle.tool_io.proofs.memory.place_of.Given as goal

-- no file so far has the name
abbrev pub invariant-loop-i : goal.invariant-loop-i
invariant-loop-i l = file_in (take l.i l.files) l.name ≡ None
