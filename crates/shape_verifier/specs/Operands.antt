-- What an instruction leaves as it is.
use Rattle.std.specs.Prelude.{List, ◌++◌}
use Rattle.vm_model.specs.declared.value.Kind.{Kind}
use Rattle.machine_model.specs.Shapes.{Flow, Next, Jump, Branch, Leaves, Refused, with_stack}

-- the same flow, with these operands below those of its shape
abbrev pub over : List Kind → Flow → Flow
over below (Next s) = Next (with_stack s (s.stack ++ below))
over below (Jump to s) = Jump to (with_stack s (s.stack ++ below))
over below (Branch to s) = Branch to (with_stack s (s.stack ++ below))
over below Leaves = Leaves
over below Refused = Refused
