-- The definitions compute whole runs of small programs, as they were worked out by hand.
use Rattle.std.proofs.Common.{◌≡◌, ℕ, List, [], ◌∷◌, Option, Some, None, Bool, true, false, pos, refl}
use Rattle.std.specs.Fmt.{digits}
use Rattle.vm_model.specs.declared.value.Value.TheVariants as value
use Rattle.vm_model.specs.declared.value.Kind.TheVariants as kind
use Rattle.vm_model.specs.declared.ends.End.{End}
use Rattle.vm_model.specs.declared.ends.End.TheVariants as end
use Rattle.vm_model.specs.declared.ends.FaultKind.TheVariants as fault
use Rattle.vm_model.specs.declared.op.Reply.{Reply}
use Rattle.vm_model.specs.declared.op.Reply.TheVariants as reply
use Rattle.vm_model.specs.declared.op.Entry.{Entry}
use Rattle.vm_model.specs.declared.instr.Instr.{Instr}
use Rattle.vm_model.specs.declared.instr.Instr.TheVariants as instr
use Rattle.vm_model.specs.Program.{PlainMethod, PlainProgram}
use Rattle.machine_model.specs.Kinds.{chain}
use Rattle.machine_model.specs.LocalStep.{settled_within}
use Rattle.machine_model.specs.Machine.{MachineState, run, end_of}
use Rattle.machine_model.specs.Ring.{schedule_threads, scheduled_from}

-- the end and the output of the run of these threads
abbrev end_after : PlainProgram → ℕ → Option MachineState → Option End
end_after p budget None = None
end_after p budget (Some m) = end_of p m budget

abbrev output_after : Option MachineState → List ℕ
output_after None = []
output_after (Some m) = m.world.output

abbrev replies_of : List Entry → List Reply
replies_of [] = []
replies_of (e ∷ es) = e.reply ∷ replies_of es

abbrev replies_after : Option MachineState → List Reply
replies_after None = []
replies_after (Some m) = replies_of m.history

abbrev method : Bool → List Instr → PlainMethod
method is_static code = record { class = 32; name = []; params = []; gives = None; is_static = is_static; is_synchronized = false; max_stack = None; max_locals = Some 3; code = code }

abbrev main_method : List Instr → PlainMethod
main_method code = record (method true code) { params = kind.Args ∷ [] }

-- Thread's own run, which calls the target's
abbrev thread_run : PlainMethod
thread_run =
    record (method false
    (instr.Aload 0 ∷ instr.GetField 1 0 ∷ instr.Astore 1 ∷ instr.Aload 1 ∷ instr.Ifnull 7 ∷ instr.Aload 1 ∷ instr.RunOf 2 ∷ instr.Return ∷ [])) { class = 1 }

-- a constructor of a thread's class
abbrev init_method : PlainMethod
init_method = method false (instr.Aload 0 ∷ instr.Init 1 false ∷ instr.Return ∷ [])

-- two threads that each add 1 to a static, with no lock
abbrev two_adders : PlainProgram
two_adders = record {
  classes = record { name = []; is_thread = true; is_runnable = false; fields = []; run = Some 1 } ∷ [];
  methods =
      init_method
      ∷ method false (instr.GetStatic 0 ∷ instr.Push (pos 1) ∷ instr.Iadd ∷ instr.PutStatic 0 ∷ instr.Return ∷ [])
      ∷ main_method
      (instr.New 32 ∷ instr.Dup ∷ instr.InvokeSpecial 0 ∷ instr.Astore 1 ∷ instr.New 32 ∷ instr.Dup ∷ instr.InvokeSpecial 0 ∷ instr.Astore 2
      ∷ instr.Aload 1 ∷ instr.Start ∷ instr.Aload 2 ∷ instr.Start ∷ instr.Aload 1 ∷ instr.Join ∷ instr.Aload 2 ∷ instr.Join
      ∷ instr.GetStatic 0 ∷ instr.Push (pos 2) ∷ instr.IfIcmpeq 23 ∷ instr.New 8 ∷ instr.Dup ∷ instr.Init 8 false ∷ instr.Athrow ∷ instr.Return ∷ [])
      ∷ thread_run ∷ [];
  statics = record { class = 32; name = []; kind = kind.Int; start = value.Int (pos 0) } ∷ [];
  texts = [];
  main = 2;
}

-- without switches the first adder is done before the second begins
adders_in_turn : schedule_threads two_adders [] 1048576 ≡ 0 ∷ 0 ∷ 0 ∷ 0 ∷ 1 ∷ 1 ∷ 1 ∷ 2 ∷ 2 ∷ 2 ∷ 0 ∷ 0 ∷ 0 ∷ 0 ∷ []
unfolding scheduled_from settled_within chain
adders_in_turn = refl

adders_done : end_after two_adders 1048576 (run two_adders (0 ∷ 0 ∷ 0 ∷ 0 ∷ 1 ∷ 1 ∷ 1 ∷ 2 ∷ 2 ∷ 2 ∷ 0 ∷ 0 ∷ 0 ∷ 0 ∷ [])) ≡ Some end.Done
unfolding settled_within chain
adders_done = refl

-- one switch between the read and the write loses one addition
adders_switched : schedule_threads two_adders (5 ∷ []) 1048576 ≡ 0 ∷ 0 ∷ 0 ∷ 0 ∷ 1 ∷ 2 ∷ 2 ∷ 2 ∷ 1 ∷ 1 ∷ 0 ∷ 0 ∷ 0 ∷ 0 ∷ 0 ∷ []
unfolding scheduled_from settled_within chain
adders_switched = refl

adders_fail : end_after two_adders 1048576 (run two_adders (0 ∷ 0 ∷ 0 ∷ 0 ∷ 1 ∷ 2 ∷ 2 ∷ 2 ∷ 1 ∷ 1 ∷ 0 ∷ 0 ∷ 0 ∷ 0 ∷ 0 ∷ [])) ≡ Some (end.Fault (record { kind = fault.Thrown 8; thread = 0; method = 2; at = 22 }))
unfolding settled_within chain
adders_fail = refl

-- two places lead from thread 0 over 2 back to 0
adders_three_times : schedule_threads two_adders (7 ∷ 7 ∷ 3 ∷ []) 1048576 ≡ 0 ∷ 0 ∷ 0 ∷ 1 ∷ 1 ∷ 1 ∷ 0 ∷ 0 ∷ 2 ∷ 2 ∷ 2 ∷ 0 ∷ 0 ∷ 0 ∷ []
unfolding scheduled_from settled_within chain
adders_three_times = refl

-- a thread that waits with its lock entered twice, and one that notifies it
abbrev waits_twice : PlainProgram
waits_twice = record {
  classes = record { name = []; is_thread = true; is_runnable = false; fields = []; run = Some 1 } ∷ [];
  methods =
      init_method
      ∷ method false
      (instr.GetStatic 0 ∷ instr.Astore 1 ∷ instr.Aload 1 ∷ instr.MonitorEnter ∷ instr.Aload 1 ∷ instr.Notify ∷ instr.Aload 1 ∷ instr.MonitorExit ∷ instr.Return ∷ [])
      ∷ main_method
      (instr.New 0 ∷ instr.Dup ∷ instr.Init 0 false ∷ instr.Astore 1 ∷ instr.Aload 1 ∷ instr.PutStatic 0 ∷ instr.New 32 ∷ instr.Dup ∷ instr.InvokeSpecial 0 ∷ instr.Start
      ∷ instr.Aload 1 ∷ instr.MonitorEnter ∷ instr.Aload 1 ∷ instr.MonitorEnter ∷ instr.Aload 1 ∷ instr.Wait ∷ instr.Aload 1 ∷ instr.MonitorExit
      ∷ instr.Aload 1 ∷ instr.MonitorExit ∷ instr.Return ∷ [])
      ∷ thread_run ∷ [];
  statics = record { class = 32; name = []; kind = kind.Ref 0; start = value.Null } ∷ [];
  texts = [];
  main = 2;
}

twice_in_turn : schedule_threads waits_twice [] 1048576 ≡ 0 ∷ 0 ∷ 0 ∷ 0 ∷ 0 ∷ 0 ∷ 0 ∷ 1 ∷ 1 ∷ 1 ∷ 1 ∷ 1 ∷ 0 ∷ 0 ∷ 0 ∷ 0 ∷ []
unfolding scheduled_from settled_within chain
twice_in_turn = refl

twice_replies :
    replies_after (run waits_twice (0 ∷ 0 ∷ 0 ∷ 0 ∷ 0 ∷ 0 ∷ 0 ∷ 1 ∷ 1 ∷ 1 ∷ 1 ∷ 1 ∷ 0 ∷ 0 ∷ 0 ∷ 0 ∷ []))
    ≡ reply.Made (value.Obj 0 0) ∷ reply.Unit ∷ reply.Made (value.Obj 1 32) ∷ reply.Began 1 ∷ reply.Unit ∷ reply.Unit ∷ reply.Waits 2
    ∷ reply.Got (value.Obj 0 0) ∷ reply.Unit ∷ reply.Unit ∷ reply.Unit ∷ reply.Unit ∷ reply.Unit ∷ reply.Unit ∷ reply.Unit ∷ reply.Unit ∷ []
unfolding settled_within chain
twice_replies = refl

-- a program of main alone
abbrev alone : List Instr → PlainProgram
alone code = record {
  classes = record { name = []; is_thread = false; is_runnable = false; fields = []; run = None } ∷ [];
  methods = main_method code ∷ thread_run ∷ [];
  statics = record { class = 32; name = []; kind = kind.Int; start = value.Int (pos 0) } ∷ [];
  texts = [];
  main = 0;
}

-- the sum of 1 to 10
abbrev sum_to_ten : PlainProgram
sum_to_ten =
    alone
    (instr.Push (pos 1) ∷ instr.Istore 1 ∷ instr.GetStatic 0 ∷ instr.Iload 1 ∷ instr.Iadd ∷ instr.PutStatic 0 ∷ instr.Iinc 1 (pos 1) ∷ instr.Iload 1 ∷ instr.Push (pos 10)
    ∷ instr.IfIcmple 2 ∷ instr.Out ∷ instr.GetStatic 0 ∷ instr.PrintInt true ∷ instr.Return ∷ [])

sum_printed : output_after (run sum_to_ten (schedule_threads sum_to_ten [] 1048576)) ≡ 53 ∷ 53 ∷ 10 ∷ []
unfolding scheduled_from settled_within chain digits
sum_printed = refl

-- 21 of its 23 events print nothing yet
sum_spent : output_after (run sum_to_ten (schedule_threads sum_to_ten [] 21)) ≡ []
unfolding scheduled_from settled_within chain
sum_spent = refl

-- a notify without the lock, and a thread started twice
notifies_freely : end_after (alone (instr.New 0 ∷ instr.Dup ∷ instr.Init 0 false ∷ instr.Notify ∷ instr.Return ∷ [])) 1048576 (run (alone (instr.New 0 ∷ instr.Dup ∷ instr.Init 0 false ∷ instr.Notify ∷ instr.Return ∷ [])) (0 ∷ 0 ∷ 0 ∷ []))
    ≡ Some (end.Fault (record { kind = fault.MonitorState; thread = 0; method = 0; at = 3 }))
unfolding settled_within chain
notifies_freely = refl

abbrev starts_again : PlainProgram
starts_again = alone (instr.New 1 ∷ instr.Dup ∷ instr.Init 1 false ∷ instr.Dup ∷ instr.Start ∷ instr.Start ∷ instr.Return ∷ [])

started_again : end_after starts_again 1048576 (run starts_again (0 ∷ 0 ∷ 0 ∷ 0 ∷ [])) ≡ Some (end.Fault (record { kind = fault.ThreadState; thread = 0; method = 0; at = 5 }))
unfolding settled_within chain
started_again = refl

-- an array is an Object, so Object's constructor takes it
abbrev constructs_array : PlainProgram
constructs_array = alone (instr.Push (pos 1) ∷ instr.NewArray ∷ instr.Init 0 false ∷ instr.Return ∷ [])

array_constructed : end_after constructs_array 1048576 (run constructs_array (0 ∷ 0 ∷ [])) ≡ Some end.Done
unfolding settled_within chain
array_constructed = refl
