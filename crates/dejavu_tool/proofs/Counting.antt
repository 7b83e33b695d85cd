-- How many loads failed, by the status that is answered.
use Rattle.std.proofs.Common.{◌≡◌, ℕ, Global, List, Vec, Result, Err, sym, subst, inl, inr, ⊎_elim}
use Rattle.tool_stages.specs.declared.halt.Halt.{Halt}
use Rattle.tool_stages.specs.declared.halt.Halt.TheVariants as halt
use Rattle.tool_stages.specs.declared.status.Status.{Status}
use Rattle.tool_stages.specs.declared.status.Status.TheVariants as status
use Rattle.tool_stages.specs.Calls.{SinkCall}
use Rattle.tool_stages.specs.Stages.{CountsLoads, CountsTold}
use Rattle.dejavu_tool.specs.Answers.{CountsAnswer, PutsUnlessFault}

answer_of_told : (old new : ℕ) (st : Status) → CountsTold old new st → CountsAnswer old new st
answer_of_told old new status.WriteFault h = inl h
answer_of_told old new status.OutOfMemory h = inl h
answer_of_told old new _ h = h

fault_of_told : (old new : ℕ) (st : Status) → CountsTold old new st → CountsAnswer old new status.WriteFault
fault_of_told old new status.ReadFault h = inr h
fault_of_told old new _ h = inl h

-- what is told is put, or a put fails
told_counted : (old new : ℕ) (s : SinkCall) (st answer : Status) (text : List ℕ) → CountsTold old new st → PutsUnlessFault s st text answer → CountsAnswer old new answer
told_counted old new s st answer text h p =
    ⊎_elim (λ q. subst (CountsAnswer old new) (sym q.0) (answer_of_told old new st h)) (λ q. subst (CountsAnswer old new) (sym q.0) (fault_of_told old new st h)) p

-- the text of what was done
pub done_counted : (old new : ℕ) (s : SinkCall) (answer : Status) (text : List ℕ) → new ≡ old → PutsUnlessFault s status.Ok text answer → CountsAnswer old new answer
done_counted old new s answer text h p = told_counted old new s status.Ok answer text h p

-- what a stage told that stopped, whatever it would have given
pub halt_counted : (old new : ℕ) (s : SinkCall) (h : Halt) (st answer : Status) (line : Vec ℕ Global) (text : List ℕ) → h ≡ halt.Told st line → CountsLoads {X = ℕ} old new (Err h) → PutsUnlessFault s st text answer
    → CountsAnswer old new answer
halt_counted old new s h st answer line text e counts p =
    told_counted old new s st answer text (subst (λ (k : Halt). CountsLoads {X = ℕ} old new (Err k)) e counts) p
