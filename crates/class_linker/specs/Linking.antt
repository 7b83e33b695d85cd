-- The linked program of classes, or their first fault.
use Rattle.std.specs.Prelude.{◌≡◌, ℕ, List, [], ◌∷◌, ◌++◌, map, Option, Some, None, Result, Ok, Err}
use Rattle.vm_model.specs.declared.limits.TheConstants.{FIRST_USER_CLASS}
use Rattle.vm_model.specs.Program.{PlainProgram}
use Rattle.vm_model.specs.Failures.{◌>>=◌}
use Rattle.jasmin_lines.specs.Plain.{PlainClassText}
use Rattle.name_resolver.specs.declared.fault.LinkKind.TheVariants.{NoMain}
use Rattle.class_linker.specs.declared.fault.LinkFault.{LinkFault}
use Rattle.class_linker.specs.declared.fault.LinkFault.TheVariants as fault
use Rattle.class_linker.specs.declared.fault.Refusal.{Refusal}
use Rattle.name_resolver.specs.declared.names.Names.{Names}
use Rattle.name_resolver.specs.Names.{names_of, no_counts}
use Rattle.class_linker.specs.Judging.{classes_judged}
use Rattle.class_linker.specs.Bodies.{PlainTexts, texts_of, bodies_judged}
use Rattle.class_linker.specs.Programs.{linked_class, methods_of, thread_method, slots_of}

abbrev pub unless_found : Option Refusal → Result (Unit {0}) Refusal
unless_found None = Ok tt
unless_found (Some f) = Err f

abbrev pub main_of : Option ℕ → Result ℕ Refusal
main_of None = Err (record { kind = NoMain; line = 0 })
main_of (Some n) = Ok n

abbrev pub program_of : Names → ℕ → PlainTexts → ℕ → List PlainClassText → PlainProgram
program_of names thread_run texts main classes = record {
  classes = map (linked_class names) classes;
  methods = methods_of names thread_run texts.rows FIRST_USER_CLASS classes ++ thread_method ∷ [];
  statics = slots_of names FIRST_USER_CLASS classes;
  texts = texts.names;
  main = main;
}

-- faults of declarations come before those of bodies
abbrev pub judged : List PlainClassText → Names → ℕ → PlainTexts → Result (Unit {0}) Refusal
judged classes names thread_run texts = do
  declared ← unless_found (classes_judged names classes no_counts None)
  unless_found (bodies_judged names thread_run texts.rows classes None)

-- a missing main comes last
unfoldable pub linked_with : List PlainClassText → Names → ℕ → PlainTexts → Result PlainProgram Refusal
linked_with classes names thread_run texts = do
  right ← judged classes names thread_run texts
  main ← main_of names.main
  Ok (program_of names thread_run texts main classes)

unfoldable pub linking : List PlainClassText → Result PlainProgram Refusal
linking classes = linked_with classes (names_of classes).1 (names_of classes).0.methods (texts_of classes)

-- ---- answers

-- what a part of the linker returned is what the definition of the same part says, unless memory ran out
abbrev pub Fails : {Y : Type 0} → LinkFault → Result Y Refusal → Type 0
Fails (fault.At kind line) read = read ≡ Err (record { kind = kind; line = line })
Fails fault.NoMemory read = Unit {0}

abbrev pub Gives : {Y : Type 0} → Result Y LinkFault → Result Y Refusal → Type 0
Gives (Ok x) read = read ≡ Ok x
Gives (Err e) read = Fails e read
