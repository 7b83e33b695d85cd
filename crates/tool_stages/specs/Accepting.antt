-- Which texts are programs.
use Rattle.std.specs.Prelude.{◌≡◌, ℕ, List, length, nat_lt, if◌then◌else◌, Result, Ok, Err}
use Rattle.vm_model.specs.declared.limits.TheConstants.{MOST_TEXT_BYTES}
use Rattle.vm_model.specs.Program.{PlainProgram}
use Rattle.jasmin_text.specs.declared.token.Token.{Token}
use Rattle.jasmin_text.specs.Texts.{Spoiled, tokens_of}
use Rattle.jasmin_lines.specs.declared.fault.ReadKind.TheVariants.{TooMany}
use Rattle.jasmin_reader.specs.declared.fault.Refusal as read
use Rattle.jasmin_lines.specs.Plain.{PlainClassText}
use Rattle.jasmin_reader.specs.Reading.{reading}
use Rattle.class_linker.specs.declared.fault.Refusal as link
use Rattle.class_linker.specs.Linking.{linking}
use Rattle.machine_model.specs.Shapes.{IsVerified}
use Rattle.shape_verifier.specs.declared.fault.Refusal as shape
use Rattle.shape_verifier.specs.Passing.{IsRefused}
use Rattle.tool_stages.specs.declared.programs.ProgramFault.{ProgramFault}
use Rattle.tool_stages.specs.declared.programs.ProgramFault.TheVariants as fault

-- ---- tokens, then classes, then links: each is judged where the one before has no fault

abbrev pub by_link : Result PlainProgram link.Refusal → Result PlainProgram ProgramFault
by_link (Ok p) = Ok p
by_link (Err r) = Err (fault.Link r.kind r.line)

abbrev pub by_classes : Result (List PlainClassText) read.Refusal → Result PlainProgram ProgramFault
by_classes (Ok classes) = by_link (linking classes)
by_classes (Err r) = Err (fault.Read r.kind r.line)

abbrev pub by_tokens : List ℕ → Result (List Token) Spoiled → Result PlainProgram ProgramFault
by_tokens text (Ok tokens) = by_classes (reading text tokens)
by_tokens text (Err s) = Err (fault.Text s.kind s.line s.column)

-- the linked program of a text, or its first fault; a text above 1,048,576 bytes isn't read at all
unfoldable pub linked : List ℕ → Result PlainProgram ProgramFault
linked text = if nat_lt MOST_TEXT_BYTES (length text) then Err (fault.Read TooMany 0) else by_tokens text (tokens_of text)

-- ---- the program of a text

-- The text's program: what it links to, where each method has a closed table of shapes.
pub record IsAccepted (text : List ℕ) (p : PlainProgram) : Type 0 where
  pub links : linked text ≡ Ok p
  pub verified : IsVerified p

-- the text is linked, and its program has a least method without a closed table, over which the pass stops here
pub record IsUnverified (text : List ℕ) (method : ℕ) (why : shape.Refusal) : Type 0 where
  pub program : PlainProgram
  pub links : linked text ≡ Ok program
  pub refused : IsRefused program method why

-- ---- answers

-- why there is no linked program
abbrev pub Fails : Result PlainProgram ProgramFault → ProgramFault → Type 0
Fails answer (fault.Text kind line column) = answer ≡ Err (fault.Text kind line column)
Fails answer (fault.Read kind line) = answer ≡ Err (fault.Read kind line)
Fails answer (fault.Link kind line) = answer ≡ Err (fault.Link kind line)
Fails answer (fault.Shape _ method at) = ⊥
Fails answer fault.NoMemory = Unit {0}

-- a linked program, or why there is none
abbrev pub Gives : Result PlainProgram ProgramFault → Result PlainProgram ProgramFault → Type 0
Gives (Ok p) answer = answer ≡ Ok p
Gives (Err f) answer = Fails answer f

-- why a text isn't accepted: its first fault
abbrev pub Refuses : List ℕ → ProgramFault → Type 0
Refuses text (fault.Text kind line column) = linked text ≡ Err (fault.Text kind line column)
Refuses text (fault.Read kind line) = linked text ≡ Err (fault.Read kind line)
Refuses text (fault.Link kind line) = linked text ≡ Err (fault.Link kind line)
Refuses text (fault.Shape kind method at) = IsUnverified text method (record { kind = kind; at = at })
Refuses text fault.NoMemory = Unit {0}
