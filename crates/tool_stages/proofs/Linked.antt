-- What a text's linked program keeps.
use Rattle.std.proofs.Common.{◌≡◌, ℕ, ◌≤◌, Bool, true, false, List, length, Result, Ok, Err, None, refl}
use Rattle.std.specs.Prelude.{nat_lt, if◌then◌else◌}
use Rattle.vm_model.specs.Plain.{IsWithinBounds}
use Rattle.vm_model.specs.Program.{PlainProgram}
use Rattle.machine_model.specs.Machine.{end_of, start_machine}
use Rattle.machine_model.specs.Shapes.{IsVerified}
use Rattle.shape_laws.specs.Linked.{IsWellLinked, NamesWhatIsThere}
use Rattle.shape_laws.proofs.FirstOperation.{program_begins}
use Rattle.jasmin_text.specs.declared.token.Token.{Token}
use Rattle.jasmin_text.specs.Texts.{Spoiled, tokens_of}
use Rattle.jasmin_lines.specs.declared.fault.ReadKind.TheVariants.{TooMany}
use Rattle.jasmin_reader.specs.declared.fault.Refusal as read
use Rattle.jasmin_lines.specs.Plain.{PlainClassText}
use Rattle.jasmin_reader.specs.Reading.{reading}
use Rattle.class_linker.specs.declared.fault.Refusal as link
use Rattle.class_linker.specs.Linking.{linking}
use Rattle.linking_laws.proofs.KeptLimits.{KeepsAll, linked_keeps_all}
use Rattle.linking_laws.proofs.Linkings.{linked_is_small}
use Rattle.linking_laws.proofs.ReadNames.{read_are_named}
use Rattle.linking_laws.proofs.WellLinked.{linked_is_well_linked}
use Rattle.linking_laws.proofs.NamesThere.{linked_names_there}
use Rattle.tool_stages.specs.declared.programs.ProgramFault.TheVariants as fault
use Rattle.tool_stages.specs.Accepting.{by_link, by_classes, by_tokens, linked}

-- the tokens and the classes of a text that is linked
pub record Steps (text : List ℕ) (p : PlainProgram) : Type 0 where
  pub tokens : List Token
  pub classes : List PlainClassText
  pub reads : reading text tokens ≡ Ok classes
  pub links : linking classes ≡ Ok p

of_link : (r : Result PlainProgram link.Refusal) (p : PlainProgram) → by_link r ≡ Ok p → r ≡ Ok p
of_link (Ok q) p e = let same : q ≡ p = cc in rw same refl
of_link (Err r) p e = cc

of_classes : (text : List ℕ) (tokens : List Token) (r : Result (List PlainClassText) read.Refusal) (p : PlainProgram) → reading text tokens ≡ r → by_classes r ≡ Ok p → Steps text p
of_classes text tokens (Ok classes) p reads e = record { tokens = tokens; classes = classes; reads = reads; links = of_link (linking classes) p e }
of_classes text tokens (Err r) p reads e = cc

of_tokens : (text : List ℕ) (r : Result (List Token) Spoiled) (p : PlainProgram) → by_tokens text r ≡ Ok p → Steps text p
of_tokens text (Ok tokens) p e = of_classes text tokens (reading text tokens) p refl e
of_tokens text (Err s) p e = cc

pub steps_of : (text : List ℕ) (p : PlainProgram) → linked text ≡ Ok p → Steps text p
unfolding linked
steps_of text p e = by (nat_lt 1048576 (length text)) e
  where
    by : (long : Bool) → (if long then Err (fault.Read TooMany 0) else by_tokens text (tokens_of text)) ≡ Ok p → Steps text p
    by true e' = cc
    by false e' = of_tokens text (tokens_of text) p e'

pub is_linked : (text : List ℕ) (p : PlainProgram) → linked text ≡ Ok p → IsWithinBounds p
is_linked text p e = let s = steps_of text p e in linked_is_small s.classes p s.links

pub is_well_linked : (text : List ℕ) (p : PlainProgram) → linked text ≡ Ok p → IsWellLinked p
is_well_linked text p e = let s = steps_of text p e in linked_is_well_linked s.classes p (read_are_named text s.tokens s.classes s.reads) s.links

pub names_what_is_there : (text : List ℕ) (p : PlainProgram) → linked text ≡ Ok p → NamesWhatIsThere p
names_what_is_there text p e = let s = steps_of text p e in linked_names_there s.classes p s.links

pub keeps_limits : (text : List ℕ) (p : PlainProgram) → linked text ≡ Ok p → KeepsAll p
keeps_limits text p e = let s = steps_of text p e in linked_keeps_all s.classes p s.links

-- a verified program of a text makes an event
pub begins : (text : List ℕ) (p : PlainProgram) (budget : ℕ) → linked text ≡ Ok p → IsVerified p → 1 ≤ budget → end_of p (start_machine p) budget ≡ None
begins text p budget e verified some = program_begins p budget (is_well_linked text p e) (names_what_is_there text p e) verified some
