-- Linking names the fault that counts by the rules, and gives a program where there is none.
use Rattle.std.proofs.Common.{◌≡◌, ℕ, true, false, List, [], ap, ◌∙◌, ⊎_elim}
use Rattle.std.specs.Prelude.{◌≢◌, ◌↔◌, ◌&&◌, codes, bytes_eq, Err, IsOk}
use Rattle.std.specs.List.{list_any}
use Rattle.jasmin_lines.specs.Plain.{PlainClassText}
use Rattle.name_resolver.specs.declared.fault.LinkKind.{LinkKind}
use Rattle.name_resolver.specs.declared.fault.LinkKind.TheVariants as kinds
use Rattle.class_linker.specs.declared.fault.Refusal.{Refusal}
use Rattle.name_resolver.specs.Words.{has}
use Rattle.name_resolver.specs.Names.{is_main}
use Rattle.class_linker.specs.Linking.{linking}
use Rattle.shape_laws.proofs.Tests.{both, joined}
use Rattle.linking_laws.specs.LinkFaults.{declaration_faults, body_faults, has_main, no_main}
use Rattle.linking_laws.specs.Named.{AreNamed}
use Rattle.linking_laws.specs.Rules.{HasDeclarationFault, IsCountable}
use Rattle.linking_laws.specs.BodyRules.{HasBodyFault}
use Rattle.linking_laws.specs.FirstFault.{NoneOf, HasMain, IsFirstFault, OfDeclarations, OfBodies, OfMain, IsFaultless}
use Rattle.linking_laws.proofs.Members.{any_one, any_there, same_bytes, bytes_same, is_false}
use Rattle.linking_laws.proofs.ClassRules.{flag_there, there_flag, true_false}
use Rattle.linking_laws.proofs.NamedFault.{empty_or, declarations_first, bodies_first, main_last, linked_exactly}
use Rattle.linking_laws.proofs.ByRules.{Lists, first_by, by_first, none_listed, some_listed, declarations_listed}
use Rattle.linking_laws.proofs.BodiesByRules.{body_listed_by_rule, body_rule_listed}

bodies_listed : (classes : List PlainClassText) → Lists (body_faults classes) (HasBodyFault classes)
bodies_listed classes = record { each = λ f there. body_listed_by_rule classes f there; all = λ line kind h. body_rule_listed classes line kind h }

-- ---- main

main_there : (classes : List PlainClassText) → has_main classes ≡ true → HasMain classes
main_there classes e =
    let c : _ = any_one (λ (c : PlainClassText). list_any is_main c.methods) classes e in
    let m : _ = any_one is_main c.0.methods c.2 in
    let last : _ = both (bytes_eq m.0.name (codes "main") && bytes_eq m.0.desc (codes "([Ljava/lang/String;)V") && has (codes "public") m.0.flags) (has (codes "static") m.0.flags) m.2 in
    let second : _ = both (bytes_eq m.0.name (codes "main") && bytes_eq m.0.desc (codes "([Ljava/lang/String;)V")) (has (codes "public") m.0.flags) last.0 in
    let first : _ = both (bytes_eq m.0.name (codes "main")) (bytes_eq m.0.desc (codes "([Ljava/lang/String;)V")) second.0 in
    record {
      class = c.0;
      method = m.0;
      declared = c.1;
      there = m.1;
      is_main = (same_bytes m.0.name (codes "main") first.0, same_bytes m.0.desc (codes "([Ljava/lang/String;)V") first.1);
      is_public = flag_there m.0.flags (codes "public") second.1;
      is_static = flag_there m.0.flags (codes "static") last.1;
    }

there_main : (classes : List PlainClassText) → HasMain classes → has_main classes ≡ true
there_main classes h =
    any_there (λ (c : PlainClassText). list_any is_main c.methods) classes h.class h.declared
    (any_there is_main h.class.methods h.method h.there
    (joined (bytes_eq h.method.name (codes "main") && bytes_eq h.method.desc (codes "([Ljava/lang/String;)V") && has (codes "public") h.method.flags) (has (codes "static") h.method.flags)
    (joined (bytes_eq h.method.name (codes "main") && bytes_eq h.method.desc (codes "([Ljava/lang/String;)V")) (has (codes "public") h.method.flags)
    (joined (bytes_eq h.method.name (codes "main")) (bytes_eq h.method.desc (codes "([Ljava/lang/String;)V")) (bytes_same h.method.name (codes "main") h.is_main.0) (bytes_same h.method.desc (codes "([Ljava/lang/String;)V") h.is_main.1))
    (there_flag h.method.flags (codes "public") h.is_public)) (there_flag h.method.flags (codes "static") h.is_static)))

-- a fault is its kind and its line
same_refusal : (f : Refusal) (kind : LinkKind) (line : ℕ) → f.kind ≡ kind → f.line ≡ line → f ≡ record { kind = kind; line = line }
same_refusal f kind line e h = ap (λ (k : LinkKind). record { kind = k; line = f.line }) e ∙ ap (λ (l : ℕ). record { kind = kind; line = l }) h

-- ---- the fault that counts

named_counts : (classes : List PlainClassText) (f : Refusal) → AreNamed classes → IsCountable classes → linking classes ≡ Err f → IsFirstFault classes f
named_counts classes f named few e = ⊎_elim behind (λ (some : declaration_faults classes ≢ []). OfDeclarations (first_by (declaration_faults classes) (HasDeclarationFault classes) f declared ((declarations_first classes f some).0 e))) (empty_or (declaration_faults classes))
  where
    declared : Lists (declaration_faults classes) (HasDeclarationFault classes)
    declared = declarations_listed classes named few

    last : declaration_faults classes ≡ [] → body_faults classes ≡ [] → IsFirstFault classes f
    last none also =
        let main : (has_main classes ≡ false) × (f ≡ no_main) = (main_last classes f none also).0 e in
        OfMain ((none_listed (declaration_faults classes) (HasDeclarationFault classes) declared).0 none) ((none_listed (body_faults classes) (HasBodyFault classes) (bodies_listed classes)).0 also) (λ h. true_false (has_main classes) (there_main classes h) main.0)
        (ap (λ (g : Refusal). g.kind) main.1) (ap (λ (g : Refusal). g.line) main.1)

    behind : declaration_faults classes ≡ [] → IsFirstFault classes f
    behind none =
        ⊎_elim (λ (also : body_faults classes ≡ []). last none also)
        (λ (some : body_faults classes ≢ []). OfBodies ((none_listed (declaration_faults classes) (HasDeclarationFault classes) declared).0 none) (first_by (body_faults classes) (HasBodyFault classes) f (bodies_listed classes) ((bodies_first classes f none some).0 e)))
        (empty_or (body_faults classes))

counts_named : (classes : List PlainClassText) (f : Refusal) → AreNamed classes → IsCountable classes → IsFirstFault classes f → linking classes ≡ Err f
counts_named classes f named few first = by first
  where
    declared : Lists (declaration_faults classes) (HasDeclarationFault classes)
    declared = declarations_listed classes named few

    no_declarations : NoneOf (HasDeclarationFault classes) → declaration_faults classes ≡ []
    no_declarations none = (none_listed (declaration_faults classes) (HasDeclarationFault classes) declared).1 none

    no_bodies : NoneOf (HasBodyFault classes) → body_faults classes ≡ []
    no_bodies none = (none_listed (body_faults classes) (HasBodyFault classes) (bodies_listed classes)).1 none

    by : IsFirstFault classes f → linking classes ≡ Err f
    by (OfDeclarations h) =
        (declarations_first classes f (some_listed (declaration_faults classes) (HasDeclarationFault classes) f.line f.kind declared h.is_one)).1 (by_first (declaration_faults classes) (HasDeclarationFault classes) f declared h)
    by (OfBodies none h) =
        (bodies_first classes f (no_declarations none) (some_listed (body_faults classes) (HasBodyFault classes) f.line f.kind (bodies_listed classes) h.is_one)).1 (by_first (body_faults classes) (HasBodyFault classes) f (bodies_listed classes) h)
    by (OfMain none also missing kind line) =
        (main_last classes f (no_declarations none) (no_bodies also)).1 (is_false (has_main classes) (λ e. missing (main_there classes e)), same_refusal f kinds.NoMain 0 kind line)

pub named_by_rules : (classes : List PlainClassText) (f : Refusal) → AreNamed classes → IsCountable classes → (linking classes ≡ Err f) ↔ IsFirstFault classes f
named_by_rules classes f named few = (λ e. named_counts classes f named few e, λ first. counts_named classes f named few first)

-- ---- a program

pub linked_by_rules : (classes : List PlainClassText) → AreNamed classes → IsCountable classes → IsOk (linking classes) ↔ IsFaultless classes
linked_by_rules classes named few = (linked, faultless)
  where
    declared : Lists (declaration_faults classes) (HasDeclarationFault classes)
    declared = declarations_listed classes named few

    linked : IsOk (linking classes) → IsFaultless classes
    linked ok =
        let none : (declaration_faults classes ≡ []) × (body_faults classes ≡ []) × (has_main classes ≡ true) = (linked_exactly classes).0 ok in
        record {
          declarations = (none_listed (declaration_faults classes) (HasDeclarationFault classes) declared).0 none.0;
          bodies = (none_listed (body_faults classes) (HasBodyFault classes) (bodies_listed classes)).0 none.1;
          main = main_there classes none.2;
        }

    faultless : IsFaultless classes → IsOk (linking classes)
    faultless h = (linked_exactly classes).1 ((none_listed (declaration_faults classes) (HasDeclarationFault classes) declared).1 h.declarations, (none_listed (body_faults classes) (HasBodyFault classes) (bodies_listed classes)).1 h.bodies, there_main classes h.main)
