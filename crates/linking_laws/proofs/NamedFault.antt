-- Which fault linking names.
use Rattle.std.proofs.Common.{◌≡◌, ℕ, Bool, true, false, List, [], ◌∷◌, Option, Some, None, Result, Ok, Err, refl, sym, ap, ◌∙◌, subst, ◌⊎◌, inl, inr, ⊎_elim}
use Rattle.std.specs.Prelude.{◌≢◌, ◌↔◌, is_some, IsOk}
use Rattle.std.proofs.lemmas.Bool.{false≢true}
use Rattle.vm_model.specs.Program.{PlainProgram}
use Rattle.vm_model.specs.Failures.{◌>>=◌}
use Rattle.jasmin_lines.specs.Plain.{PlainClassText}
use Rattle.class_linker.specs.declared.fault.Refusal.{Refusal}
use Rattle.name_resolver.specs.declared.names.Names.{Names}
use Rattle.name_resolver.specs.Names.{no_counts, names_of}
use Rattle.class_linker.specs.Judging.{classes_judged}
use Rattle.class_linker.specs.Bodies.{PlainTexts, texts_of, bodies_judged}
use Rattle.class_linker.specs.Linking.{unless_found, main_of, program_of, linked_with, linking}
use Rattle.linking_laws.specs.LinkFaults.{IsFirst, declaration_faults, body_faults, has_main, no_main}
use Rattle.linking_laws.proofs.First.{all_noted, Found, first_found, first_is_one}
use Rattle.linking_laws.proofs.FaultLists.{classes_noted, bodies_noted, main_found}
use Rattle.linking_laws.proofs.There.{whole_of}

-- ---- three questions

-- what linking gives, by the first fault of declarations, the first of bodies, and main
unfoldable outcome : Option Refusal → Option Refusal → Option ℕ → (ℕ → PlainProgram) → Result PlainProgram Refusal
outcome declared body main program = unless_found declared >>= λ right. unless_found body >>= λ also. main_of main >>= λ n. Ok (program n)

-- in the order of the definition
outcome_of : (classes : List PlainClassText) (names : Names) (thread_run : ℕ) (texts : PlainTexts)
    → linked_with classes names thread_run texts ≡ outcome (classes_judged names classes no_counts None) (bodies_judged names thread_run texts.rows classes None) names.main (λ n. program_of names thread_run texts n classes)
unfolding linked_with outcome
outcome_of classes names thread_run texts = by (classes_judged names classes no_counts None) (bodies_judged names thread_run texts.rows classes None)
  where
    by : (a b : Option Refusal)
        → ((unless_found a >>= λ declared. unless_found b) >>= λ right. main_of names.main >>= λ main. Ok (program_of names thread_run texts main classes))
        ≡ (unless_found a >>= λ right. unless_found b >>= λ also. main_of names.main >>= λ n. Ok (program_of names thread_run texts n classes))
    by (Some f) b = refl
    by None (Some f) = refl
    by None None = refl

-- by the lists of faults
linking_is : (classes : List PlainClassText) → linking classes ≡ outcome (all_noted None (declaration_faults classes)) (all_noted None (body_faults classes)) (names_of classes).1.main (whole_of classes)
unfolding linking
linking_is classes =
    outcome_of classes names (names_of classes).0.methods (texts_of classes)
    ∙ ap (λ (o : Option Refusal). outcome o (bodies_judged names (names_of classes).0.methods (texts_of classes).rows classes None) names.main (whole_of classes)) (classes_noted names classes no_counts None)
    ∙ ap (λ (o : Option Refusal). outcome (all_noted None (declaration_faults classes)) o names.main (whole_of classes)) (bodies_noted names (names_of classes).0.methods (texts_of classes).rows classes None)
  where
    names : Names
    names = (names_of classes).1

-- ---- what it says

-- the same fault
same_err : {A : Type 0} (f g : Refusal) (r : Result A Refusal) → r ≡ Err f → r ≡ Err g → f ≡ g
same_err f g r e h = cc

-- a named fault is the first one
named : (classes : List PlainClassText) (faults : List Refusal) (k : Found faults) (f : Refusal) → linking classes ≡ Err k.fault → (linking classes ≡ Err f) ↔ IsFirst faults f
named classes faults k f e =
    (λ h. subst (IsFirst faults) (same_err k.fault f (linking classes) e h) k.is_first, λ h. e ∙ ap Err (first_is_one faults k.fault f k.is_first h))

-- of declarations, where they have faults
pub declarations_first : (classes : List PlainClassText) (f : Refusal) → declaration_faults classes ≢ [] → (linking classes ≡ Err f) ↔ IsFirst (declaration_faults classes) f
unfolding outcome
declarations_first classes f some =
    let k : Found (declaration_faults classes) = first_found (declaration_faults classes) some in
    named classes (declaration_faults classes) k f (linking_is classes ∙ ap (λ (o : Option Refusal). outcome o (all_noted None (body_faults classes)) (names_of classes).1.main (whole_of classes)) k.is)

-- what linking gives where declarations have none
behind_declarations : (classes : List PlainClassText) → declaration_faults classes ≡ [] → linking classes ≡ outcome None (all_noted None (body_faults classes)) (names_of classes).1.main (whole_of classes)
behind_declarations classes none =
    linking_is classes ∙ ap (λ (faults : List Refusal). outcome (all_noted None faults) (all_noted None (body_faults classes)) (names_of classes).1.main (whole_of classes)) none

-- of bodies, where declarations have none
pub bodies_first : (classes : List PlainClassText) (f : Refusal) → declaration_faults classes ≡ [] → body_faults classes ≢ [] → (linking classes ≡ Err f) ↔ IsFirst (body_faults classes) f
unfolding outcome
bodies_first classes f none some =
    let k : Found (body_faults classes) = first_found (body_faults classes) some in
    named classes (body_faults classes) k f (behind_declarations classes none ∙ ap (λ (o : Option Refusal). outcome None o (names_of classes).1.main (whole_of classes)) k.is)

-- what linking gives where bodies have none either
behind_bodies : (classes : List PlainClassText) → declaration_faults classes ≡ [] → body_faults classes ≡ [] → linking classes ≡ outcome None None (names_of classes).1.main (whole_of classes)
behind_bodies classes none also =
    behind_declarations classes none ∙ ap (λ (faults : List Refusal). outcome None (all_noted None faults) (names_of classes).1.main (whole_of classes)) also

-- a program is no fault
program_no_fault : {A : Type 0} (x : A) (f : Refusal) (r : Result A Refusal) → r ≡ Ok x → r ≡ Err f → ⊥
program_no_fault x f r e h = cc

-- a missing main
pub main_last : (classes : List PlainClassText) (f : Refusal) → declaration_faults classes ≡ [] → body_faults classes ≡ [] → (linking classes ≡ Err f) ↔ ((has_main classes ≡ false) × (f ≡ no_main))
unfolding outcome
main_last classes f none also = by (names_of classes).1.main refl
  where
    by : (m : Option ℕ) → (names_of classes).1.main ≡ m → (linking classes ≡ Err f) ↔ ((has_main classes ≡ false) × (f ≡ no_main))
    by None is =
        let missing : has_main classes ≡ false = sym (main_found classes) ∙ ap is_some is in
        let e : linking classes ≡ Err no_main = behind_bodies classes none also ∙ ap (λ (o : Option ℕ). outcome None None o (whole_of classes)) is in
        (λ h. (missing, same_err f no_main (linking classes) h e), λ h. e ∙ ap Err (sym h.1))
    by (Some n) is =
        let there : has_main classes ≡ true = sym (main_found classes) ∙ ap is_some is in
        let e : linking classes ≡ Ok (whole_of classes n) = behind_bodies classes none also ∙ ap (λ (o : Option ℕ). outcome None None o (whole_of classes)) is in
        (λ h. absurd (program_no_fault (whole_of classes n) f (linking classes) e h), λ h. absurd (false≢true (sym h.0 ∙ there)))

-- ---- a program

-- a fault is no program
fault_refuses : {A : Type 0} (f : Refusal) (r : Result A Refusal) → r ≡ Err f → IsOk r → ⊥
fault_refuses f (Ok x) e h = program_no_fault x f (Ok x) refl e
fault_refuses f (Err g) e h = false≢true h

-- a program is one
program_is_ok : {A : Type 0} (x : A) (r : Result A Refusal) → r ≡ Ok x → IsOk r
program_is_ok x r e = subst IsOk (sym e) refl

-- faults are there or not
pub empty_or : (faults : List Refusal) → (faults ≡ []) ⊎ (faults ≢ [])
empty_or [] = inl refl
empty_or (x ∷ xs) = inr (λ e. cc)

-- linking gives a program only where there is no fault, and a main
linked_without : (classes : List PlainClassText) → IsOk (linking classes) → (declaration_faults classes ≡ []) × (body_faults classes ≡ []) × (has_main classes ≡ true)
linked_without classes ok = (declared, bodies, main)
  where
    declared : declaration_faults classes ≡ []
    declared = ⊎_elim (λ (e : declaration_faults classes ≡ []). e) (λ (some : declaration_faults classes ≢ []).
        let k : Found (declaration_faults classes) = first_found (declaration_faults classes) some in
        absurd (fault_refuses k.fault (linking classes) ((declarations_first classes k.fault some).1 k.is_first) ok)) (empty_or (declaration_faults classes))

    bodies : body_faults classes ≡ []
    bodies = ⊎_elim (λ (e : body_faults classes ≡ []). e) (λ (some : body_faults classes ≢ []).
        let k : Found (body_faults classes) = first_found (body_faults classes) some in
        absurd (fault_refuses k.fault (linking classes) ((bodies_first classes k.fault declared some).1 k.is_first) ok)) (empty_or (body_faults classes))

    by : (b : Bool) → has_main classes ≡ b → has_main classes ≡ true
    by true is = is
    by false is = absurd (fault_refuses no_main (linking classes) ((main_last classes no_main declared bodies).1 (is, refl)) ok)

    main : has_main classes ≡ true
    main = by (has_main classes) refl

-- and wherever that is so
without_linked : (classes : List PlainClassText) → declaration_faults classes ≡ [] → body_faults classes ≡ [] → has_main classes ≡ true → IsOk (linking classes)
unfolding outcome
without_linked classes none also there = by (names_of classes).1.main refl
  where
    by : (m : Option ℕ) → (names_of classes).1.main ≡ m → IsOk (linking classes)
    by None is = absurd (false≢true (sym (sym (main_found classes) ∙ ap is_some is) ∙ there))
    by (Some n) is =
        program_is_ok (whole_of classes n) (linking classes) (behind_bodies classes none also ∙ ap (λ (o : Option ℕ). outcome None None o (whole_of classes)) is)

-- so it gives a program exactly there
pub linked_exactly : (classes : List PlainClassText) → IsOk (linking classes) ↔ ((declaration_faults classes ≡ []) × (body_faults classes ≡ []) × (has_main classes ≡ true))
linked_exactly classes = (λ ok. linked_without classes ok, λ h. without_linked classes h.0 h.1 h.2)
