-- Classes have one program, and linking gives it exactly where nothing is wrong with them.
use Rattle.std.proofs.Common.{◌≡◌, ℕ, ◌+◌, Bool, true, false, List, [], ◌∷◌, ◌++◌, Option, Some, Result, Ok, Err, refl, sym, ap, ◌∙◌, subst}
use Rattle.std.specs.Prelude.{◌↔◌, ◌||◌, if◌then◌else◌, IsOk}
use Rattle.std.specs.List.{AllZip, list_any, position_from}
use Rattle.std.proofs.lemmas.Bool.{false≢true}
use Rattle.vm_model.specs.declared.instr.Instr.{Instr}
use Rattle.vm_model.specs.declared.program.Field.{Field}
use Rattle.vm_model.specs.declared.program.StaticSlot.{StaticSlot}
use Rattle.vm_model.specs.declared.value.Kind.{Kind}
use Rattle.vm_model.specs.declared.value.Value.{Value}
use Rattle.vm_model.specs.Program.{PlainClass, PlainMethod, PlainProgram}
use Rattle.jasmin_lines.specs.Plain.{PlainClassText, PlainFieldText, PlainMethodText}
use Rattle.class_linker.specs.declared.fault.Refusal.{Refusal}
use Rattle.name_resolver.specs.Names.{is_main}
use Rattle.class_linker.specs.Linking.{linking}
use Rattle.linking_laws.specs.Declared.{is_main_method, methods_declared, own_fields, statics_declared}
use Rattle.linking_laws.specs.Links.{first_value, LinksField, LinksClass, LinksStatic, LinksLine, LinksMethod, run_of_thread, LinksMethods, Links}
use Rattle.linking_laws.specs.LinkFaults.{declaration_faults, body_faults, has_main}
use Rattle.linking_laws.specs.Named.{AreNamed, AreWritten}
use Rattle.linking_laws.proofs.NamePlaces.{methods_with}
use Rattle.linking_laws.proofs.NamedFault.{linked_exactly}
use Rattle.linking_laws.proofs.Numbered.{none_some, some_same}
use Rattle.linking_laws.proofs.OnlyTypes.{same_class, same_kind, same_signature}
use Rattle.linking_laws.proofs.OnlyCode.{same_line}
use Rattle.linking_laws.proofs.LinkedProgram.{linked_links}

-- two lists that are related to one are the same
zip_same : {A B : Type 0} (R : A → B → Type 0) (xs : List A) (ys zs : List B) → ((x : A) (y z : B) → R x y → R x z → y ≡ z) → AllZip R xs ys → AllZip R xs zs → ys ≡ zs
zip_same R [] [] [] h a b = refl
zip_same R [] [] (z ∷ zs) h a b = absurd b
zip_same R [] (y ∷ ys) zs h a b = absurd a
zip_same R (x ∷ xs) [] zs h a b = absurd a
zip_same R (x ∷ xs) (y ∷ ys) [] h a b = absurd b
zip_same {B = B} R (x ∷ xs) (y ∷ ys) (z ∷ zs) h a b = ap (λ (w : B). w ∷ ys) (h x y z a.0 b.0) ∙ ap (λ (ws : List B). z ∷ ws) (zip_same R xs ys zs h a.1 b.1)

-- ---- classes and fields

same_field : (classes : List PlainClassText) (f : PlainFieldText) (g h : Field) → LinksField classes f g → LinksField classes f h → g ≡ h
same_field classes f g h a b = name ∙ ap (λ (k : Kind). record { name = h.name; kind = k }) (same_kind classes g.kind h.kind f.desc a.kind b.kind)
  where
    name : g ≡ record { name = h.name; kind = g.kind }
    name = ap (λ (n : List ℕ). record { name = n; kind = g.kind }) (a.name ∙ sym b.name)

same_class_of : (classes : List PlainClassText) (c : PlainClassText) (d e : PlainClass) → LinksClass classes c d → LinksClass classes c e → d ≡ e
same_class_of classes c d e a b =
    ap (λ (n : List ℕ). one n d.is_thread d.is_runnable d.fields d.run) (a.name ∙ sym b.name)
    ∙ ap (λ (t : Bool). one e.name t d.is_runnable d.fields d.run) (a.is_thread ∙ sym b.is_thread)
    ∙ ap (λ (t : Bool). one e.name e.is_thread t d.fields d.run) (a.is_runnable ∙ sym b.is_runnable)
    ∙ ap (λ (fs : List Field). one e.name e.is_thread e.is_runnable fs d.run) (zip_same (LinksField classes) (own_fields c) d.fields e.fields (same_field classes) a.fields b.fields)
    ∙ ap (λ (r : Option ℕ). one e.name e.is_thread e.is_runnable e.fields r) (a.run ∙ sym b.run)
  where
    one : List ℕ → Bool → Bool → List Field → Option ℕ → PlainClass
    one name thread runnable fields run = record { name = name; is_thread = thread; is_runnable = runnable; fields = fields; run = run }

same_static : (classes : List PlainClassText) (d : List ℕ × PlainFieldText) (s t : StaticSlot) → LinksStatic classes d s → LinksStatic classes d t → s ≡ t
same_static classes d s t a b =
    ap (λ (n : ℕ). one n s.name s.kind s.start) (same_class classes d.0 s.class t.class a.class b.class)
    ∙ ap (λ (n : List ℕ). one t.class n s.kind s.start) (a.name ∙ sym b.name)
    ∙ ap (λ (k : Kind). one t.class t.name k s.start) kinds
    ∙ ap (λ (v : Value). one t.class t.name t.kind v) (a.start ∙ ap (λ (k : Kind). first_value k d.1.value) kinds ∙ sym b.start)
  where
    one : ℕ → List ℕ → Kind → Value → StaticSlot
    one class name kind start = record { class = class; name = name; kind = kind; start = start }

    kinds : s.kind ≡ t.kind
    kinds = same_kind classes s.kind t.kind d.1.desc a.kind b.kind

-- ---- methods

same_method : (classes : List PlainClassText) (d : List ℕ × PlainMethodText) (m k : PlainMethod) → LinksMethod classes d m → LinksMethod classes d k → m ≡ k
same_method classes d m k a b =
    ap (λ (n : ℕ). one n m.name m.params m.gives m.is_static m.is_synchronized m.max_stack m.max_locals m.code) (same_class classes d.0 m.class k.class a.class b.class)
    ∙ ap (λ (n : List ℕ). one k.class n m.params m.gives m.is_static m.is_synchronized m.max_stack m.max_locals m.code) (a.name ∙ sym b.name)
    ∙ ap (λ (ps : List Kind). one k.class k.name ps m.gives m.is_static m.is_synchronized m.max_stack m.max_locals m.code) types.0
    ∙ ap (λ (g : Option Kind). one k.class k.name k.params g m.is_static m.is_synchronized m.max_stack m.max_locals m.code) types.1
    ∙ ap (λ (t : Bool). one k.class k.name k.params k.gives t m.is_synchronized m.max_stack m.max_locals m.code) (a.is_static ∙ sym b.is_static)
    ∙ ap (λ (t : Bool). one k.class k.name k.params k.gives k.is_static t m.max_stack m.max_locals m.code) (a.is_synchronized ∙ sym b.is_synchronized)
    ∙ ap (λ (n : Option ℕ). one k.class k.name k.params k.gives k.is_static k.is_synchronized n m.max_locals m.code) (a.stack ∙ sym b.stack)
    ∙ ap (λ (n : Option ℕ). one k.class k.name k.params k.gives k.is_static k.is_synchronized k.max_stack n m.code) (a.locals ∙ sym b.locals)
    ∙ ap (λ (c : List Instr). one k.class k.name k.params k.gives k.is_static k.is_synchronized k.max_stack k.max_locals c) (zip_same (LinksLine classes d.1) d.1.lines m.code k.code (same_line classes d.1) a.code b.code)
  where
    one : ℕ → List ℕ → List Kind → Option Kind → Bool → Bool → Option ℕ → Option ℕ → List Instr → PlainMethod
    one class name params gives static synchronized stack locals code = record {
      class = class;
      name = name;
      params = params;
      gives = gives;
      is_static = static;
      is_synchronized = synchronized;
      max_stack = stack;
      max_locals = locals;
      code = code;
    }

    types : (m.params ≡ k.params) × (m.gives ≡ k.gives)
    types = same_signature classes d.1 m.params k.params m.gives k.gives a.signature b.signature

same_methods : (classes : List PlainClassText) (ms ks : List PlainMethod) → LinksMethods classes ms → LinksMethods classes ks → ms ≡ ks
same_methods classes ms ks a b = a.is ∙ ap (λ (own : List PlainMethod). own ++ run_of_thread ∷ []) (zip_same (LinksMethod classes) (methods_declared classes) a.own b.own (same_method classes) a.each b.each) ∙ sym b.is

-- ---- the program

pub same_program : (classes : List PlainClassText) (p q : PlainProgram) → Links classes p → Links classes q → p ≡ q
same_program classes p q a b =
    ap (λ (cs : List PlainClass). one cs p.methods p.statics p.texts p.main) (zip_same (LinksClass classes) classes p.classes q.classes (same_class_of classes) a.classes_are b.classes_are)
    ∙ ap (λ (ms : List PlainMethod). one q.classes ms p.statics p.texts p.main) (same_methods classes p.methods q.methods a.methods_are b.methods_are)
    ∙ ap (λ (ss : List StaticSlot). one q.classes q.methods ss p.texts p.main) (zip_same (LinksStatic classes) (statics_declared classes) p.statics q.statics (same_static classes) a.statics_are b.statics_are)
    ∙ ap (λ (ts : List (List ℕ)). one q.classes q.methods q.statics ts p.main) (a.texts_are ∙ sym b.texts_are)
    ∙ ap (λ (n : ℕ). one q.classes q.methods q.statics q.texts n) (some_same p.main q.main (sym a.main_is ∙ b.main_is))
  where
    one : List PlainClass → List PlainMethod → List StaticSlot → List (List ℕ) → ℕ → PlainProgram
    one classes methods statics texts main = record { classes = classes; methods = methods; statics = statics; texts = texts; main = main }

-- ---- where linking gives it

-- a place is one of something
place_any : {A : Type 0} (test : A → Bool) (n k : ℕ) (xs : List A) → position_from test n xs ≡ Some k → list_any test xs ≡ true
place_any test n k [] e = absurd (none_some k e)
place_any test n k (x ∷ xs) e = by (test x) e (place_any test (n + 1) k xs)
  where
    by : (b : Bool) → (if b then Some n else position_from test (n + 1) xs) ≡ Some k → (position_from test (n + 1) xs ≡ Some k → list_any test xs ≡ true) → (b || list_any test xs) ≡ true
    by true h more = refl
    by false h more = more h

-- in two lists
any_both : {A : Type 0} (test : A → Bool) (xs ys : List A) → list_any test (xs ++ ys) ≡ (list_any test xs || list_any test ys)
any_both test [] ys = refl
any_both test (x ∷ xs) ys = by (test x) (any_both test xs ys)
  where
    by : (b : Bool) → list_any test (xs ++ ys) ≡ (list_any test xs || list_any test ys) → (b || list_any test (xs ++ ys)) ≡ ((b || list_any test xs) || list_any test ys)
    by true h = refl
    by false h = h

-- a main among the methods of a class
mains_of : (class : List ℕ) (ms : List PlainMethodText) → list_any is_main_method (methods_with class ms) ≡ list_any is_main ms
mains_of class [] = refl
mains_of class (m ∷ ms) = ap (λ (b : Bool). is_main m || b) (mains_of class ms)

-- and of all classes
main_of_all : (classes : List PlainClassText) → list_any is_main_method (methods_declared classes) ≡ has_main classes
main_of_all [] = refl
main_of_all (c ∷ cs) =
    any_both is_main_method (methods_with c.name c.methods) (methods_declared cs) ∙ ap (λ (b : Bool). b || list_any is_main_method (methods_declared cs)) (mains_of c.name c.methods)
    ∙ ap (λ (b : Bool). list_any is_main c.methods || b) (main_of_all cs)

-- a program that is given
is_given : (r : Result PlainProgram Refusal) → IsOk r → (q : PlainProgram) × (r ≡ Ok q)
is_given (Ok q) h = (q, refl)
is_given (Err f) h = absurd (false≢true h)

-- something is linked only where it is a program
is_ok : (r : Result PlainProgram Refusal) (p : PlainProgram) → r ≡ Ok p → IsOk r
is_ok r p e = subst IsOk (sym e) refl

-- linking gives the program of the classes, where nothing is wrong with them
pub links_exactly : (classes : List PlainClassText) (p : PlainProgram) → AreNamed classes → AreWritten classes → (linking classes ≡ Ok p) ↔ (Links classes p × (declaration_faults classes ≡ []) × (body_faults classes ≡ []))
links_exactly classes p named written = (there, back)
  where
    there : linking classes ≡ Ok p → Links classes p × (declaration_faults classes ≡ []) × (body_faults classes ≡ [])
    there e =
        let right : (declaration_faults classes ≡ []) × (body_faults classes ≡ []) × (has_main classes ≡ true) = (linked_exactly classes).0 (is_ok (linking classes) p e) in
        (linked_links classes p named written e, right.0, right.1)

    back : Links classes p × (declaration_faults classes ≡ []) × (body_faults classes ≡ []) → linking classes ≡ Ok p
    back h =
        let main : has_main classes ≡ true = sym (main_of_all classes) ∙ place_any is_main_method 0 p.main (methods_declared classes) h.0.main_is in
        let found : (q : PlainProgram) × (linking classes ≡ Ok q) = is_given (linking classes) ((linked_exactly classes).1 (h.1, h.2, main)) in
        found.1 ∙ ap Ok (same_program classes found.0 p (linked_links classes found.0 named written found.1) h.0)
