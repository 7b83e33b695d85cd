-- The faults that are listed of declarations are those that the rules name: each is one of them, and of each line's the least is listed.
use Rattle.std.proofs.Common.{◌≡◌, ℕ, ◌+◌, ◌<◌, Bool, true, false, List, [], ◌∷◌, ◌++◌, Option, Some, refl, sym, ap, ◌∙◌, subst, arith, ⊎_elim, append_assoc, append-nil}
use Rattle.std.specs.Prelude.{◌||◌, if◌then◌else◌, length, map, bytes_eq, is_some, Contains}
use Rattle.std.specs.List.{AllByRecursion, list_any}
use Rattle.std.proofs.lemmas.List.Elements.{Contains-append_cases}
use Rattle.jasmin_lines.specs.declared.class_text.NameAt.{NameAt}
use Rattle.jasmin_lines.specs.Plain.{PlainClassText, PlainFieldText, PlainMethodText}
use Rattle.name_resolver.specs.declared.fault.LinkKind.{LinkKind}
use Rattle.class_linker.specs.declared.fault.Refusal.{Refusal}
use Rattle.name_resolver.specs.declared.names.Counts.{Counts}
use Rattle.name_resolver.specs.Index.{value_of}
use Rattle.name_resolver.specs.Names.{no_counts, names_of, class_begun, field_counted, method_counted}
use Rattle.class_linker.specs.Judging.{class_fault, super_fault, has_run, implements_fault, field_fault, is_full, taken, judged_method}
use Rattle.built_in_classes.specs.Classes.{BuiltInClass, built_in_classes, built_in_number, number_from}
use Rattle.built_in_classes.specs.Classes as built_in
use Rattle.linking_laws.specs.LinkFaults.{of_line, implements_faults, head_faults, fields_counted, whole_counted, fields_faults, methods_faults, class_faults, classes_faults, declaration_faults}
use Rattle.linking_laws.specs.Named.{IsNamedClass, IsNamedMethod, AreNamed}
use Rattle.linking_laws.specs.Types.{IsBuiltIn}
use Rattle.linking_laws.specs.Rules.{field_name, method_name, field_names, method_names, FieldFault, MethodFault, HasClassFault, OfClass, OfSuper, OfImplements, OfField, OfMethod, HasDeclarationFault, IsCountable}
use Rattle.linking_laws.proofs.Members.{contains_none, there_joined, joined_there, word_there, there_word}
use Rattle.linking_laws.proofs.Chains.{of_line_fault, Has, has_line, has_left, has_right}
use Rattle.linking_laws.proofs.Adding.{numbered, found_in, found_numbered}
use Rattle.linking_laws.proofs.NameRows.{names_of_classes, text_fields, text_methods, text_classes}
use Rattle.linking_laws.proofs.Spelled.{Known}
use Rattle.linking_laws.proofs.ClassRules.{declared_name, name_declared, AtClass, class_rule, rule_class, super_rule, rule_super, implements_rule, rule_implements}
use Rattle.linking_laws.proofs.FieldRules.{AtField, field_rule, rule_field}
use Rattle.linking_laws.proofs.MethodRules.{AtMethod, method_rule, rule_method}
use Rattle.linking_laws.proofs.Counting.{Here, Counted, CountedFields, CountedMethods, classes_few, fields_few, methods_few, front_few, front_methods_few, next_split, begun, field_more, fields_end, methods_begun, method_more, class_more, own_place, field_names_split, method_names_split, class_names_split, fields_before, methods_before, classes_before}

-- ---- which classes there are

built_in_found : (name : List ℕ) (classes : List BuiltInClass) (n : ℕ) → is_some (number_from n classes name) ≡ list_any (bytes_eq name) (built_in.names_of classes)
built_in_found name [] n = refl
built_in_found name (c ∷ classes) n = by (bytes_eq name c.name) (built_in_found name classes (n + 1))
  where
    by : (b : Bool) → is_some (number_from (n + 1) classes name) ≡ list_any (bytes_eq name) (built_in.names_of classes) → is_some (if b then Some n else number_from (n + 1) classes name) ≡ (b || list_any (bytes_eq name) (built_in.names_of classes))
    by true more = refl
    by false more = more

is_built_in : (name : List ℕ) → is_some (built_in_number name) ≡ true → IsBuiltIn name
unfolding built_in_number
is_built_in name e = word_there name (built_in.names_of built_in_classes) (sym (built_in_found name built_in_classes 0) ∙ e)

built_in_is : (name : List ℕ) → IsBuiltIn name → is_some (built_in_number name) ≡ true
unfolding built_in_number
built_in_is name h = built_in_found name built_in_classes 0 ∙ there_word name (built_in.names_of built_in_classes) h

pub known_classes : (text : List PlainClassText) → Known text (names_of text).1.classes
known_classes text = record {
  declared = λ name e. declared_name text name (sym (found name) ∙ e);
  there = λ name d. found name ∙ name_declared text name d;
  built_in = is_built_in;
  numbered = built_in_is;
}
  where
    found : (name : List ℕ) → is_some (value_of name (names_of text).1.classes) ≡ list_any (bytes_eq name) (names_of_classes text)
    found name = ap (λ (o : Option ℕ). is_some o) (found_in name (numbered (names_of_classes text) 32) (names_of text).1.classes (text_classes text)) ∙ found_numbered name (names_of_classes text) 32

-- ---- what is known at each line

at_class : (text before : List PlainClassText) (c : PlainClassText) (after : List PlainClassText) (n : Counts) → Here text before c after → Counted before n → AtClass (names_of text).1 before c n
at_class text before c after n h s = record {
  own = λ is. own_place (names_of text).1.classes (names_of_classes text) (names_of_classes before) c.name (names_of_classes after) n.classes 32 (text_classes text) (class_names_split text before c after h.there is)
      (s.classes ∙ ap (λ (k : ℕ). 32 + k) (classes_before before)) (subst (λ (k : ℕ). 32 + k < 2147483647) (classes_before before) (classes_few text before c after h));
  count = s.classes;
  built_in = is_built_in c.name;
  numbered = built_in_is c.name;
}

at_field : (text before : List PlainClassText) (c : PlainClassText) (after : List PlainClassText) (earlier later : List PlainFieldText) (f : PlainFieldText) (n : Counts) → Here text before c after → c.fields ≡ earlier ++ f ∷ later → CountedFields before c earlier n
    → AtField (names_of text).1 text before c earlier f n
at_field text before c after earlier later f n h split s = record {
  known = known_classes text;
  own = own_place (names_of text).1.fields (field_names text) (field_names before ++ map (field_name c) earlier) (field_name c f) (map (field_name c) later ++ field_names after) n.fields 0 (text_fields text) (field_names_split text before c after earlier later f h.there split)
      (s.fields ∙ fields_before before c earlier ∙ zero_more (length (field_names before ++ map (field_name c) earlier)))
      (subst (λ (k : ℕ). k < 2147483647) (fields_before before c earlier ∙ zero_more (length (field_names before ++ map (field_name c) earlier))) (front_few before c earlier (f ∷ later) split (fields_few text before c after h)));
  statics = s.statics;
  places = s.places;
}
  where
    zero_more : (k : ℕ) → k ≡ 0 + k
    zero_more k = omega arith

at_method : (text before : List PlainClassText) (c : PlainClassText) (after : List PlainClassText) (earlier later : List PlainMethodText) (m : PlainMethodText) (n : Counts) → Here text before c after → c.methods ≡ earlier ++ m ∷ later → IsNamedMethod m
    → CountedMethods before c earlier n → AtMethod (names_of text).1 text before c earlier m n
at_method text before c after earlier later m n h split named s = record {
  known = known_classes text;
  own = own_place (names_of text).1.methods (method_names text) (method_names before ++ map (method_name c) earlier) (method_name c m) (map (method_name c) later ++ method_names after) n.methods 0 (text_methods text) (method_names_split text before c after earlier later m h.there split)
      (s.methods ∙ methods_before before c earlier ∙ zero_more (length (method_names before ++ map (method_name c) earlier)))
      (subst (λ (k : ℕ). k < 2147483647) (methods_before before c earlier ∙ zero_more (length (method_names before ++ map (method_name c) earlier))) (front_methods_few before c earlier (m ∷ later) split (methods_few text before c after h)));
  count = s.methods;
  rest = named.rest;
  begins = named.desc;
}
  where
    zero_more : (k : ℕ) → k ≡ 0 + k
    zero_more k = omega arith

-- ---- fields

fields_rules : (text before : List PlainClassText) (c : PlainClassText) (after : List PlainClassText) (earlier rest : List PlainFieldText) (n : Counts) (f : Refusal) → Here text before c after → c.fields ≡ earlier ++ rest → CountedFields before c earlier n
    → Contains (fields_faults (names_of text).1 c.name (taken c) rest n) f → HasClassFault text before c f.line f.kind
unfolding fields_faults
fields_rules text before c after earlier [] n f h split s there = absurd (contains_none f there)
fields_rules text before c after earlier (x ∷ rest) n f h split s there =
    ⊎_elim (λ (here : Contains (of_line x.line (field_fault (names_of text).1 c.name x n (is_full (taken c) x n))) f).
    let is : _ = of_line_fault x.line (field_fault (names_of text).1 c.name x n (is_full (taken c) x n)) f here in
    OfField earlier rest x split is.0 (field_rule (names_of text).1 text before c earlier x n f.kind (at_field text before c after earlier rest x n h split s) is.1))
    (λ (later : Contains (fields_faults (names_of text).1 c.name (taken c) rest (field_counted x n)) f).
    fields_rules text before c after (earlier ++ x ∷ []) rest (field_counted x n) f h (next_split c.fields earlier x rest split)
    (field_more before c earlier x n (front_few before c (earlier ++ x ∷ []) rest (next_split c.fields earlier x rest split) (fields_few text before c after h)) s) later)
    (Contains-append_cases (of_line x.line (field_fault (names_of text).1 c.name x n (is_full (taken c) x n))) (fields_faults (names_of text).1 c.name (taken c) rest (field_counted x n)) f there)

rules_fields : (text before : List PlainClassText) (c : PlainClassText) (after : List PlainClassText) (earlier front : List PlainFieldText) (x : PlainFieldText) (later : List PlainFieldText) (n : Counts) (kind : LinkKind)
    → Here text before c after → c.fields ≡ earlier ++ (front ++ x ∷ later) → CountedFields before c earlier n → FieldFault text before c (earlier ++ front) x kind
    → Has (fields_faults (names_of text).1 c.name (taken c) (front ++ x ∷ later) n) x.line kind
unfolding fields_faults
rules_fields text before c after earlier [] x later n kind h split s fault =
    has_left (of_line x.line (field_fault (names_of text).1 c.name x n (is_full (taken c) x n))) (fields_faults (names_of text).1 c.name (taken c) later (field_counted x n)) x.line kind
    (has_line x.line kind (field_fault (names_of text).1 c.name x n (is_full (taken c) x n))
    (rule_field (names_of text).1 text before c earlier x n kind (at_field text before c after earlier later x n h split s) (subst (λ (fs : List PlainFieldText). FieldFault text before c fs x kind) (append-nil earlier) fault)))
rules_fields text before c after earlier (y ∷ front) x later n kind h split s fault =
    has_right (of_line y.line (field_fault (names_of text).1 c.name y n (is_full (taken c) y n))) (fields_faults (names_of text).1 c.name (taken c) (front ++ x ∷ later) (field_counted y n)) x.line kind
    (rules_fields text before c after (earlier ++ y ∷ []) front x later (field_counted y n) kind h (next_split c.fields earlier y (front ++ x ∷ later) split)
    (field_more before c earlier y n (front_few before c (earlier ++ y ∷ []) (front ++ x ∷ later) (next_split c.fields earlier y (front ++ x ∷ later) split) (fields_few text before c after h)) s)
    (subst (λ (fs : List PlainFieldText). FieldFault text before c fs x kind) (sym (append_assoc earlier (y ∷ []) front)) fault))

-- ---- methods

-- a method behind others has a name
named_behind : (front : List PlainMethodText) (m : PlainMethodText) (later : List PlainMethodText) → AllByRecursion IsNamedMethod (front ++ m ∷ later) → IsNamedMethod m
named_behind [] m later all = all.0
named_behind (x ∷ front) m later all = named_behind front m later all.1

methods_rules : (text before : List PlainClassText) (c : PlainClassText) (after : List PlainClassText) (earlier rest : List PlainMethodText) (n : Counts) (f : Refusal) → Here text before c after → c.methods ≡ earlier ++ rest → AllByRecursion IsNamedMethod rest → CountedMethods before c earlier n
    → Contains (methods_faults (names_of text).1 c.name rest n) f → HasClassFault text before c f.line f.kind
unfolding methods_faults
methods_rules text before c after earlier [] n f h split named s there = absurd (contains_none f there)
methods_rules text before c after earlier (x ∷ rest) n f h split named s there =
    ⊎_elim (λ (here : Contains (of_line x.line (judged_method (names_of text).1 c.name x n)) f).
    let is : _ = of_line_fault x.line (judged_method (names_of text).1 c.name x n) f here in
    OfMethod earlier rest x split is.0 (method_rule (names_of text).1 text before c earlier x n f.kind (at_method text before c after earlier rest x n h split named.0 s) is.1))
    (λ (later : Contains (methods_faults (names_of text).1 c.name rest (method_counted n)) f).
    methods_rules text before c after (earlier ++ x ∷ []) rest (method_counted n) f h (next_split c.methods earlier x rest split) named.1
    (method_more before c earlier x n (front_methods_few before c (earlier ++ x ∷ []) rest (next_split c.methods earlier x rest split) (methods_few text before c after h)) s) later)
    (Contains-append_cases (of_line x.line (judged_method (names_of text).1 c.name x n)) (methods_faults (names_of text).1 c.name rest (method_counted n)) f there)

rules_methods : (text before : List PlainClassText) (c : PlainClassText) (after : List PlainClassText) (earlier front : List PlainMethodText) (x : PlainMethodText) (later : List PlainMethodText) (n : Counts) (kind : LinkKind)
    → Here text before c after → c.methods ≡ earlier ++ (front ++ x ∷ later) → IsNamedMethod x → CountedMethods before c earlier n → MethodFault text before c (earlier ++ front) x kind
    → Has (methods_faults (names_of text).1 c.name (front ++ x ∷ later) n) x.line kind
unfolding methods_faults
rules_methods text before c after earlier [] x later n kind h split named s fault =
    has_left (of_line x.line (judged_method (names_of text).1 c.name x n)) (methods_faults (names_of text).1 c.name later (method_counted n)) x.line kind
    (has_line x.line kind (judged_method (names_of text).1 c.name x n)
    (rule_method (names_of text).1 text before c earlier x n kind (at_method text before c after earlier later x n h split named s) (subst (λ (ms : List PlainMethodText). MethodFault text before c ms x kind) (append-nil earlier) fault)))
rules_methods text before c after earlier (y ∷ front) x later n kind h split named s fault =
    has_right (of_line y.line (judged_method (names_of text).1 c.name y n)) (methods_faults (names_of text).1 c.name (front ++ x ∷ later) (method_counted n)) x.line kind
    (rules_methods text before c after (earlier ++ y ∷ []) front x later (method_counted n) kind h (next_split c.methods earlier y (front ++ x ∷ later) split) named
    (method_more before c earlier y n (front_methods_few before c (earlier ++ y ∷ []) (front ++ x ∷ later) (next_split c.methods earlier y (front ++ x ∷ later) split) (methods_few text before c after h)) s)
    (subst (λ (ms : List PlainMethodText). MethodFault text before c ms x kind) (sym (append_assoc earlier (y ∷ []) front)) fault))

-- ---- the first lines

head_rules : (text before : List PlainClassText) (c : PlainClassText) (after : List PlainClassText) (n : Counts) (f : Refusal) → Here text before c after → Counted before n → Contains (head_faults (names_of text).1 c n) f → HasClassFault text before c f.line f.kind
head_rules text before c after n f h s there =
    ⊎_elim (λ (two : Contains (of_line c.line (class_fault (names_of text).1 c n) ++ of_line c.super_line (super_fault c)) f).
    ⊎_elim (λ (here : Contains (of_line c.line (class_fault (names_of text).1 c n)) f).
    let is : _ = of_line_fault c.line (class_fault (names_of text).1 c n) f here in
    OfClass is.0 (class_rule (names_of text).1 before c n f.kind (at_class text before c after n h s) is.1))
    (λ (here : Contains (of_line c.super_line (super_fault c)) f). let is : _ = of_line_fault c.super_line (super_fault c) f here in OfSuper is.0 (super_rule c f.kind is.1))
    (Contains-append_cases (of_line c.line (class_fault (names_of text).1 c n)) (of_line c.super_line (super_fault c)) f two))
    (λ (some : Contains (implements_faults (has_run c) c.implements) f).
    let x : _ = there_joined (λ (x : NameAt). of_line x.line (implements_fault (has_run c) x)) c.implements f some in
    let is : _ = of_line_fault x.0.line (implements_fault (has_run c) x.0) f x.2 in
    OfImplements x.0 x.1 is.0 (implements_rule c x.0 f.kind is.1))
    (Contains-append_cases (of_line c.line (class_fault (names_of text).1 c n) ++ of_line c.super_line (super_fault c)) (implements_faults (has_run c) c.implements) f there)

-- an interface's line
has_implements : (c : PlainClassText) (x : NameAt) (kind : LinkKind) → Contains c.implements x → Has (of_line x.line (implements_fault (has_run c) x)) x.line kind → Has (implements_faults (has_run c) c.implements) x.line kind
has_implements c x kind there h = record {
  fault = h.fault;
  is_one = joined_there (λ (y : NameAt). of_line y.line (implements_fault (has_run c) y)) c.implements x h.fault there h.is_one;
  same_line = h.same_line;
  at_most = h.at_most;
}

-- ---- a class

class_rules : (text before : List PlainClassText) (c : PlainClassText) (after : List PlainClassText) (n : Counts) (f : Refusal) → Here text before c after → IsNamedClass c → Counted before n → Contains (class_faults (names_of text).1 c n) f → HasClassFault text before c f.line f.kind
class_rules text before c after n f h named s there =
    ⊎_elim (λ (two : Contains (head ++ fields) f).
    ⊎_elim (λ (here : Contains head f). head_rules text before c after n f h s here)
    (λ (here : Contains fields f). fields_rules text before c after [] c.fields (class_begun c n) f h refl (begun before c n s) here)
    (Contains-append_cases head fields f two))
    (λ (here : Contains methods f).
    methods_rules text before c after [] c.methods (fields_counted c.fields (class_begun c n)) f h refl named.methods
    (methods_begun before c (fields_counted c.fields (class_begun c n)) (fields_end before c [] c.fields (class_begun c n) refl (fields_few text before c after h) (begun before c n s))) here)
    (Contains-append_cases (head ++ fields) methods f there)
  where
    head : List Refusal
    head = head_faults (names_of text).1 c n

    fields : List Refusal
    fields = fields_faults (names_of text).1 c.name (taken c) c.fields (class_begun c n)

    methods : List Refusal
    methods = methods_faults (names_of text).1 c.name c.methods (fields_counted c.fields (class_begun c n))

rules_class : (text before : List PlainClassText) (c : PlainClassText) (after : List PlainClassText) (n : Counts) (line : ℕ) (kind : LinkKind) → Here text before c after → IsNamedClass c → Counted before n → HasClassFault text before c line kind → Has (class_faults (names_of text).1 c n) line kind
rules_class text before c after n line kind h named s fault = by fault
  where
    first : List Refusal
    first = of_line c.line (class_fault (names_of text).1 c n)

    second : List Refusal
    second = of_line c.super_line (super_fault c)

    third : List Refusal
    third = implements_faults (has_run c) c.implements

    fields : List Refusal
    fields = fields_faults (names_of text).1 c.name (taken c) c.fields (class_begun c n)

    methods : List Refusal
    methods = methods_faults (names_of text).1 c.name c.methods (fields_counted c.fields (class_begun c n))

    moved : (faults : List Refusal) (other : ℕ) → line ≡ other → Has faults other kind → Has faults line kind
    moved faults other e h = subst (λ (k : ℕ). Has faults k kind) (sym e) h

    in_head : Has ((first ++ second) ++ third) line kind → Has (class_faults (names_of text).1 c n) line kind
    in_head h = has_left (((first ++ second) ++ third) ++ fields) methods line kind (has_left ((first ++ second) ++ third) fields line kind h)

    by : HasClassFault text before c line kind → Has (class_faults (names_of text).1 c n) line kind
    by (OfClass e x) =
        moved (class_faults (names_of text).1 c n) line refl (in_head (has_left (first ++ second) third line kind (has_left first second line kind
        (moved first c.line e (has_line c.line kind (class_fault (names_of text).1 c n) (rule_class (names_of text).1 before c n kind (at_class text before c after n h s) x))))))
    by (OfSuper e x) = in_head (has_left (first ++ second) third line kind (has_right first second line kind (moved second c.super_line e (has_line c.super_line kind (super_fault c) (rule_super c kind x)))))
    by (OfImplements interface there e x) =
        in_head (has_right (first ++ second) third line kind (moved third interface.line e (has_implements c interface kind there (has_line interface.line kind (implements_fault (has_run c) interface) (rule_implements c interface kind x)))))
    by (OfField earlier later f split e x) =
        has_left (((first ++ second) ++ third) ++ fields) methods line kind (has_right ((first ++ second) ++ third) fields line kind
        (moved fields f.line e (subst (λ (fs : List PlainFieldText). Has (fields_faults (names_of text).1 c.name (taken c) fs (class_begun c n)) f.line kind) (sym split)
        (rules_fields text before c after [] earlier f later (class_begun c n) kind h split (begun before c n s) x))))
    by (OfMethod earlier later m split e x) =
        has_right (((first ++ second) ++ third) ++ fields) methods line kind
        (moved methods m.line e (subst (λ (ms : List PlainMethodText). Has (methods_faults (names_of text).1 c.name ms (fields_counted c.fields (class_begun c n))) m.line kind) (sym split)
        (rules_methods text before c after [] earlier m later (fields_counted c.fields (class_begun c n)) kind h split (named_behind earlier m later (subst (AllByRecursion IsNamedMethod) split named.methods))
        (methods_begun before c (fields_counted c.fields (class_begun c n)) (fields_end before c [] c.fields (class_begun c n) refl (fields_few text before c after h) (begun before c n s))) x)))

-- ---- all classes

classes_rules : (text before cs : List PlainClassText) (n : Counts) (f : Refusal) → text ≡ before ++ cs → IsCountable text → AllByRecursion IsNamedClass cs → Counted before n → Contains (classes_faults (names_of text).1 cs n) f → HasDeclarationFault text f.line f.kind
unfolding classes_faults
classes_rules text before [] n f split few named s there = absurd (contains_none f there)
classes_rules text before (c ∷ cs) n f split few named s there =
    let h : Here text before c cs = record { there = split; countable = few } in
    ⊎_elim (λ (here : Contains (class_faults (names_of text).1 c n) f). record { before = before; class = c; after = cs; there = split; fault = class_rules text before c cs n f h named.0 s here })
    (λ (later : Contains (classes_faults (names_of text).1 cs (whole_counted c n)) f). classes_rules text (before ++ c ∷ []) cs (whole_counted c n) f (next_split text before c cs split) few named.1 (class_more text before c cs n h s) later)
    (Contains-append_cases (class_faults (names_of text).1 c n) (classes_faults (names_of text).1 cs (whole_counted c n)) f there)

rules_classes : (text before front : List PlainClassText) (c : PlainClassText) (after : List PlainClassText) (n : Counts) (line : ℕ) (kind : LinkKind) → text ≡ before ++ (front ++ c ∷ after) → IsCountable text → AllByRecursion IsNamedClass (front ++ c ∷ after) → Counted before n
    → HasClassFault text (before ++ front) c line kind → Has (classes_faults (names_of text).1 (front ++ c ∷ after) n) line kind
unfolding classes_faults
rules_classes text before [] c after n line kind split few named s fault =
    has_left (class_faults (names_of text).1 c n) (classes_faults (names_of text).1 after (whole_counted c n)) line kind
    (rules_class text before c after n line kind (record { there = split; countable = few }) named.0 s (subst (λ (cs : List PlainClassText). HasClassFault text cs c line kind) (append-nil before) fault))
rules_classes text before (d ∷ front) c after n line kind split few named s fault =
    has_right (class_faults (names_of text).1 d n) (classes_faults (names_of text).1 (front ++ c ∷ after) (whole_counted d n)) line kind
    (rules_classes text (before ++ d ∷ []) front c after (whole_counted d n) line kind (next_split text before d (front ++ c ∷ after) split) few named.1 (class_more text before d (front ++ c ∷ after) n (record { there = split; countable = few }) s)
    (subst (λ (cs : List PlainClassText). HasClassFault text cs c line kind) (sym (append_assoc before (d ∷ []) front)) fault))

nothing_counted : Counted [] no_counts
nothing_counted = record { classes = refl; fields = refl; statics = refl; methods = refl }

-- each fault that is listed is one by the rules
pub listed_by_rule : (classes : List PlainClassText) (f : Refusal) → AreNamed classes → IsCountable classes → Contains (declaration_faults classes) f → HasDeclarationFault classes f.line f.kind
listed_by_rule classes f named few there = classes_rules classes [] classes no_counts f refl few named nothing_counted there

-- and each line with a fault by the rules has one that is listed, of a kind that is at most this one
pub rule_listed : (classes : List PlainClassText) (line : ℕ) (kind : LinkKind) → AreNamed classes → IsCountable classes → HasDeclarationFault classes line kind → Has (declaration_faults classes) line kind
rule_listed classes line kind named few h =
    subst (λ (cs : List PlainClassText). Has (classes_faults (names_of classes).1 cs no_counts) line kind) (sym h.there)
    (rules_classes classes [] h.before h.class h.after no_counts line kind h.there few (subst (AllByRecursion IsNamedClass) h.there named) nothing_counted h.fault)
