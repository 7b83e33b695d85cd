-- What judging says of a method is what the rules say.
use Rattle.std.proofs.Common.{◌≡◌, ℕ, ◌≤◌, ◌<◌, Bool, true, false, List, [], ◌∷◌, ◌++◌, Option, Some, None, refl, sym, ap, ◌∙◌, subst, arith, ⊎_elim}
use Rattle.std.specs.Prelude.{not, ◌||◌, ◌&&◌, if◌then◌else◌, nat_le, nat_lt, length, map, flat_map, codes, bytes_eq, is_some, Contains}
use Rattle.std.specs.List.{list_any}
use Rattle.std.proofs.lemmas.Bool.{false≢true}
use Rattle.std.proofs.lemmas.List.Elements.{All-from_recursion, All-contains}
use Rattle.jasmin_lines.specs.Plain.{PlainClassText, PlainMethodText}
use Rattle.name_resolver.specs.declared.fault.LinkKind.{LinkKind}
use Rattle.name_resolver.specs.declared.fault.LinkKind.TheVariants as kinds
use Rattle.name_resolver.specs.declared.names.Counts.{Counts}
use Rattle.name_resolver.specs.declared.names.Names.{Names}
use Rattle.name_resolver.specs.BuiltIn.{is_reserved}
use Rattle.class_linker.specs.Faults.{only_if}
use Rattle.name_resolver.specs.Index.{Rows, value_of}
use Rattle.name_resolver.specs.Words.{has_foreign_flag, method_key, is_init}
use Rattle.name_resolver.specs.Names.{is_static}
use Rattle.name_resolver.specs.Descriptors.{PlainSignature, signature_of, method_signature, takes_args, args_signature, in_signature, is_unknown, is_bad, is_outside}
use Rattle.class_linker.specs.Judging.{is_this, above, gives_wrong, has_too_many, is_reserved_method, is_foreign_method, judged_method}
use Rattle.shape_laws.proofs.Tests.{both, joined, either, on_left, on_right, at_most, below_true, true_below}
use Rattle.linking_laws.specs.Types.{Takes, nothing, IsMethodType}
use Rattle.linking_laws.specs.Rules.{method_name, method_names, IsMain, reserved_methods, MethodFault, MethodOfUnknown, SecondMethod, MethodMisspelled, ConstructorGives, ManyMethods, ManyParameters, GreatStack, GreatLocals, MethodFlag, MethodOfForeign, ClassInitialiser, StaticConstructor, Reserved}
use Rattle.linking_laws.proofs.There.{at_least}
use Rattle.linking_laws.proofs.Judged.{neither}
use Rattle.linking_laws.proofs.Members.{same_bytes, bytes_same, word_there, there_word, is_false}
use Rattle.linking_laws.proofs.Chains.{Within, here, behind, first_or, no_fault}
use Rattle.linking_laws.proofs.Spelled.{Known, reads_unknown, unknown_reads, unknown_type, reads_foreign, foreign_reads, foreign_type}
use Rattle.linking_laws.proofs.Signatures.{Named, right_reads, reads_right, counts_right, gives_something, something_gives, named_in, in_named, main_param, main_takes, main_unknown, main_right}
use Rattle.linking_laws.proofs.ClassRules.{true_false, flag_rule, rule_flag}

-- what is known where a method is judged: which classes there are, whether its name was there before, how many methods there were, and that its descriptor begins with a bracket
pub record AtMethod (names : Names) (text before : List PlainClassText) (c : PlainClassText) (earlier : List PlainMethodText) (m : PlainMethodText) (n : Counts) : Type 0 where
  pub known : Known text names.classes
  pub own : not (is_this n.methods (value_of (method_key c.name m.name m.desc) names.methods)) ≡ list_any (bytes_eq (method_name c m)) (method_names before ++ map (method_name c) earlier)
  pub count : n.methods ≡ length (flat_map (λ (d : PlainClassText). d.methods) before ++ earlier)
  pub rest : List ℕ
  pub begins : m.desc ≡ 40 ∷ rest

-- ---- main's argument

-- what is read of a descriptor, whether it is main's or not
pub record Reading (rows : Rows) (m : PlainMethodText) : Type 0 where
  pub unknown : in_signature is_unknown (method_signature rows m.name m.desc) ≡ in_signature is_unknown (signature_of rows m.desc)
  pub bad : in_signature is_bad (method_signature rows m.name m.desc) ≡ in_signature is_bad (signature_of rows m.desc)
  pub count : (types : List (List ℕ)) (gives : List ℕ) → Takes m.desc types gives → length (method_signature rows m.name m.desc).params ≡ length types

args_are : (m : PlainMethodText) → takes_args m.name m.desc ≡ true → IsMain m
args_are m e =
    let words : _ = both (bytes_eq m.name (codes "main")) (bytes_eq m.desc (codes "([Ljava/lang/String;)V")) e in
    (same_bytes m.name (codes "main") words.0, same_bytes m.desc (codes "([Ljava/lang/String;)V") words.1)

are_args : (m : PlainMethodText) → IsMain m → takes_args m.name m.desc ≡ true
are_args m h = joined (bytes_eq m.name (codes "main")) (bytes_eq m.desc (codes "([Ljava/lang/String;)V")) (bytes_same m.name (codes "main") h.0) (bytes_same m.desc (codes "([Ljava/lang/String;)V") h.1)

main_read : (rows : Rows) (m : PlainMethodText) → IsMain m → takes_args m.name m.desc ≡ true → Reading rows m
main_read rows m is e = record {
  unknown = ap (in_signature is_unknown) args ∙ sym (ap (λ (d : List ℕ). in_signature is_unknown (signature_of rows d)) is.1 ∙ main_unknown rows);
  bad = ap (in_signature is_bad) args ∙ sym (right_reads rows m.desc main_type);
  count = λ types gives t. ap (λ (s : PlainSignature). length s.params) args ∙ sym (counts_right rows m.desc (main_param ∷ []) nothing (subst (λ (d : List ℕ). Takes d (main_param ∷ []) nothing) (sym is.1) main_takes)) ∙ counts_right rows m.desc types gives t;
}
  where
    args : method_signature rows m.name m.desc ≡ args_signature
    args = ap (λ (b : Bool). if b then args_signature else signature_of rows m.desc) e

    main_type : IsMethodType m.desc
    main_type = subst IsMethodType (sym is.1) main_right

other_is : (rows : Rows) (m : PlainMethodText) → takes_args m.name m.desc ≡ false → method_signature rows m.name m.desc ≡ signature_of rows m.desc
other_is rows m e = ap (λ (b : Bool). if b then args_signature else signature_of rows m.desc) e

other_read : (rows : Rows) (m : PlainMethodText) → takes_args m.name m.desc ≡ false → Reading rows m
other_read rows m e = record {
  unknown = ap (in_signature is_unknown) (other_is rows m e);
  bad = ap (in_signature is_bad) (other_is rows m e);
  count = λ types gives t. ap (λ (s : PlainSignature). length s.params) (other_is rows m e) ∙ counts_right rows m.desc types gives t;
}

pub reading : (rows : Rows) (m : PlainMethodText) → Reading rows m
reading rows m = by (takes_args m.name m.desc) refl
  where
    by : (b : Bool) → takes_args m.name m.desc ≡ b → Reading rows m
    by true e = main_read rows m (args_are m e) e
    by false e = other_read rows m e

-- ---- limits

above_is : (limit : ℕ) (o : Option ℕ) → above limit o ≡ true → (n : ℕ) × (o ≡ Some n) × (limit < n)
above_is limit None e = absurd (false≢true e)
above_is limit (Some n) e = (n, refl, true_below limit n e)

is_above : (limit : ℕ) (o : Option ℕ) (n : ℕ) → o ≡ Some n → limit < n → above limit o ≡ true
is_above limit o n e h = ap (above limit) e ∙ below_true limit n h

-- ---- what may not be declared

reserved_rule : (word : List ℕ) → is_reserved word ≡ true → Contains reserved_methods word
reserved_rule word e =
    ⊎_elim (λ (h : (bytes_eq word (codes "start()V") || bytes_eq word (codes "join()V") || bytes_eq word (codes "wait()V") || bytes_eq word (codes "notify()V") || bytes_eq word (codes "notifyAll()V")) ≡ true).
    ⊎_elim (λ (h : (bytes_eq word (codes "start()V") || bytes_eq word (codes "join()V") || bytes_eq word (codes "wait()V") || bytes_eq word (codes "notify()V")) ≡ true).
    ⊎_elim (λ (h : (bytes_eq word (codes "start()V") || bytes_eq word (codes "join()V") || bytes_eq word (codes "wait()V")) ≡ true).
    ⊎_elim (λ (h : (bytes_eq word (codes "start()V") || bytes_eq word (codes "join()V")) ≡ true).
    ⊎_elim (λ (h : bytes_eq word (codes "start()V") ≡ true). (0, omega arith, sym (same_bytes word (codes "start()V") h)))
    (λ (h : bytes_eq word (codes "join()V") ≡ true). (1, omega arith, sym (same_bytes word (codes "join()V") h))) (either _ _ h))
    (λ (h : bytes_eq word (codes "wait()V") ≡ true). (2, omega arith, sym (same_bytes word (codes "wait()V") h))) (either _ _ h))
    (λ (h : bytes_eq word (codes "notify()V") ≡ true). (3, omega arith, sym (same_bytes word (codes "notify()V") h))) (either _ _ h))
    (λ (h : bytes_eq word (codes "notifyAll()V") ≡ true). (4, omega arith, sym (same_bytes word (codes "notifyAll()V") h))) (either _ _ h))
    (λ (h : bytes_eq word (codes "yield()V") ≡ true). (5, omega arith, sym (same_bytes word (codes "yield()V") h))) (either _ _ e)

-- a word passes a test that each of these passes
rule_reserved : (word : List ℕ) → Contains reserved_methods word → is_reserved word ≡ true
rule_reserved word h = All-contains (λ (w : List ℕ). is_reserved w ≡ true) reserved_methods word (All-from_recursion (λ (w : List ℕ). is_reserved w ≡ true) reserved_methods (refl, (refl, (refl, (refl, (refl, (refl, tt))))))) h

-- ---- a method

pub method_rule : (names : Names) (text before : List PlainClassText) (c : PlainClassText) (earlier : List PlainMethodText) (m : PlainMethodText) (n : Counts) (kind : LinkKind) → AtMethod names text before c earlier m n
    → judged_method names c.name m n ≡ Some kind → MethodFault text before c earlier m kind
method_rule names text before c earlier m n kind at e =
    ⊎_elim (λ (x : (in_signature is_unknown s ≡ true) × (kinds.UnknownClass ≡ kind)). subst Fault x.1 (unknown (sym read.unknown ∙ x.0)))
    (λ (x : (in_signature is_unknown s ≡ false) × (from_twice ≡ Some kind)). after_unknown x.1)
    (first_or kinds.UnknownClass kind (in_signature is_unknown s) from_twice e)
  where
    Fault : LinkKind → Type 0
    Fault k = MethodFault text before c earlier m k

    s : PlainSignature
    s = method_signature names.classes m.name m.desc

    read : Reading names.classes m
    read = reading names.classes m

    twice : Bool
    twice = not (is_this n.methods (value_of (method_key c.name m.name m.desc) names.methods))

    foreign : Bool
    foreign = is_foreign_method m s (is_reserved_method m)

    from_many : Option LinkKind
    from_many = only_if kinds.TooMany (has_too_many m s n) (only_if kinds.OutOfProfile foreign None)

    from_bad : Option LinkKind
    from_bad = only_if kinds.BadDescriptor (gives_wrong m s) from_many

    from_twice : Option LinkKind
    from_twice = only_if kinds.Twice twice from_bad

    unknown : in_signature is_unknown (signature_of names.classes m.desc) ≡ true → Fault kinds.UnknownClass
    unknown h =
        let x : Named names.classes is_unknown m.desc = named_in names.classes is_unknown m.desc at.rest refl at.begins h in
        MethodOfUnknown x.type x.says (reads_unknown text names.classes x.type at.known x.passes)

    right : in_signature is_bad s ≡ false → IsMethodType m.desc
    right h = reads_right names.classes m.desc at.rest at.begins (sym read.bad ∙ h)

    -- a constructor that gives something
    gives : in_signature is_bad s ≡ false → is_init m.name ≡ true → is_some s.gives ≡ true → Fault kinds.BadDescriptor
    gives h init some = by (takes_args m.name m.desc) refl
      where
        t : IsMethodType m.desc
        t = right h

        by : (b : Bool) → takes_args m.name m.desc ≡ b → Fault kinds.BadDescriptor
        by true is = absurd (false≢true (ap (λ (b : Bool). is_some (if b then args_signature else signature_of names.classes m.desc).gives) (sym is) ∙ some))
        by false is =
            ConstructorGives (flat_map (λ (x : List ℕ). x) t.types) t.gives (same_bytes m.name (codes "<init>") init) t.takes.parted
            (something_gives names.classes m.desc (flat_map (λ (x : List ℕ). x) t.types) t.gives t.takes.parted (ap (λ (x : PlainSignature). is_some x.gives) (sym (other_is names.classes m is)) ∙ some))

    wrong : gives_wrong m s ≡ true → Fault kinds.BadDescriptor
    wrong h = by (in_signature is_bad s) refl
      where
        by : (b : Bool) → in_signature is_bad s ≡ b → Fault kinds.BadDescriptor
        by true is = MethodMisspelled (λ t. true_false (in_signature is_bad s) is (read.bad ∙ right_reads names.classes m.desc t))
        by false is =
            let parts : _ = both (is_init m.name) (is_some s.gives) (sym (ap (λ (b : Bool). b || (is_init m.name && is_some s.gives)) is) ∙ h) in
            gives is parts.0 parts.1

    many : gives_wrong m s ≡ false → has_too_many m s n ≡ true → Fault kinds.TooMany
    many fine h =
        ⊎_elim (λ (x : (nat_le 1024 n.methods || nat_lt 16 (length s.params) || above 1024 m.stack) ≡ true).
        ⊎_elim (λ (y : (nat_le 1024 n.methods || nat_lt 16 (length s.params)) ≡ true).
        ⊎_elim (λ (z : nat_le 1024 n.methods ≡ true). ManyMethods (let enough : 1024 ≤ n.methods = at_most 1024 n.methods z in subst (λ (k : ℕ). 1024 ≤ k) at.count enough))
        (λ (z : nat_lt 16 (length s.params) ≡ true).
        let t : IsMethodType m.desc = right (neither (in_signature is_bad s) (is_init m.name && is_some s.gives) fine).0 in
        let enough : 16 < length s.params = true_below 16 (length s.params) z in
        ManyParameters t.types t.gives t.takes (subst (λ (k : ℕ). 16 < k) (read.count t.types t.gives t.takes) enough))
        (either (nat_le 1024 n.methods) (nat_lt 16 (length s.params)) y))
        (λ (y : above 1024 m.stack ≡ true). let x : _ = above_is 1024 m.stack y in GreatStack x.0 x.1 x.2)
        (either (nat_le 1024 n.methods || nat_lt 16 (length s.params)) (above 1024 m.stack) x))
        (λ (x : above 256 m.locals ≡ true). let y : _ = above_is 256 m.locals x in GreatLocals y.0 y.1 y.2)
        (either (nat_le 1024 n.methods || nat_lt 16 (length s.params) || above 1024 m.stack) (above 256 m.locals) h)

    outside : in_signature is_outside s ≡ true → Fault kinds.OutOfProfile
    outside h = by (takes_args m.name m.desc) refl
      where
        by : (b : Bool) → takes_args m.name m.desc ≡ b → Fault kinds.OutOfProfile
        by true is = absurd (false≢true (ap (λ (b : Bool). in_signature is_outside (if b then args_signature else signature_of names.classes m.desc)) (sym is) ∙ h))
        by false is =
            let x : Named names.classes is_outside m.desc = named_in names.classes is_outside m.desc at.rest refl at.begins (ap (in_signature is_outside) (sym (other_is names.classes m is)) ∙ h) in
            MethodOfForeign x.type x.says (reads_foreign names.classes x.type x.passes) (λ main. true_false (takes_args m.name m.desc) (are_args m main) is)

    flag : Bool
    flag = has_foreign_flag m.flags

    strange : foreign ≡ true → Fault kinds.OutOfProfile
    strange h =
        ⊎_elim (λ (x : (flag || in_signature is_outside s || bytes_eq m.name (codes "<clinit>") || (is_init m.name && is_static m.flags)) ≡ true).
        ⊎_elim (λ (x : (flag || in_signature is_outside s || bytes_eq m.name (codes "<clinit>")) ≡ true).
        ⊎_elim (λ (x : (flag || in_signature is_outside s) ≡ true).
        ⊎_elim (λ (x : flag ≡ true). MethodFlag (flag_rule m.flags x)) (λ (x : in_signature is_outside s ≡ true). outside x) (either flag (in_signature is_outside s) x))
        (λ (x : bytes_eq m.name (codes "<clinit>") ≡ true). ClassInitialiser (same_bytes m.name (codes "<clinit>") x)) (either (flag || in_signature is_outside s) (bytes_eq m.name (codes "<clinit>")) x))
        (λ (x : (is_init m.name && is_static m.flags) ≡ true). let parts : _ = both (is_init m.name) (is_static m.flags) x in StaticConstructor (same_bytes m.name (codes "<init>") parts.0) parts.1)
        (either (flag || in_signature is_outside s || bytes_eq m.name (codes "<clinit>")) (is_init m.name && is_static m.flags) x))
        (λ (x : is_reserved_method m ≡ true). Reserved (reserved_rule (m.name ++ m.desc) x))
        (either (flag || in_signature is_outside s || bytes_eq m.name (codes "<clinit>") || (is_init m.name && is_static m.flags)) (is_reserved_method m) h)

    after_many : only_if kinds.OutOfProfile foreign None ≡ Some kind → Fault kind
    after_many h =
        ⊎_elim (λ (x : (foreign ≡ true) × (kinds.OutOfProfile ≡ kind)). subst Fault x.1 (strange x.0)) (λ (x : (foreign ≡ false) × (None ≡ Some kind)). absurd (no_fault kind x.1)) (first_or kinds.OutOfProfile kind foreign None h)

    after_bad : gives_wrong m s ≡ false → from_many ≡ Some kind → Fault kind
    after_bad fine h =
        ⊎_elim (λ (x : (has_too_many m s n ≡ true) × (kinds.TooMany ≡ kind)). subst Fault x.1 (many fine x.0)) (λ (x : (has_too_many m s n ≡ false) × (only_if kinds.OutOfProfile foreign None ≡ Some kind)). after_many x.1)
        (first_or kinds.TooMany kind (has_too_many m s n) (only_if kinds.OutOfProfile foreign None) h)

    after_twice : from_bad ≡ Some kind → Fault kind
    after_twice h =
        ⊎_elim (λ (x : (gives_wrong m s ≡ true) × (kinds.BadDescriptor ≡ kind)). subst Fault x.1 (wrong x.0)) (λ (x : (gives_wrong m s ≡ false) × (from_many ≡ Some kind)). after_bad x.0 x.1)
        (first_or kinds.BadDescriptor kind (gives_wrong m s) from_many h)

    after_unknown : from_twice ≡ Some kind → Fault kind
    after_unknown h =
        ⊎_elim (λ (x : (twice ≡ true) × (kinds.Twice ≡ kind)). subst Fault x.1 (SecondMethod (word_there (method_name c m) (method_names before ++ map (method_name c) earlier) (sym at.own ∙ x.0)))) (λ (x : (twice ≡ false) × (from_bad ≡ Some kind)). after_twice x.1)
        (first_or kinds.Twice kind twice from_bad h)

pub rule_method : (names : Names) (text before : List PlainClassText) (c : PlainClassText) (earlier : List PlainMethodText) (m : PlainMethodText) (n : Counts) (kind : LinkKind) → AtMethod names text before c earlier m n
    → MethodFault text before c earlier m kind → Within kind (judged_method names c.name m n)
rule_method names text before c earlier m n kind at fault = by kind fault
  where
    s : PlainSignature
    s = method_signature names.classes m.name m.desc

    read : Reading names.classes m
    read = reading names.classes m

    twice : Bool
    twice = not (is_this n.methods (value_of (method_key c.name m.name m.desc) names.methods))

    foreign : Bool
    foreign = is_foreign_method m s (is_reserved_method m)

    from_many : Option LinkKind
    from_many = only_if kinds.TooMany (has_too_many m s n) (only_if kinds.OutOfProfile foreign None)

    from_bad : Option LinkKind
    from_bad = only_if kinds.BadDescriptor (gives_wrong m s) from_many

    from_twice : Option LinkKind
    from_twice = only_if kinds.Twice twice from_bad

    all : Option LinkKind
    all = judged_method names c.name m n

    wrong : gives_wrong m s ≡ true → Within kinds.BadDescriptor all
    wrong h = behind kinds.BadDescriptor kinds.UnknownClass (in_signature is_unknown s) from_twice (omega arith) (behind kinds.BadDescriptor kinds.Twice twice from_bad (omega arith) (here kinds.BadDescriptor (gives_wrong m s) from_many h))

    many : has_too_many m s n ≡ true → Within kinds.TooMany all
    many h =
        behind kinds.TooMany kinds.UnknownClass (in_signature is_unknown s) from_twice (omega arith) (behind kinds.TooMany kinds.Twice twice from_bad (omega arith)
        (behind kinds.TooMany kinds.BadDescriptor (gives_wrong m s) from_many (omega arith) (here kinds.TooMany (has_too_many m s n) (only_if kinds.OutOfProfile foreign None) h)))

    last : foreign ≡ true → Within kinds.OutOfProfile all
    last h =
        behind kinds.OutOfProfile kinds.UnknownClass (in_signature is_unknown s) from_twice (omega arith) (behind kinds.OutOfProfile kinds.Twice twice from_bad (omega arith)
        (behind kinds.OutOfProfile kinds.BadDescriptor (gives_wrong m s) from_many (omega arith) (behind kinds.OutOfProfile kinds.TooMany (has_too_many m s n) (only_if kinds.OutOfProfile foreign None) (omega arith) (here kinds.OutOfProfile foreign None h))))

    flag : Bool
    flag = has_foreign_flag m.flags

    first_two : (flag || in_signature is_outside s) ≡ true → foreign ≡ true
    first_two h =
        on_left (flag || in_signature is_outside s || bytes_eq m.name (codes "<clinit>") || (is_init m.name && is_static m.flags)) (is_reserved_method m)
        (on_left (flag || in_signature is_outside s || bytes_eq m.name (codes "<clinit>")) (is_init m.name && is_static m.flags)
        (on_left (flag || in_signature is_outside s) (bytes_eq m.name (codes "<clinit>")) h))

    by : (kind : LinkKind) → MethodFault text before c earlier m kind → Within kind all
    by kind (MethodOfUnknown type says u) =
        here kinds.UnknownClass (in_signature is_unknown s) from_twice (read.unknown ∙ in_named names.classes is_unknown m.desc type (unknown_type text type u) says (unknown_reads text names.classes type at.known u))
    by kind (SecondMethod h) =
        behind kinds.Twice kinds.UnknownClass (in_signature is_unknown s) from_twice (omega arith) (here kinds.Twice twice from_bad (at.own ∙ there_word (method_name c m) (method_names before ++ map (method_name c) earlier) h))
    by kind (MethodMisspelled misspelled) = wrong (on_left (in_signature is_bad s) (is_init m.name && is_some s.gives) (by_bad (in_signature is_bad s) refl))
      where
        by_bad : (b : Bool) → in_signature is_bad s ≡ b → in_signature is_bad s ≡ true
        by_bad true is = is
        by_bad false is = absurd (misspelled (reads_right names.classes m.desc at.rest at.begins (sym read.bad ∙ is)))
    by kind (ConstructorGives params gives init parted other) =
        wrong (on_right (in_signature is_bad s) (is_init m.name && is_some s.gives) (joined (is_init m.name) (is_some s.gives) (bytes_same m.name (codes "<init>") init)
        (ap (λ (x : PlainSignature). is_some x.gives) (other_is names.classes m no_main) ∙ gives_something names.classes m.desc params gives parted other)))
      where
        no_main : takes_args m.name m.desc ≡ false
        no_main = ap (λ (name : List ℕ). takes_args name m.desc) init
    by kind (ManyMethods h) =
        many (on_left (nat_le 1024 n.methods || nat_lt 16 (length s.params) || above 1024 m.stack) (above 256 m.locals) (on_left (nat_le 1024 n.methods || nat_lt 16 (length s.params)) (above 1024 m.stack)
        (on_left (nat_le 1024 n.methods) (nat_lt 16 (length s.params)) (at_least 1024 n.methods (subst (λ (k : ℕ). 1024 ≤ k) (sym at.count) h)))))
    by kind (ManyParameters types gives takes h) =
        many (on_left (nat_le 1024 n.methods || nat_lt 16 (length s.params) || above 1024 m.stack) (above 256 m.locals) (on_left (nat_le 1024 n.methods || nat_lt 16 (length s.params)) (above 1024 m.stack)
        (on_right (nat_le 1024 n.methods) (nat_lt 16 (length s.params)) (below_true 16 (length s.params) (subst (λ (k : ℕ). 16 < k) (sym (read.count types gives takes)) h)))))
    by kind (GreatStack limit is h) =
        many (on_left (nat_le 1024 n.methods || nat_lt 16 (length s.params) || above 1024 m.stack) (above 256 m.locals) (on_right (nat_le 1024 n.methods || nat_lt 16 (length s.params)) (above 1024 m.stack) (is_above 1024 m.stack limit is h)))
    by kind (GreatLocals limit is h) = many (on_right (nat_le 1024 n.methods || nat_lt 16 (length s.params) || above 1024 m.stack) (above 256 m.locals) (is_above 256 m.locals limit is h))
    by kind (MethodFlag h) = last (first_two (on_left flag (in_signature is_outside s) (rule_flag m.flags h)))
    by kind (MethodOfForeign type says is other) =
        last (first_two (on_right flag (in_signature is_outside s) (ap (in_signature is_outside) (other_is names.classes m (is_false (takes_args m.name m.desc) (λ e. other (args_are m e))))
        ∙ in_named names.classes is_outside m.desc type (foreign_type type is) says (foreign_reads names.classes type is))))
    by kind (ClassInitialiser h) =
        last (on_left (flag || in_signature is_outside s || bytes_eq m.name (codes "<clinit>") || (is_init m.name && is_static m.flags)) (is_reserved_method m)
        (on_left (flag || in_signature is_outside s || bytes_eq m.name (codes "<clinit>")) (is_init m.name && is_static m.flags)
        (on_right (flag || in_signature is_outside s) (bytes_eq m.name (codes "<clinit>")) (bytes_same m.name (codes "<clinit>") h))))
    by kind (StaticConstructor init h) =
        last (on_left (flag || in_signature is_outside s || bytes_eq m.name (codes "<clinit>") || (is_init m.name && is_static m.flags)) (is_reserved_method m)
        (on_right (flag || in_signature is_outside s || bytes_eq m.name (codes "<clinit>")) (is_init m.name && is_static m.flags) (joined (is_init m.name) (is_static m.flags) (bytes_same m.name (codes "<init>") init) h)))
    by kind (Reserved h) = last (on_right (flag || in_signature is_outside s || bytes_eq m.name (codes "<clinit>") || (is_init m.name && is_static m.flags)) (is_reserved_method m) (rule_reserved (m.name ++ m.desc) h))
