-- What judging says of a field is what the rules say.
use Rattle.std.proofs.Common.{◌≡◌, ℕ, ◌+◌, ◌≤◌, Bool, true, false, List, ◌++◌, Option, Some, None, refl, sym, ap, ◌∙◌, subst, arith, ◌⊎◌, inl, inr, ⊎_elim}
use Rattle.std.specs.Prelude.{◌≢◌, not, ◌||◌, ◌&&◌, if◌then◌else◌, nat_le, length, map, filter, flat_map, bytes_eq, is_some, ℤ}
use Rattle.std.specs.List.{list_any}
use Rattle.std.proofs.lemmas.Bool.{false≢true}
use Rattle.jasmin_lines.specs.Plain.{PlainClassText, PlainFieldText}
use Rattle.name_resolver.specs.declared.descriptors.Typed.{Typed}
use Rattle.name_resolver.specs.declared.fault.LinkKind.{LinkKind}
use Rattle.name_resolver.specs.declared.fault.LinkKind.TheVariants as kinds
use Rattle.name_resolver.specs.declared.names.Counts.{Counts}
use Rattle.name_resolver.specs.declared.names.Names.{Names}
use Rattle.class_linker.specs.Faults.{only_if}
use Rattle.name_resolver.specs.Index.{value_of}
use Rattle.name_resolver.specs.Words.{has_foreign_flag, field_word}
use Rattle.name_resolver.specs.Names.{is_static}
use Rattle.name_resolver.specs.Descriptors.{type_of, is_unknown, is_bad, is_outside}
use Rattle.class_linker.specs.Judging.{is_this, is_int, has_strange_value, field_fault, is_full, taken}
use Rattle.shape_laws.proofs.Tests.{both, joined, either, on_left, on_right, at_most}
use Rattle.linking_laws.specs.Rules.{field_name, field_names, FieldFault, FieldOfUnknown, SecondField, FieldMisspelled, ManyStatics, ManyFields, FieldFlag, FieldOfForeign, ValueNotStatic, ValueNotInt}
use Rattle.linking_laws.proofs.There.{at_least}
use Rattle.linking_laws.proofs.Members.{word_there, there_word, is_false}
use Rattle.linking_laws.proofs.Chains.{Within, here, behind, first_or, no_fault}
use Rattle.linking_laws.proofs.Spelled.{Known, type_right, right_type, reads_int, int_reads, reads_unknown, unknown_reads, reads_foreign, foreign_reads}
use Rattle.linking_laws.proofs.ClassRules.{not_true, false_not, true_false, flag_rule, rule_flag}

-- what is known where a field is judged: which classes there are, whether its name was there before, and how many fields there were
pub record AtField (names : Names) (text before : List PlainClassText) (c : PlainClassText) (earlier : List PlainFieldText) (f : PlainFieldText) (n : Counts) : Type 0 where
  pub known : Known text names.classes
  pub own : not (is_this n.fields (value_of (field_word c.name f.name) names.fields)) ≡ list_any (bytes_eq (field_name c f)) (field_names before ++ map (field_name c) earlier)
  pub statics : n.statics ≡ length (filter (λ (g : PlainFieldText). is_static g.flags) (flat_map (λ (d : PlainClassText). d.fields) before ++ earlier))
  pub places : n.places ≡ taken c + length (filter (λ (g : PlainFieldText). not (is_static g.flags)) earlier)

-- whether a limit is passed
full_rule : (names : Names) (text before : List PlainClassText) (c : PlainClassText) (earlier : List PlainFieldText) (f : PlainFieldText) (n : Counts) → AtField names text before c earlier f n → is_full (taken c) f n ≡ true → FieldFault text before c earlier f kinds.TooMany
full_rule names text before c earlier f n at e = by (is_static f.flags) refl e
  where
    by : (b : Bool) → is_static f.flags ≡ b → (if b then nat_le 1024 n.statics else nat_le (64 + taken c) n.places) ≡ true → FieldFault text before c earlier f kinds.TooMany
    by true is h = ManyStatics is (let enough : 1024 ≤ n.statics = at_most 1024 n.statics h in subst (λ (k : ℕ). 1024 ≤ k) at.statics enough)
    by false is h = ManyFields is (let enough : 64 + taken c ≤ n.places = at_most (64 + taken c) n.places h in omega (arith, enough, at.places))

rule_full : (names : Names) (text before : List PlainClassText) (c : PlainClassText) (earlier : List PlainFieldText) (f : PlainFieldText) (n : Counts) → AtField names text before c earlier f n
    → ((is_static f.flags ≡ true) × (1024 ≤ n.statics)) ⊎ ((is_static f.flags ≡ false) × (64 + taken c ≤ n.places)) → is_full (taken c) f n ≡ true
rule_full names text before c earlier f n at h =
    ⊎_elim (λ (k : (is_static f.flags ≡ true) × (1024 ≤ n.statics)). ap (λ (b : Bool). if b then nat_le 1024 n.statics else nat_le (64 + taken c) n.places) k.0 ∙ at_least 1024 n.statics k.1)
    (λ (k : (is_static f.flags ≡ false) × (64 + taken c ≤ n.places)). ap (λ (b : Bool). if b then nat_le 1024 n.statics else nat_le (64 + taken c) n.places) k.0 ∙ at_least (64 + taken c) n.places k.1) h

-- a value that is there
value_there : (o : Option ℤ) → is_some o ≡ true → o ≢ None
value_there o e none = false≢true (ap is_some (sym none) ∙ e)

there_value : (o : Option ℤ) → o ≢ None → is_some o ≡ true
there_value None h = absurd (h refl)
there_value (Some n) h = refl

neither_not : (a b : Bool) → not (a && b) ≡ true → (a ≡ false) ⊎ (b ≡ false)
neither_not true b e = inr (not_true b e)
neither_not false b e = inl refl

not_both : (a b : Bool) → (a ≡ false) ⊎ (b ≡ false) → not (a && b) ≡ true
not_both a b (inl e) = ap (λ (x : Bool). not (x && b)) e
not_both true b (inr e) = false_not b e
not_both false b (inr e) = refl

pub field_rule : (names : Names) (text before : List PlainClassText) (c : PlainClassText) (earlier : List PlainFieldText) (f : PlainFieldText) (n : Counts) (kind : LinkKind) → AtField names text before c earlier f n
    → field_fault names c.name f n (is_full (taken c) f n) ≡ Some kind → FieldFault text before c earlier f kind
field_rule names text before c earlier f n kind at e =
    ⊎_elim (λ (x : (is_unknown t ≡ true) × (kinds.UnknownClass ≡ kind)). subst Fault x.1 (FieldOfUnknown (reads_unknown text names.classes f.desc at.known x.0)))
    (λ (x : (is_unknown t ≡ false) × (from_twice ≡ Some kind)). after_unknown x.1)
    (first_or kinds.UnknownClass kind (is_unknown t) from_twice e)
  where
    Fault : LinkKind → Type 0
    Fault k = FieldFault text before c earlier f k

    t : Typed
    t = type_of names.classes f.desc

    twice : Bool
    twice = not (is_this n.fields (value_of (field_word c.name f.name) names.fields))

    full : Bool
    full = is_full (taken c) f n

    outside : Bool
    outside = has_foreign_flag f.flags || is_outside t || has_strange_value f t

    from_many : Option LinkKind
    from_many = only_if kinds.TooMany full (only_if kinds.OutOfProfile outside None)

    from_bad : Option LinkKind
    from_bad = only_if kinds.BadDescriptor (is_bad t) from_many

    from_twice : Option LinkKind
    from_twice = only_if kinds.Twice twice from_bad

    strange : is_bad t ≡ false → has_strange_value f t ≡ true → Fault kinds.OutOfProfile
    strange right h =
        let parts : (is_some f.value ≡ true) × (not (is_static f.flags && is_int t) ≡ true) = both (is_some f.value) (not (is_static f.flags && is_int t)) h in
        ⊎_elim (λ (x : is_static f.flags ≡ false). ValueNotStatic (value_there f.value parts.0) x) (λ (x : is_int t ≡ false). ValueNotInt (value_there f.value parts.0) (λ same. true_false (is_int t) (int_reads names.classes f.desc same) x))
        (neither_not (is_static f.flags) (is_int t) parts.1)

    after_many : is_bad t ≡ false → only_if kinds.OutOfProfile outside None ≡ Some kind → Fault kind
    after_many right h =
        ⊎_elim (λ (x : (outside ≡ true) × (kinds.OutOfProfile ≡ kind)). subst Fault x.1 (⊎_elim (λ (y : (has_foreign_flag f.flags || is_outside t) ≡ true).
        ⊎_elim (λ (z : has_foreign_flag f.flags ≡ true). FieldFlag (flag_rule f.flags z)) (λ (z : is_outside t ≡ true). FieldOfForeign (reads_foreign names.classes f.desc z)) (either (has_foreign_flag f.flags) (is_outside t) y))
        (λ (y : has_strange_value f t ≡ true). strange right y) (either (has_foreign_flag f.flags || is_outside t) (has_strange_value f t) x.0)))
        (λ (x : (outside ≡ false) × (None ≡ Some kind)). absurd (no_fault kind x.1))
        (first_or kinds.OutOfProfile kind outside None h)

    after_bad : is_bad t ≡ false → from_many ≡ Some kind → Fault kind
    after_bad right h =
        ⊎_elim (λ (x : (full ≡ true) × (kinds.TooMany ≡ kind)). subst Fault x.1 (full_rule names text before c earlier f n at x.0)) (λ (x : (full ≡ false) × (only_if kinds.OutOfProfile outside None ≡ Some kind)). after_many right x.1)
        (first_or kinds.TooMany kind full (only_if kinds.OutOfProfile outside None) h)

    after_twice : from_bad ≡ Some kind → Fault kind
    after_twice h =
        ⊎_elim (λ (x : (is_bad t ≡ true) × (kinds.BadDescriptor ≡ kind)). subst Fault x.1 (FieldMisspelled (λ is. true_false (is_bad t) x.0 (right_type names.classes f.desc is)))) (λ (x : (is_bad t ≡ false) × (from_many ≡ Some kind)). after_bad x.0 x.1)
        (first_or kinds.BadDescriptor kind (is_bad t) from_many h)

    after_unknown : from_twice ≡ Some kind → Fault kind
    after_unknown h =
        ⊎_elim (λ (x : (twice ≡ true) × (kinds.Twice ≡ kind)). subst Fault x.1 (SecondField (word_there (field_name c f) (field_names before ++ map (field_name c) earlier) (sym at.own ∙ x.0)))) (λ (x : (twice ≡ false) × (from_bad ≡ Some kind)). after_twice x.1)
        (first_or kinds.Twice kind twice from_bad h)

pub rule_field : (names : Names) (text before : List PlainClassText) (c : PlainClassText) (earlier : List PlainFieldText) (f : PlainFieldText) (n : Counts) (kind : LinkKind) → AtField names text before c earlier f n
    → FieldFault text before c earlier f kind → Within kind (field_fault names c.name f n (is_full (taken c) f n))
rule_field names text before c earlier f n kind at fault = by kind fault
  where
    t : Typed
    t = type_of names.classes f.desc

    twice : Bool
    twice = not (is_this n.fields (value_of (field_word c.name f.name) names.fields))

    full : Bool
    full = is_full (taken c) f n

    outside : Bool
    outside = has_foreign_flag f.flags || is_outside t || has_strange_value f t

    from_many : Option LinkKind
    from_many = only_if kinds.TooMany full (only_if kinds.OutOfProfile outside None)

    from_bad : Option LinkKind
    from_bad = only_if kinds.BadDescriptor (is_bad t) from_many

    from_twice : Option LinkKind
    from_twice = only_if kinds.Twice twice from_bad

    all : Option LinkKind
    all = field_fault names c.name f n (is_full (taken c) f n)

    many : full ≡ true → Within kinds.TooMany all
    many h = behind kinds.TooMany kinds.UnknownClass (is_unknown t) from_twice (omega arith) (behind kinds.TooMany kinds.Twice twice from_bad (omega arith) (behind kinds.TooMany kinds.BadDescriptor (is_bad t) from_many (omega arith) (here kinds.TooMany full (only_if kinds.OutOfProfile outside None) h)))

    last : outside ≡ true → Within kinds.OutOfProfile all
    last h =
        behind kinds.OutOfProfile kinds.UnknownClass (is_unknown t) from_twice (omega arith) (behind kinds.OutOfProfile kinds.Twice twice from_bad (omega arith)
        (behind kinds.OutOfProfile kinds.BadDescriptor (is_bad t) from_many (omega arith) (behind kinds.OutOfProfile kinds.TooMany full (only_if kinds.OutOfProfile outside None) (omega arith) (here kinds.OutOfProfile outside None h))))

    strange : f.value ≢ None → (is_static f.flags ≡ false) ⊎ (is_int t ≡ false) → Within kinds.OutOfProfile all
    strange value h = last (on_right (has_foreign_flag f.flags || is_outside t) (has_strange_value f t) (joined (is_some f.value) (not (is_static f.flags && is_int t)) (there_value f.value value) (not_both (is_static f.flags) (is_int t) h)))

    by : (kind : LinkKind) → FieldFault text before c earlier f kind → Within kind all
    by kind (FieldOfUnknown u) = here kinds.UnknownClass (is_unknown t) from_twice (unknown_reads text names.classes f.desc at.known u)
    by kind (SecondField h) = behind kinds.Twice kinds.UnknownClass (is_unknown t) from_twice (omega arith) (here kinds.Twice twice from_bad (at.own ∙ there_word (field_name c f) (field_names before ++ map (field_name c) earlier) h))
    by kind (FieldMisspelled wrong) =
        behind kinds.BadDescriptor kinds.UnknownClass (is_unknown t) from_twice (omega arith) (behind kinds.BadDescriptor kinds.Twice twice from_bad (omega arith) (here kinds.BadDescriptor (is_bad t) from_many (by_bad (is_bad t) refl)))
      where
        by_bad : (b : Bool) → is_bad t ≡ b → is_bad t ≡ true
        by_bad true is = is
        by_bad false is = absurd (wrong (type_right names.classes f.desc is))
    by kind (ManyStatics is h) = many (rule_full names text before c earlier f n at (inl (is, subst (λ (k : ℕ). 1024 ≤ k) (sym at.statics) h)))
    by kind (ManyFields is h) = many (rule_full names text before c earlier f n at (inr (is, omega (arith, h, at.places))))
    by kind (FieldFlag h) = last (on_left (has_foreign_flag f.flags || is_outside t) (has_strange_value f t) (on_left (has_foreign_flag f.flags) (is_outside t) (rule_flag f.flags h)))
    by kind (FieldOfForeign h) = last (on_left (has_foreign_flag f.flags || is_outside t) (has_strange_value f t) (on_right (has_foreign_flag f.flags) (is_outside t) (foreign_reads names.classes f.desc h)))
    by kind (ValueNotStatic value h) = strange value (inl h)
    by kind (ValueNotInt value h) = strange value (inr (is_false (is_int t) (λ e. h (reads_int names.classes f.desc e))))
