-- What judging says of the first lines of a class is what the rules say.
use Rattle.std.proofs.Common.{◌≡◌, ℕ, ◌+◌, ◌≤◌, Bool, true, false, List, [], ◌∷◌, Some, None, refl, sym, ap, ◌∙◌, subst, arith, ◌⊎◌, inl, inr, ⊎_elim}
use Rattle.std.specs.Prelude.{not, ◌||◌, ◌&&◌, if◌then◌else◌, nat_le, length, filter, codes, bytes_eq, is_some, Contains}
use Rattle.std.specs.List.{list_any}
use Rattle.std.proofs.lemmas.Bool.{false≢true}
use Rattle.jasmin_lines.specs.declared.class_text.NameAt.{NameAt}
use Rattle.jasmin_lines.specs.Plain.{PlainClassText}
use Rattle.name_resolver.specs.declared.fault.LinkKind.{LinkKind}
use Rattle.name_resolver.specs.declared.fault.LinkKind.TheVariants as kinds
use Rattle.name_resolver.specs.declared.names.Counts.{Counts}
use Rattle.name_resolver.specs.declared.names.Names.{Names}
use Rattle.class_linker.specs.Faults.{only_if}
use Rattle.name_resolver.specs.Index.{value_of}
use Rattle.name_resolver.specs.Words.{has, has_foreign_flag}
use Rattle.name_resolver.specs.Names.{is_static}
use Rattle.class_linker.specs.Judging.{is_this, named_fault, class_fault, is_super, super_fault, is_own_run, has_run, implements_fault}
use Rattle.built_in_classes.specs.Classes.{built_in_number}
use Rattle.shape_laws.proofs.Tests.{both, joined, either, on_left, on_right, at_most}
use Rattle.linking_laws.specs.Types.{is_class, IsDeclared, IsBuiltIn}
use Rattle.linking_laws.specs.Rules.{HasForeignFlag, HasRun, ClassFault, SecondClass, NameOfBuiltIn, ManyClasses, ClassFlag, Interface, SuperFault, OtherSuper, ImplementsFault, WithoutRun, OtherInterface}
use Rattle.linking_laws.proofs.Judged.{neither}
use Rattle.linking_laws.proofs.There.{at_least}
use Rattle.linking_laws.proofs.Members.{contains_cases, contains_none, any_there, any_one, same_bytes, bytes_same, other_bytes, bytes_other, is_false, word_there, there_word, map_there, there_map, filter_there, there_filter}
use Rattle.linking_laws.proofs.Chains.{Within, here, behind, first_or, no_fault}
use Rattle.linking_laws.proofs.NameRows.{names_of_classes}

-- ---- tests

pub not_true : (b : Bool) → not b ≡ true → b ≡ false
not_true true e = absurd (false≢true e)
not_true false e = refl

pub false_not : (b : Bool) → b ≡ false → not b ≡ true
false_not true e = absurd (false≢true (sym e))
false_not false e = refl

pub true_false : (b : Bool) → b ≡ true → b ≡ false → ⊥
true_false b e h = false≢true (sym h ∙ e)

-- ---- flags

pub flag_there : (flags : List (List ℕ)) (flag : List ℕ) → has flag flags ≡ true → Contains flags flag
flag_there flags flag e = let x : _ = any_one (λ (name : List ℕ). bytes_eq name flag) flags e in subst (Contains flags) (same_bytes x.0 flag x.2) x.1

pub there_flag : (flags : List (List ℕ)) (flag : List ℕ) → Contains flags flag → has flag flags ≡ true
there_flag flags flag h = any_there (λ (name : List ℕ). bytes_eq name flag) flags flag h (bytes_same flag flag refl)

pub flag_rule : (flags : List (List ℕ)) → has_foreign_flag flags ≡ true → HasForeignFlag flags
flag_rule flags e =
    ⊎_elim (λ (h : (has (codes "abstract") flags || has (codes "interface") flags) ≡ true).
    ⊎_elim (λ (a : has (codes "abstract") flags ≡ true). (codes "abstract", (0, omega arith, refl), flag_there flags (codes "abstract") a))
    (λ (i : has (codes "interface") flags ≡ true). (codes "interface", (1, omega arith, refl), flag_there flags (codes "interface") i))
    (either (has (codes "abstract") flags) (has (codes "interface") flags) h))
    (λ (n : has (codes "native") flags ≡ true). (codes "native", (2, omega arith, refl), flag_there flags (codes "native") n))
    (either (has (codes "abstract") flags || has (codes "interface") flags) (has (codes "native") flags) e)

pub rule_flag : (flags : List (List ℕ)) → HasForeignFlag flags → has_foreign_flag flags ≡ true
rule_flag flags h = by (contains_cases (codes "abstract") h.0 (codes "interface" ∷ codes "native" ∷ []) h.1)
  where
    there : (flag : List ℕ) → flag ≡ h.0 → has flag flags ≡ true
    there flag e = there_flag flags flag (subst (Contains flags) (sym e) h.2)

    last : (codes "native" ≡ h.0) ⊎ Contains [] h.0 → has_foreign_flag flags ≡ true
    last (inl e) = on_right (has (codes "abstract") flags || has (codes "interface") flags) (has (codes "native") flags) (there (codes "native") e)
    last (inr none) = absurd (contains_none h.0 none)

    second : (codes "interface" ≡ h.0) ⊎ Contains (codes "native" ∷ []) h.0 → has_foreign_flag flags ≡ true
    second (inl e) = on_left (has (codes "abstract") flags || has (codes "interface") flags) (has (codes "native") flags) (on_right (has (codes "abstract") flags) (has (codes "interface") flags) (there (codes "interface") e))
    second (inr more) = last (contains_cases (codes "native") h.0 [] more)

    by : (codes "abstract" ≡ h.0) ⊎ Contains (codes "interface" ∷ codes "native" ∷ []) h.0 → has_foreign_flag flags ≡ true
    by (inl e) = on_left (has (codes "abstract") flags || has (codes "interface") flags) (has (codes "native") flags) (on_left (has (codes "abstract") flags) (has (codes "interface") flags) (there (codes "abstract") e))
    by (inr more) = second (contains_cases (codes "interface") h.0 (codes "native" ∷ []) more)

-- ---- names of classes

pub declared_name : (classes : List PlainClassText) (name : List ℕ) → list_any (bytes_eq name) (names_of_classes classes) ≡ true → IsDeclared classes name
declared_name classes name e =
    let c : _ = there_map (λ (d : PlainClassText). d.name) (filter is_class classes) name (word_there name (names_of_classes classes) e) in
    let there : _ = there_filter is_class classes c.0 c.1 in
    (c.0, there.0, there.1, c.2)

pub name_declared : (classes : List PlainClassText) (name : List ℕ) → IsDeclared classes name → list_any (bytes_eq name) (names_of_classes classes) ≡ true
name_declared classes name d = there_word name (names_of_classes classes) (subst (Contains (names_of_classes classes)) d.3 (map_there (λ (e : PlainClassText). e.name) (filter is_class classes) d.0 (filter_there is_class classes d.0 d.1 d.2)))

-- ---- `.class`

-- what is known where a class is judged: whether its name was there before, and how many there were
pub record AtClass (names : Names) (before : List PlainClassText) (c : PlainClassText) (n : Counts) : Type 0 where
  pub own : is_class c ≡ true → not (is_this n.classes (value_of c.name names.classes)) ≡ list_any (bytes_eq c.name) (names_of_classes before)
  pub count : n.classes ≡ 32 + length (filter is_class before)
  pub built_in : is_some (built_in_number c.name) ≡ true → IsBuiltIn c.name
  pub numbered : IsBuiltIn c.name → is_some (built_in_number c.name) ≡ true

pub class_rule : (names : Names) (before : List PlainClassText) (c : PlainClassText) (n : Counts) (kind : LinkKind) → AtClass names before c n → class_fault names c n ≡ Some kind → ClassFault before c kind
class_rule names before c n kind at e = by (is_class c) refl e
  where
    known : Bool
    known = not (is_this n.classes (value_of c.name names.classes)) || is_some (built_in_number c.name)

    named : is_class c ≡ true → named_fault names c n ≡ Some kind → ClassFault before c kind
    named is h =
        ⊎_elim (λ (t : (known ≡ true) × (kinds.Twice ≡ kind)). subst (ClassFault before c) t.1 (⊎_elim
        (λ (x : not (is_this n.classes (value_of c.name names.classes)) ≡ true). SecondClass is (declared_name before c.name (sym (at.own is) ∙ x)))
        (λ (x : is_some (built_in_number c.name) ≡ true). NameOfBuiltIn is (at.built_in x))
        (either (not (is_this n.classes (value_of c.name names.classes))) (is_some (built_in_number c.name)) t.0)))
        (λ (r : (known ≡ false) × (only_if kinds.TooMany (nat_le 288 n.classes) (only_if kinds.OutOfProfile (has_foreign_flag c.flags) None) ≡ Some kind)).
        ⊎_elim (λ (t : (nat_le 288 n.classes ≡ true) × (kinds.TooMany ≡ kind)). subst (ClassFault before c) t.1 (ManyClasses is (let enough : 288 ≤ n.classes = at_most 288 n.classes t.0 in omega (arith, enough, at.count))))
        (λ (s : (nat_le 288 n.classes ≡ false) × (only_if kinds.OutOfProfile (has_foreign_flag c.flags) None ≡ Some kind)).
        ⊎_elim (λ (t : (has_foreign_flag c.flags ≡ true) × (kinds.OutOfProfile ≡ kind)). subst (ClassFault before c) t.1 (ClassFlag is (flag_rule c.flags t.0)))
        (λ (t : (has_foreign_flag c.flags ≡ false) × (None ≡ Some kind)). absurd (no_fault kind t.1))
        (first_or kinds.OutOfProfile kind (has_foreign_flag c.flags) None s.1))
        (first_or kinds.TooMany kind (nat_le 288 n.classes) (only_if kinds.OutOfProfile (has_foreign_flag c.flags) None) r.1))
        (first_or kinds.Twice kind known (only_if kinds.TooMany (nat_le 288 n.classes) (only_if kinds.OutOfProfile (has_foreign_flag c.flags) None)) h)

    by : (b : Bool) → is_class c ≡ b → (if b then named_fault names c n else Some kinds.OutOfProfile) ≡ Some kind → ClassFault before c kind
    by true is h = named is h
    by false is h = subst (ClassFault before c) (same_some kinds.OutOfProfile kind h) (Interface is)
      where
        same_some : (x y : LinkKind) → Some x ≡ Some y → x ≡ y
        same_some x y e = cc

pub rule_class : (names : Names) (before : List PlainClassText) (c : PlainClassText) (n : Counts) (kind : LinkKind) → AtClass names before c n → ClassFault before c kind → Within kind (class_fault names c n)
rule_class names before c n kind at fault = by kind fault
  where
    known : Bool
    known = not (is_this n.classes (value_of c.name names.classes)) || is_some (built_in_number c.name)

    named : (kind : LinkKind) → is_class c ≡ true → Within kind (named_fault names c n) → Within kind (class_fault names c n)
    named kind is w = subst (λ (b : Bool). Within kind (if b then named_fault names c n else Some kinds.OutOfProfile)) (sym is) w

    by : (kind : LinkKind) → ClassFault before c kind → Within kind (class_fault names c n)
    by kind (SecondClass is d) = named kinds.Twice is (here kinds.Twice known _ (on_left (not (is_this n.classes (value_of c.name names.classes))) (is_some (built_in_number c.name)) (at.own is ∙ name_declared before c.name d)))
    by kind (NameOfBuiltIn is b) = named kinds.Twice is (here kinds.Twice known _ (on_right (not (is_this n.classes (value_of c.name names.classes))) (is_some (built_in_number c.name)) (at.numbered b)))
    by kind (ManyClasses is h) = named kinds.TooMany is (behind kinds.TooMany kinds.Twice known _ (omega arith) (here kinds.TooMany (nat_le 288 n.classes) _ (at_least 288 n.classes (omega (arith, h, at.count)))))
    by kind (ClassFlag is h) = named kinds.OutOfProfile is (behind kinds.OutOfProfile kinds.Twice known _ (omega arith) (behind kinds.OutOfProfile kinds.TooMany (nat_le 288 n.classes) _ (omega arith) (here kinds.OutOfProfile (has_foreign_flag c.flags) None (rule_flag c.flags h))))
    by kind (Interface is) = subst (λ (b : Bool). Within kinds.OutOfProfile (if b then named_fault names c n else Some kinds.OutOfProfile)) (sym is) (omega arith)

-- ---- `.super`

pub super_rule : (c : PlainClassText) (kind : LinkKind) → super_fault c ≡ Some kind → SuperFault c kind
super_rule c kind e =
    ⊎_elim (λ (t : ((is_class c && not (is_super c.super_name)) ≡ true) × (kinds.OutOfProfile ≡ kind)).
    let parts : (is_class c ≡ true) × (not (is_super c.super_name) ≡ true) = both (is_class c) (not (is_super c.super_name)) t.0 in
    let others : _ = neither (bytes_eq c.super_name (codes "java/lang/Object")) (bytes_eq c.super_name (codes "java/lang/Thread")) (not_true (is_super c.super_name) parts.1) in
    subst (SuperFault c) t.1 (OtherSuper parts.0 (other_bytes c.super_name (codes "java/lang/Object") others.0) (other_bytes c.super_name (codes "java/lang/Thread") others.1)))
    (λ (t : ((is_class c && not (is_super c.super_name)) ≡ false) × (None ≡ Some kind)). absurd (no_fault kind t.1))
    (first_or kinds.OutOfProfile kind (is_class c && not (is_super c.super_name)) None e)

pub rule_super : (c : PlainClassText) (kind : LinkKind) → SuperFault c kind → Within kind (super_fault c)
rule_super c kind (OtherSuper is object thread) =
    here kinds.OutOfProfile (is_class c && not (is_super c.super_name)) None (joined (is_class c) (not (is_super c.super_name)) is (false_not (is_super c.super_name) (none_of (bytes_other c.super_name (codes "java/lang/Object") object) (bytes_other c.super_name (codes "java/lang/Thread") thread))))
  where
    none_of : bytes_eq c.super_name (codes "java/lang/Object") ≡ false → bytes_eq c.super_name (codes "java/lang/Thread") ≡ false → is_super c.super_name ≡ false
    none_of a b = ap (λ (x : Bool). x || bytes_eq c.super_name (codes "java/lang/Thread")) a ∙ b

-- ---- `.implements`

run_rule : (c : PlainClassText) → has_run c ≡ true → HasRun c
run_rule c e =
    let m : _ = any_one is_own_run c.methods e in
    let parts : _ = both (bytes_eq m.0.name (codes "run") && bytes_eq m.0.desc (codes "()V")) (not (is_static m.0.flags)) m.2 in
    let words : _ = both (bytes_eq m.0.name (codes "run")) (bytes_eq m.0.desc (codes "()V")) parts.0 in
    (m.0, m.1, same_bytes m.0.name (codes "run") words.0, same_bytes m.0.desc (codes "()V") words.1, not_true (is_static m.0.flags) parts.1)

rule_run : (c : PlainClassText) → HasRun c → has_run c ≡ true
rule_run c h =
    any_there is_own_run c.methods h.0 h.1
    (joined (bytes_eq h.0.name (codes "run") && bytes_eq h.0.desc (codes "()V")) (not (is_static h.0.flags))
    (joined (bytes_eq h.0.name (codes "run")) (bytes_eq h.0.desc (codes "()V")) (bytes_same h.0.name (codes "run") h.2) (bytes_same h.0.desc (codes "()V") h.3)) (false_not (is_static h.0.flags) h.4))

pub implements_rule : (c : PlainClassText) (x : NameAt) (kind : LinkKind) → implements_fault (has_run c) x ≡ Some kind → ImplementsFault c x kind
implements_rule c x kind e =
    ⊎_elim (λ (t : (not (has_run c) ≡ true) × (kinds.UnknownMethod ≡ kind)). subst (ImplementsFault c x) t.1 (WithoutRun (λ h. true_false (has_run c) (rule_run c h) (not_true (has_run c) t.0))))
    (λ (r : (not (has_run c) ≡ false) × (only_if kinds.OutOfProfile (not (bytes_eq x.name (codes "java/lang/Runnable"))) None ≡ Some kind)).
    ⊎_elim (λ (t : (not (bytes_eq x.name (codes "java/lang/Runnable")) ≡ true) × (kinds.OutOfProfile ≡ kind)). subst (ImplementsFault c x) t.1 (OtherInterface (other_bytes x.name (codes "java/lang/Runnable") (not_true (bytes_eq x.name (codes "java/lang/Runnable")) t.0))))
    (λ (t : (not (bytes_eq x.name (codes "java/lang/Runnable")) ≡ false) × (None ≡ Some kind)). absurd (no_fault kind t.1))
    (first_or kinds.OutOfProfile kind (not (bytes_eq x.name (codes "java/lang/Runnable"))) None r.1))
    (first_or kinds.UnknownMethod kind (not (has_run c)) (only_if kinds.OutOfProfile (not (bytes_eq x.name (codes "java/lang/Runnable"))) None) e)

pub rule_implements : (c : PlainClassText) (x : NameAt) (kind : LinkKind) → ImplementsFault c x kind → Within kind (implements_fault (has_run c) x)
rule_implements c x kind (WithoutRun none) = here kinds.UnknownMethod (not (has_run c)) _ (false_not (has_run c) (is_false (has_run c) (λ e. none (run_rule c e))))
rule_implements c x kind (OtherInterface other) =
    behind kinds.OutOfProfile kinds.UnknownMethod (not (has_run c)) _ (omega arith) (here kinds.OutOfProfile (not (bytes_eq x.name (codes "java/lang/Runnable"))) None (false_not (bytes_eq x.name (codes "java/lang/Runnable")) (bytes_other x.name (codes "java/lang/Runnable") other)))
