-- What is found of a call, of an access to a field, and of a class, is what the rules say.
use Rattle.std.proofs.Common.{◌≡◌, ℕ, Bool, true, false, List, [], ◌∷◌, ◌++◌, Option, Some, None, refl, sym, ap, ◌∙◌, arith, ◌⊎◌, inl, inr, ⊎_elim}
use Rattle.std.specs.Prelude.{◌≢◌, not, ◌||◌, ◌&&◌, ◌==◌, if◌then◌else◌, length, codes, position, drop, bytes_eq, is_some, Contains}
use Rattle.std.specs.List.{list_any}
use Rattle.std.proofs.lemmas.Bool.{false≢true}
use Rattle.vm_model.specs.declared.instr.Instr.{Instr}
use Rattle.vm_model.specs.declared.instr.Instr.TheVariants as instr
use Rattle.jasmin_lines.specs.Plain.{PlainClassText, PlainMethodText}
use Rattle.name_resolver.specs.declared.calls.Target.{Target}
use Rattle.name_resolver.specs.declared.names.Names.{Names}
use Rattle.name_resolver.specs.Index.{Rows, value_of}
use Rattle.name_resolver.specs.Words.{split_at, method_key, field_word, field_key}
use Rattle.name_resolver.specs.Names.{is_static, names_of}
use Rattle.name_resolver.specs.BuiltIn.{instance_member, constructor, first_some}
use Rattle.name_resolver.specs.Descriptors.{class_of, by_class, is_unknown, method_signature, signature_of, in_signature}
use Rattle.name_resolver.specs.Calls.{static_member, static_call, is_run, virtual_run, virtual_member, virtual_call, special_member, special_call, call_by, target, class_part, name_part, desc_part, is_out, read_static, to_slot, field_by}
use Rattle.shape_laws.proofs.Tests.{both, joined, same}
use Rattle.linking_laws.specs.Types.{IsUnknownType, Says}
use Rattle.linking_laws.specs.BodyRules.{HasMethod, HasField, HasBuiltIn, OfThreads, OfThread, OfObject, OfStream, Plain, OfRunnable, OfText, FindsMethod, Static, Virtual, Special, BuiltIn, IsOut, static_accesses, FindsField, StaticField, InstanceField, Out, calls, IsUnknown}
use Rattle.linking_laws.proofs.Members.{contains_cases, contains_none, any_one, any_there, same_bytes, bytes_same, bytes_other, other_bytes, is_false, there_word}
use Rattle.linking_laws.proofs.Positions.{Parts, parts_at}
use Rattle.linking_laws.proofs.Spelled.{none_known, known_none, reads_unknown, unknown_reads, unknown_type}
use Rattle.linking_laws.proofs.Signatures.{Named, named_in, in_named, nothing_unknown}
use Rattle.linking_laws.proofs.MethodRules.{reading}
use Rattle.linking_laws.proofs.ClassRules.{not_true, false_not, true_false}
use Rattle.linking_laws.proofs.Declared.{known_classes}
use Rattle.linking_laws.proofs.Presence.{is_method, is_field, methods_by, fields_by, text_method, text_field}
use Rattle.linking_laws.proofs.BuiltInRules.{Numbers, some_or, some_first, static_rule, virtual_rule, special_rule, rule_virtual, rule_special, rule_thread}

-- ---- classes

pub some_none : {A : Type 0} (o : Option A) → is_some o ≡ false → o ≡ None
some_none None e = refl
some_none (Some x) e = absurd (false≢true (sym e))

pub unknown_rule : (text : List PlainClassText) (name : List ℕ) → class_of (names_of text).1.classes name ≡ None → IsUnknown text name
unknown_rule text name e =
    let none : _ = none_known (names_of text).1.classes name (ap (λ (o : Option ℕ). is_unknown (by_class o)) e) in
    (λ d. none.1 ((known_classes text).there name d), λ b. none.0 ((known_classes text).numbered name b))

pub rule_unknown : (text : List PlainClassText) (name : List ℕ) → IsUnknown text name → class_of (names_of text).1.classes name ≡ None
rule_unknown text name u =
    by (class_of (names_of text).1.classes name) (known_none (names_of text).1.classes name (λ h. u.1 ((known_classes text).built_in name h)) (λ h. u.0 ((known_classes text).declared name h)))
  where
    by : (o : Option ℕ) → is_unknown (by_class o) ≡ true → o ≡ None
    by None e = refl
    by (Some n) e = absurd (false≢true e)

-- ---- types of a descriptor

-- the descriptor of a word begins with a bracket, or there is none
desc_begins : (word : List ℕ) → (desc_part word ≡ []) ⊎ ((r : List ℕ) × (desc_part word ≡ 40 ∷ r))
desc_begins word = by (position (λ (b : ℕ). b == 40) word) refl
  where
    drop_front : (front back : List ℕ) → drop (length front) (front ++ back) ≡ back
    drop_front [] back = refl
    drop_front (x ∷ front) back = drop_front front back

    by : (o : Option ℕ) → position (λ (b : ℕ). b == 40) word ≡ o → ((split_at word o).1 ≡ []) ⊎ ((r : List ℕ) × ((split_at word o).1 ≡ 40 ∷ r))
    by None is = inl refl
    by (Some n) is =
        let p : Parts (λ (b : ℕ). b == 40) word n = parts_at (λ (b : ℕ). b == 40) word n is in
        inr (p.back, ap (λ (k : ℕ). drop k word) p.place ∙ ap (drop (length p.front)) p.whole ∙ drop_front p.front (p.one ∷ p.back) ∙ ap (λ (b : ℕ). b ∷ p.back) (same p.one 40 p.passes))

-- a method of this name and descriptor
named_so : List ℕ → List ℕ → PlainMethodText
named_so name desc = record { line = 0; flags = []; name = name; desc = desc; stack = None; locals = None; lines = []; end_labels = []; catches = [] }

signature_unknown : (rows : Rows) (name desc : List ℕ) → in_signature is_unknown (method_signature rows name desc) ≡ in_signature is_unknown (signature_of rows desc)
unfolding named_so
signature_unknown rows name desc = (reading rows (named_so name desc)).unknown

pub types_rule : (text : List PlainClassText) (word : List ℕ) → in_signature is_unknown (method_signature (names_of text).1.classes (name_part word) (desc_part word)) ≡ true → (type : List ℕ) × Says (desc_part word) type × IsUnknownType text type
types_rule text word e = ⊎_elim nothing_said begun (desc_begins word)
  where
    rows : Rows
    rows = (names_of text).1.classes

    real : in_signature is_unknown (signature_of rows (desc_part word)) ≡ true
    real = sym (signature_unknown rows (name_part word) (desc_part word)) ∙ e

    begun : (r : List ℕ) × (desc_part word ≡ 40 ∷ r) → (type : List ℕ) × Says (desc_part word) type × IsUnknownType text type
    begun b =
        let x : Named rows is_unknown (desc_part word) = named_in rows is_unknown (desc_part word) b.0 refl b.1 real in
        (x.type, x.says, reads_unknown text rows x.type (known_classes text) x.passes)

    nothing_said : desc_part word ≡ [] → (type : List ℕ) × Says (desc_part word) type × IsUnknownType text type
    nothing_said none = absurd (false≢true (sym (nothing_unknown rows) ∙ ap (λ (desc : List ℕ). in_signature is_unknown (signature_of rows desc)) (sym none) ∙ real))

pub rule_types : (text : List PlainClassText) (word type : List ℕ) → Says (desc_part word) type → IsUnknownType text type → in_signature is_unknown (method_signature (names_of text).1.classes (name_part word) (desc_part word)) ≡ true
rule_types text word type says u =
    signature_unknown (names_of text).1.classes (name_part word) (desc_part word)
    ∙ in_named (names_of text).1.classes is_unknown (desc_part word) type (unknown_type text type u) says (unknown_reads text (names_of text).1.classes type (known_classes text) u)

-- ---- members of the text

so_static : (static s : Bool) → (if static then s else not s) ≡ true → s ≡ static
so_static true s e = e
so_static false s e = not_true s e

static_so : (static s : Bool) → s ≡ static → (if static then s else not s) ≡ true
static_so true s e = e
static_so false s e = false_not s e

pub method_found : (text : List PlainClassText) (static : Bool) (word : List ℕ) → is_some (value_of word (methods_by static (names_of text).1)) ≡ true → HasMethod text static word
method_found text static word e =
    let c : _ = any_one (λ (c : PlainClassText). list_any (is_method static word c.name) c.methods) text (sym (text_method static word text) ∙ e) in
    let m : _ = any_one (is_method static word c.0.name) c.0.methods c.2 in
    let parts : _ = both (if static then is_static m.0.flags else not (is_static m.0.flags)) (bytes_eq word (method_key c.0.name m.0.name m.0.desc)) m.2 in
    record { class = c.0; method = m.0; declared = c.1; there = m.1; static_so = so_static static (is_static m.0.flags) parts.0; named = sym (same_bytes word (method_key c.0.name m.0.name m.0.desc) parts.1) }

pub found_method : (text : List PlainClassText) (static : Bool) (word : List ℕ) → HasMethod text static word → is_some (value_of word (methods_by static (names_of text).1)) ≡ true
found_method text static word h =
    text_method static word text ∙ any_there (λ (c : PlainClassText). list_any (is_method static word c.name) c.methods) text h.class h.declared
    (any_there (is_method static word h.class.name) h.class.methods h.method h.there
    (joined (if static then is_static h.method.flags else not (is_static h.method.flags)) (bytes_eq word (method_key h.class.name h.method.name h.method.desc)) (static_so static (is_static h.method.flags) h.static_so) (bytes_same word (method_key h.class.name h.method.name h.method.desc) (sym h.named))))

pub field_found : (text : List PlainClassText) (static : Bool) (word desc : List ℕ) → is_some (value_of (field_key word desc) (fields_by static (names_of text).1)) ≡ true → HasField text static word desc
field_found text static word desc e =
    let c : _ = any_one (λ (c : PlainClassText). list_any (is_field static (field_key word desc) c.name) c.fields) text (sym (text_field static (field_key word desc) text) ∙ e) in
    let f : _ = any_one (is_field static (field_key word desc) c.0.name) c.0.fields c.2 in
    let parts : _ = both (if static then is_static f.0.flags else not (is_static f.0.flags)) (bytes_eq (field_key word desc) (field_key (field_word c.0.name f.0.name) f.0.desc)) f.2 in
    record { class = c.0; field = f.0; declared = c.1; there = f.1; static_so = so_static static (is_static f.0.flags) parts.0; named = sym (same_bytes (field_key word desc) (field_key (field_word c.0.name f.0.name) f.0.desc) parts.1) }

pub found_field : (text : List PlainClassText) (static : Bool) (word desc : List ℕ) → HasField text static word desc → is_some (value_of (field_key word desc) (fields_by static (names_of text).1)) ≡ true
found_field text static word desc h =
    text_field static (field_key word desc) text ∙ any_there (λ (c : PlainClassText). list_any (is_field static (field_key word desc) c.name) c.fields) text h.class h.declared
    (any_there (is_field static (field_key word desc) h.class.name) h.class.fields h.field h.there
    (joined (if static then is_static h.field.flags else not (is_static h.field.flags)) (bytes_eq (field_key word desc) (field_key (field_word h.class.name h.field.name) h.field.desc)) (static_so static (is_static h.field.flags) h.static_so)
    (bytes_same (field_key word desc) (field_key (field_word h.class.name h.field.name) h.field.desc) (sym h.named))))

-- ---- calls

-- its own methods are found, or none is and a built-in one is asked for
record Asks (own other found : Bool) : Type 0 where
  pub not_own : own ≡ false
  pub not_other : other ≡ false
  pub is : found ≡ true

static_asks : (names : Names) (t : Target) (o : Option ℕ) → is_some (static_call names t o) ≡ true → (is_some o ≡ true) ⊎ Asks (is_some o) (is_some (value_of t.word names.instance_methods)) (is_some (static_member t))
static_asks names t (Some n) e = inl refl
static_asks names t None e = inr (by (is_some (value_of t.word names.instance_methods)) e)
  where
    by : (b : Bool) → is_some (if b then None else static_member t) ≡ true → Asks false b (is_some (static_member t))
    by true h = absurd (false≢true h)
    by false h = record { not_own = refl; not_other = refl; is = h }

virtual_asks : (names : Names) (thread_run : ℕ) (t : Target) (o : Option ℕ) → is_some (virtual_call names thread_run t o) ≡ true
    → ((is_some o ≡ true) × (t.is_init ≡ false)) ⊎ Asks (is_some o) (is_some (value_of t.word names.functions)) (is_some (virtual_member thread_run t))
virtual_asks names thread_run t (Some n) e = inl (refl, by t.is_init e)
  where
    by : (b : Bool) → is_some (if b then None else Some (instr.InvokeVirtual n)) ≡ true → b ≡ false
    by true h = absurd (false≢true h)
    by false h = refl
virtual_asks names thread_run t None e = inr (by (is_some (value_of t.word names.functions)) e)
  where
    by : (b : Bool) → is_some (if b then None else virtual_member thread_run t) ≡ true → Asks false b (is_some (virtual_member thread_run t))
    by true h = absurd (false≢true h)
    by false h = record { not_own = refl; not_other = refl; is = h }

special_asks : (names : Names) (thread_run : ℕ) (t : Target) (o : Option ℕ) → is_some (special_call names thread_run t o) ≡ true → (is_some o ≡ true) ⊎ Asks (is_some o) (is_some (value_of t.word names.functions)) (is_some (special_member thread_run t))
special_asks names thread_run t (Some n) e = inl refl
special_asks names thread_run t None e = inr (by (is_some (value_of t.word names.functions)) e)
  where
    by : (b : Bool) → is_some (if b then None else special_member thread_run t) ≡ true → Asks false b (is_some (special_member thread_run t))
    by true h = absurd (false≢true h)
    by false h = record { not_own = refl; not_other = refl; is = h }

-- no method of the text
none_there : (text : List PlainClassText) (word : List ℕ) → is_some (value_of word (names_of text).1.functions) ≡ false → is_some (value_of word (names_of text).1.instance_methods) ≡ false → (static : Bool) → HasMethod text static word → ⊥
none_there text word statics others true h = true_false (is_some (value_of word (names_of text).1.functions)) (found_method text true word h) statics
none_there text word statics others false h = true_false (is_some (value_of word (names_of text).1.instance_methods)) (found_method text false word h) others

there_none : (text : List PlainClassText) (word : List ℕ) (static : Bool) → ((static : Bool) → HasMethod text static word → ⊥) → is_some (value_of word (methods_by static (names_of text).1)) ≡ false
there_none text word static none = is_false (is_some (value_of word (methods_by static (names_of text).1))) (λ e. none static (method_found text static word e))

abbrev pub target_at : List PlainClassText → List ℕ → ℕ → Target
target_at text word n = target (names_of text).1 word (class_part word) (name_part word) (desc_part word) n

-- a call is one of three
mnemonic_is : (mnemonic : List ℕ) → Contains calls mnemonic → (mnemonic ≡ codes "invokestatic") ⊎ ((mnemonic ≡ codes "invokevirtual") ⊎ (mnemonic ≡ codes "invokespecial"))
mnemonic_is mnemonic h = by (contains_cases (codes "invokestatic") mnemonic (codes "invokevirtual" ∷ codes "invokespecial" ∷ []) h)
  where
    last : (codes "invokespecial" ≡ mnemonic) ⊎ Contains [] mnemonic → mnemonic ≡ codes "invokespecial"
    last (inl e) = sym e
    last (inr none) = absurd (contains_none mnemonic none)

    second : (codes "invokevirtual" ≡ mnemonic) ⊎ Contains (codes "invokespecial" ∷ []) mnemonic → (mnemonic ≡ codes "invokevirtual") ⊎ (mnemonic ≡ codes "invokespecial")
    second (inl e) = inl (sym e)
    second (inr more) = inr (last (contains_cases (codes "invokespecial") mnemonic [] more))

    by : (codes "invokestatic" ≡ mnemonic) ⊎ Contains (codes "invokevirtual" ∷ codes "invokespecial" ∷ []) mnemonic → (mnemonic ≡ codes "invokestatic") ⊎ ((mnemonic ≡ codes "invokevirtual") ⊎ (mnemonic ≡ codes "invokespecial"))
    by (inl e) = inl (sym e)
    by (inr more) = inr (second (contains_cases (codes "invokevirtual") mnemonic (codes "invokespecial" ∷ []) more))

differ : (a b mnemonic : List ℕ) → bytes_eq a b ≡ false → mnemonic ≡ a → mnemonic ≢ b
differ a b mnemonic apart e h = other_bytes a b apart (sym e ∙ h)

pub call_rule : (text : List PlainClassText) (thread_run : ℕ) (mnemonic word : List ℕ) (n : ℕ) → Contains calls mnemonic → Numbers text (class_part word) n → is_some (call_by (names_of text).1 thread_run mnemonic (target_at text word n)) ≡ true → FindsMethod text mnemonic word
call_rule text thread_run mnemonic word n called at e = ⊎_elim static (λ h. ⊎_elim virtual special h) (mnemonic_is mnemonic called)
  where
    names : Names
    names = (names_of text).1

    t : Target
    t = target names word (class_part word) (name_part word) (desc_part word) n

    static : mnemonic ≡ codes "invokestatic" → FindsMethod text mnemonic word
    static is =
        let found : is_some (static_call names t (value_of word names.functions)) ≡ true = ap (λ (w : List ℕ). is_some (call_by names thread_run w t)) (sym is) ∙ e in
        ⊎_elim (λ (h : is_some (value_of word names.functions) ≡ true). Static is (method_found text true word h)) (λ (h : Asks (is_some (value_of word names.functions)) (is_some (value_of word names.instance_methods)) (is_some (static_member t))).
        BuiltIn (none_there text word h.not_own h.not_other) (static_rule text mnemonic (class_part word) t is refl h.is)) (static_asks names t (value_of word names.functions) found)

    virtual : mnemonic ≡ codes "invokevirtual" → FindsMethod text mnemonic word
    virtual is =
        let found : is_some (virtual_call names thread_run t (value_of word names.instance_methods)) ≡ true = ap (λ (w : List ℕ). is_some (call_by names thread_run w t)) (sym is) ∙ e in
        ⊎_elim (λ (h : (is_some (value_of word names.instance_methods) ≡ true) × (t.is_init ≡ false)). Virtual is (method_found text false word h.0) (other_bytes (name_part word) (codes "<init>") h.1))
        (λ (h : Asks (is_some (value_of word names.instance_methods)) (is_some (value_of word names.functions)) (is_some (virtual_member thread_run t))).
        BuiltIn (none_there text word h.not_other h.not_own) (virtual_rule text mnemonic (class_part word) (name_part word ++ desc_part word) n thread_run t at (differ (codes "invokevirtual") (codes "invokestatic") mnemonic refl is) refl refl refl h.is))
        (virtual_asks names thread_run t (value_of word names.instance_methods) found)

    special : mnemonic ≡ codes "invokespecial" → FindsMethod text mnemonic word
    special is =
        let found : is_some (special_call names thread_run t (value_of word names.instance_methods)) ≡ true = ap (λ (w : List ℕ). is_some (call_by names thread_run w t)) (sym is) ∙ e in
        ⊎_elim (λ (h : is_some (value_of word names.instance_methods) ≡ true). Special is (method_found text false word h))
        (λ (h : Asks (is_some (value_of word names.instance_methods)) (is_some (value_of word names.functions)) (is_some (special_member thread_run t))).
        BuiltIn (none_there text word h.not_other h.not_own) (special_rule text mnemonic (class_part word) (name_part word ++ desc_part word) n thread_run t at is (differ (codes "invokespecial") (codes "invokestatic") mnemonic refl is) refl refl refl h.is))
        (special_asks names thread_run t (value_of word names.instance_methods) found)

-- and the other way round
pub rule_call : (text : List PlainClassText) (thread_run : ℕ) (mnemonic word : List ℕ) (n : ℕ) → Contains calls mnemonic → Numbers text (class_part word) n → FindsMethod text mnemonic word → is_some (call_by (names_of text).1 thread_run mnemonic (target_at text word n)) ≡ true
rule_call text thread_run mnemonic word n called at finds = by finds
  where
    names : Names
    names = (names_of text).1

    t : Target
    t = target names word (class_part word) (name_part word) (desc_part word) n

    as_static : mnemonic ≡ codes "invokestatic" → is_some (static_call names t (value_of word names.functions)) ≡ true → is_some (call_by names thread_run mnemonic t) ≡ true
    as_static is h = ap (λ (w : List ℕ). is_some (call_by names thread_run w t)) is ∙ h

    as_virtual : mnemonic ≡ codes "invokevirtual" → is_some (virtual_call names thread_run t (value_of word names.instance_methods)) ≡ true → is_some (call_by names thread_run mnemonic t) ≡ true
    as_virtual is h = ap (λ (w : List ℕ). is_some (call_by names thread_run w t)) is ∙ h

    as_special : mnemonic ≡ codes "invokespecial" → is_some (special_call names thread_run t (value_of word names.instance_methods)) ≡ true → is_some (call_by names thread_run mnemonic t) ≡ true
    as_special is h = ap (λ (w : List ℕ). is_some (call_by names thread_run w t)) is ∙ h

    static_some : (o : Option ℕ) → is_some o ≡ true → is_some (static_call names t o) ≡ true
    static_some None e = absurd (false≢true e)
    static_some (Some k) e = refl

    virtual_some : (o : Option ℕ) → is_some o ≡ true → t.is_init ≡ false → is_some (virtual_call names thread_run t o) ≡ true
    virtual_some None e h = absurd (false≢true e)
    virtual_some (Some k) e h = ap (λ (b : Bool). is_some (if b then None else Some (instr.InvokeVirtual k))) h

    special_some : (o : Option ℕ) → is_some o ≡ true → is_some (special_call names thread_run t o) ≡ true
    special_some None e = absurd (false≢true e)
    special_some (Some k) e = refl

    static_none : (o : Option ℕ) → is_some o ≡ false → is_some (value_of word names.instance_methods) ≡ false → is_some (static_member t) ≡ true → is_some (static_call names t o) ≡ true
    static_none None e h g = ap (λ (b : Bool). is_some (if b then None else static_member t)) h ∙ g
    static_none (Some k) e h g = refl

    virtual_none : (o : Option ℕ) → is_some o ≡ false → is_some (value_of word names.functions) ≡ false → is_some (virtual_member thread_run t) ≡ true → is_some (virtual_call names thread_run t o) ≡ true
    virtual_none None e h g = ap (λ (b : Bool). is_some (if b then None else virtual_member thread_run t)) h ∙ g
    virtual_none (Some k) e h g = absurd (false≢true (sym e))

    special_none : (o : Option ℕ) → is_some o ≡ false → is_some (value_of word names.functions) ≡ false → is_some (special_member thread_run t) ≡ true → is_some (special_call names thread_run t o) ≡ true
    special_none None e h g = ap (λ (b : Bool). is_some (if b then None else special_member thread_run t)) h ∙ g
    special_none (Some k) e h g = refl

    yields : HasBuiltIn text mnemonic (class_part word) (name_part word ++ desc_part word) → mnemonic ≡ codes "invokestatic" → is_some (static_member t) ≡ true
    yields (OfThreads e thread c) is = ap (λ (b : Bool). is_some (if b then Some instr.Yield else None)) (joined (bytes_eq t.member (codes "yield()V")) t.is_thread (bytes_same t.member (codes "yield()V") c) (rule_thread text (class_part word) thread))
    yields (OfThread e x c) is = absurd (e is)
    yields (OfObject e x y c) is = absurd (e is)
    yields (OfStream e x c) is = absurd (e is)
    yields (Plain e x c) is = absurd (differ (codes "invokestatic") (codes "invokespecial") mnemonic refl is e)
    yields (OfRunnable e x c) is = absurd (differ (codes "invokestatic") (codes "invokespecial") mnemonic refl is e)
    yields (OfText e x c) is = absurd (differ (codes "invokestatic") (codes "invokespecial") mnemonic refl is e)

    by : FindsMethod text mnemonic word → is_some (call_by names thread_run mnemonic t) ≡ true
    by (Static is h) = as_static is (static_some (value_of word names.functions) (found_method text true word h))
    by (Virtual is h other) = as_virtual is (virtual_some (value_of word names.instance_methods) (found_method text false word h) (bytes_other (name_part word) (codes "<init>") other))
    by (Special is h) = as_special is (special_some (value_of word names.instance_methods) (found_method text false word h))
    by (BuiltIn none b) =
        ⊎_elim (λ (is : mnemonic ≡ codes "invokestatic"). as_static is (static_none (value_of word names.functions) (there_none text word true none) (there_none text word false none) (yields b is)))
        (λ h. ⊎_elim (λ (is : mnemonic ≡ codes "invokevirtual"). as_virtual is (virtual_none (value_of word names.instance_methods) (there_none text word false none) (there_none text word true none)
        (some_or (is_run t) (virtual_run thread_run t) (instance_member t.class t.is_thread t.member)
        ∙ rule_virtual text mnemonic (class_part word) (name_part word ++ desc_part word) n at b (differ (codes "invokevirtual") (codes "invokestatic") mnemonic refl is) (differ (codes "invokevirtual") (codes "invokespecial") mnemonic refl is))))
        (λ (is : mnemonic ≡ codes "invokespecial"). as_special is (special_none (value_of word names.instance_methods) (there_none text word false none) (there_none text word true none)
        (some_or (is_run t) (instr.InvokeSpecial thread_run) (first_some (instance_member t.class t.is_thread t.member) (constructor t.class t.member))
        ∙ ap (λ (c : Bool). is_run t || c) (some_first (instance_member t.class t.is_thread t.member) (constructor t.class t.member))
        ∙ rule_special text mnemonic (class_part word) (name_part word ++ desc_part word) n at b (differ (codes "invokespecial") (codes "invokestatic") mnemonic refl is)))) h)
        (mnemonic_is mnemonic called)

-- ---- fields

pub out_rule : (word desc : List ℕ) → is_out word desc ≡ true → IsOut word desc
out_rule word desc e =
    let parts : _ = both (bytes_eq word (codes "java/lang/System/out")) (bytes_eq desc (codes "Ljava/io/PrintStream;")) e in
    (same_bytes word (codes "java/lang/System/out") parts.0, same_bytes desc (codes "Ljava/io/PrintStream;") parts.1)

pub rule_out : (word desc : List ℕ) → IsOut word desc → is_out word desc ≡ true
rule_out word desc h = joined (bytes_eq word (codes "java/lang/System/out")) (bytes_eq desc (codes "Ljava/io/PrintStream;")) (bytes_same word (codes "java/lang/System/out") h.0) (bytes_same desc (codes "Ljava/io/PrintStream;") h.1)

pub no_out : (word desc : List ℕ) → is_out word desc ≡ false → IsOut word desc → ⊥
no_out word desc e h = true_false (is_out word desc) (rule_out word desc h) e

pub access_rule : (text : List PlainClassText) (mnemonic word desc : List ℕ) (n : ℕ) → is_some (field_by (names_of text).1 mnemonic word desc n) ≡ true → FindsField text mnemonic word desc
access_rule text mnemonic word desc n e = by (bytes_eq mnemonic (codes "getstatic")) refl (bytes_eq mnemonic (codes "putstatic")) refl (bytes_eq mnemonic (codes "getfield")) e
  where
    names : Names
    names = (names_of text).1

    statics : Option ℕ
    statics = value_of (field_key word desc) names.statics

    places : Option ℕ
    places = value_of (field_key word desc) names.places

    slot : (o : Option ℕ) (f : ℕ → Instr) → is_some (to_slot f o) ≡ true → is_some o ≡ true
    slot None f h = h
    slot (Some k) f h = refl

    none_so : is_some statics ≡ false → is_some places ≡ false → (static : Bool) → HasField text static word desc → ⊥
    none_so s p true h = true_false (is_some statics) (found_field text true word desc h) s
    none_so s p false h = true_false (is_some places) (found_field text false word desc h) p

    gets : (o : Option ℕ) → statics ≡ o → mnemonic ≡ codes "getstatic" → is_some (read_static (is_out word desc) (is_some places) o) ≡ true → FindsField text mnemonic word desc
    gets (Some k) is m h = StaticField (0, omega arith, sym m) (field_found text true word desc (ap (λ (o : Option ℕ). is_some o) is))
    gets None is m h =
        let parts : _ = both (is_out word desc) (not (is_some places)) (found (is_out word desc && not (is_some places)) h) in
        Out m (out_rule word desc parts.0) (none_so (ap (λ (o : Option ℕ). is_some o) is) (not_true (is_some places) parts.1))
      where
        found : (b : Bool) → is_some (if b then Some instr.Out else None) ≡ true → b ≡ true
        found true k = refl
        found false k = absurd (false≢true k)

    no_static : bytes_eq mnemonic (codes "getstatic") ≡ false → bytes_eq mnemonic (codes "putstatic") ≡ false → Contains static_accesses mnemonic → ⊥
    no_static g p h = true_false (list_any (bytes_eq mnemonic) static_accesses) (there_word mnemonic static_accesses h) (ap (λ (b : Bool). b || (bytes_eq mnemonic (codes "putstatic") || false)) g ∙ ap (λ (b : Bool). b || false) p)

    by : (g : Bool) → bytes_eq mnemonic (codes "getstatic") ≡ g → (p : Bool) → bytes_eq mnemonic (codes "putstatic") ≡ p → (f : Bool)
        → is_some (if g then read_static (is_out word desc) (is_some places) statics else if p then to_slot instr.PutStatic statics else if f then to_slot (instr.GetField n) places else to_slot (instr.PutField n) places) ≡ true
        → FindsField text mnemonic word desc
    by true g p q f h = gets statics refl (same_bytes mnemonic (codes "getstatic") g) h
    by false g true q f h = StaticField (1, omega arith, sym (same_bytes mnemonic (codes "putstatic") q)) (field_found text true word desc (slot statics instr.PutStatic h))
    by false g false q true h = InstanceField (no_static g q) (field_found text false word desc (slot places (instr.GetField n) h))
    by false g false q false h = InstanceField (no_static g q) (field_found text false word desc (slot places (instr.PutField n) h))

pub rule_access : (text : List PlainClassText) (mnemonic word desc : List ℕ) (n : ℕ) → FindsField text mnemonic word desc → is_some (field_by (names_of text).1 mnemonic word desc n) ≡ true
rule_access text mnemonic word desc n finds = by (bytes_eq mnemonic (codes "getstatic")) refl (bytes_eq mnemonic (codes "putstatic")) refl (bytes_eq mnemonic (codes "getfield")) finds
  where
    names : Names
    names = (names_of text).1

    statics : Option ℕ
    statics = value_of (field_key word desc) names.statics

    places : Option ℕ
    places = value_of (field_key word desc) names.places

    slot : (o : Option ℕ) (f : ℕ → Instr) → is_some o ≡ true → is_some (to_slot f o) ≡ true
    slot None f h = h
    slot (Some k) f h = refl

    read_some : (o : Option ℕ) → is_some o ≡ true → is_some (read_static (is_out word desc) (is_some places) o) ≡ true
    read_some None h = absurd (false≢true h)
    read_some (Some k) h = refl

    read_out : (o : Option ℕ) → is_out word desc ≡ true → is_some places ≡ false → is_some (read_static (is_out word desc) (is_some places) o) ≡ true
    read_out None h p = ap (λ (b : Bool). is_some (if b then Some instr.Out else None)) (joined (is_out word desc) (not (is_some places)) h (false_not (is_some places) p))
    read_out (Some k) h p = refl

    no_static : bytes_eq mnemonic (codes "getstatic") ≡ false → bytes_eq mnemonic (codes "putstatic") ≡ false → Contains static_accesses mnemonic → ⊥
    no_static g p h = true_false (list_any (bytes_eq mnemonic) static_accesses) (there_word mnemonic static_accesses h) (ap (λ (b : Bool). b || (bytes_eq mnemonic (codes "putstatic") || false)) g ∙ ap (λ (b : Bool). b || false) p)

    by : (g : Bool) → bytes_eq mnemonic (codes "getstatic") ≡ g → (p : Bool) → bytes_eq mnemonic (codes "putstatic") ≡ p → (f : Bool) → FindsField text mnemonic word desc
        → is_some (if g then read_static (is_out word desc) (is_some places) statics else if p then to_slot instr.PutStatic statics else if f then to_slot (instr.GetField n) places else to_slot (instr.PutField n) places) ≡ true
    by true g p q f (StaticField s h) = read_some statics (found_field text true word desc h)
    by true g p q f (InstanceField s h) = absurd (s (0, omega arith, sym (same_bytes mnemonic (codes "getstatic") g)))
    by true g p q f (Out m out none) = read_out statics (rule_out word desc out) (is_false (is_some places) (λ h. none false (field_found text false word desc h)))
    by false g true q f (StaticField s h) = slot statics instr.PutStatic (found_field text true word desc h)
    by false g true q f (InstanceField s h) = absurd (s (1, omega arith, sym (same_bytes mnemonic (codes "putstatic") q)))
    by false g false q f (StaticField s h) = absurd (no_static g q s)
    by false g false q true (InstanceField s h) = slot places (instr.GetField n) (found_field text false word desc h)
    by false g false q false (InstanceField s h) = slot places (instr.PutField n) (found_field text false word desc h)
    by false g p q f (Out m out none) = absurd (true_false (bytes_eq mnemonic (codes "getstatic")) (bytes_same mnemonic (codes "getstatic") m) g)
