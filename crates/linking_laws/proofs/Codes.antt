-- What linking a line gives: instructions that the laws of verified programs allow, and that name what is there.
use Rattle.std.proofs.Common.{◌≡◌, ℕ, zero, suc, Bool, true, false, List, [], ◌∷◌, Option, Some, None, Result, Ok, Err, refl, arith}
use Rattle.std.specs.Prelude.{ℤ, unsigned_abs, IsTrue, not, ◌&&◌, ◌||◌, if◌then◌else◌, ◌==◌, nat_lt, length, bytes_eq, codes, is_some}
use Rattle.std.specs.List.{AllByRecursion, list_all}
use Rattle.std.proofs.lemmas.Bool.{false≢true}
use Rattle.std.proofs.lemmas.Bool.Decides.{nat_tests}
use Rattle.vm_model.specs.declared.instr.Instr.{Instr}
use Rattle.vm_model.specs.declared.instr.Instr.TheVariants as instr
use Rattle.vm_model.specs.Program.{PlainProgram}
use Rattle.vm_model.specs.Failures.{◌>>=◌, or_fault}
use Rattle.jasmin_lines.specs.declared.class_text.Operand.{Operand}
use Rattle.jasmin_lines.specs.declared.class_text.Operand.TheVariants as operand
use Rattle.jasmin_lines.specs.Plain.{PlainLineText}
use Rattle.name_resolver.specs.declared.calls.Target.{Target}
use Rattle.name_resolver.specs.declared.fault.LinkKind.{LinkKind}
use Rattle.name_resolver.specs.declared.fault.LinkKind.TheVariants as kinds
use Rattle.name_resolver.specs.declared.names.Names.{Names}
use Rattle.name_resolver.specs.Index.{Rows, value_of}
use Rattle.built_in_classes.specs.Classes as built_in
use Rattle.built_in_classes.specs.Classes.{has_constructor, has_text_constructor}
use Rattle.name_resolver.specs.Words.{field_key}
use Rattle.name_resolver.specs.BuiltIn.{has_lock, lock_member, thread_member, stream_member, constructor, first_some, of_lock, of_thread, of_stream, instance_member}
use Rattle.name_resolver.specs.Descriptors.{class_of}
use Rattle.name_resolver.specs.Calls.{static_call, virtual_run, virtual_member, virtual_call, special_member, special_call, call_by, target_of, call, read_static, to_slot, field_by, field_class, field, is_run, is_out}
use Rattle.jasmin_lines.specs.Tables.{row_of}
use Rattle.class_linker.specs.Linked.{alone, int_jump, pair_jump, other_jump, or_else, jump_to, numbered, texted, made, jumped, worded, is_call, linked_by, linked}
use Rattle.class_linker.specs.Programs.{kept, code_of}
use Rattle.machine_model.specs.Declarations.{declarations_of}
use Rattle.machine_model.specs.Kinds.{is_class}
use Rattle.shape_laws.specs.Linked.{has_thread_run, is_linked_instr, names_what_is_there}
use Rattle.shape_laws.proofs.Tests.{both, joined, all_both}
use Rattle.linking_laws.proofs.Lists.{weaker}

-- an instruction that is allowed, and names what is there
abbrev pub is_right : PlainProgram → Instr → Bool
is_right p i = names_what_is_there p i && is_linked_instr p i

-- Thread's own run is there, and so are the classes that have numbers, and the text constants
pub record Numbers (p : PlainProgram) (names : Names) (texts : Rows) : Type 0 where
  pub run : has_thread_run p ≡ true
  pub class_there : (name : List ℕ) (n : ℕ) → class_of names.classes name ≡ Some n → is_class (declarations_of p) n ≡ true
  pub text_there : (text : List ℕ) (n : ℕ) → value_of text texts ≡ Some n → nat_lt n (length p.texts) ≡ true

-- an instruction that is there is a right one
abbrev pub Fine : PlainProgram → Option Instr → Type 0
Fine p None = Unit {0}
Fine p (Some i) = is_right p i ≡ true

-- the same of a line that isn't refused
abbrev pub FineLine : PlainProgram → Result Instr LinkKind → Type 0
FineLine p (Ok i) = is_right p i ≡ true
FineLine p (Err kind) = Unit {0}

-- ---- choices

-- an instruction by a test
if_fine : (p : PlainProgram) (b : Bool) (x y : Option Instr) → (b ≡ true → Fine p x) → Fine p y → Fine p (if b then x else y)
if_fine p true x y h k = h refl
if_fine p false x y h k = k

-- the same of a line
if_line : (p : PlainProgram) (b : Bool) (x y : Result Instr LinkKind) → (b ≡ true → FineLine p x) → FineLine p y → FineLine p (if b then x else y)
if_line p true x y h k = h refl
if_line p false x y h k = k

-- a line whose fault is that there is no instruction
fault_fine : (p : PlainProgram) (kind : LinkKind) (o : Option Instr) → Fine p o → FineLine p (or_fault kind o)
fault_fine p kind None h = tt
fault_fine p kind (Some i) h = h

-- a line by what comes before
bind_fine : {A : Type 0} (p : PlainProgram) (r : Result A LinkKind) (f : A → Result Instr LinkKind) → ((x : A) → FineLine p (f x)) → FineLine p (r >>= f)
bind_fine p (Ok x) f h = h x
bind_fine p (Err kind) f h = tt

-- the same where it is something that is found
found_fine : {A : Type 0} (p : PlainProgram) (kind : LinkKind) (o : Option A) (f : A → Result Instr LinkKind) → ((x : A) → o ≡ Some x → FineLine p (f x)) → FineLine p (or_fault kind o >>= f)
found_fine p kind None f h = tt
found_fine p kind (Some x) f h = h x refl

-- the first of two
first_fine : (p : PlainProgram) (a b : Option Instr) → Fine p a → Fine p b → Fine p (first_some a b)
first_fine p None b h k = k
first_fine p (Some i) b h k = h

-- the same, as jumps are looked up
else_fine : (p : PlainProgram) (a b : Option Instr) → Fine p a → Fine p b → Fine p (or_else a b)
else_fine p None b h k = k
else_fine p (Some i) b h k = h

-- ---- members of built-in classes

-- members of each class with a lock
lock_fine : (p : PlainProgram) (m : List ℕ) → Fine p (lock_member m)
lock_fine p m = by (bytes_eq m (codes "wait()V")) (bytes_eq m (codes "notify()V")) (bytes_eq m (codes "notifyAll()V"))
  where
    by : (a b c : Bool) → Fine p (if a then Some instr.Wait else if b then Some instr.Notify else if c then Some instr.NotifyAll else None)
    by true b c = refl
    by false true c = refl
    by false false true = refl
    by false false false = tt

-- members of Thread: start is allowed where Thread's own run is there
thread_fine : (p : PlainProgram) (m : List ℕ) → has_thread_run p ≡ true → Fine p (thread_member m)
thread_fine p m run = by (bytes_eq m (codes "start()V")) (bytes_eq m (codes "join()V"))
  where
    by : (a b : Bool) → Fine p (if a then Some instr.Start else if b then Some instr.Join else None)
    by true b = run
    by false true = refl
    by false false = tt

-- members of the stream
stream_fine : (p : PlainProgram) (m : List ℕ) → Fine p (stream_member m)
stream_fine p m =
    by (bytes_eq m (codes "println()V")) (bytes_eq m (codes "println(I)V")) (bytes_eq m (codes "println(Ljava/lang/String;)V")) (bytes_eq m (codes "print(I)V")) (bytes_eq m (codes "print(Ljava/lang/String;)V"))
  where
    by : (a b c d e : Bool) → Fine p (if a then Some instr.Println else if b then Some (instr.PrintInt true) else if c then Some (instr.PrintText true) else if d then Some (instr.PrintInt false) else if e then Some (instr.PrintText false) else None)
    by true b c d e = refl
    by false true c d e = refl
    by false false true d e = refl
    by false false false true e = refl
    by false false false false true = refl
    by false false false false false = tt

-- members of built-in classes that aren't static
instance_fine : (p : PlainProgram) (class : ℕ) (is_thread : Bool) (m : List ℕ) → has_thread_run p ≡ true → Fine p (instance_member class is_thread m)
instance_fine p class is_thread m run =
    first_fine p (of_lock class m) (first_some (of_thread is_thread m) (of_stream class m)) (if_fine p (has_lock class) (lock_member m) None (λ h. lock_fine p m) tt)
    (first_fine p (of_thread is_thread m) (of_stream class m) (if_fine p is_thread (thread_member m) None (λ h. thread_fine p m run) tt) (if_fine p (class == 4) (stream_member m) None (λ h. stream_fine p m) tt))

-- texts and the stream have no constructor
constructor_apart : (class : ℕ) → has_constructor class ≡ true → not (class == 3 || class == 4) ≡ true
constructor_apart zero h = refl
constructor_apart (suc zero) h = refl
constructor_apart (suc (suc zero)) h = refl
constructor_apart (suc (suc (suc zero))) h = absurd (false≢true h)
constructor_apart (suc (suc (suc (suc zero)))) h = absurd (false≢true h)
constructor_apart (suc (suc (suc (suc (suc n))))) h = grind (arith, nat_tests)

-- nor one that takes a text
text_apart : (class : ℕ) → has_text_constructor class ≡ true → not (class == 3 || class == 4) ≡ true
text_apart zero h = refl
text_apart (suc zero) h = refl
text_apart (suc (suc zero)) h = refl
text_apart (suc (suc (suc zero))) h = absurd (false≢true h)
text_apart (suc (suc (suc (suc zero)))) h = absurd (false≢true h)
text_apart (suc (suc (suc (suc (suc n))))) h = grind (arith, nat_tests)

-- constructors of built-in classes
constructor_fine : (p : PlainProgram) (class : ℕ) (m : List ℕ) → Fine p (constructor class m)
constructor_fine p class m =
    by (bytes_eq m (codes "<init>()V")) (has_constructor class) (bytes_eq m (codes "<init>(Ljava/lang/Runnable;)V")) (class == 1) (bytes_eq m (codes "<init>(Ljava/lang/String;)V")) (has_text_constructor class) (constructor_apart class) (text_apart class)
  where
    texted_by : (e f : Bool) → (f ≡ true → not (class == 3 || class == 4) ≡ true) → Fine p (if e && f then Some (instr.Init class true) else None)
    texted_by true true k = k refl
    texted_by true false k = tt
    texted_by false f k = tt

    run_by : (c d e f : Bool) → (f ≡ true → not (class == 3 || class == 4) ≡ true) → Fine p (if c && d then Some instr.InitRunnable else if e && f then Some (instr.Init class true) else None)
    run_by true true e f k = refl
    run_by true false e f k = texted_by e f k
    run_by false d e f k = texted_by e f k

    by : (a b c d e f : Bool) → (b ≡ true → not (class == 3 || class == 4) ≡ true) → (f ≡ true → not (class == 3 || class == 4) ≡ true)
        → Fine p (if a && b then Some (instr.Init class false) else if c && d then Some instr.InitRunnable else if e && f then Some (instr.Init class true) else None)
    by true true c d e f h k = h refl
    by true false c d e f h k = run_by c d e f k
    by false b c d e f h k = run_by c d e f k

-- ---- calls

-- what `invokestatic` calls
static_fine : (p : PlainProgram) (names : Names) (t : Target) (o : Option ℕ) → Fine p (static_call names t o)
static_fine p names t (Some n) = refl
static_fine p names t None = by (is_some (value_of t.word names.instance_methods)) (bytes_eq t.member (codes "yield()V") && t.is_thread)
  where
    by : (a b : Bool) → Fine p (if a then None else if b then Some instr.Yield else None)
    by true b = tt
    by false true = refl
    by false false = tt

-- run of Thread: through Thread itself the object's class decides
run_fine : (p : PlainProgram) (thread_run : ℕ) (b : Bool) → has_thread_run p ≡ true → is_right p (if b then instr.RunOf 1 else instr.InvokeVirtual thread_run) ≡ true
run_fine p thread_run true run = run
run_fine p thread_run false run = refl

-- what `invokevirtual` calls
virtual_fine : (p : PlainProgram) (names : Names) (thread_run : ℕ) (t : Target) (o : Option ℕ) → has_thread_run p ≡ true → Fine p (virtual_call names thread_run t o)
virtual_fine p names thread_run t (Some n) run = if_fine p t.is_init None (Some (instr.InvokeVirtual n)) (λ h. tt) refl
virtual_fine p names thread_run t None run =
    if_fine p (is_some (value_of t.word names.functions)) None (virtual_member thread_run t) (λ h. tt) (if_fine p (is_run t) (Some (virtual_run thread_run t)) (instance_member t.class t.is_thread t.member) (λ h. run_fine p thread_run (t.class == 1) run) (instance_fine p t.class t.is_thread t.member run))

-- what `invokespecial` calls
special_fine : (p : PlainProgram) (names : Names) (thread_run : ℕ) (t : Target) (o : Option ℕ) → has_thread_run p ≡ true → Fine p (special_call names thread_run t o)
special_fine p names thread_run t (Some n) run = refl
special_fine p names thread_run t None run =
    if_fine p (is_some (value_of t.word names.functions)) None (special_member thread_run t) (λ h. tt) (if_fine p (is_run t) (Some (instr.InvokeSpecial thread_run)) (first_some (instance_member t.class t.is_thread t.member) (constructor t.class t.member)) (λ h. refl)
    (first_fine p (instance_member t.class t.is_thread t.member) (constructor t.class t.member) (instance_fine p t.class t.is_thread t.member run) (constructor_fine p t.class t.member)))

-- a call by its mnemonic
called_fine : (p : PlainProgram) (names : Names) (thread_run : ℕ) (mnemonic : List ℕ) (t : Target) → has_thread_run p ≡ true → Fine p (call_by names thread_run mnemonic t)
called_fine p names thread_run mnemonic t run =
    if_fine p (bytes_eq mnemonic (codes "invokestatic")) (static_call names t (value_of t.word names.functions)) (if bytes_eq mnemonic (codes "invokevirtual") then virtual_call names thread_run t (value_of t.word names.instance_methods) else special_call names thread_run t (value_of t.word names.instance_methods))
    (λ h. static_fine p names t (value_of t.word names.functions))
    (if_fine p (bytes_eq mnemonic (codes "invokevirtual")) (virtual_call names thread_run t (value_of t.word names.instance_methods)) (special_call names thread_run t (value_of t.word names.instance_methods)) (λ h. virtual_fine p names thread_run t (value_of t.word names.instance_methods) run) (special_fine p names thread_run t (value_of t.word names.instance_methods) run))

-- a call by its word
call_fine : (p : PlainProgram) (names : Names) (thread_run : ℕ) (mnemonic word : List ℕ) → has_thread_run p ≡ true → FineLine p (call names thread_run mnemonic word)
unfolding call
call_fine p names thread_run mnemonic word run =
    bind_fine p (target_of names word) (λ t. or_fault kinds.UnknownMethod (call_by names thread_run mnemonic t)) (λ t. fault_fine p kinds.UnknownMethod (call_by names thread_run mnemonic t) (called_fine p names thread_run mnemonic t run))

-- ---- fields

-- a field by its number
slot_fine : (p : PlainProgram) (make : ℕ → Instr) (o : Option ℕ) → ((n : ℕ) → is_right p (make n) ≡ true) → Fine p (to_slot make o)
slot_fine p make None h = tt
slot_fine p make (Some n) h = h n

-- a static, or the stream
read_fine : (p : PlainProgram) (is_out is_place : Bool) (o : Option ℕ) → Fine p (read_static is_out is_place o)
read_fine p is_out is_place (Some n) = refl
read_fine p is_out is_place None = if_fine p (is_out && not is_place) (Some instr.Out) None (λ k. refl) tt

-- a field by its mnemonic
by_fine : (p : PlainProgram) (names : Names) (mnemonic word desc : List ℕ) (class : ℕ) → Fine p (field_by names mnemonic word desc class)
by_fine p names mnemonic word desc class = by (bytes_eq mnemonic (codes "getstatic")) (bytes_eq mnemonic (codes "putstatic")) (bytes_eq mnemonic (codes "getfield"))
  where
    slot : Option ℕ
    slot = value_of (field_key word desc) names.statics

    place : Option ℕ
    place = value_of (field_key word desc) names.places

    by : (a b c : Bool)
        → Fine p (if a then read_static (is_out word desc) (is_some place) slot else if b then to_slot instr.PutStatic slot else if c then to_slot (instr.GetField class) place else to_slot (instr.PutField class) place)
    by true b c = read_fine p (is_out word desc) (is_some place) slot
    by false true c = slot_fine p instr.PutStatic slot (λ n. refl)
    by false false true = slot_fine p (instr.GetField class) place (λ n. refl)
    by false false false = slot_fine p (instr.PutField class) place (λ n. refl)

-- a field by its word
field_fine : (p : PlainProgram) (names : Names) (mnemonic word desc : List ℕ) → FineLine p (field names mnemonic word desc)
unfolding field
field_fine p names mnemonic word desc =
    bind_fine p (field_class names word desc) _ (λ class. bind_fine p _ _ (λ checked. fault_fine p kinds.UnknownField _ (by_fine p names mnemonic word desc class)))

-- ---- the other instructions

-- instructions without operands
alone_fine : (p : PlainProgram) → list_all (λ (row : List ℕ × Instr). is_right p row.1) alone ≡ true
unfolding alone
alone_fine p = refl

-- what is found in a table of allowed ones
row_fine : (p : PlainProgram) (word : List ℕ) (rows : List (List ℕ × Instr)) → list_all (λ (row : List ℕ × Instr). is_right p row.1) rows ≡ true → Fine p (row_of word rows)
row_fine p word [] h = tt
row_fine p word (row ∷ rows) h =
    let parts : (is_right p row.1 ≡ true) × (list_all (λ (r : List ℕ × Instr). is_right p r.1) rows ≡ true) = both (is_right p row.1) (list_all (λ (r : List ℕ × Instr). is_right p r.1) rows) h in
    if_fine p (bytes_eq row.0 word) (Some row.1) (row_of word rows) (λ k. parts.0) (row_fine p word rows parts.1)

-- jumps by one int
ints_fine : (p : PlainProgram) (word : List ℕ) (to : ℕ) → Fine p (int_jump word to)
ints_fine p word to = by (bytes_eq word (codes "ifeq")) (bytes_eq word (codes "ifne")) (bytes_eq word (codes "iflt")) (bytes_eq word (codes "ifge")) (bytes_eq word (codes "ifgt")) (bytes_eq word (codes "ifle"))
  where
    by : (a b c d e f : Bool)
        → Fine p (if a then Some (instr.Ifeq to) else if b then Some (instr.Ifne to) else if c then Some (instr.Iflt to) else if d then Some (instr.Ifge to) else if e then Some (instr.Ifgt to) else if f then Some (instr.Ifle to) else None)
    by true b c d e f = refl
    by false true c d e f = refl
    by false false true d e f = refl
    by false false false true e f = refl
    by false false false false true f = refl
    by false false false false false true = refl
    by false false false false false false = tt

-- jumps by two ints
pairs_fine : (p : PlainProgram) (word : List ℕ) (to : ℕ) → Fine p (pair_jump word to)
pairs_fine p word to = by (bytes_eq word (codes "if_icmpeq")) (bytes_eq word (codes "if_icmpne")) (bytes_eq word (codes "if_icmplt")) (bytes_eq word (codes "if_icmpge")) (bytes_eq word (codes "if_icmpgt")) (bytes_eq word (codes "if_icmple"))
  where
    by : (a b c d e f : Bool)
        → Fine p (if a then Some (instr.IfIcmpeq to) else if b then Some (instr.IfIcmpne to) else if c then Some (instr.IfIcmplt to) else if d then Some (instr.IfIcmpge to) else if e then Some (instr.IfIcmpgt to) else if f then Some (instr.IfIcmple to) else None)
    by true b c d e f = refl
    by false true c d e f = refl
    by false false true d e f = refl
    by false false false true e f = refl
    by false false false false true f = refl
    by false false false false false true = refl
    by false false false false false false = tt

-- the other jumps
others_fine : (p : PlainProgram) (word : List ℕ) (to : ℕ) → Fine p (other_jump word to)
others_fine p word to = by (bytes_eq word (codes "if_acmpeq")) (bytes_eq word (codes "if_acmpne")) (bytes_eq word (codes "ifnull")) (bytes_eq word (codes "ifnonnull")) (bytes_eq word (codes "goto"))
  where
    by : (a b c d e : Bool) → Fine p (if a then Some (instr.IfAcmpeq to) else if b then Some (instr.IfAcmpne to) else if c then Some (instr.Ifnull to) else if d then Some (instr.Ifnonnull to) else if e then Some (instr.Goto to) else None)
    by true b c d e = refl
    by false true c d e = refl
    by false false true d e = refl
    by false false false true e = refl
    by false false false false true = refl
    by false false false false false = tt

-- all jumps
jump_fine : (p : PlainProgram) (word : List ℕ) (to : ℕ) → Fine p (jump_to word to)
jump_fine p word to = else_fine p (int_jump word to) (or_else (pair_jump word to) (other_jump word to)) (ints_fine p word to) (else_fine p (pair_jump word to) (other_jump word to) (pairs_fine p word to) (others_fine p word to))

-- a jump to a label
jumped_fine : (p : PlainProgram) (labels : Rows) (word label : List ℕ) → FineLine p (jumped labels word label)
unfolding jumped
jumped_fine p labels word label = bind_fine p (or_fault kinds.UnknownLabel (value_of label labels)) _ (λ to. fault_fine p kinds.OutOfProfile (jump_to word to) (jump_fine p word to))

-- classes of which objects are made are so for the laws as well
has_values : (class : ℕ) → built_in.has_objects class ≡ true → not (class == 2 || class == 3 || class == 4) ≡ true
has_values zero h = refl
has_values (suc zero) h = refl
has_values (suc (suc zero)) h = absurd (false≢true h)
has_values (suc (suc (suc zero))) h = absurd (false≢true h)
has_values (suc (suc (suc (suc zero)))) h = absurd (false≢true h)
has_values (suc (suc (suc (suc (suc n))))) h = grind (arith, nat_tests)

-- `new`
made_fine : (p : PlainProgram) (names : Names) (texts : Rows) (class : List ℕ) → Numbers p names texts → FineLine p (made names class)
unfolding made
made_fine p names texts class there =
    found_fine p kinds.UnknownClass (class_of names.classes class) (λ n. if built_in.has_objects n then Ok (instr.New n) else Err kinds.OutOfProfile)
    (λ n found. if_line p (built_in.has_objects n) (Ok (instr.New n)) (Err kinds.OutOfProfile)
    (λ h. joined (is_class (declarations_of p) n) (not (n == 2 || n == 3 || n == 4)) (there.class_there class n found) (has_values n h)) tt)

-- a text constant
texted_fine : (p : PlainProgram) (names : Names) (texts : Rows) (text : List ℕ) → Numbers p names texts → FineLine p (texted texts text)
unfolding texted
texted_fine p names texts text there =
    if_line p (nat_lt 200 (length text)) (Err kinds.TooMany) (or_fault kinds.OutOfProfile (value_of text texts) >>= λ n. Ok (instr.PushText n)) (λ h. tt)
    (found_fine p kinds.OutOfProfile (value_of text texts) (λ n. Ok (instr.PushText n)) (λ n found. joined (nat_lt n (length p.texts)) true (there.text_there text n found) refl))

-- instructions with a number
numbered_fine : (p : PlainProgram) (word : List ℕ) (n : ℤ) → FineLine p (numbered word n)
numbered_fine p word n = by (bytes_eq word (codes "ldc")) (bytes_eq word (codes "iload")) (bytes_eq word (codes "istore")) (bytes_eq word (codes "aload")) (bytes_eq word (codes "astore"))
  where
    by : (a b c d e : Bool)
        → FineLine p (if a then Ok (instr.Push n) else if b then Ok (instr.Iload (unsigned_abs n)) else if c then Ok (instr.Istore (unsigned_abs n)) else if d then Ok (instr.Aload (unsigned_abs n)) else if e then Ok (instr.Astore (unsigned_abs n)) else Err kinds.OutOfProfile)
    by true b c d e = refl
    by false true c d e = refl
    by false false true d e = refl
    by false false false true e = refl
    by false false false false true = refl
    by false false false false false = tt

-- instructions with a word
worded_fine : (p : PlainProgram) (names : Names) (thread_run : ℕ) (texts labels : Rows) (word x : List ℕ) → Numbers p names texts → FineLine p (worded names thread_run labels word x)
worded_fine p names thread_run texts labels word x there =
    if_line p (bytes_eq word (codes "new")) (made names x) (if bytes_eq word (codes "newarray") then Ok instr.NewArray else if is_call word then call names thread_run word x else jumped labels word x) (λ h. made_fine p names texts x there)
    (if_line p (bytes_eq word (codes "newarray")) (Ok instr.NewArray) (if is_call word then call names thread_run word x else jumped labels word x) (λ h. refl)
    (if_line p (is_call word) (call names thread_run word x) (jumped labels word x) (λ h. call_fine p names thread_run word x there.run) (jumped_fine p labels word x)))

-- a line by its operands
operands_fine : (p : PlainProgram) (names : Names) (thread_run : ℕ) (texts labels : Rows) (word : List ℕ) (operands : List Operand) → Numbers p names texts → FineLine p (linked_by names thread_run texts labels word operands)
operands_fine p names thread_run texts labels word [] there = fault_fine p kinds.OutOfProfile (row_of word alone) (row_fine p word alone (alone_fine p))
operands_fine p names thread_run texts labels word (operand.Number n ∷ []) there = numbered_fine p word n
operands_fine p names thread_run texts labels word (operand.Text text ∷ []) there = texted_fine p names texts text there
operands_fine p names thread_run texts labels word (operand.Word x ∷ []) there = worded_fine p names thread_run texts labels word x there
operands_fine p names thread_run texts labels word (operand.Number n ∷ operand.Number by ∷ []) there = refl
operands_fine p names thread_run texts labels word (operand.Word x ∷ operand.Word desc ∷ []) there = field_fine p names word x desc
operands_fine p names thread_run texts labels word _ there = tt

-- ---- code

-- the instruction of a line, if it has one
kept_fine : (p : PlainProgram) (r : Result Instr LinkKind) → FineLine p r → AllByRecursion (λ (i : Instr). is_right p i ≡ true) (kept r)
kept_fine p (Ok i) h = (h, tt)
kept_fine p (Err kind) h = tt

-- all code that linking gives is right
code_fine : (p : PlainProgram) (names : Names) (thread_run : ℕ) (texts labels : Rows) (lines : List PlainLineText) → Numbers p names texts → AllByRecursion (λ (i : Instr). is_right p i ≡ true) (code_of names thread_run texts labels lines)
unfolding code_of
code_fine p names thread_run texts labels [] there = tt
code_fine p names thread_run texts labels (l ∷ ls) there =
    all_both (λ (i : Instr). is_right p i ≡ true) (kept (linked names thread_run texts labels l)) (code_of names thread_run texts labels ls)
    (kept_fine p (linked names thread_run texts labels l) (operands_fine p names thread_run texts labels l.word l.operands there)) (code_fine p names thread_run texts labels ls there)

-- so it is allowed
pub code_linked : (p : PlainProgram) (names : Names) (thread_run : ℕ) (texts labels : Rows) (lines : List PlainLineText) → Numbers p names texts → AllByRecursion (λ (i : Instr). IsTrue (is_linked_instr p i)) (code_of names thread_run texts labels lines)
code_linked p names thread_run texts labels lines there =
    weaker (λ (i : Instr). is_right p i ≡ true) (λ (i : Instr). IsTrue (is_linked_instr p i)) (code_of names thread_run texts labels lines) (λ i h. (both (names_what_is_there p i) (is_linked_instr p i) h).1)
    (code_fine p names thread_run texts labels lines there)

-- and names what is there
pub code_there : (p : PlainProgram) (names : Names) (thread_run : ℕ) (texts labels : Rows) (lines : List PlainLineText) → Numbers p names texts → AllByRecursion (λ (i : Instr). IsTrue (names_what_is_there p i)) (code_of names thread_run texts labels lines)
code_there p names thread_run texts labels lines there =
    weaker (λ (i : Instr). is_right p i ≡ true) (λ (i : Instr). IsTrue (names_what_is_there p i)) (code_of names thread_run texts labels lines) (λ i h. (both (names_what_is_there p i) (is_linked_instr p i) h).0)
    (code_fine p names thread_run texts labels lines there)
