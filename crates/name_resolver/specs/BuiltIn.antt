-- The members of the built-in classes.
use Rattle.std.specs.Prelude.{ℕ, Bool, true, false, not, ◌&&◌, ◌||◌, if◌then◌else◌, ◌==◌, nat_le, List, [], ◌∷◌, codes, bytes_eq, Option, Some, None}
use Rattle.vm_model.specs.declared.instr.Instr.{Instr}
use Rattle.vm_model.specs.declared.instr.Instr.TheVariants as instr
use Rattle.built_in_classes.specs.declared.numbers.TheConstants.{PRINT_STREAM, STRING, THREAD}
use Rattle.built_in_classes.specs.Classes.{has_constructor, has_text_constructor}

-- classes whose objects have a lock: all but String and PrintStream
abbrev pub has_lock : ℕ → Bool
has_lock class = not (class == STRING || class == PRINT_STREAM)

-- ---- members, by their name with its descriptor

-- of every class with a lock (class library, `Object`)
abbrev pub lock_member : List ℕ → Option Instr
lock_member m =
    if bytes_eq m (codes "wait()V") then Some instr.Wait else
    if bytes_eq m (codes "notify()V") then Some instr.Notify else
    if bytes_eq m (codes "notifyAll()V") then Some instr.NotifyAll else None

-- of Thread and the classes that extend it (class library, `Thread`)
abbrev pub thread_member : List ℕ → Option Instr
thread_member m =
    if bytes_eq m (codes "start()V") then Some instr.Start else
    if bytes_eq m (codes "join()V") then Some instr.Join else None

-- of PrintStream
abbrev pub stream_member : List ℕ → Option Instr
stream_member m =
    if bytes_eq m (codes "println()V") then Some instr.Println else
    if bytes_eq m (codes "println(I)V") then Some (instr.PrintInt true) else
    if bytes_eq m (codes "println(Ljava/lang/String;)V") then Some (instr.PrintText true) else
    if bytes_eq m (codes "print(I)V") then Some (instr.PrintInt false) else
    if bytes_eq m (codes "print(Ljava/lang/String;)V") then Some (instr.PrintText false) else None

-- constructors by their name with its descriptor; Thread has one more, that takes a Runnable
abbrev pub constructor : ℕ → List ℕ → Option Instr
constructor class m =
    if bytes_eq m (codes "<init>()V") && has_constructor class then Some (instr.Init class false) else
    if bytes_eq m (codes "<init>(Ljava/lang/Runnable;)V") && class == THREAD then Some instr.InitRunnable else
    if bytes_eq m (codes "<init>(Ljava/lang/String;)V") && has_text_constructor class then Some (instr.Init class true) else None

-- what may not be declared, since the built-in ones must be the only ones
abbrev pub is_reserved : List ℕ → Bool
is_reserved m =
    bytes_eq m (codes "start()V") || bytes_eq m (codes "join()V") || bytes_eq m (codes "wait()V") || bytes_eq m (codes "notify()V")
    || bytes_eq m (codes "notifyAll()V") || bytes_eq m (codes "yield()V")

-- a member that isn't static and no constructor, of a class that is one of threads or not
abbrev pub first_some : Option Instr → Option Instr → Option Instr
first_some None rest = rest
first_some (Some i) rest = Some i

abbrev pub of_lock : ℕ → List ℕ → Option Instr
of_lock class m = if has_lock class then lock_member m else None

abbrev pub of_thread : Bool → List ℕ → Option Instr
of_thread is_thread m = if is_thread then thread_member m else None

abbrev pub of_stream : ℕ → List ℕ → Option Instr
of_stream class m = if class == PRINT_STREAM then stream_member m else None

abbrev pub instance_member : ℕ → Bool → List ℕ → Option Instr
instance_member class is_thread m = first_some (of_lock class m) (first_some (of_thread is_thread m) (of_stream class m))
