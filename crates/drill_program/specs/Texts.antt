-- The text of the drill: a program of so many workers that each add 1 to a static a thousand times, under the lock of its class.
use Rattle.std.specs.Prelude.{ℕ, ◌+◌, List, ◌++◌, codes, decimal}
use Rattle.std.specs.List.{flat_map, range_with_len}

-- a word and a number on a line
unfoldable pub numbered : List ℕ → ℕ → List ℕ
numbered word n = word ++ codes " " ++ decimal n ++ codes "\n"

-- the class, its static and its constructor
unfoldable pub class_text : List ℕ
class_text =
    codes ".class public Drill\n.super java/lang/Thread\n.field static n I\n.method public <init>()V\n.limit stack 1\n.limit locals 1\naload_0\ninvokespecial java/lang/Thread/<init>()V\nreturn\n.end method\n"

-- the method that adds 1 under the lock
unfoldable pub add_text : List ℕ
add_text = codes ".method static synchronized add()V\n.limit stack 2\n.limit locals 0\ngetstatic Drill/n I\niconst_1\niadd\nputstatic Drill/n I\nreturn\n.end method\n"

-- what each worker does
unfoldable pub run_text : List ℕ
run_text =
    codes ".method public run()V\n.limit stack 2\n.limit locals 2\niconst_0\nistore_1\nLoop:\niload_1\nsipush 1000\nif_icmpge Out\ninvokestatic Drill/add()V\niinc 1 1\ngoto Loop\nOut:\nreturn\n.end method\n"

unfoldable pub main_text : List ℕ
main_text = codes ".method public static main([Ljava/lang/String;)V\n.limit stack 2\n"

unfoldable pub new_text : List ℕ
new_text = codes "new Drill\ndup\ninvokespecial Drill/<init>()V\n"

-- a worker is made and kept in this local
unfoldable pub made_text : ℕ → List ℕ
made_text local = new_text ++ numbered (codes "astore") local

unfoldable pub started_text : ℕ → List ℕ
started_text local = numbered (codes "aload") local ++ codes "invokevirtual Drill/start()V\n"

unfoldable pub joined_text : ℕ → List ℕ
joined_text local = numbered (codes "aload") local ++ codes "invokevirtual Drill/join()V\n"

unfoldable pub end_text : List ℕ
end_text = codes "getstatic java/lang/System/out Ljava/io/PrintStream;\ngetstatic Drill/n I\ninvokevirtual java/io/PrintStream/println(I)V\nreturn\n.end method\n"

-- the lines of each worker, in order
abbrev pub of_workers : (ℕ → List ℕ) → ℕ → List ℕ
of_workers line workers = flat_map (λ i. line (1 + i)) (range_with_len 0 workers)

-- what stands before the lines that depend on the number of workers
unfoldable pub head_text : List ℕ
head_text = class_text ++ add_text ++ run_text ++ main_text

-- all workers are made, then all are started, then all are joined
unfoldable pub body_text : ℕ → List ℕ
body_text workers = of_workers made_text workers ++ of_workers started_text workers ++ of_workers joined_text workers

-- and then the static is printed
unfoldable pub drill_text : ℕ → List ℕ
drill_text workers = head_text ++ numbered (codes ".limit locals") (workers + 1) ++ body_text workers ++ end_text
