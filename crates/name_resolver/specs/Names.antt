-- The names that classes declare, with their numbers. Each line adds its own; a name that is there keeps its number.
use Rattle.std.specs.Prelude.{ℕ, ◌+◌, Bool, not, ◌&&◌, if◌then◌else◌, ◌==◌, nat_lt, List, [], ◌∷◌, length, codes, bytes_eq, Option, Some, None}
use Rattle.vm_model.specs.declared.limits.TheConstants.{FIRST_USER_CLASS}
use Rattle.jasmin_lines.specs.Plain.{PlainClassText, PlainFieldText, PlainMethodText}
use Rattle.name_resolver.specs.declared.names.Counts.{Counts}
use Rattle.name_resolver.specs.declared.names.Names.{Names}
use Rattle.name_resolver.specs.Index.{Rows, with_row}
use Rattle.name_resolver.specs.Words.{has, method_key, field_word, field_key}

-- Counting ends where no text comes to, far above each limit.
abbrev pub next : ℕ → ℕ
next n = if nat_lt n 2147483647 then n + 1 else n

-- user classes have the numbers after those of the built-in ones
abbrev pub no_counts : Counts
no_counts = record { classes = FIRST_USER_CLASS; statics = 0; methods = 0; fields = 0; places = 0 }

-- an object of a class of threads has its Runnable target at place 0
abbrev pub is_thread : PlainClassText → Bool
is_thread c = bytes_eq c.super_name (codes "java/lang/Thread")

abbrev pub class_begun : PlainClassText → Counts → Counts
class_begun c n = record {
  classes = n.classes;
  statics = n.statics;
  methods = n.methods;
  fields = n.fields;
  places = if is_thread c then 1 else 0;
}

abbrev pub is_static : List (List ℕ) → Bool
is_static flags = has (codes "static") flags

abbrev pub field_counted : PlainFieldText → Counts → Counts
field_counted f n = record {
  classes = n.classes;
  statics = if is_static f.flags then next n.statics else n.statics;
  methods = n.methods;
  fields = next n.fields;
  places = if is_static f.flags then n.places else next n.places;
}

abbrev pub method_counted : Counts → Counts
method_counted n = record {
  classes = n.classes;
  statics = n.statics;
  methods = next n.methods;
  fields = n.fields;
  places = n.places;
}

abbrev pub class_counted : Counts → Counts
class_counted n = record {
  classes = next n.classes;
  statics = n.statics;
  methods = n.methods;
  fields = n.fields;
  places = n.places;
}

-- ---- names

abbrev pub no_names : Names
no_names = record {
  classes = [];
  statics = [];
  places = [];
  fields = [];
  functions = [];
  instance_methods = [];
  methods = [];
  threads = [];
  main = None;
}

-- a class that stands for an interface has no name
abbrev pub is_named : PlainClassText → Bool
is_named c = not (length c.name == 0)

abbrev pub row_if : Bool → List ℕ → ℕ → Rows → Rows
row_if is_wanted key n rows = if is_wanted then with_row key n rows else rows

abbrev pub with_class : PlainClassText → Counts → Names → Names
with_class c n names = record {
  classes = row_if (is_named c) c.name n.classes names.classes;
  statics = names.statics;
  places = names.places;
  fields = names.fields;
  functions = names.functions;
  instance_methods = names.instance_methods;
  methods = names.methods;
  threads = row_if (is_thread c) c.name 1 names.threads;
  main = names.main;
}

abbrev pub with_field : List ℕ → PlainFieldText → Counts → Names → Names
with_field class f n names = record {
  classes = names.classes;
  statics = row_if (is_static f.flags) (field_key (field_word class f.name) f.desc) n.statics names.statics;
  places = row_if (not (is_static f.flags)) (field_key (field_word class f.name) f.desc) n.places names.places;
  fields = with_row (field_word class f.name) n.fields names.fields;
  functions = names.functions;
  instance_methods = names.instance_methods;
  methods = names.methods;
  threads = names.threads;
  main = names.main;
}

-- the method that a program begins with
abbrev pub is_main : PlainMethodText → Bool
is_main m =
    bytes_eq m.name (codes "main") && bytes_eq m.desc (codes "([Ljava/lang/String;)V") && has (codes "public") m.flags && has (codes "static") m.flags

abbrev pub first_main : Option ℕ → Bool → ℕ → Option ℕ
first_main (Some found) is_one n = Some found
first_main None is_one n = if is_one then Some n else None

abbrev pub with_method : List ℕ → PlainMethodText → Counts → Names → Names
with_method class m n names = record {
  classes = names.classes;
  statics = names.statics;
  places = names.places;
  fields = names.fields;
  functions = row_if (is_static m.flags) (method_key class m.name m.desc) n.methods names.functions;
  instance_methods = row_if (not (is_static m.flags)) (method_key class m.name m.desc) n.methods names.instance_methods;
  methods = with_row (method_key class m.name m.desc) n.methods names.methods;
  threads = names.threads;
  main = first_main names.main (is_main m) n.methods;
}

-- ---- whole classes

unfoldable pub with_fields : List ℕ → List PlainFieldText → Counts → Names → Counts × Names
with_fields class [] n names = (n, names)
with_fields class (f ∷ fs) n names = with_fields class fs (field_counted f n) (with_field class f n names)

unfoldable pub with_methods : List ℕ → List PlainMethodText → Counts → Names → Counts × Names
with_methods class [] n names = (n, names)
with_methods class (m ∷ ms) n names = with_methods class ms (method_counted n) (with_method class m n names)

-- a class with its members
abbrev pub with_members : PlainClassText → Counts × Names → Counts × Names
with_members c s = with_methods c.name c.methods s.0 s.1

abbrev pub with_whole : PlainClassText → Counts → Names → Counts × Names
with_whole c n names = with_members c (with_fields c.name c.fields (class_begun c n) (with_class c n names))

abbrev pub counted_if : Bool → Counts → Counts
counted_if is_one n = if is_one then class_counted n else n

unfoldable pub with_classes : List PlainClassText → Counts → Names → Counts × Names
with_classes [] n names = (n, names)
with_classes (c ∷ cs) n names = with_classes cs (counted_if (is_named c) (with_whole c n names).0) (with_whole c n names).1

-- the names of these classes, and how many there are
unfoldable pub names_of : List PlainClassText → Counts × Names
names_of classes = with_classes classes no_counts no_names
