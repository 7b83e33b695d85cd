-- How classes and methods are named in printed texts.
use Rattle.std.specs.Prelude.{ℕ, if◌then◌else◌, nat_le, List, [], ◌++◌, Option, Some, None, codes}
use Rattle.std.specs.List.{flat_map}
use Rattle.vm_model.specs.declared.limits.TheConstants.{FIRST_USER_CLASS}
use Rattle.vm_model.specs.declared.value.Kind.{Kind}
use Rattle.vm_model.specs.declared.value.Kind.TheVariants as kind
use Rattle.vm_model.specs.declared.program.StaticSlot.{StaticSlot}
use Rattle.vm_model.specs.Program.{PlainClass, PlainMethod, PlainProgram, class_at, method_at, static_at}
use Rattle.built_in_classes.specs.Classes.{built_in_name}

abbrev pub user_name : Option PlainClass → List ℕ
user_name None = []
user_name (Some class) = class.name

-- the name of a class of the program
abbrev pub class_name : PlainProgram → ℕ → List ℕ
class_name p class = if nat_le FIRST_USER_CLASS class then user_name (class_at p class) else built_in_name class

-- a descriptor (JVMS SE 8 §4.3)
abbrev pub descriptor : PlainProgram → Kind → List ℕ
descriptor p kind.Int = codes "I"
descriptor p kind.Null = codes "Ljava/lang/Object;"
descriptor p (kind.Ref class) = codes "L" ++ class_name p class ++ codes ";"
descriptor p kind.Arr = codes "[I"
descriptor p kind.Args = codes "[Ljava/lang/String;"

abbrev pub return_descriptor : PlainProgram → Option Kind → List ℕ
return_descriptor p None = codes "V"
return_descriptor p (Some k) = descriptor p k

abbrev pub name_of_method : PlainProgram → Option PlainMethod → List ℕ
name_of_method p None = []
name_of_method p (Some m) =
    class_name p m.class ++ codes "/" ++ m.name ++ codes "(" ++ flat_map (descriptor p) m.params ++ codes ")" ++ return_descriptor p m.gives

-- a method of the program, as CLASS/NAME with its descriptor
abbrev pub method_name : PlainProgram → ℕ → List ℕ
method_name p method = name_of_method p (method_at p method)

abbrev pub name_of_slot : PlainProgram → Option StaticSlot → List ℕ
name_of_slot p None = []
name_of_slot p (Some slot) = class_name p slot.class ++ codes "/" ++ slot.name

-- a static of the program, as CLASS/NAME
abbrev pub static_name : PlainProgram → ℕ → List ℕ
static_name p slot = name_of_slot p (static_at p slot)
