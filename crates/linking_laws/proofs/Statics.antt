-- Statics begin with a value of their kind.
use Rattle.std.proofs.Common.{◌≡◌, ℕ, Bool, true, false, List, [], ◌∷◌, Option, refl}
use Rattle.std.specs.Prelude.{ℤ, IsTrue, if◌then◌else◌}
use Rattle.std.specs.List.{AllByRecursion}
use Rattle.vm_model.specs.declared.program.StaticSlot.{StaticSlot}
use Rattle.vm_model.specs.declared.value.Kind.{Kind}
use Rattle.vm_model.specs.declared.value.Kind.TheVariants as kind
use Rattle.vm_model.specs.Program.{PlainProgram}
use Rattle.jasmin_lines.specs.Plain.{PlainClassText, PlainFieldText}
use Rattle.name_resolver.specs.declared.names.Names.{Names}
use Rattle.name_resolver.specs.Names.{next, is_static}
use Rattle.class_linker.specs.Programs.{field_kind, start_of, static_slot, slots_in, slots_of}
use Rattle.shape_laws.specs.Fitting.{is_of}
use Rattle.shape_laws.proofs.Tests.{all_both}

-- what a static holds at the start is of its kind
start_fits : (p : PlainProgram) (k : Kind) (start : Option ℤ) → is_of p (start_of k start) k ≡ true
start_fits p kind.Int start = refl
start_fits p kind.Null start = refl
start_fits p (kind.Ref class) start = refl
start_fits p kind.Arr start = refl
start_fits p kind.Args start = refl

-- each of these statics begins so
abbrev pub Fits : PlainProgram → List StaticSlot → Type 0
Fits p slots = AllByRecursion (λ (s : StaticSlot). IsTrue (is_of p s.start s.kind)) slots

-- the statics of a class
slots_fit : (p : PlainProgram) (names : Names) (class : ℕ) (fs : List PlainFieldText) → Fits p (slots_in names class fs)
unfolding slots_in
slots_fit p names class [] = tt
slots_fit p names class (f ∷ fs) = by (is_static f.flags) (slots_fit p names class fs)
  where
    by : (b : Bool) → Fits p (slots_in names class fs) → Fits p (if b then static_slot names class f ∷ slots_in names class fs else slots_in names class fs)
    by true h = (start_fits p (field_kind names f) f.value, h)
    by false h = h

-- the statics of all classes
pub statics_fit : (p : PlainProgram) (names : Names) (n : ℕ) (cs : List PlainClassText) → Fits p (slots_of names n cs)
unfolding slots_of
statics_fit p names n [] = tt
statics_fit p names n (c ∷ cs) = all_both (λ (s : StaticSlot). IsTrue (is_of p s.start s.kind)) (slots_in names n c.fields) (slots_of names (next n) cs) (slots_fit p names n c.fields) (statics_fit p names (next n) cs)
