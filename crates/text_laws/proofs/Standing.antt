-- What the code keeps of the lines before a line says what stands before it.
use Rattle.std.proofs.Common.{◌≡◌, ℕ, Bool, true, false, not, ◌&&◌, ◌||◌, List, [], ◌∷◌, ◌++◌, refl, ap, sym, ◌∙◌, inl, inr}
use Rattle.std.specs.Prelude.{Contains, bytes_eq}
use Rattle.std.specs.List.{list_any}
use Rattle.jasmin_lines.specs.declared.form.Form.{Form}
use Rattle.jasmin_lines.specs.declared.form.Form.TheVariants as form
use Rattle.jasmin_reader.specs.Grammar.{PlainState, next_state, lacks_super, has_label}
use Rattle.text_laws.specs.LineRules.{is_class, is_super, is_method, is_stack_limit, is_locals_limit, ends_method, begins_anew, sets, Stands, IsMethodOpen, IsSuperToCome, state_after}
use Rattle.text_laws.proofs.FaultTests.{any-found, any-there}
use Rattle.text_laws.proofs.Tests.{and-first, and-second, or-right, not-true}

-- ---- a test of what stands

abbrev stands : (Form → Bool) → (Form → Bool) → List Form → Bool
stands begins ends [] = false
stands begins ends (f ∷ earlier) = begins f || (not (ends f) && stands begins ends earlier)

stands-so : (begins ends : Form → Bool) (before : List Form) → stands begins ends before ≡ true → Stands begins ends before
stands-so begins ends [] h = absurd (cc)
stands-so begins ends (f ∷ earlier) h = by_first (stands-so begins ends earlier) (begins f) refl h
  where
    by_first : (stands begins ends earlier ≡ true → Stands begins ends earlier) → (c : Bool) → begins f ≡ c → (c || (not (ends f) && stands begins ends earlier)) ≡ true → Stands begins ends (f ∷ earlier)
    by_first again true e h' = inl e
    by_first again false e h' = inr (not-true (ends f) (and-first (not (ends f)) (stands begins ends earlier) h'), again (and-second (not (ends f)) (stands begins ends earlier) h'))

so-stands : (begins ends : Form → Bool) (before : List Form) → Stands begins ends before → stands begins ends before ≡ true
so-stands begins ends [] h = absurd h
so-stands begins ends (f ∷ earlier) (inl h) = rw h refl
so-stands begins ends (f ∷ earlier) (inr h) = or-right (begins f) (not (ends f) && stands begins ends earlier) (rw (h.0, so-stands begins ends earlier h.1) refl)

never : (begins ends : Form → Bool) (before : List Form) → stands begins ends before ≡ false → Stands begins ends before → ⊥
never begins ends before h s = let there : stands begins ends before ≡ true = so-stands begins ends before s in absurd (cc)

none-stands : (begins ends : Form → Bool) (before : List Form) → (Stands begins ends before → ⊥) → stands begins ends before ≡ false
none-stands begins ends before h = by_test (stands begins ends before) refl
  where
    by_test : (c : Bool) → stands begins ends before ≡ c → stands begins ends before ≡ false
    by_test true e = absurd (h (stands-so begins ends before e))
    by_test false e = e

-- ---- each field of the state

class-step : (f : Form) (s : PlainState) (r : Bool) → s.has_class ≡ r → (next_state f s).has_class ≡ (is_class f || (not false && r))
class-step (form.Class c) s r e = refl
class-step f s r e = e

super-step : (f : Form) (s : PlainState) (r : Bool) → s.has_super ≡ r → (next_state f s).has_super ≡ (is_super f || (not (is_class f) && r))
super-step (form.Class c) s r e = refl
super-step (form.Super x) s r e = refl
super-step f s r e = e

inside-step : (f : Form) (s : PlainState) (r : Bool) → s.is_inside ≡ r → (next_state f s).is_inside ≡ (is_method f || (not (ends_method f) && r))
inside-step (form.Class c) s r e = refl
inside-step (form.Method m) s r e = refl
inside-step form.End s r e = refl
inside-step f s r e = e

stack-step : (f : Form) (s : PlainState) (r : Bool) → s.has_stack ≡ r → (next_state f s).has_stack ≡ (is_stack_limit f || (not (begins_anew f) && r))
stack-step (form.Class c) s r e = refl
stack-step (form.Method m) s r e = refl
stack-step (form.StackLimit n) s r e = refl
stack-step f s r e = e

locals-step : (f : Form) (s : PlainState) (r : Bool) → s.has_locals ≡ r → (next_state f s).has_locals ≡ (is_locals_limit f || (not (begins_anew f) && r))
locals-step (form.Class c) s r e = refl
locals-step (form.Method m) s r e = refl
locals-step (form.LocalsLimit n) s r e = refl
locals-step f s r e = e

any-both : (p : List ℕ → Bool) (xs ys : List (List ℕ)) (r : Bool) → list_any p xs ≡ r → list_any p (xs ++ ys) ≡ (list_any p ys || r)
any-both p [] ys r e = sym (ap (λ (b : Bool). list_any p ys || b) (sym e) ∙ or-none (list_any p ys))
  where
    or-none : (b : Bool) → (b || false) ≡ b
    or-none true = refl
    or-none false = refl
any-both p (x ∷ xs) ys r e = ap (λ (b : Bool). p x || b) (any-both p xs ys (list_any p xs) refl) ∙ turn (p x) (list_any p ys) (list_any p xs) ∙ ap (λ (b : Bool). list_any p ys || b) e
  where
    turn : (a b c : Bool) → (a || (b || c)) ≡ (b || (a || c))
    turn true true c = refl
    turn true false c = refl
    turn false b c = refl

label-step : (label : List ℕ) (f : Form) (s : PlainState) (r : Bool) → list_any (bytes_eq label) s.labels ≡ r → list_any (bytes_eq label) (next_state f s).labels ≡ (sets label f || (not (begins_anew f) && r))
label-step label (form.Class c) s r e = refl
label-step label (form.Method m) s r e = refl
label-step label (form.Label l) s r e = any-both (bytes_eq label) s.labels (l ∷ []) r e
label-step label (form.Code l) s r e = any-both (bytes_eq label) s.labels l.labels r e
label-step label f s r e = e

pub class-kept : (before : List Form) → (state_after before).has_class ≡ stands is_class (λ _. false) before
class-kept [] = refl
class-kept (f ∷ earlier) = class-step f (state_after earlier) (stands is_class (λ _. false) earlier) (class-kept earlier)

pub super-kept : (before : List Form) → (state_after before).has_super ≡ stands is_super is_class before
super-kept [] = refl
super-kept (f ∷ earlier) = super-step f (state_after earlier) (stands is_super is_class earlier) (super-kept earlier)

pub inside-kept : (before : List Form) → (state_after before).is_inside ≡ stands is_method ends_method before
inside-kept [] = refl
inside-kept (f ∷ earlier) = inside-step f (state_after earlier) (stands is_method ends_method earlier) (inside-kept earlier)

pub stack-kept : (before : List Form) → (state_after before).has_stack ≡ stands is_stack_limit begins_anew before
stack-kept [] = refl
stack-kept (f ∷ earlier) = stack-step f (state_after earlier) (stands is_stack_limit begins_anew earlier) (stack-kept earlier)

pub locals-kept : (before : List Form) → (state_after before).has_locals ≡ stands is_locals_limit begins_anew before
locals-kept [] = refl
locals-kept (f ∷ earlier) = locals-step f (state_after earlier) (stands is_locals_limit begins_anew earlier) (locals-kept earlier)

label-kept : (label : List ℕ) (before : List Form) → list_any (bytes_eq label) (state_after before).labels ≡ stands (sets label) begins_anew before
label-kept label [] = refl
label-kept label (f ∷ earlier) = label-step label f (state_after earlier) (stands (sets label) begins_anew earlier) (label-kept label earlier)

-- ---- what is kept, and what stands

pub so : (begins ends : Form → Bool) (before : List Form) (b : Bool) → b ≡ stands begins ends before → b ≡ true → Stands begins ends before
so begins ends before b k e = stands-so begins ends before (sym k ∙ e)

pub so-not : (begins ends : Form → Bool) (before : List Form) (b : Bool) → b ≡ stands begins ends before → b ≡ false → Stands begins ends before → ⊥
so-not begins ends before b k e = never begins ends before (sym k ∙ e)

pub is-so : (begins ends : Form → Bool) (before : List Form) (b : Bool) → b ≡ stands begins ends before → Stands begins ends before → b ≡ true
is-so begins ends before b k s = k ∙ so-stands begins ends before s

pub is-not : (begins ends : Form → Bool) (before : List Form) (b : Bool) → b ≡ stands begins ends before → (Stands begins ends before → ⊥) → b ≡ false
is-not begins ends before b k s = k ∙ none-stands begins ends before s

pub method-open : (before : List Form) → (state_after before).is_inside ≡ true → IsMethodOpen before
method-open before e = so is_method ends_method before (state_after before).is_inside (inside-kept before) e

pub no-method : (before : List Form) → (state_after before).is_inside ≡ false → IsMethodOpen before → ⊥
no-method before e = so-not is_method ends_method before (state_after before).is_inside (inside-kept before) e

pub is-inside : (before : List Form) → IsMethodOpen before → (state_after before).is_inside ≡ true
is-inside before h = is-so is_method ends_method before (state_after before).is_inside (inside-kept before) h

pub is-outside : (before : List Form) → (IsMethodOpen before → ⊥) → (state_after before).is_inside ≡ false
is-outside before h = is-not is_method ends_method before (state_after before).is_inside (inside-kept before) h

pub to-come : (before : List Form) → lacks_super (state_after before) ≡ true → IsSuperToCome before
to-come before h =
    let s : PlainState = state_after before in (
      so is_class (λ _. false) before s.has_class (class-kept before) (and-first s.has_class (not s.has_super) h),
      so-not is_super is_class before s.has_super (super-kept before) (not-true s.has_super (and-second s.has_class (not s.has_super) h)),
    )

pub lacking : (before : List Form) → IsSuperToCome before → lacks_super (state_after before) ≡ true
lacking before h =
    let s : PlainState = state_after before in
    let begun : s.has_class ≡ true = is-so is_class (λ _. false) before s.has_class (class-kept before) h.0 in
    let unsaid : s.has_super ≡ false = is-not is_super is_class before s.has_super (super-kept before) h.1 in
    rw (begun, unsaid) refl

pub label-shared : (before : List Form) (labels : List (List ℕ)) → has_label (state_after before) labels ≡ true → (label : List ℕ) × Contains labels label × Stands (sets label) begins_anew before
label-shared before labels e =
    let f = any-found (λ (label : List ℕ). list_any (bytes_eq label) (state_after before).labels) labels e in
    (f.0, f.1, stands-so (sets f.0) begins_anew before (sym (label-kept f.0 before) ∙ f.2))

pub shared-label : (before : List Form) (labels : List (List ℕ)) (label : List ℕ) → Contains labels label → Stands (sets label) begins_anew before → has_label (state_after before) labels ≡ true
shared-label before labels label c d =
    any-there (λ (x : List ℕ). list_any (bytes_eq x) (state_after before).labels) labels label c (label-kept label before ∙ so-stands (sets label) begins_anew before d)
