-- A number that is read is the number that was written, and what was written is read again.
use Rattle.std.proofs.Common.{◌≡◌, ℕ, suc, ◌+◌, ◌-◌, ◌*◌, ◌/◌, ◌%◌, ◌<◌, ◌≤◌, Bool, true, false, cond, eqb, ltb, ◌||◌, List, [], ◌∷◌, ◌++◌, length, get_or, Result, Ok, Err, refl, sym, ap, subst, ◌∙◌, append_assoc, ◌⊎◌, inl, inr, arith}
use Rattle.std.proofs.lemmas.Bool.{cases_lt, lt-ltb, le-ltb, ltb-true, ltb-false, eqb-false, ne_eqb}
use Rattle.vm_model.specs.Failures.{◌>>=◌}
use Rattle.schedule_log.specs.declared.fault.LogKind.{LogKind}
use Rattle.schedule_log.specs.declared.fault.LogKind.TheVariants.{Limit, LongSpelling}
use Rattle.schedule_log.specs.declared.fault.Refusal.{Refusal}
use Rattle.schedule_log.specs.Spelling.{leb128}
use Rattle.schedule_log.specs.Reading.{groups_at, in_range, number_at}
use Rattle.schedule_log.proofs.Numbers.{number_small, number_more}

abbrev pub IsBytes : List ℕ → Type 0
IsBytes bytes = (i : ℕ) → get_or bytes i 0 < 256

pub IsBytes-rest : (b : ℕ) (bytes : List ℕ) → IsBytes (b ∷ bytes) → IsBytes bytes
IsBytes-rest b bytes h i = h (suc i)

-- the value of a step that did not fail
pub bind_ok : {E A B : Type 0} (r : Result A E) (f : A → Result B E) (y : B) → (r >>= f) ≡ Ok y → (x : A) × (r ≡ Ok x) × (f x ≡ Ok y)
bind_ok (Ok x) f y e = (x, refl, e)
bind_ok (Err d) f y e = absurd cc

-- which way a test went
pub chosen : {A : Type 0} (b : Bool) (x y z : A) → cond b x y ≡ z → ((b ≡ true) × (x ≡ z)) ⊎ ((b ≡ false) × (y ≡ z))
chosen true x y z e = inl (refl, e)
chosen false x y z e = inr (refl, e)

-- a test whose failure is an error
pub passed : {E A : Type 0} (b : Bool) (d : E) (r : Result A E) (y : A) → cond b (Err d) r ≡ Ok y → (b ≡ false) × (r ≡ Ok y)
passed true d r y e = absurd cc
passed false d r y e = (refl, e)

abbrev pub done : {E A : Type 0} → A → Result A E
done x = Ok x

pub ok_is : {E A : Type 0} (x y : A) → done {E = E} x ≡ done y → x ≡ y
ok_is x y e = cc

-- what a reader took from the front
pub record Takes (bytes text rest : List ℕ) : Type 0 where
  pub parts : bytes ≡ text ++ rest
  pub rest_fits : IsBytes rest

pub Takes-then : (a x b y c : List ℕ) → Takes a x b → Takes b y c → Takes a (x ++ y) c
Takes-then a x b y c p q = record { parts = p.parts ∙ ap (λ (t : List ℕ). x ++ t) q.parts ∙ sym (append_assoc x y c); rest_fits = q.rest_fits }

-- ---- groups

pub groups_take : (more : ℕ) (bytes : List ℕ) (x : ℕ × List ℕ) → IsBytes bytes → groups_at more bytes ≡ Ok x → Takes bytes (leb128 x.0) x.1
unfolding groups_at
groups_take more [] x fits e = absurd cc
groups_take more (b ∷ bytes) x fits e =
    elim (chosen (ltb b 128) (Ok (b, bytes)) _ (Ok x) e) [
      | inl h ↦ subst (λ (y : ℕ × List ℕ). Takes (b ∷ bytes) (leb128 y.0) y.1) (ok_is {E = LogKind} (b, bytes) x h.1) (record { parts = ap (λ (t : List ℕ). t ++ bytes) (sym (number_small b (ltb-true _ _ h.0))); rest_fits = IsBytes-rest b bytes fits })
      | inr h ↦
          let deeper = passed (eqb more 0) Limit (groups_at (more - 1) bytes >>= λ g. cond (eqb g.0 0) (Err LongSpelling) (Ok (b - 128 + 128 * g.0, g.1))) x h.1 in
          let g = bind_ok (groups_at (more - 1) bytes) (λ g. cond (eqb g.0 0) (Err LongSpelling) (Ok (b - 128 + 128 * g.0, g.1))) x deeper.1 in
          let last = passed (eqb g.0.0 0) LongSpelling (Ok (b - 128 + 128 * g.0.0, g.0.1)) x g.2 in
          let behind = groups_take (more - 1) bytes g.0 (IsBytes-rest b bytes fits) g.1 in
          let big : 128 ≤ b = ltb-false _ _ h.0 in
          let small : b < 256 = fits 0 in
          let some : g.0.0 ≡ 0 → ⊥ = eqb-false _ _ last.0 in
          let n = b - 128 + 128 * g.0.0 in
          let low : n % 128 + 128 ≡ b = omega arith in
          let high : n / 128 ≡ g.0.0 = omega arith in
          let spelled : leb128 n ≡ b ∷ leb128 g.0.0 = number_more n (omega arith) ∙ ap (λ (k : ℕ). k ∷ leb128 (n / 128)) low ∙ ap (λ (k : ℕ). b ∷ leb128 k) high in
          subst (λ (y : ℕ × List ℕ). Takes (b ∷ bytes) (leb128 y.0) y.1) (ok_is {E = LogKind} (n, g.0.1) x last.1) (record { parts = ap (λ (t : List ℕ). b ∷ t) behind.parts ∙ ap (λ (t : List ℕ). t ++ g.0.1) (sym spelled); rest_fits = behind.rest_fits })
    ]

groups_small_again : (more n : ℕ) (rest : List ℕ) → n < 128 → groups_at more (leb128 n ++ rest) ≡ Ok (n, rest)
unfolding groups_at
groups_small_again more n rest lt = rw (number_small n lt, lt-ltb n 128 lt) refl

groups_step_again : (more n : ℕ) (rest : List ℕ) → 128 ≤ n → groups_at more (leb128 (n / 128) ++ rest) ≡ Ok (n / 128, rest) → groups_at (more + 1) (leb128 n ++ rest) ≡ Ok (n, rest)
unfolding groups_at
groups_step_again more n rest ge h =
    let big : ltb (n % 128 + 128) 128 ≡ false = le-ltb _ _ (omega arith) in
    let not_last : eqb (more + 1) 0 ≡ false = ne_eqb _ _ (λ e. omega arith) in
    let one_less : more + 1 - 1 ≡ more = omega arith in
    let some : eqb (n / 128) 0 ≡ false = ne_eqb _ _ (λ e. omega arith) in
    let value : n % 128 + 128 - 128 + 128 * (n / 128) ≡ n = omega arith in
    rw (number_more n ge, big, not_last, one_less, h, some, value) refl

pub groups_again : (n : ℕ) (rest : List ℕ) → n ≤ 1048576 → groups_at 4 (leb128 n ++ rest) ≡ Ok (n, rest)
groups_again n rest le =
    elim (cases_lt n 128) [
      | inl lt ↦ groups_small_again 4 n rest lt
      | inr ge ↦ groups_step_again 3 n rest ge (
          elim (cases_lt (n / 128) 128) [
            | inl lt ↦ groups_small_again 3 (n / 128) rest lt
            | inr ge2 ↦ groups_step_again 2 (n / 128) rest ge2 (groups_small_again 2 (n / 128 / 128) rest (omega arith))
          ])
    ]

-- ---- numbers in a range

or_false : (a b : Bool) → (a || b) ≡ false → (a ≡ false) × (b ≡ false)
or_false true b e = absurd cc
or_false false b e = (refl, e)

in_range_ok : (low high : ℕ) (bytes : List ℕ) (r : Result (ℕ × List ℕ) LogKind) (x : ℕ × List ℕ) → in_range low high bytes r ≡ Ok x → (r ≡ Ok x) × (low ≤ x.0) × (x.0 ≤ high)
in_range_ok low high bytes (Err kind) x e = absurd cc
in_range_ok low high bytes (Ok g) x e =
    let p = passed (ltb g.0 low || ltb high g.0) (record { kind = Limit; left = length bytes }) (Ok g) x e in
    let q = or_false (ltb g.0 low) (ltb high g.0) p.0 in
    let is : g ≡ x = ok_is {E = Refusal} g x p.1 in
    (ap (λ (y : ℕ × List ℕ). Ok y) is, rw (← is) (ltb-false _ _ q.0), rw (← is) (ltb-false _ _ q.1))

pub number_takes : (low high : ℕ) (bytes : List ℕ) (x : ℕ × List ℕ) → IsBytes bytes → number_at low high bytes ≡ Ok x → Takes bytes (leb128 x.0) x.1 × (low ≤ x.0) × (x.0 ≤ high)
unfolding number_at
number_takes low high bytes x fits e =
    let r = in_range_ok low high bytes (groups_at 4 bytes) x e in
    (groups_take 4 bytes x fits r.0, r.1, r.2)

pub number_again : (low high n : ℕ) (rest : List ℕ) → low ≤ n → n ≤ high → n ≤ 1048576 → number_at low high (leb128 n ++ rest) ≡ Ok (n, rest)
unfolding number_at
number_again low high n rest lo hi le = rw (groups_again n rest le, le-ltb n low lo, le-ltb high n hi) refl
