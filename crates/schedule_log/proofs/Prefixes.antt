-- What is read of a front of the bytes: the same as of the whole as far as it reaches, and then a byte is missing.
use Rattle.std.proofs.Common.{◌≡◌, ℕ, zero, suc, ◌+◌, ◌-◌, ◌*◌, ◌<◌, Bool, true, false, cond, eqb, ltb, leb, ◌&&◌, ◌||◌, List, [], ◌∷◌, ◌++◌, length, take, drop, Result, Ok, Err, refl, sym, ap, ◌∙◌, ◌⊎◌, inl, inr, arith}
use Rattle.std.specs.List.{list_any}
use Rattle.std.proofs.lemmas.List.{take-append-drop, length-take, length-drop, length-append}
use Rattle.vm_model.specs.Failures.{◌>>=◌}
use Rattle.schedule_log.specs.declared.interval.Interval.{Interval}
use Rattle.schedule_log.specs.declared.fault.LogKind.TheVariants.{Magic, Version, Short, Limit}
use Rattle.schedule_log.specs.declared.fault.LogKind.{LogKind}
use Rattle.schedule_log.specs.declared.fault.LogFault.TheVariants.{At}
use Rattle.schedule_log.specs.declared.fault.Refusal.{Refusal}
use Rattle.schedule_log.specs.Intervals.{clock_count, shares}
use Rattle.schedule_log.specs.Logs.{PlainLog, IsLawful, put}
use Rattle.schedule_log.specs.Spelling.{spelling}
use Rattle.schedule_log.specs.Reading.{refuse, byte_at, head_at, groups_at, in_range, number_at, interval_at, intervals_at, thread_at, threads_at, has_gap, gapless_at, end_at, nothing_at, tail_at, log_at, with_offset, read_log}
use Rattle.schedule_log.proofs.Fields.{bind_ok, chosen, passed, done, ok_is}
use Rattle.schedule_log.proofs.Spelled.{log_again}

-- A reader that read x and left rest of front ++ back either stands within the front, or finds the front short.
abbrev pub OnFront : {A : Type 0} → Result (A × List ℕ) Refusal → A × List ℕ → List ℕ → Type 0
OnFront {A = A} read x back = (read ≡ refuse Short []) ⊎ ((rest : List ℕ) × (x.1 ≡ rest ++ back) × (read ≡ Ok (x.0, rest)))

front_ok : {A : Type 0} (a : A) (rest back : List ℕ) (z : A × List ℕ) → done {E = Refusal} (a, rest ++ back) ≡ Ok z → OnFront (Ok (a, rest)) z back
front_ok {A = A} a rest back z e =
    let is = ok_is {E = Refusal} (a, rest ++ back) z e in
    inr (rest, sym (ap (λ (y : A × List ℕ). y.1) is), ap (λ (y : A × List ℕ). done {E = Refusal} (y.0, rest)) is)

front_if : {A : Type 0} (b : Bool) (d e : Refusal) (whole part : Result (A × List ℕ) Refusal) (z : A × List ℕ) (back : List ℕ) → (whole ≡ Ok z → OnFront part z back) → cond b (Err d) whole ≡ Ok z → OnFront (cond b (Err e) part) z back
front_if true d e whole part z back h is = absurd cc
front_if false d e whole part z back h is = h is

front_then : {A B : Type 0} (f : List ℕ → Result (A × List ℕ) Refusal) (g h : A → List ℕ → Result (B × List ℕ) Refusal) (front back : List ℕ) (y : B × List ℕ)
    → ((x : A × List ℕ) → f (front ++ back) ≡ Ok x → OnFront (f front) x back)
    → ((a : A) (rest : List ℕ) (z : B × List ℕ) → g a (rest ++ back) ≡ Ok z → OnFront (h a rest) z back)
    → (f (front ++ back) >>= λ x. g x.0 x.1) ≡ Ok y → OnFront (f front >>= λ x. h x.0 x.1) y back
front_then f g h front back y hf hg e =
    let a = bind_ok (f (front ++ back)) (λ x. g x.0 x.1) y e in
    elim (hf a.0 a.1) [
      | inl short ↦ inl (rw short refl)
      | inr here ↦
          let at : g a.0.0 (here.0 ++ back) ≡ Ok y = ap (g a.0.0) (sym here.1) ∙ a.2 in
          elim (hg a.0.0 here.0 y at) [
            | inl short ↦ inl (rw here.2 short)
            | inr there ↦ inr (there.0, there.1, rw here.2 there.2)
          ]
    ]

-- the same where a missing byte is all that the front can come to
short_then : {A B : Type 0} (f : List ℕ → Result (A × List ℕ) Refusal) (g : A → List ℕ → Result B Refusal) (front back : List ℕ) (y : B)
    → ((x : A × List ℕ) → f (front ++ back) ≡ Ok x → OnFront (f front) x back)
    → ((a : A) (rest : List ℕ) → g a (rest ++ back) ≡ Ok y → g a rest ≡ refuse Short [])
    → (f (front ++ back) >>= λ x. g x.0 x.1) ≡ Ok y → (f front >>= λ x. g x.0 x.1) ≡ refuse Short []
short_then f g front back y hf hg e =
    let a = bind_ok (f (front ++ back)) (λ x. g x.0 x.1) y e in
    elim (hf a.0 a.1) [
      | inl short ↦ rw short refl
      | inr here ↦ rw here.2 (hg a.0.0 here.0 (ap (g a.0.0) (sym here.1) ∙ a.2))
    ]

-- ---- numbers

GroupsOnFront : Result (ℕ × List ℕ) LogKind → ℕ × List ℕ → List ℕ → Type 0
GroupsOnFront read x back = (read ≡ Err Short) ⊎ ((rest : List ℕ) × (x.1 ≡ rest ++ back) × (read ≡ Ok (x.0, rest)))

groups_front : (more : ℕ) (front back : List ℕ) (x : ℕ × List ℕ) → groups_at more (front ++ back) ≡ Ok x → GroupsOnFront (groups_at more front) x back
unfolding groups_at GroupsOnFront
groups_front more [] back x e = inl refl
groups_front more (b ∷ front) back x e =
    elim (chosen (ltb b 128) _ _ (Ok x) e) [
      | inl h ↦
          let is = ok_is {E = LogKind} (b, front ++ back) x h.1 in
          inr (front, sym (ap (λ (y : ℕ × List ℕ). y.1) is), rw h.0 (ap (λ (y : ℕ × List ℕ). done {E = LogKind} (y.0, front)) is))
      | inr h ↦
          let deeper = passed (eqb more 0) _ _ x h.1 in
          let g = bind_ok (groups_at (more - 1) (front ++ back)) _ x deeper.1 in
          let last = passed (eqb g.0.0 0) _ _ x g.2 in
          let is = ok_is {E = LogKind} (b - 128 + 128 * g.0.0, g.0.1) x last.1 in
          elim (groups_front (more - 1) front back g.0 g.1) [
            | inl short ↦ inl (rw (h.0, deeper.0, short) refl)
            | inr here ↦ inr (here.0, sym (ap (λ (y : ℕ × List ℕ). y.1) is) ∙ here.1, rw (h.0, deeper.0, here.2, last.0) (ap (λ (y : ℕ × List ℕ). done {E = LogKind} (y.0, here.0)) is))
          ]
    ]

range_short : (low high : ℕ) (bytes : List ℕ) (r : Result (ℕ × List ℕ) LogKind) → r ≡ Err Short → in_range low high bytes r ≡ refuse Short []
range_short low high bytes r e = ap (in_range low high bytes) e

range_front : (low high : ℕ) (front whole back : List ℕ) (r s : Result (ℕ × List ℕ) LogKind) (x : ℕ × List ℕ) → in_range low high whole r ≡ Ok x → ((y : ℕ × List ℕ) → r ≡ Ok y → GroupsOnFront s y back) → OnFront (in_range low high front s) x back
unfolding GroupsOnFront
range_front low high front whole back (Err kind) s x e h = absurd cc
range_front low high front whole back (Ok g) s x e h =
    let p = passed (ltb g.0 low || ltb high g.0) _ (Ok g) x e in
    let is = ok_is {E = Refusal} g x p.1 in
    elim (h g refl) [
      | inl short ↦ inl (range_short low high front s short)
      | inr here ↦
          let read : in_range low high front s ≡ Ok (g.0, here.0) = ap (in_range low high front) here.2 ∙ ap (λ (b : Bool). cond b (refuse Limit front) (done {E = Refusal} (g.0, here.0))) p.0 in
          inr (here.0, ap (λ (y : ℕ × List ℕ). y.1) (sym is) ∙ here.1, read ∙ ap (λ (y : ℕ × List ℕ). done {E = Refusal} (y.0, here.0)) is)
    ]

number_front : (low high : ℕ) (front back : List ℕ) (x : ℕ × List ℕ) → number_at low high (front ++ back) ≡ Ok x → OnFront (number_at low high front) x back
unfolding number_at
number_front low high front back x e = range_front low high front (front ++ back) back (groups_at 4 (front ++ back)) (groups_at 4 front) x e (λ y h. groups_front 4 front back y h)

-- ---- intervals

interval_front : (budget t next : ℕ) (placed : List Interval) (front back : List ℕ) (x : Interval × List ℕ) → interval_at budget t next placed (front ++ back) ≡ Ok x → OnFront (interval_at budget t next placed front) x back
unfolding interval_at
interval_front budget t next placed front back x e =
    front_then (number_at 0 1048576) _ _ front back x (number_front 0 1048576 front back) (λ gap rest z h.
    front_if (ltb 0 next && eqb gap 0) _ _ _ _ z back (λ h1.
    front_then (number_at 0 1048576) _ _ rest back z (number_front 0 1048576 rest back) (λ more rest2 w h2.
    front_if (leb budget (next + gap + more)) _ _ _ _ w back (λ h3.
    front_if (list_any (shares (next + gap) (next + gap + more)) placed) _ _ _ _ w back (λ h4.
    front_ok (let i : Interval = record { thread = t; first = next + gap; last = next + gap + more } in i) rest2 back w h4) h3) h2) h1) h) e

intervals_front : (count budget t next : ℕ) (placed : List Interval) (front back : List ℕ) (x : List Interval × List ℕ) → intervals_at count budget t next placed (front ++ back) ≡ Ok x → OnFront (intervals_at count budget t next placed front) x back
unfolding intervals_at
intervals_front zero budget t next placed front back x e = front_ok placed front back x e
intervals_front (suc count) budget t next placed front back x e =
    front_then (interval_at budget t next placed) (λ i rest. intervals_at count budget t (i.last + 1) (put i placed) rest) (λ i rest. intervals_at count budget t (i.last + 1) (put i placed) rest) front back x
    (interval_front budget t next placed front back) (λ i rest z h. intervals_front count budget t (i.last + 1) (put i placed) rest back z h) e

thread_front : (budget t least : ℕ) (placed : List Interval) (front back : List ℕ) (x : List Interval × List ℕ) → thread_at budget t least placed (front ++ back) ≡ Ok x → OnFront (thread_at budget t least placed front) x back
unfolding thread_at
thread_front budget t least placed front back x e =
    front_then (number_at least 1048576) (λ count rest. intervals_at count budget t 0 placed rest) (λ count rest. intervals_at count budget t 0 placed rest) front back x
    (number_front least 1048576 front back) (λ count rest z h. intervals_front count budget t 0 placed rest back z h) e

threads_front : (more budget t : ℕ) (placed : List Interval) (front back : List ℕ) (x : List Interval × List ℕ) → threads_at more budget t placed (front ++ back) ≡ Ok x → OnFront (threads_at more budget t placed front) x back
unfolding threads_at
threads_front zero budget t placed front back x e = front_ok placed front back x e
threads_front (suc more) budget t placed front back x e =
    front_then (thread_at budget t (cond (eqb more 0) 1 0) placed) (λ after rest. threads_at more budget (t + 1) after rest) (λ after rest. threads_at more budget (t + 1) after rest) front back x
    (thread_front budget t (cond (eqb more 0) 1 0) placed front back) (λ after rest z h. threads_front more budget (t + 1) after rest back z h) e

-- ---- the head

abbrev RestOnFront : Result (List ℕ) Refusal → List ℕ → List ℕ → Type 0
RestOnFront read x back = (read ≡ refuse Short []) ⊎ ((rest : List ℕ) × (x ≡ rest ++ back) × (read ≡ Ok rest))

rest_then : (f g : List ℕ → Result (List ℕ) Refusal) (front back y : List ℕ)
    → ((x : List ℕ) → f (front ++ back) ≡ Ok x → RestOnFront (f front) x back)
    → ((rest z : List ℕ) → g (rest ++ back) ≡ Ok z → RestOnFront (g rest) z back)
    → (f (front ++ back) >>= g) ≡ Ok y → RestOnFront (f front >>= g) y back
rest_then f g front back y hf hg e =
    let a = bind_ok (f (front ++ back)) g y e in
    elim (hf a.0 a.1) [
      | inl short ↦ inl (rw short refl)
      | inr here ↦
          elim (hg here.0 y (ap g (sym here.1) ∙ a.2)) [
            | inl short ↦ inl (rw here.2 short)
            | inr there ↦ inr (there.0, there.1, rw here.2 there.2)
          ]
    ]

byte_front : (kind : LogKind) (wanted : ℕ) (front back x : List ℕ) → byte_at kind wanted (front ++ back) ≡ Ok x → RestOnFront (byte_at kind wanted front) x back
byte_front kind wanted [] back x e = inl refl
byte_front kind wanted (b ∷ front) back x e =
    elim (chosen (eqb b wanted) (Ok (front ++ back)) (refuse kind (b ∷ (front ++ back))) (Ok x) e) [
      | inl h ↦ inr (front, sym (ok_is {E = Refusal} (front ++ back) x h.1), rw h.0 refl)
      | inr h ↦ absurd (let other = h.1 in cc)
    ]

head_front : (front back x : List ℕ) → head_at (front ++ back) ≡ Ok x → RestOnFront (head_at front) x back
unfolding head_at
head_front front back x e =
    rest_then (byte_at Magic 0x44) _ front back x (byte_front Magic 0x44 front back) (λ a z h.
    rest_then (byte_at Magic 0x4A) _ a back z (byte_front Magic 0x4A a back) (λ b y h1.
    rest_then (byte_at Magic 0x56) _ b back y (byte_front Magic 0x56 b back) (λ c w h2.
    rest_then (byte_at Magic 0x4C) (byte_at Version 1) c back w (byte_front Magic 0x4C c back) (λ d v h3. byte_front Version 1 d back v h3) h2) h1) h) e

head_short : {B : Type 0} (f : List ℕ → Result (List ℕ) Refusal) (g : List ℕ → Result B Refusal) (front back : List ℕ) (y : B)
    → ((x : List ℕ) → f (front ++ back) ≡ Ok x → RestOnFront (f front) x back)
    → ((rest : List ℕ) → g (rest ++ back) ≡ Ok y → g rest ≡ refuse Short [])
    → (f (front ++ back) >>= g) ≡ Ok y → (f front >>= g) ≡ refuse Short []
head_short f g front back y hf hg e =
    let a = bind_ok (f (front ++ back)) g y e in
    elim (hf a.0 a.1) [
      | inl short ↦ rw short refl
      | inr here ↦ rw here.2 (hg here.0 (ap g (sym here.1) ∙ a.2))
    ]

-- ---- the end

gapless_front : (placed : List Interval) (front back x : List ℕ) → gapless_at placed (front ++ back) ≡ Ok x → RestOnFront (gapless_at placed front) x back
unfolding gapless_at
gapless_front placed front back x e =
    let p = passed (has_gap placed) _ (Ok (front ++ back)) x e in
    inr (front, sym (ok_is {E = Refusal} (front ++ back) x p.1), rw p.0 refl)

end_leaves : (budget events b : ℕ) (rest : List ℕ) (x : _ × List ℕ) → end_at budget events (b ∷ rest) ≡ Ok x → x.1 ≡ rest
unfolding end_at
end_leaves budget events b rest x e =
    elim (chosen (eqb b 0xF0) _ _ (Ok x) e) [
      | inl h ↦ ap (λ y. y.1) (sym (ok_is {E = Refusal} _ x h.1))
      | inr h ↦
          elim (chosen (eqb b 0xF1) _ _ (Ok x) h.1) [
            | inl h1 ↦ ap (λ y. y.1) (sym (ok_is {E = Refusal} _ x h1.1))
            | inr h1 ↦
                elim (chosen (eqb b 0xF2) _ _ (Ok x) h1.1) [
                  | inl h2 ↦ ap (λ y. y.1) (sym (ok_is {E = Refusal} _ x h2.1))
                  | inr h2 ↦
                      elim (chosen (eqb b 0xF3 && eqb events budget) _ _ (Ok x) h2.1) [
                        | inl h3 ↦ ap (λ y. y.1) (sym (ok_is {E = Refusal} _ x h3.1))
                        | inr h3 ↦ absurd (let no = h3.1 in cc)
                      ]
                ]
          ]
    ]

nothing_empty : (x : PlainLog) (bytes : List ℕ) (y : PlainLog) → nothing_at x bytes ≡ Ok y → length bytes ≡ 0
unfolding nothing_at
nothing_empty x [] y e = refl
nothing_empty x (b ∷ bytes) y e = absurd cc

-- where the whole log is read, its end mark lies after any proper front
end_short : (budget : ℕ) (placed : List Interval) (front back : List ℕ) (l : PlainLog) → 0 < length back
    → (end_at budget (clock_count placed) (front ++ back) >>= λ end. nothing_at (let log : PlainLog = record { budget = budget; intervals = placed; end = end.0 } in log) end.1) ≡ Ok l
    → (end_at budget (clock_count placed) front >>= λ end. nothing_at (let log : PlainLog = record { budget = budget; intervals = placed; end = end.0 } in log) end.1) ≡ refuse Short []
unfolding end_at
end_short budget placed [] back l some e = refl
end_short budget placed (b ∷ front) back l some e =
    let a = bind_ok (end_at budget (clock_count placed) (b ∷ (front ++ back))) _ l e in
    let rest = end_leaves budget (clock_count placed) b (front ++ back) a.0 a.1 in
    let none = nothing_empty _ a.0.1 l a.2 in
    absurd (omega (arith, some, none, ap length rest, length-append front back))

tail_short : (budget : ℕ) (placed : List Interval) (front back : List ℕ) (l : PlainLog) → 0 < length back → tail_at budget placed (front ++ back) ≡ Ok l → tail_at budget placed front ≡ refuse Short []
unfolding tail_at
tail_short budget placed front back l some e = head_short (gapless_at placed) _ front back l (gapless_front placed front back) (λ rest h. end_short budget placed rest back l some h) e

log_short : (front back : List ℕ) (l : PlainLog) → 0 < length back → log_at (front ++ back) ≡ Ok l → log_at front ≡ refuse Short []
unfolding log_at
log_short front back l some e =
    head_short head_at _ front back l (head_front front back) (λ r0 h0.
    short_then (number_at 1 1048576) (λ budget rest. number_at 1 64 rest >>= λ count. threads_at count.0 budget 0 [] count.1 >>= λ placed. tail_at budget placed.0 placed.1) r0 back l (number_front 1 1048576 r0 back) (λ budget r1 h1.
    short_then (number_at 1 64) (λ count rest. threads_at count budget 0 [] rest >>= λ placed. tail_at budget placed.0 placed.1) r1 back l (number_front 1 64 r1 back) (λ count r2 h2.
    short_then (threads_at count budget 0 []) (λ placed rest. tail_at budget placed rest) r2 back l (threads_front count budget 0 [] r2 back) (λ placed r3 h3.
    tail_short budget placed r3 back l some h3) h2) h1) h0) e

pub read_front : (l : PlainLog) (size : ℕ) → IsLawful l → size < length (spelling l) → read_log (take size (spelling l)) ≡ Err (At Short size)
unfolding read_log
read_front l size law lt =
    let front = take size (spelling l) in
    let back = drop size (spelling l) in
    let some : 0 < length back = omega (arith, length-drop size (spelling l), lt) in
    let short : log_at front ≡ refuse Short [] = log_short front back l some (ap log_at (take-append-drop size (spelling l)) ∙ log_again l law) in
    let offset : length front - 0 ≡ size = omega (arith, length-take size (spelling l), lt) in
    ap (with_offset (length front)) short ∙ ap (λ (n : ℕ). Err (At Short n)) offset
