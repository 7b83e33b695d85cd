-- A refusal stands within the bytes.
use Rattle.std.proofs.Common.{◌≡◌, ℕ, zero, suc, ◌+◌, ◌-◌, ◌*◌, ◌≤◌, Bool, true, false, cond, eqb, ltb, leb, ◌&&◌, ◌||◌, List, [], ◌∷◌, length, Result, Ok, Err, subst, arith}
use Rattle.std.specs.List.{list_any}
use Rattle.vm_model.specs.Failures.{◌>>=◌}
use Rattle.schedule_log.specs.declared.interval.Interval.{Interval}
use Rattle.schedule_log.specs.declared.fault.LogKind.{LogKind}
use Rattle.schedule_log.specs.declared.fault.LogKind.TheVariants.{Magic, Version, Short, LongSpelling, Overlap, Gap, NotMaximal, Limit, Trailing, BadEnd}
use Rattle.schedule_log.specs.declared.fault.Refusal.{Refusal}
use Rattle.schedule_log.specs.Logs.{PlainLog, put}
use Rattle.schedule_log.specs.Reading.{refuse, byte_at, head_at, groups_at, left_of, in_range, number_at, interval_at, intervals_at, thread_at, threads_at, has_gap, gapless_at, end_at, nothing_at, tail_at, log_at}
use Rattle.schedule_log.specs.Intervals.{shares, clock_count}

-- the error's place and the rest are within so many bytes
abbrev pub Within : {A : Type 0} → ℕ → Result (A × List ℕ) Refusal → Type 0
Within size (Ok x) = length x.1 ≤ size
Within size (Err e) = e.left ≤ size

abbrev pub FailsWithin : {A : Type 0} → ℕ → Result A Refusal → Type 0
FailsWithin size (Ok x) = Unit {0}
FailsWithin size (Err e) = e.left ≤ size

then_within : {A B : Type 0} (size : ℕ) (r : Result (A × List ℕ) Refusal) (f : A × List ℕ → Result (B × List ℕ) Refusal) → Within size r → ((x : A × List ℕ) → length x.1 ≤ size → Within size (f x)) → Within size (r >>= f)
then_within size (Ok x) f w h = h x w
then_within size (Err e) f w h = w

if_within : {A : Type 0} (size : ℕ) (b : Bool) (x y : Result (A × List ℕ) Refusal) → Within size x → Within size y → Within size (cond b x y)
if_within size true x y p q = p
if_within size false x y p q = q

longer : {A : Type 0} (low size : ℕ) (r : Result (A × List ℕ) Refusal) → low ≤ size → Within low r → Within size r
longer low size (Ok x) le w = omega arith
longer low size (Err e) le w = omega arith

-- ---- numbers

abbrev GroupsWithin : ℕ → Result (ℕ × List ℕ) LogKind → Type 0
GroupsWithin size (Ok g) = length g.1 ≤ size
GroupsWithin size (Err e) = Unit {0}

groups_last : (size : ℕ) (t : Bool) (g : ℕ × List ℕ) → length g.1 ≤ size → GroupsWithin (suc size) (cond t (Err LongSpelling) (Ok g))
groups_last size true g w = tt
groups_last size false g w = omega arith

groups_step : (size b : ℕ) (r : Result (ℕ × List ℕ) LogKind) → GroupsWithin size r → GroupsWithin (suc size) (r >>= λ g. cond (eqb g.0 0) (Err LongSpelling) (Ok (b - 128 + 128 * g.0, g.1)))
groups_step size b (Ok g) w = groups_last size (eqb g.0 0) (b - 128 + 128 * g.0, g.1) w
groups_step size b (Err e) w = tt

groups_if : (size : ℕ) (t : Bool) (x y : Result (ℕ × List ℕ) LogKind) → GroupsWithin size x → GroupsWithin size y → GroupsWithin size (cond t x y)
groups_if size true x y p q = p
groups_if size false x y p q = q

groups_within : (more : ℕ) (bytes : List ℕ) → GroupsWithin (length bytes) (groups_at more bytes)
unfolding groups_at
groups_within more [] = tt
groups_within more (b ∷ bytes) =
    groups_if (length (b ∷ bytes)) (ltb b 128) (Ok (b, bytes)) _ (omega arith)
    (groups_if (length (b ∷ bytes)) (eqb more 0) (Err Limit) _ tt (groups_step (length bytes) b (groups_at (more - 1) bytes) (groups_within (more - 1) bytes)))

left_within : (kind : LogKind) (bytes : List ℕ) → left_of kind bytes ≤ length bytes
left_within Short bytes = omega arith
left_within Magic bytes = omega arith
left_within Version bytes = omega arith
left_within LongSpelling bytes = omega arith
left_within Overlap bytes = omega arith
left_within Gap bytes = omega arith
left_within NotMaximal bytes = omega arith
left_within Limit bytes = omega arith
left_within Trailing bytes = omega arith
left_within BadEnd bytes = omega arith

range_within : (low high : ℕ) (bytes : List ℕ) (r : Result (ℕ × List ℕ) LogKind) → GroupsWithin (length bytes) r → Within (length bytes) (in_range low high bytes r)
range_within low high bytes (Ok g) w = if_within (length bytes) (ltb g.0 low || ltb high g.0) (refuse Limit bytes) (Ok g) (omega arith) w
range_within low high bytes (Err e) w = left_within e bytes

number_within : (low high : ℕ) (bytes : List ℕ) → Within (length bytes) (number_at low high bytes)
unfolding number_at
number_within low high bytes = range_within low high bytes (groups_at 4 bytes) (groups_within 4 bytes)

-- ---- intervals

interval_within : (budget t next : ℕ) (placed : List Interval) (bytes : List ℕ) → Within (length bytes) (interval_at budget t next placed bytes)
unfolding interval_at
interval_within budget t next placed bytes =
    then_within (length bytes) (number_at 0 1048576 bytes) _ (number_within 0 1048576 bytes) (λ gap le.
    if_within (length bytes) (ltb 0 next && eqb gap.0 0) (refuse NotMaximal bytes) _ (omega arith)
    (then_within (length bytes) (number_at 0 1048576 gap.1) _ (longer (length gap.1) (length bytes) (number_at 0 1048576 gap.1) le (number_within 0 1048576 gap.1)) (λ more le2.
    if_within (length bytes) (leb budget (next + gap.0 + more.0)) (refuse Limit gap.1) _ le
    (if_within (length bytes) (list_any (shares (next + gap.0) (next + gap.0 + more.0)) placed) (refuse Overlap bytes) _ (omega arith) le2))))

intervals_within : (count budget t next : ℕ) (placed : List Interval) (bytes : List ℕ) → Within (length bytes) (intervals_at count budget t next placed bytes)
unfolding intervals_at
intervals_within zero budget t next placed bytes = omega arith
intervals_within (suc count) budget t next placed bytes =
    then_within (length bytes) (interval_at budget t next placed bytes) _ (interval_within budget t next placed bytes) (λ i le.
    longer (length i.1) (length bytes) (intervals_at count budget t (i.0.last + 1) (put i.0 placed) i.1) le (intervals_within count budget t (i.0.last + 1) (put i.0 placed) i.1))

thread_within : (budget t least : ℕ) (placed : List Interval) (bytes : List ℕ) → Within (length bytes) (thread_at budget t least placed bytes)
unfolding thread_at
thread_within budget t least placed bytes =
    then_within (length bytes) (number_at least 1048576 bytes) _ (number_within least 1048576 bytes) (λ c le.
    longer (length c.1) (length bytes) (intervals_at c.0 budget t 0 placed c.1) le (intervals_within c.0 budget t 0 placed c.1))

threads_within : (more budget t : ℕ) (placed : List Interval) (bytes : List ℕ) → Within (length bytes) (threads_at more budget t placed bytes)
unfolding threads_at
threads_within zero budget t placed bytes = omega arith
threads_within (suc more) budget t placed bytes =
    then_within (length bytes) (thread_at budget t (cond (eqb more 0) 1 0) placed bytes) _ (thread_within budget t (cond (eqb more 0) 1 0) placed bytes) (λ p le.
    longer (length p.1) (length bytes) (threads_at more budget (t + 1) p.0 p.1) le (threads_within more budget (t + 1) p.0 p.1))

-- ---- the head, the end and the whole

abbrev RestWithin : ℕ → Result (List ℕ) Refusal → Type 0
RestWithin size (Ok rest) = length rest ≤ size
RestWithin size (Err e) = e.left ≤ size

rest_if : (size : ℕ) (t : Bool) (x y : Result (List ℕ) Refusal) → RestWithin size x → RestWithin size y → RestWithin size (cond t x y)
rest_if size true x y p q = p
rest_if size false x y p q = q

rest_longer : (low size : ℕ) (r : Result (List ℕ) Refusal) → low ≤ size → RestWithin low r → RestWithin size r
rest_longer low size (Ok x) le w = omega arith
rest_longer low size (Err e) le w = omega arith

rest_then : (size : ℕ) (r : Result (List ℕ) Refusal) (f : List ℕ → Result (List ℕ) Refusal) → RestWithin size r → ((x : List ℕ) → length x ≤ size → RestWithin size (f x)) → RestWithin size (r >>= f)
rest_then size (Ok x) f w h = h x w
rest_then size (Err e) f w h = w

byte_within : (kind : LogKind) (wanted : ℕ) (bytes : List ℕ) → RestWithin (length bytes) (byte_at kind wanted bytes)
byte_within kind wanted [] = omega arith
byte_within kind wanted (b ∷ bytes) = rest_if (length (b ∷ bytes)) (eqb b wanted) (Ok bytes) (refuse kind (b ∷ bytes)) (omega arith) (omega arith)

byte_below : (size : ℕ) (kind : LogKind) (wanted : ℕ) (bytes : List ℕ) → length bytes ≤ size → RestWithin size (byte_at kind wanted bytes)
byte_below size kind wanted bytes le = rest_longer (length bytes) size (byte_at kind wanted bytes) le (byte_within kind wanted bytes)

head_within : (bytes : List ℕ) → RestWithin (length bytes) (head_at bytes)
unfolding head_at
head_within bytes =
    let n = length bytes in
    rest_then n (byte_at Magic 0x44 bytes) _ (byte_within Magic 0x44 bytes) (λ a la.
    rest_then n (byte_at Magic 0x4A a) _ (byte_below n Magic 0x4A a la) (λ b lb.
    rest_then n (byte_at Magic 0x56 b) _ (byte_below n Magic 0x56 b lb) (λ c lc.
    rest_then n (byte_at Magic 0x4C c) _ (byte_below n Magic 0x4C c lc) (λ d ld.
    byte_below n Version 1 d ld))))

end_within : (budget events : ℕ) (bytes : List ℕ) → Within (length bytes) (end_at budget events bytes)
unfolding end_at
end_within budget events [] = omega arith
end_within budget events (b ∷ bytes) =
    let n = length (b ∷ bytes) in
    let le : length bytes ≤ n = omega arith in
    if_within n (eqb b 0xF0) _ _ le (if_within n (eqb b 0xF1) _ _ le (if_within n (eqb b 0xF2) _ _ le (if_within n (eqb b 0xF3 && eqb events budget) _ _ le (omega arith))))

fails_if : {A : Type 0} (size : ℕ) (t : Bool) (x y : Result A Refusal) → FailsWithin size x → FailsWithin size y → FailsWithin size (cond t x y)
fails_if size true x y p q = p
fails_if size false x y p q = q

fails_then : {A B : Type 0} (size : ℕ) (r : Result (A × List ℕ) Refusal) (f : A × List ℕ → Result B Refusal) → Within size r → ((x : A × List ℕ) → length x.1 ≤ size → FailsWithin size (f x)) → FailsWithin size (r >>= f)
fails_then size (Ok x) f w h = h x w
fails_then size (Err e) f w h = w

head_then : {B : Type 0} (size : ℕ) (r : Result (List ℕ) Refusal) (f : List ℕ → Result B Refusal) → RestWithin size r → ((x : List ℕ) → length x ≤ size → FailsWithin size (f x)) → FailsWithin size (r >>= f)
head_then size (Ok x) f w h = h x w
head_then size (Err e) f w h = w

gapless_within : (placed : List Interval) (bytes : List ℕ) → RestWithin (length bytes) (gapless_at placed bytes)
unfolding gapless_at
gapless_within placed bytes = rest_if (length bytes) (has_gap placed) (refuse Gap bytes) (Ok bytes) (omega arith) (omega arith)

nothing_within : (size : ℕ) (l : PlainLog) (bytes : List ℕ) → length bytes ≤ size → FailsWithin size (nothing_at l bytes)
unfolding nothing_at
nothing_within size l [] le = tt
nothing_within size l (b ∷ bytes) le = le

tail_within : (size budget : ℕ) (placed : List Interval) (bytes : List ℕ) → length bytes ≤ size → FailsWithin size (tail_at budget placed bytes)
unfolding tail_at
tail_within size budget placed bytes le =
    head_then size (gapless_at placed bytes) _ (rest_longer (length bytes) size (gapless_at placed bytes) le (gapless_within placed bytes)) (λ rest le1.
    fails_then size (end_at budget (clock_count placed) rest) _ (longer (length rest) size (end_at budget (clock_count placed) rest) le1 (end_within budget (clock_count placed) rest)) (λ end le2.
    nothing_within size _ end.1 le2))

pub log_within : (bytes : List ℕ) → FailsWithin (length bytes) (log_at bytes)
unfolding log_at
log_within bytes =
    let n = length bytes in
    head_then n (head_at bytes) _ (head_within bytes) (λ rest l0.
    fails_then n (number_at 1 1048576 rest) _ (longer (length rest) n (number_at 1 1048576 rest) l0 (number_within 1 1048576 rest)) (λ budget l1.
    fails_then n (number_at 1 64 budget.1) _ (longer (length budget.1) n (number_at 1 64 budget.1) l1 (number_within 1 64 budget.1)) (λ count l2.
    fails_then n (threads_at count.0 budget.0 0 [] count.1) _ (longer (length count.1) n (threads_at count.0 budget.0 0 [] count.1) l2 (threads_within count.0 budget.0 0 [] count.1)) (λ placed l3.
    tail_within n budget.0 placed.0 placed.1 l3))))

pub refusal_within : (bytes : List ℕ) (e : Refusal) → log_at bytes ≡ Err e → e.left ≤ length bytes
refusal_within bytes e is = subst (λ (r : Result PlainLog Refusal). FailsWithin (length bytes) r) is (log_within bytes)
