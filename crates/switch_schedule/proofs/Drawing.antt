-- Times that are drawn from a generator's words.
use Rattle.std.proofs.Common.{◌≡◌, ℕ, suc, ◌+◌, ◌-◌, ◌%◌, ◌<◌, List, [], ◌∷◌, ◌++◌, refl, sym, ap, ◌∙◌, arith, append_assoc}
use Rattle.std.proofs.lemmas.List.{append-nil}
use Rattle.rand_pcg.specs.Lcg.{Lcg}
use Rattle.rand_pcg.specs.Pcg.{pcg32}
use Rattle.switch_schedule.specs.Searches.{drawn, try_drawn, after_tries}

pub none_left : (modulus left : ℕ) (g : Lcg) (times : List ℕ) → left ≡ 0 → times ++ (drawn left modulus g).0 ≡ times
unfolding drawn
none_left modulus left g times e = ap (λ (n : ℕ). times ++ (drawn n modulus g).0) e ∙ append-nil times

pub words_left : (modulus left : ℕ) (g : Lcg) → left ≡ 0 → (drawn left modulus g).1 ≡ g
unfolding drawn
words_left modulus left g e = ap (λ (n : ℕ). (drawn n modulus g).1) e

pub time_more : (modulus left rest : ℕ) (g : Lcg) (times : List ℕ) → left ≡ suc rest → times ++ (drawn left modulus g).0 ≡ (times ++ ((pcg32 g).0 % modulus) ∷ []) ++ (drawn rest modulus (pcg32 g).1).0
unfolding drawn
time_more modulus left rest g times e =
    ap (λ (n : ℕ). times ++ (drawn n modulus g).0) e ∙ sym (append_assoc times (((pcg32 g).0 % modulus) ∷ []) (drawn rest modulus (pcg32 g).1).0)

pub word_more : (modulus left rest : ℕ) (g : Lcg) → left ≡ suc rest → (drawn left modulus g).1 ≡ (drawn rest modulus (pcg32 g).1).1
unfolding drawn
word_more modulus left rest g e = ap (λ (n : ℕ). (drawn n modulus g).1) e

pub try_is : (modulus : ℕ) (g : Lcg) → try_drawn modulus g ≡ drawn (1 + (pcg32 g).0 % 4) modulus (pcg32 g).1
unfolding try_drawn
try_is modulus g = refl

-- one word more
pub draws_more : (modulus count counter r : ℕ) (start g next : Lcg) (times more : List ℕ) → counter < count → (r, next) ≡ pcg32 g → more ≡ times ++ (r % modulus) ∷ [] → (drawn count modulus start).0 ≡ times ++ (drawn (count - counter) modulus g).0
    → (drawn count modulus start).0 ≡ more ++ (drawn (count - (counter + 1)) modulus next).0
draws_more modulus count counter r start g next times more lt word is so_far =
    let step : count - counter ≡ suc (count - (counter + 1)) = omega (arith, lt) in
    let value : r ≡ (pcg32 g).0 = ap (λ (w : ℕ × Lcg). w.0) word in
    let after : next ≡ (pcg32 g).1 = ap (λ (w : ℕ × Lcg). w.1) word in
    so_far ∙ time_more modulus (count - counter) (count - (counter + 1)) g times step
    ∙ ap (λ (n : ℕ). (times ++ (n % modulus) ∷ []) ++ (drawn (count - (counter + 1)) modulus (pcg32 g).1).0) (sym value)
    ∙ ap (λ (ts : List ℕ). ts ++ (drawn (count - (counter + 1)) modulus (pcg32 g).1).0) (sym is)
    ∙ ap (λ (h : Lcg). more ++ (drawn (count - (counter + 1)) modulus h).0) (sym after)

pub words_more : (modulus count counter r : ℕ) (start g next : Lcg) → counter < count → (r, next) ≡ pcg32 g → (drawn count modulus start).1 ≡ (drawn (count - counter) modulus g).1
    → (drawn count modulus start).1 ≡ (drawn (count - (counter + 1)) modulus next).1
words_more modulus count counter r start g next lt word so_far =
    let step : count - counter ≡ suc (count - (counter + 1)) = omega (arith, lt) in
    let after : next ≡ (pcg32 g).1 = ap (λ (w : ℕ × Lcg). w.1) word in
    so_far ∙ word_more modulus (count - counter) (count - (counter + 1)) g step ∙ ap (λ (h : Lcg). (drawn (count - (counter + 1)) modulus h).1) (sym after)

-- a try that was drawn whole
pub try_whole : (modulus r : ℕ) (g next : Lcg) → (r, next) ≡ pcg32 g → try_drawn modulus g ≡ drawn (1 + r % 4) modulus next
try_whole modulus r g next word =
    let value : r ≡ (pcg32 g).0 = ap (λ (w : ℕ × Lcg). w.0) word in
    let after : next ≡ (pcg32 g).1 = ap (λ (w : ℕ × Lcg). w.1) word in
    try_is modulus g ∙ ap (λ (n : ℕ). drawn (1 + n % 4) modulus (pcg32 g).1) (sym value) ∙ ap (drawn (1 + r % 4) modulus) (sym after)

-- ---- tries

pub tries_more : (modulus tries next : ℕ) (g : Lcg) → next ≡ suc tries → (try_drawn modulus (after_tries modulus g tries)).1 ≡ after_tries modulus g next
unfolding after_tries
tries_more modulus tries next g e = sym (ap (after_tries modulus g) e)

pub no_tries : (modulus : ℕ) (g : Lcg) → g ≡ after_tries modulus g 0
unfolding after_tries
no_tries modulus g = refl
