-- Four texts, one added after the other.
use Rattle.std.proofs.Common.{◌≡◌, ℕ, List, ◌++◌, Result, Ok, Err, ap, ◌∙◌, append_assoc}
use Rattle.std.specs.Prelude.{OnOk}

joined : (start a b c d one two three all : List ℕ) → one ≡ start ++ a → two ≡ one ++ b → three ≡ two ++ c → all ≡ three ++ d → all ≡ start ++ (a ++ b ++ c ++ d)
joined start a b c d one two three all e f g h =
    let second : two ≡ start ++ (a ++ b) = f ∙ ap (λ (xs : List ℕ). xs ++ b) e ∙ append_assoc start a b in
    let third : three ≡ start ++ (a ++ b ++ c) = g ∙ ap (λ (xs : List ℕ). xs ++ c) second ∙ append_assoc start (a ++ b) c in
    h ∙ ap (λ (xs : List ℕ). xs ++ d) third ∙ append_assoc start (a ++ b ++ c) d

pub joined_if_ok : {V E : Type 0} (r : Result V E) (start a b c d one two three all : List ℕ) → one ≡ start ++ a → two ≡ one ++ b → three ≡ two ++ c → OnOk r (all ≡ three ++ d) → OnOk r (all ≡ start ++ (a ++ b ++ c ++ d))
joined_if_ok (Ok v) start a b c d one two three all e f g h = joined start a b c d one two three all e f g h
joined_if_ok (Err v) start a b c d one two three all e f g h = tt
